use Rattle.std.proofs.Common.{◌≡◌, length, arith}
use Rattle.pm_classes.proofs.Calls.{both_ways}
use Rattle.pm_table.specs.Introductions as table
use Rattle.pm_table.specs.Outcomes.{one}
use Rattle.pm_table.specs.Limits.{all_nodes, work_formulas}
use Rattle.pm_goal.specs.declared.refusal.Row.TheVariants.{ImplicationOverSpatial}
use Rattle.pm_intro.specs.Arrows.{introduced}
use Rattle.pm_intro.proofs.Answered.{follows, refuses_plain}
use Rattle.pm_intro.proofs.LeftSides.{imp_row_persistent, imp_row_alone, imp_row_blocked, none}
use Rattle.pm_intro.proofs.arrows.by_imp.Goals as goal

pub returns-then-persistent : goal.returns-then-persistent
returns-then-persistent c = follows (all_nodes (work_formulas c.args.work.now)) c.args.work.now (one (introduced c.args.work.now c.args.a.now c.args.b.now)) (table.intro_hyp c.args.work.now) c.beside_star.result (imp_row_persistent c.args.work.now c.args.a.now c.args.b.now c.requires.concl (c.persistent.ensures.0 c.if-persistent.true)) c.beside_star.ensures

pub returns-then-len-gt0 : goal.returns-then-len-gt0
returns-then-len-gt0 c =
    refuses_plain (all_nodes (work_formulas c.args.work.now)) c.args.work.now (table.intro_hyp c.args.work.now) ImplicationOverSpatial c.refuse_plain.result
    (imp_row_blocked c.args.work.now c.args.a.now c.args.b.now c.requires.concl (λ h. both_ways c.persistent.result (c.persistent.ensures.1 h) c.if-persistent.false) (λ e. omega (arith, e, c.if-len-gt0.true, c.len.ensures))) c.refuse_plain.ensures

pub split_by_star-requires-clause-alone : goal.split_by_star-requires-clause-alone
split_by_star-requires-clause-alone c =
    let e : length c.args.work.now.goal.spats ≡ 0 = omega (arith, c.if-len-gt0.false, c.len.ensures) in
    none c.args.work.now.goal.spats e

pub returns : goal.returns
returns c =
    let e : length c.args.work.now.goal.spats ≡ 0 = omega (arith, c.if-len-gt0.false, c.len.ensures) in
    follows (all_nodes (work_formulas c.args.work.now)) c.args.work.now (one (introduced c.args.work.now c.args.a.now c.args.b.now)) (table.intro_hyp c.args.work.now) c.beside_star-2.result (imp_row_alone c.args.work.now c.args.a.now c.args.b.now c.requires.concl (none c.args.work.now.goal.spats e)) c.beside_star-2.ensures
