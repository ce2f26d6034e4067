use Rattle.std.proofs.Common.{sym, ◌∙◌}
use Rattle.pm_goal.specs.declared.refusal.Row.TheVariants.{NameInUse}
use Rattle.pm_table.specs.Introductions as table
use Rattle.pm_table.specs.Limits.{all_nodes, work_formulas}
use Rattle.pm_intro.proofs.Answered.{refuses}
use Rattle.pm_intro.proofs.Shifting.{work_liftable}
use Rattle.pm_intro.proofs.Generals.{findable, row_used, all_answer}
use Rattle.pm_intro.proofs.universal.by_all.Goals as goal

pub is_free-requires : goal.is_free-requires
is_free-requires c = findable c.args.work.now c.requires.handed

pub lift-requires : goal.lift-requires
lift-requires c = work_liftable c.args.work.now c.requires.handed

pub returns-then-not-is_free : goal.returns-then-not-is_free
returns-then-not-is_free c = refuses (all_nodes (work_formulas c.args.work.now)) c.args.work.now (table.intro_all c.args.name.now c.args.work.now) NameInUse c.args.name.now c.refuse.result (row_used c.args.name.now c.args.work.now c.args.b.now c.requires.concl (sym c.is_free.ensures ∙ c.if-not-is_free.true)) c.refuse.ensures

pub returns : goal.returns
returns c = all_answer c.args.name.now c.args.work.now c.args.b.now c.in_ok-body.body c.in_ok-new.new c.in_ok-proof.proof c.finish_one.result c.requires.concl (sym c.is_free.ensures ∙ c.if-not-is_free.false) c.requires.nothing c.in_ok-body.ensures c.in_ok-new.ensures c.in_ok-proof.ensures c.finish_one.ensures
