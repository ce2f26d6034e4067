use Rattle.std.proofs.Common.{◌<◌, ◌+◌, length, refl, arith}
use Rattle.pm_logic.specs.declared.formula.Formula.TheVariants.{Pure as Assert}
use Rattle.pm_goal.specs.declared.goal.Fact.{Fact}
use Rattle.pm_star.proofs.Pushes.{looked_up}
use Rattle.pm_table.specs.Works as works
use Rattle.pm_action.proofs.Filtered.{fact_at}
use Rattle.pm_basic.specs.Replacements.{IsFillable}
use Rattle.pm_basic.proofs.Changed.{at_item, fact_fresh, fact_more, facts_done}
use Rattle.pm_basic.proofs.changing.each_fact.Goals as goal

pub fact_of-requires : goal.fact_of-requires
fact_of-requires c =
    at_item (λ (f : Fact). IsFillable c.args.sigma.now (Assert f.pure)) c.args.facts.now c.loop-next.next (works.fact c.in-Some.name.now c.in-Some-pure.pure.now) c.requires.fillable
    (fact_at c.args.facts.now c.loop-next.next c.in-Some.name.now c.in-Some-pure.pure.now c.in-Some.ensures c.in-Some-pure.ensures)

pub push-requires : goal.push-requires
push-requires c =
    fact_fresh c.args.sigma.now c.args.facts.now c.loop-next.next (works.fact c.in-Some.name.now c.in-Some-pure.pure.now) c.in_ok-fact_of.field-0 c.loop-next.out
    (fact_at c.args.facts.now c.loop-next.next c.in-Some.name.now c.in-Some-pure.pure.now c.in-Some.ensures c.in-Some-pure.ensures) c.in_ok-fact_of.ensures c.requires.apart c.loop-next.invariant

pub loop-next-preserved-in_ok-push : goal.loop-next-preserved-in_ok-push
loop-next-preserved-in_ok-push c =
    fact_more c.args.sigma.now c.args.facts.now c.loop-next.next (c.loop-next.next + 1) (works.fact c.in-Some.name.now c.in-Some-pure.pure.now) c.in_ok-fact_of.field-0 c.loop-next.out c.push.new.self refl
    (fact_at c.args.facts.now c.loop-next.next c.in-Some.name.now c.in-Some-pure.pure.now c.in-Some.ensures c.in-Some-pure.ensures) c.in_ok-fact_of.ensures c.loop-next.invariant c.in_ok-push.ensures.ok

pub loop-next-preserved : goal.loop-next-preserved
loop-next-preserved c =
    let within : c.loop-next.next < length c.args.facts.now = omega (arith, c.loop-next-test.true, c.len-len.ensures) in
    absurd (looked_up (λ (f : Fact). f.name) c.args.facts.now c.loop-next.next within c.in_default.ensures)

pub returns : goal.returns
returns c = facts_done c.args.sigma.now c.args.facts.now c.loop-next.next c.loop-next.out (omega (arith, c.loop-next-test.false, c.len-len.ensures)) c.loop-next.invariant
