use Rattle.std.proofs.Common.{◌<◌, ◌+◌, length, refl, arith}
use Rattle.pm_goal.specs.declared.goal.Fact.{Fact}
use Rattle.pm_star.proofs.Pushes.{looked_up}
use Rattle.pm_table.specs.Works as works
use Rattle.pm_action.proofs.Filtered.{filtered_more, not_before, fact_at}
use Rattle.pm_action.proofs.contexts.facts_but.Goals as goal

pub keep_fact-requires : goal.keep_fact-requires
keep_fact-requires c =
    not_before (λ (f : Fact). f.name) c.args.name.now c.args.facts.now c.loop-next.next (works.fact c.in-Some.other.now c.in-Some-pure.pure.now) c.loop-next.out
    (fact_at c.args.facts.now c.loop-next.next c.in-Some.other.now c.in-Some-pure.pure.now c.in-Some.ensures c.in-Some-pure.ensures) c.requires c.loop-next.invariant

pub loop-next-preserved-in-Continue-1 : goal.loop-next-preserved-in-Continue-1
loop-next-preserved-in-Continue-1 c =
    filtered_more (λ (f : Fact). f.name) c.args.name.now c.args.facts.now c.loop-next.next (c.loop-next.next + 1) (works.fact c.in-Some.other.now c.in-Some-pure.pure.now) c.loop-next.out c.keep_fact.new.out refl
    (fact_at c.args.facts.now c.loop-next.next c.in-Some.other.now c.in-Some-pure.pure.now c.in-Some.ensures c.in-Some-pure.ensures) c.loop-next.invariant c.in_ok-keep_fact.ensures

pub loop-next-preserved : goal.loop-next-preserved
loop-next-preserved c =
    let within : c.loop-next.next < length c.args.facts.now = omega (arith, c.loop-next-test.true, c.len-len.ensures) in
    absurd (looked_up (λ (f : Fact). f.name) c.args.facts.now c.loop-next.next within c.in_default.ensures)
