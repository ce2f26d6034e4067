use Rattle.std.proofs.Common.{◌<◌, ◌+◌, length, [], ◌∷◌, refl, arith}
use Rattle.pm_goal.specs.declared.goal.Fact.{Fact}
use Rattle.pm_star.proofs.Pushes.{looked_up}
use Rattle.pm_table.specs.Works as works
use Rattle.pm_action.proofs.Filtered.{fact_at}
use Rattle.pm_basic.specs.Renamings.{renamed_fact}
use Rattle.pm_basic.proofs.Building.{built_more}
use Rattle.pm_basic.proofs.Renamed.{fact_fresh, facts_done}
use Rattle.pm_basic.proofs.renaming.renamed_facts.Goals as goal

pub push_fact-requires : goal.push_fact-requires
push_fact-requires c =
    fact_fresh c.args.old.now c.args.new.now c.args.facts.now c.loop-next.next (works.fact c.in-Some.name.now c.in-Some-pure.pure.now) c.loop-next.out
    (fact_at c.args.facts.now c.loop-next.next c.in-Some.name.now c.in-Some-pure.pure.now c.in-Some.ensures c.in-Some-pure.ensures) c.requires.apart c.requires.free c.loop-next.invariant

pub loop-next-preserved-in-Continue-1 : goal.loop-next-preserved-in-Continue-1
loop-next-preserved-in-Continue-1 c =
    built_more (λ (x : Fact). renamed_fact c.args.old.now c.args.new.now x ∷ []) c.args.facts.now c.loop-next.next (c.loop-next.next + 1) (works.fact c.in-Some.name.now c.in-Some-pure.pure.now) c.loop-next.out c.push_fact.new.out refl
    (fact_at c.args.facts.now c.loop-next.next c.in-Some.name.now c.in-Some-pure.pure.now c.in-Some.ensures c.in-Some-pure.ensures) c.loop-next.invariant c.in_ok-push_fact.ensures

pub loop-next-preserved : goal.loop-next-preserved
loop-next-preserved c =
    let within : c.loop-next.next < length c.args.facts.now = omega (arith, c.loop-next-test.true, c.len-len.ensures) in
    absurd (looked_up (λ (x : Fact). x.name) c.args.facts.now c.loop-next.next within c.in_default.ensures)

pub returns : goal.returns
returns c = facts_done c.args.old.now c.args.new.now c.args.facts.now c.loop-next.next c.loop-next.out (omega (arith, c.loop-next-test.false, c.len-len.ensures)) c.loop-next.invariant
