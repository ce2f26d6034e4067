use Rattle.std.proofs.Common.{◌+◌, ◌<◌, ◌≤◌, length, refl, arith}
use Rattle.pm_goal.specs.declared.goal.Fact.{Fact}
use Rattle.pm_table.specs.Equality.{pure_eq}
use Rattle.pm_table.proofs.Equals.{pure_eq_decides}
use Rattle.pm_closing.proofs.Searches.{begins, goes_past, found, never, ends}
use Rattle.pm_closing.proofs.searching.fact_at.Goals as goal

pub loop-next-init : goal.loop-next-init
loop-next-init c = begins (λ (f : Fact). pure_eq c.args.wanted.now f.pure) c.args.facts.now

pub returns-then-same_pure : goal.returns-then-same_pure
returns-then-same_pure c = found (λ (f : Fact). f.pure) pure_eq pure_eq_decides c.args.wanted.now c.args.facts.now c.loop-next.next c.in-Some.pure.now c.same_pure.result c.in-Some.ensures c.same_pure.ensures c.if-same_pure.true

pub loop-next-preserved-else-same_pure : goal.loop-next-preserved-else-same_pure
loop-next-preserved-else-same_pure c = goes_past (λ (f : Fact). f.pure) pure_eq pure_eq_decides c.args.wanted.now c.args.facts.now c.loop-next.next (c.loop-next.next + 1) c.in-Some.pure.now c.same_pure.result refl c.in-Some.ensures c.same_pure.ensures c.if-same_pure.false c.loop-next.invariant

pub loop-next-preserved : goal.loop-next-preserved
loop-next-preserved c =
    let within : c.loop-next.next < length c.args.facts.now = omega (arith, c.loop-next-test.true, c.len-len.ensures) in
    absurd (never (λ (f : Fact). f.pure) pure_eq pure_eq_decides c.args.wanted.now c.args.facts.now c.loop-next.next within c.in_default.ensures)

pub returns : goal.returns
returns c =
    let all : length c.args.facts.now ≤ c.loop-next.next = omega (arith, c.loop-next-test.false, c.len-len.ensures) in
    ends (λ (f : Fact). pure_eq c.args.wanted.now f.pure) c.args.facts.now c.loop-next.next all c.loop-next.invariant
