use Rattle.std.proofs.Common.{◌≡◌, ◌+◌, ◌<◌, ◌≤◌, length, refl, arith}
use Rattle.pm_goal.specs.declared.goal.Fact.{Fact}
use Rattle.pm_star.proofs.Pushes.{looked_up}
use Rattle.pm_closing.proofs.Searches.{begins, ends}
use Rattle.pm_closing.proofs.Opposed.{is_denied, denial_found, denial_missed}
use Rattle.pm_closing.proofs.opposites.opposites.Goals as goal

pub loop-next-init : goal.loop-next-init
loop-next-init c = begins (is_denied c.args.facts.now) c.args.facts.now

pub returns-in-Some-found : goal.returns-in-Some-found
returns-in-Some-found c = denial_found c.args.facts.now c.loop-next.next c.in-Some-found.j c.in-Some.fact.now c.in_ok-found.found c.in-Some.ensures c.in-Some-found.is c.in_ok-found.ensures

pub loop-next-preserved-in_default-found : goal.loop-next-preserved-in_default-found
loop-next-preserved-in_default-found c =
    denial_missed c.args.facts.now c.loop-next.next (c.loop-next.next + 1) c.in-Some.fact.now c.in_ok-found.found refl c.in-Some.ensures c.in_default-found.is c.in_ok-found.ensures c.loop-next.invariant

pub loop-next-preserved : goal.loop-next-preserved
loop-next-preserved c =
    let within : c.loop-next.next < length c.args.facts.now = omega (arith, c.loop-next-test.true, c.len-len.ensures) in
    absurd (looked_up (λ (f : Fact). f.pure) c.args.facts.now c.loop-next.next within c.in_default.ensures)

pub returns : goal.returns
returns c =
    let all : length c.args.facts.now ≤ c.loop-next.next = omega (arith, c.loop-next-test.false, c.len-len.ensures) in
    ends (is_denied c.args.facts.now) c.args.facts.now c.loop-next.next all c.loop-next.invariant
