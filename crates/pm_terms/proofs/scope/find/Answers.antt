use Rattle.std.proofs.Common.{◌≡◌, ◌-◌, length, sym, ◌∙◌, arith}
use Rattle.std.specs.Str.{bytes_eq}
use Rattle.pm_terms.specs.Scope.{names_in}
use Rattle.pm_terms.proofs.Bound.{find_hit, find_miss}
use Rattle.pm_terms.proofs.scope.find.Goals as goal

pub returns-then-eq-clause-place : goal.returns-then-eq-clause-place
returns-then-eq-clause-place c = find_hit (bytes_eq c.args.name.now) c.args.bound.now c.loop-depth.depth _ c.args.vars.now _ c.loop-depth-test.true c.loop-depth.invariant.below (sym c.eq.ensures ∙ c.if-eq.true) c.loop-depth.invariant.same

pub loop-depth-preserved : goal.loop-depth-preserved
loop-depth-preserved c = record {
  below = omega arith;
  same = find_miss (bytes_eq c.args.name.now) c.args.bound.now c.loop-depth.depth _ c.args.vars.now _ c.loop-depth-test.true c.loop-depth.invariant.below (sym c.eq.ensures ∙ c.if-eq.false) c.loop-depth.invariant.same;
}

pub returns-clause-place : goal.returns-clause-place
unfolding names_in
returns-clause-place c =
    let none : c.loop-depth.depth ≡ 0 = omega arith in
    let all : length c.args.bound.now - c.loop-depth.depth ≡ length c.args.bound.now = omega arith in
    let same = c.loop-depth.invariant.same in
    c.place.ensures.place ∙ rw (all, none) at same
