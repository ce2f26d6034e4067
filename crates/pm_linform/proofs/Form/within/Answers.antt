use Rattle.std.proofs.Common.{pos, ◌≤ℤ◌, arith, rules, FitsSigned, to_z, of_z}
use mir.Syntax.{w128}
use Rattle.std.proofs.lemmas.Int.{ints, to_z-of_z}
use Rattle.pm_linform.proofs.Entries.{within_is}
use Rattle.pm_linform.proofs.Form.within.Goals as goal

pub returns-then-is_at_most : goal.returns-then-is_at_most
returns-then-is_at_most c =
    let b = c.args.bound in
    let k = c.args.self.now.constant in
    let f : FitsSigned w128 k = search rules in
    let le : pos 0 ≤ℤ b = grind (arith, ints) in
    within_is (to_z w128 (of_z w128 b)) b (to_z w128 (of_z w128 k)) c.args.self.now c.are_at_most.result (to_z-of_z w128 b c.ranges.bound) (to_z-of_z w128 k f) le (c.is_at_most.ensures.0 (search rules)) c.are_at_most.ensures
