use Rattle.std.proofs.Common.{◌+◌, ◌≤◌, rules, sym, subst}
use Rattle.pm_logic.specs.declared.formula.Formula.{Formula, the_lemmas}
use Rattle.pm_logic.specs.declared.formula.TheConstants.{BOUND}
use Rattle.pm_logic.specs.Size.{depth_of}
use Rattle.pm_logic.proofs.Sizes.{left_within, right_within}
use Rattle.pm_logic.proofs.scoping.+scoped_in.Goals as goal

pub scoped_in-requires-in-Sep : goal.scoped_in-requires-in-Sep
scoped_in-requires-in-Sep t c =
    let P : Formula → Type 0 = λ x. c.args.k + depth_of x ≤ BOUND in
    (search (rules, the_lemmas), subst P (sym c.get-in-Sep.ensures) (left_within c.args.k BOUND c.args.f.now c.in-Sep.a c.in-Sep.b c.in-Sep.is c.requires))

pub scoped_in-requires-then-scoped_in : goal.scoped_in-requires-then-scoped_in
scoped_in-requires-then-scoped_in t c =
    let P : Formula → Type 0 = λ x. c.args.k + depth_of x ≤ BOUND in
    (search (rules, the_lemmas), subst P (sym c.get-then-scoped_in.ensures) (right_within c.args.k BOUND c.args.f.now c.in-Sep.a c.in-Sep.b c.in-Sep.is c.requires))
