-- What a certificate of the box shows.
use Rattle.std.specs.Prelude.{◌≡◌, ℕ, ◌≤◌, ℤ, true, List}
use Rattle.pm_logic.specs.declared.formula.Pure.{Pure}
use Rattle.pm_logic.specs.declared.formula.Formula.TheVariants.{Pure as Assert}
use Rattle.pm_rules.specs.Equations.{all_of}
use Rattle.pm_rules.specs.Linear.{HasFactors}
use Rattle.pm_goal.specs.declared.goal.Fact.{Fact}
use Rattle.pm_table.specs.Linears.{is_atom, are_small, atoms, in_box}

-- factors by which the rule of linear arithmetic takes the conjunction of the facts to g
pub record HasRule (fs : List Pure) (g : Pure) (vars : ℕ) : Type 0 where
  pub first : List ℤ
  pub second : List ℤ
  pub factors : HasFactors first second vars (Assert (all_of fs)) (Assert g)

-- Where the box has a certificate, the rule of linear arithmetic takes the atoms that are looked at to the conclusion.
abbrev pub BoxIsRule : Type 0
BoxIsRule = (facts : List Fact) (g : Pure) (vars : ℕ) → vars ≤ 65 → is_atom g ≡ true → are_small g ≡ true → in_box (atoms facts) g ≡ true → HasRule (atoms facts) g vars
