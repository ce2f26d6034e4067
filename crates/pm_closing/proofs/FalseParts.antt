-- What searches for falsehood tell.
use Rattle.std.proofs.Common.{◌≡◌, ℕ, ◌||◌, Bool, false, ap, ap₂, sym, ◌∙◌, List, Option, Some}
use Rattle.std.specs.List.{list_any}
use Rattle.pm_logic.specs.declared.formula.Pure.TheVariants.{False}
use Rattle.pm_logic.specs.declared.formula.Formula.TheVariants.{Pure as Assert}
use Rattle.pm_logic.specs.declared.formula.Formula.TheViews as view
use Rattle.pm_goal.specs.declared.goal.Hyp.{Hyp}
use Rattle.pm_goal.specs.declared.goal.Fact.{Fact}
use Rattle.pm_goal.specs.declared.goal.Goal.{Goal}
use Rattle.pm_table.specs.Equality.{pure_eq, formula_eq}
use Rattle.pm_table.specs.Destructs.{is_falsehood}
use Rattle.pm_table.specs.Basic.{is_false, has_falsehood}
use Rattle.pm_closing.specs.Ways.{Tells, IsPart, IsFound}
use Rattle.pm_closing.specs.declared.way.Found.{Found}
use Rattle.pm_closing.proofs.Tests.{by_rest, retest, either_assoc}
use Rattle.pm_closing.proofs.FalseTests.{false_facts, false_hyps}

-- as the searches test, and as the table does
abbrev among : List Hyp → Bool
among hs = list_any (λ (h : Hyp). formula_eq (Assert False) h.formula) hs

abbrev falsehoods : List Hyp → Bool
falsehoods hs = list_any (λ (h : Hyp). is_falsehood h.formula) hs

module _ (goal : Goal) where
  pub false_int : (place : ℕ) → Tells (among goal.ints) (IsPart goal (view.Pers (Assert False))) (Some place) → Tells (falsehoods goal.ints || falsehoods goal.spats) (IsPart goal (view.Pers (Assert False))) (Some place)
  false_int place t = (ap (λ b. b || falsehoods goal.spats) (sym (false_hyps goal.ints) ∙ t.0), t.1)

  pub false_spat : (place : ℕ) → among goal.ints ≡ false → Tells (among goal.spats) (IsPart goal (Assert False)) (Some place) → Tells (falsehoods goal.ints || falsehoods goal.spats) (IsPart goal (Assert False)) (Some place)
  false_spat place fails t = (ap₂ (λ a b. a || b) (sym (false_hyps goal.ints) ∙ fails) (sym (false_hyps goal.spats) ∙ t.0), t.1)

  pub false_none : among goal.ints ≡ false → among goal.spats ≡ false → falsehoods goal.ints || falsehoods goal.spats ≡ false
  false_none fails neither = ap₂ (λ a b. a || b) (sym (false_hyps goal.ints) ∙ fails) (sym (false_hyps goal.spats) ∙ neither)

  pub false_fact : (place : ℕ) → Tells (list_any (λ (f : Fact). pure_eq False f.pure) goal.pures) (IsPart goal (Assert False)) (Some place) → Tells (has_falsehood goal) (IsPart goal (Assert False)) (Some place)
  false_fact place t = (ap (λ b. (b || falsehoods goal.ints) || falsehoods goal.spats) (sym (false_facts goal.pures) ∙ t.0), t.1)

  pub false_rest : (r : Option Found) → list_any (λ (f : Fact). pure_eq False f.pure) goal.pures ≡ false → Tells (falsehoods goal.ints || falsehoods goal.spats) (IsFound goal) r → Tells (has_falsehood goal) (IsFound goal) r
  false_rest r fails t =
      retest (list_any (λ (f : Fact). is_false f.pure) goal.pures || (falsehoods goal.ints || falsehoods goal.spats)) (has_falsehood goal) (IsFound goal) r (either_assoc (list_any (λ (f : Fact). is_false f.pure) goal.pures) (falsehoods goal.ints) (falsehoods goal.spats))
      (by_rest (list_any (λ (f : Fact). is_false f.pure) goal.pures) (falsehoods goal.ints || falsehoods goal.spats) (IsFound goal) r (sym (false_facts goal.pures) ∙ fails) t)
