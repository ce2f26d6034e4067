-- Tests for falsehood.
use Rattle.std.proofs.Common.{◌≡◌, List, refl}
use Rattle.std.specs.List.{list_any}
use Rattle.pm_logic.specs.declared.formula.Pure.{Pure}
use Rattle.pm_logic.specs.declared.formula.Pure.TheVariants.{True, False, Eq, Le, Lt}
use Rattle.pm_logic.specs.declared.formula.Formula.{Formula}
use Rattle.pm_logic.specs.declared.formula.Formula.TheVariants.{Pure as Assert, Pts, Call}
use Rattle.pm_logic.specs.Trees.{both, either, nope, Sep, Wand, And, Or, Imp, All, Ex, Later, Pers, Upd}
use Rattle.pm_goal.specs.declared.goal.Hyp.{Hyp}
use Rattle.pm_goal.specs.declared.goal.Fact.{Fact}
use Rattle.pm_table.specs.Equality.{pure_eq, formula_eq}
use Rattle.pm_table.specs.Destructs.{is_falsehood}
use Rattle.pm_table.specs.Basic.{is_false}
use Rattle.pm_closing.proofs.Tests.{any_same}

false_test : (p : Pure) → pure_eq False p ≡ is_false p
unfolding pure_eq
false_test True = refl
false_test False = refl
false_test (Eq s t) = refl
false_test (Le s t) = refl
false_test (Lt s t) = refl
false_test (both a b) = refl
false_test (either a b) = refl
false_test (nope a) = refl

falsehood_in : (p : Pure) → pure_eq False p ≡ is_falsehood (Assert p)
unfolding pure_eq
falsehood_in True = refl
falsehood_in False = refl
falsehood_in (Eq s t) = refl
falsehood_in (Le s t) = refl
falsehood_in (Lt s t) = refl
falsehood_in (both a b) = refl
falsehood_in (either a b) = refl
falsehood_in (nope a) = refl

falsehood_test : (f : Formula) → formula_eq (Assert False) f ≡ is_falsehood f
unfolding formula_eq
falsehood_test (Assert p) = falsehood_in p
falsehood_test (Sep a b) = refl
falsehood_test (Wand a b) = refl
falsehood_test (And a b) = refl
falsehood_test (Or a b) = refl
falsehood_test (Imp a b) = refl
falsehood_test (All a) = refl
falsehood_test (Ex a) = refl
falsehood_test (Later a) = refl
falsehood_test (Pers a) = refl
falsehood_test (Upd a) = refl
falsehood_test (Pts l u v) = refl
falsehood_test (Call q ts) = refl

pub false_facts : (fs : List Fact) → list_any (λ (f : Fact). pure_eq False f.pure) fs ≡ list_any (λ (f : Fact). is_false f.pure) fs
false_facts fs = any_same (λ (f : Fact). pure_eq False f.pure) (λ (f : Fact). is_false f.pure) (λ f. false_test f.pure) fs

pub false_hyps : (hs : List Hyp) → list_any (λ (h : Hyp). formula_eq (Assert False) h.formula) hs ≡ list_any (λ (h : Hyp). is_falsehood h.formula) hs
false_hyps hs = any_same (λ (h : Hyp). formula_eq (Assert False) h.formula) (λ (h : Hyp). is_falsehood h.formula) (λ h. falsehood_test h.formula) hs
