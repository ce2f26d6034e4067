-- The bracket of the linear row.
use Rattle.std.proofs.Common.{◌≡◌, Bool, IsTrue, ◌==◌, ◌↔◌, length, ℕ, ◌≤◌, ◌<◌, ℤ, List, [], ◌∷◌, refl, ap, sym, subst, ◌∙◌, arith}
use Rattle.std.proofs.lemmas.Bool.{eqb-true, eq-eqb}
use Rattle.pm_logic.specs.declared.formula.Term.{Term}
use Rattle.pm_logic.specs.declared.formula.Pure.{Pure}
use Rattle.pm_logic.specs.declared.formula.Pure.TheVariants.{True, False, Eq, Le, Lt}
use Rattle.pm_logic.specs.declared.formula.Formula.{Formula, the_lemmas as formula_lemmas}
use Rattle.pm_logic.specs.declared.formula.Formula.TheVariants.{Pure as Fact}
use Rattle.pm_logic.specs.declared.formula.TheConstants.{BOUND}
use Rattle.pm_logic.specs.Scope.{PureScoped, ScopedIn}
use Rattle.pm_logic.specs.Size.{pure_depth, depth_of}
use Rattle.pm_logic.specs.Trees.{both, either, nope}
use Rattle.pm_logic.proofs.Grows.{pure_grows}
use Rattle.pm_logic.proofs.Views.{view_both}
use Rattle.pm_logic.proofs.Scopes.{pure_scoped_in_to}
use Rattle.pm_logic.proofs.Sizes.{depth_pure}
use Rattle.pm_rules.specs.Equations.{all_of, IsFacts}
use Rattle.pm_rules.specs.Linear.{IsShown, HasSecond, HasFactors}
use Rattle.pm_rules.specs.Certificates.{facts_of, Shows, ShowsSecond}

-- ---- the second list

pub eq_second : (ds : List ℤ) (p g : Pure) (s t : Term) → g ≡ Eq s t → IsFacts p → Shows ds p (Eq t s) ↔ ShowsSecond ds p g
unfolding Shows ShowsSecond HasSecond
eq_second ds p g s t e f =
    let P : Pure → Type 0 = λ x. HasSecond ds (facts_of p) x in
    (λ h. subst P (sym e) h.1, λ h. (f, subst P e h))

other_second : (ds : List ℤ) (p g : Pure) → ((s t : Term) → g ≡ Eq s t → ⊥) → ShowsSecond ds p g ≡ (ds ≡ [])
unfolding ShowsSecond HasSecond
other_second ds p True n = refl
other_second ds p False n = refl
other_second ds p (Eq s t) n = absurd (n s t refl)
other_second ds p (Le s t) n = refl
other_second ds p (Lt s t) n = refl
other_second ds p (both a b) n = refl
other_second ds p (either a b) n = refl
other_second ds p (nope a) n = refl

length_none : (ds : List ℤ) → length ds ≡ 0 → ds ≡ []
length_none [] e = refl
length_none (d ∷ ds) e = absurd (omega arith)

pub empty : (b : Bool) (n : ℕ) → b ≡ (n == 0) → IsTrue b ↔ (n ≡ 0)
empty b n e = (λ h. eqb-true n 0 (sym e ∙ h), λ h. e ∙ eq-eqb n 0 h)

pub none_second : (ds : List ℤ) (p g : Pure) → ((s t : Term) → g ≡ Eq s t → ⊥) → (length ds ≡ 0) ↔ ShowsSecond ds p g
none_second ds p g n =
    let P : Type 0 → Type 0 = λ x. x in
    (λ h. subst P (sym (other_second ds p g n)) (length_none ds h), λ h. ap length (subst P (other_second ds p g n) h))

pub shows_facts : (cs : List ℤ) (p g : Pure) → Shows cs p g → IsFacts p
unfolding Shows
shows_facts cs p g h = h.0

-- ---- the scope

pub scoped_fact : (k m : ℕ) (p : Pure) → ScopedIn k (Fact p) → k ≤ m → PureScoped m p
scoped_fact k m p h le = pure_grows k m p le (pure_scoped_in_to k p h)

pub fact_depth : (p : Pure) → depth_of (Fact p) ≤ BOUND → pure_depth p < BOUND
fact_depth p h = let e = depth_pure p in omega (arith, e)

-- ---- the whole

facts_of_all : (fs : List Pure) → facts_of (all_of fs) ≡ fs
unfolding facts_of
facts_of_all [] = refl
facts_of_all (f ∷ fs) = ap facts_of (view_both f (all_of fs)) ∙ ap (λ x. f ∷ x) (facts_of_all fs)

all_of_facts : (p : Pure) → IsFacts p → p ≡ all_of (facts_of p)
unfolding IsFacts
all_of_facts p h = h.1 ∙ ap all_of (sym (facts_of_all h.0) ∙ ap facts_of (sym h.1))

pub linear_from : (cs ds : List ℤ) (vars : ℕ) (p g : Pure) (left right : Formula) → left ≡ Fact p → right ≡ Fact g → vars ≤ 65 → Shows cs p g → ShowsSecond ds p g → HasFactors cs ds vars left right
unfolding Shows ShowsSecond
linear_from cs ds vars p g left right e f few h k = record {
  fs = facts_of p;
  g = g;
  left_is = e ∙ ap Fact (all_of_facts p h.0);
  right_is = f;
  few = few;
  first = h.1;
  second = k;
}

-- the facts and the goal that a linear row has are those of its sides
same_fact : (p q : Pure) (f : Formula) → f ≡ Fact p → f ≡ Fact q → p ≡ q
same_fact p q f e d = cc (e, d)

own_facts : (fs : List Pure) (p : Pure) → p ≡ all_of fs → fs ≡ facts_of p
own_facts fs p e = sym (facts_of_all fs) ∙ ap facts_of (sym e)

pub linear_first : (cs ds : List ℤ) (vars : ℕ) (p g : Pure) (left right : Formula) → left ≡ Fact p → right ≡ Fact g → HasFactors cs ds vars left right → Shows cs p g
unfolding Shows IsFacts
linear_first cs ds vars p g left right e f h =
    let d = same_fact p (all_of h.fs) left e h.left_is in
    let P : Pure → Type 0 = λ x. IsShown cs h.fs x in
    let Q : List Pure → Type 0 = λ x. IsShown cs x g in
    ((h.fs, d), subst Q (own_facts h.fs p d) (subst P (same_fact h.g g right h.right_is f) h.first))

pub linear_second : (cs ds : List ℤ) (vars : ℕ) (p g : Pure) (left right : Formula) → left ≡ Fact p → right ≡ Fact g → HasFactors cs ds vars left right → ShowsSecond ds p g
unfolding ShowsSecond
linear_second cs ds vars p g left right e f h =
    let d = same_fact p (all_of h.fs) left e h.left_is in
    let P : Pure → Type 0 = λ x. HasSecond ds h.fs x in
    let Q : List Pure → Type 0 = λ x. HasSecond ds x g in
    subst Q (own_facts h.fs p d) (subst P (same_fact h.g g right h.right_is f) h.second)

pub linear_few : (cs ds : List ℤ) (vars : ℕ) (left right : Formula) → HasFactors cs ds vars left right → vars ≤ 65
linear_few cs ds vars left right h = h.few

pub ruleset linears = (formula_lemmas, scoped_fact, fact_depth, shows_facts, linear_from, linear_first, linear_second, linear_few)
