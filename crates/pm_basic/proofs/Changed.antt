-- Contexts with terms in the place of indices, item by item; each item keeps its name.
use Rattle.std.proofs.Common.{◌≡◌, ℕ, zero, suc, ◌+◌, ◌≤◌, List, [], ◌∷◌, ◌++◌, length, take, map, refl, sym, ◌∙◌, ap, subst, Some, None, bytes_eq, position, slice_get}
use Rattle.std.specs.List.{AllByRecursion}
use Rattle.pm_logic.specs.declared.formula.Term.{Term}
use Rattle.pm_logic.specs.declared.formula.Pure.{Pure}
use Rattle.pm_logic.specs.declared.formula.Formula.{Formula}
use Rattle.pm_logic.specs.declared.formula.Formula.TheVariants.{Pure as Assert}
use Rattle.pm_logic.specs.Substitution.{in_pure, in_formula, entries, subst_of}
use Rattle.pm_goal.specs.declared.goal.Hyp.{Hyp}
use Rattle.pm_goal.specs.declared.goal.Fact.{Fact}
use Rattle.pm_table.specs.Works as works
use Rattle.pm_table.specs.Works.{Named}
use Rattle.pm_table.specs.Stepping.{times}
use Rattle.pm_action.specs.Naming.{HypsDiffer, FactsDiffer}
use Rattle.pm_action.proofs.Filtered.{zero_position}
use Rattle.pm_basic.proofs.Building.{each, IsBuilt, each_one, built_more, built_all, get_mapped, take_mapped, not_before}

module _ (sigma : List Term) where
  abbrev pub filled_fact : Fact → Fact
  filled_fact f = works.fact f.name (in_pure (entries sigma) f.pure)

  abbrev pub filled_hyp : Hyp → Hyp
  filled_hyp h = works.hyp h.name (in_formula (entries sigma) h.formula)

  abbrev pub one_fact : Fact → List Fact
  one_fact f = filled_fact f ∷ []

  abbrev pub one_hyp : Hyp → List Hyp
  one_hyp h = filled_hyp h ∷ []

  names_of_facts : (fs : List Fact) → map (λ (f : Fact). f.name) (each one_fact fs) ≡ map (λ (f : Fact). f.name) fs
  names_of_facts [] = refl
  names_of_facts (f ∷ fs) = ap (λ ns. f.name ∷ ns) (names_of_facts fs)

  names_of_hyps : (hs : List Hyp) → map (λ (h : Hyp). h.name) (each one_hyp hs) ≡ map (λ (h : Hyp). h.name) hs
  names_of_hyps [] = refl
  names_of_hyps (h ∷ hs) = ap (λ ns. h.name ∷ ns) (names_of_hyps hs)

  pub fact_fresh : (fs : List Fact) (i : ℕ) (x y : Fact) (out : List Fact) → slice_get fs i ≡ Some x → y ≡ filled_fact x → FactsDiffer fs → IsBuilt one_fact fs i out → position (λ (f : Fact). bytes_eq y.name f.name) out ≡ None
  fact_fresh fs i x y out at is apart b =
      subst (λ (z : Fact). position (λ (f : Fact). bytes_eq z.name f.name) out ≡ None) (sym is)
      (zero_position (λ (f : Fact). f.name) x.name x.name out
      (ap (λ (ys : List Fact). times x.name (map (λ (f : Fact). f.name) ys)) b.is ∙ ap (times x.name) (names_of_facts (take i fs) ∙ take_mapped (λ (f : Fact). f.name) fs i)
      ∙ not_before x.name (map (λ (f : Fact). f.name) fs) i (get_mapped (λ (f : Fact). f.name) fs i x at) (apart x.name)))

  pub hyp_fresh : (hs : List Hyp) (i : ℕ) (x y : Hyp) (out : List Hyp) → slice_get hs i ≡ Some x → y ≡ filled_hyp x → HypsDiffer hs → IsBuilt one_hyp hs i out → position (λ (h : Hyp). bytes_eq y.name h.name) out ≡ None
  hyp_fresh hs i x y out at is apart b =
      subst (λ (z : Hyp). position (λ (h : Hyp). bytes_eq z.name h.name) out ≡ None) (sym is)
      (zero_position (λ (h : Hyp). h.name) x.name x.name out
      (ap (λ (ys : List Hyp). times x.name (map (λ (h : Hyp). h.name) ys)) b.is ∙ ap (times x.name) (names_of_hyps (take i hs) ∙ take_mapped (λ (h : Hyp). h.name) hs i)
      ∙ not_before x.name (map (λ (h : Hyp). h.name) hs) i (get_mapped (λ (h : Hyp). h.name) hs i x at) (apart x.name)))

  pub fact_more : (fs : List Fact) (i j : ℕ) (x y : Fact) (out now : List Fact) → j ≡ i + 1 → slice_get fs i ≡ Some x → y ≡ filled_fact x → IsBuilt one_fact fs i out → now ≡ out ++ y ∷ [] → IsBuilt one_fact fs j now
  fact_more fs i j x y out now next at is b e = built_more one_fact fs i j x out now next at b (e ∙ ap (λ (z : Fact). out ++ z ∷ []) is)

  pub hyp_more : (hs : List Hyp) (i j : ℕ) (x y : Hyp) (out now : List Hyp) → j ≡ i + 1 → slice_get hs i ≡ Some x → y ≡ filled_hyp x → IsBuilt one_hyp hs i out → now ≡ out ++ y ∷ [] → IsBuilt one_hyp hs j now
  hyp_more hs i j x y out now next at is b e = built_more one_hyp hs i j x out now next at b (e ∙ ap (λ (z : Hyp). out ++ z ∷ []) is)

  pub facts_done : (fs : List Fact) (i : ℕ) (out : List Fact) → length fs ≤ i → IsBuilt one_fact fs i out → out ≡ works.each_fact (in_pure (entries sigma)) fs
  facts_done fs i out le b = built_all one_fact fs i out le b ∙ each_one filled_fact fs

  pub hyps_done : (hs : List Hyp) (i : ℕ) (out : List Hyp) → length hs ≤ i → IsBuilt one_hyp hs i out → out ≡ works.each_hyp (in_formula (entries sigma)) hs
  hyps_done hs i out le b = built_all one_hyp hs i out le b ∙ each_one filled_hyp hs

pub at_item : {A : Type 0} (P : A → Type 0) (xs : List A) (i : ℕ) (x : A) → AllByRecursion P xs → slice_get xs i ≡ Some x → P x
at_item P [] i x all at = absurd cc
at_item P (y ∷ xs) zero x all at = let same : y ≡ x = cc in subst P same all.0
at_item P (y ∷ xs) (suc i) x all at = at_item P xs i x all.1 at

-- ---- a pure formula, by way of the formula that asserts it

pub asserted : (sigma : List Term) (p own : Pure) (changed : Formula) → own ≡ p → changed ≡ subst_of (Assert own) sigma → changed ≡ Assert (in_pure (entries sigma) p)
unfolding in_formula
asserted sigma p own changed same e = e ∙ ap (λ (x : Pure). Assert (in_pure (entries sigma) x)) same

pub fact_same : (p q r : Pure) (changed : Formula) → changed ≡ Assert p → changed ≡ Assert q → r ≡ q → r ≡ p
fact_same p q r changed e f same = let both : Assert q ≡ Assert p = sym f ∙ e in let is : q ≡ p = cc in same ∙ is
