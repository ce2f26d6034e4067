-- Whether what a name names gives the conclusion.
use Rattle.std.proofs.Common.{◌≡◌, ◌↔◌, ℕ, ◌+◌, Bool, true, false, ◌||◌, length, ap, ap₂, sym, subst, ◌∙◌, Some, None, bytes_eq}
use Rattle.std.specs.Prelude.{IsTrue, slice_get, option_map, position}
use Rattle.std.proofs.lemmas.Bool.Decides.{same_from_decides}
use Rattle.pm_logic.specs.declared.formula.Pure.{Pure}
use Rattle.pm_logic.specs.declared.formula.Formula.{Formula}
use Rattle.pm_logic.specs.declared.formula.Formula.TheVariants.{Pure as Assert}
use Rattle.pm_logic.specs.declared.formula.Formula.TheViews as view
use Rattle.pm_logic.specs.Trees.{Pers}
use Rattle.pm_goal.specs.declared.goal.Hyp.{Hyp}
use Rattle.pm_goal.specs.declared.goal.Fact.{Fact}
use Rattle.pm_goal.specs.declared.goal.Goal.{Goal}
use Rattle.pm_table.specs.Works.{Named, hyp_named, fact_named}
use Rattle.pm_table.specs.Basic.{passes, by_spat, by_int, by_fact}
use Rattle.pm_table.specs.Equality.{pure_eq, formula_eq}
use Rattle.pm_table.proofs.Equals.{pure_eq_decides, formula_eq_decides}
use Rattle.pm_closing.specs.declared.way.Way.{Way}
use Rattle.pm_closing.specs.Ways.{IsPart, part_for}
use Rattle.pm_closing.proofs.Places.{fact_part, int_part, spat_part}
use Rattle.pm_closing.proofs.Found.{says, says_none, is_box, no_box}
use Rattle.pm_closing.proofs.Named.{no_hyp, hyp_at, no_fact, fact_at, passes_none, passes_some}

-- ---- the ways of an intuitionistic hypothesis

tested : (c f : Formula) (same : Bool) → IsTrue same ↔ (c ≡ f) → same ≡ formula_eq c f
tested c f same told = same_from_decides same (formula_eq c f) told (formula_eq_decides c f)

pub way_boxed : (c f : Formula) (same : Bool) → IsTrue same ↔ (c ≡ f) → same ≡ true → (by_int c f ≡ true) × (view.Pers c ≡ view.Pers f)
way_boxed c f same told e = (ap (λ b. b || formula_eq c (Pers f)) (sym (tested c f same told) ∙ e), ap view.Pers (told.0 e))

pub way_same : (c f a b : Formula) (first same : Bool) → IsTrue first ↔ (c ≡ f) → first ≡ false → c ≡ view.Pers b → a ≡ b → IsTrue same ↔ (a ≡ f) → same ≡ true → (by_int c f ≡ true) × (c ≡ view.Pers f)
way_same c f a b first same other fails is at told e =
    let box : c ≡ view.Pers a = is ∙ ap view.Pers (sym at) in
    (ap₂ (λ x y. x || y) (sym (tested c f first other) ∙ fails) (is_box c a f box ∙ (sym (tested a f same told) ∙ e)), box ∙ ap view.Pers (told.0 e))

pub way_neither : (c f a b : Formula) (first same : Bool) → IsTrue first ↔ (c ≡ f) → first ≡ false → c ≡ view.Pers b → a ≡ b → IsTrue same ↔ (a ≡ f) → same ≡ false → by_int c f ≡ false
way_neither c f a b first same other fails is at told e =
    let box : c ≡ view.Pers a = is ∙ ap view.Pers (sym at) in
    ap₂ (λ x y. x || y) (sym (tested c f first other) ∙ fails) (is_box c a f box ∙ (sym (tested a f same told) ∙ e))

pub way_none : (c f : Formula) (first : Bool) → IsTrue first ↔ (c ≡ f) → first ≡ false → ((a : Formula) → c ≡ view.Pers a → ⊥) → by_int c f ≡ false
way_none c f first other fails never = ap₂ (λ x y. x || y) (sym (tested c f first other) ∙ fails) (no_box c f never)

-- ---- what a conclusion says

pub says_so : (c : Formula) (p q : Pure) (same : Bool) → c ≡ Assert p → IsTrue same ↔ (p ≡ q) → same ≡ by_fact c q
says_so c p q same is told = same_from_decides same (pure_eq p q) told (pure_eq_decides p q) ∙ sym (says c p q is)

pub says_nothing : (c : Formula) (q : Pure) → ((p : Pure) → c ≡ Assert p → ⊥) → false ≡ by_fact c q
says_nothing c q never = sym (says_none c q never)

-- ---- by a name

module _ (goal : Goal) (name : Named) where
  pub spat_unnamed : None ≡ position (λ (h : Hyp). bytes_eq name h.name) goal.spats → passes (by_spat goal.concl) (hyp_named name goal.spats) ≡ false
  spat_unnamed e = passes_none (by_spat goal.concl) (hyp_named name goal.spats) (no_hyp name goal.spats e)

  pub spat_nowhere : (i : ℕ) → Some i ≡ position (λ (h : Hyp). bytes_eq name h.name) goal.spats → None ≡ option_map (λ (h : Hyp). h.formula) (slice_get goal.spats i) → passes (by_spat goal.concl) (hyp_named name goal.spats) ≡ false
  spat_nowhere i e at = passes_none (by_spat goal.concl) (hyp_named name goal.spats) (hyp_at name goal.spats i None e at)

  pub spat_other : (i : ℕ) (f : Formula) (same : Bool) → Some i ≡ position (λ (h : Hyp). bytes_eq name h.name) goal.spats → Some f ≡ option_map (λ (h : Hyp). h.formula) (slice_get goal.spats i) → IsTrue same ↔ (goal.concl ≡ f) → same ≡ false → passes (by_spat goal.concl) (hyp_named name goal.spats) ≡ false
  spat_other i f same e at told fails = passes_some (by_spat goal.concl) (hyp_named name goal.spats) f false (hyp_at name goal.spats i (Some f) e at) (sym (tested goal.concl f same told) ∙ fails)

  pub spat_exact : (i place : ℕ) (f : Formula) (same : Bool) → Some i ≡ position (λ (h : Hyp). bytes_eq name h.name) goal.spats → Some f ≡ option_map (λ (h : Hyp). h.formula) (slice_get goal.spats i) → IsTrue same ↔ (goal.concl ≡ f) → same ≡ true → place ≡ length goal.pures + length goal.ints + i → (passes (by_spat goal.concl) (hyp_named name goal.spats) ≡ true) × IsPart goal goal.concl place
  spat_exact i place f same e at told agree there =
      let is : goal.concl ≡ f = told.0 agree in
      (passes_some (by_spat goal.concl) (hyp_named name goal.spats) f true (hyp_at name goal.spats i (Some f) e at) (sym (tested goal.concl f same told) ∙ agree), subst (λ (x : Formula). IsPart goal x place) (sym is) (spat_part goal i place f (sym at) there))

  pub int_unnamed : None ≡ position (λ (h : Hyp). bytes_eq name h.name) goal.ints → passes (by_int goal.concl) (hyp_named name goal.ints) ≡ false
  int_unnamed e = passes_none (by_int goal.concl) (hyp_named name goal.ints) (no_hyp name goal.ints e)

  pub int_nowhere : (i : ℕ) → Some i ≡ position (λ (h : Hyp). bytes_eq name h.name) goal.ints → None ≡ option_map (λ (h : Hyp). h.formula) (slice_get goal.ints i) → passes (by_int goal.concl) (hyp_named name goal.ints) ≡ false
  int_nowhere i e at = passes_none (by_int goal.concl) (hyp_named name goal.ints) (hyp_at name goal.ints i None e at)

  pub int_other : (i : ℕ) (f : Formula) → Some i ≡ position (λ (h : Hyp). bytes_eq name h.name) goal.ints → Some f ≡ option_map (λ (h : Hyp). h.formula) (slice_get goal.ints i) → by_int goal.concl f ≡ false → passes (by_int goal.concl) (hyp_named name goal.ints) ≡ false
  int_other i f e at fails = passes_some (by_int goal.concl) (hyp_named name goal.ints) f false (hyp_at name goal.ints i (Some f) e at) fails

  pub int_exact : (i place : ℕ) (f : Formula) (way : Way) → Some i ≡ position (λ (h : Hyp). bytes_eq name h.name) goal.ints → Some f ≡ option_map (λ (h : Hyp). h.formula) (slice_get goal.ints i) → (by_int goal.concl f ≡ true) × (part_for way goal.concl ≡ view.Pers f) → place ≡ length goal.pures + i → (passes (by_int goal.concl) (hyp_named name goal.ints) ≡ true) × IsPart goal (part_for way goal.concl) place
  int_exact i place f way e at told there =
      (passes_some (by_int goal.concl) (hyp_named name goal.ints) f true (hyp_at name goal.ints i (Some f) e at) told.0, subst (λ (x : Formula). IsPart goal x place) (sym told.1) (int_part goal i place f (sym at) there))

  pub fact_unnamed : None ≡ position (λ (f : Fact). bytes_eq name f.name) goal.pures → passes (by_fact goal.concl) (fact_named name goal.pures) ≡ false
  fact_unnamed e = passes_none (by_fact goal.concl) (fact_named name goal.pures) (no_fact name goal.pures e)

  pub fact_nowhere : (i : ℕ) → Some i ≡ position (λ (f : Fact). bytes_eq name f.name) goal.pures → None ≡ option_map (λ (f : Fact). f.pure) (slice_get goal.pures i) → passes (by_fact goal.concl) (fact_named name goal.pures) ≡ false
  fact_nowhere i e at = passes_none (by_fact goal.concl) (fact_named name goal.pures) (fact_at name goal.pures i None e at)

  pub fact_other : (i : ℕ) (p : Pure) (same : Bool) → Some i ≡ position (λ (f : Fact). bytes_eq name f.name) goal.pures → Some p ≡ option_map (λ (f : Fact). f.pure) (slice_get goal.pures i) → same ≡ by_fact goal.concl p → same ≡ false → passes (by_fact goal.concl) (fact_named name goal.pures) ≡ false
  fact_other i p same e at told fails = passes_some (by_fact goal.concl) (fact_named name goal.pures) p false (fact_at name goal.pures i (Some p) e at) (sym told ∙ fails)

  pub fact_exact : (i place : ℕ) (p : Pure) (same : Bool) → Some i ≡ position (λ (f : Fact). bytes_eq name f.name) goal.pures → Some p ≡ option_map (λ (f : Fact). f.pure) (slice_get goal.pures i) → same ≡ by_fact goal.concl p → same ≡ true → place ≡ i → (passes (by_fact goal.concl) (fact_named name goal.pures) ≡ true) × IsPart goal goal.concl place
  fact_exact i place p same e at told agree there =
      let holds : by_fact goal.concl p ≡ true = sym told ∙ agree in
      let is : goal.concl ≡ Assert p = (formula_eq_decides goal.concl (Assert p)).0 holds in
      (passes_some (by_fact goal.concl) (fact_named name goal.pures) p true (fact_at name goal.pures i (Some p) e at) holds, subst (λ (x : Formula). IsPart goal x place) (sym is) (fact_part goal i place p (sym at) there))
  -- the three in turn
