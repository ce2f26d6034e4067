-- The formulas of a work that is handed in have room for terms in the place of their indices.
use Rattle.std.proofs.Common.{◌≡◌, inl, inr, ℕ, ◌+◌, ◌≤◌, List, [], ◌∷◌, ◌++◌, length, map, refl, sym, ap, ap₂, subst, arith}
use Rattle.std.specs.List.{AllByRecursion}
use Rattle.pm_logic.specs.declared.formula.Term.{Term}
use Rattle.pm_logic.specs.declared.formula.Pure.{Pure}
use Rattle.pm_logic.specs.declared.formula.Pure.TheVariants as pure
use Rattle.pm_logic.specs.declared.formula.Formula.{Formula}
use Rattle.pm_logic.specs.declared.formula.Formula.TheVariants.{Pure as Assert}
use Rattle.pm_logic.specs.declared.formula.Formula.TheViews as view
use Rattle.pm_logic.specs.declared.formula.TheConstants.{BOUND}
use Rattle.pm_logic.specs.Bounds.{past_indices}
use Rattle.pm_logic.specs.Scope.{TermsScoped, ScopedIn}
use Rattle.pm_logic.specs.Size.{depth_of}
use Rattle.pm_logic.specs.Substitution.{Sub, in_pure, in_formula, entries}
use Rattle.pm_logic.proofs.Agrees.{formula_agrees}
use Rattle.pm_logic.proofs.Scopes.{sep_scoped_in, modal_scoped_in, pure_scoped_in_from, true_scoped}
use Rattle.pm_goal.specs.declared.goal.Hyp.{Hyp}
use Rattle.pm_goal.specs.declared.goal.Fact.{Fact}
use Rattle.pm_goal.specs.declared.work.Kind.{Kind}
use Rattle.pm_goal.specs.declared.work.Kind.TheVariants as kind
use Rattle.pm_goal.specs.declared.work.Held.{Held}
use Rattle.pm_goal.specs.declared.work.Work.{Work}
use Rattle.pm_goal.specs.Left.{star_onto, of_kind, facts, hyps_as, hyps, held_parts, left_of_work}
use Rattle.pm_table.specs.Limits.{formulas, work_formulas, greatest_depth}
use Rattle.pm_table.specs.Works as works
use Rattle.pm_action.specs.Acting.{IsHanded}
use Rattle.pm_action.proofs.Heights.{star_height}
use Rattle.pm_basic.specs.Replacements.{first_terms, IsFillable}
use Rattle.pm_basic.proofs.Replaced.{first_entry}

-- ---- each formula of a work

both_parts : {A : Type 0} (P : A → Type 0) (xs ys : List A) → AllByRecursion P (xs ++ ys) → AllByRecursion P xs × AllByRecursion P ys
both_parts P [] ys h = (tt, h)
both_parts P (x ∷ xs) ys h = let g = both_parts P xs ys h.1 in ((h.0, g.0), g.1)

of_each : {A : Type 0} (part : A → Formula) (P : Formula → Type 0) (xs : List A) → AllByRecursion P (map part xs) → AllByRecursion (λ x. P (part x)) xs
of_each part P [] h = tt
of_each part P (x ∷ xs) h = (h.0, of_each part P xs h.1)

-- what holds of every formula, of those of each kind
pub record OfEach (P : Formula → Type 0) (w : Work) : Type 0 where
  pub pures : AllByRecursion (λ (f : Fact). P (Assert f.pure)) w.goal.pures
  pub ints : AllByRecursion (λ (h : Hyp). P h.formula) w.goal.ints
  pub spats : AllByRecursion (λ (h : Hyp). P h.formula) w.goal.spats
  pub concl : P w.goal.concl
  pub held : AllByRecursion (λ (h : Held). P h.formula) w.held

pub each_kind : (P : Formula → Type 0) (w : Work) → AllByRecursion P (work_formulas w) → OfEach P w
each_kind P w all =
    let g = w.goal in
    let a = both_parts P (formulas g) (map (λ (h : Held). h.formula) w.held) all in
    let b = both_parts P (facts g.pures) (hyps g.ints ++ (hyps g.spats ++ (g.concl ∷ []))) a.0 in
    let c = both_parts P (hyps g.ints) (hyps g.spats ++ (g.concl ∷ [])) b.1 in
    let d = both_parts P (hyps g.spats) (g.concl ∷ []) c.1 in
    record {
      pures = of_each (λ (f : Fact). Assert f.pure) P g.pures b.0;
      ints = of_each (λ (h : Hyp). of_kind kind.Spat h.formula) P g.ints c.0;
      spats = of_each (λ (h : Hyp). of_kind kind.Spat h.formula) P g.spats d.0;
      concl = d.1.0;
      held = of_each (λ (h : Held). h.formula) P w.held a.1;
    }

pub each_scoped : (w : Work) → IsHanded w → OfEach (ScopedIn (length w.goal.vars)) w
each_scoped w h = each_kind (ScopedIn (length w.goal.vars)) w h.scoped

all_fillable : (k : ℕ) (sigma : List Term) (fs : List Formula) → length sigma ≡ k → TermsScoped past_indices sigma → AllByRecursion (ScopedIn k) fs → k + greatest_depth fs ≤ BOUND → AllByRecursion (IsFillable sigma) fs
all_fillable k sigma [] len low a le = tt
all_fillable k sigma (f ∷ fs) len low a le =
    (record { scoped = subst (λ (n : ℕ). ScopedIn n f) (sym len) a.0; size = omega (arith, len, le); terms = low }, all_fillable k sigma fs len low a.1 (omega (arith, le)))

pub each_fillable : (w : Work) (sigma : List Term) → IsHanded w → length sigma ≡ length w.goal.vars → TermsScoped past_indices sigma → OfEach (IsFillable sigma) w
each_fillable w sigma h len low = each_kind (IsFillable sigma) w (all_fillable (length w.goal.vars) sigma (work_formulas w) len low h.scoped (omega (arith, h.shallow)))

-- ---- the star

onto_in : (k : ℕ) (fs : List Formula) (end : Formula) → AllByRecursion (ScopedIn k) fs → ScopedIn k end → ScopedIn k (star_onto fs end)
unfolding star_onto
onto_in k [] end a e = e
onto_in k (f ∷ fs) end a e = sep_scoped_in k f (star_onto fs end) a.0 (onto_in k fs end a.1 e)

kind_in : (k : ℕ) (z : Kind) (f : Formula) → ScopedIn k f → ScopedIn k (of_kind z f)
kind_in k kind.Int f s = modal_scoped_in k (view.Pers f) f (inr (inl refl)) s
kind_in k kind.Spat f s = s

facts_in : (k : ℕ) (fs : List Fact) → AllByRecursion (λ (f : Fact). ScopedIn k (Assert f.pure)) fs → AllByRecursion (ScopedIn k) (facts fs)
facts_in k [] a = tt
facts_in k (f ∷ fs) a = (a.0, facts_in k fs a.1)

hyps_in : (k : ℕ) (z : Kind) (hs : List Hyp) → AllByRecursion (λ (h : Hyp). ScopedIn k h.formula) hs → AllByRecursion (ScopedIn k) (hyps_as z hs)
hyps_in k z [] a = tt
hyps_in k z (h ∷ hs) a = (kind_in k z h.formula a.0, hyps_in k z hs a.1)

held_in : (k : ℕ) (hs : List Held) → AllByRecursion (λ (h : Held). ScopedIn k h.formula) hs → AllByRecursion (ScopedIn k) (held_parts hs)
held_in k [] a = tt
held_in k (h ∷ hs) a = (kind_in k h.kind h.formula a.0, held_in k hs a.1)

star_in : (k : ℕ) (w : Work) → OfEach (ScopedIn k) w → ScopedIn k (left_of_work w)
star_in k w a =
    let g = w.goal in
    onto_in k (facts g.pures) (star_onto (hyps_as kind.Int g.ints) (star_onto (hyps g.spats) (star_onto (held_parts w.held) (Assert pure.True)))) (facts_in k g.pures a.pures)
    (onto_in k (hyps_as kind.Int g.ints) (star_onto (hyps g.spats) (star_onto (held_parts w.held) (Assert pure.True))) (hyps_in k kind.Int g.ints a.ints)
    (onto_in k (hyps g.spats) (star_onto (held_parts w.held) (Assert pure.True)) (hyps_in k kind.Spat g.spats a.spats)
    (onto_in k (held_parts w.held) (Assert pure.True) (held_in k w.held a.held) (pure_scoped_in_from k pure.True (true_scoped k)))))

pub star_scoped : (w : Work) → IsHanded w → ScopedIn (length w.goal.vars) (left_of_work w)
star_scoped w h = star_in (length w.goal.vars) w (each_scoped w h)

pub star_small : (w : Work) → IsHanded w → length w.goal.vars + depth_of (left_of_work w) ≤ BOUND
star_small w h = omega (arith, star_height w, h.few, h.shallow)

-- ---- contexts with the terms in the place of indices

fact_of : Formula → Pure
fact_of (Assert p) = p
fact_of f = pure.True

pure_filled : (f : Sub) (k : ℕ) (p : Pure) → ScopedIn k (Assert p) → in_pure (entries (first_terms f k)) p ≡ in_pure f p
unfolding in_formula fact_of
pure_filled f k p s = ap fact_of (formula_agrees k (entries (first_terms f k)) f (first_entry f k) (Assert p) s)

pub facts_filled : (f : Sub) (k : ℕ) (fs : List Fact) → AllByRecursion (λ (x : Fact). ScopedIn k (Assert x.pure)) fs → works.each_fact (in_pure (entries (first_terms f k))) fs ≡ works.each_fact (in_pure f) fs
facts_filled f k [] a = refl
facts_filled f k (x ∷ fs) a = ap₂ (λ p xs. works.fact x.name p ∷ xs) (pure_filled f k x.pure a.0) (facts_filled f k fs a.1)

pub hyps_filled : (f : Sub) (k : ℕ) (hs : List Hyp) → AllByRecursion (λ (x : Hyp). ScopedIn k x.formula) hs → works.each_hyp (in_formula (entries (first_terms f k))) hs ≡ works.each_hyp (in_formula f) hs
hyps_filled f k [] a = refl
hyps_filled f k (x ∷ hs) a = ap₂ (λ p xs. works.hyp x.name p ∷ xs) (formula_agrees k (entries (first_terms f k)) f (first_entry f k) x.formula a.0) (hyps_filled f k hs a.1)
