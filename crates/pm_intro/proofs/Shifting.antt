-- The star of a work with a variable more is the star with each index one higher.
use Rattle.std.proofs.Common.{◌≡◌, ℕ, ◌+◌, ◌≤◌, inl, inr, List, [], ◌∷◌, ◌++◌, length, map, refl, sym, ◌∙◌, ap, ap₂, subst, arith}
use Rattle.std.specs.List.{AllByRecursion}
use Rattle.std.proofs.lemmas.List.{length-map}
use denote.Hole.Carrier as carrier
use Rattle.pm_logic.specs.declared.formula.Pure.{Pure}
use Rattle.pm_logic.specs.declared.formula.Pure.TheVariants as pure
use Rattle.pm_logic.specs.declared.formula.Formula.{Formula}
use Rattle.pm_logic.specs.declared.formula.Formula.TheVariants.{Pure as Assert}
use Rattle.pm_logic.specs.declared.formula.Formula.TheViews as view
use Rattle.pm_logic.specs.declared.formula.Formula.TheBlock as block
use Rattle.pm_logic.specs.declared.formula.TheConstants.{BOUND}
use Rattle.pm_logic.specs.Bounds.{IsBounded}
use Rattle.pm_logic.specs.Scope.{ScopedIn}
use Rattle.pm_logic.specs.Substitution.{in_formula, in_pure, shift_of}
use Rattle.pm_logic.proofs.Scopes.{sep_scoped_in, modal_scoped_in, pure_scoped_in_from, true_scoped}
use Rattle.pm_goal.specs.declared.goal.Hyp.{Hyp}
use Rattle.pm_goal.specs.declared.goal.Fact.{Fact}
use Rattle.pm_goal.specs.declared.work.Kind.{Kind}
use Rattle.pm_goal.specs.declared.work.Kind.TheVariants as kind
use Rattle.pm_goal.specs.declared.work.Held.{Held}
use Rattle.pm_goal.specs.declared.work.Work.{Work}
use Rattle.pm_goal.specs.Left.{star_onto, of_kind, facts, hyps_as, hyps, held_parts, left_of_work}
use Rattle.pm_star.specs.Stars.{work_parts}
use Rattle.pm_classes.proofs.Undone.{shift_pers}
use Rattle.pm_table.specs.Occurrences.{shifted_pure}
use Rattle.pm_table.specs.Limits.{formulas, work_formulas, greatest_depth}
use Rattle.pm_table.specs.Stepping.{NamesDiffer}
use Rattle.pm_table.specs.Works as works
use Rattle.pm_table.specs.Works.{Named, each_fact, each_hyp, each_held}
use Rattle.pm_action.specs.Acting.{IsHanded, IsLast}
use Rattle.pm_action.proofs.Heights.{star_height, parts_are}
use Rattle.pm_intro.specs.Hands.{rest}
use Rattle.pm_intro.specs.Variables.{IsLiftable, lifted}
use Rattle.pm_intro.proofs.Handed.{all_parts, last_all, concl_all}

-- ---- shifting goes through signs

pub shift_sep : (a b : Formula) → shift_of (view.Sep a b) ≡ view.Sep (shift_of a) (shift_of b)
unfolding block.shape-the_row-Formula-0 block.hidden-the_row-Formula-0 carrier.hidden in_formula
shift_sep a b = refl

pub shift_wand : (a b : Formula) → shift_of (view.Wand a b) ≡ view.Wand (shift_of a) (shift_of b)
unfolding block.shape-the_row-Formula-0 block.hidden-the_row-Formula-0 carrier.hidden in_formula
shift_wand a b = refl

pub shift_fact : (p : Pure) → shift_of (Assert p) ≡ Assert (shifted_pure p)
unfolding in_formula
shift_fact p = refl

-- as code has it: of a copy, and the copy of what comes out
pub shifted_as : (p p1 : Pure) (moved : Formula) → p1 ≡ p → moved ≡ shift_of (Assert p1) → moved ≡ Assert (shifted_pure p)
shifted_as p p1 moved same e = e ∙ ap (λ x. shift_of (Assert x)) same ∙ shift_fact p

pub pure_same : (p q r : Pure) (moved : Formula) → moved ≡ Assert p → moved ≡ Assert q → r ≡ q → r ≡ p
pure_same p q r moved e f same = let both : Assert q ≡ Assert p = sym f ∙ e in let is : q ≡ p = cc in same ∙ is

shift_truth : shift_of (Assert pure.True) ≡ Assert pure.True
unfolding in_formula in_pure
shift_truth = refl

shift_kind : (z : Kind) (f : Formula) → shift_of (of_kind z f) ≡ of_kind z (shift_of f)
shift_kind kind.Int f = shift_pers f
shift_kind kind.Spat f = refl

-- ---- and through stars

shift_onto : (fs : List Formula) (end : Formula) → shift_of (star_onto fs end) ≡ star_onto (map shift_of fs) (shift_of end)
unfolding star_onto
shift_onto [] end = refl
shift_onto (f ∷ fs) end = shift_sep f (star_onto fs end) ∙ ap (view.Sep (shift_of f)) (shift_onto fs end)

shift_facts : (fs : List Fact) → map shift_of (facts fs) ≡ facts (each_fact shifted_pure fs)
shift_facts [] = refl
shift_facts (f ∷ fs) = ap₂ (λ x xs. x ∷ xs) (shift_fact f.pure) (shift_facts fs)

shift_hyps : (z : Kind) (hs : List Hyp) → map shift_of (hyps_as z hs) ≡ hyps_as z (each_hyp shift_of hs)
shift_hyps z [] = refl
shift_hyps z (h ∷ hs) = ap₂ (λ x xs. x ∷ xs) (shift_kind z h.formula) (shift_hyps z hs)

shift_held : (hs : List Held) → map shift_of (held_parts hs) ≡ held_parts (each_held shift_of hs)
shift_held [] = refl
shift_held (h ∷ hs) = ap₂ (λ x xs. x ∷ xs) (shift_kind h.kind h.formula) (shift_held hs)

onto_is : (fs gs : List Formula) (end end1 : Formula) → map shift_of fs ≡ gs → shift_of end ≡ end1 → shift_of (star_onto fs end) ≡ star_onto gs end1
onto_is fs gs end end1 e f = shift_onto fs end ∙ ap₂ star_onto e f

pub lifted_star : (x : Named) (c : Formula) (w : Work) → shift_of (left_of_work w) ≡ left_of_work (lifted x c w)
lifted_star x c w =
    let g = w.goal in
    onto_is (facts g.pures) _ _ _ (shift_facts g.pures)
    (onto_is (hyps_as kind.Int g.ints) _ _ _ (shift_hyps kind.Int g.ints)
    (onto_is (hyps g.spats) _ _ _ (shift_hyps kind.Spat g.spats)
    (onto_is (held_parts w.held) _ _ _ (shift_held w.held) shift_truth)))

-- as many parts
pub lifted_count : (x : Named) (c : Formula) (w : Work) → length (work_parts (lifted x c w)) ≡ length (work_parts w)
lifted_count x c w =
    omega (
      arith,
      parts_are w,
      parts_are (lifted x c w),
      length-map w.goal.pures (λ (f : Fact). works.fact f.name (shifted_pure f.pure)),
      length-map w.goal.ints (λ (h : Hyp). works.hyp h.name (shift_of h.formula)),
      length-map w.goal.spats (λ (h : Hyp). works.hyp h.name (shift_of h.formula)),
      length-map w.held (λ (h : Held). works.holding h.kind (shift_of h.formula)),
    )

pub lifted_vars : (x : Named) (xs : List Named) → length (xs ++ x ∷ []) ≡ length xs + 1
lifted_vars x [] = refl
lifted_vars x (y ∷ xs) = omega (arith, lifted_vars x xs)

-- ---- bounds

all_bounded : (k : ℕ) (fs : List Formula) → AllByRecursion (ScopedIn k) fs → k + greatest_depth fs ≤ BOUND → AllByRecursion IsBounded fs
all_bounded k [] a le = tt
all_bounded k (f ∷ fs) a le = (record { vars = k; scoped = a.0; within = omega (arith, le) }, all_bounded k fs a.1 (omega (arith, le)))

unmapped : {A : Type 0} (part : A → Formula) (P : Formula → Type 0) (xs : List A) → AllByRecursion P (map part xs) → AllByRecursion (λ x. P (part x)) xs
unmapped part P [] a = tt
unmapped part P (x ∷ xs) a = (a.0, unmapped part P xs a.1)

formulas_bounded : (w : Work) → IsHanded w → AllByRecursion IsBounded (work_formulas w)
formulas_bounded w h = all_bounded (length w.goal.vars) (work_formulas w) h.scoped (omega (arith, h.shallow))

liftable : (w : Work) → NamesDiffer w.goal → AllByRecursion IsBounded (work_formulas w) → IsLiftable w
liftable w apart all =
    let g = w.goal in
    let a = all_parts IsBounded (formulas g) (map (λ (h : Held). h.formula) w.held) all in
    let b = all_parts IsBounded (facts g.pures) (hyps g.ints ++ (hyps g.spats ++ (g.concl ∷ []))) a.0 in
    let c = all_parts IsBounded (hyps g.ints) (hyps g.spats ++ (g.concl ∷ [])) b.1 in
    let d = all_parts IsBounded (hyps g.spats) (g.concl ∷ []) c.1 in
    record {
      pures = unmapped (λ (f : Fact). Assert f.pure) IsBounded g.pures b.0;
      ints = unmapped (λ (h : Hyp). of_kind kind.Spat h.formula) IsBounded g.ints c.0;
      spats = unmapped (λ (h : Hyp). of_kind kind.Spat h.formula) IsBounded g.spats d.0;
      held = unmapped (λ (h : Held). h.formula) IsBounded w.held a.1;
      apart = apart;
    }

pub work_liftable : (w : Work) → IsHanded w → IsLiftable w
work_liftable w h = liftable w h.apart (formulas_bounded w h)

pub rest_liftable : (w : Work) (l : Held) → IsLast w l → IsHanded w → IsLiftable (rest w)
rest_liftable w l is h = liftable (rest w) h.apart (last_all w l is IsBounded (formulas_bounded w h)).0

pub concl_bounded : (w : Work) → IsHanded w → IsBounded w.goal.concl
concl_bounded w h = concl_all IsBounded w (formulas_bounded w h)

-- ---- the star is scoped where the formulas are

onto_in : (k : ℕ) (fs : List Formula) (end : Formula) → AllByRecursion (ScopedIn k) fs → ScopedIn k end → ScopedIn k (star_onto fs end)
unfolding star_onto
onto_in k [] end a e = e
onto_in k (f ∷ fs) end a e = sep_scoped_in k f (star_onto fs end) a.0 (onto_in k fs end a.1 e)

kind_in : (k : ℕ) (z : Kind) (f : Formula) → ScopedIn k f → ScopedIn k (of_kind z f)
kind_in k kind.Int f s = modal_scoped_in k (view.Pers f) f (inr (inl refl)) s
kind_in k kind.Spat f s = s

kinds_in : (k : ℕ) (z : Kind) (hs : List Hyp) → AllByRecursion (ScopedIn k) (hyps hs) → AllByRecursion (ScopedIn k) (hyps_as z hs)
kinds_in k z [] a = tt
kinds_in k z (h ∷ hs) a = (kind_in k z h.formula a.0, kinds_in k z hs a.1)

held_in : (k : ℕ) (hs : List Held) → AllByRecursion (ScopedIn k) (map (λ (h : Held). h.formula) hs) → AllByRecursion (ScopedIn k) (held_parts hs)
held_in k [] a = tt
held_in k (h ∷ hs) a = (kind_in k h.kind h.formula a.0, held_in k hs a.1)

star_in : (k : ℕ) (w : Work) → AllByRecursion (ScopedIn k) (work_formulas w) → ScopedIn k (left_of_work w)
star_in k w all =
    let g = w.goal in
    let a = all_parts (ScopedIn k) (formulas g) (map (λ (h : Held). h.formula) w.held) all in
    let b = all_parts (ScopedIn k) (facts g.pures) (hyps g.ints ++ (hyps g.spats ++ (g.concl ∷ []))) a.0 in
    let c = all_parts (ScopedIn k) (hyps g.ints) (hyps g.spats ++ (g.concl ∷ [])) b.1 in
    let d = all_parts (ScopedIn k) (hyps g.spats) (g.concl ∷ []) c.1 in
    onto_in k (facts g.pures) (star_onto (hyps_as kind.Int g.ints) (star_onto (hyps g.spats) (star_onto (held_parts w.held) (Assert pure.True)))) b.0
    (onto_in k (hyps_as kind.Int g.ints) (star_onto (hyps g.spats) (star_onto (held_parts w.held) (Assert pure.True))) (kinds_in k kind.Int g.ints c.0)
    (onto_in k (hyps g.spats) (star_onto (held_parts w.held) (Assert pure.True)) d.0
    (onto_in k (held_parts w.held) (Assert pure.True) (held_in k w.held a.1) (pure_scoped_in_from k pure.True (true_scoped k)))))

pub work_in : (w : Work) → IsHanded w → ScopedIn (length w.goal.vars) (left_of_work w)
work_in w h = star_in (length w.goal.vars) w h.scoped

pub star_bounded : (w : Work) (st : Formula) → IsHanded w → st ≡ left_of_work w → IsBounded st
star_bounded w st h is = subst IsBounded (sym is) (record { vars = length w.goal.vars; scoped = work_in w h; within = omega (arith, star_height w, h.few, h.shallow) })

pub rest_in : (w : Work) (l : Held) → IsLast w l → IsHanded w → ScopedIn (length w.goal.vars) (left_of_work (rest w))
rest_in w l is h = star_in (length w.goal.vars) (rest w) (last_all w l is (ScopedIn (length w.goal.vars)) h.scoped).0
