-- A fact and its negation.
use Rattle.std.proofs.Common.{◌≡◌, ℕ, suc, ◌+◌, ◌*◌, ◌<◌, ◌≤◌, Bool, true, false, List, [], ◌∷◌, length, refl, ap, ap₂, sym, subst, ◌∙◌, arith, Option, Some, None}
use Rattle.std.specs.Prelude.{slice_get, option_map}
use Rattle.std.specs.List.{list_any}
use Rattle.std.proofs.lemmas.Bool.Decides.{same_from_decides}
use Rattle.pm_logic.specs.declared.formula.Pure.{Pure}
use Rattle.pm_logic.specs.declared.formula.Pure.TheViews as pure
use Rattle.pm_logic.specs.declared.formula.Formula.{Formula}
use Rattle.pm_logic.specs.declared.formula.Formula.TheVariants.{Pure as Assert}
use Rattle.pm_logic.specs.Trees.{nope}
use Rattle.pm_logic.specs.Size.{depth_of, pure_depth}
use Rattle.pm_logic.proofs.Views.{view_not}
use Rattle.pm_logic.proofs.Sizes.{depth_pure}
use Rattle.pm_goal.specs.declared.goal.Fact.{Fact}
use Rattle.pm_goal.specs.declared.work.Work.{Work}
use Rattle.pm_goal.specs.Left.{left_of_work}
use Rattle.pm_rules.specs.declared.rules.Entail.{Entail}
use Rattle.pm_proof.specs.Trees.{Tree, entail, conclusion, holes_of, filled, splice}
use Rattle.pm_proof.specs.Known.{Proves, Every, ScopedWhere, FillProves}
use Rattle.pm_proof.proofs.Fills.{fills, weaker}
use Rattle.pm_schemes.specs.Sketches.{deepest}
use Rattle.pm_star.specs.Stars.{parts, work_parts, part_at}
use Rattle.pm_table.specs.Equality.{pure_eq}
use Rattle.pm_table.specs.Basic.{is_contradictory}
use Rattle.pm_table.specs.Limits.{work_formulas, all_nodes}
use Rattle.pm_table.specs.Running.{rules_within}
use Rattle.pm_table.proofs.Equals.{pure_eq_decides}
use Rattle.pm_action.specs.Meanings.{meaning, height, room, width}
use Rattle.pm_action.specs.Acting.{IsActed}
use Rattle.pm_action.proofs.Heights.{star_height, concl_height, parts_nodes}
use Rattle.pm_action.proofs.Moves.{few}
use Rattle.pm_closing.specs.Ways.{Tells, IsPart, GivesPart}
use Rattle.pm_closing.specs.Closed.{AreOpposite, FillsTwo}
use Rattle.pm_closing.proofs.Tests.{any_same}
use Rattle.pm_closing.proofs.Searches.{IsPassed, goes_on, any_at}
use Rattle.pm_closing.proofs.Places.{fact_part, work_within, work_part}
use Rattle.pm_closing.proofs.Taken.{part_depth, part_is_scoped}

-- ---- the search

abbrev pure_of : Fact → Pure
pure_of f = f.pure

-- the negation of the pure formula is there
abbrev pub denied : List Fact → Pure → Bool
denied fs p = list_any (λ (g : Fact). pure_eq g.pure (nope p)) fs

-- that of the fact is
abbrev pub is_denied : List Fact → Fact → Bool
is_denied fs f = denied fs f.pure

turned : (p q : Pure) → pure_eq p q ≡ pure_eq q p
turned p q = same_from_decides (pure_eq p q) (pure_eq q p) (pure_eq_decides p q) ((λ e. sym ((pure_eq_decides q p).0 e)), (λ e. (pure_eq_decides q p).1 (sym e)))

pub negation_told : (fs : List Fact) (p wanted : Pure) (r : Option ℕ) → wanted ≡ pure.Not p → Tells (list_any (λ (g : Fact). pure_eq wanted g.pure) fs) (λ j. option_map (λ (g : Fact). g.pure) (slice_get fs j) ≡ Some wanted) r → Tells (denied fs p) (λ j. option_map (λ (g : Fact). g.pure) (slice_get fs j) ≡ Some (nope p)) r
negation_told fs p wanted r is told = by r told
  where
    e : wanted ≡ nope p
    e = is ∙ view_not p

    test : list_any (λ (g : Fact). pure_eq wanted g.pure) fs ≡ denied fs p
    test = any_same (λ (g : Fact). pure_eq wanted g.pure) (λ (g : Fact). pure_eq g.pure (nope p)) (λ g. turned wanted g.pure ∙ ap (pure_eq g.pure) e) fs

    by : (r : Option ℕ) → Tells (list_any (λ (g : Fact). pure_eq wanted g.pure) fs) (λ j. option_map (λ (g : Fact). g.pure) (slice_get fs j) ≡ Some wanted) r → Tells (denied fs p) (λ j. option_map (λ (g : Fact). g.pure) (slice_get fs j) ≡ Some (nope p)) r
    by None t = sym test ∙ t
    by (Some j) t = (sym test ∙ t.0, t.1 ∙ ap Some e)

looked : (o : Option Fact) (y : Pure) → Some y ≡ option_map pure_of o → (x : Fact) × (o ≡ Some x) × (y ≡ x.pure)
looked None y e = absurd cc
looked (Some x) y e = (x, refl, let same : y ≡ x.pure = cc in same)

not_denied : (fs : List Fact) (i j : ℕ) (p : Pure) → j ≡ i + 1 → Some p ≡ option_map (λ (f : Fact). f.pure) (slice_get fs i) → denied fs p ≡ false → IsPassed (is_denied fs) fs i → IsPassed (is_denied fs) fs j
not_denied fs i j p next at fails before =
    let l = looked (slice_get fs i) p at in
    goes_on (is_denied fs) fs i j l.0 next l.1 (ap (denied fs) (sym l.2) ∙ fails) before

both_found : (fs : List Fact) (i j : ℕ) (p : Pure) → Some p ≡ option_map (λ (f : Fact). f.pure) (slice_get fs i) → denied fs p ≡ true → option_map (λ (f : Fact). f.pure) (slice_get fs j) ≡ Some (nope p) → Tells (is_contradictory fs) (AreOpposite fs) (Some (i, j))
both_found fs i j p at holds there =
    let l = looked (slice_get fs i) p at in
    (any_at (is_denied fs) fs i l.0 l.1 (ap (denied fs) (sym l.2) ∙ holds), record { fact = p; holds = sym at; fails = there })

-- and where the search for the negation is looked at afterwards
abbrev IsDenial : List Fact → Pure → ℕ → Type 0
IsDenial fs p j = option_map (λ (g : Fact). g.pure) (slice_get fs j) ≡ Some (nope p)

pub denial_found : (fs : List Fact) (i j : ℕ) (p : Pure) (o : Option ℕ) → Some p ≡ option_map (λ (f : Fact). f.pure) (slice_get fs i) → o ≡ Some j → Tells (denied fs p) (IsDenial fs p) o → Tells (is_contradictory fs) (AreOpposite fs) (Some (i, j))
denial_found fs i j p o at is told =
    let t = subst (λ (x : Option ℕ). Tells (denied fs p) (IsDenial fs p) x) is told in
    both_found fs i j p at t.0 t.1

pub denial_missed : (fs : List Fact) (i j : ℕ) (p : Pure) (o : Option ℕ) → j ≡ i + 1 → Some p ≡ option_map (λ (f : Fact). f.pure) (slice_get fs i) → o ≡ None → Tells (denied fs p) (IsDenial fs p) o → IsPassed (is_denied fs) fs i → IsPassed (is_denied fs) fs j
denial_missed fs i j p o next at is told before = not_denied fs i j p next at (subst (λ (x : Option ℕ). Tells (denied fs p) (IsDenial fs p) x) is told) before

-- ---- the proof

pub fills_two : (step a b mid t : Tree) → FillProves step 1 b mid → FillProves mid 0 a t → FillsTwo step a b t
fills_two step a b mid t second first e f g n m l d k p q r s z =
    let in_mid : Proves Every e (f ∷ []) (n + l) d k mid = second Every e (f ∷ g ∷ []) [] n l d k p (subst (λ (x : Entail). Proves Every x [] l d k b) (sym r.concludes) r) (λ preds u all. subst (ScopedWhere e []) (sym r.concludes) z preds u tt) in
    let done : Proves Every e [] (n + l + m) d k t = first Every e (f ∷ []) [] (n + l) m d k in_mid (subst (λ (x : Entail). Proves Every x [] m d k a) (sym q.concludes) q) (λ preds u all. subst (ScopedWhere e []) (sym q.concludes) s preds u tt) in
    weaker Every e [] (n + l + m) d k (n + m + l) d k t (omega arith) (omega arith) (omega arith) done

-- behind the second hole's proof the first hole is as it was
pub wants_mid : (step a b mid : Tree) → holes_of step ≡ conclusion a ∷ conclusion b ∷ [] → mid ≡ filled step 1 b → slice_get (holes_of mid) 0 ≡ Some (conclusion a)
wants_mid step a b mid is at =
    let there : slice_get (holes_of step) 1 ≡ Some (conclusion b) = ap (λ hs. slice_get hs 1) is in
    let holes : holes_of mid ≡ splice (conclusion a ∷ conclusion b ∷ []) 1 (holes_of b) = ap holes_of at ∙ (fills step 1 b there).holes ∙ ap (λ hs. splice hs 1 (holes_of b)) is in
    ap (λ hs. slice_get hs 0) holes

pub wants_second : (step a b : Tree) → holes_of step ≡ conclusion a ∷ conclusion b ∷ [] → slice_get (holes_of step) 1 ≡ Some (conclusion b)
wants_second step a b is = ap (λ hs. slice_get hs 1) is

-- the parts at the places of two facts
module _ (w : Work) (i j m n : ℕ) (p : Pure) (first : option_map (λ (f : Fact). f.pure) (slice_get w.goal.pures i) ≡ Some p) (second : option_map (λ (f : Fact). f.pure) (slice_get w.goal.pures j) ≡ Some (nope p)) (at_first : m ≡ i) (at_second : n ≡ j) where
  pub first_is : IsPart w.goal (Assert p) m
  first_is = fact_part w.goal i m p first at_first

  pub second_is : IsPart w.goal (Assert (nope p)) n
  second_is = fact_part w.goal j n (nope p) second at_second

  pub first_within : m < length (work_parts w)
  first_within = work_within w (Assert p) m first_is

  pub second_within : n < length (work_parts w)
  second_within = work_within w (Assert (nope p)) n second_is

  abbrev k : ℕ
  k = length w.goal.vars

  abbrev l : Formula
  l = left_of_work w

  abbrev holding : Entail
  holding = entail (length w.goal.vars) (left_of_work w) (Assert p)

  abbrev failing : Entail
  failing = entail (length w.goal.vars) (left_of_work w) (Assert (pure.Not p))

  no_part : part_at (work_parts w) n ≡ Assert (pure.Not p)
  no_part = work_part w (Assert (nope p)) n second_is ∙ ap Assert (sym (view_not p))

  abbrev count : ℕ
  count = 100 * (length (work_parts w) + 1) + 2

  first_given : (t : Tree) → GivesPart w m t → Proves Every holding [] count (room w []) (width w) t
  first_given t given = subst (λ (f : Formula). Proves Every (entail (length w.goal.vars) (left_of_work w) f) [] count (room w []) (width w) t) (work_part w (Assert p) m first_is) given

  second_given : (t : Tree) → GivesPart w n t → Proves Every failing [] count (room w []) (width w) t
  second_given t given = subst (λ (f : Formula). Proves Every (entail (length w.goal.vars) (left_of_work w) f) [] count (room w []) (width w) t) no_part given

  fact_deep : suc (pure_depth p) ≤ height w + 1
  fact_deep = omega (arith, part_depth w m first_within, ap depth_of (work_part w (Assert p) m first_is), depth_pure p)

  -- what the holes of the step are
  pub wants_two : (step a b : Tree) (e : Entail) (d : ℕ) → GivesPart w m a → GivesPart w n b → Proves Every e (holding ∷ failing ∷ []) 5 d k step → holes_of step ≡ conclusion a ∷ conclusion b ∷ []
  wants_two step a b e d ga gb q = q.holes ∙ ap₂ (λ x y. x ∷ y ∷ []) (sym (first_given a ga).concludes) (sym (second_given b gb).concludes)

  pub two_acted : (step a b t : Tree) → GivesPart w m a → GivesPart w n b
      → Proves Every (meaning w) (holding ∷ failing ∷ []) 5 (deepest (left_of_work w ∷ w.goal.concl ∷ []) (p ∷ []) + 3) k step → FillsTwo step a b t → IsActed (all_nodes (work_formulas w)) w [] t
  two_acted step a b t ga gb q fill =
      let s : ℕ = all_nodes (work_formulas w) in
      let d : ℕ = room w [] in
      let q1 : Proves Every (meaning w) (holding ∷ failing ∷ []) 5 d (width w) step = weaker Every (meaning w) (holding ∷ failing ∷ []) 5 (deepest (left_of_work w ∷ w.goal.concl ∷ []) (p ∷ []) + 3) k 5 d (width w) step (omega arith) (omega (arith, star_height w, concl_height w, fact_deep)) (omega arith) q in
      let scope1 : ScopedWhere (meaning w) [] holding = λ preds u all. (u.0, rw (sym (work_part w (Assert p) m first_is)) (part_is_scoped w m first_within preds k u.0)) in
      let scope2 : ScopedWhere (meaning w) [] failing = λ preds u all. (u.0, rw (sym no_part) (part_is_scoped w n second_within preds k u.0)) in
      let all : Proves Every (meaning w) [] (5 + count + count) d (width w) t = fill (meaning w) holding failing 5 count count d (width w) q1 (first_given a ga) (second_given b gb) scope1 scope2 in
      weaker Every (meaning w) [] (5 + count + count) d (width w) (rules_within s) d (width w) t (few s (5 + count + count) (omega (arith, parts_nodes w))) (omega arith) (omega arith) all

-- ---- by the places of a fact and its negation

pub first_there : (fs : List Fact) (i j : ℕ) → AreOpposite fs (i, j) → None ≡ option_map (λ (f : Fact). f.pure) (slice_get fs i) → ⊥
first_there fs i j o at = let e : None ≡ Some o.fact = at ∙ o.holds in absurd cc

pub is_first : (fs : List Fact) (i j : ℕ) (p : Pure) → AreOpposite fs (i, j) → Some p ≡ option_map (λ (f : Fact). f.pure) (slice_get fs i) → option_map (λ (f : Fact). f.pure) (slice_get fs i) ≡ Some p
is_first fs i j p o at = sym at

pub is_second : (fs : List Fact) (i j : ℕ) (p : Pure) → AreOpposite fs (i, j) → Some p ≡ option_map (λ (f : Fact). f.pure) (slice_get fs i) → option_map (λ (f : Fact). f.pure) (slice_get fs j) ≡ Some (nope p)
is_second fs i j p o at =
    let e : Some o.fact ≡ Some p = sym o.holds ∙ sym at in
    let same : o.fact ≡ p = cc in
    o.fails ∙ ap (λ x. Some (nope x)) same

pub step_is : (w : Work) (v : ℕ) (l : Formula) (p : Pure) (step : Tree) → v ≡ length w.goal.vars → l ≡ left_of_work w
    → Proves Every (entail v l w.goal.concl) (entail v l (Assert p) ∷ entail v l (Assert (pure.Not p)) ∷ []) 5 (deepest (l ∷ w.goal.concl ∷ []) (p ∷ []) + 3) v step
    → Proves Every (meaning w) (entail (length w.goal.vars) (left_of_work w) (Assert p) ∷ entail (length w.goal.vars) (left_of_work w) (Assert (pure.Not p)) ∷ []) 5 (deepest (left_of_work w ∷ w.goal.concl ∷ []) (p ∷ []) + 3) (length w.goal.vars) step
step_is w v l p step vars left q =
    subst (λ (x : Formula). Proves Every (entail (length w.goal.vars) x w.goal.concl) (entail (length w.goal.vars) x (Assert p) ∷ entail (length w.goal.vars) x (Assert (pure.Not p)) ∷ []) 5 (deepest (x ∷ w.goal.concl ∷ []) (p ∷ []) + 3) (length w.goal.vars) step) left
    (subst (λ (n : ℕ). Proves Every (entail n l w.goal.concl) (entail n l (Assert p) ∷ entail n l (Assert (pure.Not p)) ∷ []) 5 (deepest (l ∷ w.goal.concl ∷ []) (p ∷ []) + 3) n step) vars q)

pub left_is : (w : Work) (n : ℕ) (t : Tree) (e : Entail) → GivesPart w n t → e ≡ conclusion t → e.left ≡ left_of_work w
left_is w n t e given is = ap (λ (x : Entail). x.left) (is ∙ given.concludes)
