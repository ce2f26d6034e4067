-- The rows that refuse a combination, and what is combined where none does.
use Rattle.std.proofs.Common.{◌≡◌, ℕ, Bool, true, false, cond, not, ◌||◌, List, [], ◌∷◌, ◌++◌, refl, sym, ◌∙◌, ap, ap₂, subst, Option, Some, None, is_some, filter, bytes_eq}
use Rattle.std.specs.Prelude.{Result, Ok, Err, find}
use Rattle.std.proofs.lemmas.Slice.Eq.{bytes_eq-Decides}
use Rattle.pm_logic.specs.declared.formula.Formula.{Formula}
use Rattle.pm_goal.specs.declared.goal.Hyp.{Hyp}
use Rattle.pm_goal.specs.declared.goal.Goal.{Goal}
use Rattle.pm_goal.specs.declared.work.Kind.TheVariants as kind
use Rattle.pm_goal.specs.declared.work.Held.{Held}
use Rattle.pm_goal.specs.declared.work.Work.{Work}
use Rattle.pm_goal.specs.declared.refusal.Row.TheVariants.{NoSuchHypothesis, NotSpatial, NameGivenTwice}
use Rattle.pm_goal.specs.declared.refusal.StepFault.{StepFault}
use Rattle.pm_proof.specs.declared.proof.Parts.{Parts}
use Rattle.pm_classes.specs.Classes.{combine}
use Rattle.pm_table.specs.declared.place.Place.{Place}
use Rattle.pm_table.specs.Outcomes.{Outcome, closed, one, require_some}
use Rattle.pm_table.specs.Limits.{limited, resting}
use Rattle.pm_table.specs.Works.{Named, hyp_named, hyps_but, hyps_out, has_hyp, has_spat, is_listed, hold, without_spat, without_named, work_of}
use Rattle.pm_table.specs.Basic.{on_goal, with_spats, all_spatial, repeated}
use Rattle.pm_table.specs.Destructs.{is_falsehood}
use Rattle.pm_table.specs.Heap.{combine_held, holding_combined}
use Rattle.pm_action.specs.Acting.{Answers, Refuses}
use Rattle.pm_hand.specs.Changed.{less}
use Rattle.pm_hand.specs.Looking.{IsHypAt}
use Rattle.pm_hand.proofs.Lookups.{only_spat}
use Rattle.pm_basic.proofs.Building.{same_name, name_is}
use Rattle.pm_basic.proofs.Ending.{on_rest, refused_by}
use Rattle.pm_basic.proofs.Listing.{first_fails, second_fails, third_fails, none_fails}
use Rattle.pm_heap.specs.Taken.{without_both}
use Rattle.pm_heap.specs.declared.combining.Two.{Two}
use Rattle.pm_heap.specs.Found.{IsSpatialAt}
use Rattle.pm_heap.specs.Combined.{AreTwo, AreTaken, combining, two_row}

-- ---- names

module _ (goal : Goal) (a b : Named) where
  abbrev two : List Named
  two = a ∷ b ∷ []

  -- the first of the two that fails a test
  found_first : (test : Named → Bool) → test a ≡ false → Some a ≡ find (λ x. not (test x)) (a ∷ b ∷ [])
  found_first test e = ap (λ t. cond (not t) (Some a) (find (λ x. not (test x)) (b ∷ []))) (sym e)

  found_second : (test : Named → Bool) → test a ≡ true → test b ≡ false → Some b ≡ find (λ x. not (test x)) (a ∷ b ∷ [])
  found_second test e n = ap₂ (λ t u. cond (not t) (Some a) (cond (not u) (Some b) None)) (sym e) (sym n)

  found_none : (test : Named → Bool) → test a ≡ true → test b ≡ true → None ≡ find (λ x. not (test x)) (a ∷ b ∷ [])
  found_none test e n = ap₂ (λ t u. cond (not t) (Some a) (cond (not u) (Some b) None)) (sym e) (sym n)

  pub first_missing : (f : StepFault) → has_hyp goal a ≡ false → Refuses NoSuchHypothesis a f → AreTwo goal a b (Err f)
  first_missing f e h = first_fails goal two a f (found_first (has_hyp goal) e) h

  pub second_missing : (f : StepFault) → has_hyp goal a ≡ true → has_hyp goal b ≡ false → Refuses NoSuchHypothesis b f → AreTwo goal a b (Err f)
  second_missing f e n h = first_fails goal two b f (found_second (has_hyp goal) e n) h

  pub first_intuitionistic : (f : StepFault) → has_hyp goal a ≡ true → has_hyp goal b ≡ true → has_spat goal a ≡ false → Refuses NotSpatial a f → AreTwo goal a b (Err f)
  first_intuitionistic f e n s h = second_fails goal two a f (found_none (has_hyp goal) e n) (found_first (has_spat goal) s) h

  pub second_intuitionistic : (f : StepFault) → has_hyp goal a ≡ true → has_hyp goal b ≡ true → has_spat goal a ≡ true → has_spat goal b ≡ false → Refuses NotSpatial b f → AreTwo goal a b (Err f)
  second_intuitionistic f e n s u h = second_fails goal two b f (found_none (has_hyp goal) e n) (found_second (has_spat goal) s u) h

  pub given_twice : (f : StepFault) → has_hyp goal a ≡ true → has_hyp goal b ≡ true → has_spat goal a ≡ true → has_spat goal b ≡ true → bytes_eq b a ≡ true → Refuses NameGivenTwice b f → AreTwo goal a b (Err f)
  given_twice f e n s u same h = third_fails goal two b f (found_none (has_hyp goal) e n) (found_none (has_spat goal) s u) (ap (λ t. cond (t || false) (Some b) None) (sym same)) h

  pub are_two : has_hyp goal a ≡ true → has_hyp goal b ≡ true → has_spat goal a ≡ true → has_spat goal b ≡ true → bytes_eq b a ≡ false → AreTwo goal a b (Ok tt)
  are_two e n s u other = (other, none_fails goal two (found_none (has_hyp goal) e n) (found_none (has_spat goal) s u) (ap (λ t. cond (t || false) (Some b) None) (sym other)))

-- ---- the context without both

symmetric : (x y : Named) → bytes_eq x y ≡ bytes_eq y x
symmetric x y = by (bytes_eq x y) (bytes_eq y x) refl refl
  where
    by : (p q : Bool) → bytes_eq x y ≡ p → bytes_eq y x ≡ q → p ≡ q
    by true true e n = refl
    by false false e n = refl
    by true false e n = sym (same_name y) ∙ ap (bytes_eq y) (sym (name_is x y e)) ∙ n
    by false true e n = sym e ∙ ap (bytes_eq x) (name_is y x n) ∙ same_name x

other_first : (a b : Named) (h : Hyp) → bytes_eq b a ≡ false → bytes_eq a h.name ≡ true → bytes_eq b h.name ≡ false
other_first a b h other e = ap (bytes_eq b) (sym (name_is a h.name e)) ∙ other

-- the second is still there without the first
pub still_named : (a b : Named) (hs : List Hyp) → bytes_eq b a ≡ false → hyp_named b (hyps_but a hs) ≡ hyp_named b hs
still_named a b [] other = refl
still_named a b (h ∷ hs) other = by (bytes_eq a h.name) refl (still_named a b hs other)
  where
    by : (p : Bool) → bytes_eq a h.name ≡ p → hyp_named b (hyps_but a hs) ≡ hyp_named b hs → hyp_named b (cond (not p) (h ∷ hyps_but a hs) (hyps_but a hs)) ≡ hyp_named b (h ∷ hs)
    by true e rest = rest ∙ ap (λ t. cond t (Some h.formula) (hyp_named b hs)) (sym (other_first a b h other e))
    by false e rest = ap (cond (bytes_eq b h.name) (Some h.formula)) rest

listed : (a b : Named) (h : Hyp) (p q : Bool) → bytes_eq a h.name ≡ p → bytes_eq b h.name ≡ q → is_listed (a ∷ b ∷ []) h.name ≡ (p || (q || false))
listed a b h p q e n = ap₂ (λ x y. x || (y || false)) (symmetric h.name a ∙ e) (symmetric h.name b ∙ n)

pub both_out : (a b : Named) (hs : List Hyp) → hyps_but b (hyps_but a hs) ≡ hyps_out (a ∷ b ∷ []) hs
both_out a b [] = refl
both_out a b (h ∷ hs) = by (bytes_eq a h.name) (bytes_eq b h.name) refl refl (both_out a b hs)
  where
    by : (p q : Bool) → bytes_eq a h.name ≡ p → bytes_eq b h.name ≡ q → hyps_but b (hyps_but a hs) ≡ hyps_out (a ∷ b ∷ []) hs → hyps_but b (hyps_but a (h ∷ hs)) ≡ hyps_out (a ∷ b ∷ []) (h ∷ hs)
    by true q e n rest = ap (λ t. hyps_but b (cond (not t) (h ∷ hyps_but a hs) (hyps_but a hs))) e ∙ rest ∙ ap (λ t. cond (not t) (h ∷ hyps_out (a ∷ b ∷ []) hs) (hyps_out (a ∷ b ∷ []) hs)) (sym (listed a b h true q e n))
    by false true e n rest =
        ap (λ t. hyps_but b (cond (not t) (h ∷ hyps_but a hs) (hyps_but a hs))) e
        ∙ ap (λ t. cond (not t) (h ∷ hyps_but b (hyps_but a hs)) (hyps_but b (hyps_but a hs))) n ∙ rest
        ∙ ap (λ t. cond (not t) (h ∷ hyps_out (a ∷ b ∷ []) hs) (hyps_out (a ∷ b ∷ []) hs)) (sym (listed a b h false true e n))
    by false false e n rest =
        ap (λ t. hyps_but b (cond (not t) (h ∷ hyps_but a hs) (hyps_but a hs))) e
        ∙ ap (λ t. cond (not t) (h ∷ hyps_but b (hyps_but a hs)) (hyps_but b (hyps_but a hs))) n ∙ ap (λ l. h ∷ l) rest
        ∙ ap (λ t. cond (not t) (h ∷ hyps_out (a ∷ b ∷ []) hs) (hyps_out (a ∷ b ∷ []) hs)) (sym (listed a b h false false e n))

-- the goal without both, by their spatial context alone
pub goal_without : (goal : Goal) (a b : Named) (p1 p2 : ℕ) (f g : Formula) → IsHypAt goal a p1 kind.Spat f → IsHypAt (without_named a goal) b p2 kind.Spat g
    → without_named b (without_named a goal) ≡ with_spats (hyps_out (a ∷ b ∷ []) goal.spats) goal
goal_without goal a b p1 p2 f g first second =
    sym (only_spat (without_named a goal) b second.named.ints second.named.pures)
    ∙ ap (without_spat b) (sym (only_spat goal a first.named.ints first.named.pures))
    ∙ ap (λ hs. with_spats hs goal) (both_out a b goal.spats)

-- ---- what follows

pub holds_combined : (s : ℕ) (w : Work) (a b : Named) (p1 p2 : ℕ) (f g : Formula) (r : Result (Parts Place) StepFault) → w.held ≡ [] → bytes_eq b a ≡ false
    → IsHypAt w.goal a p1 kind.Spat f → IsHypAt (without_named a w.goal) b p2 kind.Spat g
    → Answers s w (limited (combining w a b (combine f g))) r → Answers s w (limited (two_row a b w.goal)) r
holds_combined s w a b p1 p2 f g r nothing other first second h =
    let goal = w.goal in
    let c = combine f g in
    let rest : without_both w a b ≡ resting (with_spats (hyps_out (a ∷ b ∷ []) goal.spats) goal) = ap₂ work_of (goal_without goal a b p1 p2 f g first second) nothing in
    let has_second : hyp_named b goal.spats ≡ Some g = sym (still_named a b goal.spats other) ∙ second.named.spats in
    let row : two_row a b goal ≡ holding_combined c (with_spats (hyps_out (a ∷ b ∷ []) goal.spats) goal) =
    ap₂ (λ x y. require_some x NoSuchHypothesis a (λ (f1 : Formula). require_some y NoSuchHypothesis b (λ (g1 : Formula). holding_combined (combine f1 g1) (with_spats (hyps_out (a ∷ b ∷ []) goal.spats) goal)))) first.named.spats has_second in
    subst (λ o. Answers s w (limited o) r) (sym row) (subst (λ (x : Work). Answers s w (limited (cond (is_falsehood c) closed (one (hold kind.Spat c x)))) r) rest h)

pub first_not_there : (s : ℕ) (w : Work) (a b : Named) (f : StepFault) → hyp_named a w.goal.spats ≡ None → Refuses NoSuchHypothesis a f → Answers s w (limited (two_row a b w.goal)) (Err f)
first_not_there s w a b f e h =
    subst (λ (x : Option Formula). Answers s w (limited (require_some x NoSuchHypothesis a (λ (f1 : Formula). require_some (hyp_named b w.goal.spats) NoSuchHypothesis b (λ (g1 : Formula). holding_combined (combine f1 g1) (with_spats (hyps_out (a ∷ b ∷ []) w.goal.spats) w.goal))))) (Err f)) (sym e)
    (refused_by s w NoSuchHypothesis a f h)

pub second_not_there : (s : ℕ) (w : Work) (a b : Named) (p : ℕ) (g : Formula) (f : StepFault) → bytes_eq b a ≡ false → IsHypAt w.goal a p kind.Spat g → hyp_named b (without_named a w.goal).spats ≡ None → Refuses NoSuchHypothesis b f → Answers s w (limited (two_row a b w.goal)) (Err f)
second_not_there s w a b p g f other first e h =
    subst (λ o. Answers s w (limited o) (Err f))
    (sym (ap₂ (λ x y. require_some x NoSuchHypothesis a (λ (f1 : Formula). require_some y NoSuchHypothesis b (λ (g1 : Formula). holding_combined (combine f1 g1) (with_spats (hyps_out (a ∷ b ∷ []) w.goal.spats) w.goal)))) first.named.spats (sym (still_named a b w.goal.spats other) ∙ e)))
    (refused_by s w NoSuchHypothesis b f h)

-- ---- the whole row

pub row_follows : (s : ℕ) (w : Work) (a b : Named) (r : Result (Parts Place) StepFault) → w.held ≡ [] → AreTwo w.goal a b (Ok tt) → Answers s w (limited (two_row a b w.goal)) r → Answers s w (limited (on_goal (combine_held a b) w)) r
row_follows s w a b r nothing two h = on_rest s w (combine_held a b) r nothing (subst (λ o. Answers s w (limited o) r) (sym (two.1 (two_row a b w.goal))) h)

pub row_refused : (s : ℕ) (w : Work) (a b : Named) (f : StepFault) → w.held ≡ [] → AreTwo w.goal a b (Err f) → Answers s w (limited (on_goal (combine_held a b) w)) (Err f)
row_refused s w a b f nothing two = on_rest s w (combine_held a b) (Err f) nothing (two s w (two_row a b w.goal))

-- ---- as the calls have it

pub taken_two : (w one : Work) (a b : Named) (t : Two) → bytes_eq b a ≡ false → one ≡ less w a → IsSpatialAt w.goal a t.first.place t.first.formula → IsSpatialAt one.goal b t.second.place t.second.formula
    → t.middle ≡ hold kind.Spat t.first.formula one → t.rest ≡ less one b → AreTaken w a b t
taken_two w one a b t other is first second middle rest =
    let there : IsSpatialAt (without_named a w.goal) b t.second.place t.second.formula = subst (λ (x : Work). IsSpatialAt x.goal b t.second.place t.second.formula) is second in
    record {
      has_first = first.at.named.spats;
      has_second = sym (still_named a b w.goal.spats other) ∙ there.at.named.spats;
      first = first.at.at;
      middle = middle ∙ ap (hold kind.Spat t.first.formula) is;
      second = there.at.at;
      rest = rest ∙ ap (λ (x : Work). less x b) is;
    }

pub holds_two : (s : ℕ) (w one : Work) (a b : Named) (p1 p2 : ℕ) (f g : Formula) (r : Result (Parts Place) StepFault) → w.held ≡ [] → bytes_eq b a ≡ false → one ≡ less w a
    → IsSpatialAt w.goal a p1 f → IsSpatialAt one.goal b p2 g → Answers s w (limited (combining w a b (combine f g))) r → Answers s w (limited (two_row a b w.goal)) r
holds_two s w one a b p1 p2 f g r nothing other is first second h =
    let there : IsSpatialAt (without_named a w.goal) b p2 g = subst (λ (x : Work). IsSpatialAt x.goal b p2 g) is second in
    holds_combined s w a b p1 p2 f g r nothing other first.at there.at h

pub second_gone : (s : ℕ) (w one : Work) (a b : Named) (p : ℕ) (g : Formula) (f : StepFault) → bytes_eq b a ≡ false → one ≡ less w a → IsSpatialAt w.goal a p g → hyp_named b one.goal.spats ≡ None → Refuses NoSuchHypothesis b f
    → Answers s w (limited (two_row a b w.goal)) (Err f)
second_gone s w one a b p g f other is first e h = second_not_there s w a b p g f other first.at (ap (λ (x : Work). hyp_named b x.goal.spats) (sym is) ∙ e) h
