-- Lists of names, and the first of one that fails a test.
use Rattle.std.proofs.Common.{◌≡◌, ℕ, zero, suc, ◌+◌, ◌<◌, ◌≤◌, Bool, true, false, not, ◌||◌, List, [], ◌∷◌, length, take, drop, get_or, refl, sym, ◌∙◌, ap, subst, arith, Option, Some, None, bytes_eq}
use Rattle.std.specs.Prelude.{Ok, Err, find}
use Rattle.std.specs.List.{list_any}
use Rattle.pm_goal.specs.declared.goal.Goal.{Goal}
use Rattle.pm_goal.specs.declared.work.Work.{Work}
use Rattle.pm_goal.specs.declared.refusal.Row.TheVariants.{NoSuchHypothesis, NotSpatial, NameGivenTwice}
use Rattle.pm_goal.specs.declared.refusal.StepFault.{StepFault}
use Rattle.pm_table.specs.Outcomes.{Outcome}
use Rattle.pm_table.specs.Limits.{limited}
use Rattle.pm_table.specs.Works.{Named, is_listed, has_hyp, has_spat}
use Rattle.pm_table.specs.Basic.{repeated, repeated_after, refuse_where}
use Rattle.pm_action.specs.Acting.{Answers, Refuses}
use Rattle.pm_action.proofs.Sums.{from_place}
use Rattle.pm_basic.specs.Deals.{AreSpatial}
use Rattle.pm_basic.proofs.Ending.{refused_by}

none_left : {A : Type 0} (xs : List A) (i : ℕ) → length xs ≤ i → drop i xs ≡ []
none_left [] zero le = refl
none_left [] (suc i) le = refl
none_left (x ∷ xs) zero le = absurd (omega (arith, le))
none_left (x ∷ xs) (suc i) le = none_left xs i (omega (arith, le))

-- ---- the first that stands before

module _ (xs : List Named) where
  -- those before don't
  pub record IsApart (i : ℕ) : Type 0 where
    pub seen : List Named
    pub same : (x : Named) → is_listed seen x ≡ is_listed (take i xs) x
    pub is : repeated xs ≡ repeated_after seen (drop i xs)

  pub apart_none : IsApart 0
  apart_none = record { seen = []; same = λ x. refl; is = refl }

  any_more : {A : Type 0} (p : A → Bool) (ys : List A) (i : ℕ) (y : A) → i < length ys → y ≡ get_or ys i y → list_any p (take (suc i) ys) ≡ p y || list_any p (take i ys)
  any_more p [] i y lt at = absurd (omega (arith, lt))
  any_more p (z ∷ ys) zero y lt at = ap (λ x. p x || false) (sym at)
  any_more p (z ∷ ys) (suc i) y lt at = ap (λ b. p z || b) (any_more p ys i y (omega (arith, lt)) at) ∙ swapped (p z) (p y) (list_any p (take i ys))
    where
      swapped : (a b c : Bool) → (a || (b || c)) ≡ (b || (a || c))
      swapped true true c = refl
      swapped true false c = refl
      swapped false true c = refl
      swapped false false c = refl

  pub apart_more : (i j : ℕ) (x : Named) → j ≡ i + 1 → i < length xs → x ≡ get_or xs i x → is_listed (take i xs) x ≡ false → IsApart i → IsApart j
  apart_more i j x next lt at e b =
      let j_is : suc i ≡ j = omega (arith, next) in
      subst IsApart j_is (record {
        seen = x ∷ b.seen;
        same = λ y. ap (λ c. bytes_eq y x || c) (b.same y) ∙ sym (any_more (bytes_eq y) xs i x lt at);
        is = b.is ∙ ap (repeated_after b.seen) (from_place xs i x lt at) ∙ step (b.same x ∙ e);
      })
    where
      step : is_listed b.seen x ≡ false → repeated_after b.seen (x ∷ drop (suc i) xs) ≡ repeated_after (x ∷ b.seen) (drop (suc i) xs)
      step e = rw e refl

  pub apart_found : (i : ℕ) (x : Named) → i < length xs → x ≡ get_or xs i x → is_listed (take i xs) x ≡ true → IsApart i → Some x ≡ repeated xs
  apart_found i x lt at e b = sym (b.is ∙ ap (repeated_after b.seen) (from_place xs i x lt at) ∙ step (b.same x ∙ e))
    where
      step : is_listed b.seen x ≡ true → repeated_after b.seen (x ∷ drop (suc i) xs) ≡ Some x
      step e = rw e refl

  pub apart_all : (i : ℕ) → length xs ≤ i → IsApart i → None ≡ repeated xs
  apart_all i le b = sym (b.is ∙ ap (repeated_after b.seen) (none_left xs i le))

-- ---- all three

module _ (goal : Goal) (xs : List Named) where
  abbrev first : Option Named
  first = find (λ x. not (has_hyp goal x)) xs

  abbrev second : Option Named
  second = find (λ x. not (has_spat goal x)) xs

  abbrev after_first : Outcome → Outcome
  after_first o = refuse_where second NotSpatial (refuse_where (repeated xs) NameGivenTwice o)

  pub first_fails : (x : Named) (f : StepFault) → Some x ≡ first → Refuses NoSuchHypothesis x f → AreSpatial goal xs (Err f)
  first_fails x f e h s w o = subst (λ (y : Option Named). Answers s w (limited (refuse_where y NoSuchHypothesis (after_first o))) (Err f)) e (refused_by s w NoSuchHypothesis x f h)

  past_first : (f : StepFault) → None ≡ first → ((s : ℕ) (w : Work) (o : Outcome) → Answers s w (limited (after_first o)) (Err f)) → AreSpatial goal xs (Err f)
  past_first f e h s w o = subst (λ (y : Option Named). Answers s w (limited (refuse_where y NoSuchHypothesis (after_first o))) (Err f)) e (h s w o)

  pub second_fails : (x : Named) (f : StepFault) → None ≡ first → Some x ≡ second → Refuses NotSpatial x f → AreSpatial goal xs (Err f)
  second_fails x f none e h = past_first f none (λ s w o. subst (λ (y : Option Named). Answers s w (limited (refuse_where y NotSpatial (refuse_where (repeated xs) NameGivenTwice o))) (Err f)) e (refused_by s w NotSpatial x f h))

  pub third_fails : (x : Named) (f : StepFault) → None ≡ first → None ≡ second → Some x ≡ repeated xs → Refuses NameGivenTwice x f → AreSpatial goal xs (Err f)
  third_fails x f none none2 e h =
      past_first f none (λ s w o. subst (λ (y : Option Named). Answers s w (limited (refuse_where y NotSpatial (refuse_where (repeated xs) NameGivenTwice o))) (Err f)) none2
      (subst (λ (y : Option Named). Answers s w (limited (refuse_where y NameGivenTwice o)) (Err f)) e (refused_by s w NameGivenTwice x f h)))

  pub none_fails : None ≡ first → None ≡ second → None ≡ repeated xs → AreSpatial goal xs (Ok tt)
  none_fails e1 e2 e3 o =
      ap (λ (y : Option Named). refuse_where y NoSuchHypothesis (after_first o)) (sym e1)
      ∙ ap (λ (y : Option Named). refuse_where y NotSpatial (refuse_where (repeated xs) NameGivenTwice o)) (sym e2)
      ∙ ap (λ (y : Option Named). refuse_where y NameGivenTwice o) (sym e3)
