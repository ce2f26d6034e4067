-- Runs one after another, as code answers them.
use Rattle.std.proofs.Common.{◌≡◌, ℕ, zero, suc, ◌+◌, ◌-◌, ◌<◌, ◌≤◌, List, [], ◌∷◌, ◌++◌, length, take, drop, reverse, get_or, refl, sym, ◌∙◌, ap, subst, arith}
use Rattle.std.specs.Prelude.{Result, Ok, Err}
use Rattle.std.proofs.lemmas.List.{take_all, reverse-append}
use Rattle.pm_goal.specs.declared.work.Work.{Work}
use Rattle.pm_goal.specs.declared.refusal.StepFault.{StepFault}
use Rattle.pm_proof.specs.declared.proof.Parts.{Parts}
use Rattle.pm_table.specs.declared.place.Place.{Place}
use Rattle.pm_table.specs.Limits.{work_at}
use Rattle.pm_table.specs.Running.{Run, ran, stopped, adding, after, in_order}
use Rattle.pm_sweep.specs.declared.act.Act.{Act}
use Rattle.pm_sweep.specs.Standing.{Follows, IsHandedTo, IsHandedToAll}
use Rattle.pm_sweep.proofs.Following.{then_follows, ends_follows}

abbrev pub Answer : Type 0
Answer = Result (Parts Place) StepFault

-- the same run of what is the same
pub at_same : {A : Type 0} (run : A → List Place → Run) (old : Parts Place) (s t : A) (result : Answer) → s ≡ t → Follows old (run t old.goals) result → Follows old (run s old.goals) result
at_same run old s t result is h = subst (λ x. Follows old (run x old.goals) result) (sym is) h

-- a fault, handed on
pub handed_on : (old : Parts Place) (r : Run) (result : Answer) (e : StepFault) → result ≡ Err e → Follows old r (Err e) → Follows old r result
handed_on old r result e is h = subst (λ x. Follows old r x) (sym is) h

-- ---- two and three runs that are one

module _ (old : Parts Place) (whole r : Run) where
  pub then_one : (mid : Parts Place) (f : List Place → Run) (result : Answer) → whole ≡ after r f → Follows old r (Ok mid) → Follows mid (f mid.goals) result → Follows old whole result
  then_one mid f result is a b = subst (λ s. Follows old s result) (sym is) (then_follows old mid r f result a b)

  pub first_ends : (f : List Place → Run) (result : Answer) (e : StepFault) → whole ≡ after r f → result ≡ Err e → Follows old r (Err e) → Follows old whole result
  first_ends f result e is same a = handed_on old whole result e same (subst (λ s. Follows old s (Err e)) (sym is) (ends_follows old r f e a))

  pub then_two : (mid next : Parts Place) (f g : List Place → Run) (result : Answer) → whole ≡ after r (λ qs. after (f qs) g) → Follows old r (Ok mid) → Follows mid (f mid.goals) (Ok next) → Follows next (g next.goals) result → Follows old whole result
  then_two mid next f g result is a b h = then_one mid (λ qs. after (f qs) g) result is a (then_follows mid next (f mid.goals) g result b h)

  pub second_ends : (mid : Parts Place) (f g : List Place → Run) (result : Answer) (e : StepFault) → whole ≡ after r (λ qs. after (f qs) g) → result ≡ Err e → Follows old r (Ok mid) → Follows mid (f mid.goals) (Err e) → Follows old whole result
  second_ends mid f g result e is same a b = handed_on old whole result e same (then_one mid (λ qs. after (f qs) g) (Err e) is a (ends_follows mid (f mid.goals) g e b))

adding_twice : (n m : ℕ) (r : Run) → adding (n + m) r ≡ adding n (adding m r)
adding_twice n m (ran k ps) = ap (λ i. ran i ps) (sum n m k)
  where
    sum : (n m k : ℕ) → (n + m) + k ≡ n + (m + k)
    sum n m k = omega arith
adding_twice n m (stopped x) = refl

after_adding : (n : ℕ) (r : Run) (g : List Place → Run) → after (adding n r) g ≡ adding n (after r g)
after_adding n (ran m ps) g = adding_twice n m (g ps)
after_adding n (stopped x) g = refl

-- a run after two that are one
pub after_both : (r : Run) (f g : List Place → Run) → after (after r f) g ≡ after r (λ qs. after (f qs) g)
after_both (ran n ps) f g = after_adding n (f ps) g
after_both (stopped x) f g = refl

pub nothing_after : (r : Run) → r ≡ after r (λ ps. ran 0 ps)
nothing_after (ran n ps) = ap (λ k. ran k ps) (none n)
  where
    none : (n : ℕ) → n ≡ n + 0
    none n = omega arith
nothing_after (stopped x) = refl

-- ---- lists of acts

module _ {A : Type 0} (step : A → List Place → Run) where
  -- the first, then the others
  pub goes_on : (old next : Parts Place) (xs : List A) (x : A) (result : Answer) → 1 ≤ length xs → x ≡ get_or xs 0 x → Follows old (step x old.goals) (Ok next) → Follows next (in_order step (take (length xs - 1) (drop 1 xs)) next.goals) result → Follows old (in_order step xs old.goals) result
  goes_on old next [] x result lt at a b = absurd (omega (arith, lt))
  goes_on old next (y ∷ xs) x result lt at a b =
      then_follows old next (step y old.goals) (in_order step xs) result (subst (λ z. Follows old (step z old.goals) (Ok next)) at a)
      (subst (λ ys. Follows next (in_order step ys next.goals) result) (take_all (length (y ∷ xs) - 1) xs (omega arith)) b)

  pub ends : (old : Parts Place) (xs : List A) (x : A) (result : Answer) (e : StepFault) → 1 ≤ length xs → x ≡ get_or xs 0 x → result ≡ Err e → Follows old (step x old.goals) (Err e) → Follows old (in_order step xs old.goals) result
  ends old [] x result e lt at same a = absurd (omega (arith, lt))
  ends old (y ∷ xs) x result e lt at same a = handed_on old (in_order step (y ∷ xs) old.goals) result e same (ends_follows old (step y old.goals) (in_order step xs) e (subst (λ z. Follows old (step z old.goals) (Err e)) at a))

take_more : {A : Type 0} (xs : List A) (i : ℕ) (x : A) → i < length xs → x ≡ get_or xs i x → take (suc i) xs ≡ take i xs ++ x ∷ []
take_more [] i x lt at = absurd (omega (arith, lt))
take_more (y ∷ xs) zero x lt at = ap (λ z. z ∷ []) (sym at)
take_more (y ∷ xs) (suc i) x lt at = ap (λ zs. y ∷ zs) (take_more xs i x (omega (arith, lt)) at)

last_behind : {A : Type 0} (xs : List A) (x : A) → 1 ≤ length xs → x ≡ get_or xs (length xs - 1) x → xs ≡ take (length xs - 1) xs ++ x ∷ []
last_behind xs x lt at =
    let whole : take (suc (length xs - 1)) xs ≡ xs = take_all (suc (length xs - 1)) xs (omega (arith, lt)) in
    sym whole ∙ take_more xs (length xs - 1) x (omega (arith, lt)) at

last_first : {A : Type 0} (xs : List A) (x : A) → 1 ≤ length xs → x ≡ get_or xs (length xs - 1) x → reverse xs ≡ x ∷ reverse (take (length xs - 1) xs)
last_first xs x lt at = ap reverse (last_behind xs x lt at) ∙ reverse-append (take (length xs - 1) xs) (x ∷ [])

module _ {A : Type 0} (step : A → List Place → Run) where
  -- the last, then the others before it
  pub goes_back : (old next : Parts Place) (xs : List A) (x : A) (result : Answer) → 1 ≤ length xs → x ≡ get_or xs (length xs - 1) x → Follows old (step x old.goals) (Ok next) → Follows next (in_order step (reverse (take (length xs - 1) xs)) next.goals) result → Follows old (in_order step (reverse xs) old.goals) result
  goes_back old next xs x result lt at a b =
      subst (λ ys. Follows old (in_order step ys old.goals) result) (sym (last_first xs x lt at))
      (then_follows old next (step x old.goals) (in_order step (reverse (take (length xs - 1) xs))) result a b)

  pub ends_back : (old : Parts Place) (xs : List A) (x : A) (result : Answer) (e : StepFault) → 1 ≤ length xs → x ≡ get_or xs (length xs - 1) x → result ≡ Err e → Follows old (step x old.goals) (Err e) → Follows old (in_order step (reverse xs) old.goals) result
  ends_back old xs x result e lt at same a =
      handed_on old (in_order step (reverse xs) old.goals) result e same
      (subst (λ ys. Follows old (in_order step ys old.goals) (Err e)) (sym (last_first xs x lt at))
      (ends_follows old (step x old.goals) (in_order step (reverse (take (length xs - 1) xs))) e a))

-- ---- what is handed to actions

-- an action to which nothing is handed
pub nothing_handed : (a : Act) → ((w : Work) → IsHandedTo a w) → (ps : List Place) → IsHandedToAll a ps
nothing_handed a any [] = tt
nothing_handed a any (p ∷ ps) = (any (work_at p), nothing_handed a any ps)
