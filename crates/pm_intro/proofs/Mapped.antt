-- Lists that are built item by item from another, and names that stay apart on the way.
use Rattle.std.proofs.Common.{◌≡◌, ℕ, zero, suc, ◌+◌, ◌<◌, ◌≤◌, Bool, true, false, cond, List, [], ◌∷◌, ◌++◌, length, take, map, get_or, refl, sym, ◌∙◌, ap, ap₂, subst, arith, Some, None, bytes_eq}
use Rattle.std.specs.Prelude.{slice_get, position}
use Rattle.std.specs.List.{AllByRecursion}
use Rattle.std.proofs.lemmas.Slice.Eq.{bytes_eq-Decides}
use Rattle.std.proofs.lemmas.List.{take_all}
use Rattle.pm_logic.specs.Substitution.{shift_of}
use Rattle.pm_goal.specs.declared.goal.Hyp.{Hyp}
use Rattle.pm_goal.specs.declared.goal.Fact.{Fact}
use Rattle.pm_goal.specs.declared.work.Held.{Held}
use Rattle.pm_table.specs.Occurrences.{shifted_pure}
use Rattle.pm_table.specs.Works as works
use Rattle.pm_table.specs.Works.{Named}
use Rattle.pm_table.specs.Stepping.{times}
use Rattle.pm_action.proofs.Filtered.{zero_position}

-- what becomes of the first i items
pub record IsMapped {A B : Type 0} (part : A → B) (list : List A) (i : ℕ) (out : List B) : Type 0 where
  pub within : i ≤ length list
  pub is : out ≡ map part (take i list)

module _ {A B : Type 0} (part : A → B) where
  pub mapped_none : (list : List A) → IsMapped part list 0 []
  mapped_none list = record { within = omega arith; is = refl }

  more_mapped : (list : List A) (i : ℕ) (x : A) → slice_get list i ≡ Some x → map part (take (suc i) list) ≡ map part (take i list) ++ part x ∷ []
  more_mapped [] i x at = absurd cc
  more_mapped (y ∷ list) zero x at = ap (λ a. part a ∷ []) (let same : y ≡ x = cc in same)
  more_mapped (y ∷ list) (suc i) x at = ap (λ l. part y ∷ l) (more_mapped list i x at)

  inside : (list : List A) (i : ℕ) (x : A) → slice_get list i ≡ Some x → i < length list
  inside [] i x at = absurd cc
  inside (y ∷ list) zero x at = omega arith
  inside (y ∷ list) (suc i) x at = omega (arith, inside list i x at)

  pub mapped_more : (list : List A) (i j : ℕ) (x : A) (y : B) (out now : List B) → j ≡ i + 1 → slice_get list i ≡ Some x → y ≡ part x → IsMapped part list i out → now ≡ out ++ y ∷ [] → IsMapped part list j now
  mapped_more list i j x y out now next at same m e =
      let j_is : suc i ≡ j = omega (arith, next) in
      subst (λ n. IsMapped part list n now) j_is (record { within = omega (arith, inside list i x at); is = e ∙ ap₂ (λ l z. l ++ z ∷ []) m.is same ∙ sym (more_mapped list i x at) })

  pub mapped_all : (list : List A) (i : ℕ) (out : List B) → length list ≤ i → IsMapped part list i out → out ≡ map part list
  mapped_all list i out le m = m.is ∙ ap (λ l. map part l) (take_all i list le)

-- the item of a slice at a place within it
pub item_at : {A : Type 0} (list : List A) (i : ℕ) (x : A) → i < length list → x ≡ get_or list i x → slice_get list i ≡ Some x
item_at [] i x lt at = absurd (omega (arith, lt))
item_at (y ∷ list) zero x lt at = ap Some (sym at)
item_at (y ∷ list) (suc i) x lt at = item_at list i x (omega (arith, lt)) at

pub all_at : {A : Type 0} (P : A → Type 0) (list : List A) (i : ℕ) (x : A) → AllByRecursion P list → slice_get list i ≡ Some x → P x
all_at P [] i x all at = absurd cc
all_at P (y ∷ list) zero x all at = let same : y ≡ x = cc in subst P same all.0
all_at P (y ∷ list) (suc i) x all at = all_at P list i x all.1 at

-- ---- names

module _ {A B : Type 0} (name_of : A → Named) (name_in : B → Named) (part : A → B) (same : (x : A) → name_in (part x) ≡ name_of x) where
  same_names : (xs : List A) → map name_in (map part xs) ≡ map name_of xs
  same_names [] = refl
  same_names (x ∷ xs) = ap₂ (λ y ys. y ∷ ys) (same x) (same_names xs)

  itself : (x : Named) → bytes_eq x x ≡ true
  itself x = (bytes_eq-Decides x x).1 refl

  found : (x : Named) (xs : List A) (i : ℕ) (y : A) → name_of y ≡ x → slice_get xs i ≡ Some y → 1 ≤ times x (map name_of xs)
  found x [] i y is at = absurd cc
  found x (z ∷ xs) zero y is at = let it : z ≡ y = cc in let e : bytes_eq x (name_of z) ≡ true = rw it (rw is (itself x)) in rw e (omega arith)
  found x (z ∷ xs) (suc i) y is at = least (bytes_eq x (name_of z)) (times x (map name_of xs)) (found x xs i y is at)
    where
      least : (b : Bool) (n : ℕ) → 1 ≤ n → 1 ≤ cond b (suc n) n
      least true n le = omega arith
      least false n le = le

  -- before an item no other has its name, where none stands twice
  none_before : (x : Named) (xs : List A) (i : ℕ) (y : A) → slice_get xs i ≡ Some y → name_of y ≡ x → times x (map name_of xs) ≤ 1 → times x (map name_of (take i xs)) ≡ 0
  none_before x [] i y at is most = absurd cc
  none_before x (z ∷ xs) zero y at is most = refl
  none_before x (z ∷ xs) (suc i) y at is most = split (bytes_eq x (name_of z)) refl (λ m. none_before x xs i y at is m)
    where
      split : (b : Bool) → bytes_eq x (name_of z) ≡ b → (times x (map name_of xs) ≤ 1 → times x (map name_of (take i xs)) ≡ 0) → times x (map name_of (take (suc i) (z ∷ xs))) ≡ 0
      split true e rest = absurd (let m : suc (times x (map name_of xs)) ≤ 1 = subst (λ b. cond b (suc (times x (map name_of xs))) (times x (map name_of xs)) ≤ 1) e most in omega (arith, m, found x xs i y is at))
      split false e rest = let m : times x (map name_of xs) ≤ 1 = subst (λ b. cond b (suc (times x (map name_of xs))) (times x (map name_of xs)) ≤ 1) e most in rw e (rest m)

  -- so that what becomes of it can be put behind the others
  pub not_yet : (list : List A) (i : ℕ) (x : A) (out : List B) → slice_get list i ≡ Some x → ((n : Named) → times n (map name_of list) ≤ 1) → IsMapped part list i out → position (λ y. bytes_eq (name_of x) (name_in y)) out ≡ None
  not_yet list i x out at apart m =
      let before : times (name_of x) (map name_of (take i list)) ≡ 0 = none_before (name_of x) list i x at refl (apart (name_of x)) in
      let after : times (name_of x) (map name_in (map part (take i list))) ≡ 0 = ap (λ ns. times (name_of x) ns) (same_names (take i list)) ∙ before in
      subst (λ ys. position (λ y. bytes_eq (name_of x) (name_in y)) ys ≡ None) (sym m.is) (zero_position name_in (name_of x) (name_of x) (map part (take i list)) after)

-- ---- facts and hypotheses

abbrev pub raised_fact : Fact → Fact
raised_fact f = works.fact f.name (shifted_pure f.pure)

abbrev pub raised_hyp : Hyp → Hyp
raised_hyp h = works.hyp h.name (shift_of h.formula)

pub fact_not_yet : (fs : List Fact) (i : ℕ) (f g : Fact) (out : List Fact) → slice_get fs i ≡ Some f → g ≡ raised_fact f → ((n : Named) → times n (map (λ (x : Fact). x.name) fs) ≤ 1) → IsMapped raised_fact fs i out → position (λ x. bytes_eq g.name x.name) out ≡ None
fact_not_yet fs i f g out at same apart m = subst (λ (y : Fact). position (λ (x : Fact). bytes_eq y.name x.name) out ≡ None) (sym same) (not_yet (λ (x : Fact). x.name) (λ (x : Fact). x.name) raised_fact (λ x. refl) fs i f out at apart m)

pub hyp_not_yet : (hs : List Hyp) (i : ℕ) (h g : Hyp) (out : List Hyp) → slice_get hs i ≡ Some h → g ≡ raised_hyp h → ((n : Named) → times n (map (λ (x : Hyp). x.name) hs) ≤ 1) → IsMapped raised_hyp hs i out → position (λ x. bytes_eq g.name x.name) out ≡ None
hyp_not_yet hs i h g out at same apart m = subst (λ (y : Hyp). position (λ (x : Hyp). bytes_eq y.name x.name) out ≡ None) (sym same) (not_yet (λ (x : Hyp). x.name) (λ (x : Hyp). x.name) raised_hyp (λ x. refl) hs i h out at apart m)

-- ---- what is in hand

abbrev pub raised_held : Held → Held
raised_held h = works.holding h.kind (shift_of h.formula)
