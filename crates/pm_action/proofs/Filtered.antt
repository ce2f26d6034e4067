-- Contexts without the hypotheses of a name, and what is last in hand.
use Rattle.std.proofs.Common.{◌≡◌, ℕ, zero, suc, ◌+◌, ◌-◌, ◌<◌, ◌≤◌, Bool, true, false, not, cond, List, [], ◌∷◌, ◌++◌, length, take, map, filter, get_or, refl, sym, ◌∙◌, ap, ap₂, subst, arith, Option, Some, None, bytes_eq}
use Rattle.std.specs.Prelude.{slice_get, option_map, position}
use Rattle.std.specs.List.{position_from}
use Rattle.std.proofs.lemmas.Iterator.Adapters.{position_from-zero}
use Rattle.std.proofs.lemmas.Slice.Eq.{bytes_eq-Decides}
use Rattle.std.proofs.lemmas.List.{append-nil, append_assoc}
use Rattle.pm_logic.specs.declared.formula.Formula.{Formula}
use Rattle.pm_logic.specs.declared.formula.Pure.{Pure}
use Rattle.pm_goal.specs.declared.goal.Hyp.{Hyp}
use Rattle.pm_goal.specs.declared.goal.Fact.{Fact}
use Rattle.pm_goal.specs.declared.work.Held.{Held}
use Rattle.pm_table.specs.Works.{Named, Hand, behind, hand_or, hand_of, hyps_but, facts_but}
use Rattle.pm_table.specs.Works as works
use Rattle.pm_table.specs.Stepping.{times}
use Rattle.pm_action.specs.Acting.{all_but_last}

-- ---- a list filtered by a name, item by item

module _ {A : Type 0} (name_of : A → Named) (name : Named) where
  abbrev test : A → Bool
  test x = not (bytes_eq name (name_of x))

  abbrev kept : A → List A
  kept x = cond (test x) (x ∷ []) []

  -- those of the first i items that have other names
  pub record IsFiltered (list : List A) (i : ℕ) (out : List A) : Type 0 where
    pub within : i ≤ length list
    pub is : out ≡ filter test (take i list)

  pub filtered_none : (list : List A) → IsFiltered list 0 []
  filtered_none list = record { within = omega arith; is = refl }

  filter_cons : (x : A) (xs : List A) (b : Bool) → test x ≡ b → filter test (x ∷ xs) ≡ kept x ++ filter test xs
  filter_cons x xs true e = rw e refl
  filter_cons x xs false e = rw e refl

  more : (list : List A) (i : ℕ) (x : A) → slice_get list i ≡ Some x → filter test (take (suc i) list) ≡ filter test (take i list) ++ kept x
  more [] i x at = absurd cc
  more (y ∷ list) zero x at = let same : y ≡ x = cc in filter_cons y [] (test y) refl ∙ (append-nil (kept y) ∙ ap kept same)
  more (y ∷ list) (suc i) x at =
      filter_cons y (take (suc i) list) (test y) refl
      ∙ ap (λ zs. kept y ++ zs) (more list i x at)
      ∙ sym (append_assoc (kept y) (filter test (take i list)) (kept x))
      ∙ ap (λ zs. zs ++ kept x) (sym (filter_cons y (take i list) (test y) refl))

  inside : (list : List A) (i : ℕ) (x : A) → slice_get list i ≡ Some x → i < length list
  inside [] i x at = absurd cc
  inside (y ∷ list) zero x at = omega arith
  inside (y ∷ list) (suc i) x at = omega (arith, inside list i x at)

  pub filtered_more : (list : List A) (i j : ℕ) (x : A) (out now : List A) → j ≡ i + 1 → slice_get list i ≡ Some x → IsFiltered list i out → now ≡ out ++ kept x → IsFiltered list j now
  filtered_more list i j x out now next at f e =
      let j_is : suc i ≡ j = omega (arith, next) in
      subst (λ n. IsFiltered list n now) j_is (record { within = omega (arith, inside list i x at); is = e ∙ (ap (λ zs. zs ++ kept x) f.is ∙ sym (more list i x at)) })

  all_taken : (list : List A) (i : ℕ) → length list ≤ i → take i list ≡ list
  all_taken [] zero le = refl
  all_taken [] (suc i) le = refl
  all_taken (y ∷ list) zero le = absurd (omega (arith, le))
  all_taken (y ∷ list) (suc i) le = ap (λ ys. y ∷ ys) (all_taken list i (omega (arith, le)))

  pub filtered_all : (list : List A) (i : ℕ) (out : List A) → length list ≤ i → IsFiltered list i out → out ≡ filter test list
  filtered_all list i out le f = f.is ∙ ap (filter test) (all_taken list i le)

  -- ---- names that don't occur

  abbrev all_names : List A → List Named
  all_names xs = map name_of xs

  same_name : (x : Named) → bytes_eq x x ≡ true
  same_name x = (bytes_eq-Decides x x).1 refl

  passed : (b : Bool) (j n : ℕ) (o : Option ℕ) → cond b (suc n) n ≡ 0 → (n ≡ 0 → o ≡ None) → cond b (Some j) o ≡ None
  passed true j n o e rest = absurd (omega (arith, e))
  passed false j n o e rest = rest e

  none_from : (x : Named) (j : ℕ) (xs : List A) → times x (all_names xs) ≡ 0 → position_from (λ y. bytes_eq x (name_of y)) j xs ≡ None
  none_from x j [] e = refl
  none_from x j (y ∷ ys) e = passed (bytes_eq x (name_of y)) j (times x (all_names ys)) (position_from (λ y. bytes_eq x (name_of y)) (j + 1) ys) e (none_from x (j + 1) ys)

  pub zero_position : (x : Named) (xs : List A) → times x (all_names xs) ≡ 0 → position (λ y. bytes_eq x (name_of y)) xs ≡ None
  zero_position x xs e = position_from-zero (λ y. bytes_eq x (name_of y)) xs ∙ none_from x 0 xs e

  zero_kept : (x : Named) (t b : Bool) (y : A) (ys : List A) → bytes_eq x (name_of y) ≡ b → cond b (suc (times x (all_names ys))) (times x (all_names ys)) ≡ 0 → (times x (all_names ys) ≡ 0 → times x (all_names (filter test ys)) ≡ 0) → times x (all_names (cond t (y ∷ filter test ys) (filter test ys))) ≡ 0
  zero_kept x t true y ys is e rest = absurd (omega (arith, e))
  zero_kept x true false y ys is e rest = rw is (rest e)
  zero_kept x false false y ys is e rest = rest e

  zero_filter : (x : Named) (xs : List A) → times x (all_names xs) ≡ 0 → times x (all_names (filter test xs)) ≡ 0
  zero_filter x [] e = refl
  zero_filter x (y ∷ ys) e = zero_kept x (test y) (bytes_eq x (name_of y)) y ys refl e (zero_filter x ys)

  -- before an item no other has its name, where none stands twice
  zero_before : (x : Named) (xs : List A) (i : ℕ) (y : A) → slice_get xs i ≡ Some y → name_of y ≡ x → times x (all_names xs) ≤ 1 → times x (all_names (take i xs)) ≡ 0
  zero_before x [] i y at is most = absurd cc
  zero_before x (z ∷ xs) zero y at is most = refl
  zero_before x (z ∷ xs) (suc i) y at is most = split (bytes_eq x (name_of z)) refl (λ m. zero_before x xs i y at is m)
    where
      found : (xs : List A) (i : ℕ) → slice_get xs i ≡ Some y → 1 ≤ times x (all_names xs)
      found [] i at = absurd cc
      found (z ∷ xs) zero at = let same : z ≡ y = cc in let e : bytes_eq x (name_of z) ≡ true = rw same (rw is (same_name x)) in rw e (omega arith)
      found (z ∷ xs) (suc i) at = least (bytes_eq x (name_of z)) (times x (all_names xs)) (found xs i at)
        where
          least : (b : Bool) (n : ℕ) → 1 ≤ n → 1 ≤ cond b (suc n) n
          least true n le = omega arith
          least false n le = le

      split : (b : Bool) → bytes_eq x (name_of z) ≡ b → (times x (all_names xs) ≤ 1 → times x (all_names (take i xs)) ≡ 0) → times x (all_names (take (suc i) (z ∷ xs))) ≡ 0
      split true e rest = absurd (let m : suc (times x (all_names xs)) ≤ 1 = subst (λ b. cond b (suc (times x (all_names xs))) (times x (all_names xs)) ≤ 1) e most in omega (arith, m, found xs i at))
      split false e rest = let m : times x (all_names xs) ≤ 1 = subst (λ b. cond b (suc (times x (all_names xs))) (times x (all_names xs)) ≤ 1) e most in rw e (rest m)

  pub not_before : (list : List A) (i : ℕ) (x : A) (out : List A) → slice_get list i ≡ Some x → ((n : Named) → times n (all_names list) ≤ 1) → IsFiltered list i out → position (λ y. bytes_eq (name_of x) (name_of y)) out ≡ None
  not_before list i x out at apart f =
      subst (λ ys. position (λ y. bytes_eq (name_of x) (name_of y)) ys ≡ None) (sym f.is)
      (zero_position (name_of x) (filter test (take i list)) (zero_filter (name_of x) (take i list) (zero_before (name_of x) list i x at refl (apart (name_of x)))))

-- ---- a list copied item by item

pub record IsCopied {A : Type 0} (list : List A) (i : ℕ) (out : List A) : Type 0 where
  pub within : i ≤ length list
  pub is : out ≡ take i list

take_more : {A : Type 0} (xs : List A) (i : ℕ) (x : A) → i < length xs → x ≡ get_or xs i x → take (suc i) xs ≡ take i xs ++ x ∷ []
take_more [] i x lt at = absurd (omega (arith, lt))
take_more (y ∷ xs) zero x lt at = ap (λ z. z ∷ []) (sym at)
take_more (y ∷ xs) (suc i) x lt at = ap (λ zs. y ∷ zs) (take_more xs i x (omega (arith, lt)) at)

pub copied_none : {A : Type 0} (list : List A) → IsCopied list 0 []
copied_none list = record { within = omega arith; is = refl }

pub copied_more : {A : Type 0} (list : List A) (i j : ℕ) (x y : A) (out now : List A) → j ≡ i + 1 → i < length list → x ≡ get_or list i x → y ≡ x → IsCopied list i out → now ≡ out ++ y ∷ [] → IsCopied list j now
copied_more list i j x y out now next lt at same c e =
    let j_is : suc i ≡ j = omega (arith, next) in
    subst (λ n. IsCopied list n now) j_is (record { within = omega (arith, lt); is = e ∙ (ap₂ (λ xs z. xs ++ z ∷ []) c.is same ∙ sym (take_more list i x lt at)) })

-- ---- what is last in hand

hand_append : (hs : List Held) (h : Held) → hand_of (hs ++ h ∷ []) ≡ Some (record { others = hs; last = h })
hand_append [] h = refl
hand_append (g ∷ hs) h = ap (hand_or g) (hand_append hs h)

split_at : (hs : List Held) (i : ℕ) (h : Held) → suc i ≡ length hs → h ≡ get_or hs i h → hs ≡ take i hs ++ h ∷ []
split_at [] i h is at = absurd (omega (arith, is))
split_at (g ∷ []) zero h is at = ap (λ x. x ∷ []) (sym at)
split_at (g ∷ g1 ∷ hs) zero h is at = absurd (omega (arith, is))
split_at (g ∷ hs) (suc i) h is at = ap (λ xs. g ∷ xs) (split_at hs i h (omega (arith, is)) at)

split_last : (hs : List Held) (h : Held) → 0 < length hs → h ≡ get_or hs (length hs - 1) h → hs ≡ all_but_last hs ++ h ∷ []
split_last hs h some at = split_at hs (length hs - 1) h (omega (arith, some)) at

pub last_is : (hs : List Held) (h : Held) → 0 < length hs → h ≡ get_or hs (length hs - 1) h → hand_of hs ≡ Some (record { others = all_but_last hs; last = h })
last_is hs h some at = ap hand_of (split_last hs h some at) ∙ hand_append (all_but_last hs) h

-- the hand of what is behind others
pub hand_is : (hs others : List Held) (h : Held) → hs ≡ others ++ h ∷ [] → hand_of hs ≡ Some (record { others = others; last = h })
hand_is hs others h e = ap hand_of e ∙ hand_append others h

-- what is in hand, taken apart
same_hand : (x y : Hand) → Some x ≡ Some y → x ≡ y
same_hand x y e = cc

some_hand : (g : Held) (o : Option Hand) → hand_or g o ≡ None → ⊥
some_hand g None e = absurd cc
some_hand g (Some x) e = absurd cc

abbrev Behind : List Held → Option Hand → Type 0
Behind hs o = (x : Hand) → o ≡ Some x → hs ≡ x.others ++ x.last ∷ []

one_hand : (g : Held) (hand : Hand) → hand_of (g ∷ []) ≡ Some hand → (g ∷ []) ≡ hand.others ++ hand.last ∷ []
one_hand g hand e = ap (λ (x : Hand). x.others ++ x.last ∷ []) (same_hand (record { others = []; last = g }) hand e)

more_hands : (g : Held) (hs : List Held) (o : Option Hand) (hand : Hand) → (o ≡ None → ⊥) → Behind hs o → hand_or g o ≡ Some hand → (g ∷ hs) ≡ hand.others ++ hand.last ∷ []
more_hands g hs None hand some rest e = absurd (some refl)
more_hands g hs (Some x) hand some rest e = ap (λ xs. g ∷ xs) (rest x refl) ∙ ap (λ (y : Hand). y.others ++ y.last ∷ []) (same_hand (behind g x) hand e)

pub in_hand : (hs : List Held) (hand : Hand) → hand_of hs ≡ Some hand → hs ≡ hand.others ++ hand.last ∷ []
in_hand [] hand e = absurd cc
in_hand (g ∷ []) hand e = one_hand g hand e
in_hand (g ∷ g1 ∷ hs) hand e = more_hands g (g1 ∷ hs) (hand_of (g1 ∷ hs)) hand (some_hand g1 (hand_of hs)) (in_hand (g1 ∷ hs)) e

-- ---- what is looked up field by field

pub hyp_at : (hs : List Hyp) (i : ℕ) (name : Named) (f : Formula) → Some name ≡ option_map (λ (h : Hyp). h.name) (slice_get hs i) → Some f ≡ option_map (λ (h : Hyp). h.formula) (slice_get hs i) → slice_get hs i ≡ Some (works.hyp name f)
hyp_at hs i name f named formed = by (slice_get hs i) refl named formed
  where
    by : (o : Option Hyp) → slice_get hs i ≡ o → Some name ≡ option_map (λ (h : Hyp). h.name) o → Some f ≡ option_map (λ (h : Hyp). h.formula) o → slice_get hs i ≡ Some (works.hyp name f)
    by None is n e = absurd cc
    by (Some h) is n e = let a : name ≡ h.name = cc in let b : f ≡ h.formula = cc in is ∙ ap₂ (λ x y. Some (works.hyp x y)) (sym a) (sym b)

pub fact_at : (fs : List Fact) (i : ℕ) (name : Named) (p : Pure) → Some name ≡ option_map (λ (f : Fact). f.name) (slice_get fs i) → Some p ≡ option_map (λ (f : Fact). f.pure) (slice_get fs i) → slice_get fs i ≡ Some (works.fact name p)
fact_at fs i name p named formed = by (slice_get fs i) refl named formed
  where
    by : (o : Option Fact) → slice_get fs i ≡ o → Some name ≡ option_map (λ (f : Fact). f.name) o → Some p ≡ option_map (λ (f : Fact). f.pure) o → slice_get fs i ≡ Some (works.fact name p)
    by None is n e = absurd cc
    by (Some f) is n e = let a : name ≡ f.name = cc in let b : p ≡ f.pure = cc in is ∙ ap₂ (λ x y. Some (works.fact x y)) (sym a) (sym b)
