-- Looking for a word in a table, from its front.
use Rattle.std.proofs.Common.{◌≡◌, ℕ, zero, suc, ◌<◌, ◌≤◌, ◌+◌, ◌-◌, true, false, List, [], ◌∷◌, ◌++◌, length, drop, refl, sym, ◌∙◌, ap, arith, Some, None}
use Rattle.std.specs.Prelude.{codes, map, slice_get}
use Rattle.std.specs.Str.{bytes_eq}
use Rattle.pm_dtext.specs.declared.signs.RuleSign.{RuleSign}
use Rattle.pm_dtext.specs.Texts.{printed_names}
use Rattle.pm_dtext.specs.Reading.{named, rule_signs, rule_sign_of}

abbrev words : {A : Type 0} → List (List ℕ × A) → List (List ℕ)
words table = map (λ e. e.0) table

abbrev signs : {A : Type 0} → List (List ℕ × A) → List A
signs {A} table = map (λ e. e.1) table

named_here : {A : Type 0} (table : List (List ℕ × A)) (w n : List ℕ) (x : A) (i : ℕ) → slice_get (words table) i ≡ Some n → slice_get (signs table) i ≡ Some x → bytes_eq w n ≡ true → named (drop i table) w ≡ Some x
named_here [] w n x i e h t = absurd cc
named_here (a ∷ table) w n x zero e h t =
    let same : a.0 ≡ n = cc in
    let is : a.1 ≡ x = cc in
    let test : bytes_eq w a.0 ≡ true = rw same t in
    rw test (ap Some is)
named_here (a ∷ table) w n x (suc i) e h t = named_here table w n x i e h t

named_later : {A : Type 0} (table : List (List ℕ × A)) (w n : List ℕ) (i : ℕ) → slice_get (words table) i ≡ Some n → bytes_eq w n ≡ false → named (drop i table) w ≡ named (drop (suc i) table) w
named_later [] w n i e t = absurd cc
named_later (a ∷ table) w n zero e t =
    let same : a.0 ≡ n = cc in
    let test : bytes_eq w a.0 ≡ false = rw same t in
    rw test refl
named_later (a ∷ table) w n (suc i) e t = named_later table w n i e t

front_get : (xs ys : List (List ℕ)) (i : ℕ) (n : List ℕ) → i < length xs → slice_get (xs ++ ys) i ≡ Some n → slice_get xs i ≡ Some n
front_get [] ys i n h e = absurd (omega arith)
front_get (x ∷ xs) ys zero n h e = e
front_get (x ∷ xs) ys (suc i) n h e = front_get xs ys i n (omega arith) e

-- the word is none of the names before this number
pub record Searched (w : List ℕ) (number : ℕ) : Type 0 where
  pub some : 1 ≤ number
  pub within : number ≤ 68
  pub same : rule_sign_of w ≡ named (drop (number - 1) rule_signs) w

name_at : (number : ℕ) (n : List ℕ) → number < 68 → 1 ≤ number → slice_get printed_names (number - 1) ≡ Some n → slice_get (words rule_signs) (number - 1) ≡ Some n
name_at number n h some e = front_get (words rule_signs) (codes "qed" ∷ []) (number - 1) n (omega arith) e

pub begun : (w : List ℕ) → Searched w 1
unfolding rule_sign_of
begun w = record { some = omega arith; within = omega arith; same = refl }

pub found : (w n : List ℕ) (x : RuleSign) (number : ℕ) → Searched w number → number < 68 → slice_get printed_names (number - 1) ≡ Some n → bytes_eq w n ≡ true → slice_get (signs rule_signs) (number - 1) ≡ Some x → Some x ≡ rule_sign_of w
found w n x number s h e t is = sym (s.same ∙ named_here rule_signs w n x (number - 1) (name_at number n h s.some e) is t)

pub passed : (w n : List ℕ) (number : ℕ) → Searched w number → number < 68 → slice_get printed_names (number - 1) ≡ Some n → bytes_eq w n ≡ false → Searched w (number + 1)
passed w n number s h e t =
    let next : number + 1 - 1 ≡ suc (number - 1) = omega (arith, s.some) in
    record {
      some = omega arith;
      within = omega arith;
      same = s.same ∙ (named_later rule_signs w n (number - 1) (name_at number n h s.some e) t ∙ ap (λ i. named (drop i rule_signs) w) (sym next));
    }

pub ended : (w : List ℕ) (number : ℕ) → Searched w number → 68 ≤ number → None ≡ rule_sign_of w
ended w number s h =
    let last : number - 1 ≡ 67 = omega (arith, s.within) in
    sym (s.same ∙ ap (λ i. named (drop i rule_signs) w) last)
