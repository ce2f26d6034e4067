-- Steps of reading, and tests.
use Rattle.std.proofs.Common.{◌≡◌, ◌≢◌, ◌⊎◌, ℕ, ◌<◌, ◌≤◌, Bool, true, false, cond, ◌&&◌, ◌==◌, List, refl, ap, arith, Option, Some, None, Result, Ok, Err, inl, inr}
use Rattle.std.specs.Prelude.{nat_le, nat_lt}
use Rattle.std.proofs.lemmas.Bool.Decides.{Decides-ltb, nat_tests}
use Rattle.pm_dtext.specs.declared.fault.Fault.{Fault}
use Rattle.pm_dtext.specs.Reading.{◌>>=◌, or_syntax, after}

-- ---- a step that did not fail

pub bind_ok : {A B : Type 0} (r : Result A Fault) (f : A → Result B Fault) (y : B) → (r >>= f) ≡ Ok y → (x : A) × (r ≡ Ok x) × (f x ≡ Ok y)
bind_ok (Ok x) f y e = (x, refl, e)
bind_ok (Err d) f y e = absurd cc

-- goes on with its value, which stays a variable: long chains of values do not end
pub with_ok : {A B P : Type 0} (r : Result A Fault) (f : A → Result B Fault) (y : B) → (r >>= f) ≡ Ok y → ((x : A) → r ≡ Ok x → f x ≡ Ok y → P) → P
with_ok r f y e go = let b = bind_ok r f y e in go b.0 b.1 b.2

pub chosen_ok : {A : Type 0} (b : Bool) (x y : A) (d : Fault) → cond b (Ok x) (Err d) ≡ Ok y → (b ≡ true) × (x ≡ y)
chosen_ok true x y d e = (refl, cc)
chosen_ok false x y d e = absurd cc

pub chosen : {A : Type 0} (b : Bool) (x y z : A) → cond b x y ≡ z → ((b ≡ true) × (x ≡ z)) ⊎ ((b ≡ false) × (y ≡ z))
chosen true x y z e = inl (refl, e)
chosen false x y z e = inr (refl, e)

pub some_is : {A : Type 0} (b : Bool) (x y : A) → cond b (Some x) None ≡ Some y → (b ≡ true) × (x ≡ y)
some_is true x y e = (refl, cc)
some_is false x y e = absurd cc

pub or_syntax_ok : {A : Type 0} (o : Option A) (bytes : List ℕ) (x : A) (rest : List ℕ) → or_syntax o bytes ≡ Ok (x, rest) → (o ≡ Some x) × (after bytes ≡ rest)
or_syntax_ok None bytes x rest e = absurd cc
or_syntax_ok {A} (Some y) bytes x rest e =
    let both : (y, after bytes) ≡ (x, rest) = cc in
    (ap (λ (p : A × List ℕ). Some p.0) both, ap (λ (p : A × List ℕ). p.1) both)

pub same_some : {A : Type 0} (x y : A) → Some x ≡ Some y → x ≡ y
same_some x y e = cc

abbrev done : {A : Type 0} → A → Result A Fault
done x = Ok x

pub ok_is : {A : Type 0} (x y : A) → done x ≡ done y → x ≡ y
ok_is x y e = cc

-- ---- tests

pub if_true : {A : Type 0} (b : Bool) (x y : A) → b ≡ true → cond b x y ≡ x
if_true b x y e = rw e refl

pub if_false : {A : Type 0} (b : Bool) (x y : A) → b ≡ false → cond b x y ≡ y
if_false b x y e = rw e refl

pub both_true : (x y : Bool) → (x && y) ≡ true → (x ≡ true) × (y ≡ true)
both_true true y e = (refl, e)
both_true false y e = absurd cc

pub true_both : (x y : Bool) → x ≡ true → y ≡ true → (x && y) ≡ true
true_both x y e h = rw e h

pub le_true : (a b : ℕ) → nat_le a b ≡ true → a ≤ b
le_true a b e = grind (arith, nat_tests)

pub true_le : (a b : ℕ) → a ≤ b → nat_le a b ≡ true
true_le a b h = grind (arith, nat_tests)

pub lt_true : (a b : ℕ) → nat_lt a b ≡ true → a < b
lt_true a b e = (Decides-ltb a b).0 e

pub true_lt : (a b : ℕ) → a < b → nat_lt a b ≡ true
true_lt a b h = (Decides-ltb a b).1 h

pub false_eq : (a b : ℕ) → a ≢ b → (a == b) ≡ false
false_eq a b h = grind (arith, nat_tests)
