-- Names are found at their places, also under binders.
use Rattle.std.proofs.Common.{◌≡◌, ◌≢◌, ℕ, zero, suc, ◌+◌, ◌<◌, ◌≤◌, ◌^◌, Bool, true, false, List, [], ◌∷◌, length, get_or, Some, refl, sym, ap, arith}
use Rattle.std.specs.Prelude.{slice_get}
use Rattle.std.specs.List.{position_from}
use Rattle.std.specs.Str.{bytes_eq}
use Rattle.std.proofs.lemmas.Fmt.{decimal_injective}
use Rattle.std.proofs.lemmas.Slice.Eq.{bytes_eq-Decides}
use Rattle.pm_logic.specs.declared.formula.Pred.{Pred}
use Rattle.pm_terms.specs.Scope.{callables, variable_of, callable_of}
use Rattle.pm_print.specs.Printing.{Names, binder_name, bound, names_of}
use Rattle.pm_dtext.specs.Texts.{arities_of}
use Rattle.pm_roundtrip.specs.PrintingLaws.{AreVariables}

-- no two are one
abbrev pub Differ : Names → Type 0
Differ names = (i j : ℕ) → i < length names → j < length names → i ≢ j → get_or names i [] ≢ get_or names j []

same_bytes : (x : List ℕ) → bytes_eq x x ≡ true
same_bytes x = (bytes_eq-Decides x x).1 refl

other_bytes : (x y : List ℕ) → x ≢ y → bytes_eq x y ≡ false
other_bytes x y h = go (bytes_eq x y) refl
  where
    go : (b : Bool) → bytes_eq x y ≡ b → b ≡ false
    go true e = absurd (h ((bytes_eq-Decides x y).0 e))
    go false e = refl

tail_differ : (x : List ℕ) (names : Names) → Differ (x ∷ names) → Differ names
tail_differ x names h i j l m ne e = h (suc i) (suc j) (omega arith) (omega arith) (λ same. ne (omega (arith, same))) e

head_differs : (x : List ℕ) (names : Names) (i : ℕ) → Differ (x ∷ names) → i < length names → bytes_eq (get_or names i []) x ≡ false
head_differs x names i h l = other_bytes (get_or names i []) x (h (suc i) 0 (omega arith) (omega arith) (λ same. omega (arith, same)))

found_from : (names : Names) (i k n : ℕ) → Differ names → i < length names → n ≡ k + i → position_from (bytes_eq (get_or names i [])) k names ≡ Some n
found_from [] i k n h l at = absurd (omega arith)
found_from (x ∷ names) zero k n h l at = rw (same_bytes x) (ap Some (omega (arith, at)))
found_from (x ∷ names) (suc i) k n h l at = rw (head_differs x names i h (omega arith)) (found_from names i (k + 1) n (tail_differ x names h) (omega arith) (omega (arith, at)))

-- the variable of a name is its index
pub variable_found : (names : Names) (i : ℕ) → Differ names → i < length names → variable_of names (get_or names i []) ≡ Some i
unfolding variable_of
variable_found names i h l = found_from names i 0 i h l (omega arith)

called_from : (preds : List Pred) (i k n arity : ℕ) → Differ (names_of preds) → i < length (names_of preds) → n ≡ k + i → slice_get (arities_of preds) i ≡ Some arity
    → callable_of (callables k preds) (get_or (names_of preds) i []) ≡ Some (record { name = get_or (names_of preds) i []; index = n; arity = arity })
unfolding callable_of
called_from [] i k n arity h l at has = absurd (omega arith)
called_from (p ∷ preds) zero k n arity h l at has =
    let place : k ≡ n = omega (arith, at) in
    let same : p.arity ≡ arity = cc in
    rw (same_bytes p.name, place, same) refl
called_from (p ∷ preds) (suc i) k n arity h l at has =
    rw (head_differs p.name (names_of preds) i h (omega arith)) (called_from preds i (suc k) n arity (tail_differ p.name (names_of preds) h) (omega arith) (omega (arith, at)) has)

-- the predicate of a name is the one at its index
pub predicate_found : (preds : List Pred) (i arity : ℕ) → Differ (names_of preds) → i < length (names_of preds) → slice_get (arities_of preds) i ≡ Some arity
    → callable_of (callables 0 preds) (get_or (names_of preds) i []) ≡ Some (record { name = get_or (names_of preds) i []; index = i; arity = arity })
predicate_found preds i arity h l has = called_from preds i 0 i arity h l (omega arith) has

-- ---- binders

-- different names, none of which is of a binder further in
pub record Scope (names : Names) : Type 0 where
  pub differ : Differ names
  pub free : (i k : ℕ) → i < length names → length names ≤ k → k < 2 ^ 64 → get_or names i [] ≢ binder_name k

binders_differ : (m n : ℕ) → m < 2 ^ 64 → n < 2 ^ 64 → binder_name m ≡ binder_name n → m ≡ n
binders_differ m n l k e = decimal_injective m n l k cc

pub scope_of : (names : Names) → AreVariables names → Scope names
scope_of names h = record { differ = h.found.differ; free = λ i k l past small. h.free i k l past }

pub bound_scope : (names : Names) → length names < 2 ^ 64 → Scope names → Scope (bound names)
bound_scope names small h = record { differ = differ; free = free }
  where
    differ : Differ (bound names)
    differ zero zero l m ne e = ne refl
    differ zero (suc j) l m ne e = h.free j (length names) (omega arith) (omega arith) small (sym e)
    differ (suc i) zero l m ne e = h.free i (length names) (omega arith) (omega arith) small e
    differ (suc i) (suc j) l m ne e = h.differ i j (omega arith) (omega arith) (λ same. ne (ap suc same)) e

    free : (i k : ℕ) → i < length (bound names) → length (bound names) ≤ k → k < 2 ^ 64 → get_or (bound names) i [] ≢ binder_name k
    free zero k l past few e = let same = binders_differ (length names) k small few e in omega (arith, same)
    free (suc i) k l past few e = h.free i k (omega arith) (omega arith) few e
