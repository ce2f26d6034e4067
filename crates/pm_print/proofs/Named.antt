-- Names of variables under binders, and of predicates.
use Rattle.std.proofs.Common.{◌≡◌, ℕ, zero, suc, ◌+◌, ◌-◌, ◌<◌, ◌≤◌, List, [], ◌∷◌, ◌++◌, length, get_or, refl, sym, ap, ◌∙◌, Result, Ok, Err, append_assoc, arith}
use Rattle.std.specs.Prelude.{OnOk}
use Rattle.std.specs.Fmt.{decimal}
use Rattle.std.proofs.lemmas.List.{append-nil}
use Rattle.pm_logic.specs.declared.list.Memory.{Memory}
use Rattle.pm_logic.specs.declared.formula.Pred.{Pred}
use Rattle.pm_tokens.specs.Tokens.{name}
use Rattle.pm_print.specs.Printing.{Names, token, text_of, spelled, word, names_of, binder_name}
use Rattle.pm_print.specs.Parts.{bound_by}

pub name_text : (x : List ℕ) → text_of (token (name x) ∷ []) ≡ x
unfolding text_of spelled
name_text x = append-nil x

pub binder_joined : (t₀ t₁ t₂ x : List ℕ) (n : ℕ) (r : Result (Unit {0}) Memory) → t₁ ≡ t₀ ++ 95 ∷ [] → x ≡ decimal n → OnOk r (t₂ ≡ t₁ ++ x) → OnOk r (t₂ ≡ t₀ ++ text_of (token (name (binder_name n)) ∷ []))
binder_joined t₀ t₁ t₂ x n (Ok u) h₁ same h₂ = h₂ ∙ rw (h₁, same, name_text (binder_name n)) (append_assoc t₀ (95 ∷ []) (decimal n))
binder_joined t₀ t₁ t₂ x n (Err e) h₁ same h₂ = tt

pub no_binders : (names : Names) → bound_by 0 names ≡ names
unfolding bound_by
no_binders names = refl

pub length_bound : (k : ℕ) (names : Names) → length (bound_by k names) ≡ length names + k
unfolding bound_by
length_bound zero names = omega arith
length_bound (suc k) names = let rest = length_bound k names in omega (arith, rest)

at_binder : (k i : ℕ) (names : Names) → i < k → get_or (bound_by k names) i [] ≡ binder_name (length names + (k - 1 - i))
unfolding bound_by
at_binder zero i names lt = absurd (omega arith)
at_binder (suc k) zero names lt =
    let e : length (bound_by k names) ≡ length names + (suc k - 1 - 0) = omega (arith, length_bound k names) in
    ap binder_name e
at_binder (suc k) (suc i) names lt =
    let e : k - 1 - i ≡ suc k - 1 - suc i = omega arith in
    at_binder k i names (omega arith) ∙ ap (λ (n : ℕ). binder_name (length names + n)) e

beyond_binders : (k i : ℕ) (names : Names) → k ≤ i → get_or (bound_by k names) i [] ≡ get_or names (i - k) []
unfolding bound_by
beyond_binders zero i names le = let e : i ≡ i - 0 = omega arith in ap (λ (j : ℕ). get_or names j []) e
beyond_binders (suc k) zero names le = absurd (omega arith)
beyond_binders (suc k) (suc i) names le =
    let e : i - k ≡ suc i - suc k = omega arith in
    beyond_binders k i names (omega arith) ∙ ap (λ (j : ℕ). get_or names j []) e

pub bound_word : (k i : ℕ) (names : Names) → i < k → word (bound_by k names) i ≡ token (name (binder_name (length names + (k - 1 - i))))
bound_word k i names lt = ap (λ (x : List ℕ). token (name x)) (at_binder k i names lt)

pub free_word : (k i : ℕ) (names : Names) → k ≤ i → word (bound_by k names) i ≡ word names (i - k)
free_word k i names le = ap (λ (x : List ℕ). token (name x)) (beyond_binders k i names le)

pub name_at : (names : Names) (i : ℕ) (x : List ℕ) → i < length names → x ≡ get_or names i x → text_of (word names i ∷ []) ≡ x
name_at names i x lt is = name_text (get_or names i []) ∙ at names i lt is
  where
    at : (ys : Names) (j : ℕ) → j < length ys → x ≡ get_or ys j x → get_or ys j [] ≡ x
    at [] j less e = absurd (omega arith)
    at (y ∷ ys) zero less e = sym e
    at (y ∷ ys) (suc j) less e = at ys j (omega arith) e

pub name_beyond : (names : Names) (i : ℕ) → length names ≤ i → text_of (word names i ∷ []) ≡ []
name_beyond names i le = name_text (get_or names i []) ∙ beyond names i le
  where
    beyond : (ys : Names) (j : ℕ) → length ys ≤ j → get_or ys j [] ≡ []
    beyond [] j past = refl
    beyond (y ∷ ys) zero past = absurd (omega arith)
    beyond (y ∷ ys) (suc j) past = beyond ys j (omega arith)

pub predicate_at : (preds : List Pred) (i : ℕ) (p : Pred) → i < length preds → p ≡ get_or preds i p → text_of (word (names_of preds) i ∷ []) ≡ p.name
predicate_at preds i p lt is = name_text (get_or (names_of preds) i []) ∙ at preds i lt is
  where
    at : (qs : List Pred) (j : ℕ) → j < length qs → p ≡ get_or qs j p → get_or (names_of qs) j [] ≡ p.name
    at [] j less e = absurd (omega arith)
    at (q ∷ qs) zero less e = ap (λ (r : Pred). r.name) (sym e)
    at (q ∷ qs) (suc j) less e = at qs j (omega arith) e

pub predicate_beyond : (preds : List Pred) (i : ℕ) → length preds ≤ i → text_of (word (names_of preds) i ∷ []) ≡ []
predicate_beyond preds i le = name_text (get_or (names_of preds) i []) ∙ beyond preds i le
  where
    beyond : (qs : List Pred) (j : ℕ) → length qs ≤ j → get_or (names_of qs) j [] ≡ []
    beyond [] j past = refl
    beyond (q ∷ qs) zero past = absurd (omega arith)
    beyond (q ∷ qs) (suc j) past = beyond qs j (omega arith)
