-- What a loop of writes has sent.
use Rattle.std.proofs.Common.{◌≡◌, ◌≤◌, ◌+◌, ℕ, List, [], ◌++◌, length, take, drop, refl, sym, ◌∙◌, ap, subst, append_assoc, arith, Option, length-append, append-nil}
use Rattle.std.specs.Io.KnownBytes.{Appends, Keeps}
use Rattle.std.proofs.KnownBytes.{Appends-trans, Appends-nil, Appends-kept}
use Rattle.std.proofs.lemmas.List.{take-append-drop, take_at}
use Rattle.pm_io.specs.Taken.{AppendsFront}

-- a front of the piece is appended, and the rest is left
pub record Sent (old new : Option (List ℕ)) (piece rest : List ℕ) : Type 0 where
  pub front : List ℕ
  pub split : piece ≡ front ++ rest
  pub appended : Appends old new front

-- before the first write
pub sent_none : (old : Option (List ℕ)) (piece : List ℕ) → Sent old old piece piece
sent_none old piece = record { front = []; split = refl; appended = Appends-nil old }

-- a write takes the next n bytes
pub sent_more : (old mid new : Option (List ℕ)) (piece rest : List ℕ) (n : ℕ) → Sent old mid piece rest → Appends mid new (take n rest) → Sent old new piece (drop n rest)
sent_more old mid new piece rest n s h =
    let joined : s.front ++ rest ≡ s.front ++ (take n rest ++ drop n rest) = ap (λ l. s.front ++ l) (sym (take-append-drop n rest)) in
    record {
      front = s.front ++ take n rest;
      split = s.split ∙ joined ∙ sym (append_assoc s.front (take n rest) (drop n rest));
      appended = Appends-trans old mid new s.front (take n rest) s.appended h;
    }

-- nothing is left
pub sent_all : (old new : Option (List ℕ)) (piece rest : List ℕ) → Sent old new piece rest → rest ≡ [] → Appends old new piece
sent_all old new piece rest s e =
    let whole : s.front ≡ piece = sym (s.split ∙ ap (λ l. s.front ++ l) e ∙ simp append-nil) in
    subst (λ (l : List ℕ). Appends old new l) whole s.appended

-- a write fails, and appends nothing
pub sent_failed : (old mid new : Option (List ℕ)) (piece rest : List ℕ) → Sent old mid piece rest → Keeps mid new → AppendsFront old new piece
sent_failed old mid new piece rest s h =
    let len : length piece ≡ length s.front + length rest = ap length s.split ∙ length-append s.front rest in
    let front : take (length s.front) piece ≡ s.front = ap (λ l. take (length s.front) l) s.split ∙ take_at s.front rest (length s.front) refl in
    let bound : length s.front ≤ length piece = omega arith in
    let kept : Appends old new s.front = Appends-kept old mid new s.front s.appended h in
    record { count = length s.front; within = bound; appended = subst (λ (l : List ℕ). Appends old new l) (sym front) kept }
