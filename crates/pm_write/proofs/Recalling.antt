-- Lines that may be recalled.
use Rattle.std.proofs.Common.{◌≡◌, ℕ, zero, suc, ◌<◌, List, [], ◌∷◌, ◌++◌, length, take, drop, get_or, arith, append-nil, ap, sym, ◌∙◌, subst, Option, Some, None}
use Rattle.std.proofs.lemmas.List.{take_all, drop_all}
use Rattle.std.specs.Prelude.{slice_get, slice_set, MatchOption}
use Rattle.pm_logic.specs.declared.formula.Preds.{Preds}
use Rattle.pm_dtext.specs.declared.line.Line.{Line}
use Rattle.pm_check.specs.Lines.{steps, proof_line}
use Rattle.pm_write.specs.declared.written.Written.{Written}
use Rattle.pm_write.specs.declared.written.Earlier.{Earlier}
use Rattle.pm_write.specs.Writing.{Grows, AreRecalled}

-- where the place has one
abbrev Stands : List Line → Option Earlier → Type 0
Stands lines o = MatchOption o (Unit {0}) (λ k. proof_line (steps lines) k.number ≡ Some k.entail.now)

pub recalled_at : (lines : List Line) (places : List (Option Earlier)) (i : ℕ) (k : Earlier) → AreRecalled lines places → slice_get places i ≡ Some (Some k) → proof_line (steps lines) k.number ≡ Some k.entail.now
recalled_at lines [] i k h at = absurd cc
recalled_at lines (o ∷ places) zero k h at = let same : o ≡ Some k = cc in subst (λ x. Stands lines x) same h.0
recalled_at lines (o ∷ places) (suc i) k h at = recalled_at lines places i k h.1 at

stands_kept : (preds : Preds) (base : List Line) (w : Written) (g : Grows preds base w) (o : Option Earlier) → Stands base o → Stands g.lines o
stands_kept preds base w g None h = tt
stands_kept preds base w g (Some k) h = g.kept k.number k.entail.now h

pub recalled_kept : (preds : Preds) (base : List Line) (w : Written) (g : Grows preds base w) (places : List (Option Earlier)) → AreRecalled base places → AreRecalled g.lines places
recalled_kept preds base w g [] h = tt
recalled_kept preds base w g (o ∷ places) h = (stands_kept preds base w g o h.0, recalled_kept preds base w g places h.1)

pub recalled_set : (lines : List Line) (places : List (Option Earlier)) (i : ℕ) (k : Earlier) → AreRecalled lines places → proof_line (steps lines) k.number ≡ Some k.entail.now → AreRecalled lines (slice_set places i (Some k))
recalled_set lines [] i k h said = tt
recalled_set lines (o ∷ places) zero k h said = (said, h.1)
recalled_set lines (o ∷ places) (suc i) k h said = (h.0, recalled_set lines places i k h.1 said)

-- an empty place more
pub recalled_more : (lines : List Line) (places : List (Option Earlier)) → AreRecalled lines places → AreRecalled lines (places ++ None ∷ [])
recalled_more lines [] h = (tt, tt)
recalled_more lines (o ∷ places) h = (h.0, recalled_more lines places h.1)

pub item_recalled : (places : List (Option Earlier)) (i : ℕ) (o : Option Earlier) → i < length places → o ≡ get_or places i o → slice_get places i ≡ Some o
item_recalled [] i o less at = absurd (omega arith)
item_recalled (y ∷ places) zero o less at = ap (λ (z : Option Earlier). Some z) (sym at)
item_recalled (y ∷ places) (suc i) o less at = item_recalled places i o (omega (arith, less)) at

-- what a slice over all of a list leaves of it
pub written_back : (len : ℕ) (items new : List (Option Earlier)) → length new ≡ length items → len ≡ length items → take len (new ++ drop (length new) items) ≡ new
written_back len items new same is =
    ap (λ ps. take len (new ++ ps)) (drop_all (length new) items (omega (arith, same))) ∙ ap (take len) (append-nil new) ∙ take_all len new (omega (arith, same, is))
