-- The symbols of the tables fit, and have at least one byte.
use Rattle.std.proofs.Common.{◌≡◌, ℕ, ◌<◌, ◌≤◌, Bool, true, false, cond, List, [], ◌∷◌, length, drop, refl, ap, arith, length-append, Option, Some, None}
use Rattle.std.specs.Prelude.{IfSome, nat_lt}
use Rattle.std.specs.List.{list_all}
use Rattle.std.proofs.lemmas.Bool.Decides.{Decides-eqb, nat_tests}
use Rattle.std.proofs.lemmas.Slice.Eq.{starts_is}
use lib.Utf8.{encode}
use Rattle.pm_names.proofs.Characters.{both_true}
use Rattle.pm_tokens.specs.declared.mode.Mode.{Mode}
use Rattle.pm_tokens.specs.declared.mode.Mode.TheVariants.{Start, Outside, Quoted, OutsideLinear, QuotedLinear}
use Rattle.pm_tokens.specs.declared.symbol.Symbol.{Symbol}
use Rattle.pm_tokens.specs.Symbols.{Row, begins, longer, row_at, longest, symbol_at, symbols, quoted_symbols, certificate_symbols}

abbrev pub SymbolFits : List ℕ → Option (Symbol × ℕ) → Type 0
SymbolFits bytes found = IfSome found (λ x. (0 < x.1) × (x.1 ≤ length bytes))

abbrev pub is_spelled : Row → Bool
is_spelled r = nat_lt 0 (length r.0)

longer_fits : (bytes : List ℕ) (a b : Option (Symbol × ℕ)) → SymbolFits bytes a → SymbolFits bytes b → SymbolFits bytes (longer a b)
unfolding longer
longer_fits bytes (Some a) (Some b) f g = go (nat_lt a.1 b.1)
  where
    go : (t : Bool) → SymbolFits bytes (cond t (Some b) (Some a))
    go true = g
    go false = f
longer_fits bytes (Some a) None f g = f
longer_fits bytes None b f g = g

begins_fits : (text bytes : List ℕ) → begins text bytes ≡ true → length text ≤ length bytes
begins_fits text bytes h =
    let whole = (starts_is Decides-eqb bytes text (begins text bytes) refl).0 h in
    omega (arith, ap length whole, length-append text (drop (length text) bytes))

row_fits : (r : Row) (bytes : List ℕ) → 0 < length r.0 → SymbolFits bytes (row_at r bytes)
unfolding row_at
row_fits r bytes some = go (begins r.0 bytes) refl
  where
    go : (t : Bool) → begins r.0 bytes ≡ t → SymbolFits bytes (cond t (Some (r.1, length r.0)) None)
    go true e = (some, begins_fits r.0 bytes e)
    go false e = tt

longest_fits : (rs : List Row) (bytes : List ℕ) → list_all is_spelled rs ≡ true → SymbolFits bytes (longest rs bytes)
unfolding longest
longest_fits [] bytes all = tt
longest_fits (r ∷ rs) bytes all =
    let p = both_true (is_spelled r) (list_all is_spelled rs) all in
    let some : 0 < length r.0 = grind (arith, nat_tests, p.0) in
    longer_fits bytes (row_at r bytes) (longest rs bytes) (row_fits r bytes some) (longest_fits rs bytes p.1)

pub symbol_fits : (mode : Mode) (bytes : List ℕ) → SymbolFits bytes (symbol_at mode bytes)
unfolding symbol_at symbols quoted_symbols certificate_symbols encode
symbol_fits Start bytes = longest_fits symbols bytes refl
symbol_fits Outside bytes = longest_fits symbols bytes refl
symbol_fits OutsideLinear bytes = longest_fits symbols bytes refl
symbol_fits Quoted bytes = longest_fits quoted_symbols bytes refl
symbol_fits QuotedLinear bytes = longer_fits bytes (longest quoted_symbols bytes) (longest certificate_symbols bytes) (longest_fits quoted_symbols bytes refl) (longest_fits certificate_symbols bytes refl)
