-- The lines that `run` writes where a script isn't accepted.
use Rattle.std.specs.Prelude.{ℕ, List, [], ◌∷◌, ◌++◌, codes, Option, Some, None}
use Rattle.std.specs.Fmt.{decimal}
use Rattle.pm_terms.specs.declared.fault.TextFault.{TextFault}
use Rattle.pm_terms.specs.declared.fault.TextFault.TheVariants.{Unexpected, Unbound, Number, Fraction, Arity, Deep, Memory}
use Rattle.pm_goal.specs.declared.refusal.Row.{Row}
use Rattle.pm_goal.specs.declared.refusal.Refusal.{Refusal}
use Rattle.pm_goal.specs.Refusals.{family, number}
use Rattle.pm_top.specs.Printed.{line_feed}

-- ---- the line of a refusal

-- a row as it is printed: the letter of its family and its number
unfoldable pub row_text : Row → List ℕ
row_text row = family row ∷ decimal (number row)

-- a name behind its blank
abbrev pub name_text : Option (List ℕ) → List ℕ
name_text None = []
name_text (Some name) = 32 ∷ name

abbrev pub refusal_line : ℕ → ℕ → Refusal → List ℕ
refusal_line number offset refusal = codes "refused: sentence " ++ (decimal number ++ (codes " at " ++ (decimal offset ++ (codes ": " ++ (row_text refusal.row ++ (name_text refusal.name ++ line_feed))))))

-- ---- the line of a fault of the text

abbrev pub fault_at : ℕ → List ℕ → List ℕ
fault_at offset kind = codes "unreadable at " ++ (decimal offset ++ (codes ": " ++ (kind ++ line_feed)))

unfoldable pub fault_line : TextFault → List ℕ
fault_line (Unexpected at) = fault_at at (codes "unexpected")
fault_line (Unbound at) = fault_at at (codes "unbound")
fault_line (Number at) = fault_at at (codes "number")
fault_line (Fraction at) = fault_at at (codes "fraction")
fault_line (Arity at) = fault_at at (codes "arity")
fault_line (Deep at) = fault_at at (codes "deep")
fault_line Memory = []
