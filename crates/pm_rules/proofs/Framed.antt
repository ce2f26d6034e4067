-- A row that is known but for its relation.
use Rattle.std.proofs.Common.{◌≡◌, ◌↔◌, ℕ, List, subst₂, sym}
use Rattle.pm_logic.specs.declared.formula.Preds.{Preds}
use Rattle.pm_rules.specs.declared.rules.Entail.{Entail}
use Rattle.pm_rules.specs.Shapes.{Sequent}
use Rattle.pm_rules.specs.Rows.{Row, Shapes, Computed, Frame, Shaped, Counted, frame}
use Rattle.pm_rules.specs.Rules.{HasLetters, HasShapeOf}
use Rattle.pm_rules.specs.Read.{HasEquations}

same_sides : (n m k l : ℕ) (given given' : List Sequent) (c c' : Sequent) → (let f : Frame = Shaped n k given c in f) ≡ Shaped m l given' c' → (given ≡ given') × (c ≡ c')
same_sides n m k l given given' c c' e = (cc, cc)

pub shaped : (w : Row) (n more : ℕ) (given : List Sequent) (c : Sequent) (preds : Preds) (ps : List Entail) (e : Entail) → Shaped n more given c ≡ frame w → HasLetters given c ps e ↔ HasShapeOf w preds ps e
shaped (Shapes m k given' c') n more given c preds ps e is =
    let same = same_sides n m more k given given' c c' is in
    (λ h. subst₂ (λ g d. HasLetters g d ps e) same.0 same.1 h, λ h. subst₂ (λ g d. HasLetters g d ps e) (sym same.0) (sym same.1) h)
shaped (Computed m k holds) n more given c preds ps e is = absurd cc

pub related : (w : Row) (n count : ℕ) (preds : Preds) (ps : List Entail) (e : Entail) → Counted n count ≡ frame w → HasEquations w preds ps e ↔ HasShapeOf w preds ps e
related (Shapes m k given c) n count preds ps e is = absurd cc
related (Computed m k holds) n count preds ps e is = (λ h. h, λ h. h)
