-- Tests for the conditions of rows.
use Rattle.std.proofs.Common.{◌≡◌, ℕ, ◌<◌, ◌≤◌, Bool, true, false, ◌&&◌, not, List, [], ◌∷◌, refl, arith}
use Rattle.std.specs.Prelude.{IsTrue}
use Rattle.std.specs.Bool.{Decides}
use Rattle.std.proofs.Math.Dec.{ltb}
use Rattle.std.proofs.lemmas.Bool.Decides.{Decides-ltb, Decides-not}
use Rattle.pm_logic.specs.declared.formula.Formula.{Formula}
use Rattle.pm_logic.specs.declared.formula.Formula.TheVariants.{Pure as Fact, Pts, Call}
use Rattle.pm_logic.specs.Trees.{Sep, Wand, And, Or, Imp, All, Ex, Later, Pers, Upd}
use Rattle.pm_logic.specs.Guard.{CallsBelow}

-- ---- numbers and truth values

pub decides_true : (b : Bool) → Decides b (IsTrue b)
decides_true b = (λ e. e, λ e. e)

pub decides_both : {P Q : Type 0} (r s : Bool) → Decides r P → Decides s Q → Decides (r && s) (P × Q)
decides_both true s d e = (λ h. (d.0 refl, e.0 h), λ h. e.1 h.1)
decides_both false s d e = (λ h. absurd (cc h), λ h. d.1 h.0)

not_below : (a b : ℕ) → ¬ (b < a) → a ≤ b
not_below a b h = omega (arith, h)

pub decides_le : (a b : ℕ) → Decides (not (ltb b a)) (a ≤ b)
decides_le a b = let d = Decides-not (ltb b a) (Decides-ltb b a) in (λ e. not_below a b (d.0 e), λ le. d.1 (λ lt. omega (arith, le, lt)))

pub decides_empty : {A : Type 0} (xs : List A) → (r : Bool) × Decides r (xs ≡ [])
decides_empty [] = (true, (λ e. refl, λ e. refl))
decides_empty (x ∷ xs) = (false, (λ e. absurd (cc e), λ e. absurd (cc e)))

-- ---- calls

pub calls_below : ℕ → Formula → Bool
calls_below p (Fact a) = true
calls_below p (Sep a b) = calls_below p a && calls_below p b
calls_below p (Wand a b) = calls_below p a && calls_below p b
calls_below p (And a b) = calls_below p a && calls_below p b
calls_below p (Or a b) = calls_below p a && calls_below p b
calls_below p (Imp a b) = calls_below p a && calls_below p b
calls_below p (All a) = calls_below p a
calls_below p (Ex a) = calls_below p a
calls_below p (Later a) = true
calls_below p (Pers a) = calls_below p a
calls_below p (Upd a) = calls_below p a
calls_below p (Pts l u v) = true
calls_below p (Call q args) = ltb q p

pub decides_below : (p : ℕ) (f : Formula) → Decides (calls_below p f) (CallsBelow p f)
unfolding CallsBelow calls_below
decides_below p (Fact a) = (λ e. tt, λ h. refl)
decides_below p (Sep a b) = decides_both (calls_below p a) (calls_below p b) (decides_below p a) (decides_below p b)
decides_below p (Wand a b) = decides_both (calls_below p a) (calls_below p b) (decides_below p a) (decides_below p b)
decides_below p (And a b) = decides_both (calls_below p a) (calls_below p b) (decides_below p a) (decides_below p b)
decides_below p (Or a b) = decides_both (calls_below p a) (calls_below p b) (decides_below p a) (decides_below p b)
decides_below p (Imp a b) = decides_both (calls_below p a) (calls_below p b) (decides_below p a) (decides_below p b)
decides_below p (All a) = decides_below p a
decides_below p (Ex a) = decides_below p a
decides_below p (Later a) = (λ e. tt, λ h. refl)
decides_below p (Pers a) = decides_below p a
decides_below p (Upd a) = decides_below p a
decides_below p (Pts l u v) = (λ e. tt, λ h. refl)
decides_below p (Call q args) = Decides-ltb q p
