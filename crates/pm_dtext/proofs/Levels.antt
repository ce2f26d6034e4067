-- One level of reading a term, a pure formula or a formula.
use Rattle.std.proofs.Common.{◌≡◌, ℕ, zero, suc, ◌<◌, ◌-◌, List, length, refl, arith, Err}
use Rattle.pm_dtext.specs.declared.fault.Fault.TheVariants.{Deep}
use Rattle.pm_dtext.specs.Reading.{◌>>=◌, says_at, term_sign_of, term_under, term_at, pure_sign_of, pure_under, pure_at, formula_sign_of, formula_under, formula_at}

pub term_none : (levels k : ℕ) (bytes : List ℕ) → levels ≡ 0 → term_at levels k bytes ≡ (says_at (term_sign_of k) bytes >>= λ s. Err (Deep (length bytes)))
unfolding term_at
term_none levels k bytes e = rw e refl

pub term_more : (levels k : ℕ) (bytes : List ℕ) → 0 < levels → term_at levels k bytes ≡ (says_at (term_sign_of k) bytes >>= λ s. term_under s.0 (term_at (levels - 1) k) s.1)
unfolding term_at
term_more zero k bytes h = absurd (omega arith)
term_more (suc n) k bytes h = let same : suc n - 1 ≡ n = omega arith in rw same refl

pub pure_none : (levels k : ℕ) (bytes : List ℕ) → levels ≡ 0 → pure_at levels k bytes ≡ (says_at pure_sign_of bytes >>= λ s. Err (Deep (length bytes)))
unfolding pure_at
pure_none levels k bytes e = rw e refl

pub pure_more : (levels k : ℕ) (bytes : List ℕ) → 0 < levels → pure_at levels k bytes ≡ (says_at pure_sign_of bytes >>= λ s. pure_under s.0 (term_at (levels - 1) k) (pure_at (levels - 1) k) s.1)
unfolding pure_at
pure_more zero k bytes h = absurd (omega arith)
pure_more (suc n) k bytes h = let same : suc n - 1 ≡ n = omega arith in rw same refl

pub formula_none : (arities : List ℕ) (levels k : ℕ) (bytes : List ℕ) → levels ≡ 0 → formula_at arities levels k bytes ≡ (says_at formula_sign_of bytes >>= λ s. Err (Deep (length bytes)))
unfolding formula_at
formula_none arities levels k bytes e = rw e refl

pub formula_more : (arities : List ℕ) (levels k : ℕ) (bytes : List ℕ) → 0 < levels → formula_at arities levels k bytes ≡ (says_at formula_sign_of bytes >>= λ s. formula_under arities s.0 k (pure_at (levels - 1) k) (term_at (levels - 1) k) (formula_at arities (levels - 1)) s.1)
unfolding formula_at
formula_more arities zero k bytes h = absurd (omega arith)
formula_more arities (suc n) k bytes h = let same : suc n - 1 ≡ n = omega arith in rw same refl
