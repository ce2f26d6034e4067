-- What terms and pure formulas say in an environment, whose first entry is the value of index 0.
use Rattle.std.specs.Prelude.{◌≡◌, ℕ, zero, suc, List, [], ◌∷◌, ◌⊎◌, ℤ, pos, ◌+ℤ◌, ◌-ℤ◌, ◌*ℤ◌, neg_ℤ, ◌≤ℤ◌, ◌<ℤ◌}
use Rattle.pm_logic.specs.declared.formula.Term.{Term}
use Rattle.pm_logic.specs.declared.formula.Term.TheVariants.{Lit, Var}
use Rattle.pm_logic.specs.declared.formula.Pure.{Pure}
use Rattle.pm_logic.specs.declared.formula.Pure.TheVariants.{True, False, Eq, Le, Lt}
use Rattle.pm_logic.specs.Trees.{add, sub, neg, scale, both, either, nope}

-- the entry of an index, 0 where there is none
abbrev pub entry : List ℤ → ℕ → ℤ
entry [] i = pos 0
entry (z ∷ env) zero = z
entry (z ∷ env) (suc i) = entry env i

-- the value of a term
abbrev pub eval : List ℤ → Term → ℤ
eval env (Lit z) = z
eval env (Var i) = entry env i
eval env (add s t) = eval env s +ℤ eval env t
eval env (sub s t) = eval env s -ℤ eval env t
eval env (neg t) = neg_ℤ (eval env t)
eval env (scale z t) = z *ℤ eval env t

-- the values of a list of terms
abbrev pub evals : List ℤ → List Term → List ℤ
evals env [] = []
evals env (t ∷ ts) = eval env t ∷ evals env ts

-- the truth of a pure formula
abbrev pub Holds : List ℤ → Pure → Type 0
Holds env True = Unit {0}
Holds env False = ⊥
Holds env (Eq s t) = eval env s ≡ eval env t
Holds env (Le s t) = eval env s ≤ℤ eval env t
Holds env (Lt s t) = eval env s <ℤ eval env t
Holds env (both a b) = Holds env a × Holds env b
Holds env (either a b) = Holds env a ⊎ Holds env b
Holds env (nope a) = ¬ Holds env a
