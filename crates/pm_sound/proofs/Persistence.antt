-- Persistence: what the core forces. Only the laws of the core are used.
use Rattle.std.proofs.Common.{ℕ, List, ℤ, length, le_refl}
use Rattle.pm_logic.specs.declared.formula.Formula.{Formula}
use Rattle.pm_logic.specs.declared.formula.Formula.TheVariants.{Pure as Fact}
use Rattle.pm_logic.specs.declared.formula.Preds.{Preds}
use Rattle.pm_logic.specs.declared.formula.Pure.{Pure}
use Rattle.pm_logic.specs.Trees.{Sep, And, Or, All, Ex, Later, Pers}
use Rattle.pm_model.specs.Resource.{Res, core}
use Rattle.pm_model.specs.Forcing.{Forces}
use Rattle.pm_model.specs.Entailment.{IsTrueEntailment}
use Rattle.pm_model.proofs.Core.{core_joins, core_extends, core_within}
use Rattle.pm_sound.proofs.Connectives.{grown}

-- what the core forces, the core's core forces
again : (preds : Preds) (x : Formula) (env : List ℤ) (n b : ℕ) (r : Res) → Forces preds env n b (core r) x → Forces preds env n b (core (core r)) x
again preds x env n b r h = grown preds x env n n b (core r) (core (core r)) (le_refl n) (core_within r) h

pub pers_mono_true : (preds : Preds) (k : ℕ) (x y : Formula) → IsTrueEntailment preds k x y → IsTrueEntailment preds k (Pers x) (Pers y)
pers_mono_true preds k x y f = record { holds = λ env len n r h. f.holds env len n (core r) h }

pub pers_elim_true : (preds : Preds) (k : ℕ) (x : Formula) → IsTrueEntailment preds k (Pers x) x
pers_elim_true preds k x = record { holds = λ env len n r h. grown preds x env n n (length preds.list) (core r) r (le_refl n) (core_extends r) h }

pub pers_idem_true : (preds : Preds) (k : ℕ) (x : Formula) → IsTrueEntailment preds k (Pers x) (Pers (Pers x))
pers_idem_true preds k x = record { holds = λ env len n r h. again preds x env n (length preds.list) r h }

pub pers_dup_true : (preds : Preds) (k : ℕ) (x y : Formula) → IsTrueEntailment preds k (And (Pers x) y) (Sep (Pers x) y)
pers_dup_true preds k x y = record { holds = λ env len n r h. (core r, r, core_joins r, again preds x env n (length preds.list) r h.0, h.1) }

pub pers_pure_true : (preds : Preds) (k : ℕ) (a : Pure) → IsTrueEntailment preds k (Fact a) (Pers (Fact a))
pers_pure_true preds k a = record { holds = λ env len n r h. h }

pub pers_and_true : (preds : Preds) (k : ℕ) (x y : Formula) → IsTrueEntailment preds k (And (Pers x) (Pers y)) (Pers (And x y))
pers_and_true preds k x y = record { holds = λ env len n r h. h }

pub pers_or_true : (preds : Preds) (k : ℕ) (x y : Formula) → IsTrueEntailment preds k (Pers (Or x y)) (Or (Pers x) (Pers y))
pers_or_true preds k x y = record { holds = λ env len n r h. h }

pub pers_all_true : (preds : Preds) (k : ℕ) (x : Formula) → IsTrueEntailment preds k (All (Pers x)) (Pers (All x))
pers_all_true preds k x = record { holds = λ env len n r h. h }

pub pers_ex_true : (preds : Preds) (k : ℕ) (x : Formula) → IsTrueEntailment preds k (Pers (Ex x)) (Ex (Pers x))
pers_ex_true preds k x = record { holds = λ env len n r h. h }

pub pers_later_true : (preds : Preds) (k : ℕ) (x : Formula) → IsTrueEntailment preds k (Pers (Later x)) (Later (Pers x))
pers_later_true preds k x = record { holds = λ env len n r h. h }

pub later_pers_true : (preds : Preds) (k : ℕ) (x : Formula) → IsTrueEntailment preds k (Later (Pers x)) (Pers (Later x))
later_pers_true preds k x = record { holds = λ env len n r h. h }
