use Rattle.std.proofs.Common.{length, suc}
use Rattle.pm_logic.specs.Substitution.{entries, first, one_up}
use Rattle.pm_logic.specs.Abstraction.{abstracted}
use Rattle.pm_logic.specs.Substitution.{raised_by}
use Rattle.pm_logic.proofs.Kept.{in_formula_scoped, in_formula_fits, abstract_of_scoped, changed_fits, entries_reach, first_reaches, one_up_reaches}
use Rattle.pm_logic.proofs.substitution.scope_is_kept.Goals as goal

pub returns : goal.returns
returns c = record {
  subst_scoped = λ k f sigma h g. in_formula_scoped (length sigma) k (entries sigma) (entries_reach k sigma g) f h;
  shift_scoped = λ k f h. in_formula_scoped k (suc k) one_up (one_up_reaches k) f h;
  opened_scoped = λ k body t h g. in_formula_scoped (suc k) k (first t) (first_reaches k t g) body h;
  abstract_scoped = λ k f s h. abstract_of_scoped k f s h;
  subst_fits = λ preds f sigma h. in_formula_fits preds (entries sigma) f h;
  shift_fits = λ preds f h. in_formula_fits preds one_up f h;
  opened_fits = λ preds body t h. in_formula_fits preds (first t) body h;
  abstract_fits = λ preds f s h. changed_fits preds (λ d. abstracted d (raised_by d s)) 0 f h;
}
