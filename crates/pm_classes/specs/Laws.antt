-- The parts of a formula are within it.
use Rattle.std.specs.Prelude.{◌≡◌, ℕ, suc, ◌≤◌, Option, Some}
use Rattle.pm_logic.specs.declared.formula.Pure as P
use Rattle.pm_logic.specs.declared.formula.Formula.{Formula}
use Rattle.pm_logic.specs.declared.formula.Formula.TheVariants.{Pure as Fact}
use Rattle.pm_logic.specs.declared.formula.Preds.{Preds}
use Rattle.pm_logic.specs.Scope.{Scoped}
use Rattle.pm_logic.specs.Size.{depth_of, nodes_of}
use Rattle.pm_classes.specs.Classes.{Parts, into_sep, into_and, into_or, into_exist, into_forall, into_wand, into_pure, from_pure, into_persistent}

-- g has neither more nodes nor more levels than f
pub record NoLarger (f g : Formula) : Type 0 where
  pub nodes : nodes_of g ≤ nodes_of f
  pub levels : depth_of g ≤ depth_of f

abbrev pub PartsNoLarger : (Formula → Option Parts) → Type 0
PartsNoLarger class = (f : Formula) (p : Parts) → class f ≡ Some p → NoLarger f p.first × NoLarger f p.second

abbrev pub OneNoLarger : (Formula → Option Formula) → Type 0
OneNoLarger class = (f g : Formula) → class f ≡ Some g → NoLarger f g

abbrev pub PureNoLarger : (Formula → Option P.Pure) → Type 0
PureNoLarger class = (f : Formula) (p : P.Pure) → class f ≡ Some p → NoLarger f (Fact p)

-- No entry is larger than its formula.
pub record EntriesAreNoLarger : Type 0 where
  pub sep : PartsNoLarger into_sep
  pub and_ : PartsNoLarger into_and
  pub or_ : PartsNoLarger into_or
  pub exist : OneNoLarger into_exist
  pub forall_ : OneNoLarger into_forall
  pub wand : PartsNoLarger into_wand
  pub pure_of : PureNoLarger into_pure
  pub of_pure : PureNoLarger from_pure
  pub persistent : OneNoLarger into_persistent

abbrev pub PartsScoped : (Formula → Option Parts) → Type 0
PartsScoped class = (preds : Preds) (k : ℕ) (f : Formula) (p : Parts) → class f ≡ Some p → Scoped preds k f → Scoped preds k p.first × Scoped preds k p.second

abbrev pub BodyScoped : (Formula → Option Formula) → Type 0
BodyScoped class = (preds : Preds) (k : ℕ) (f g : Formula) → class f ≡ Some g → Scoped preds k f → Scoped preds (suc k) g

abbrev pub OneScoped : (Formula → Option Formula) → Type 0
OneScoped class = (preds : Preds) (k : ℕ) (f g : Formula) → class f ≡ Some g → Scoped preds k f → Scoped preds k g

abbrev pub PureScopedBy : (Formula → Option P.Pure) → Type 0
PureScopedBy class = (preds : Preds) (k : ℕ) (f : Formula) (p : P.Pure) → class f ≡ Some p → Scoped preds k f → Scoped preds k (Fact p)

-- Each entry is scoped where its formula is; the body of a quantifier in one variable more.
pub record EntriesAreScoped : Type 0 where
  pub sep : PartsScoped into_sep
  pub and_ : PartsScoped into_and
  pub or_ : PartsScoped into_or
  pub exist : BodyScoped into_exist
  pub forall_ : BodyScoped into_forall
  pub wand : PartsScoped into_wand
  pub pure_of : PureScopedBy into_pure
  pub of_pure : PureScopedBy from_pure
  pub persistent : OneScoped into_persistent
