-- Laws of the core and of forcing.
use Rattle.std.specs.Prelude.{◌≡◌, ◌↔◌, ℕ, ◌<◌, ◌≤◌, List, ◌∷◌, length, ◌⊎◌, ℤ}
use Rattle.pm_logic.specs.declared.formula.Formula.{Formula}
use Rattle.pm_logic.specs.declared.formula.Formula.TheVariants.{Pure as Fact, Pts, Call}
use Rattle.pm_logic.specs.declared.formula.Preds.{Preds}
use Rattle.pm_logic.specs.declared.formula.Pure.{Pure}
use Rattle.pm_logic.specs.declared.formula.Term.{Term}
use Rattle.pm_logic.specs.Trees.{Sep, Wand, And, Or, Imp, All, Ex, Later, Pers, Upd}
use Rattle.pm_logic.specs.Values.{eval, evals, Holds}
use Rattle.pm_logic.specs.Scope.{body_of}
use Rattle.pm_logic.specs.Guard.{CallsBelow}
use Rattle.pm_logic.specs.Classes.{IsPersistent}
use Rattle.pm_logic.specs.Substitution.{subst_of}
use Rattle.pm_model.specs.Resource.{Res, Joins, Extends, core}
use Rattle.pm_model.specs.Forcing.{HasAtLeast, AtStepBefore, bodies, Forces}

-- The core is a part that adds nothing, is its own core, and grows with the resource.
pub record IsCore (r : Res) : Type 0 where
  pub joins : Joins (core r) r r
  pub twice : (l : ℤ) → (core (core r)).at l ≡ (core r).at l
  pub grows : (s : Res) → Extends r s → Extends (core r) (core s)

abbrev pub CoreLaws : Type 0
CoreLaws = (r : Res) → IsCore r

-- The table of forcing, row by row.
pub record Table (preds : Preds) (env : List ℤ) (n b : ℕ) (r : Res) : Type 0 where
  pub pure_row : (a : Pure) → Forces preds env n b r (Fact a) ↔ Holds env a
  pub pts_row : (l v : Term) (u : ℕ) → Forces preds env n b r (Pts l u v) ↔ HasAtLeast (r.at (eval env l)) u (eval env v)
  pub sep_row : (x y : Formula) → Forces preds env n b r (Sep x y) ↔ ((r1 : Res) × (r2 : Res) × Joins r1 r2 r × Forces preds env n b r1 x × Forces preds env n b r2 y)
  pub wand_row : (x y : Formula) → Forces preds env n b r (Wand x y) ↔ ((m : ℕ) → m ≤ n → (s c : Res) → Joins r s c → Forces preds env m b s x → Forces preds env m b c y)
  pub and_row : (x y : Formula) → Forces preds env n b r (And x y) ↔ (Forces preds env n b r x × Forces preds env n b r y)
  pub or_row : (x y : Formula) → Forces preds env n b r (Or x y) ↔ (Forces preds env n b r x ⊎ Forces preds env n b r y)
  pub imp_row : (x y : Formula) → Forces preds env n b r (Imp x y) ↔ ((m : ℕ) → m ≤ n → (s : Res) → Extends r s → Forces preds env m b s x → Forces preds env m b s y)
  pub all_row : (x : Formula) → Forces preds env n b r (All x) ↔ ((z : ℤ) → Forces preds (z ∷ env) n b r x)
  pub ex_row : (x : Formula) → Forces preds env n b r (Ex x) ↔ ((z : ℤ) × Forces preds (z ∷ env) n b r x)
  pub later_row : (x : Formula) → Forces preds env n b r (Later x) ↔ AtStepBefore n (λ m. Forces preds env m (length preds.list) r x)
  pub pers_row : (x : Formula) → Forces preds env n b r (Pers x) ↔ Forces preds env n b (core r) x
  pub upd_row : (x : Formula) → Forces preds env n b r (Upd x) ↔ ((f c : Res) → Joins f r c → (s : Res) × (d : Res) × Joins f s d × Forces preds env n b s x)
  pub call_row : (p : ℕ) (args : List Term) → Forces preds env n b r (Call p args) ↔ ((p < b) × Forces preds (evals env args) n p r (body_of preds.list p))

abbrev pub IsTable : Type 0
IsTable = (preds : Preds) (env : List ℤ) (n b : ℕ) (r : Res) → Table preds env n b r

-- The meaning of a body is that the body is forced, with the number of its predicate as the bound.
abbrev pub BodiesAreForced : Type 0
BodiesAreForced = (preds : Preds) (n p : ℕ) (vals : List ℤ) (r : Res) → bodies preds.list n p vals r ↔ Forces preds vals n p r (body_of preds.list p)

-- What is forced stays forced at smaller steps and by larger resources.
abbrev pub Monotone : Type 0
Monotone = (preds : Preds) (x : Formula) (env : List ℤ) (n m b : ℕ) (r s : Res) → m ≤ n → Extends r s → Forces preds env n b r x → Forces preds env m b s x

-- Where all calls that stand under no later are below both bounds, a formula is forced with the one exactly where it is with the other.
abbrev pub Bound : Type 0
Bound = (preds : Preds) (x : Formula) (env : List ℤ) (n b c : ℕ) (r : Res) → CallsBelow b x → CallsBelow c x → Forces preds env n b r x ↔ Forces preds env n c r x

-- After a substitution a formula is forced exactly where it is forced in the values of the terms.
abbrev pub Substitution : Type 0
Substitution = (preds : Preds) (x : Formula) (sigma : List Term) (env : List ℤ) (n b : ℕ) (r : Res) → Forces preds env n b r (subst_of x sigma) ↔ Forces preds (evals env sigma) n b r x

-- Where what is persistent by its form is forced, so is its box.
abbrev pub PersistentIsBoxed : Type 0
PersistentIsBoxed = (preds : Preds) (x : Formula) (env : List ℤ) (n b : ℕ) (r : Res) → IsPersistent x → Forces preds env n b r x → Forces preds env n b r (Pers x)
