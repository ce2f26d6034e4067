-- What is known of a proof.
use Rattle.std.specs.Prelude.{◌≡◌, ℕ, ◌+◌, ◌≤◌, max, List, [], ◌∷◌, ◌++◌}
use Rattle.std.specs.List.{AllByRecursion}
use Rattle.pm_logic.specs.declared.formula.Preds.{Preds}
use Rattle.pm_logic.specs.declared.formula.Pred.{Pred}
use Rattle.pm_rules.specs.declared.rules.Entail.{Entail}
use Rattle.pm_proof.specs.Trees.{Tree, conclusion, holes_of, rules, depth, variables, splice}
use Rattle.pm_proof.specs.Valid.{Valid, EntailScoped, IsScoped}

-- every table, or this one and each that has more predicates at its end
pub data Tables : Type 0 where
  Every : Tables
  From : Preds → Tables

abbrev pub IsAmong : Tables → Preds → Type 0
IsAmong Every preds = Unit {0}
IsAmong (From base) preds = (more : List Pred) × (preds.list ≡ base.list ++ more)

-- h is scoped under each table under which e and all of hs are
abbrev pub ScopedWhere : Entail → List Entail → Entail → Type 0
ScopedWhere e hs h = (preds : Preds) → EntailScoped preds e → AllByRecursion (EntailScoped preds) hs → EntailScoped preds h

-- a proof of e with the holes hs, valid under each of the tables, scoped under each table under which e and the holes are,
-- with at most n rules, no formula deeper than d, and no entailment in more than k variables
pub record Proves (on : Tables) (e : Entail) (hs : List Entail) (n d k : ℕ) (t : Tree) : Type 0 where
  pub concludes : conclusion t ≡ e
  pub holes : holes_of t ≡ hs
  pub valid : (preds : Preds) → IsAmong on preds → Valid preds t
  pub scoped : (preds : Preds) → EntailScoped preds e → AllByRecursion (EntailScoped preds) hs → IsScoped preds t
  pub size : rules t ≤ n
  pub shallow : depth t ≤ d
  pub narrow : variables t ≤ k

-- a proof of e around the proof `by` that is handed in: it has the holes of that one, is valid wherever that one is, scoped
-- wherever that one and e are, has at most n rules more, and besides what is in that one no formula deeper than d and no
-- entailment in more than k variables
pub record Extends (by : Tree) (e : Entail) (n d k : ℕ) (t : Tree) : Type 0 where
  pub concludes : conclusion t ≡ e
  pub holes : holes_of t ≡ holes_of by
  pub valid : (preds : Preds) → Valid preds by → Valid preds t
  pub scoped : (preds : Preds) → EntailScoped preds e → IsScoped preds by → IsScoped preds t
  pub size : rules t ≤ rules by + n
  pub shallow : depth t ≤ max (depth by) d
  pub narrow : variables t ≤ max (variables by) k

-- a proof of what a hole wants, put at that hole; what it wants is scoped where e and the holes that are left are
abbrev pub FillProves : Tree → ℕ → Tree → Tree → Type 0
FillProves t i x y = (on : Tables) (e : Entail) (hs gs : List Entail) (n m d k : ℕ) → Proves on e hs n d k t → Proves on (conclusion x) gs m d k x → ScopedWhere e (splice hs i gs) (conclusion x) → Proves on e (splice hs i gs) (n + m) d k y

-- a proof that is handed in, put at the only hole of one that was built
abbrev pub FillExtends : Tree → ℕ → Tree → Tree → Type 0
FillExtends t i x y = (e : Entail) (n d k : ℕ) → Proves Every e (conclusion x ∷ []) n d k t → Extends x e n d k y
