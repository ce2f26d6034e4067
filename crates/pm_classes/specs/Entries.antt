-- What the calls answer: the entry of the table, with a proof of what its class says.
use Rattle.std.specs.Prelude.{◌≡◌, ℕ, ◌+◌, ◌*◌, ◌<◌, max, Option, None, Some, []}
use Rattle.pm_logic.specs.declared.formula.Pure as P
use Rattle.pm_logic.specs.declared.formula.Formula.{Formula}
use Rattle.pm_logic.specs.declared.formula.Formula.TheVariants.{Pure as Fact}
use Rattle.pm_logic.specs.declared.formula.Formula.TheViews as view
use Rattle.pm_logic.specs.declared.formula.TheConstants.{BOUND}
use Rattle.pm_logic.specs.Scope.{ScopedIn}
use Rattle.pm_logic.specs.Size.{depth_of, nodes_of}
use Rattle.pm_rules.specs.declared.rules.Entail.{Entail}
use Rattle.pm_proof.specs.Trees.{Tree, entail}
use Rattle.pm_proof.specs.Known.{Proves, Every}
use Rattle.pm_classes.specs.declared.entry.Pair.{Pair}
use Rattle.pm_classes.specs.declared.entry.One.{One}
use Rattle.pm_classes.specs.declared.entry.OnePure.{OnePure}
use Rattle.pm_classes.specs.Classes.{Parts, into_sep, into_and, into_or, into_exist, into_forall, into_wand, into_pure, from_pure, into_persistent, combine}

-- what is handed in: scoped in k variables, and not too deep for so many
pub record IsHanded (k : ℕ) (f : Formula) : Type 0 where
  pub scoped : ScopedIn k f
  pub within : k + depth_of f < BOUND

-- a proof of e without holes, valid under every table and scoped where e is, with at most 200 rules for each node of f, no
-- formula deeper by more than 8 than f, and no more variables than the k and one for each level of f
abbrev pub HasProof : ℕ → Formula → Entail → Tree → Type 0
HasProof k f e t = Proves Every e [] (200 * nodes_of f) (depth_of f + 8) (k + depth_of f) t

-- ---- an entry with its proof, or none where there is none

pub record IsPair (says : Parts → Entail) (k : ℕ) (f : Formula) (p : Parts) (r : Pair) : Type 0 where
  pub first : r.first ≡ p.first
  pub second : r.second ≡ p.second
  pub proof : HasProof k f (says p) r.proof

abbrev pub PairAnswers : (Parts → Entail) → ℕ → Formula → Option Parts → Option Pair → Type 0
PairAnswers says k f None None = Unit {0}
PairAnswers says k f None (Some r) = ⊥
PairAnswers says k f (Some p) None = ⊥
PairAnswers says k f (Some p) (Some r) = IsPair says k f p r

pub record IsOne (says : Formula → Entail) (k : ℕ) (f g : Formula) (r : One) : Type 0 where
  pub formula : r.formula ≡ g
  pub proof : HasProof k f (says g) r.proof

abbrev pub OneAnswers : (Formula → Entail) → ℕ → Formula → Option Formula → Option One → Type 0
OneAnswers says k f None None = Unit {0}
OneAnswers says k f None (Some r) = ⊥
OneAnswers says k f (Some g) None = ⊥
OneAnswers says k f (Some g) (Some r) = IsOne says k f g r

pub record IsPure (says : P.Pure → Entail) (k : ℕ) (f : Formula) (p : P.Pure) (r : OnePure) : Type 0 where
  pub pure : r.pure ≡ p
  pub proof : HasProof k f (says p) r.proof

abbrev pub PureAnswers : (P.Pure → Entail) → ℕ → Formula → Option P.Pure → Option OnePure → Type 0
PureAnswers says k f None None = Unit {0}
PureAnswers says k f None (Some r) = ⊥
PureAnswers says k f (Some p) None = ⊥
PureAnswers says k f (Some p) (Some r) = IsPure says k f p r

-- ---- what each class says of the formula, in k variables, and what its call answers

abbrev pub sep_says : ℕ → Formula → Parts → Entail
sep_says k f p = entail k f (view.Sep p.first p.second)

abbrev pub and_says : ℕ → Formula → Parts → Entail
and_says k f p = entail k (view.Pers f) (view.Sep (view.Pers p.first) (view.Pers p.second))

abbrev pub or_says : ℕ → Formula → Parts → Entail
or_says k f p = entail k f (view.Or p.first p.second)

abbrev pub exist_says : ℕ → Formula → Formula → Entail
exist_says k f b = entail k f (view.Ex b)

abbrev pub forall_says : ℕ → Formula → Formula → Entail
forall_says k f b = entail k f (view.All b)

abbrev pub wand_says : ℕ → Formula → Parts → Entail
wand_says k f p = entail k f (view.Wand p.first p.second)

abbrev pub into_pure_says : ℕ → Formula → P.Pure → Entail
into_pure_says k f p = entail k f (Fact p)

abbrev pub from_pure_says : ℕ → Formula → P.Pure → Entail
from_pure_says k f p = entail k (Fact p) f

abbrev pub persistent_says : ℕ → Formula → Formula → Entail
persistent_says k f g = entail k f (view.Pers g)

abbrev pub SepAnswer : ℕ → Formula → Option Pair → Type 0
SepAnswer k f r = PairAnswers (sep_says k f) k f (into_sep f) r

abbrev pub AndAnswer : ℕ → Formula → Option Pair → Type 0
AndAnswer k f r = PairAnswers (and_says k f) k f (into_and f) r

abbrev pub OrAnswer : ℕ → Formula → Option Pair → Type 0
OrAnswer k f r = PairAnswers (or_says k f) k f (into_or f) r

abbrev pub ExistAnswer : ℕ → Formula → Option One → Type 0
ExistAnswer k f r = OneAnswers (exist_says k f) k f (into_exist f) r

abbrev pub ForallAnswer : ℕ → Formula → Option One → Type 0
ForallAnswer k f r = OneAnswers (forall_says k f) k f (into_forall f) r

abbrev pub WandAnswer : ℕ → Formula → Option Pair → Type 0
WandAnswer k f r = PairAnswers (wand_says k f) k f (into_wand f) r

abbrev pub IntoPureAnswer : ℕ → Formula → Option OnePure → Type 0
IntoPureAnswer k f r = PureAnswers (into_pure_says k f) k f (into_pure f) r

abbrev pub FromPureAnswer : ℕ → Formula → Option OnePure → Type 0
FromPureAnswer k f r = PureAnswers (from_pure_says k f) k f (from_pure f) r

abbrev pub PersistentAnswer : ℕ → Formula → Option One → Type 0
PersistentAnswer k f r = OneAnswers (persistent_says k f) k f (into_persistent f) r

-- the formula g, with a proof of a ∗ b ⊢ g, with at most 200 rules for each node of a and b, no formula deeper by more than 8
-- than the deeper of them, and no more variables than the k and one for each level of that one
pub record CombinesTo (k : ℕ) (a b g : Formula) (r : One) : Type 0 where
  pub formula : r.formula ≡ g
  pub proof : Proves Every (entail k (view.Sep a b) g) [] (200 * (nodes_of a + nodes_of b)) (max (depth_of a) (depth_of b) + 8) (k + max (depth_of a) (depth_of b)) r.proof

abbrev pub Combines : ℕ → Formula → Formula → One → Type 0
Combines k a b r = CombinesTo k a b (combine a b) r
