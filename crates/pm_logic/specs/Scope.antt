-- Which formulas are scoped in a table of predicates and a number of variables, and the bodies of the table.
use Rattle.std.specs.Prelude.{◌≡◌, ℕ, zero, suc, ◌<◌, ◌≤◌, List, [], ◌∷◌, length, slice_get, MatchOption}
use Rattle.pm_logic.specs.declared.formula.Term.{Term}
use Rattle.pm_logic.specs.declared.formula.Term.TheVariants.{Lit, Var}
use Rattle.pm_logic.specs.declared.formula.Pure.{Pure}
use Rattle.pm_logic.specs.declared.formula.Pure.TheVariants.{True, False, Eq, Le, Lt}
use Rattle.pm_logic.specs.declared.formula.Formula.{Formula}
use Rattle.pm_logic.specs.declared.formula.Formula.TheVariants.{Pure as Fact, Pts, Call}
use Rattle.pm_logic.specs.declared.formula.Pred.{Pred}
use Rattle.pm_logic.specs.declared.formula.Preds.{Preds}
use Rattle.pm_logic.specs.declared.formula.TheConstants.{UNIT}
use Rattle.pm_logic.specs.Trees.{add, sub, neg, scale, both, either, nope, Sep, Wand, And, Or, Imp, All, Ex, Later, Pers, Upd}

-- every index of the term is below k
unfoldable pub TermScoped : ℕ → Term → Type 0
TermScoped k (Lit z) = Unit {0}
TermScoped k (Var i) = i < k
TermScoped k (add s t) = TermScoped k s × TermScoped k t
TermScoped k (sub s t) = TermScoped k s × TermScoped k t
TermScoped k (neg t) = TermScoped k t
TermScoped k (scale z t) = TermScoped k t

unfoldable pub TermsScoped : ℕ → List Term → Type 0
TermsScoped k [] = Unit {0}
TermsScoped k (t ∷ ts) = TermScoped k t × TermsScoped k ts

unfoldable pub PureScoped : ℕ → Pure → Type 0
PureScoped k True = Unit {0}
PureScoped k False = Unit {0}
PureScoped k (Eq s t) = TermScoped k s × TermScoped k t
PureScoped k (Le s t) = TermScoped k s × TermScoped k t
PureScoped k (Lt s t) = TermScoped k s × TermScoped k t
PureScoped k (both a b) = PureScoped k a × PureScoped k b
PureScoped k (either a b) = PureScoped k a × PureScoped k b
PureScoped k (nope a) = PureScoped k a

-- every free index of the formula is below k
unfoldable pub ScopedIn : ℕ → Formula → Type 0
ScopedIn k (Fact a) = PureScoped k a
ScopedIn k (Sep a b) = ScopedIn k a × ScopedIn k b
ScopedIn k (Wand a b) = ScopedIn k a × ScopedIn k b
ScopedIn k (And a b) = ScopedIn k a × ScopedIn k b
ScopedIn k (Or a b) = ScopedIn k a × ScopedIn k b
ScopedIn k (Imp a b) = ScopedIn k a × ScopedIn k b
ScopedIn k (All a) = ScopedIn (suc k) a
ScopedIn k (Ex a) = ScopedIn (suc k) a
ScopedIn k (Later a) = ScopedIn k a
ScopedIn k (Pers a) = ScopedIn k a
ScopedIn k (Upd a) = ScopedIn k a
ScopedIn k (Pts l u v) = TermScoped k l × TermScoped k v
ScopedIn k (Call q args) = TermsScoped k args

-- the table has this predicate, with so many arguments
abbrev pub CallFits : List Pred → ℕ → ℕ → Type 0
CallFits preds p n = MatchOption (slice_get preds p) ⊥ (λ q. n ≡ q.arity)

-- each call names a predicate of the table and has as many arguments as its arity, and units are 1 to a whole
unfoldable pub CallsFit : List Pred → Formula → Type 0
CallsFit preds (Fact a) = Unit {0}
CallsFit preds (Sep a b) = CallsFit preds a × CallsFit preds b
CallsFit preds (Wand a b) = CallsFit preds a × CallsFit preds b
CallsFit preds (And a b) = CallsFit preds a × CallsFit preds b
CallsFit preds (Or a b) = CallsFit preds a × CallsFit preds b
CallsFit preds (Imp a b) = CallsFit preds a × CallsFit preds b
CallsFit preds (All a) = CallsFit preds a
CallsFit preds (Ex a) = CallsFit preds a
CallsFit preds (Later a) = CallsFit preds a
CallsFit preds (Pers a) = CallsFit preds a
CallsFit preds (Upd a) = CallsFit preds a
CallsFit preds (Pts l u v) = (1 ≤ u) × (u ≤ UNIT)
CallsFit preds (Call q args) = CallFits preds q (length args)

-- the formula is scoped in the table and in k variables
pub record Scoped (preds : Preds) (k : ℕ) (f : Formula) : Type 0 where
  pub indices : ScopedIn k f
  pub calls : CallsFit preds.list f

-- the body of predicate p, and falsehood where there is no such predicate
abbrev pub body_of : List Pred → ℕ → Formula
body_of [] p = Fact False
body_of (q ∷ preds) zero = q.body
body_of (q ∷ preds) (suc p) = body_of preds p

-- the table of no predicates
abbrev pub no_predicates : Preds
no_predicates = record { list = [] }
