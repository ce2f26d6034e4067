-- What is asked of a call and its body, where the table has the predicate.
use Rattle.std.proofs.Common.{◌≡◌, ℕ, ◌+◌, ◌<◌, ◌≤◌, List, [], length, refl, sym, ◌∙◌, ap, subst, arith, Option, Some, None, slice_get}
use Rattle.std.specs.Prelude.{MatchOption}
use Rattle.std.proofs.lemmas.Option.{slice_get_within}
use Rattle.pm_logic.specs.declared.formula.Term.{Term}
use Rattle.pm_logic.specs.declared.formula.Formula.{Formula}
use Rattle.pm_logic.specs.declared.formula.Formula.TheVariants.{Call}
use Rattle.pm_logic.specs.declared.formula.Pred.{Pred}
use Rattle.pm_logic.specs.declared.formula.Preds.{Preds}
use Rattle.pm_logic.specs.declared.formula.TheConstants.{BOUND}
use Rattle.pm_logic.specs.Bounds.{past_indices}
use Rattle.pm_logic.specs.Scope.{TermsScoped, ScopedIn, CallFits, CallsFit, body_of}
use Rattle.pm_logic.specs.Size.{depth_of}
use Rattle.pm_logic.specs.Substitution.{subst_of}
use Rattle.pm_logic.proofs.Grows.{terms_grow}
use Rattle.pm_logic.proofs.Guards.{body_some}
use Rattle.pm_proof.specs.Trees.{Tree, entail, conclusion, side_depth}
use Rattle.pm_proof.specs.Known.{Proves, From}
use Rattle.pm_rules.specs.Rules.{IsFit}
use Rattle.pm_rules.proofs.Computed.{fit_body}
use Rattle.pm_table.specs.Loeb.{body_of_call}
use Rattle.pm_loeb.specs.Calls.{IsFoldable, IsUnfolded, IsFolded}

call_fits : (preds : List Pred) (p : ℕ) (args : List Term) → CallsFit preds (Call p args) → CallFits preds p (length args)
unfolding CallsFit
call_fits preds p args h = h

args_scoped : (k p : ℕ) (args : List Term) → ScopedIn k (Call p args) → TermsScoped k args
unfolding ScopedIn
args_scoped k p args h = h

-- the predicate that is called
record IsCalled (preds : Preds) (p : ℕ) (args : List Term) : Type 0 where
  pred : Pred
  get : slice_get preds.list p ≡ Some pred
  arity : length args ≡ pred.arity
  fit : IsFit preds pred.arity pred.body

called : (k : ℕ) (preds : Preds) (p : ℕ) (args : List Term) → IsFoldable preds k (Call p args) → IsCalled preds p args
called k preds p args h = by (slice_get preds.list p) refl (call_fits preds.list p args h.scoped.calls)
  where
    by : (o : Option Pred) → slice_get preds.list p ≡ o → MatchOption o ⊥ (λ q. length args ≡ q.arity) → IsCalled preds p args
    by None is bad = absurd bad
    by (Some q) is fits = record { pred = q; get = is; arity = fits; fit = fit_body preds p q h.bodies (sym is) }

foldable : (k : ℕ) (preds : Preds) (f : Formula) (p : ℕ) (args : List Term) → f ≡ Call p args → IsFoldable preds k f → IsFoldable preds k (Call p args)
foldable k preds f p args is h = subst (IsFoldable preds k) is h

module _ (k : ℕ) (preds : Preds) (f : Formula) (p : ℕ) (args : List Term) (is : f ≡ Call p args) (h : IsFoldable preds k f) where
  it : IsCalled preds p args
  it = called k preds p args (foldable k preds f p args is h)

  pub there : p < length preds.list
  there = slice_get_within preds.list p it.pred it.get

  body_is : body_of preds.list p ≡ it.pred.body
  body_is = body_some preds.list p it.pred (sym it.get)

  pub body_scoped : ScopedIn (length args) (body_of preds.list p)
  body_scoped = subst (λ g. ScopedIn (length args) g) (sym body_is) (subst (λ n. ScopedIn n it.pred.body) (sym it.arity) it.fit.scoped.indices)

  pub body_small : length args + depth_of (body_of preds.list p) ≤ BOUND
  body_small = subst (λ g. length args + depth_of g ≤ BOUND) (sym body_is) (subst (λ n. n + depth_of it.pred.body ≤ BOUND) (sym it.arity) it.fit.within)

  pub args_small : k ≤ BOUND → TermsScoped past_indices args
  unfolding past_indices
  args_small le = terms_grow k past_indices args (omega (arith, le)) (args_scoped k p args (foldable k preds f p args is h).scoped.indices)

  body_computed : body_of_call preds f ≡ Some (subst_of (body_of preds.list p) args)
  unfolding body_of_call
  body_computed = ap (body_of_call preds) is

  abbrev body : Formula
  body = subst_of (body_of preds.list p) args

  pub unfolds : (g : Formula) (t : Tree) → Proves (From preds) (entail k (Call p args) body) [] 1 (side_depth (entail k (Call p args) body)) k t → g ≡ (conclusion t).right → IsUnfolded preds k f (Some (record { formula = g; proof = t }))
  unfolds g t known at =
      let same : body ≡ g = sym (at ∙ ap (λ (e : _). e.right) known.concludes) in
      (body_computed ∙ ap Some same, subst (λ x. Proves (From preds) (entail k x g) [] 1 (side_depth (entail k x g)) k t) (sym is) (subst (λ x. Proves (From preds) (entail k (Call p args) x) [] 1 (side_depth (entail k (Call p args) x)) k t) same known))

  pub folds : (g : Formula) (t : Tree) → Proves (From preds) (entail k body (Call p args)) [] 1 (side_depth (entail k body (Call p args))) k t → g ≡ (conclusion t).left → IsFolded preds k f (Some (record { formula = g; proof = t }))
  folds g t known at =
      let same : body ≡ g = sym (at ∙ ap (λ (e : _). e.left) known.concludes) in
      (body_computed ∙ ap Some same, subst (λ x. Proves (From preds) (entail k g x) [] 1 (side_depth (entail k g x)) k t) (sym is) (subst (λ x. Proves (From preds) (entail k x (Call p args)) [] 1 (side_depth (entail k x (Call p args))) k t) same known))
