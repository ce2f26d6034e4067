-- Formulas that are computed: openings, and depths.
use Rattle.std.proofs.Common.{◌≡◌, ◌↔◌, ℕ, suc, List, Option, None, Some, slice_get, MatchOption, length, ◌+◌, ◌≤◌, refl, ap, sym, subst, ◌∙◌}
use Rattle.std.proofs.lemmas.Option.{slice_get_within}
use Rattle.pm_logic.specs.declared.formula.Term.{Term}
use Rattle.pm_logic.specs.declared.formula.Pure.TheVariants.{Eq}
use Rattle.pm_logic.specs.declared.formula.Formula.{Formula}
use Rattle.pm_logic.specs.declared.formula.Formula.TheVariants.{Pure as Fact, Call}
use Rattle.pm_logic.specs.declared.formula.Formula.TheViews as view
use Rattle.pm_logic.specs.declared.formula.Pred.{Pred}
use Rattle.pm_logic.specs.declared.formula.Preds.{Preds}
use Rattle.pm_logic.specs.declared.formula.TheConstants.{BOUND}
use Rattle.pm_logic.specs.Scope.{body_of, ScopedIn, CallFits, CallsFit}
use Rattle.pm_logic.specs.Size.{depth_of}
use Rattle.pm_logic.specs.Substitution.{opened_of, subst_of}
use Rattle.pm_logic.specs.Trees as tree
use Rattle.pm_logic.proofs.Guards.{body_some}
use Rattle.pm_logic.proofs.Scopes.{call_fit_to}
use Rattle.pm_logic.proofs.Views.{view_all, view_ex}
use Rattle.pm_rules.specs.declared.pattern.Unary.TheVariants as unary
use Rattle.pm_rules.specs.declared.pattern.Binary.TheVariants as binary
use Rattle.pm_rules.specs.Equations.{IsAllE, IsExI, IsRewrite, IsFold}
use Rattle.pm_rules.specs.Rules.{IsFit, HasFitBodies}
use Rattle.pm_rules.proofs.Matched.{one_same, two_same}

depth_tree_all : (b : Formula) → depth_of (tree.All b) ≡ suc (depth_of b)
unfolding depth_of
depth_tree_all b = refl

depth_tree_ex : (b : Formula) → depth_of (tree.Ex b) ≡ suc (depth_of b)
unfolding depth_of
depth_tree_ex b = refl

pub depth_all : (b : Formula) → depth_of (view.All b) ≡ suc (depth_of b)
depth_all b = ap depth_of (view_all b) ∙ depth_tree_all b

pub depth_ex : (b : Formula) → depth_of (view.Ex b) ≡ suc (depth_of b)
depth_ex b = ap depth_of (view_ex b) ∙ depth_tree_ex b

pub specialized : (t : Term) (b left right : Formula) → left ≡ view.All b → (right ≡ opened_of b t) ↔ IsAllE t left right
specialized t b left right e = (
  λ h. record { b = b; left_is = e; right_is = h },
  λ h. h.right_is ∙ ap (λ x. opened_of x t) (one_same unary.All h.b b (sym h.left_is ∙ e)),
)

pub witnessed : (t : Term) (b left right : Formula) → right ≡ view.Ex b → (left ≡ opened_of b t) ↔ IsExI t left right
witnessed t b left right e = (
  λ h. record { b = b; left_is = h; right_is = e },
  λ h. h.left_is ∙ ap (λ x. opened_of x t) (one_same unary.Ex h.b b (sym h.right_is ∙ e)),
)

equation_same : (s t s' t' : Term) → Fact (Eq s t) ≡ Fact (Eq s' t') → (s ≡ s') × (t ≡ t')
equation_same s t s' t' e = (cc, cc)

pub rewritten_from : (b : Formula) (s t : Term) (left right from : Formula) → left ≡ view.And (Fact (Eq s t)) from → IsRewrite b left right → from ≡ opened_of b s
rewritten_from b s t left right from e h =
    let sides = two_same binary.And (Fact (Eq s t)) from (Fact (Eq h.s h.t)) (opened_of b h.s) (sym e ∙ h.left_is) in
    sides.1 ∙ ap (opened_of b) (sym (equation_same s t h.s h.t sides.0).0)

pub rewritten : (b : Formula) (s t : Term) (left right from : Formula) → left ≡ view.And (Fact (Eq s t)) from → from ≡ opened_of b s → (right ≡ opened_of b t) ↔ IsRewrite b left right
rewritten b s t left right from e f = (
  λ h. record { s = s; t = t; left_is = e ∙ ap (view.And (Fact (Eq s t))) f; right_is = h },
  λ h. h.right_is ∙ ap (opened_of b) (sym (equation_same s t h.s h.t (two_same binary.And (Fact (Eq s t)) from (Fact (Eq h.s h.t)) (opened_of b h.s) (sym e ∙ h.left_is)).0).1),
)

pub through : {A B C : Type 0} → A ↔ B → B ↔ C → A ↔ C
through p q = (λ a. q.0 (p.0 a), λ c. p.1 (q.1 c))

pub as_equation : (s t : Term) (left fact fact' from from' : Formula) → left ≡ view.And fact from → fact' ≡ fact → fact' ≡ Fact (Eq s t) → from' ≡ from → left ≡ view.And (Fact (Eq s t)) from'
as_equation s t left fact fact' from from' e f g h = e ∙ ap (λ x. view.And x from) (sym f ∙ g) ∙ ap (view.And (Fact (Eq s t))) (sym h)

-- ---- folding

pub folded : (preds : Preds) (p : ℕ) (args : List Term) (q : Pred) (body call : Formula) → call ≡ Call p args → Some q ≡ slice_get preds.list p → (body ≡ subst_of q.body args) ↔ IsFold preds body call
folded preds p args q body call e f = (
  λ h. record { p = p; there = slice_get_within preds.list p q (sym f); args = args; body_is = h ∙ ap (λ x. subst_of x args) (sym (body_some preds.list p q f)); call_is = e },
  λ h.
      let same_p : h.p ≡ p = cc (e, h.call_is) in
      let same_args : h.args ≡ args = cc (e, h.call_is) in
      h.body_is ∙ ap (λ x. subst_of (body_of preds.list x) h.args) same_p ∙ ap (subst_of (body_of preds.list p)) same_args ∙ ap (λ x. subst_of x args) (body_some preds.list p q f),
)

unfoldable_call : (preds : List Pred) (p : ℕ) (args : List Term) (f : Formula) → f ≡ Call p args → CallsFit preds f → CallFits preds p (length args)
unfoldable_call preds p args f e h = let P : Formula → Type 0 = CallsFit preds in call_fit_to preds p args (subst P e h)

-- the predicate of a call that fits
pub fit_call : (preds : List Pred) (p : ℕ) (args : List Term) (q : Pred) (f : Formula) → f ≡ Call p args → CallsFit preds f → Some q ≡ slice_get preds p → length args ≡ q.arity
fit_call preds p args q f e h g = let P : Option Pred → Type 0 = λ o. MatchOption o ⊥ (λ x. length args ≡ x.arity) in subst P (sym g) (unfoldable_call preds p args f e h)

pub no_call : (preds : List Pred) (p : ℕ) (args : List Term) (f : Formula) → f ≡ Call p args → CallsFit preds f → None ≡ slice_get preds p → ⊥
no_call preds p args f e h g = let P : Option Pred → Type 0 = λ o. MatchOption o ⊥ (λ x. length args ≡ x.arity) in subst P (sym g) (unfoldable_call preds p args f e h)

pub fit_body : (preds : Preds) (p : ℕ) (q : Pred) → HasFitBodies preds → Some q ≡ slice_get preds.list p → IsFit preds q.arity q.body
fit_body preds p q h g = let P : Option Pred → Type 0 = λ o. MatchOption o (Unit {0}) (λ x. IsFit preds x.arity x.body) in subst P (sym g) (h.at p)

-- what is asked where the body is taken with the arguments
pub body_scoped : (preds : Preds) (p n : ℕ) (q : Pred) → HasFitBodies preds → Some q ≡ slice_get preds.list p → n ≡ q.arity → ScopedIn n q.body
body_scoped preds p n q h g e = let P : ℕ → Type 0 = λ k. ScopedIn k q.body in subst P (sym e) (fit_body preds p q h g).scoped.indices

pub body_within : (preds : Preds) (p n : ℕ) (q : Pred) → HasFitBodies preds → Some q ≡ slice_get preds.list p → n ≡ q.arity → n + depth_of q.body ≤ BOUND
body_within preds p n q h g e = let w = (fit_body preds p q h g).within in let P : ℕ → Type 0 = λ k. k + depth_of q.body ≤ BOUND in subst P (sym e) w
