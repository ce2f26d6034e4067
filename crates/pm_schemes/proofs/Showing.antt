-- The rules of pure facts, and that of timeless formulas, are met.
use Rattle.std.proofs.Common.{ℕ, ℤ, ◌≡◌, ◌≤◌, List, [], length, refl, ap, ◌∙◌}
use Rattle.pm_logic.specs.declared.formula.Term.{Term}
use Rattle.pm_logic.specs.declared.formula.Pure as P
use Rattle.pm_logic.specs.declared.formula.Pure.TheVariants.{True as Truth, False as Falsity, Eq}
use Rattle.pm_logic.specs.declared.formula.Formula.{Formula}
use Rattle.pm_logic.specs.declared.formula.Formula.TheViews as view
use Rattle.pm_logic.specs.declared.formula.Formula.TheVariants.{Pure as Fact}
use Rattle.pm_logic.specs.declared.formula.Preds.{Preds}
use Rattle.pm_logic.specs.Classes.{IsTimeless}
use Rattle.pm_logic.specs.declared.limits.TheConstants.{MAX_LINE_LEVELS}
use Rattle.pm_logic.specs.Size.{depth_of}
use Rattle.pm_logic.specs.Substitution.{opened_of}
use Rattle.pm_rules.specs.declared.rules.Rule.TheVariants.{Linear, Rewrite, Timeless}
use Rattle.pm_rules.specs.Shapes.{Letters}
use Rattle.pm_rules.specs.Rules.{RuleOk}
use Rattle.pm_rules.specs.Rows.{HasArguments, HasBracket}
use Rattle.pm_rules.specs.Equations.{IsFacts}
use Rattle.pm_rules.specs.Linear.{HasFactors}
use Rattle.pm_proof.specs.Trees.{Tree, Axiom, entail, side_depth}
use Rattle.pm_proof.specs.Valid.{ArgumentsFit}
use Rattle.pm_proof.specs.Known.{Every, Proves}
use Rattle.pm_schemes.proofs.Leaves.{leaf}
use Rattle.pm_schemes.proofs.Rooms.{factors_room}
use Rattle.pm_schemes.proofs.Templates.{template_scoped}

shown_ok : (preds : Preds) (k : ℕ) (c d : List ℤ) (p g : P.Pure) → IsFacts p → HasFactors c d k (Fact p) (Fact g) → RuleOk preds (Linear c d) [] (entail k (Fact p) (Fact g))
unfolding HasArguments HasBracket
shown_ok preds k c d p g facts by = record { premises = refl; variables = tt; arguments = tt; shape = record { p = p; g = g; facts = facts; left_is = refl; right_is = refl }; bracket = by }

pub shown : (k : ℕ) (c d : List ℤ) (p g : P.Pure) (t : Tree) → IsFacts p → length c ≤ 66 → HasFactors c d k (Fact p) (Fact g) → t ≡ Axiom (Linear c d) (entail k (Fact p) (Fact g)) → Proves Every (entail k (Fact p) (Fact g)) [] 1 (side_depth (entail k (Fact p) (Fact g))) k t
shown k c d p g t facts few by is = leaf Every (Linear c d) (entail k (Fact p) (Fact g)) t is (λ preds among. shown_ok preds k c d p g facts by) (λ preds s. factors_room preds k c d (Fact p) (Fact g) few by)

-- ▷ ⌜False⌝ ∨ P
abbrev soon : Formula → Formula
soon p = view.Or (view.Later (Fact Falsity)) p

only : Formula → Letters
only p = record { formula = λ i. p; pure = λ i. Truth }

timeless_ok : (preds : Preds) (k : ℕ) (p : Formula) → IsTimeless p → RuleOk preds Timeless [] (entail k (view.Later p) (soon p))
unfolding HasArguments HasBracket only
timeless_ok preds k p h = record { premises = refl; variables = tt; arguments = tt; shape = record { letters = only p; premises = tt; conclusion = record { left_is = refl; right_is = refl } }; bracket = record { p = p; left_is = refl; timeless = h } }

pub timeless : (k : ℕ) (p : Formula) (t : Tree) → IsTimeless p → t ≡ Axiom Timeless (entail k (view.Later p) (soon p)) → Proves Every (entail k (view.Later p) (soon p)) [] 1 (side_depth (entail k (view.Later p) (soon p))) k t
unfolding ArgumentsFit
timeless k p t h is = leaf Every Timeless (entail k (view.Later p) (soon p)) t is (λ preds among. timeless_ok preds k p h) (λ preds s. tt)

rewritten_ok : (preds : Preds) (k : ℕ) (b : Formula) (x y : Term) → RuleOk preds (Rewrite b) [] (entail k (view.And (Fact (Eq x y)) (opened_of b x)) (opened_of b y))
unfolding HasArguments HasBracket
rewritten_ok preds k b x y = record { premises = refl; variables = tt; arguments = tt; shape = record { s = x; t = y; left_is = refl; right_is = refl }; bracket = tt }

pub rewritten : (k : ℕ) (b c l r : Formula) (x y : Term) (t : Tree) → depth_of b ≤ MAX_LINE_LEVELS → c ≡ b → l ≡ view.And (Fact (Eq x y)) (opened_of b x) → r ≡ opened_of b y → t ≡ Axiom (Rewrite c) (entail k l r) → Proves Every (entail k (view.And (Fact (Eq x y)) (opened_of b x)) (opened_of b y)) [] 1 (side_depth (entail k (view.And (Fact (Eq x y)) (opened_of b x)) (opened_of b y))) k t
unfolding ArgumentsFit
rewritten k b c l r x y t levels same left right is =
    let e : t ≡ Axiom (Rewrite b) (entail k (view.And (Fact (Eq x y)) (opened_of b x)) (opened_of b y)) = is ∙ ap (λ z. Axiom (Rewrite z) (entail k l r)) same ∙ ap (λ z. Axiom (Rewrite b) (entail k z r)) left ∙ ap (λ z. Axiom (Rewrite b) (entail k (view.And (Fact (Eq x y)) (opened_of b x)) z)) right in
    leaf Every (Rewrite b) (entail k (view.And (Fact (Eq x y)) (opened_of b x)) (opened_of b y)) t e (λ preds among. rewritten_ok preds k b x y) (λ preds s. record { scoped = template_scoped preds k b y s.1; levels = levels })
