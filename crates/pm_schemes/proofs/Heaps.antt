-- The rules of points-to are met.
use Rattle.std.proofs.Common.{ℕ, ◌+◌, ◌<◌, ◌≡◌, [], refl}
use Rattle.pm_logic.specs.declared.formula.Term.{Term}
use Rattle.pm_logic.specs.declared.formula.Pure.TheVariants.{False as Falsity, Eq}
use Rattle.pm_logic.specs.declared.formula.Formula.{Formula}
use Rattle.pm_logic.specs.declared.formula.Formula.TheViews as view
use Rattle.pm_logic.specs.declared.formula.Formula.TheVariants.{Pure as Fact, Pts}
use Rattle.pm_logic.specs.declared.formula.Preds.{Preds}
use Rattle.pm_logic.specs.declared.formula.TheConstants.{UNIT}
use Rattle.pm_rules.specs.declared.rules.Rule.TheVariants.{PtsSplit, PtsJoin, PtsAgree, PtsOver, PtsWrite}
use Rattle.pm_rules.specs.Rules.{RuleOk}
use Rattle.pm_rules.specs.Rows.{HasArguments, HasBracket}
use Rattle.pm_proof.specs.Trees.{Tree, Axiom, entail, side_depth}
use Rattle.pm_proof.specs.Valid.{ArgumentsFit}
use Rattle.pm_proof.specs.Known.{Every, Proves}
use Rattle.pm_schemes.proofs.Leaves.{leaf}

-- l ↦{a} v ∗ l ↦{b} w
abbrev both : Term → ℕ → Term → ℕ → Term → Formula
both l a v b w = view.Sep (Pts l a v) (Pts l b w)

split_ok : (preds : Preds) (k : ℕ) (l : Term) (a b : ℕ) (v : Term) → RuleOk preds PtsSplit [] (entail k (Pts l (a + b) v) (both l a v b v))
unfolding HasArguments HasBracket
split_ok preds k l a b v = record { premises = refl; variables = tt; arguments = tt; shape = record { l = l; v = v; a = a; b = b; whole_is = refl; parts_are = refl }; bracket = tt }

pub units_split : (k : ℕ) (l : Term) (a b : ℕ) (v : Term) (t : Tree) → t ≡ Axiom PtsSplit (entail k (Pts l (a + b) v) (both l a v b v)) → Proves Every (entail k (Pts l (a + b) v) (both l a v b v)) [] 1 (side_depth (entail k (Pts l (a + b) v) (both l a v b v))) k t
unfolding ArgumentsFit
units_split k l a b v t is = leaf Every PtsSplit (entail k (Pts l (a + b) v) (both l a v b v)) t is (λ preds among. split_ok preds k l a b v) (λ preds s. tt)

join_ok : (preds : Preds) (k : ℕ) (l : Term) (a b : ℕ) (v : Term) → RuleOk preds PtsJoin [] (entail k (both l a v b v) (Pts l (a + b) v))
unfolding HasArguments HasBracket
join_ok preds k l a b v = record { premises = refl; variables = tt; arguments = tt; shape = record { l = l; v = v; a = a; b = b; whole_is = refl; parts_are = refl }; bracket = tt }

pub units_joined : (k : ℕ) (l : Term) (a b : ℕ) (v : Term) (t : Tree) → t ≡ Axiom PtsJoin (entail k (both l a v b v) (Pts l (a + b) v)) → Proves Every (entail k (both l a v b v) (Pts l (a + b) v)) [] 1 (side_depth (entail k (both l a v b v) (Pts l (a + b) v))) k t
unfolding ArgumentsFit
units_joined k l a b v t is = leaf Every PtsJoin (entail k (both l a v b v) (Pts l (a + b) v)) t is (λ preds among. join_ok preds k l a b v) (λ preds s. tt)

agreed_ok : (preds : Preds) (k : ℕ) (l : Term) (a : ℕ) (v : Term) (b : ℕ) (w : Term) → RuleOk preds PtsAgree [] (entail k (both l a v b w) (Fact (Eq v w)))
unfolding HasArguments HasBracket
agreed_ok preds k l a v b w = record { premises = refl; variables = tt; arguments = tt; shape = record { l = l; v = v; w = w; a = a; b = b; left_is = refl; right_is = refl }; bracket = tt }

pub agreed : (k : ℕ) (l : Term) (a : ℕ) (v : Term) (b : ℕ) (w : Term) (t : Tree) → t ≡ Axiom PtsAgree (entail k (both l a v b w) (Fact (Eq v w))) → Proves Every (entail k (both l a v b w) (Fact (Eq v w))) [] 1 (side_depth (entail k (both l a v b w) (Fact (Eq v w)))) k t
unfolding ArgumentsFit
agreed k l a v b w t is = leaf Every PtsAgree (entail k (both l a v b w) (Fact (Eq v w))) t is (λ preds among. agreed_ok preds k l a v b w) (λ preds s. tt)

overfull_ok : (preds : Preds) (k : ℕ) (l : Term) (a : ℕ) (v : Term) (b : ℕ) (w : Term) → UNIT < a + b → RuleOk preds PtsOver [] (entail k (both l a v b w) (Fact Falsity))
unfolding HasArguments HasBracket
overfull_ok preds k l a v b w over = record { premises = refl; variables = tt; arguments = tt; shape = record { l = l; v = v; w = w; a = a; b = b; left_is = refl; right_is = refl }; bracket = record { l = l; m = l; v = v; w = w; a = a; b = b; left_is = refl; over = over } }

pub overfull : (k : ℕ) (l : Term) (a : ℕ) (v : Term) (b : ℕ) (w : Term) (t : Tree) → UNIT < a + b → t ≡ Axiom PtsOver (entail k (both l a v b w) (Fact Falsity)) → Proves Every (entail k (both l a v b w) (Fact Falsity)) [] 1 (side_depth (entail k (both l a v b w) (Fact Falsity))) k t
unfolding ArgumentsFit
overfull k l a v b w t over is = leaf Every PtsOver (entail k (both l a v b w) (Fact Falsity)) t is (λ preds among. overfull_ok preds k l a v b w over) (λ preds s. tt)

written_ok : (preds : Preds) (k : ℕ) (l v w : Term) → RuleOk preds PtsWrite [] (entail k (Pts l UNIT v) (view.Upd (Pts l UNIT w)))
unfolding HasArguments HasBracket
written_ok preds k l v w = record { premises = refl; variables = tt; arguments = tt; shape = record { l = l; v = v; w = w; left_is = refl; right_is = refl }; bracket = tt }

pub written : (k : ℕ) (l v w : Term) (t : Tree) → t ≡ Axiom PtsWrite (entail k (Pts l UNIT v) (view.Upd (Pts l UNIT w))) → Proves Every (entail k (Pts l UNIT v) (view.Upd (Pts l UNIT w))) [] 1 (side_depth (entail k (Pts l UNIT v) (view.Upd (Pts l UNIT w)))) k t
unfolding ArgumentsFit
written k l v w t is = leaf Every PtsWrite (entail k (Pts l UNIT v) (view.Upd (Pts l UNIT w))) t is (λ preds among. written_ok preds k l v w) (λ preds s. tt)
