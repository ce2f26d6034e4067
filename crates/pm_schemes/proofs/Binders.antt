-- The rules of quantifiers and instances are met.
use Rattle.std.proofs.Common.{ℕ, ◌+◌, ◌≤◌, ◌≡◌, max, List, [], ◌∷◌, length, slice_index_or, refl, ap, ◌∙◌, arith}
use Rattle.std.specs.List.{AllByRecursion}
use Rattle.pm_logic.specs.declared.limits.TheConstants.{MAX_LINE_TERMS}
use Rattle.pm_logic.specs.declared.formula.Term.{Term}
use Rattle.pm_logic.specs.declared.formula.Pure.TheVariants.{True as Truth}
use Rattle.pm_logic.specs.declared.formula.Formula.{Formula}
use Rattle.pm_logic.specs.declared.formula.Formula.TheViews as view
use Rattle.pm_logic.specs.declared.formula.Preds.{Preds}
use Rattle.pm_logic.specs.Substitution.{subst_of, shift_of, opened_of}
use Rattle.pm_rules.specs.declared.rules.Entail.{Entail}
use Rattle.pm_rules.specs.declared.rules.Rule.TheVariants.{Inst, AllI, AllE, ExI, ExE}
use Rattle.pm_rules.specs.Shapes.{Letters}
use Rattle.pm_rules.specs.Rules.{RuleOk}
use Rattle.pm_rules.specs.Rows.{HasArguments, HasBracket}
use Rattle.pm_proof.specs.Trees.{Tree, Hole, Axiom, First, entail, side_depth}
use Rattle.pm_proof.specs.Valid.{TermFits, ArgumentsFit}
use Rattle.pm_proof.specs.Known.{Every, Proves}
use Rattle.pm_schemes.proofs.Leaves.{leaf, over, wider}

-- P, Q and B
letters : Formula → Formula → Formula → Letters
letters p q b = record { formula = λ i. slice_index_or (p ∷ q ∷ b ∷ []) i p; pure = λ i. Truth }

generalized_ok : (preds : Preds) (k : ℕ) (p b : Formula) → RuleOk preds AllI (entail (k + 1) (shift_of p) b ∷ []) (entail k p (view.All b))
unfolding HasArguments HasBracket letters
generalized_ok preds k p b = record {
  premises = refl;
  variables = (refl, tt);
  arguments = tt;
  shape = record { letters = letters p p b; premises = (record { left_is = refl; right_is = refl }, tt); conclusion = record { left_is = refl; right_is = refl } };
  bracket = tt;
}

pub generalized : (k : ℕ) (p b : Formula) (t : Tree) → t ≡ First AllI (entail k p (view.All b)) (Hole (entail (k + 1) (shift_of p) b)) → Proves Every (entail k p (view.All b)) (entail (k + 1) (shift_of p) b ∷ []) 1 (max (side_depth (entail k p (view.All b))) (side_depth (entail (k + 1) (shift_of p) b))) (k + 1) t
unfolding ArgumentsFit
generalized k p b t is =
    let e = entail k p (view.All b) in
    let h = entail (k + 1) (shift_of p) b in
    wider e (h ∷ []) 1 (max (side_depth e) (side_depth h)) (k + 1) t (omega arith) (over AllI e h t is (λ preds. generalized_ok preds k p b) (λ preds s. tt))

eliminated_ok : (preds : Preds) (k : ℕ) (b q : Formula) → RuleOk preds ExE (entail (k + 1) b (shift_of q) ∷ []) (entail k (view.Ex b) q)
unfolding HasArguments HasBracket letters
eliminated_ok preds k b q = record {
  premises = refl;
  variables = (refl, tt);
  arguments = tt;
  shape = record { letters = letters q q b; premises = (record { left_is = refl; right_is = refl }, tt); conclusion = record { left_is = refl; right_is = refl } };
  bracket = tt;
}

pub eliminated : (k : ℕ) (b q : Formula) (t : Tree) → t ≡ First ExE (entail k (view.Ex b) q) (Hole (entail (k + 1) b (shift_of q))) → Proves Every (entail k (view.Ex b) q) (entail (k + 1) b (shift_of q) ∷ []) 1 (max (side_depth (entail k (view.Ex b) q)) (side_depth (entail (k + 1) b (shift_of q)))) (k + 1) t
unfolding ArgumentsFit
eliminated k b q t is =
    let e = entail k (view.Ex b) q in
    let h = entail (k + 1) b (shift_of q) in
    wider e (h ∷ []) 1 (max (side_depth e) (side_depth h)) (k + 1) t (omega arith) (over ExE e h t is (λ preds. eliminated_ok preds k b q) (λ preds s. tt))

specialized_ok : (preds : Preds) (k : ℕ) (b : Formula) (s : Term) → RuleOk preds (AllE s) [] (entail k (view.All b) (opened_of b s))
unfolding HasArguments HasBracket
specialized_ok preds k b s = record { premises = refl; variables = tt; arguments = tt; shape = record { b = b; left_is = refl; right_is = refl }; bracket = tt }

pub specialized : (k : ℕ) (b l r : Formula) (s u : Term) (t : Tree) → TermFits k s → u ≡ s → l ≡ view.All b → r ≡ opened_of b s → t ≡ Axiom (AllE u) (entail k l r) → Proves Every (entail k (view.All b) (opened_of b s)) [] 1 (side_depth (entail k (view.All b) (opened_of b s))) k t
unfolding ArgumentsFit
specialized k b l r s u t room same left right is =
    let e : t ≡ Axiom (AllE s) (entail k (view.All b) (opened_of b s)) = is ∙ ap (λ x. Axiom (AllE x) (entail k l r)) same ∙ ap (λ x. Axiom (AllE s) (entail k x r)) left ∙ ap (λ x. Axiom (AllE s) (entail k (view.All b) x)) right in
    leaf Every (AllE s) (entail k (view.All b) (opened_of b s)) t e (λ preds among. specialized_ok preds k b s) (λ preds among. room)

witnessed_ok : (preds : Preds) (k : ℕ) (b : Formula) (s : Term) → RuleOk preds (ExI s) [] (entail k (opened_of b s) (view.Ex b))
unfolding HasArguments HasBracket
witnessed_ok preds k b s = record { premises = refl; variables = tt; arguments = tt; shape = record { b = b; left_is = refl; right_is = refl }; bracket = tt }

pub witnessed : (k : ℕ) (b l r : Formula) (s u : Term) (t : Tree) → TermFits k s → u ≡ s → l ≡ opened_of b s → r ≡ view.Ex b → t ≡ Axiom (ExI u) (entail k l r) → Proves Every (entail k (opened_of b s) (view.Ex b)) [] 1 (side_depth (entail k (opened_of b s) (view.Ex b))) k t
unfolding ArgumentsFit
witnessed k b l r s u t room same left right is =
    let e : t ≡ Axiom (ExI s) (entail k (opened_of b s) (view.Ex b)) = is ∙ ap (λ x. Axiom (ExI x) (entail k l r)) same ∙ ap (λ x. Axiom (ExI s) (entail k x r)) left ∙ ap (λ x. Axiom (ExI s) (entail k (opened_of b s) x)) right in
    leaf Every (ExI s) (entail k (opened_of b s) (view.Ex b)) t e (λ preds among. witnessed_ok preds k b s) (λ preds among. room)

instantiated_ok : (preds : Preds) (k : ℕ) (sigma : List Term) (h : Entail) → h.vars ≡ length sigma → RuleOk preds (Inst sigma) (h ∷ []) (entail k (subst_of h.left sigma) (subst_of h.right sigma))
unfolding HasArguments HasBracket
instantiated_ok preds k sigma h each = record { premises = refl; variables = tt; arguments = (each, tt); shape = record { left_is = refl; right_is = refl }; bracket = tt }

pub instantiated : (k : ℕ) (sigma : List Term) (h : Entail) (t : Tree) → length sigma ≤ MAX_LINE_TERMS → AllByRecursion (TermFits k) sigma → h.vars ≡ length sigma → t ≡ First (Inst sigma) (entail k (subst_of h.left sigma) (subst_of h.right sigma)) (Hole h) → Proves Every (entail k (subst_of h.left sigma) (subst_of h.right sigma)) (h ∷ []) 1 (max (side_depth (entail k (subst_of h.left sigma) (subst_of h.right sigma))) (side_depth h)) (max k h.vars) t
unfolding ArgumentsFit
instantiated k sigma h t few room each is = over (Inst sigma) (entail k (subst_of h.left sigma) (subst_of h.right sigma)) h t is (λ preds. instantiated_ok preds k sigma h each) (λ preds s. (few, room))
