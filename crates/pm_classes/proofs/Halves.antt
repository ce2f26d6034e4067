-- The rule that splits a points-to is met at halves.
use Rattle.std.proofs.Common.{ℕ, ◌+◌, ◌/◌, ◌%◌, ◌≡◌, [], refl, ap, ◌∙◌, arith}
use Rattle.pm_logic.specs.declared.formula.Term.{Term}
use Rattle.pm_logic.specs.declared.formula.Formula.{Formula}
use Rattle.pm_logic.specs.declared.formula.Formula.TheVariants.{Pts}
use Rattle.pm_logic.specs.declared.formula.Formula.TheViews as view
use Rattle.pm_logic.specs.declared.formula.Preds.{Preds}
use Rattle.pm_rules.specs.declared.rules.Rule.TheVariants.{PtsSplit}
use Rattle.pm_rules.specs.Rules.{RuleOk}
use Rattle.pm_rules.specs.Rows.{HasArguments, HasBracket}
use Rattle.pm_proof.specs.Trees.{Tree, Axiom, entail, side_depth}
use Rattle.pm_proof.specs.Valid.{ArgumentsFit}
use Rattle.pm_proof.specs.Known.{Every, Proves}
use Rattle.pm_schemes.proofs.Leaves.{leaf}
use Rattle.pm_classes.specs.Classes.{half}

two_halves : (u : ℕ) → u % 2 ≡ 0 → u ≡ u / 2 + u / 2
two_halves u even = omega (arith, even)

-- l ↦{u} v as two halves
abbrev both : Term → ℕ → Term → Formula
both l u v = view.Sep (half l u v) (half l u v)

halves_ok : (preds : Preds) (k : ℕ) (l : Term) (u : ℕ) (v : Term) → u % 2 ≡ 0 → RuleOk preds PtsSplit [] (entail k (Pts l u v) (both l u v))
unfolding HasArguments HasBracket
halves_ok preds k l u v even = record { premises = refl; variables = tt; arguments = tt; shape = record { l = l; v = v; a = u / 2; b = u / 2; whole_is = ap (λ n. Pts l n v) (two_halves u even); parts_are = refl }; bracket = tt }

pub halved : (k : ℕ) (l : Term) (u : ℕ) (v : Term) (first second : Formula) (t : Tree) → u % 2 ≡ 0 → first ≡ half l u v → second ≡ half l u v → t ≡ Axiom PtsSplit (entail k (Pts l u v) (view.Sep first second)) → Proves Every (entail k (Pts l u v) (both l u v)) [] 1 (side_depth (entail k (Pts l u v) (both l u v))) k t
unfolding ArgumentsFit
halved k l u v first second t even f s is =
    let e : t ≡ Axiom PtsSplit (entail k (Pts l u v) (both l u v)) = is ∙ ap (λ x. Axiom PtsSplit (entail k (Pts l u v) (view.Sep x second))) f ∙ ap (λ x. Axiom PtsSplit (entail k (Pts l u v) (view.Sep (half l u v) x))) s in
    leaf Every PtsSplit (entail k (Pts l u v) (both l u v)) t e (λ preds among. halves_ok preds k l u v even) (λ preds s. tt)
