-- A scoped tree that is neither too deep nor too wide fits on the lines of a derivation text.
use Rattle.std.proofs.Common.{◌≤◌, arith}
use Rattle.pm_logic.specs.declared.formula.Preds.{Preds}
use Rattle.pm_logic.specs.declared.limits.TheConstants.{MAX_LINE_LEVELS, MAX_LINE_VARIABLES}
use Rattle.pm_rules.specs.declared.rules.Entail.{Entail}
use Rattle.pm_proof.specs.Trees.{Tree, Hole, Axiom, First, Second, Both, conclusion, depth, variables, side_depth}
use Rattle.pm_proof.specs.Valid.{EntailFits, EntailScoped, IsScoped, Fits}

entail_fits : (preds : Preds) (e : Entail) → EntailScoped preds e → side_depth e ≤ MAX_LINE_LEVELS → e.vars ≤ MAX_LINE_VARIABLES → EntailFits preds e
entail_fits preds e s d k = record {
  vars = k;
  left = record { scoped = s.0; levels = omega (arith, d) };
  right = record { scoped = s.1; levels = omega (arith, d) };
}

pub scoped_fits : (preds : Preds) (t : Tree) → IsScoped preds t → depth t ≤ MAX_LINE_LEVELS → variables t ≤ MAX_LINE_VARIABLES → Fits preds t
scoped_fits preds (Hole e) s d k = entail_fits preds e s d k
scoped_fits preds (Axiom r e) s d k = record { arguments = s.1; entail = entail_fits preds e s.0 d k }
scoped_fits preds (First r e a) s d k =
    (record { arguments = s.0.1; entail = entail_fits preds e s.0.0 (omega (arith, d)) (omega (arith, k)) }, scoped_fits preds a s.1 (omega (arith, d)) (omega (arith, k)))
scoped_fits preds (Second r e b) s d k =
    (record { arguments = s.0.1; entail = entail_fits preds e s.0.0 (omega (arith, d)) (omega (arith, k)) }, scoped_fits preds b s.1 (omega (arith, d)) (omega (arith, k)))
scoped_fits preds (Both r e a b) s d k =
    (record { arguments = s.0.1; entail = entail_fits preds e s.0.0 (omega (arith, d)) (omega (arith, k)) }, scoped_fits preds a s.1 (omega (arith, d)) (omega (arith, k)), scoped_fits preds b s.2 (omega (arith, d)) (omega (arith, k)))

-- what a scoped tree proves is scoped
pub scoped_root : (preds : Preds) (t : Tree) → IsScoped preds t → EntailScoped preds (conclusion t)
scoped_root preds (Hole e) s = s
scoped_root preds (Axiom r e) s = s.0
scoped_root preds (First r e a) s = s.0.0
scoped_root preds (Second r e b) s = s.0.0
scoped_root preds (Both r e a b) s = s.0.0
