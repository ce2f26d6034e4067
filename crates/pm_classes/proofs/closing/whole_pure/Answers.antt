use Rattle.std.proofs.Common.{◌≡◌, ap, subst}
use Rattle.pm_logic.specs.declared.formula.Formula.{Formula}
use Rattle.pm_logic.specs.declared.formula.Formula.TheVariants.{Pure as Fact}
use Rattle.pm_proof.specs.Trees.{entail}
use Rattle.pm_classes.specs.Entries.{HasProof}
use Rattle.pm_classes.proofs.Known.{same_has}
use Rattle.pm_classes.proofs.closing.whole_pure.Goals as goal

pub returns-clause-proof : goal.returns-clause-proof
returns-clause-proof c =
    let is : Fact c.in_ok-copied.copied ≡ Fact c.args.p.now = ap Fact c.in_ok-copied.ensures in
    subst (λ (x : Formula). HasProof c.args.vars x (entail c.args.vars x x) c.in_ok-proof.proof) is (same_has c.args.vars (Fact c.in_ok-copied.copied) c.in_ok-proof.proof c.in_ok-proof.ensures)
