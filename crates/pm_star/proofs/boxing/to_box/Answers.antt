use Rattle.pm_logic.specs.declared.formula.Formula.TheVariants.{Pure as Assert}
use Rattle.pm_logic.specs.declared.formula.Pure.TheVariants as pure
use Rattle.pm_star.proofs.UnderBox.{start_boxed, box_done}
use Rattle.pm_star.proofs.boxing.to_box.Goals as goal

pub box_all-requires : goal.box_all-requires
box_all-requires c = record {
  boxed = start_boxed c.args.vars _ _ c.in_ok-rest.rest (Assert pure.True) c.in_ok-proof.proof c.in_ok-proof.ensures;
  shared = c.requires;
}

pub returns : goal.returns
returns c = box_done c.args.vars c.args.parts.now c.args.lost.now c.in_ok-rest.rest c.in_ok-proof.proof c.in_ok-made.made c.in_ok-rest.ensures c.in_ok-proof.ensures c.in_ok-made.ensures
