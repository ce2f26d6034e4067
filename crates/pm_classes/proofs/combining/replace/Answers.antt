use Rattle.pm_classes.proofs.Combined.{twice_handed, template_bounded, template_levels, val_past, replaced_proves}
use Rattle.pm_classes.proofs.combining.replace.Goals as goal

pub template-requires : goal.template-requires
template-requires c = twice_handed c.args.vars c.args.loc.now c.args.units c.args.old.now c.requires.left

pub rewrite-requires-clause-body : goal.rewrite-requires-clause-body
rewrite-requires-clause-body c = template_bounded c.args.vars c.args.loc.now c.args.units c.args.old.now c.in_ok-template.template c.in_ok-template.ensures c.requires.left

pub rewrite-requires-clause-levels : goal.rewrite-requires-clause-levels
rewrite-requires-clause-levels c = template_levels c.args.loc.now c.args.units c.args.new.now c.in_ok-template.template c.in_ok-template.ensures c.requires.levels

pub rewrite-requires-clause-old : goal.rewrite-requires-clause-old
rewrite-requires-clause-old c = val_past c.args.vars c.args.loc.now c.args.units c.args.old.now c.requires.left

pub rewrite-requires-clause-new : goal.rewrite-requires-clause-new
rewrite-requires-clause-new c = val_past c.args.vars c.args.loc.now c.args.units c.args.new.now c.requires.right

pub returns : goal.returns
returns c = replaced_proves c.args.vars c.args.loc.now c.args.units c.args.old.now c.args.new.now c.in_ok-template.template c.in_ok-proof.proof c.in_ok-template.ensures c.in_ok-proof.ensures
