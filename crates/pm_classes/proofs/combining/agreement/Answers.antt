use Rattle.pm_classes.proofs.Combined.{agreement_proves}
use Rattle.std.proofs.Common.{rules, ◌≡◌, ◌+◌}
use Rattle.pm_logic.specs.declared.formula.Formula.TheVariants.{Pts}
use Rattle.pm_classes.proofs.combining.agreement.Goals as goal

pub returns : goal.returns
returns c =
    let a : c.in_ok-first.first ≡ Pts c.args.loc.now c.args.units c.args.val.now = search rules in
    let b : c.in_ok-second.second ≡ Pts c.args.loc.now c.args.more c.args.new.now = search rules in
    let d : c.in_ok-changed.changed ≡ Pts c.args.loc.now c.args.more c.args.val.now = search rules in
    let s : c.in_ok-sum.sum ≡ Pts c.args.loc.now (c.args.units + c.args.more) c.args.val.now = search rules in
    agreement_proves c.args.vars c.args.loc.now c.args.units c.args.val.now c.args.more c.args.new.now c.in_ok-first.first c.in_ok-second.second c.in_ok-changed.changed c.in_ok-sum.sum c.in_ok-equal.equal c.in_ok-back.back c.in_ok-proof.proof a b d s c.in_ok-equal.ensures c.in_ok-back.ensures c.in_ok-proof.ensures
