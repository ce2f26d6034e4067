use Rattle.std.proofs.Common.{append_assoc}
use Rattle.pm_print.specs.Printing.{term_pieces, units_pieces}
use Rattle.pm_print.specs.Parts.{bound_by}
use Rattle.pm_print.proofs.Joined.{three}
use Rattle.pm_print.proofs.formulas.add_points_to.Goals as goal

pub returns : goal.returns
returns c =
    let names = bound_by c.args.binders c.args.vars.now in
    three _ _ _ _ _ _ _ _ _ c.in_ok-add_term.ensures c.in_ok-add_units.ensures c.add_term-2.ensures (append_assoc (term_pieces 3 names c.args.loc.now) (units_pieces c.args.units) (term_pieces 3 names c.args.val.now))
