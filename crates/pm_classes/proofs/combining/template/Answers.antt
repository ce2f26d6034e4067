use Rattle.pm_classes.proofs.Combined.{shift_pts, pts_same_loc}
use Rattle.std.proofs.Common.{rules, ◌≡◌, ◌∙◌, ap, sym}
use Rattle.pm_logic.specs.declared.formula.Formula.TheVariants.{Pts}
use Rattle.pm_logic.specs.declared.formula.Term.TheVariants.{Var}
use Rattle.pm_logic.specs.Substitution.{in_term, one_up, shift_of}
use Rattle.pm_classes.proofs.combining.template.Goals as goal

pub unreachable-requires : goal.unreachable-requires
unreachable-requires c =
    let is : c.in_ok-shifted.shifted ≡ shift_of (Pts c.args.loc.now c.args.units c.args.loc.now) = search rules in
    c.in_default.not-Pts (in_term one_up c.args.loc.now) c.args.units (in_term one_up c.args.loc.now) (is ∙ shift_pts c.args.loc.now c.args.units c.args.loc.now)

pub returns : goal.returns
returns c =
    let is : c.in_ok-shifted.shifted ≡ shift_of (Pts c.args.loc.now c.args.units c.args.loc.now) = search rules in
    let at : c.in_ok-loc.loc ≡ c.in-Pts.raised = search rules in
    ap (λ x. Pts x c.args.units (Var 0)) (at ∙ pts_same_loc c.in-Pts.raised (in_term one_up c.args.loc.now) c.in-Pts.units c.args.units c.in-Pts.val (in_term one_up c.args.loc.now) (sym c.in-Pts.is ∙ is ∙ shift_pts c.args.loc.now c.args.units c.args.loc.now))
