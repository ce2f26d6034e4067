use Rattle.std.proofs.Common.{◌∙◌, sym, ap, subst}
use Rattle.pm_patterns.specs.declared.pattern.Pat.TheVariants as pat
use Rattle.pm_table.specs.Patterns.{intro}
use Rattle.pm_sweep.specs.Standing.{Follows}
use Rattle.pm_directives.proofs.Allowed.{intro_run}
use Rattle.pm_directives.proofs.Chained.{at_same}
use Rattle.pm_directives.proofs.introducing.intro.Goals as goal

pub returns-in-Done : goal.returns-in-Done
unfolding intro
returns-in-Done c = at_same intro c.args.standing c.args.pat.now pat.Done c.sweep.result c.in-Done.is c.sweep.ensures

pub returns-in-Alls : goal.returns-in-Alls
unfolding intro
returns-in-Alls c = at_same intro c.args.standing c.args.pat.now pat.Alls c.each_alone.result c.in-Alls.is c.each_alone.ensures

pub returns-in-AllsWands : goal.returns-in-AllsWands
unfolding intro
returns-in-AllsWands c = at_same intro c.args.standing c.args.pat.now pat.AllsWands c.each_alone-in-AllsWands.result c.in-AllsWands.is c.each_alone-in-AllsWands.ensures

pub returns-in-Clear : goal.returns-in-Clear
unfolding intro
returns-in-Clear c = at_same intro c.args.standing c.args.pat.now (pat.Clear c.as_slice.result.now) c.clear_all.result (c.in-Clear.is ∙ ap pat.Clear (sym c.as_slice.ensures)) c.clear_all.ensures

pub returns-in_default : goal.returns-in_default
returns-in_default c = subst (λ r. Follows c.args.standing r c.intro_pattern.result) (sym (intro_run c.args.pat.now c.args.standing.goals c.in_default.not-Done c.in_default.not-Alls c.in_default.not-AllsWands c.in_default.not-Clear c.requires.built)) c.intro_pattern.ensures
