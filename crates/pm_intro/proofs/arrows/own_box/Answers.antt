use Rattle.std.proofs.Common.{sym, ap, ◌∙◌, subst, Option}
use Rattle.pm_logic.specs.declared.formula.Formula.TheViews as view
use Rattle.pm_classes.specs.declared.entry.One.{One}
use Rattle.pm_classes.specs.Entries.{PersistentAnswer}
use Rattle.pm_intro.proofs.OwnBox.{own_boxed, own_some, own_proof}
use Rattle.pm_intro.proofs.arrows.own_box.Goals as goal

pub returns-in-Pers : goal.returns-in-Pers
returns-in-Pers c = own_boxed c.args.vars c.args.a.now c.get.result.now c.in_ok-proof.proof (c.in-Pers.is ∙ ap view.Pers (sym c.get.ensures)) c.in_ok-proof.ensures

pub unreachable-requires : goal.unreachable-requires
unreachable-requires c = own_some c.args.vars c.args.a.now c.requires.persistent c.in_default.not-Pers (subst (λ (o : Option One). PersistentAnswer c.args.vars c.args.a.now o) c.in-None.is c.in_ok-entry.ensures)

pub returns : goal.returns
returns c = own_proof c.args.vars c.args.a.now c.in-Some.entry c.requires.persistent c.in_default.not-Pers (subst (λ (o : Option One). PersistentAnswer c.args.vars c.args.a.now o) c.in-Some.is c.in_ok-entry.ensures)
