use Rattle.std.proofs.Common.{sym, ◌∙◌, ap}
use Rattle.pm_logic.specs.declared.formula.Formula.TheVariants.{Call}
use Rattle.pm_loeb.proofs.Called.{there, body_scoped, body_small, args_small}
use Rattle.pm_loeb.proofs.bodies.folded.Goals as goal

pub fold-requires-clause-there : goal.fold-requires-clause-there
fold-requires-clause-there c = there c.args.vars c.args.preds.now c.args.f.now c.in-Call.pred c.in_ok-args-in-Call.args (c.in-Call.is ∙ ap (Call c.in-Call.pred) (sym (c.in_ok-args-in-Call.ensures ∙ c.as_slice.ensures))) c.requires.scoped

pub fold-requires-clause-scoped : goal.fold-requires-clause-scoped
fold-requires-clause-scoped c = body_scoped c.args.vars c.args.preds.now c.args.f.now c.in-Call.pred c.in_ok-args-in-Call.args (c.in-Call.is ∙ ap (Call c.in-Call.pred) (sym (c.in_ok-args-in-Call.ensures ∙ c.as_slice.ensures))) c.requires.scoped

pub fold-requires-clause-size : goal.fold-requires-clause-size
fold-requires-clause-size c = body_small c.args.vars c.args.preds.now c.args.f.now c.in-Call.pred c.in_ok-args-in-Call.args (c.in-Call.is ∙ ap (Call c.in-Call.pred) (sym (c.in_ok-args-in-Call.ensures ∙ c.as_slice.ensures))) c.requires.scoped

pub fold-requires-clause-terms : goal.fold-requires-clause-terms
fold-requires-clause-terms c = args_small c.args.vars c.args.preds.now c.args.f.now c.in-Call.pred c.in_ok-args-in-Call.args (c.in-Call.is ∙ ap (Call c.in-Call.pred) (sym (c.in_ok-args-in-Call.ensures ∙ c.as_slice.ensures))) c.requires.scoped c.requires.few
