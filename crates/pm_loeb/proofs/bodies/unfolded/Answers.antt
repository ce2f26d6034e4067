use Rattle.std.proofs.Common.{sym, ◌∙◌, ap}
use Rattle.pm_logic.specs.declared.formula.Formula.TheVariants.{Call}
use Rattle.pm_loeb.proofs.Called.{there, body_scoped, body_small, args_small}
use Rattle.pm_loeb.proofs.bodies.unfolded.Goals as goal

pub unfold_call-requires-clause-there : goal.unfold_call-requires-clause-there
unfold_call-requires-clause-there c = there c.args.vars c.args.preds.now c.args.f.now c.in-Call.pred c.in_ok-args-in-Call.args (c.in-Call.is ∙ ap (Call c.in-Call.pred) (sym (c.in_ok-args-in-Call.ensures ∙ c.as_slice.ensures))) c.requires.scoped

pub unfold_call-requires-clause-scoped : goal.unfold_call-requires-clause-scoped
unfold_call-requires-clause-scoped c = body_scoped c.args.vars c.args.preds.now c.args.f.now c.in-Call.pred c.in_ok-args-in-Call.args (c.in-Call.is ∙ ap (Call c.in-Call.pred) (sym (c.in_ok-args-in-Call.ensures ∙ c.as_slice.ensures))) c.requires.scoped

pub unfold_call-requires-clause-size : goal.unfold_call-requires-clause-size
unfold_call-requires-clause-size c = body_small c.args.vars c.args.preds.now c.args.f.now c.in-Call.pred c.in_ok-args-in-Call.args (c.in-Call.is ∙ ap (Call c.in-Call.pred) (sym (c.in_ok-args-in-Call.ensures ∙ c.as_slice.ensures))) c.requires.scoped

pub unfold_call-requires-clause-terms : goal.unfold_call-requires-clause-terms
unfold_call-requires-clause-terms c = args_small c.args.vars c.args.preds.now c.args.f.now c.in-Call.pred c.in_ok-args-in-Call.args (c.in-Call.is ∙ ap (Call c.in-Call.pred) (sym (c.in_ok-args-in-Call.ensures ∙ c.as_slice.ensures))) c.requires.scoped c.requires.few
