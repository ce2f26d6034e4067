use Rattle.std.proofs.Common.{◌∙◌, IsTrue, option_copied, ap, sym, subst}
use Rattle.pm_logic.specs.declared.formula.Formula.{Formula}
use Rattle.pm_logic.specs.Guard.{CallsBelow}
use Rattle.pm_logic.proofs.Guards.{body_some, body_none}
use Rattle.pm_logic.proofs.guarding.guarded.Goals as goal

pub returns-in-Some : goal.returns-in-Some
returns-in-Some c =
    let P : Formula → Type 0 = λ x. (IsTrue c.calls_below.result → CallsBelow c.args.p x) × (CallsBelow c.args.p x → IsTrue c.calls_below.result) in
    subst P (sym (body_some c.args.preds.now.list c.args.p c.in-Some.pred.now (ap option_copied (sym c.in-Some.is) ∙ c.get.ensures.value))) c.calls_below.ensures

pub returns-in-None : goal.returns-in-None
returns-in-None c = absurd (body_none c.args.preds.now.list c.args.p (ap option_copied (sym c.in-None.is) ∙ c.get.ensures.value) c.requires)
