use Rattle.std.proofs.Common.{◌≡◌, IsTrue, option_copied, ap, sym, ◌∙◌, subst, arith}
use Rattle.pm_logic.specs.declared.formula.Term.{Term}
use Rattle.pm_logic.proofs.Under.{first_here, first_later, first_none}
use Rattle.pm_logic.proofs.compare.is_first.Goals as goal

pub returns-in-None : goal.returns-in-None
returns-in-None c =
    let P : Term → Type 0 = λ x. (IsTrue c.is_var.result → c.args.u.now ≡ x) × (c.args.u.now ≡ x → IsTrue c.is_var.result) in
    subst P (first_none c.args.d c.args.i c.args.terms.now (ap option_copied (sym c.in-None.is) ∙ c.first.ensures.value)) c.is_var.ensures

pub returns-then-i-d : goal.returns-then-i-d
returns-then-i-d c =
    let P : Term → Type 0 = λ x. (IsTrue c.is_raised.result → c.args.u.now ≡ x) × (c.args.u.now ≡ x → IsTrue c.is_raised.result) in
    subst P (first_here c.args.d c.args.i c.args.terms.now c.in-Some.t.now (ap option_copied (sym c.in-Some.is) ∙ c.first.ensures.value) c.if-i-d.true) c.is_raised.ensures

pub returns-else-i-d : goal.returns-else-i-d
returns-else-i-d c =
    let P : Term → Type 0 = λ x. (IsTrue c.is_var-else-i-d.result → c.args.u.now ≡ x) × (c.args.u.now ≡ x → IsTrue c.is_var-else-i-d.result) in
    subst P (first_later c.args.d c.args.i c.args.terms.now c.in-Some.t.now (ap option_copied (sym c.in-Some.is) ∙ c.first.ensures.value) (omega arith)) c.is_var-else-i-d.ensures
