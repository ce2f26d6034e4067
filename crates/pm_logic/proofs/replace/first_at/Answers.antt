use Rattle.std.proofs.Common.{◌≡◌, IfOk, option_copied, ap, sym, ◌∙◌, subst, arith}
use Rattle.pm_logic.specs.declared.formula.Term.{Term}
use Rattle.pm_logic.specs.Bounds.{past_indices}
use Rattle.pm_logic.proofs.Under.{first_here, first_later, first_none, scoped_at}
use Rattle.pm_logic.proofs.replace.first_at.Goals as goal

pub raise-requires-clause-indices : goal.raise-requires-clause-indices
raise-requires-clause-indices c = scoped_at past_indices c.args.terms.now 0 c.in-Some.t.now c.requires.terms (ap option_copied (sym c.in-Some.is) ∙ c.first.ensures.value)

pub returns-in-None : goal.returns-in-None
returns-in-None c = first_none c.args.d c.args.i c.args.terms.now (ap option_copied (sym c.in-None.is) ∙ c.first.ensures.value)

pub returns-then-i-d : goal.returns-then-i-d
returns-then-i-d c =
    let P : Term → Type 0 = λ x. IfOk c.raise.result (λ u. u ≡ x) in
    subst P (first_here c.args.d c.args.i c.args.terms.now c.in-Some.t.now (ap option_copied (sym c.in-Some.is) ∙ c.first.ensures.value) c.if-i-d.true) c.raise.ensures

pub returns-else-i-d : goal.returns-else-i-d
returns-else-i-d c = first_later c.args.d c.args.i c.args.terms.now c.in-Some.t.now (ap option_copied (sym c.in-Some.is) ∙ c.first.ensures.value) (omega arith)
