use Rattle.std.proofs.Common.{◌≡◌, ◌-◌, IfOk, option_copied, ap, sym, ◌∙◌, subst}
use Rattle.pm_logic.specs.declared.formula.Term.{Term}
use Rattle.pm_logic.specs.Bounds.{past_indices}
use Rattle.pm_logic.proofs.Under.{entry_some, entry_none, scoped_at}
use Rattle.pm_logic.proofs.replace.entry_at.Goals as goal

pub raise-requires-clause-indices : goal.raise-requires-clause-indices
raise-requires-clause-indices c = scoped_at past_indices c.args.terms.now (c.args.i - c.args.d) c.in-Some.t.now c.requires.terms (ap option_copied (sym c.in-Some.is) ∙ c.at.ensures)

pub returns-in-Some : goal.returns-in-Some
returns-in-Some c =
    let P : Term → Type 0 = λ x. IfOk c.raise.result (λ u. u ≡ x) in
    subst P (entry_some c.args.d c.args.i c.args.terms.now c.in-Some.t.now c.requires.free (ap option_copied (sym c.in-Some.is) ∙ c.at.ensures)) c.raise.ensures

pub returns-in-None : goal.returns-in-None
returns-in-None c = entry_none c.args.d c.args.i c.args.terms.now c.requires.free (ap option_copied (sym c.in-None.is) ∙ c.at.ensures)
