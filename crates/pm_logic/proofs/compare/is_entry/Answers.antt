use Rattle.std.proofs.Common.{◌≡◌, IsTrue, option_copied, ap, sym, ◌∙◌, subst}
use Rattle.pm_logic.specs.declared.formula.Term.{Term}
use Rattle.pm_logic.proofs.Under.{entry_some, entry_none}
use Rattle.pm_logic.proofs.compare.is_entry.Goals as goal

pub returns-in-Some : goal.returns-in-Some
returns-in-Some c =
    let P : Term → Type 0 = λ x. (IsTrue c.is_raised.result → c.args.u.now ≡ x) × (c.args.u.now ≡ x → IsTrue c.is_raised.result) in
    subst P (entry_some c.args.d c.args.i c.args.terms.now c.in-Some.t.now c.requires (ap option_copied (sym c.in-Some.is) ∙ c.at.ensures)) c.is_raised.ensures

pub returns-in-None : goal.returns-in-None
returns-in-None c =
    let P : Term → Type 0 = λ x. (IsTrue c.same_term.result → c.args.u.now ≡ x) × (c.args.u.now ≡ x → IsTrue c.same_term.result) in
    subst P (entry_none c.args.d c.args.i c.args.terms.now c.requires (ap option_copied (sym c.in-None.is) ∙ c.at.ensures)) c.same_term.ensures
