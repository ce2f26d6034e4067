use Rattle.std.proofs.Common.{rules, ◌≡◌, List, drop, true, Err, arith}
use Rattle.pm_tokens.specs.Tokens.{Place, places}
use Rattle.pm_tokens.specs.declared.symbol.Symbol.TheVariants.{Comma}
use Rattle.pm_logic.specs.declared.formula.Term.{Term}
use Rattle.pm_terms.specs.Scope.{names_in}
use Rattle.pm_terms.specs.Steps.{Read, sees, with_commas}
use Rattle.pm_terms.specs.TermReading.{sum_in}
use Rattle.pm_terms.proofs.Parts.{with_commas_begun, failed}
use Rattle.pm_terms.proofs.terms.sums_in.Goals as goal

pub loop-i-init : goal.loop-i-init
loop-i-init c = with_commas_begun (sum_in c.args.context.now.stop (names_in c.args.bound.now c.args.context.now.vars) c.args.room) (places c.args.tokens.now) c.in_ok-first.first c.in_ok-first.behind_first.now _ c.in_ok-first.ensures (rw c.new-terms.ensures at c.in_ok-push.ensures.ok)

pub returns-in_err-next : goal.returns-in_err-next
returns-in_err-next c =
    let same : c.from_residual-in_err-next.result ≡ Err c.in_err-next.field-0.0 = search rules in
    let part : List Place → Read Term = sum_in c.args.context.now.stop (names_in c.args.bound.now c.args.context.now.vars) c.args.room in
    let on : sees Comma (places c.loop-i.rest.now) ≡ true = search rules in
    rw same (λ real. failed (sees Comma) (λ us. part (drop 1 us)) (with_commas part (places c.args.tokens.now)) _ _ _ (places c.loop-i.rest.now) _ c.loop-i.invariant (omega arith) on (rw c.behind.ensures.value at (c.in_err-next.ensures real)))
