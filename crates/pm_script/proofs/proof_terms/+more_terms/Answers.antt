use Rattle.std.proofs.Common.{rules, ◌≡◌, ◌/◌, Err, arith}
use Rattle.pm_tokens.specs.Tokens.{places}
use Rattle.pm_tokens.specs.declared.symbol.Symbol.TheVariants.{Comma}
use Rattle.pm_terms.specs.Steps.{sees}
use Rattle.pm_text.specs.Parts.{table}
use Rattle.pm_script.specs.SentenceReading.{next_term}
use Rattle.pm_script.proofs.Carried.{halved_ok, halved_err}
use Rattle.pm_script.proofs.proof_terms.+more_terms.Goals as goal

pub returns-in_err-found : goal.returns-in_err-found
returns-in_err-found t c =
    let same : c.from_residual.result ≡ Err c.in_err-found.field-0.0 = search rules in
    rw same (λ known. halved_err (sees Comma) (next_term c.args.context.now.stop (table c.args.context.now) c.args.context.now.vars) c.args.most (c.args.most / 2) c.args.found (places c.args.tokens.now) c.in_err-found.field-0.0 (omega arith) (c.in_err-found.ensures known))

pub returns : goal.returns
returns t c =
    rw (halved_ok (sees Comma) (next_term c.args.context.now.stop (table c.args.context.now) c.args.context.now.vars) c.args.most (c.args.most / 2) c.args.found (places c.args.tokens.now) c.in_ok-found.found (places c.in_ok-found.rest.now) (omega arith) c.in_ok-found.ensures) c.more_terms-2.ensures
