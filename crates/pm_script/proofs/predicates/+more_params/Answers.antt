use Rattle.std.proofs.Common.{rules, ◌≡◌, ◌/◌, Err, arith}
use Rattle.pm_tokens.specs.Tokens.{places}
use Rattle.pm_tokens.specs.declared.symbol.Symbol.TheVariants.{Comma}
use Rattle.pm_terms.specs.Steps.{sees}
use Rattle.pm_script.specs.SentenceReading.{next_param}
use Rattle.pm_script.proofs.Carried.{halved_ok, halved_err}
use Rattle.pm_script.proofs.predicates.+more_params.Goals as goal

pub returns-in_err-found-clause-value : goal.returns-in_err-found-clause-value
returns-in_err-found-clause-value t c =
    let same : c.from_residual.result ≡ Err c.in_err-found.field-0.0 = search rules in
    rw same (λ known. halved_err (sees Comma) (next_param c.args.stop) c.args.most (c.args.most / 2) c.args.found (places c.args.tokens.now) c.in_err-found.field-0.0 (omega arith) (c.in_err-found.ensures.value known))

pub returns-clause-value : goal.returns-clause-value
returns-clause-value t c =
    rw (halved_ok (sees Comma) (next_param c.args.stop) c.args.most (c.args.most / 2) c.args.found (places c.args.tokens.now) c.in_ok-found.found (places c.in_ok-found.rest.now) (omega arith) c.in_ok-found.ensures.value) c.more_params-2.ensures.value
