use Rattle.std.proofs.Common.{rules, ◌≡◌, ◌/◌, not, Err, arith}
use Rattle.pm_tokens.specs.Tokens.{places}
use Rattle.pm_terms.specs.Steps.{sees}
use Rattle.pm_patterns.proofs.Parts.{halved_ok, halved_err}
use Rattle.pm_patterns.proofs.part.+more_parts.Goals as goal

pub returns-in_err-found : goal.returns-in_err-found
returns-in_err-found g t c =
    let same : c.from_residual.result ≡ Err c.in_err-found.field-0.0 = search rules in
    rw same (λ known. halved_err (λ us. not (sees c.args.closer us)) (g.T.Part.reads c.args.stop) c.args.found c.args.most (c.args.most / 2) (places c.args.tokens.now) c.in_err-found.field-0.0 (omega arith) (c.in_err-found.ensures known))

pub returns : goal.returns
returns g t c =
    rw (halved_ok (λ us. not (sees c.args.closer us)) (g.T.Part.reads c.args.stop) c.args.found c.args.most (c.args.most / 2) (places c.args.tokens.now) c.in_ok-found.found (places c.in_ok-found.rest.now) (omega arith) c.in_ok-found.ensures) c.more_parts-2.ensures
