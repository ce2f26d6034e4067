use Rattle.std.proofs.Common.{rules, ◌≡◌, ◌/◌, Err, arith}
use Rattle.pm_tokens.specs.Tokens.{places}
use Rattle.pm_patterns.proofs.Entries.{halved_ok, halved_err}
use Rattle.pm_patterns.proofs.certificates.+entries_in.Goals as goal

pub returns-in_err-found : goal.returns-in_err-found
returns-in_err-found t c =
    let same : c.from_residual.result ≡ Err c.in_err-found.field-0.0 = search rules in
    rw same (λ known. halved_err c.args.stop c.args.most (c.args.most / 2) c.args.found (places c.args.tokens.now) c.in_err-found.field-0.0 (omega arith) (c.in_err-found.ensures known))

pub returns : goal.returns
returns t c =
    rw (halved_ok c.args.stop c.args.most (c.args.most / 2) c.args.found (places c.args.tokens.now) c.in_ok-found.found (places c.in_ok-found.rest.now) (omega arith) c.in_ok-found.ensures) c.entries_in-2.ensures
