use Rattle.pm_closing.proofs.Equal.{term_fits, fits_of, equal_of, equal_acted}
use Rattle.pm_closing.proofs.reflexive.by_reflexivity.Goals as goal

pub term_itself-requires-clause-term : goal.term_itself-requires-clause-term
term_itself-requires-clause-term c =
    fits_of c.args.work.now c.in-Some.t.now c.len.result c.len.ensures (term_fits c.args.work.now c.in-Some.t.now c.requires.handed c.requires.shallow c.in-Some.ensures.1)

pub returns : goal.returns
returns c =
    let equal = equal_of c.args.work.now c.in-Some.t.now c.len.result c.in_ok-equal.equal c.len.ensures c.in_ok-equal.ensures in
    (c.in-Some.ensures.0, equal_acted c.args.work.now c.in-Some.t.now c.in_ok-to_truth.to_truth c.in_ok-equal.equal c.in_ok-proof.proof c.in-Some.ensures.1 c.in_ok-to_truth.ensures equal c.in_ok-proof.ensures.proves)
