use Rattle.std.proofs.Common.{sym, ◌∙◌, arith}
use Rattle.pm_tokens.proofs.Runs.{run_on, run_stops, run_ends}
use Rattle.pm_tokens.proofs.characters.run.Goals as goal

pub returns-in_default-clause-value : goal.returns-in_default-clause-value
returns-in_default-clause-value c = run_ends c.loop-c.rest.now c.loop-c.found _ (sym c.first_char.ensures.value ∙ c.in_default.is) c.loop-c.invariant.same

pub returns-then-not-continues_name-clause-value : goal.returns-then-not-continues_name-clause-value
returns-then-not-continues_name-clause-value c = run_stops c.loop-c.rest.now c.in-Some.c c.in-Some.len c.loop-c.found _ (sym c.first_char.ensures.value ∙ c.in-Some.is) (sym c.continues_name.ensures ∙ c.if-not-continues_name.true) c.loop-c.invariant.same

pub loop-c-preserved : goal.loop-c-preserved
loop-c-preserved c = record {
  same = rw c.split_at.ensures.back (run_on c.loop-c.rest.now c.in-Some.c c.in-Some.len c.loop-c.found _ (sym c.first_char.ensures.value ∙ c.in-Some.is) c.in-Some.ensures.within.0 c.in-Some.ensures.within.1 (sym c.continues_name.ensures ∙ c.if-not-continues_name.false) c.loop-c.invariant.same);
  within = omega (arith, c.split_at.ensures.back_len, c.in-Some.ensures.within.1, c.loop-c.invariant.within);
}
