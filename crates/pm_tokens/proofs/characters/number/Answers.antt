use Rattle.pm_tokens.proofs.Numbers.{number_step, number_end}
use Rattle.pm_tokens.proofs.characters.number.Goals as goal

pub loop-digits-preserved : goal.loop-digits-preserved
loop-digits-preserved c = record {
  same = number_step c.loop-digits.digits.now c.args.digits.now c.loop-digits.n c.saturating_mul.result c.saturating_sub.result c.saturating_add-n.result c.in-len1-up.len_at_least c.loop-digits.invariant.same c.saturating_mul.ensures c.saturating_sub.ensures c.saturating_add-n.ensures;
  fits = c.saturating_add-n.type_inv;
}

pub returns : goal.returns
returns c = number_end c.loop-digits.digits.now c.args.digits.now c.loop-digits.n c.in_default.len_below c.loop-digits.invariant.fits c.loop-digits.invariant.same
