use Rattle.std.proofs.Common.{◌≡◌, Err, sym, ap, arith}
use Rattle.pm_text.specs.FormulaReading.{call_in}
use Rattle.pm_text.proofs.calls.call_in.Goals as goal

pub returns-then-room-eq0 : goal.returns-then-room-eq0
unfolding call_in
returns-then-room-eq0 c = let none : c.args.room ≡ 0 = omega arith in rw none (λ _. ap Err (sym c.deep_call.ensures))
