use Rattle.std.proofs.Common.{rules, arith, ◌<◌, ◌+◌, ◌≡◌}
use Rattle.std.proofs.lemmas.Grind.{common_steps}
use Rattle.pm_write.proofs.Growing.{added}
use Rattle.pm_write.proofs.written.Written.step.Goals as goal

pub returns : goal.returns
returns c =
    let next : c.in_ok-number.number ≡ c.args.self.now.count + 1 = first_of (search rules, grind (arith, common_steps)) in
    let small : c.in_ok-number.number < 18446744073709551616 = first_of (search rules, grind (arith, common_steps)) in
    added _ _ _ _ _ _ _ next small c.in_ok-put_step.ensures
