use Rattle.std.proofs.Common.{◌≤◌, ◌+◌, length, sym, arith}
use Rattle.pm_goal.proofs.Entries.{copied_more}
use Rattle.pm_goal.proofs.copying.copy_map.Goals as goal

pub loop-i-preserved : goal.loop-i-preserved
loop-i-preserved g c =
    let es = c.args.map.now.entries in
    let within : c.loop-i.i + 1 ≤ length es = omega (arith, c.loop-i-test.true, c.len-len.ensures.len) in
    (copied_more c.loop-i.out es c.copy_entry.new.out.entries c.loop-i.i c.in-Some.name.now c.in-Some.value.now c.loop-i.invariant.0 c.len-len.ensures.unique (sym c.in-Some.ensures.entry) c.in_ok-copy_entry.ensures, within)
