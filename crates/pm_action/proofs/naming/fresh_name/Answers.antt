use Rattle.std.proofs.Common.{◌≡◌, ◌+◌, ◌-◌, ◌≤◌, true, false, is_some, sym, ◌∙◌, ap, arith}
use Rattle.pm_goal.specs.Find.{find_of}
use Rattle.pm_goal.specs.Fresh.{numbered}
use Rattle.pm_table.specs.Works.{names}
use Rattle.pm_action.proofs.Fresh.{free_here, free_later, unused, used}
use Rattle.pm_action.proofs.naming.fresh_name.Goals as goal

pub returns-then-not-is_used : goal.returns-then-not-is_used
returns-then-not-is_used c =
    let g = c.args.goal.now in
    let n = c.loop-n.n in
    let within : n ≤ names g = omega (arith, c.loop-n-test.true, c.len.ensures, c.len-2.ensures, c.len-3.ensures, c.len-4.ensures) in
    let free : is_some (find_of g (numbered n)) ≡ false = ap (λ x. is_some (find_of g x)) (sym c.in_ok-name.ensures) ∙ unused (is_some (find_of g c.in_ok-name.name)) c.is_used.result c.is_used.ensures c.if-not-is_used.true in
    c.in_ok-name.ensures ∙ sym (c.loop-n.invariant.0 ∙ free_here g (names g + 1 - n) n (omega (arith, within)) free)

pub loop-n-preserved : goal.loop-n-preserved
loop-n-preserved c =
    let g = c.args.goal.now in
    let n = c.loop-n.n in
    let within : n ≤ names g = omega (arith, c.loop-n-test.true, c.len.ensures, c.len-2.ensures, c.len-3.ensures, c.len-4.ensures) in
    let taken : is_some (find_of g (numbered n)) ≡ true = ap (λ x. is_some (find_of g x)) (sym c.in_ok-name.ensures) ∙ used (is_some (find_of g c.in_ok-name.name)) c.is_used.result c.is_used.ensures c.if-not-is_used.false in
    (c.loop-n.invariant.0 ∙ free_later g (names g + 1 - n) (names g + 1 - (n + 1)) n (n + 1) (omega (arith, within)) (omega arith) taken, omega arith, omega (arith, within))
