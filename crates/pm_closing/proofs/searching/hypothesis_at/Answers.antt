use Rattle.std.proofs.Common.{◌+◌, ◌<◌, ◌≤◌, length, refl, arith}
use Rattle.pm_goal.specs.declared.goal.Hyp.{Hyp}
use Rattle.pm_table.specs.Equality.{formula_eq}
use Rattle.pm_table.proofs.Equals.{formula_eq_decides}
use Rattle.pm_closing.proofs.Searches.{begins, goes_past, found, never, ends}
use Rattle.pm_closing.proofs.searching.hypothesis_at.Goals as goal

pub loop-next-init : goal.loop-next-init
loop-next-init c = begins (λ (h : Hyp). formula_eq c.args.wanted.now h.formula) c.args.hyps.now

pub returns-then-same : goal.returns-then-same
returns-then-same c = found (λ (h : Hyp). h.formula) formula_eq formula_eq_decides c.args.wanted.now c.args.hyps.now c.loop-next.next c.in-Some.formula.now c.same.result c.in-Some.ensures c.same.ensures c.if-same.true

pub loop-next-preserved-else-same : goal.loop-next-preserved-else-same
loop-next-preserved-else-same c = goes_past (λ (h : Hyp). h.formula) formula_eq formula_eq_decides c.args.wanted.now c.args.hyps.now c.loop-next.next (c.loop-next.next + 1) c.in-Some.formula.now c.same.result refl c.in-Some.ensures c.same.ensures c.if-same.false c.loop-next.invariant

pub loop-next-preserved : goal.loop-next-preserved
loop-next-preserved c =
    let within : c.loop-next.next < length c.args.hyps.now = omega (arith, c.loop-next-test.true, c.len-len.ensures) in
    absurd (never (λ (h : Hyp). h.formula) formula_eq formula_eq_decides c.args.wanted.now c.args.hyps.now c.loop-next.next within c.in_default.ensures)

pub returns : goal.returns
returns c =
    let all : length c.args.hyps.now ≤ c.loop-next.next = omega (arith, c.loop-next-test.false, c.len-len.ensures) in
    ends (λ (h : Hyp). formula_eq c.args.wanted.now h.formula) c.args.hyps.now c.loop-next.next all c.loop-next.invariant
