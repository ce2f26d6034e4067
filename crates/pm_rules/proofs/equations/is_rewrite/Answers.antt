use Rattle.pm_rules.proofs.Computed.{rewritten, rewritten_from, through, as_equation}
use Rattle.pm_rules.proofs.equations.is_rewrite.Goals as goal

pub returns-then-is_opened : goal.returns-then-is_opened
returns-then-is_opened c =
    let e = as_equation c.in-Some.s.now c.in-Some.t.now c.args.left.now c.in-And.fact c.get.result.now c.in-And.from c.get-in-Some.result.now c.in-And.is c.get.ensures c.in-Some.ensures c.get-in-Some.ensures in
    through c.is_opened-then-is_opened.ensures (rewritten c.args.b.now c.in-Some.s.now c.in-Some.t.now c.args.left.now c.args.right.now c.get-in-Some.result.now e (c.is_opened.ensures.0 c.if-is_opened.true))

pub returns-else-is_opened : goal.returns-else-is_opened
returns-else-is_opened c =
    let e = as_equation c.in-Some.s.now c.in-Some.t.now c.args.left.now c.in-And.fact c.get.result.now c.in-And.from c.get-in-Some.result.now c.in-And.is c.get.ensures c.in-Some.ensures c.get-in-Some.ensures in
    (λ h. absurd (cc (c.if-is_opened.false, h)), λ h. c.is_opened.ensures.1 (rewritten_from c.args.b.now c.in-Some.s.now c.in-Some.t.now c.args.left.now c.args.right.now c.get-in-Some.result.now e h))
