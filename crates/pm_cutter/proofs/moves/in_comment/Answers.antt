use Rattle.std.proofs.Common.{◌∙◌, sym, ap}
use Rattle.pm_cutter.specs.Machine.{region_of, moved}
use Rattle.pm_cutter.proofs.Steps.{opens_more, closes_one, in_comments}
use Rattle.pm_cutter.proofs.moves.in_comment.Goals as goal

pub returns-then-begins-clause-value : goal.returns-then-begins-clause-value
returns-then-begins-clause-value c = λ end at.
    ap moved c.opened.ensures ∙ sym (opens_more end c.args.depth at (region_of c.args.region) c.args.bytes.now c.requires.some (sym c.begins.ensures.value ∙ c.if-begins.true))

pub returns-then-begins-2-clause-value : goal.returns-then-begins-2-clause-value
returns-then-begins-2-clause-value c = λ end at.
    ap moved c.opened-then-begins-2.ensures ∙ sym (closes_one end c.args.depth at (region_of c.args.region) c.args.bytes.now c.requires.some (sym c.begins.ensures.value ∙ c.if-begins.false) (sym c.begins-else-begins.ensures.value ∙ c.if-begins-2.true))

pub returns-else-begins-2-clause-value : goal.returns-else-begins-2-clause-value
returns-else-begins-2-clause-value c = λ end at. sym (in_comments end c.args.depth at (region_of c.args.region) c.args.bytes.now c.requires.some (sym c.begins.ensures.value ∙ c.if-begins.false) (sym c.begins-else-begins.ensures.value ∙ c.if-begins-2.false))
