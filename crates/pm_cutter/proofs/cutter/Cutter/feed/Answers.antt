use Rattle.std.proofs.Common.{ap, ◌∙◌}
use Rattle.pm_cutter.specs.Spans.{parts_of}
use Rattle.pm_cutter.proofs.Ending.{fed_more}
use Rattle.pm_cutter.proofs.cutter.Cutter.feed.Goals as goal

pub returns-in-Ok-clause-spans : goal.returns-in-Ok-clause-spans
returns-in-Ok-clause-spans c = λ bytes is.
    (fed_more c.args.self.now c.cut.new.self bytes c.args.piece.now (parts_of c.new-spans.result) (parts_of c.cut.new.spans) (ap parts_of c.new-spans.ensures) is (c.requires c.if-self.false) (c.cut.ensures.failed ∙ c.if-self.false) c.in-Ok.ensures.goes_on (c.in-Ok.ensures.waits is.waits)).1

pub returns-in-Ok-clause-fed : goal.returns-in-Ok-clause-fed
returns-in-Ok-clause-fed c = λ bytes is.
    (fed_more c.args.self.now c.cut.new.self bytes c.args.piece.now (parts_of c.new-spans.result) (parts_of c.cut.new.spans) (ap parts_of c.new-spans.ensures) is (c.requires c.if-self.false) (c.cut.ensures.failed ∙ c.if-self.false) c.in-Ok.ensures.goes_on (c.in-Ok.ensures.waits is.waits)).0
