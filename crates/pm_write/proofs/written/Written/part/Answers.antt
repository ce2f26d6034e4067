use Rattle.pm_write.proofs.Looping.{parted, pushed}
use Rattle.pm_write.proofs.written.Written.part.Goals as goal

pub returns-clause-lines : goal.returns-clause-lines
returns-clause-lines c = parted c.args.self.now c.place.new.self _ _ _ _ _ _ _ _ _ _ c.take_citations-cited.ensures c.in_ok-number.ensures.line (pushed _ _ _ c.in_ok-push.ensures.items)
