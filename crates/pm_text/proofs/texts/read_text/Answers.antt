use Rattle.std.proofs.Common.{length}
use Rattle.pm_tokens.specs.Texts.{tokens}
use Rattle.pm_text.proofs.CountedFrom.{from_base}
use Rattle.pm_text.proofs.texts.read_text.Goals as goal

pub returns-in-Err : goal.returns-in-Err
returns-in-Err g c = from_base c.args.base (g.T.Readable.whole c.args.preds.now.list c.args.vars.now (length c.args.text.now) (tokens c.args.text.now).1 (tokens c.args.text.now).0) c.in-Err.fault c.moved.result c.in-Err.ensures c.moved.ensures.known
