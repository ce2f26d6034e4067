use Rattle.pm_write.proofs.Growing.{closed_if}
use Rattle.pm_write.proofs.written.Written.state.Goals as goal

pub returns : goal.returns
returns c = closed_if c.args.self.now c.put_qed.new.out c.args.name.now c.bytes.result.now c.args.number c.put_qed.result c.bytes.ensures c.put_qed.ensures
