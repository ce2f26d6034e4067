use Rattle.std.proofs.Common.{sym, ◌∙◌}
use Rattle.pm_dtext.proofs.Tables.{taken_by}
use Rattle.pm_dtext.proofs.table_lines.is_taken.Goals as goal

pub returns : goal.returns
returns c = c.some_has_name.ensures ∙ sym (taken_by c.args.preds.now c.args.word.now)
