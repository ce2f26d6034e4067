use Rattle.std.proofs.Common.{sym}
use Rattle.pm_run.proofs.Looped.{ends_open, ends_clean, table_kept, kept_writable}
use Rattle.pm_run.proofs.script.ended.Goals as goal

pub returns-then-is_some : goal.returns-then-is_some
returns-then-is_some c = ends_open c.args.running c.args.number c.args.size (sym c.if-is_some.ensures)

pub write_derivation-requires-clause-table : goal.write_derivation-requires-clause-table
write_derivation-requires-clause-table c = table_kept c.args.running c.requires

pub write_derivation-requires-clause-proofs : goal.write_derivation-requires-clause-proofs
write_derivation-requires-clause-proofs c = kept_writable c.args.running c.requires

pub returns : goal.returns
returns c = ends_clean c.args.running c.args.number c.args.size c.in_ok-write_derivation.field-0 (sym c.if-is_some.ensures) c.in_ok-write_derivation.ensures
