use Rattle.pm_basic.proofs.Cleared.{facts_apart, ints_apart, spats_apart}
use Rattle.pm_basic.proofs.Renamed.{free_facts, free_ints, free_spats}
use Rattle.pm_basic.proofs.renaming.with_renamed.Goals as goal

pub renamed_facts-requires-clause-apart : goal.renamed_facts-requires-clause-apart
renamed_facts-requires-clause-apart c = facts_apart c.args.goal.now c.requires.apart

pub renamed_facts-requires-clause-free : goal.renamed_facts-requires-clause-free
renamed_facts-requires-clause-free c = free_facts c.args.old.now c.args.new.now c.args.goal.now c.requires.free

pub renamed_hyps-requires-clause-apart : goal.renamed_hyps-requires-clause-apart
renamed_hyps-requires-clause-apart c = ints_apart c.args.goal.now c.requires.apart

pub renamed_hyps-requires-clause-free : goal.renamed_hyps-requires-clause-free
renamed_hyps-requires-clause-free c = free_ints c.args.old.now c.args.new.now c.args.goal.now c.requires.free

pub renamed_hyps-requires-2-clause-apart : goal.renamed_hyps-requires-2-clause-apart
renamed_hyps-requires-2-clause-apart c = spats_apart c.args.goal.now c.requires.apart

pub renamed_hyps-requires-2-clause-free : goal.renamed_hyps-requires-2-clause-free
renamed_hyps-requires-2-clause-free c = free_spats c.args.old.now c.args.new.now c.args.goal.now c.requires.free
