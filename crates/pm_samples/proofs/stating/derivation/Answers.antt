use Rattle.std.proofs.Common.{rules}
use Rattle.pm_samples.proofs.Whole.{writable}
use Rattle.pm_samples.proofs.stating.derivation.Goals as goal

pub write_derivation-requires-clause-proofs : goal.write_derivation-requires-clause-proofs
write_derivation-requires-clause-proofs c =
    writable c.no_predicates-preds.result c.push.new.self (record { name = c.in_ok-name.name; proof = c.args.proof }) (search rules) (search rules) c.requires (search rules)
