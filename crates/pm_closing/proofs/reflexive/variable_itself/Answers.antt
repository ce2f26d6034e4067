use Rattle.std.proofs.Common.{refl}
use Rattle.pm_logic.specs.declared.formula.Term.TheVariants.{Var}
use Rattle.pm_logic.specs.declared.formula.Pure.TheVariants.{Eq}
use Rattle.pm_closing.proofs.Equal.{no_facts, factors_shown, one_known}
use Rattle.pm_closing.proofs.reflexive.variable_itself.Goals as goal

pub linear-requires-clause-facts : goal.linear-requires-clause-facts
linear-requires-clause-facts c = no_facts

pub linear-requires-clause-shown : goal.linear-requires-clause-shown
linear-requires-clause-shown c = factors_shown c.in_ok-first.first c.in_ok-second.second c.in_ok-first.ensures c.in_ok-second.ensures

pub returns : goal.returns
returns c = one_known (Eq (Var 0) (Var 0)) c.in_ok-proof.proof refl c.in_ok-proof.ensures
