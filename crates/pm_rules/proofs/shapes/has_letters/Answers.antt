use Rattle.std.proofs.Common.{refl}
use Rattle.pm_rules.specs.Read.{sequent_of, sequents_of, given_of}
use Rattle.pm_rules.specs.Matching.{known}
use Rattle.pm_rules.proofs.Letters.{letters_found}
use Rattle.pm_rules.proofs.shapes.has_letters.Goals as goal

pub returns-in-Some-premise_letters : goal.returns-in-Some-premise_letters
returns-in-Some-premise_letters c = (λ _. letters_found (known c.nothing_found.result) (known c.in-Some.found) (known c.in-Some-premise_letters.field-0) (sequents_of c.args.premises.now) (sequent_of c.args.gives.now) (given_of c.args.ps) c.args.e.now c.in-Some.ensures c.in-Some-premise_letters.ensures, λ _. refl)
