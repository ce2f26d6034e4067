use Rattle.pm_tokens.specs.Tokens.{places}
use Rattle.pm_text.specs.Parts.{scope, table, inside}
use Rattle.pm_text.proofs.Callees.{call_found}
use Rattle.pm_text.proofs.calls.call_at.Goals as goal

pub returns-in-Some : goal.returns-in-Some
returns-in-Some c =
    rw (call_found c.args.context.now.stop (table c.args.context.now) (inside c.args.context.now c.args.room) c.args.room (scope c.args.context.now c.args.bound.now) c.args.name.now c.args.at (places c.args.tokens.now) c.in-Some.callee c.in-Some.ensures) c.call_in.ensures
