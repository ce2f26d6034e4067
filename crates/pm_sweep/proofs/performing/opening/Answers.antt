use Rattle.std.proofs.Common.{◌≡◌, [], ◌∷◌, refl, subst, rules, Ok, Err}
use Rattle.pm_table.specs.Limits.{limited}
use Rattle.pm_action.specs.Acting.{Answers}
use Rattle.pm_sweep.proofs.Behind.{opened, not_opened}
use Rattle.pm_sweep.proofs.performing.opening.Goals as goal

pub returns-in_err-goals : goal.returns-in_err-goals
returns-in_err-goals c s w o answer =
    let e = c.in_err-goals.field-0.0 in
    let was : c.args.answered ≡ Err e = search rules in
    let same : c.from_residual.result ≡ Err e = search rules in
    rw same (not_opened (c.args.turn ∷ []) s w o e (subst (λ r. Answers s w (limited o) r) was answer))

pub returns : goal.returns
returns c s w o answer =
    let was : c.args.answered ≡ Ok c.in_ok-goals.field-0 = search rules in
    opened (c.args.turn ∷ []) s w o c.in_ok-goals.field-0 (record { goals = c.in_ok-goals-2.goals; proof = c.in_ok-goals.field-0.proof }) (subst (λ r. Answers s w (limited o) r) was answer) c.in_ok-goals-2.ensures refl
