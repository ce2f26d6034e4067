use Rattle.std.proofs.Common.{◌≡◌, ◌∷◌, [], ◌++◌, length, reverse, List, refl, ap, ◌∙◌, rules}
use Rattle.std.specs.Prelude.{ℕ}
use Rattle.pm_goal.specs.declared.goal.Goal.{Goal}
use Rattle.pm_proof.specs.declared.joining.Step.{Step as ProofStep}
use Rattle.pm_run.proofs.Advances.{others_first}
use Rattle.pm_run.proofs.proof.Proof.stepped.Goals as goal

pub returns : goal.returns
returns c =
    let added : reverse c.add_goals.new.goals ≡ c.args.parts.goals ++ reverse c.pop.new.self = search rules in
    let pushed : c.push.new.self.items ≡ c.args.self.steps.items ++ (record { proof = c.args.parts.proof; goals = c.len-count.result } ∷ []) = search rules in
    let counted : c.len-count.result ≡ length c.args.parts.goals = search rules in
    let others = others_first c.args.self.goals c.pop.new.self c.pop.result c.pop.ensures.some c.pop.ensures.items in
    record {
      name_is = refl;
      statement_is = refl;
      goals_are = added ∙ ap (λ (gs : List Goal). c.args.parts.goals ++ gs) others;
      steps_are = pushed ∙ ap (λ (n : ℕ). c.args.self.steps.items ++ (record { proof = c.args.parts.proof; goals = n } ∷ [])) counted;
    }
