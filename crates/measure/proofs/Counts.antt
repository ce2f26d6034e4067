-- The spatial hypotheses are among the parts of a goal's star.
use Rattle.std.proofs.Common.{◌≡◌, ℕ, ◌+◌, ◌<◌, length, ap, ◌∙◌, arith}
use Rattle.std.proofs.lemmas.List.{length-append, length-map}
use Rattle.pm_goal.specs.declared.goal.Goal.{Goal}
use Rattle.pm_goal.specs.declared.work.Kind.TheVariants as kind
use Rattle.pm_goal.specs.Left.{of_kind, hyps}
use Rattle.pm_star.specs.Stars.{shared, parts}

count : (goal : Goal) → length (parts goal) ≡ length (shared goal) + length goal.spats
count goal =
    length-append (shared goal) (hyps goal.spats) ∙ ap (λ (n : ℕ). length (shared goal) + n) (length-map goal.spats (λ h. of_kind kind.Spat h.formula))

pub within : (goal : Goal) (i : ℕ) → i < length goal.spats → i < length (parts goal)
within goal i lt = let c = count goal in omega arith
