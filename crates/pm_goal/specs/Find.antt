-- What a name of a goal names.
use Rattle.std.specs.Prelude.{ℕ, ◌-◌, List, length, position, Option, Some, None, option_map}
use Rattle.std.specs.Str.{bytes_eq}
use Rattle.pm_goal.specs.declared.goal.Goal.{Goal}
use Rattle.pm_goal.specs.declared.finding.Found.{Found}
use Rattle.pm_goal.specs.declared.finding.Found.TheVariants as found

-- the first of two that is there
abbrev pub first_of_two : {A : Type 0} → Option A → Option A → Option A
first_of_two (Some x) o = Some x
first_of_two None o = o

-- the hypothesis of this name, by its context and its place from 0
abbrev pub hyp_of : Goal → List ℕ → Option Found
hyp_of goal name =
    first_of_two (option_map found.Int (position (λ h. bytes_eq name h.name) goal.ints))
    (option_map found.Spat (position (λ h. bytes_eq name h.name) goal.spats))

-- what the name names: a variable by its index, the newest being 0, else a fact or hypothesis by its place
abbrev pub find_of : Goal → List ℕ → Option Found
find_of goal name =
    first_of_two (option_map (λ i. found.Var (length goal.vars - 1 - i)) (position (λ n. bytes_eq name n) goal.vars))
    (first_of_two (option_map found.Pure (position (λ f. bytes_eq name f.name) goal.pures)) (hyp_of goal name))
