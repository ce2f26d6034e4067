-- A name that is free is in no context.
use Rattle.std.proofs.Common.{◌≡◌, ◌-◌, Bool, true, not, ◌||◌, is_some, length, position, bytes_eq, Option, Some, None, option_map, refl}
use Rattle.pm_goal.specs.declared.goal.Hyp.{Hyp}
use Rattle.pm_goal.specs.declared.goal.Fact.{Fact}
use Rattle.pm_goal.specs.declared.goal.Goal.{Goal}
use Rattle.pm_goal.specs.declared.finding.Found.{Found}
use Rattle.pm_goal.specs.declared.finding.Found.TheVariants as found
use Rattle.pm_goal.specs.Find.{first_of_two, find_of, hyp_of}
use Rattle.pm_table.specs.Works.{Named, fits, is_numbered}

none_of_two : {A : Type 0} (o q : Option A) → first_of_two o q ≡ None → (o ≡ None) × (q ≡ None)
none_of_two (Some x) q e = absurd cc
none_of_two None q e = (refl, e)

none_mapped : {A B : Type 0} (f : A → B) (o : Option A) → option_map f o ≡ None → o ≡ None
none_mapped f (Some x) e = absurd cc
none_mapped f None e = refl

not_some : {A : Type 0} (o : Option A) (b : Bool) → not (is_some o || b) ≡ true → o ≡ None
not_some (Some x) b e = absurd cc
not_some None b e = refl

-- no context has the name
record IsNowhere (goal : Goal) (name : Named) : Type 0 where
  pures : position (λ (f : Fact). bytes_eq name f.name) goal.pures ≡ None
  ints : position (λ (h : Hyp). bytes_eq name h.name) goal.ints ≡ None
  spats : position (λ (h : Hyp). bytes_eq name h.name) goal.spats ≡ None

nowhere : (goal : Goal) (name : Named) → fits goal name ≡ true → IsNowhere goal name
nowhere goal name e =
    let var : Option Found = option_map (λ i. found.Var (length goal.vars - 1 - i)) (position (λ n. bytes_eq name n) goal.vars) in
    let pures : Option Found = option_map found.Pure (position (λ (f : Fact). bytes_eq name f.name) goal.pures) in
    let ints : Option Found = option_map found.Int (position (λ (h : Hyp). bytes_eq name h.name) goal.ints) in
    let spats : Option Found = option_map found.Spat (position (λ (h : Hyp). bytes_eq name h.name) goal.spats) in
    let first = none_of_two var (first_of_two pures (hyp_of goal name)) (not_some (find_of goal name) (is_numbered name) e) in
    let second = none_of_two pures (hyp_of goal name) first.1 in
    let third = none_of_two ints spats second.1 in
    record {
      pures = none_mapped found.Pure (position (λ (f : Fact). bytes_eq name f.name) goal.pures) second.0;
      ints = none_mapped found.Int (position (λ (h : Hyp). bytes_eq name h.name) goal.ints) third.0;
      spats = none_mapped found.Spat (position (λ (h : Hyp). bytes_eq name h.name) goal.spats) third.1;
    }

pub free_fact : (goal : Goal) (name : Named) → fits goal name ≡ true → position (λ (f : Fact). bytes_eq name f.name) goal.pures ≡ None
free_fact goal name e = (nowhere goal name e).pures

pub free_int : (goal : Goal) (name : Named) → fits goal name ≡ true → position (λ (h : Hyp). bytes_eq name h.name) goal.ints ≡ None
free_int goal name e = (nowhere goal name e).ints

pub free_spat : (goal : Goal) (name : Named) → fits goal name ≡ true → position (λ (h : Hyp). bytes_eq name h.name) goal.spats ≡ None
free_spat goal name e = (nowhere goal name e).spats
