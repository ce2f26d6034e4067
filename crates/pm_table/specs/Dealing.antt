-- Laws of the directives and patterns that deal out the spatial hypotheses of a goal.
use Rattle.std.specs.Prelude.{◌≡◌, Bool, true, List, [], ◌∷◌, Option}
use Rattle.pm_goal.specs.declared.goal.Hyp.{Hyp}
use Rattle.pm_goal.specs.declared.goal.Goal.{Goal}
use Rattle.pm_patterns.specs.declared.pattern.Pick.{Pick}
use Rattle.pm_patterns.specs.declared.pattern.Spat.TheVariants as premise
use Rattle.pm_table.specs.Outcomes.{Outcome, gives, refused}
use Rattle.pm_table.specs.declared.place.Place.{Place}
use Rattle.pm_table.specs.Limits.{work_at}
use Rattle.pm_table.specs.Works.{Named, is_listed}
use Rattle.pm_table.specs.Basic.{split_at}
use Rattle.pm_table.specs.Terms.{Step, picked_framed, by_pattern}

-- Each hypothesis of the last list goes to exactly one of the first two, in order, or is framed.
pub data Dealt (framed : List Named) : List Hyp → List Hyp → List Hyp → Type 0 where
  none : Dealt framed [] [] []
  to_first : {h : Hyp} {xs ys zs : List Hyp} → Dealt framed xs ys zs → Dealt framed (h ∷ xs) ys (h ∷ zs)
  to_second : {h : Hyp} {xs ys zs : List Hyp} → Dealt framed xs ys zs → Dealt framed xs (h ∷ ys) (h ∷ zs)
  is_framed : {h : Hyp} {xs ys zs : List Hyp} → is_listed framed h.name ≡ true → Dealt framed xs ys zs → Dealt framed xs ys (h ∷ zs)

abbrev pub spats_at : Place → List Hyp
spats_at p = (work_at p).goal.spats

-- two goals, to which these hypotheses are dealt
abbrev pub DealtToTwo : List Hyp → Outcome → Type 0
DealtToTwo hs (gives []) = ⊥
DealtToTwo hs (gives (p ∷ [])) = ⊥
DealtToTwo hs (gives (p ∷ q ∷ [])) = Dealt [] (spats_at p) (spats_at q) hs
DealtToTwo hs (gives (p ∷ q ∷ r ∷ ps)) = ⊥
DealtToTwo hs (refused r) = Unit {0}

-- the same, where some may be framed in the first; where that closes it, what it had left is gone with it
abbrev pub DealtAndFramed : List Named → List Hyp → Outcome → Type 0
DealtAndFramed framed hs (gives []) = ⊥
DealtAndFramed framed hs (gives (q ∷ [])) = (left : List Hyp) × Dealt framed left (spats_at q) hs
DealtAndFramed framed hs (gives (p ∷ q ∷ [])) = Dealt framed (spats_at p) (spats_at q) hs
DealtAndFramed framed hs (gives (p ∷ q ∷ r ∷ ps)) = ⊥
DealtAndFramed framed hs (refused r) = Unit {0}

-- `iSplitL` and `iSplitR` give each spatial hypothesis to exactly one goal.
abbrev pub SplitsDeal : Type 0
SplitsDeal = (left : Bool) (list : Option (List Named)) (goal : Goal) → DealtToTwo goal.spats (split_at left list goal)

-- `[H $K …]` and `[-H …]` give each to exactly one goal, or it is framed.
pub record PremisesDeal : Type 0 where
  pub these : (picks : List Pick) (s : Step) → DealtAndFramed (picked_framed picks) s.work.goal.spats (by_pattern (premise.Goal picks) s)
  pub others : (list : List Named) (s : Step) → DealtToTwo s.work.goal.spats (by_pattern (premise.Rest list) s)
