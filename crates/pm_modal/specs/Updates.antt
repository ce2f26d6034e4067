-- The elimination of an update.
use Rattle.std.specs.Prelude.{ℕ, ◌+◌, ◌*◌, [], ◌∷◌, length}
use Rattle.pm_logic.specs.declared.formula.Formula.{Formula}
use Rattle.pm_logic.specs.declared.formula.Formula.TheViews as view
use Rattle.pm_goal.specs.declared.work.Kind.TheVariants.{Spat}
use Rattle.pm_goal.specs.declared.work.Held.{Held}
use Rattle.pm_goal.specs.declared.work.Work.{Work}
use Rattle.pm_goal.specs.Left.{of_kind, left_of_work}
use Rattle.pm_proof.specs.Trees.{Tree, entail}
use Rattle.pm_proof.specs.Known.{Proves, Every}
use Rattle.pm_schemes.specs.Sketches.{deepest}
use Rattle.pm_star.specs.Stars.{work_parts, Moves}
use Rattle.pm_table.specs.Works.{hold}
use Rattle.pm_table.specs.declared.place.Place.TheVariants.{Current as current}
use Rattle.pm_action.specs.Meanings.{meaning, height, room, width}
use Rattle.pm_hand.specs.Changed.{dropped, relast}

-- the last in hand in front of the star of the others
abbrev pub IsFront : Work → Held → Tree → Type 0
IsFront w l t = Moves (length w.goal.vars) (length (work_parts w)) (left_of_work w) (view.Sep (of_kind l.kind l.formula) (left_of_work (dropped w))) t

-- b beside the star entails the conclusion, from the meaning of the work with b in hand
abbrev pub IsTail : Work → Formula → Tree → Type 0
IsTail rest b t = Proves Every (entail (length rest.goal.vars) (view.Sep b (left_of_work rest)) rest.goal.concl) (meaning (hold Spat b rest) ∷ []) (100 * length (work_parts rest) + 101) (height (hold Spat b rest) + 16) (length rest.goal.vars) t

-- from x to the update of c, by three steps that are its holes
abbrev pub IsStep : ℕ → (a x b r c : Formula) → Tree → Type 0
IsStep k a x b r c t = Proves Every (entail k x (view.Upd c)) (entail k x (view.Sep a r) ∷ entail k a (view.Upd b) ∷ entail k (view.Sep b r) (view.Upd c) ∷ []) 13 (deepest (a ∷ x ∷ b ∷ r ∷ c ∷ []) [] + 2) k t

-- what the work means, from what it means with b in the place of the last in hand, which is its update
abbrev pub IsEliminated : Work → Formula → Tree → Type 0
IsEliminated w b t = Proves Every (meaning w) (meaning (relast w Spat b) ∷ []) (200 * length (work_parts w) + 215) (room w (current [] (relast w Spat b) ∷ [])) (width w) t
