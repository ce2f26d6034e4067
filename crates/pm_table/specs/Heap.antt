-- Points-to: two are combined, one is written, a new one is allocated.
use Rattle.std.specs.Prelude.{◌==◌, List, [], ◌∷◌, is_some, Option, None, if◌then◌else◌}
use Rattle.std.specs.Bool.{then_some}
use Rattle.std.specs.Str.{bytes_eq}
use Rattle.pm_logic.specs.declared.formula.Term.{Term}
use Rattle.pm_logic.specs.declared.formula.Term.TheVariants.{Var}
use Rattle.pm_logic.specs.declared.formula.Formula.{Formula}
use Rattle.pm_logic.specs.declared.formula.Formula.TheVariants.{Pts}
use Rattle.pm_logic.specs.declared.formula.TheConstants.{UNIT}
use Rattle.pm_logic.specs.Substitution.{raised, shift_of}
use Rattle.pm_goal.specs.declared.goal.Hyp.{Hyp}
use Rattle.pm_goal.specs.declared.goal.Goal.{Goal}
use Rattle.pm_goal.specs.declared.work.Kind.TheVariants as kind
use Rattle.pm_goal.specs.declared.refusal.Row.TheVariants.{NoSuchHypothesis, NotSpatial, NameInUse, NotFullPointsTo, ConclusionNotUpdate}
use Rattle.pm_classes.specs.Classes.{combine}
use Rattle.pm_table.specs.Outcomes.{Outcome, closed, one, require, require_plain, require_some, require_entry}
use Rattle.pm_table.specs.Works.{Named, hyp_named, has_hyp, fits, hyp, hyps_out, with_var, hold}
use Rattle.pm_table.specs.Modalities.{under_update}
use Rattle.pm_table.specs.Limits.{resting}
use Rattle.pm_table.specs.Destructs.{is_falsehood}
use Rattle.pm_table.specs.Basic.{all_spatial, with_spats, gives_goal}

-- ---- what an action makes of a hypothesis

-- the formula of this name is another, in its place
abbrev pub put_in : Named → Formula → List Hyp → List Hyp
put_in name f [] = []
put_in name f (h ∷ hs) = (if bytes_eq name h.name then hyp name f else h) ∷ put_in name f hs

abbrev pub put : Named → Formula → Goal → Goal
put name f goal = record goal { ints = put_in name f goal.ints; spats = put_in name f goal.spats }

-- ---- combination

-- falsehood closes the goal; all else is held
abbrev pub holding_combined : Formula → Goal → Outcome
holding_combined f goal = if is_falsehood f then closed else one (hold kind.Spat f (resting goal))

-- both leave the spatial context, and the combination of the two is held
abbrev pub combine_held : Named → Named → Goal → Outcome
combine_held a b goal =
    all_spatial goal (a ∷ b ∷ []) (
    require_some (hyp_named a goal.spats) NoSuchHypothesis a (λ f.
    require_some (hyp_named b goal.spats) NoSuchHypothesis b (λ g.
    holding_combined (combine f g) (with_spats (hyps_out (a ∷ b ∷ []) goal.spats) goal))))

-- ---- writing

-- the location, where the formula is a points-to of all units
unfoldable pub full_location : Formula → Option Term
full_location (Pts l u v) = then_some (u == UNIT) l
full_location _ = None

-- a full l ↦ w becomes l ↦ t, where the conclusion is an update
abbrev pub write : Named → Term → Goal → Outcome
write h t goal =
    require (has_hyp goal h) NoSuchHypothesis h (
    require_some (hyp_named h goal.spats) NotSpatial h (λ f.
    require_entry (full_location f) NotFullPointsTo (λ l.
    require_plain (is_some (under_update goal.concl)) ConclusionNotUpdate (
    gives_goal (put h (Pts l UNIT t) goal)))))

-- ---- allocation

-- a variable l, and l ↦ t is held
abbrev pub allocate : Term → Named → Goal → Outcome
allocate t l goal =
    require_plain (is_some (under_update goal.concl)) ConclusionNotUpdate (
    require (fits goal l) NameInUse l (
    one (hold kind.Spat (Pts (Var 0) UNIT (raised t)) (resting (with_var l (shift_of goal.concl) goal)))))
