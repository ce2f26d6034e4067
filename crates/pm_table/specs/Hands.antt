-- Where patterns stand, and what is in hand where a step ends.
use Rattle.std.specs.Prelude.{◌≡◌, Bool, true, false, ◌&&◌, []}
use Rattle.std.specs.List.{list_all}
use Rattle.pm_logic.specs.declared.formula.Preds.{Preds}
use Rattle.pm_goal.specs.declared.goal.Goal.{Goal}
use Rattle.pm_goal.specs.declared.work.Lemmas.{Lemmas}
use Rattle.pm_patterns.specs.declared.pattern.Pat.{Pat}
use Rattle.pm_patterns.specs.declared.pattern.Pat.TheVariants as pat
use Rattle.pm_patterns.specs.Patterns.{Pair, Either, Int, Spat, Elim}
use Rattle.pm_script.specs.declared.directive.Directive.{Directive}
use Rattle.pm_script.specs.declared.directive.Directive.TheVariants as d
use Rattle.pm_table.specs.declared.place.Place.{Place}
use Rattle.pm_table.specs.declared.place.Place.TheVariants.{Finished as finished, Current as current}
use Rattle.pm_table.specs.Limits.{work_at}
use Rattle.pm_table.specs.Running.{Run, ran, stopped}
use Rattle.pm_table.specs.Directives.{run_on}
use Rattle.pm_table.specs.Stepping.{Each}

-- ---- where patterns stand

-- a pattern for what is in hand, in which none stands that is for the top of `iIntros` alone
unfoldable pub is_inner : Pat → Bool
is_inner (pat.Name h) = true
is_inner pat.Fresh = true
is_inner pat.Drop = true
is_inner pat.Frame = true
is_inner (Pair p q) = is_inner p && is_inner q
is_inner (Either p q) = is_inner p && is_inner q
is_inner pat.Absurd = true
is_inner (pat.PureName h) = true
is_inner pat.PureFresh = true
is_inner (Int p) = is_inner p
is_inner (Spat p) = is_inner p
is_inner (Elim p) = is_inner p
is_inner pat.Rewrite = true
is_inner pat.RewriteBack = true
is_inner pat.ModIntro = false
is_inner pat.Done = false
is_inner pat.Alls = false
is_inner pat.AllsWands = false
is_inner (pat.Clear sels) = false

-- an item of `iIntros`
unfoldable pub is_item : Pat → Bool
is_item pat.ModIntro = true
is_item pat.Done = true
is_item pat.Alls = true
is_item pat.AllsWands = true
is_item (pat.Clear sels) = true
is_item p = is_inner p

-- each pattern of the directive may stand where it does
unfoldable pub is_well_placed : Directive → Bool
is_well_placed (d.Intros pats) = list_all is_item pats
is_well_placed (d.Destruct t p) = is_inner p
is_well_placed (d.PoseProof t p) = is_inner p
is_well_placed (d.Specialize t) = true
is_well_placed (d.Apply t) = true
is_well_placed (d.Assert f s p) = is_inner p
is_well_placed d.Split = true
is_well_placed (d.SplitL list) = true
is_well_placed (d.SplitR list) = true
is_well_placed d.Left = true
is_well_placed d.Right = true
is_well_placed (d.Exists ts) = true
is_well_placed (d.Exact h) = true
is_well_placed d.Assumption = true
is_well_placed d.ExFalso = true
is_well_placed d.Done = true
is_well_placed (d.Clear sels) = true
is_well_placed (d.Rename h k) = true
is_well_placed (d.Revert xs sels) = true
is_well_placed (d.Frame sels) = true
is_well_placed d.ModIntro = true
is_well_placed d.Next = true
is_well_placed (d.Mod t p) = is_inner p
is_well_placed (d.Loeb h) = true
is_well_placed (d.Unfold h) = true
is_well_placed (d.Fold f h) = true
is_well_placed (d.Combine h k p) = is_inner p
is_well_placed (d.Write h t) = true
is_well_placed (d.Alloc t l p) = is_inner p
is_well_placed d.PureIntro = true
is_well_placed (d.Rewrite back h target) = true
is_well_placed (d.Cases p h) = true
is_well_placed d.Linear = true
is_well_placed (d.LinearWith certs) = true

-- ---- what is in hand

-- P holds of each place
abbrev pub EachPlace : (Place → Type 0) → Run → Type 0
EachPlace P (ran n ps) = Each P ps
EachPlace P (stopped r) = Unit {0}

-- nothing is in hand
abbrev pub IsEmptyHanded : Place → Type 0
IsEmptyHanded p = (work_at p).held ≡ []

-- no pattern is to come and nothing is in hand: between directives, and between the items of `iIntros`
abbrev pub IsAtRest : Place → Type 0
IsAtRest (finished goal) = Unit {0}
IsAtRest (current turns work) = (turns ≡ []) × (work.held ≡ [])

-- Where a step ends, nothing is in hand.
abbrev pub NothingStaysInHand : Type 0
NothingStaysInHand = (preds : Preds) (lemmas : Lemmas) (goal : Goal) (directive : Directive)
    → is_well_placed directive ≡ true → EachPlace IsEmptyHanded (run_on preds lemmas goal directive)
