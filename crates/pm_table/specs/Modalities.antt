-- Modalities: which of them is at the head of the conclusion, and what becomes of the contexts where it is introduced.
use Rattle.std.specs.Prelude.{Bool, true, List, [], ◌∷◌, is_some, Option, Some, None}
use Rattle.std.specs.Bool.{then_some}
use Rattle.std.specs.List.{list_all}
use Rattle.pm_logic.specs.declared.formula.Formula.{Formula}
use Rattle.pm_logic.specs.Trees.{Sep, And, Or, Later, Pers, Upd}
use Rattle.pm_goal.specs.declared.goal.Hyp.{Hyp}
use Rattle.pm_goal.specs.declared.goal.Goal.{Goal}
use Rattle.pm_goal.specs.declared.work.Kind.TheVariants as kind
use Rattle.pm_goal.specs.declared.refusal.Row.TheVariants.{NoModality, ContextNotAllowed, NotUpdate, ConclusionNotUpdate}
use Rattle.pm_table.specs.declared.passage.Passage.{Passage}
use Rattle.pm_table.specs.declared.passage.Passage.TheVariants.{Empty, All, Transform, Clear, Identity}
use Rattle.pm_table.specs.Outcomes.{Outcome, Action, one, require_plain, require_entry}
use Rattle.pm_table.specs.Basic.{gives_goal}
use Rattle.pm_table.specs.Works.{with_last, work_of, hold, each_hyp}

-- ---- the part under a modality

unfoldable pub under_later : Formula → Option Formula
under_later (Later a) = Some a
under_later _ = None

unfoldable pub under_box : Formula → Option Formula
under_box (Pers a) = Some a
under_box _ = None

unfoldable pub under_update : Formula → Option Formula
under_update (Upd a) = Some a
under_update _ = None

-- ---- the transform of later

-- ▷A becomes A; in A ∗ B, A ∧ B, A ∨ B and □A each part is transformed; any other formula stays
unfoldable pub without_later : Formula → Formula
without_later (Later a) = a
without_later (Sep a b) = Sep (without_later a) (without_later b)
without_later (And a b) = And (without_later a) (without_later b)
without_later (Or a b) = Or (without_later a) (without_later b)
without_later (Pers a) = Pers (without_later a)
without_later f = f

-- ---- the modalities

pub record Modality : Type 0 where
  -- what a formula is after the modality, where it begins with it
  pub strip : Formula → Option Formula
  -- what becomes of the intuitionistic and of the spatial context
  pub intuitionistic : Passage
  pub spatial : Passage
  -- what `All` allows, and what `Transform` makes of a hypothesis
  pub admits : Formula → Bool
  pub act : Formula → Formula

abbrev pub later : Modality
later = record { strip = under_later; intuitionistic = Transform; spatial = Transform; admits = λ f. true; act = without_later }

abbrev pub box : Modality
box = record { strip = under_box; intuitionistic = Identity; spatial = Clear; admits = λ f. true; act = λ f. f }

abbrev pub update : Modality
update = record { strip = under_update; intuitionistic = Identity; spatial = Identity; admits = λ f. true; act = λ f. f }

-- ---- the introduction of a modality

-- what becomes of a context, and none where the modality doesn't allow it
unfoldable pub passed : Modality → Passage → List Hyp → Option (List Hyp)
passed m Empty [] = Some []
passed m Empty (h ∷ hs) = None
passed m All hs = then_some (list_all (λ h. m.admits h.formula) hs) hs
passed m Transform hs = Some (each_hyp m.act hs)
passed m Clear hs = Some []
passed m Identity hs = Some hs

abbrev pub acted : Goal → List Hyp → List Hyp → Formula → Goal
acted goal ints spats concl = record { vars = goal.vars; pures = goal.pures; ints = ints; spats = spats; concl = concl }

abbrev pub mod_intro : Modality → Goal → Outcome
mod_intro m goal =
    require_entry (m.strip goal.concl) NoModality (λ concl.
    require_entry (passed m m.intuitionistic goal.ints) ContextNotAllowed (λ ints.
    require_entry (passed m m.spatial goal.spats) ContextNotAllowed (λ spats.
    gives_goal (acted goal ints spats concl))))

-- the modality at the head of the conclusion
unfoldable pub modality_of : Formula → Option Modality
modality_of (Later a) = Some later
modality_of (Pers a) = Some box
modality_of (Upd a) = Some update
modality_of _ = None

abbrev pub head_intro : Goal → Outcome
head_intro goal = require_entry (modality_of goal.concl) NoModality (λ m. mod_intro m goal)

-- the same for ▷ alone
abbrev pub next : Goal → Outcome
next = mod_intro later

-- ---- the elimination of an update

-- |==> B in hand becomes B, where the conclusion is an update
abbrev pub elim_update : Action
elim_update work =
    with_last work (λ hand.
    require_entry (under_update hand.last.formula) NotUpdate (λ b.
    require_plain (is_some (under_update work.goal.concl)) ConclusionNotUpdate (
    one (hold kind.Spat b (work_of work.goal hand.others)))))
