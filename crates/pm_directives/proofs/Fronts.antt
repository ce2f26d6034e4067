-- Introductions at the front of a formula.
use Rattle.std.proofs.Common.{◌≡◌, ◌⊎◌, inl, inr, Bool, true, false, cond, ◌||◌, List, [], ◌∷◌, refl, sym, ◌∙◌, ap, subst}
use Rattle.std.specs.Prelude.{Ok, Err}
use Rattle.pm_logic.specs.declared.formula.Formula.{Formula}
use Rattle.pm_logic.specs.declared.formula.Formula.TheViews as view
use Rattle.pm_logic.specs.Trees.{Wand, Imp, All}
use Rattle.pm_logic.proofs.Views.{view_wand, view_imp, view_all}
use Rattle.pm_classes.specs.Persistence.{is_persistent}
use Rattle.pm_goal.specs.declared.work.Work.{Work}
use Rattle.pm_goal.specs.declared.refusal.Row.{Row}
use Rattle.pm_goal.specs.declared.refusal.Refusal.{Refusal}
use Rattle.pm_goal.specs.declared.refusal.StepFault.{StepFault}
use Rattle.pm_goal.specs.declared.refusal.StepFault.TheVariants as fault
use Rattle.pm_goal.specs.declared.refusal.Row.TheVariants.{NoHypothesisToIntroduce, NoVariableToIntroduce}
use Rattle.pm_proof.specs.declared.proof.Parts.{Parts}
use Rattle.pm_table.specs.declared.place.Place.{Place}
use Rattle.pm_table.specs.declared.place.Place.TheVariants.{Current as current}
use Rattle.pm_table.specs.Outcomes.{Action}
use Rattle.pm_table.specs.Works.{at_rest}
use Rattle.pm_table.specs.Introductions.{is_empty, intro_hyp, intro_all_fresh}
use Rattle.pm_table.specs.Destructs.{name_fresh}
use Rattle.pm_table.specs.Running.{Run, stopped, after, act, in_order}
use Rattle.pm_table.specs.Patterns.{universals, left_side, premises, run_actions, intro_alls, intro_premises}
use Rattle.pm_action.specs.Acting.{plainly}
use Rattle.pm_sweep.specs.Standing.{Follows, ReplacesWork}
use Rattle.pm_sweep.proofs.Following.{stays_follows}
use Rattle.pm_directives.specs.Groups.{is_some_action}
use Rattle.pm_directives.proofs.Chained.{Answer, then_one, first_ends, after_both}

-- ---- which actions these are

pub universals_all : (f b c : Formula) → f ≡ view.All b → c ≡ b → universals f ≡ at_rest intro_all_fresh ∷ universals c
universals_all f b c is same = ap universals (is ∙ ap view.All (sym same) ∙ view_all c)

pub premises_all : (none : Bool) (f b c : Formula) → f ≡ view.All b → c ≡ b → premises none f ≡ at_rest intro_all_fresh ∷ premises none c
premises_all none f b c is same = ap (premises none) (is ∙ ap view.All (sym same) ∙ view_all c)

pub premises_wand : (none : Bool) (f a b c : Formula) → f ≡ view.Wand a b → c ≡ b → premises none f ≡ left_side (premises false c)
premises_wand none f a b c is same = ap (premises none) (is ∙ ap (view.Wand a) (sym same) ∙ view_wand a c)

premises_imp : (none : Bool) (f a b : Formula) → f ≡ view.Imp a b → premises none f ≡ cond (none || is_persistent a) (left_side (premises false b)) []
premises_imp none f a b is = ap (premises none) (is ∙ view_imp a b)

chosen : (t : Bool) (actions : List Action) → t ≡ true → cond t actions [] ≡ actions
chosen t actions is = ap (λ x. cond x actions []) is

not_chosen : (t : Bool) (actions : List Action) → t ≡ false → cond t actions [] ≡ []
not_chosen t actions is = ap (λ x. cond x actions []) is

-- an implication, where it can be introduced
pub premises_goes : (none : Bool) (f a b c d : Formula) (t : Bool) → f ≡ view.Imp a b → d ≡ a → c ≡ b → t ≡ (none || is_persistent d) → t ≡ true → premises none f ≡ left_side (premises false c)
premises_goes none f a b c d t is left right test holds =
    let here : premises none f ≡ cond (none || is_persistent d) (left_side (premises false c)) [] = ap (premises none) (is ∙ ap (λ x. view.Imp x b) (sym left) ∙ ap (view.Imp d) (sym right) ∙ view_imp d c) in
    here ∙ chosen (none || is_persistent d) (left_side (premises false c)) (sym test ∙ holds)

-- and where it can't
pub premises_stops : (none : Bool) (f a b d : Formula) (t : Bool) → f ≡ view.Imp a b → d ≡ a → t ≡ (none || is_persistent d) → t ≡ false → premises none f ≡ []
premises_stops none f a b d t is left test fails =
    let here : premises none f ≡ cond (none || is_persistent d) (left_side (premises false b)) [] = ap (premises none) (is ∙ ap (λ x. view.Imp x b) (sym left) ∙ view_imp d b) in
    here ∙ not_chosen (none || is_persistent d) (left_side (premises false b)) (sym test ∙ fails)

-- ---- whether there are some

some_where : (t : Bool) (rest : List Action) → is_some_action (cond t (left_side rest) []) ≡ t
some_where true rest = refl
some_where false rest = refl

enters_all : (none : Bool) (f b : Formula) → f ≡ view.All b → true ≡ is_some_action (premises none f)
enters_all none f b is = sym (ap is_some_action (premises_all none f b b is refl))

enters_wand : (none : Bool) (f a b : Formula) → f ≡ view.Wand a b → true ≡ is_some_action (premises none f)
enters_wand none f a b is = sym (ap is_some_action (premises_wand none f a b b is refl))

pub enters_either : (none : Bool) (f : Formula) → ((b : Formula) × (f ≡ view.All b)) ⊎ ((a : Formula) × (b : Formula) × (f ≡ view.Wand a b)) → true ≡ is_some_action (premises none f)
enters_either none f (inl h) = enters_all none f h.0 h.1
enters_either none f (inr h) = enters_wand none f h.0 h.1 h.2

pub enters_imp : (none : Bool) (f a b d : Formula) (t : Bool) → f ≡ view.Imp a b → d ≡ a → t ≡ (none || is_persistent d) → t ≡ is_some_action (premises none f)
enters_imp none f a b d t is left test =
    test ∙ sym (ap is_some_action (premises_imp none f d b (is ∙ ap (λ x. view.Imp x b) (sym left))) ∙ some_where (none || is_persistent d) (premises false b))

-- ---- runs

module _ (old : Parts Place) (actions : List Action) where
  pub no_action : actions ≡ [] → Follows old (in_order act actions old.goals) (Ok old)
  no_action e = subst (λ xs. Follows old (in_order act xs old.goals) (Ok old)) (sym e) (stays_follows old)

  pub action_then : (next : Parts Place) (a : Action) (rest : List Action) (result : Answer) → actions ≡ a ∷ rest → Follows old (act a old.goals) (Ok next) → Follows next (in_order act rest next.goals) result → Follows old (in_order act actions old.goals) result
  action_then next a rest result e h g = then_one old (in_order act actions old.goals) (act a old.goals) next (in_order act rest) result (ap (λ xs. in_order act xs old.goals) e) h g

  pub action_ends : (a : Action) (rest : List Action) (result : Answer) (e : StepFault) → actions ≡ a ∷ rest → result ≡ Err e → Follows old (act a old.goals) (Err e) → Follows old (in_order act actions old.goals) result
  action_ends a rest result e is same h = first_ends old (in_order act actions old.goals) (act a old.goals) (in_order act rest) result e (ap (λ xs. in_order act xs old.goals) is) same h

  abbrev entered : Run
  entered = after (act (at_rest intro_hyp) old.goals) (act name_fresh)

  entered_first : (rest : List Action) → actions ≡ left_side rest → in_order act actions old.goals ≡ after entered (in_order act rest)
  entered_first rest e = ap (λ xs. in_order act xs old.goals) e ∙ sym (after_both (act (at_rest intro_hyp) old.goals) (act name_fresh) (in_order act rest))

  pub left_then : (next : Parts Place) (rest : List Action) (result : Answer) → actions ≡ left_side rest → Follows old entered (Ok next) → Follows next (in_order act rest next.goals) result → Follows old (in_order act actions old.goals) result
  left_then next rest result e h g = then_one old (in_order act actions old.goals) entered next (in_order act rest) result (entered_first rest e) h g

  pub left_ends : (rest : List Action) (result : Answer) (e : StepFault) → actions ≡ left_side rest → result ≡ Err e → Follows old entered (Err e) → Follows old (in_order act actions old.goals) result
  left_ends rest result e is same h = first_ends old (in_order act actions old.goals) entered (in_order act rest) result e (entered_first rest is) same h

-- ---- on one work

runs_some : (row : Row) (actions : List Action) (w : Work) → is_some_action actions ≡ true → run_actions row actions w ≡ in_order act actions (current [] w ∷ [])
runs_some row [] w some = absurd cc
runs_some row (a ∷ more) w some = refl

pub alls_run : (w : Work) (b : Formula) (result : Answer) → w.goal.concl ≡ view.All b → ReplacesWork w (in_order act (universals w.goal.concl) (current [] w ∷ [])) result → ReplacesWork w (intro_alls w) result
alls_run w b result is h = subst (λ r. ReplacesWork w r result) (sym (runs_some NoVariableToIntroduce (universals w.goal.concl) w (ap is_some_action (universals_all w.goal.concl b b is refl)))) h
