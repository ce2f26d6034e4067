-- Patterns, run on works. An action runs on all works that it is for, from left to right, before the next one runs.
use Rattle.std.specs.Prelude.{ℕ, Bool, true, false, ◌||◌, List, [], ◌∷◌, map, if◌then◌else◌, Option, Some, None}
use Rattle.pm_logic.specs.declared.formula.Formula.{Formula}
use Rattle.pm_logic.specs.Trees.{Wand, Imp, All}
use Rattle.pm_goal.specs.declared.goal.Goal.{Goal}
use Rattle.pm_goal.specs.declared.work.Work.{Work}
use Rattle.pm_goal.specs.declared.refusal.Row.TheVariants.{NoHypothesisToIntroduce, NoVariableToIntroduce}
use Rattle.pm_patterns.specs.declared.pattern.Sel.{Sel}
use Rattle.pm_patterns.specs.declared.pattern.Sel.TheVariants as sel
use Rattle.pm_patterns.specs.declared.pattern.Pat.{Pat}
use Rattle.pm_patterns.specs.declared.pattern.Pat.TheVariants as pat
use Rattle.pm_patterns.specs.Patterns.{Pair, Either, Int, Spat, Elim}
use Rattle.pm_classes.specs.Persistence.{is_persistent}
use Rattle.pm_table.specs.Outcomes.{Outcome, refuse_plain, Action, gives, refused, one}
use Rattle.pm_table.specs.declared.place.Place.{Place}
use Rattle.pm_table.specs.Works.{Named, at_rest}
use Rattle.pm_table.specs.Running.{Run, after, once, run_of, in_turn, on_all, turns_behind, with_turn, act, each_alone, for_each, in_order}
use Rattle.pm_goal.specs.declared.refusal.Row.{Row}
use Rattle.pm_table.specs.Introductions.{is_empty, intro_hyp, intro_all, intro_all_fresh, universal_of}
use Rattle.pm_table.specs.Destructs.{var_name, name_held, name_fresh, drop_held, pair, either, absurd_held, to_pure, to_pure_fresh, to_int, to_spat}
use Rattle.pm_table.specs.Basic.{on_goal, clear, try_done}
use Rattle.pm_table.specs.Modalities.{head_intro, elim_update}
use Rattle.pm_table.specs.Rewriting.{subst_held}
use Rattle.pm_table.specs.Terms.{frame_held}

-- ---- destructing what is in hand

-- the action of a pattern that has so many parts, on the works that it is for
abbrev pub turn : ℕ → Action → List Place → Run
turn parts action ps = on_all (in_turn parts (once 0 action)) ps

abbrev pub outcome_with : List Bool → Outcome → Outcome
outcome_with turns (gives ps) = gives (map (turns_behind turns) ps)
outcome_with turns (refused r) = refused r

-- the action, after which these of the patterns to come act
abbrev pub opening : List Bool → Action → Action
opening turns action work = outcome_with turns (action work)

unfoldable pub destruct : Pat → List Place → Run
destruct (pat.Name h) ps = turn 0 (name_held h) ps
destruct pat.Fresh ps = turn 0 name_fresh ps
destruct pat.Drop ps = turn 0 drop_held ps
destruct pat.Frame ps = turn 0 frame_held ps
destruct (Pair p q) ps = after (turn 2 (pair p q) ps) (λ qs. after (destruct p qs) (destruct q))
destruct (Either p q) ps = after (turn 2 either ps) (λ qs. after (destruct p qs) (destruct q))
destruct pat.Absurd ps = turn 0 absurd_held ps
destruct (pat.PureName h) ps = turn 0 (to_pure h) ps
destruct pat.PureFresh ps = turn 0 to_pure_fresh ps
destruct (Int p) ps = after (turn 1 (opening (true ∷ []) to_int) ps) (destruct p)
destruct (Spat p) ps = after (turn 1 (opening (true ∷ []) to_spat) ps) (destruct p)
destruct (Elim p) ps = after (turn 1 (opening (true ∷ []) elim_update) ps) (destruct p)
destruct pat.Rewrite ps = turn 0 (subst_held false) ps
destruct pat.RewriteBack ps = turn 0 (subst_held true) ps
-- the others stand at the top of `iIntros` alone
destruct pat.ModIntro ps = turn 0 one ps
destruct pat.Done ps = turn 0 one ps
destruct pat.Alls ps = turn 0 one ps
destruct pat.AllsWands ps = turn 0 one ps
destruct (pat.Clear sels) ps = turn 0 one ps

-- the pattern for what every work has in hand
abbrev pub destruct_all : Pat → List Place → Run
destruct_all p ps = destruct p (map with_turn ps)

-- ---- selections

abbrev pub fact_names : Goal → List Named
fact_names goal = map (λ f. f.name) goal.pures

abbrev pub int_names : Goal → List Named
int_names goal = map (λ h. h.name) goal.ints

abbrev pub spat_names : Goal → List Named
spat_names goal = map (λ h. h.name) goal.spats

-- a name on all works; a group on each work for what that has in the context when its turn comes, before the next work
abbrev pub clear_selected : Sel → List Place → Run
clear_selected (sel.Name h) ps = act (on_goal (clear h)) ps
clear_selected sel.Pures ps = each_alone (λ w. for_each (λ h. on_goal (clear h)) (fact_names w.goal) w) ps
clear_selected sel.Ints ps = each_alone (λ w. for_each (λ h. on_goal (clear h)) (int_names w.goal) w) ps
clear_selected sel.Spats ps = each_alone (λ w. for_each (λ h. on_goal (clear h)) (spat_names w.goal) w) ps

abbrev pub clear_all_selected : List Sel → List Place → Run
clear_all_selected sels ps = in_order clear_selected sels ps

-- ---- introducing

abbrev pub refusing : Outcome → Run
refusing o = run_of 0 o

-- the actions, in order; where there are none, the row
abbrev pub run_actions : Row → List Action → Work → Run
run_actions row [] work = refusing (refuse_plain row)
run_actions row (a ∷ more) work = for_each (λ x. x) (a ∷ more) work

-- `*`: universals, while there are some
abbrev pub universals : Formula → List Action
universals (All b) = at_rest intro_all_fresh ∷ universals b
universals _ = []

abbrev pub intro_alls : Work → Run
intro_alls work = run_actions NoVariableToIntroduce (universals work.goal.concl) work

-- a left side, which is held and named
abbrev pub left_side : List Action → List Action
left_side follows = at_rest intro_hyp ∷ name_fresh ∷ follows

-- `**`: universals, wands and implications, one after another, as long as the next one can be introduced: a left side becomes a
-- spatial hypothesis, over which only an implication of a persistent one can be
abbrev pub premises : (no_spatial : Bool) → Formula → List Action
premises none (All b) = at_rest intro_all_fresh ∷ premises none b
premises none (Wand a b) = left_side (premises false b)
premises none (Imp a b) = if none || is_persistent a then left_side (premises false b) else []
premises none _ = []

abbrev pub intro_premises : Work → Run
intro_premises work = run_actions NoHypothesisToIntroduce (premises (is_empty work.goal.spats) work.goal.concl) work

-- a variable where the pattern names one and the conclusion is a universal, and then nothing is left for the pattern; else a left
-- side, which the pattern destructs
abbrev pub intro_var_or_hyp : Option Named → Option Formula → Action
intro_var_or_hyp (Some x) (Some b) work = opening (false ∷ []) (intro_all x) work
intro_var_or_hyp (Some x) None work = opening (true ∷ []) intro_hyp work
intro_var_or_hyp None b work = opening (true ∷ []) intro_hyp work

abbrev pub intro_one : Pat → Action
intro_one p work = intro_var_or_hyp (var_name work.goal p) (universal_of work.goal.concl) work

abbrev pub intro_pattern : Pat → List Place → Run
intro_pattern p ps = after (act (at_rest (intro_one p)) ps) (destruct p)

unfoldable pub intro : Pat → List Place → Run
intro pat.ModIntro ps = act (on_goal head_intro) ps
intro pat.Done ps = act (on_goal try_done) ps
intro pat.Alls ps = each_alone intro_alls ps
intro pat.AllsWands ps = each_alone intro_premises ps
intro (pat.Clear sels) ps = clear_all_selected sels ps
intro p ps = intro_pattern p ps

abbrev pub intro_each : List Pat → List Place → Run
intro_each pats ps = in_order intro pats ps
