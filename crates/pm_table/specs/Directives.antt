-- The directive table: what a directive takes a goal to, and how many rules the steps to there take at most.
use Rattle.std.specs.Prelude.{ℕ, Bool, true, false, ◌&&◌, List, [], ◌∷◌, map, reverse, Option, Some, None}
use Rattle.pm_logic.specs.declared.formula.Formula.{Formula}
use Rattle.pm_logic.specs.declared.formula.Preds.{Preds}
use Rattle.pm_logic.specs.Size.{term_nodes, pure_nodes, nodes_of}
use Rattle.pm_goal.specs.declared.goal.Goal.{Goal}
use Rattle.pm_goal.specs.declared.work.Lemmas.{Lemmas}
use Rattle.pm_goal.specs.declared.refusal.Refusal.{Refusal}
use Rattle.pm_patterns.specs.declared.pattern.Sel.{Sel}
use Rattle.pm_patterns.specs.declared.pattern.Sel.TheVariants as sel
use Rattle.pm_patterns.specs.declared.pattern.Head.{Head}
use Rattle.pm_patterns.specs.declared.pattern.Head.TheVariants as head
use Rattle.pm_patterns.specs.declared.pattern.ProofTerm.{ProofTerm}
use Rattle.pm_patterns.specs.Patterns.{Elim}
use Rattle.pm_script.specs.declared.directive.Directive.{Directive}
use Rattle.pm_script.specs.declared.directive.Directive.TheVariants as d
use Rattle.pm_table.specs.declared.place.Place.{Place}
use Rattle.pm_table.specs.declared.place.Place.TheVariants.{Current as current}
use Rattle.pm_table.specs.Limits.{resting, work_at}
use Rattle.pm_table.specs.Works.{Named, at_rest}
use Rattle.pm_table.specs.Running.{Run, ran, stopped, after, act, act_with, each_alone, for_each, in_order}
use Rattle.pm_table.specs.Introductions.{is_empty}
use Rattle.pm_table.specs.Destructs.{name_held}
use Rattle.pm_table.specs.Basic.{on_goal, split, split_at, side, exists, exfalso, exact, assumption, done, rename, revert, revert_var}
use Rattle.pm_table.specs.Patterns.{destruct_all, intro_each, clear_all_selected, fact_names, int_names, spat_names}
use Rattle.pm_table.specs.Terms.{take, lend, lemma, lemma_named, with_term, with_spat, assert, apply, frame_named, frame_member}
use Rattle.pm_table.specs.Heap.{combine_held, write, allocate}
use Rattle.pm_table.specs.Loeb.{loeb, unfold_call, fold_call}
use Rattle.pm_table.specs.Modalities.{head_intro, next}
use Rattle.pm_table.specs.Rewriting.{rewrite, pure_intro, cases}
use Rattle.pm_table.specs.Linears.{linear, linear_with}

-- ---- proof terms

abbrev pub lemma_nodes : Option Formula → ℕ
lemma_nodes (Some f) = nodes_of f
lemma_nodes None = 0

-- a hypothesis is taken, or lent
abbrev pub head_run : Lemmas → (taken : Bool) → Head → List Place → Run
head_run lemmas true (head.Hyp h) ps = act (at_rest (take h)) ps
head_run lemmas false (head.Hyp h) ps = act (at_rest (lend h)) ps
head_run lemmas taken (head.Lemma n) ps = act_with (lemma_nodes (lemma_named n lemmas.list)) (at_rest (lemma lemmas n)) ps

-- the head, each term, each premise
abbrev pub term_run : Lemmas → (taken : Bool) → ProofTerm → List Place → Run
term_run lemmas taken t ps =
    after (head_run lemmas taken t.head ps) (λ qs.
    after (in_order (λ x. act_with (term_nodes x) (with_term x)) t.terms qs)
    (in_order (λ s. act (with_spat s)) t.spats))

abbrev pub is_bare : ProofTerm → Bool
is_bare t = is_empty t.terms && is_empty t.spats

abbrev pub head_name : Head → Named
head_name (head.Hyp h) = h
head_name (head.Lemma n) = n

-- ---- selections

abbrev pub frame_selected : Sel → List Place → Run
frame_selected (sel.Name h) ps = act (frame_named h) ps
frame_selected sel.Pures ps = each_alone (λ w. for_each frame_member (fact_names w.goal) w) ps
frame_selected sel.Ints ps = each_alone (λ w. for_each frame_member (int_names w.goal) w) ps
frame_selected sel.Spats ps = each_alone (λ w. for_each frame_member (spat_names w.goal) w) ps

-- where no list is given, all spatial hypotheses
abbrev pub sels_or_spats : Option (List Sel) → List Sel
sels_or_spats (Some sels) = sels
sels_or_spats None = sel.Spats ∷ []

-- the members of a group are reverted last first
abbrev pub revert_selected : Sel → List Place → Run
revert_selected (sel.Name h) ps = act (on_goal (revert h)) ps
revert_selected sel.Pures ps = each_alone (λ w. for_each (λ h. on_goal (revert h)) (reverse (fact_names w.goal)) w) ps
revert_selected sel.Ints ps = each_alone (λ w. for_each (λ h. on_goal (revert h)) (reverse (int_names w.goal)) w) ps
revert_selected sel.Spats ps = each_alone (λ w. for_each (λ h. on_goal (revert h)) (reverse (spat_names w.goal)) w) ps

-- hypotheses before variables, last first
abbrev pub revert_all : List Named → List Sel → List Place → Run
revert_all xs sels ps =
    after (in_order revert_selected (reverse sels) ps)
    (in_order (λ x. act (on_goal (revert_var x))) (reverse xs))

-- ---- directives

abbrev pub run : Preds → Lemmas → Directive → List Place → Run
run preds lemmas (d.Intros pats) ps = intro_each pats ps
run preds lemmas (d.Destruct t p) ps = after (term_run lemmas (is_bare t) t ps) (destruct_all p)
run preds lemmas (d.PoseProof t p) ps = after (term_run lemmas false t ps) (destruct_all p)
run preds lemmas (d.Specialize t) ps = after (term_run lemmas true t ps) (act (name_held (head_name t.head)))
run preds lemmas (d.Apply t) ps = after (term_run lemmas false t ps) (act apply)
run preds lemmas (d.Assert f s p) ps = after (act_with (nodes_of f) (at_rest (assert f s)) ps) (destruct_all p)
run preds lemmas d.Split ps = act (on_goal split) ps
run preds lemmas (d.SplitL list) ps = act (on_goal (split_at true list)) ps
run preds lemmas (d.SplitR list) ps = act (on_goal (split_at false list)) ps
run preds lemmas d.Left ps = act (on_goal (side true)) ps
run preds lemmas d.Right ps = act (on_goal (side false)) ps
run preds lemmas (d.Exists ts) ps = in_order (λ t. act_with (term_nodes t) (on_goal (exists t))) ts ps
run preds lemmas (d.Exact h) ps = act (on_goal (exact h)) ps
run preds lemmas d.Assumption ps = act (on_goal assumption) ps
run preds lemmas d.ExFalso ps = act (on_goal exfalso) ps
run preds lemmas d.Done ps = act (on_goal done) ps
run preds lemmas (d.Clear sels) ps = clear_all_selected sels ps
run preds lemmas (d.Rename h k) ps = act (on_goal (rename h k)) ps
run preds lemmas (d.Revert xs sels) ps = revert_all xs sels ps
run preds lemmas (d.Frame sels) ps = in_order frame_selected (sels_or_spats sels) ps
run preds lemmas d.ModIntro ps = act (on_goal head_intro) ps
run preds lemmas d.Next ps = act (on_goal next) ps
run preds lemmas (d.Mod t p) ps = after (term_run lemmas (is_bare t) t ps) (destruct_all (Elim p))
run preds lemmas (d.Loeb h) ps = act (on_goal (loeb h)) ps
run preds lemmas (d.Unfold h) ps = act (on_goal (unfold_call preds h)) ps
run preds lemmas (d.Fold f h) ps = act_with (nodes_of f) (on_goal (fold_call preds f h)) ps
run preds lemmas (d.Combine h k p) ps = after (act (on_goal (combine_held h k)) ps) (destruct_all p)
run preds lemmas (d.Write h t) ps = act_with (term_nodes t) (on_goal (write h t)) ps
run preds lemmas (d.Alloc t l p) ps = after (act_with (term_nodes t) (on_goal (allocate t l)) ps) (destruct_all p)
run preds lemmas d.PureIntro ps = act (on_goal pure_intro) ps
run preds lemmas (d.Rewrite back h target) ps = act (on_goal (rewrite back h target)) ps
run preds lemmas (d.Cases p h) ps = act_with (pure_nodes p) (on_goal (cases p h)) ps
run preds lemmas d.Linear ps = act (on_goal linear) ps
run preds lemmas (d.LinearWith certs) ps = act (on_goal (linear_with certs)) ps

-- ---- steps

-- the goals in a goal's place, or the refusal
pub data Stepped : Type 0 where
  goals : (goals : List Goal) → Stepped
  refused : (refusal : Refusal) → Stepped

-- the goal of a place, which has nothing in hand any more
abbrev pub goal_at : Place → Goal
goal_at p = (work_at p).goal

abbrev pub stepped : Run → Stepped
stepped (ran rules ps) = goals (map goal_at ps)
stepped (stopped r) = refused r

abbrev pub rules_of : Run → ℕ
rules_of (ran rules ps) = rules
rules_of (stopped r) = 0

-- the directive on the goal, which has nothing in hand
abbrev pub run_on : Preds → Lemmas → Goal → Directive → Run
run_on preds lemmas goal directive = run preds lemmas directive (current [] (resting goal) ∷ [])

abbrev pub step : Preds → Lemmas → Goal → Directive → Stepped
step preds lemmas goal directive = stepped (run_on preds lemmas goal directive)

-- so many rules the step takes at most: the sum over the actions, each with the work that it ran on
abbrev pub step_rules : Preds → Lemmas → Goal → Directive → ℕ
step_rules preds lemmas goal directive = rules_of (run_on preds lemmas goal directive)
