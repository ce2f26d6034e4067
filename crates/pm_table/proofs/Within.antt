-- Steps stay within the limits.
use Rattle.std.proofs.Common.{◌≡◌, ℕ, ◌+◌, ◌≤◌, max, nat_lt, Bool, true, false, List, [], ◌∷◌, ◌++◌, map, length, refl, arith, Option, Some, None}
use Rattle.std.proofs.lemmas.Bool.Decides.{nat_tests}
use Rattle.pm_logic.specs.declared.limits.TheConstants.{MAX_HYPOTHESES, MAX_LEVELS, MAX_NODES, MAX_VARIABLES}
use Rattle.pm_logic.specs.declared.formula.Formula.{Formula}
use Rattle.pm_logic.specs.declared.formula.Preds.{Preds}
use Rattle.pm_goal.specs.declared.goal.Goal.{Goal}
use Rattle.pm_goal.specs.declared.work.Held.{Held}
use Rattle.pm_goal.specs.declared.work.Work.{Work}
use Rattle.pm_goal.specs.declared.work.Lemmas.{Lemmas}
use Rattle.pm_goal.specs.declared.refusal.Row.{Row}
use Rattle.pm_goal.specs.declared.refusal.Row.TheVariants.{TooManyVariables, TooManyHypotheses, TooManyNodes, TooDeep}
use Rattle.pm_script.specs.declared.directive.Directive.{Directive}
use Rattle.pm_script.specs.declared.directive.Directive.TheVariants as d
use Rattle.pm_table.specs.Outcomes.{Outcome, gives, refused, Action, joined, one}
use Rattle.pm_table.specs.declared.place.Place.{Place}
use Rattle.pm_table.specs.declared.place.Place.TheVariants.{Current as current}
use Rattle.pm_table.specs.Limits.{formulas, work_formulas, all_nodes, greatest_depth, hypotheses, row_where, limit_row, resting, work_at, kept_or, within_limits, all_within, limited}
use Rattle.pm_table.specs.Introductions.{intro_hyp, intro_all_fresh}
use Rattle.pm_table.specs.Destructs as destructs
use Rattle.pm_table.specs.Destructs.{name_held, name_fresh, drop_held, either, absurd_held, to_pure, to_pure_fresh, to_int, to_spat}
use Rattle.pm_table.specs.Basic.{on_goal, split, split_at, side, exists, exfalso, exact, assumption, done, try_done, clear, rename, revert, revert_var}
use Rattle.pm_table.specs.Modalities.{head_intro, next, elim_update}
use Rattle.pm_table.specs.Rewriting.{subst_held, rewrite, pure_intro, cases}
use Rattle.pm_table.specs.Heap.{combine_held, write, allocate}
use Rattle.pm_table.specs.Loeb.{loeb, unfold_call, fold_call}
use Rattle.pm_table.specs.Linears.{linear, linear_with}
use Rattle.pm_table.specs.Terms.{take, lend, lemma, with_term, with_spat, assert, apply, frame_held, frame_named, frame_member}
use Rattle.pm_table.specs.Patterns.{opening, intro_one}
use Rattle.pm_table.specs.Running.{Run, ran, stopped}
use Rattle.pm_table.specs.Directives.{goal_at, stepped, run_on, step}
use Rattle.pm_table.specs.Stepping.{Each, EachGoal, IsWithinLimits, StepsStayWithinLimits}
use Rattle.pm_table.proofs.Keeping.{Everywhere, InOutcome, InRun, Good, everywhere_append, anything}
use Rattle.pm_table.proofs.Acting.{Kept, ActionsKeep, Handed, run_in}

abbrev IsWithin : Work → Type 0
IsWithin w = limit_row w ≡ None

-- ---- what is tested is so

joined_in : (P : Work → Type 0) (o q : Outcome) → InOutcome P o → InOutcome P q → InOutcome P (joined o q)
joined_in P (gives ps) (gives qs) h g = everywhere_append P ps qs h g
joined_in P (gives ps) (refused r) h g = tt
joined_in P (refused r) q h g = tt

kept_within : (p : Place) (o : Option Row) → limit_row (work_at p) ≡ o → InOutcome IsWithin (kept_or p o)
kept_within p None e = (e, tt)
kept_within p (Some row) e = tt

all_are_within : (ps : List Place) → InOutcome IsWithin (all_within ps)
all_are_within [] = tt
all_are_within (p ∷ ps) = joined_in IsWithin (within_limits p) (all_within ps) (kept_within p (limit_row (work_at p)) refl) (all_are_within ps)

limited_within : (o : Outcome) → InOutcome IsWithin (limited o)
limited_within (gives ps) = all_are_within ps
limited_within (refused r) = tt

tested : (action : Action) → Good IsWithin action
tested action w h = limited_within (action w)

abbrev limits : Kept
limits = record { holds = IsWithin; term = λ t. Unit {0}; pure = λ p. Unit {0}; formula = λ f. Unit {0} }

-- ---- without what is in hand

row_none : (b : Bool) (r : Row) (o : Option Row) → row_where b r o ≡ None → (b ≡ false) × (o ≡ None)
row_none true r o e = absurd cc
row_none false r o e = (refl, e)

none_where : (b : Bool) (r : Row) (o : Option Row) → b ≡ false → o ≡ None → row_where b r o ≡ None
none_where true r o e f = absurd cc
none_where false r o e f = f

not_above : (b : Bool) (limit m n : ℕ) → nat_lt limit m ≡ b → m ≤ n → nat_lt limit n ≡ false → b ≡ false
not_above true limit m n e le f = grind (arith, nat_tests, e, le, f)
not_above false limit m n e le f = refl

-- a smaller number isn't above a limit, either
below : (limit m n : ℕ) → m ≤ n → nat_lt limit n ≡ false → nat_lt limit m ≡ false
below limit m n le e = not_above (nat_lt limit m) limit m n refl le e

nodes_append : (fs gs : List Formula) → all_nodes (fs ++ gs) ≡ all_nodes fs + all_nodes gs
nodes_append [] gs = omega arith
nodes_append (f ∷ fs) gs = let more = nodes_append fs gs in omega (arith, more)

depth_append : (fs gs : List Formula) → greatest_depth (fs ++ gs) ≡ max (greatest_depth fs) (greatest_depth gs)
depth_append [] gs = omega arith
depth_append (f ∷ fs) gs = let more = depth_append fs gs in omega (arith, more)

fewer_nodes : (fs gs : List Formula) → all_nodes (fs ++ []) ≤ all_nodes (fs ++ gs)
fewer_nodes fs gs = let none = nodes_append fs [] in let some = nodes_append fs gs in omega (arith, none, some)

less_deep : (fs gs : List Formula) → greatest_depth (fs ++ []) ≤ greatest_depth (fs ++ gs)
less_deep fs gs = let none = depth_append fs [] in let some = depth_append fs gs in omega (arith, none, some)

fewer_hypotheses : (w : Work) → hypotheses (resting w.goal) ≤ hypotheses w
fewer_hypotheses w = omega arith

resting_within : (w : Work) → IsWithin w → IsWithinLimits w.goal
resting_within w h =
    let held : List Formula = map (λ (h : Held). h.formula) w.held in
    let deep : Option Row = row_where (nat_lt MAX_LEVELS (greatest_depth (work_formulas w))) TooDeep None in
    let large : Option Row = row_where (nat_lt MAX_NODES (all_nodes (work_formulas w))) TooManyNodes deep in
    let many : Option Row = row_where (nat_lt MAX_HYPOTHESES (hypotheses w)) TooManyHypotheses large in
    let vars = row_none (nat_lt MAX_VARIABLES (length w.goal.vars)) TooManyVariables many h in
    let hyps = row_none (nat_lt MAX_HYPOTHESES (hypotheses w)) TooManyHypotheses large vars.1 in
    let nodes = row_none (nat_lt MAX_NODES (all_nodes (work_formulas w))) TooManyNodes deep hyps.1 in
    let levels = row_none (nat_lt MAX_LEVELS (greatest_depth (work_formulas w))) TooDeep None nodes.1 in
    let rest : Work = resting w.goal in
    none_where (nat_lt MAX_VARIABLES (length rest.goal.vars)) TooManyVariables _ vars.0
    (none_where (nat_lt MAX_HYPOTHESES (hypotheses rest)) TooManyHypotheses _ (below MAX_HYPOTHESES (hypotheses rest) (hypotheses w) (fewer_hypotheses w) hyps.0)
    (none_where (nat_lt MAX_NODES (all_nodes (work_formulas rest))) TooManyNodes _ (below MAX_NODES (all_nodes (work_formulas rest)) (all_nodes (work_formulas w)) (fewer_nodes (formulas w.goal) held) nodes.0)
    (none_where (nat_lt MAX_LEVELS (greatest_depth (work_formulas rest))) TooDeep None (below MAX_LEVELS (greatest_depth (work_formulas rest)) (greatest_depth (work_formulas w)) (less_deep (formulas w.goal) held) levels.0) refl)))

-- ---- goals

pub goals_in : (P : Work → Type 0) (Q : Goal → Type 0) → ((w : Work) → P w → Q w.goal) → (ps : List Place) → Everywhere P ps → Each Q (map goal_at ps)
goals_in P Q given [] h = tt
goals_in P Q given (p ∷ ps) h = (given (work_at p) h.0, goals_in P Q given ps h.1)

pub stepped_in : (P : Work → Type 0) (Q : Goal → Type 0) → ((w : Work) → P w → Q w.goal) → (r : Run) → InRun P r → EachGoal Q (stepped r)
stepped_in P Q given (ran n ps) h = goals_in P Q given ps h
stepped_in P Q given (stopped r) h = tt

module _ (preds : Preds) (lemmas : Lemmas) where
  actions : ActionsKeep limits preds lemmas
  actions = record {
    stay = tested one;
    intro_one = λ p. tested (intro_one p);
    intro_hyp = tested intro_hyp;
    intro_all_fresh = tested intro_all_fresh;
    name_held = λ h. tested (name_held h);
    name_fresh = tested name_fresh;
    drop_held = tested drop_held;
    frame_held = tested frame_held;
    pair = λ p q. tested (destructs.pair p q);
    either = tested either;
    absurd_held = tested absurd_held;
    to_pure = λ h. tested (to_pure h);
    to_pure_fresh = tested to_pure_fresh;
    to_int = tested (opening (true ∷ []) to_int);
    to_spat = tested (opening (true ∷ []) to_spat);
    elim_update = tested (opening (true ∷ []) elim_update);
    subst_held = λ b. tested (subst_held b);
    take = λ h. tested (take h);
    lend = λ h. tested (lend h);
    lemma = λ n. tested (lemma lemmas n);
    with_term = λ t i. tested (with_term t);
    with_spat = λ s. tested (with_spat s);
    assert = λ f s i. tested (assert f s);
    apply = tested apply;
    frame_named = λ h. tested (frame_named h);
    frame_member = λ h. tested (frame_member h);
    split = tested (on_goal split);
    split_at = λ left list. tested (on_goal (split_at left list));
    side = λ left. tested (on_goal (side left));
    exists = λ t i. tested (on_goal (exists t));
    exfalso = tested (on_goal exfalso);
    exact = λ h. tested (on_goal (exact h));
    assumption = tested (on_goal assumption);
    done = tested (on_goal done);
    try_done = tested (on_goal try_done);
    clear = λ h. tested (on_goal (clear h));
    rename = λ h i. tested (on_goal (rename h i));
    revert = λ h. tested (on_goal (revert h));
    head_intro = tested (on_goal head_intro);
    next = tested (on_goal next);
    combine_held = λ h i. tested (on_goal (combine_held h i));
    write = λ h t i. tested (on_goal (write h t));
    allocate = λ t l i. tested (on_goal (allocate t l));
    loeb = λ h. tested (on_goal (loeb h));
    unfold_call = λ h. tested (on_goal (unfold_call preds h));
    fold_call = λ f h i. tested (on_goal (fold_call preds f h));
    pure_intro = tested (on_goal pure_intro);
    rewrite = λ back h target. tested (on_goal (rewrite back h target));
    cases = λ p h i. tested (on_goal (cases p h));
    linear = tested (on_goal linear);
    linear_with = λ certs. tested (on_goal (linear_with certs));
  }

  handed : (directive : Directive) → Handed limits directive
  unfolding Handed
  handed (d.Destruct t p) = anything t.terms
  handed (d.PoseProof t p) = anything t.terms
  handed (d.Specialize t) = anything t.terms
  handed (d.Apply t) = anything t.terms
  handed (d.Exists ts) = anything ts
  handed (d.Revert xs sels) = λ x. tested (on_goal (revert_var x))
  handed (d.Mod t p) = anything t.terms
  handed _ = tt

  pub within : (goal : Goal) (directive : Directive) → IsWithinLimits goal → EachGoal IsWithinLimits (step preds lemmas goal directive)
  within goal directive h = stepped_in IsWithin IsWithinLimits resting_within (run_on preds lemmas goal directive) (run_in limits preds lemmas actions directive (handed directive) (current [] (resting goal) ∷ []) (h, tt))

pub steps_stay_within_limits : StepsStayWithinLimits
steps_stay_within_limits preds lemmas goal directive h = within preds lemmas goal directive h
