-- Steps keep goals scoped.
use Rattle.std.proofs.Common.{ℕ, ◌≤◌, true, List, [], ◌∷◌, length, arith}
use Rattle.pm_logic.specs.declared.formula.Term.{Term}
use Rattle.pm_logic.specs.declared.formula.Preds.{Preds}
use Rattle.pm_logic.specs.Scope.{TermScoped, TermsScoped, PureScoped, Scoped}
use Rattle.pm_goal.specs.declared.goal.Goal.{Goal}
use Rattle.pm_goal.specs.declared.work.Work.{Work}
use Rattle.pm_goal.specs.declared.work.Lemmas.{Lemmas}
use Rattle.pm_script.specs.declared.directive.Directive.{Directive}
use Rattle.pm_script.specs.declared.directive.Directive.TheVariants as d
use Rattle.pm_table.specs.Outcomes.{Outcome, Action, one}
use Rattle.pm_table.specs.declared.place.Place.TheVariants.{Current as current}
use Rattle.pm_table.specs.Limits.{resting}
use Rattle.pm_table.specs.Introductions.{intro_hyp, intro_all_fresh}
use Rattle.pm_table.specs.Destructs as destructs
use Rattle.pm_table.specs.Destructs.{name_held, name_fresh, drop_held, either, absurd_held, to_pure, to_pure_fresh, to_int, to_spat}
use Rattle.pm_table.specs.Basic.{on_goal, split, split_at, side, exists, exfalso, exact, assumption, done, try_done, clear, rename, revert, revert_var}
use Rattle.pm_table.specs.Modalities.{head_intro, next, elim_update}
use Rattle.pm_table.specs.Rewriting.{subst_held, rewrite, pure_intro, cases}
use Rattle.pm_table.specs.Heap.{combine_held, write, allocate}
use Rattle.pm_table.specs.Loeb.{loeb, unfold_call, fold_call}
use Rattle.pm_table.specs.Linears.{linear, linear_with}
use Rattle.pm_table.specs.Terms.{take, lend, lemma, with_term, with_spat, assert, apply, frame_held, frame_named, frame_member}
use Rattle.pm_table.specs.Patterns.{opening, intro_one}
use Rattle.pm_table.specs.Directives.{run_on}
use Rattle.pm_table.specs.Scopes.{IsGoalScoped, AreBodiesScoped, AreLemmasScoped, IsDirectiveScoped}
use Rattle.pm_table.specs.Stepping.{Each, StepsStayScoped}
use Rattle.pm_table.proofs.Keeping.{InOutcome, Good, rest_good}
use Rattle.pm_table.proofs.Outcomes.{good, opening_in}
use Rattle.pm_table.proofs.Acting.{Kept, ActionsKeep, Handed, run_in}
use Rattle.pm_table.proofs.Within.{stepped_in}
use Rattle.pm_table.proofs.Scoping.{Inside}
use Rattle.pm_table.proofs.ScopedHands as hands
use Rattle.pm_table.proofs.ScopedGoals as goals
use Rattle.pm_table.proofs.ScopedTerms as terms
use Rattle.pm_table.proofs.ScopedRules as rules

-- only the reverting of a variable leaves a goal with fewer: what is scoped in the variables of the first goal is scoped in those
-- of all works after it
abbrev pub scope : Preds → ℕ → Kept
scope preds n = record { holds = Inside preds n; term = TermScoped n; pure = PureScoped n; formula = Scoped preds n }

module _ (preds : Preds) (lemmas : Lemmas) (n : ℕ) (bodies : AreBodiesScoped preds) (given : AreLemmasScoped preds lemmas) where
  fine : (action : Action) → ((w : Work) → Inside preds n w → InOutcome (Inside preds n) (action w)) → Good (Inside preds n) action
  fine action keeps w h = good (Inside preds n) action keeps w h

  goal_fine : (action : Goal → Outcome) → ((w : Work) → Inside preds n w → InOutcome (Inside preds n) (action w.goal)) → Good (Inside preds n) (on_goal action)
  goal_fine action keeps w h = rest_good (Inside preds n) (λ v. action v.goal) (fine (λ v. action v.goal) keeps) (fine one (hands.stay_in preds n)) w h

  opening_fine : (action : Action) → ((w : Work) → Inside preds n w → InOutcome (Inside preds n) (action w)) → Good (Inside preds n) (opening (true ∷ []) action)
  opening_fine action keeps w h = good (Inside preds n) (opening (true ∷ []) action) (λ v i. opening_in (Inside preds n) (true ∷ []) (action v) (keeps v i)) w h

  pub actions : ActionsKeep (scope preds n) preds lemmas
  actions = record {
    stay = fine one (hands.stay_in preds n);
    intro_one = λ p. fine (intro_one p) (hands.intro_one_in preds n p);
    intro_hyp = fine intro_hyp (hands.intro_hyp_in preds n);
    intro_all_fresh = fine intro_all_fresh (hands.intro_all_fresh_in preds n);
    name_held = λ x. fine (name_held x) (hands.name_held_in preds n x);
    name_fresh = fine name_fresh (hands.name_fresh_in preds n);
    drop_held = fine drop_held (hands.drop_held_in preds n);
    frame_held = fine frame_held (terms.frame_held_in preds n);
    pair = λ p q. fine (destructs.pair p q) (hands.pair_in preds n p q);
    either = fine either (hands.either_in preds n);
    absurd_held = fine absurd_held (hands.absurd_held_in preds n);
    to_pure = λ x. fine (to_pure x) (hands.to_pure_in preds n x);
    to_pure_fresh = fine to_pure_fresh (hands.to_pure_fresh_in preds n);
    to_int = opening_fine to_int (hands.to_int_in preds n);
    to_spat = opening_fine to_spat (hands.to_spat_in preds n);
    elim_update = opening_fine elim_update (rules.elim_update_in preds n);
    subst_held = λ b. fine (subst_held b) (rules.subst_held_in preds n b);
    take = λ x. fine (take x) (hands.take_in preds n x);
    lend = λ x. fine (lend x) (hands.lend_in preds n x);
    lemma = λ x. fine (lemma lemmas x) (λ w h. terms.lemma_in preds n lemmas x w given h);
    with_term = λ t i. fine (with_term t) (λ w h. terms.with_term_in preds n t w i h);
    with_spat = λ s. fine (with_spat s) (terms.with_spat_in preds n s);
    assert = λ f s i. fine (assert f s) (λ w h. terms.assert_in preds n f s w i h);
    apply = fine apply (terms.apply_in preds n);
    frame_named = λ x. fine (frame_named x) (terms.frame_named_in preds n x);
    frame_member = λ x. fine (frame_member x) (terms.frame_member_in preds n x);
    split = goal_fine split (goals.split_in preds n);
    split_at = λ left list. goal_fine (split_at left list) (goals.split_at_in preds n left list);
    side = λ left. goal_fine (side left) (goals.side_in preds n left);
    exists = λ t i. goal_fine (exists t) (λ w h. goals.exists_in preds n t w i h);
    exfalso = goal_fine exfalso (goals.exfalso_in preds n);
    exact = λ x. goal_fine (exact x) (goals.exact_in preds n x);
    assumption = goal_fine assumption (goals.assumption_in preds n);
    done = goal_fine done (goals.done_in preds n);
    try_done = goal_fine try_done (goals.try_done_in preds n);
    clear = λ x. goal_fine (clear x) (goals.clear_in preds n x);
    rename = λ x y. goal_fine (rename x y) (goals.rename_in preds n x y);
    revert = λ x. goal_fine (revert x) (goals.revert_in preds n x);
    head_intro = goal_fine head_intro (rules.head_intro_in preds n);
    next = goal_fine next (rules.next_in preds n);
    combine_held = λ x y. goal_fine (combine_held x y) (rules.combine_held_in preds n x y);
    write = λ x t i. goal_fine (write x t) (λ w h. rules.write_in preds n x t w i h);
    allocate = λ t l i. goal_fine (allocate t l) (λ w h. rules.allocate_in preds n t l w i h);
    loeb = λ x. goal_fine (loeb x) (rules.loeb_in preds n x);
    unfold_call = λ x. goal_fine (unfold_call preds x) (λ w h. rules.unfold_call_in preds n x w bodies h);
    fold_call = λ f x i. goal_fine (fold_call preds f x) (λ w h. rules.fold_call_in preds n f x w i h);
    pure_intro = goal_fine pure_intro (rules.pure_intro_in preds n);
    rewrite = λ back x target. goal_fine (rewrite back x target) (rules.rewrite_in preds n back x target);
    cases = λ p x i. goal_fine (cases p x) (λ w h. rules.cases_in preds n p x w i h);
    linear = goal_fine linear (rules.linear_in preds n);
    linear_with = λ certs. goal_fine (linear_with certs) (rules.linear_with_in preds n certs);
  }

each_term : (k : ℕ) (ts : List Term) → TermsScoped k ts → Each (TermScoped k) ts
unfolding TermsScoped
each_term k [] h = tt
each_term k (t ∷ ts) h = (h.0, each_term k ts h.1)

revert_var_fine : (preds : Preds) (x : List ℕ) → Good (Inside preds 0) (on_goal (revert_var x))
revert_var_fine preds x w h = rest_good (Inside preds 0) (λ v. revert_var x v.goal) (λ v i. good (Inside preds 0) (λ u. revert_var x u.goal) (goals.revert_var_in preds x) v i) (λ v i. good (Inside preds 0) one (hands.stay_in preds 0) v i) w h

-- how many variables what the directive hands to its actions is scoped in: none, where variables are reverted
abbrev handed_in : Directive → ℕ → ℕ
handed_in (d.Revert xs sels) k = 0
handed_in _ k = k

no_more : (directive : Directive) (k : ℕ) → handed_in directive k ≤ k
no_more (d.Revert xs sels) k = omega arith
no_more _ k = omega arith

handed : (preds : Preds) (k : ℕ) (directive : Directive) → IsDirectiveScoped preds k directive → Handed (scope preds (handed_in directive k)) directive
unfolding Handed IsDirectiveScoped
handed preds k (d.Destruct t p) s = each_term k t.terms s
handed preds k (d.PoseProof t p) s = each_term k t.terms s
handed preds k (d.Specialize t) s = each_term k t.terms s
handed preds k (d.Apply t) s = each_term k t.terms s
handed preds k (d.Assert f q p) s = s
handed preds k (d.Exists ts) s = each_term k ts s
handed preds k (d.Revert xs sels) s = revert_var_fine preds
handed preds k (d.Mod t p) s = each_term k t.terms s
handed preds k (d.Fold f x) s = s
handed preds k (d.Write x t) s = s
handed preds k (d.Alloc t l p) s = s
handed preds k (d.Cases p x) s = s
handed preds k _ s = tt

pub steps_stay_scoped : StepsStayScoped
steps_stay_scoped preds lemmas goal directive bodies given h s =
    let k : ℕ = length goal.vars in
    let n : ℕ = handed_in directive k in
    let le : n ≤ k = no_more directive k in
    stepped_in (Inside preds n) (IsGoalScoped preds) (λ w i. i.scoped.goal) (run_on preds lemmas goal directive)
    (run_in (scope preds n) preds lemmas (actions preds lemmas n bodies given) directive (handed preds k directive s) (current [] (resting goal) ∷ []) (record { scoped = record { goal = h; held = tt }; least = le }, tt))
