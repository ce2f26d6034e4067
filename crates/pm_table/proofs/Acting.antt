-- What all actions keep, every directive keeps.
use Rattle.std.proofs.Common.{ℕ, Bool, true, false, cond, ◌||◌, List, [], ◌∷◌, map, reverse, Option}
use Rattle.pm_logic.specs.declared.formula.Term.{Term}
use Rattle.pm_logic.specs.declared.formula.Pure as P
use Rattle.pm_logic.specs.declared.formula.Formula.{Formula}
use Rattle.pm_logic.specs.declared.formula.Formula.TheVariants.{Pure as Assert, Pts, Call}
use Rattle.pm_logic.specs.declared.formula.Preds.{Preds}
use Rattle.pm_logic.specs.Trees.{Sep, Wand, And, Or, Imp, All, Ex, Later, Pers, Upd}
use Rattle.pm_logic.specs.Size.{term_nodes, pure_nodes, nodes_of}
use Rattle.pm_goal.specs.declared.work.Work.{Work}
use Rattle.pm_goal.specs.declared.work.Lemmas.{Lemmas}
use Rattle.pm_goal.specs.declared.refusal.Row.TheVariants.{NoHypothesisToIntroduce, NoVariableToIntroduce}
use Rattle.pm_patterns.specs.declared.pattern.Sel.{Sel}
use Rattle.pm_patterns.specs.declared.pattern.Sel.TheVariants as sel
use Rattle.pm_patterns.specs.declared.pattern.Spat.{Spat}
use Rattle.pm_patterns.specs.declared.pattern.Head.{Head}
use Rattle.pm_patterns.specs.declared.pattern.Head.TheVariants as head
use Rattle.pm_patterns.specs.declared.pattern.ProofTerm.{ProofTerm}
use Rattle.pm_patterns.specs.declared.pattern.Cert.{Cert}
use Rattle.pm_patterns.specs.declared.pattern.Pat.{Pat}
use Rattle.pm_patterns.specs.declared.pattern.Pat.TheVariants as pat
use Rattle.pm_patterns.specs.Patterns as pair
use Rattle.pm_script.specs.declared.directive.Directive.{Directive}
use Rattle.pm_script.specs.declared.directive.Directive.TheVariants as d
use Rattle.pm_table.specs.Outcomes.{Action, one}
use Rattle.pm_table.specs.Works.{Named, at_rest}
use Rattle.pm_table.specs.Running.{Run, after, once, in_turn, with_turn, act, act_with, each_alone, for_each, in_order}
use Rattle.pm_classes.specs.Persistence.{is_persistent}
use Rattle.pm_goal.specs.declared.refusal.Row.{Row}
use Rattle.pm_table.specs.Introductions.{is_empty, intro_hyp, intro_all_fresh}
use Rattle.pm_table.specs.Destructs as destructs
use Rattle.pm_table.specs.Destructs.{name_held, name_fresh, drop_held, either, absurd_held, to_pure, to_pure_fresh, to_int, to_spat}
use Rattle.pm_table.specs.Basic.{on_goal, split, split_at, side, exists, exfalso, exact, assumption, done, try_done, clear, rename, revert, revert_var}
use Rattle.pm_table.specs.Modalities.{head_intro, next, elim_update}
use Rattle.pm_table.specs.Rewriting.{subst_held, rewrite, pure_intro, cases}
use Rattle.pm_table.specs.Heap.{combine_held, write, allocate}
use Rattle.pm_table.specs.Loeb.{loeb, unfold_call, fold_call}
use Rattle.pm_table.specs.Linears.{linear, linear_with}
use Rattle.pm_table.specs.Terms.{take, lend, lemma, lemma_named, with_term, with_spat, assert, apply, frame_held, frame_named, frame_member}
use Rattle.pm_table.specs.Patterns.{opening, turn, destruct, destruct_all, fact_names, int_names, spat_names, clear_selected, clear_all_selected, run_actions, universals, intro_alls, left_side, premises, intro_premises, intro_one, intro_pattern, intro}
use Rattle.pm_table.specs.Directives.{lemma_nodes, head_run, term_run, is_bare, head_name, frame_selected, sels_or_spats, revert_selected, revert_all, run}
use Rattle.pm_table.specs.Stepping.{Each}
use Rattle.pm_table.proofs.Keeping.{InRun, Good, GoodRun, GoodPlaces, after_in, once_in, in_turn_in, on_all_in, act_in, act_with_in, each_alone_in, for_each_in, in_order_in, everywhere_with_turn, rest_good, anything}

-- what is kept, and what is known of terms, pure formulas and formulas that are handed to actions
pub record Kept : Type 1 where
  pub holds : Work → Type 0
  pub term : Term → Type 0
  pub pure : P.Pure → Type 0
  pub formula : Formula → Type 0

-- each action keeps it
pub record ActionsKeep (k : Kept) (preds : Preds) (lemmas : Lemmas) : Type 0 where
  pub stay : Good k.holds one
  pub intro_one : (p : Pat) → Good k.holds (intro_one p)
  pub intro_hyp : Good k.holds intro_hyp
  pub intro_all_fresh : Good k.holds intro_all_fresh
  pub name_held : (h : Named) → Good k.holds (name_held h)
  pub name_fresh : Good k.holds name_fresh
  pub drop_held : Good k.holds drop_held
  pub frame_held : Good k.holds frame_held
  pub pair : (p q : Pat) → Good k.holds (destructs.pair p q)
  pub either : Good k.holds either
  pub absurd_held : Good k.holds absurd_held
  pub to_pure : (h : Named) → Good k.holds (to_pure h)
  pub to_pure_fresh : Good k.holds to_pure_fresh
  pub to_int : Good k.holds (opening (true ∷ []) to_int)
  pub to_spat : Good k.holds (opening (true ∷ []) to_spat)
  pub elim_update : Good k.holds (opening (true ∷ []) elim_update)
  pub subst_held : (back : Bool) → Good k.holds (subst_held back)
  pub take : (h : Named) → Good k.holds (take h)
  pub lend : (h : Named) → Good k.holds (lend h)
  pub lemma : (n : Named) → Good k.holds (lemma lemmas n)
  pub with_term : (t : Term) → k.term t → Good k.holds (with_term t)
  pub with_spat : (s : Spat) → Good k.holds (with_spat s)
  pub assert : (f : Formula) (s : Spat) → k.formula f → Good k.holds (assert f s)
  pub apply : Good k.holds apply
  pub frame_named : (h : Named) → Good k.holds (frame_named h)
  pub frame_member : (h : Named) → Good k.holds (frame_member h)
  pub split : Good k.holds (on_goal split)
  pub split_at : (left : Bool) (list : Option (List Named)) → Good k.holds (on_goal (split_at left list))
  pub side : (left : Bool) → Good k.holds (on_goal (side left))
  pub exists : (t : Term) → k.term t → Good k.holds (on_goal (exists t))
  pub exfalso : Good k.holds (on_goal exfalso)
  pub exact : (h : Named) → Good k.holds (on_goal (exact h))
  pub assumption : Good k.holds (on_goal assumption)
  pub done : Good k.holds (on_goal done)
  pub try_done : Good k.holds (on_goal try_done)
  pub clear : (h : Named) → Good k.holds (on_goal (clear h))
  pub rename : (h i : Named) → Good k.holds (on_goal (rename h i))
  pub revert : (h : Named) → Good k.holds (on_goal (revert h))
  pub head_intro : Good k.holds (on_goal head_intro)
  pub next : Good k.holds (on_goal next)
  pub combine_held : (h i : Named) → Good k.holds (on_goal (combine_held h i))
  pub write : (h : Named) (t : Term) → k.term t → Good k.holds (on_goal (write h t))
  pub allocate : (t : Term) (l : Named) → k.term t → Good k.holds (on_goal (allocate t l))
  pub loeb : (h : Named) → Good k.holds (on_goal (loeb h))
  pub unfold_call : (h : Option Named) → Good k.holds (on_goal (unfold_call preds h))
  pub fold_call : (f : Formula) (h : Named) → k.formula f → Good k.holds (on_goal (fold_call preds f h))
  pub pure_intro : Good k.holds (on_goal pure_intro)
  pub rewrite : (back : Bool) (h : Named) (target : Option Named) → Good k.holds (on_goal (rewrite back h target))
  pub cases : (p : P.Pure) (h : Named) → k.pure p → Good k.holds (on_goal (cases p h))
  pub linear : Good k.holds (on_goal linear)
  pub linear_with : (certs : List Cert) → Good k.holds (on_goal (linear_with certs))

-- what is known of what a directive hands to its actions; of one that reverts variables, that this keeps it, too
unfoldable pub Handed : Kept → Directive → Type 0
Handed k (d.Destruct t p) = Each k.term t.terms
Handed k (d.PoseProof t p) = Each k.term t.terms
Handed k (d.Specialize t) = Each k.term t.terms
Handed k (d.Apply t) = Each k.term t.terms
Handed k (d.Assert f s p) = k.formula f
Handed k (d.Exists ts) = Each k.term ts
Handed k (d.Revert xs sels) = (x : Named) → Good k.holds (on_goal (revert_var x))
Handed k (d.Mod t p) = Each k.term t.terms
Handed k (d.Fold f h) = k.formula f
Handed k (d.Write h t) = k.term t
Handed k (d.Alloc t l p) = k.term t
Handed k (d.Cases p h) = k.pure p
Handed k _ = Unit {0}

module _ (k : Kept) (preds : Preds) (lemmas : Lemmas) (each : ActionsKeep k preds lemmas) where
  turn_in : (parts : ℕ) (action : Action) → Good k.holds action → GoodPlaces k.holds (turn parts action)
  turn_in parts action good ps h = on_all_in k.holds (in_turn parts (once 0 action)) (in_turn_in k.holds parts (once 0 action) (once_in k.holds 0 action good)) ps h

  pub destruct_in : (p : Pat) → GoodPlaces k.holds (destruct p)
  unfolding destruct
  destruct_in (pat.Name h) ps g = turn_in 0 (name_held h) (each.name_held h) ps g
  destruct_in pat.Fresh ps g = turn_in 0 name_fresh each.name_fresh ps g
  destruct_in pat.Drop ps g = turn_in 0 drop_held each.drop_held ps g
  destruct_in pat.Frame ps g = turn_in 0 frame_held each.frame_held ps g
  destruct_in (pair.Pair p q) ps g = after_in k.holds (turn 2 (destructs.pair p q) ps) (λ qs. after (destruct p qs) (destruct q)) (turn_in 2 (destructs.pair p q) (each.pair p q) ps g) (λ qs i. after_in k.holds (destruct p qs) (destruct q) (destruct_in p qs i) (destruct_in q))
  destruct_in (pair.Either p q) ps g = after_in k.holds (turn 2 either ps) (λ qs. after (destruct p qs) (destruct q)) (turn_in 2 either each.either ps g) (λ qs i. after_in k.holds (destruct p qs) (destruct q) (destruct_in p qs i) (destruct_in q))
  destruct_in pat.Absurd ps g = turn_in 0 absurd_held each.absurd_held ps g
  destruct_in (pat.PureName h) ps g = turn_in 0 (to_pure h) (each.to_pure h) ps g
  destruct_in pat.PureFresh ps g = turn_in 0 to_pure_fresh each.to_pure_fresh ps g
  destruct_in (pair.Int p) ps g = after_in k.holds (turn 1 (opening (true ∷ []) to_int) ps) (destruct p) (turn_in 1 (opening (true ∷ []) to_int) each.to_int ps g) (destruct_in p)
  destruct_in (pair.Spat p) ps g = after_in k.holds (turn 1 (opening (true ∷ []) to_spat) ps) (destruct p) (turn_in 1 (opening (true ∷ []) to_spat) each.to_spat ps g) (destruct_in p)
  destruct_in (pair.Elim p) ps g = after_in k.holds (turn 1 (opening (true ∷ []) elim_update) ps) (destruct p) (turn_in 1 (opening (true ∷ []) elim_update) each.elim_update ps g) (destruct_in p)
  destruct_in pat.Rewrite ps g = turn_in 0 (subst_held false) (each.subst_held false) ps g
  destruct_in pat.RewriteBack ps g = turn_in 0 (subst_held true) (each.subst_held true) ps g
  destruct_in pat.ModIntro ps g = turn_in 0 one each.stay ps g
  destruct_in pat.Done ps g = turn_in 0 one each.stay ps g
  destruct_in pat.Alls ps g = turn_in 0 one each.stay ps g
  destruct_in pat.AllsWands ps g = turn_in 0 one each.stay ps g
  destruct_in (pat.Clear sels) ps g = turn_in 0 one each.stay ps g

  destruct_all_in : (p : Pat) → GoodPlaces k.holds (destruct_all p)
  destruct_all_in p ps g = destruct_in p (map with_turn ps) (everywhere_with_turn k.holds ps g)

  -- an action for each of the names that a work has when its turn comes
  group_in : (action : Named → Action) (names : Work → List Named) → ((h : Named) → Good k.holds (action h)) → GoodPlaces k.holds (each_alone (λ w. for_each action (names w) w))
  group_in action names good ps g = each_alone_in k.holds (λ w. for_each action (names w) w) (λ w i. for_each_in k.holds (λ x. Unit {0}) action (λ x j. good x) (names w) (anything (names w)) w i) ps g

  clear_selected_in : (s : Sel) → GoodPlaces k.holds (clear_selected s)
  clear_selected_in (sel.Name h) ps g = act_in k.holds (on_goal (clear h)) (each.clear h) ps g
  clear_selected_in sel.Pures ps g = group_in (λ h. on_goal (clear h)) (λ w. fact_names w.goal) each.clear ps g
  clear_selected_in sel.Ints ps g = group_in (λ h. on_goal (clear h)) (λ w. int_names w.goal) each.clear ps g
  clear_selected_in sel.Spats ps g = group_in (λ h. on_goal (clear h)) (λ w. spat_names w.goal) each.clear ps g

  clear_all_selected_in : (sels : List Sel) → GoodPlaces k.holds (clear_all_selected sels)
  clear_all_selected_in sels ps g = in_order_in k.holds (λ s. Unit {0}) clear_selected (λ s i. clear_selected_in s) sels (anything sels) ps g

  rested : (action : Action) → Good k.holds action → Good k.holds (at_rest action)
  rested action good = rest_good k.holds action good each.stay

  abbrev Keeping : Action → Type 0
  Keeping action = Good k.holds action

  run_actions_in : (row : Row) (actions : List Action) → Each Keeping actions → GoodRun k.holds (run_actions row actions)
  run_actions_in row [] good w h = tt
  run_actions_in row (a ∷ more) good w h = for_each_in k.holds Keeping (λ x. x) (λ x i. i) (a ∷ more) good w h

  universals_in : (f : Formula) → Each Keeping (universals f)
  universals_in (All b) = (rested intro_all_fresh each.intro_all_fresh, universals_in b)
  universals_in (Assert p) = tt
  universals_in (Sep a b) = tt
  universals_in (Wand a b) = tt
  universals_in (And a b) = tt
  universals_in (Or a b) = tt
  universals_in (Imp a b) = tt
  universals_in (Ex a) = tt
  universals_in (Later a) = tt
  universals_in (Pers a) = tt
  universals_in (Upd a) = tt
  universals_in (Pts l u v) = tt
  universals_in (Call q args) = tt

  intro_alls_in : GoodRun k.holds intro_alls
  intro_alls_in w h = run_actions_in NoVariableToIntroduce (universals w.goal.concl) (universals_in w.goal.concl) w h

  left_side_in : (follows : List Action) → Each Keeping follows → Each Keeping (left_side follows)
  left_side_in follows good = (rested intro_hyp each.intro_hyp, (each.name_fresh, good))

  where_true : (b : Bool) (actions : List Action) → Each Keeping actions → Each Keeping (cond b actions [])
  where_true true actions good = good
  where_true false actions good = tt

  premises_in : (none : Bool) (f : Formula) → Each Keeping (premises none f)
  premises_in none (All b) = (rested intro_all_fresh each.intro_all_fresh, premises_in none b)
  premises_in none (Wand a b) = left_side_in (premises false b) (premises_in false b)
  premises_in none (Imp a b) = where_true (none || is_persistent a) (left_side (premises false b)) (left_side_in (premises false b) (premises_in false b))
  premises_in none (Assert p) = tt
  premises_in none (Sep a b) = tt
  premises_in none (And a b) = tt
  premises_in none (Or a b) = tt
  premises_in none (Ex a) = tt
  premises_in none (Later a) = tt
  premises_in none (Pers a) = tt
  premises_in none (Upd a) = tt
  premises_in none (Pts l u v) = tt
  premises_in none (Call q args) = tt

  intro_premises_in : GoodRun k.holds intro_premises
  intro_premises_in w h = run_actions_in NoHypothesisToIntroduce (premises (is_empty w.goal.spats) w.goal.concl) (premises_in (is_empty w.goal.spats) w.goal.concl) w h

  intro_pattern_in : (p : Pat) → GoodPlaces k.holds (intro_pattern p)
  intro_pattern_in p ps g = after_in k.holds (act (at_rest (intro_one p)) ps) (destruct p) (act_in k.holds (at_rest (intro_one p)) (rested (intro_one p) (each.intro_one p)) ps g) (destruct_in p)

  intro_in : (p : Pat) → GoodPlaces k.holds (intro p)
  unfolding intro
  intro_in pat.ModIntro ps g = act_in k.holds (on_goal head_intro) each.head_intro ps g
  intro_in pat.Done ps g = act_in k.holds (on_goal try_done) each.try_done ps g
  intro_in pat.Alls ps g = each_alone_in k.holds intro_alls intro_alls_in ps g
  intro_in pat.AllsWands ps g = each_alone_in k.holds intro_premises intro_premises_in ps g
  intro_in (pat.Clear sels) ps g = clear_all_selected_in sels ps g
  intro_in (pat.Name h) ps g = intro_pattern_in (pat.Name h) ps g
  intro_in pat.Fresh ps g = intro_pattern_in pat.Fresh ps g
  intro_in pat.Drop ps g = intro_pattern_in pat.Drop ps g
  intro_in pat.Frame ps g = intro_pattern_in pat.Frame ps g
  intro_in (pair.Pair p q) ps g = intro_pattern_in (pair.Pair p q) ps g
  intro_in (pair.Either p q) ps g = intro_pattern_in (pair.Either p q) ps g
  intro_in pat.Absurd ps g = intro_pattern_in pat.Absurd ps g
  intro_in (pat.PureName h) ps g = intro_pattern_in (pat.PureName h) ps g
  intro_in pat.PureFresh ps g = intro_pattern_in pat.PureFresh ps g
  intro_in (pair.Int p) ps g = intro_pattern_in (pair.Int p) ps g
  intro_in (pair.Spat p) ps g = intro_pattern_in (pair.Spat p) ps g
  intro_in (pair.Elim p) ps g = intro_pattern_in (pair.Elim p) ps g
  intro_in pat.Rewrite ps g = intro_pattern_in pat.Rewrite ps g
  intro_in pat.RewriteBack ps g = intro_pattern_in pat.RewriteBack ps g

  head_run_in : (taken : Bool) (h : Head) → GoodPlaces k.holds (head_run lemmas taken h)
  head_run_in true (head.Hyp h) ps g = act_in k.holds (at_rest (take h)) (rested (take h) (each.take h)) ps g
  head_run_in false (head.Hyp h) ps g = act_in k.holds (at_rest (lend h)) (rested (lend h) (each.lend h)) ps g
  head_run_in true (head.Lemma n) ps g = act_with_in k.holds (lemma_nodes (lemma_named n lemmas.list)) (at_rest (lemma lemmas n)) (rested (lemma lemmas n) (each.lemma n)) ps g
  head_run_in false (head.Lemma n) ps g = act_with_in k.holds (lemma_nodes (lemma_named n lemmas.list)) (at_rest (lemma lemmas n)) (rested (lemma lemmas n) (each.lemma n)) ps g

  terms_in : (ts : List Term) → Each k.term ts → GoodPlaces k.holds (in_order (λ t. act_with (term_nodes t) (with_term t)) ts)
  terms_in ts given = in_order_in k.holds k.term (λ t. act_with (term_nodes t) (with_term t)) (λ t i. act_with_in k.holds (term_nodes t) (with_term t) (each.with_term t i)) ts given

  spats_in : (ss : List Spat) → GoodPlaces k.holds (in_order (λ s. act (with_spat s)) ss)
  spats_in ss = in_order_in k.holds (λ s. Unit {0}) (λ s. act (with_spat s)) (λ s i. act_in k.holds (with_spat s) (each.with_spat s)) ss (anything ss)

  term_run_in : (taken : Bool) (t : ProofTerm) → Each k.term t.terms → GoodPlaces k.holds (term_run lemmas taken t)
  term_run_in taken t given ps g =
      after_in k.holds (head_run lemmas taken t.head ps) (λ qs. after (in_order (λ x. act_with (term_nodes x) (with_term x)) t.terms qs) (in_order (λ s. act (with_spat s)) t.spats)) (head_run_in taken t.head ps g)
      (λ qs i. after_in k.holds (in_order (λ x. act_with (term_nodes x) (with_term x)) t.terms qs) (in_order (λ s. act (with_spat s)) t.spats) (terms_in t.terms given qs i) (spats_in t.spats))

  frame_selected_in : (s : Sel) → GoodPlaces k.holds (frame_selected s)
  frame_selected_in (sel.Name h) ps g = act_in k.holds (frame_named h) (each.frame_named h) ps g
  frame_selected_in sel.Pures ps g = group_in frame_member (λ w. fact_names w.goal) each.frame_member ps g
  frame_selected_in sel.Ints ps g = group_in frame_member (λ w. int_names w.goal) each.frame_member ps g
  frame_selected_in sel.Spats ps g = group_in frame_member (λ w. spat_names w.goal) each.frame_member ps g

  revert_selected_in : (s : Sel) → GoodPlaces k.holds (revert_selected s)
  revert_selected_in (sel.Name h) ps g = act_in k.holds (on_goal (revert h)) (each.revert h) ps g
  revert_selected_in sel.Pures ps g = group_in (λ h. on_goal (revert h)) (λ w. reverse (fact_names w.goal)) each.revert ps g
  revert_selected_in sel.Ints ps g = group_in (λ h. on_goal (revert h)) (λ w. reverse (int_names w.goal)) each.revert ps g
  revert_selected_in sel.Spats ps g = group_in (λ h. on_goal (revert h)) (λ w. reverse (spat_names w.goal)) each.revert ps g

  revert_all_in : (xs : List Named) (sels : List Sel) → ((x : Named) → Good k.holds (on_goal (revert_var x))) → GoodPlaces k.holds (revert_all xs sels)
  revert_all_in xs sels vars ps g = after_in k.holds (in_order revert_selected (reverse sels) ps) (in_order (λ x. act (on_goal (revert_var x))) (reverse xs))
      (in_order_in k.holds (λ s. Unit {0}) revert_selected (λ s i. revert_selected_in s) (reverse sels) (anything (reverse sels)) ps g)
      (in_order_in k.holds (λ x. Unit {0}) (λ x. act (on_goal (revert_var x))) (λ x i. act_in k.holds (on_goal (revert_var x)) (vars x)) (reverse xs) (anything (reverse xs)))

  then_destruct : (r : Run) (p : Pat) → InRun k.holds r → InRun k.holds (after r (destruct_all p))
  then_destruct r p h = after_in k.holds r (destruct_all p) h (destruct_all_in p)

  pub run_in : (directive : Directive) → Handed k directive → GoodPlaces k.holds (run preds lemmas directive)
  unfolding Handed
  run_in (d.Intros pats) given ps g = in_order_in k.holds (λ p. Unit {0}) intro (λ p i. intro_in p) pats (anything pats) ps g
  run_in (d.Destruct t p) given ps g = then_destruct (term_run lemmas (is_bare t) t ps) p (term_run_in (is_bare t) t given ps g)
  run_in (d.PoseProof t p) given ps g = then_destruct (term_run lemmas false t ps) p (term_run_in false t given ps g)
  run_in (d.Specialize t) given ps g = after_in k.holds (term_run lemmas true t ps) (act (name_held (head_name t.head))) (term_run_in true t given ps g) (act_in k.holds (name_held (head_name t.head)) (each.name_held (head_name t.head)))
  run_in (d.Apply t) given ps g = after_in k.holds (term_run lemmas false t ps) (act apply) (term_run_in false t given ps g) (act_in k.holds apply each.apply)
  run_in (d.Assert f s p) given ps g = then_destruct (act_with (nodes_of f) (at_rest (assert f s)) ps) p (act_with_in k.holds (nodes_of f) (at_rest (assert f s)) (rested (assert f s) (each.assert f s given)) ps g)
  run_in d.Split given ps g = act_in k.holds (on_goal split) each.split ps g
  run_in (d.SplitL list) given ps g = act_in k.holds (on_goal (split_at true list)) (each.split_at true list) ps g
  run_in (d.SplitR list) given ps g = act_in k.holds (on_goal (split_at false list)) (each.split_at false list) ps g
  run_in d.Left given ps g = act_in k.holds (on_goal (side true)) (each.side true) ps g
  run_in d.Right given ps g = act_in k.holds (on_goal (side false)) (each.side false) ps g
  run_in (d.Exists ts) given ps g = in_order_in k.holds k.term (λ t. act_with (term_nodes t) (on_goal (exists t))) (λ t i. act_with_in k.holds (term_nodes t) (on_goal (exists t)) (each.exists t i)) ts given ps g
  run_in (d.Exact h) given ps g = act_in k.holds (on_goal (exact h)) (each.exact h) ps g
  run_in d.Assumption given ps g = act_in k.holds (on_goal assumption) each.assumption ps g
  run_in d.ExFalso given ps g = act_in k.holds (on_goal exfalso) each.exfalso ps g
  run_in d.Done given ps g = act_in k.holds (on_goal done) each.done ps g
  run_in (d.Clear sels) given ps g = clear_all_selected_in sels ps g
  run_in (d.Rename h i) given ps g = act_in k.holds (on_goal (rename h i)) (each.rename h i) ps g
  run_in (d.Revert xs sels) given ps g = revert_all_in xs sels given ps g
  run_in (d.Frame sels) given ps g = in_order_in k.holds (λ s. Unit {0}) frame_selected (λ s i. frame_selected_in s) (sels_or_spats sels) (anything (sels_or_spats sels)) ps g
  run_in d.ModIntro given ps g = act_in k.holds (on_goal head_intro) each.head_intro ps g
  run_in d.Next given ps g = act_in k.holds (on_goal next) each.next ps g
  run_in (d.Mod t p) given ps g = then_destruct (term_run lemmas (is_bare t) t ps) (pair.Elim p) (term_run_in (is_bare t) t given ps g)
  run_in (d.Loeb h) given ps g = act_in k.holds (on_goal (loeb h)) (each.loeb h) ps g
  run_in (d.Unfold h) given ps g = act_in k.holds (on_goal (unfold_call preds h)) (each.unfold_call h) ps g
  run_in (d.Fold f h) given ps g = act_with_in k.holds (nodes_of f) (on_goal (fold_call preds f h)) (each.fold_call f h given) ps g
  run_in (d.Combine h i p) given ps g = then_destruct (act (on_goal (combine_held h i)) ps) p (act_in k.holds (on_goal (combine_held h i)) (each.combine_held h i) ps g)
  run_in (d.Write h t) given ps g = act_with_in k.holds (term_nodes t) (on_goal (write h t)) (each.write h t given) ps g
  run_in (d.Alloc t l p) given ps g = then_destruct (act_with (term_nodes t) (on_goal (allocate t l)) ps) p (act_with_in k.holds (term_nodes t) (on_goal (allocate t l)) (each.allocate t l given) ps g)
  run_in d.PureIntro given ps g = act_in k.holds (on_goal pure_intro) each.pure_intro ps g
  run_in (d.Rewrite back h target) given ps g = act_in k.holds (on_goal (rewrite back h target)) (each.rewrite back h target) ps g
  run_in (d.Cases p h) given ps g = act_with_in k.holds (pure_nodes p) (on_goal (cases p h)) (each.cases p h given) ps g
  run_in d.Linear given ps g = act_in k.holds (on_goal linear) each.linear ps g
  run_in (d.LinearWith certs) given ps g = act_in k.holds (on_goal (linear_with certs)) (each.linear_with certs) ps g
