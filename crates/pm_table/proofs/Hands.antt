-- Nothing stays in hand.
use Rattle.std.proofs.Common.{◌≡◌, ℕ, suc, ◌+◌, Bool, true, false, cond, ◌&&◌, ◌||◌, length, length-append, List, [], ◌∷◌, map, replicate, reverse, refl, ap, arith}
use Rattle.std.proofs.lemmas.List.{length-replicate}
use Rattle.std.specs.List.{list_all}
use Rattle.pm_logic.specs.declared.formula.Term.{Term}
use Rattle.pm_logic.specs.declared.formula.Formula.{Formula}
use Rattle.pm_logic.specs.declared.formula.Preds.{Preds}
use Rattle.pm_logic.specs.Trees.{Wand, Imp, All}
use Rattle.pm_logic.specs.Size.{term_nodes, pure_nodes, nodes_of}
use Rattle.pm_goal.specs.declared.goal.Goal.{Goal}
use Rattle.pm_goal.specs.declared.work.Work.{Work}
use Rattle.pm_goal.specs.declared.work.Lemmas.{Lemmas}
use Rattle.pm_goal.specs.declared.refusal.Row.{Row}
use Rattle.pm_goal.specs.declared.refusal.Row.TheVariants.{NoHypothesisToIntroduce, NoVariableToIntroduce}
use Rattle.pm_patterns.specs.declared.pattern.Sel.{Sel}
use Rattle.pm_patterns.specs.declared.pattern.Sel.TheVariants as sel
use Rattle.pm_patterns.specs.declared.pattern.Spat.{Spat}
use Rattle.pm_patterns.specs.declared.pattern.Head.{Head}
use Rattle.pm_patterns.specs.declared.pattern.Head.TheVariants as head
use Rattle.pm_patterns.specs.declared.pattern.ProofTerm.{ProofTerm}
use Rattle.pm_patterns.specs.declared.pattern.Pat.{Pat}
use Rattle.pm_patterns.specs.declared.pattern.Pat.TheVariants as pat
use Rattle.pm_patterns.specs.Patterns as pair
use Rattle.pm_script.specs.declared.directive.Directive.{Directive}
use Rattle.pm_script.specs.declared.directive.Directive.TheVariants as d
use Rattle.pm_classes.specs.Persistence.{is_persistent}
use Rattle.pm_table.specs.Outcomes.{Outcome, Action}
use Rattle.pm_table.specs.declared.place.Place.{Place}
use Rattle.pm_table.specs.declared.place.Place.TheVariants.{Finished as finished, Current as current}
use Rattle.pm_table.specs.Limits.{resting}
use Rattle.pm_table.specs.Works.{Named, at_rest}
use Rattle.pm_table.specs.Running.{Run, after, once, in_place, in_turn, with_turn, act, act_with, each_alone, for_each, in_order}
use Rattle.pm_table.specs.Introductions.{is_empty, intro_hyp, intro_all_fresh}
use Rattle.pm_table.specs.Destructs as destructs
use Rattle.pm_table.specs.Destructs.{name_held, name_fresh, drop_held, either, absurd_held, to_pure, to_pure_fresh, to_int, to_spat}
use Rattle.pm_table.specs.Basic.{on_goal, split, split_at, side, exists, exfalso, exact, assumption, done, try_done, clear, rename, revert, revert_var}
use Rattle.pm_table.specs.Modalities.{head_intro, next, elim_update}
use Rattle.pm_table.specs.Rewriting.{subst_held, rewrite, pure_intro, cases}
use Rattle.pm_table.specs.Heap.{combine_held, write, allocate}
use Rattle.pm_table.specs.Loeb.{loeb, unfold_call, fold_call}
use Rattle.pm_table.specs.Linears.{linear, linear_with}
use Rattle.pm_table.specs.Terms.{take, lend, lemma, lemma_named, with_term, with_spat, assert, apply, frame_held, frame_named, frame_member}
use Rattle.pm_table.specs.Patterns.{opening, turn, destruct, destruct_all, fact_names, int_names, spat_names, clear_selected, clear_all_selected, run_actions, universals, intro_alls, left_side, premises, intro_premises, intro_one, intro_pattern, intro, intro_each}
use Rattle.pm_table.specs.Directives.{lemma_nodes, head_run, term_run, is_bare, head_name, frame_selected, sels_or_spats, revert_selected, revert_all, run, run_on}
use Rattle.pm_table.specs.Stepping.{Each}
use Rattle.pm_table.specs.Hands.{is_inner, is_item, is_well_placed, EachPlace, IsEmptyHanded, IsAtRest, NothingStaysInHand}
use Rattle.pm_table.proofs.Keeping.{anything}
use Rattle.pm_table.proofs.Placing.{Moves, Gives, each_map, each_weaker, once_gives, after_moves, on_all_moves, keeping_moves, in_order_moves, run_weaker}
use Rattle.pm_table.proofs.Holding
use Rattle.pm_table.proofs.Holding.{count, count_no_more, Stands, stands_behind, stands_before, Takes, Deals, rest_takes, goal_takes}
use Rattle.pm_table.proofs.Rests

-- no pattern is to come, and so many hypotheses are in hand
abbrev InHand : ℕ → Place → Type 0
InHand k = Stands 0 k

-- ---- actions on places

alone_stands : (a n k : ℕ) (whole : Work → Run) → ((w : Work) → length w.held ≡ a → EachPlace (Stands n k) (whole w)) → (p : Place) → InHand a p → EachPlace (Stands n k) (in_place whole p)
alone_stands a n k whole stands (finished goal) h = (tt, tt)
alone_stands a n k whole stands (current [] w) h =
    let e : length w.held ≡ a = let i = h.1 in omega (arith, i) in
    keeping_moves (Stands n k) (Stands n k) [] (λ p i. stands_behind n k n k [] p (omega arith) (omega arith) i) (whole w) (stands w e)
alone_stands a n k whole stands (current (t ∷ turns) w) h = absurd (let i = h.0 in omega (arith, i))

alone_moves : (a n k : ℕ) (whole : Work → Run) → ((w : Work) → length w.held ≡ a → EachPlace (Stands n k) (whole w)) → Moves (InHand a) (Stands n k) (each_alone whole)
alone_moves a n k whole stands ps h = on_all_moves (InHand a) (Stands n k) (in_place whole) (alone_stands a n k whole stands) ps h

pub act_with_moves : (a n k handed : ℕ) (action : Action) → Takes a n k action → Moves (InHand a) (Stands n k) (act_with handed action)
act_with_moves a n k handed action takes ps h = alone_moves a n k (once handed action) (λ w e. once_gives (Stands n k) handed action w (takes w e)) ps h

act_moves : (a n k : ℕ) (action : Action) → Takes a n k action → Moves (InHand a) (Stands n k) (act action)
act_moves a n k action takes ps h = act_with_moves a n k 0 action takes ps h

goal_moves : (handed k : ℕ) (action : Goal → Outcome) → ((goal : Goal) → Gives (InHand k) (action goal)) → Moves (InHand 0) (InHand k) (act_with handed (on_goal action))
goal_moves handed k action gives ps h = act_with_moves 0 0 k handed (on_goal action) (goal_takes k action gives) ps h

-- the turn of a pattern is over, and in its place come so many parts of it
turn_stands : (parts n t : ℕ) (action : Action) → parts + n ≡ t → Deals parts 0 action → (p : Place) → Stands (suc n) 0 p → EachPlace (Stands t 0) (in_turn parts (once 0 action) p)
turn_stands parts n t action sum deals (finished goal) h = (tt, tt)
turn_stands parts n t action sum deals (current [] w) h = absurd (let i = h.0 in omega (arith, i))
turn_stands parts n t action sum deals (current (false ∷ turns) w) h =
    let l = length-append (replicate parts false) turns in let m = length-replicate parts false in let c = count_no_more parts turns in
    ((let i = h.0 in omega (arith, i, l, m, sum), let i = h.1 in omega (arith, i, c)), tt)
turn_stands parts n t action sum deals (current (true ∷ turns) w) h =
    let e : length w.held ≡ suc (count turns) = let i = h.1 in omega (arith, i) in
    let l : parts + length turns ≡ t = let i = h.0 in omega (arith, i, sum) in
    keeping_moves (Stands parts (0 + count turns)) (Stands t 0) turns (λ p i. stands_behind parts (0 + count turns) t 0 turns p l (omega arith) i) (once 0 action w) (once_gives (Stands parts (0 + count turns)) 0 action w (deals (count turns) w e))

turn_moves : (parts n t : ℕ) (action : Action) → parts + n ≡ t → Deals parts 0 action → Moves (Stands (suc n) 0) (Stands t 0) (turn parts action)
turn_moves parts n t action sum deals ps h = on_all_moves (Stands (suc n) 0) (Stands t 0) (in_turn parts (once 0 action)) (turn_stands parts n t action sum deals) ps h

-- ---- patterns

leaf_moves : (n : ℕ) (action : Action) → Deals 0 0 action → Moves (Stands (suc n) 0) (Stands n 0) (turn 0 action)
leaf_moves n action deals ps h = turn_moves 0 n n action (omega arith) deals ps h

one_moves : (n : ℕ) (action : Action) → Deals 1 0 action → (follows : List Place → Run) → Moves (Stands (suc n) 0) (Stands n 0) follows → Moves (Stands (suc n) 0) (Stands n 0) (λ ps. after (turn 1 action ps) follows)
one_moves n action deals follows moves ps h = after_moves (Stands (suc n) 0) (Stands n 0) (turn 1 action ps) follows (turn_moves 1 n (suc n) action (omega arith) deals ps h) moves

two_moves : (n : ℕ) (action : Action) → Deals 2 0 action → (first second : List Place → Run) → Moves (Stands (suc (suc n)) 0) (Stands (suc n) 0) first → Moves (Stands (suc n) 0) (Stands n 0) second → Moves (Stands (suc n) 0) (Stands n 0) (λ ps. after (turn 2 action ps) (λ qs. after (first qs) second))
two_moves n action deals first second moves move ps h =
    after_moves (Stands (suc (suc n)) 0) (Stands n 0) (turn 2 action ps) (λ qs. after (first qs) second) (turn_moves 2 n (suc (suc n)) action (omega arith) deals ps h)
    (λ qs i. after_moves (Stands (suc n) 0) (Stands n 0) (first qs) second (moves qs i) move)

both_true : (a b : Bool) → (a && b) ≡ true → (a ≡ true) × (b ≡ true)
both_true true b e = (refl, e)
both_true false b e = absurd cc

-- each hypothesis in hand goes to its pattern
pub destruct_moves : (p : Pat) → is_inner p ≡ true → (n : ℕ) → Moves (Stands (suc n) 0) (Stands n 0) (destruct p)
unfolding destruct is_inner
destruct_moves (pat.Name h) e n = leaf_moves n (name_held h) (Holding.name_held_deals h)
destruct_moves pat.Fresh e n = leaf_moves n name_fresh Holding.name_fresh_deals
destruct_moves pat.Drop e n = leaf_moves n drop_held Holding.drop_held_deals
destruct_moves pat.Frame e n = leaf_moves n frame_held Holding.frame_held_deals
destruct_moves (pair.Pair p q) e n = let b = both_true (is_inner p) (is_inner q) e in two_moves n (destructs.pair p q) (Holding.pair_deals p q) (destruct p) (destruct q) (destruct_moves p b.0 (suc n)) (destruct_moves q b.1 n)
destruct_moves (pair.Either p q) e n = let b = both_true (is_inner p) (is_inner q) e in two_moves n either Holding.either_deals (destruct p) (destruct q) (destruct_moves p b.0 (suc n)) (destruct_moves q b.1 n)
destruct_moves pat.Absurd e n = leaf_moves n absurd_held Holding.absurd_deals
destruct_moves (pat.PureName h) e n = leaf_moves n (to_pure h) (Holding.to_pure_deals h)
destruct_moves pat.PureFresh e n = leaf_moves n to_pure_fresh Holding.to_pure_fresh_deals
destruct_moves (pair.Int p) e n = one_moves n (opening (true ∷ []) to_int) Holding.to_int_deals (destruct p) (destruct_moves p e n)
destruct_moves (pair.Spat p) e n = one_moves n (opening (true ∷ []) to_spat) Holding.to_spat_deals (destruct p) (destruct_moves p e n)
destruct_moves (pair.Elim p) e n = one_moves n (opening (true ∷ []) elim_update) Holding.elim_deals (destruct p) (destruct_moves p e n)
destruct_moves pat.Rewrite e n = leaf_moves n (subst_held false) (Holding.subst_deals false)
destruct_moves pat.RewriteBack e n = leaf_moves n (subst_held true) (Holding.subst_deals true)
destruct_moves pat.ModIntro e n = absurd cc
destruct_moves pat.Done e n = absurd cc
destruct_moves pat.Alls e n = absurd cc
destruct_moves pat.AllsWands e n = absurd cc
destruct_moves (pat.Clear sels) e n = absurd cc

pub destruct_all_moves : (p : Pat) → is_inner p ≡ true → Moves (InHand 1) (InHand 0) (destruct_all p)
destruct_all_moves p e ps h = destruct_moves p e 0 (map with_turn ps) (each_map (InHand 1) (Stands 1 0) with_turn (stands_before 0 0) ps h)

-- ---- lists of actions on one work

alone_in_order : {A : Type 0} (T : A → Type 0) (action : A → Action) → ((x : A) → T x → Takes 0 0 0 (action x)) → (xs : List A) → Each T xs → (w : Work) → length w.held ≡ 0 → EachPlace (InHand 0) (for_each action xs w)
alone_in_order T action takes xs given w e = in_order_moves (InHand 0) T (λ x. act (action x)) (λ x i. act_moves 0 0 0 (action x) (takes x i)) xs given (current [] w ∷ []) ((refl, e), tt)

-- an action for each of the names that a work has when its turn comes
group_moves : (action : Named → Action) (names : Work → List Named) → ((x : Named) → Takes 0 0 0 (action x)) → Moves (InHand 0) (InHand 0) (each_alone (λ w. for_each action (names w) w))
group_moves action names takes = alone_moves 0 0 0 (λ w. for_each action (names w) w) (λ w e. alone_in_order (λ x. Unit {0}) action (λ x i. takes x) (names w) (anything (names w)) w e)

goal_group_moves : (action : Named → Goal → Outcome) (names : Work → List Named) → ((x : Named) (g : Goal) → Gives (InHand 0) (action x g)) → Moves (InHand 0) (InHand 0) (each_alone (λ w. for_each (λ x. on_goal (action x)) (names w) w))
goal_group_moves action names gives = group_moves (λ x. on_goal (action x)) names (λ x. goal_takes 0 (action x) (gives x))

clear_selected_moves : (s : Sel) → Moves (InHand 0) (InHand 0) (clear_selected s)
clear_selected_moves (sel.Name h) = goal_moves 0 0 (clear h) (Rests.clear_rests h)
clear_selected_moves sel.Pures = goal_group_moves clear (λ w. fact_names w.goal) Rests.clear_rests
clear_selected_moves sel.Ints = goal_group_moves clear (λ w. int_names w.goal) Rests.clear_rests
clear_selected_moves sel.Spats = goal_group_moves clear (λ w. spat_names w.goal) Rests.clear_rests

clear_all_moves : (sels : List Sel) → Moves (InHand 0) (InHand 0) (clear_all_selected sels)
clear_all_moves sels = in_order_moves (InHand 0) (λ s. Unit {0}) clear_selected (λ s i. clear_selected_moves s) sels (anything sels)

-- ---- introductions

-- a list of actions that leaves nothing in hand
abbrev Settles : List Action → Type 0
Settles actions = Moves (InHand 0) (InHand 0) (in_order (λ a. act a) actions)

settles_none : Settles []
settles_none ps h = h

universal_settles : (actions : List Action) → Settles actions → Settles (at_rest intro_all_fresh ∷ actions)
universal_settles actions settles ps h = after_moves (InHand 0) (InHand 0) (act (at_rest intro_all_fresh) ps) (in_order (λ a. act a) actions) (act_moves 0 0 0 (at_rest intro_all_fresh) (rest_takes 0 0 intro_all_fresh Holding.intro_all_takes) ps h) settles

-- a left side is held, then named
left_side_settles : (actions : List Action) → Settles actions → Settles (left_side actions)
left_side_settles actions settles ps h =
    after_moves (InHand 1) (InHand 0) (act (at_rest intro_hyp) ps) (in_order (λ a. act a) (name_fresh ∷ actions)) (act_moves 0 0 1 (at_rest intro_hyp) (rest_takes 0 1 intro_hyp Holding.intro_hyp_takes) ps h)
    (λ qs i. after_moves (InHand 0) (InHand 0) (act name_fresh qs) (in_order (λ a. act a) actions) (act_moves 1 0 0 name_fresh (Holding.name_fresh_deals 0) qs i) settles)

choice_settles : (b : Bool) (actions : List Action) → Settles actions → Settles (cond b actions [])
choice_settles true actions settles = settles
choice_settles false actions settles = settles_none

universals_settle : (f : Formula) → Settles (universals f)
universals_settle (All b) = universal_settles (universals b) (universals_settle b)
universals_settle _ = settles_none

premises_settle : (none : Bool) (f : Formula) → Settles (premises none f)
premises_settle none (All b) = universal_settles (premises none b) (premises_settle none b)
premises_settle none (Wand a b) = left_side_settles (premises false b) (premises_settle false b)
premises_settle none (Imp a b) = choice_settles (none || is_persistent a) (left_side (premises false b)) (left_side_settles (premises false b) (premises_settle false b))
premises_settle none _ = settles_none

actions_stand : (row : Row) (actions : List Action) → Settles actions → (w : Work) → length w.held ≡ 0 → EachPlace (InHand 0) (run_actions row actions w)
actions_stand row [] settles w e = tt
actions_stand row (a ∷ more) settles w e = settles (current [] w ∷ []) ((refl, e), tt)

intro_pattern_moves : (p : Pat) → is_inner p ≡ true → Moves (InHand 0) (InHand 0) (intro_pattern p)
intro_pattern_moves p e ps h = after_moves (Stands 1 0) (InHand 0) (act (at_rest (intro_one p)) ps) (destruct p) (act_moves 0 1 0 (at_rest (intro_one p)) (rest_takes 1 0 (intro_one p) (Holding.intro_one_takes p)) ps h) (destruct_moves p e 0)

pub intro_moves : (p : Pat) → is_item p ≡ true → Moves (InHand 0) (InHand 0) (intro p)
unfolding intro is_item
intro_moves pat.ModIntro e = goal_moves 0 0 head_intro Rests.head_intro_rests
intro_moves pat.Done e = goal_moves 0 0 try_done Rests.try_done_rests
intro_moves pat.Alls e = alone_moves 0 0 0 intro_alls (λ w i. actions_stand NoVariableToIntroduce (universals w.goal.concl) (universals_settle w.goal.concl) w i)
intro_moves pat.AllsWands e = alone_moves 0 0 0 intro_premises (λ w i. actions_stand NoHypothesisToIntroduce (premises (is_empty w.goal.spats) w.goal.concl) (premises_settle (is_empty w.goal.spats) w.goal.concl) w i)
intro_moves (pat.Clear sels) e = clear_all_moves sels
intro_moves (pat.Name h) e = intro_pattern_moves (pat.Name h) e
intro_moves pat.Fresh e = intro_pattern_moves pat.Fresh e
intro_moves pat.Drop e = intro_pattern_moves pat.Drop e
intro_moves pat.Frame e = intro_pattern_moves pat.Frame e
intro_moves (pair.Pair p q) e = intro_pattern_moves (pair.Pair p q) e
intro_moves (pair.Either p q) e = intro_pattern_moves (pair.Either p q) e
intro_moves pat.Absurd e = intro_pattern_moves pat.Absurd e
intro_moves (pat.PureName h) e = intro_pattern_moves (pat.PureName h) e
intro_moves pat.PureFresh e = intro_pattern_moves pat.PureFresh e
intro_moves (pair.Int p) e = intro_pattern_moves (pair.Int p) e
intro_moves (pair.Spat p) e = intro_pattern_moves (pair.Spat p) e
intro_moves (pair.Elim p) e = intro_pattern_moves (pair.Elim p) e
intro_moves pat.Rewrite e = intro_pattern_moves pat.Rewrite e
intro_moves pat.RewriteBack e = intro_pattern_moves pat.RewriteBack e

intro_each_moves : (pats : List Pat) → list_all is_item pats ≡ true → Moves (InHand 0) (InHand 0) (intro_each pats)
intro_each_moves [] e ps h = h
intro_each_moves (p ∷ pats) e ps h = let b = both_true (is_item p) (list_all is_item pats) e in after_moves (InHand 0) (InHand 0) (intro p ps) (intro_each pats) (intro_moves p b.0 ps h) (intro_each_moves pats b.1)

-- ---- proof terms and selections

module _ (lemmas : Lemmas) where
  head_moves : (taken : Bool) (h : Head) → Moves (InHand 0) (InHand 1) (head_run lemmas taken h)
  head_moves true (head.Hyp h) = act_moves 0 0 1 (at_rest (take h)) (rest_takes 0 1 (take h) (Holding.take_takes h))
  head_moves false (head.Hyp h) = act_moves 0 0 1 (at_rest (lend h)) (rest_takes 0 1 (lend h) (Holding.lend_takes h))
  head_moves true (head.Lemma n) = act_with_moves 0 0 1 (lemma_nodes (lemma_named n lemmas.list)) (at_rest (lemma lemmas n)) (rest_takes 0 1 (lemma lemmas n) (Holding.lemma_takes lemmas n))
  head_moves false (head.Lemma n) = act_with_moves 0 0 1 (lemma_nodes (lemma_named n lemmas.list)) (at_rest (lemma lemmas n)) (rest_takes 0 1 (lemma lemmas n) (Holding.lemma_takes lemmas n))

  terms_move : (ts : List Term) → Moves (InHand 1) (InHand 1) (in_order (λ t. act_with (term_nodes t) (with_term t)) ts)
  terms_move ts = in_order_moves (InHand 1) (λ t. Unit {0}) (λ t. act_with (term_nodes t) (with_term t)) (λ t i. act_with_moves 1 0 1 (term_nodes t) (with_term t) (Holding.with_term_takes t)) ts (anything ts)

  spats_move : (ss : List Spat) → Moves (InHand 1) (InHand 1) (in_order (λ s. act (with_spat s)) ss)
  spats_move ss = in_order_moves (InHand 1) (λ s. Unit {0}) (λ s. act (with_spat s)) (λ s i. act_moves 1 0 1 (with_spat s) (Holding.with_spat_takes s)) ss (anything ss)

  -- the head is held, and then what it becomes
  pub term_moves : (taken : Bool) (t : ProofTerm) → Moves (InHand 0) (InHand 1) (term_run lemmas taken t)
  term_moves taken t ps h =
      after_moves (InHand 1) (InHand 1) (head_run lemmas taken t.head ps) (λ qs. after (in_order (λ x. act_with (term_nodes x) (with_term x)) t.terms qs) (in_order (λ s. act (with_spat s)) t.spats)) (head_moves taken t.head ps h)
      (λ qs i. after_moves (InHand 1) (InHand 1) (in_order (λ x. act_with (term_nodes x) (with_term x)) t.terms qs) (in_order (λ s. act (with_spat s)) t.spats) (terms_move t.terms qs i) (spats_move t.spats))

frame_selected_moves : (s : Sel) → Moves (InHand 0) (InHand 0) (frame_selected s)
frame_selected_moves (sel.Name h) = act_moves 0 0 0 (frame_named h) (Holding.frame_named_takes h)
frame_selected_moves sel.Pures = group_moves frame_member (λ w. fact_names w.goal) Holding.frame_member_takes
frame_selected_moves sel.Ints = group_moves frame_member (λ w. int_names w.goal) Holding.frame_member_takes
frame_selected_moves sel.Spats = group_moves frame_member (λ w. spat_names w.goal) Holding.frame_member_takes

revert_selected_moves : (s : Sel) → Moves (InHand 0) (InHand 0) (revert_selected s)
revert_selected_moves (sel.Name h) = goal_moves 0 0 (revert h) (Rests.revert_rests h)
revert_selected_moves sel.Pures = goal_group_moves revert (λ w. reverse (fact_names w.goal)) Rests.revert_rests
revert_selected_moves sel.Ints = goal_group_moves revert (λ w. reverse (int_names w.goal)) Rests.revert_rests
revert_selected_moves sel.Spats = goal_group_moves revert (λ w. reverse (spat_names w.goal)) Rests.revert_rests

revert_all_moves : (xs : List Named) (sels : List Sel) → Moves (InHand 0) (InHand 0) (revert_all xs sels)
revert_all_moves xs sels ps h = after_moves (InHand 0) (InHand 0) (in_order revert_selected (reverse sels) ps) (in_order (λ x. act (on_goal (revert_var x))) (reverse xs))
    (in_order_moves (InHand 0) (λ s. Unit {0}) revert_selected (λ s i. revert_selected_moves s) (reverse sels) (anything (reverse sels)) ps h)
    (in_order_moves (InHand 0) (λ x. Unit {0}) (λ x. act (on_goal (revert_var x))) (λ x i. goal_moves 0 0 (revert_var x) (Rests.revert_var_rests x)) (reverse xs) (anything (reverse xs)))

-- ---- directives

then_destruct : (r : Run) (p : Pat) → is_inner p ≡ true → EachPlace (InHand 1) r → EachPlace (InHand 0) (after r (destruct_all p))
then_destruct r p e h = after_moves (InHand 1) (InHand 0) r (destruct_all p) h (destruct_all_moves p e)

module _ (preds : Preds) (lemmas : Lemmas) where
  run_moves : (directive : Directive) → is_well_placed directive ≡ true → Moves (InHand 0) (InHand 0) (run preds lemmas directive)
  unfolding is_well_placed is_inner
  run_moves (d.Intros pats) e ps h = intro_each_moves pats e ps h
  run_moves (d.Destruct t p) e ps h = then_destruct (term_run lemmas (is_bare t) t ps) p e (term_moves lemmas (is_bare t) t ps h)
  run_moves (d.PoseProof t p) e ps h = then_destruct (term_run lemmas false t ps) p e (term_moves lemmas false t ps h)
  run_moves (d.Specialize t) e ps h = after_moves (InHand 1) (InHand 0) (term_run lemmas true t ps) (act (name_held (head_name t.head))) (term_moves lemmas true t ps h) (act_moves 1 0 0 (name_held (head_name t.head)) (Holding.name_held_deals (head_name t.head) 0))
  run_moves (d.Apply t) e ps h = after_moves (InHand 1) (InHand 0) (term_run lemmas false t ps) (act apply) (term_moves lemmas false t ps h) (act_moves 1 0 0 apply Holding.apply_takes)
  run_moves (d.Assert f s p) e ps h = then_destruct (act_with (nodes_of f) (at_rest (assert f s)) ps) p e (act_with_moves 0 0 1 (nodes_of f) (at_rest (assert f s)) (rest_takes 0 1 (assert f s) (Holding.assert_takes f s)) ps h)
  run_moves d.Split e ps h = goal_moves 0 0 split Rests.split_rests ps h
  run_moves (d.SplitL list) e ps h = goal_moves 0 0 (split_at true list) (Rests.split_at_rests true list) ps h
  run_moves (d.SplitR list) e ps h = goal_moves 0 0 (split_at false list) (Rests.split_at_rests false list) ps h
  run_moves d.Left e ps h = goal_moves 0 0 (side true) (Rests.side_rests true) ps h
  run_moves d.Right e ps h = goal_moves 0 0 (side false) (Rests.side_rests false) ps h
  run_moves (d.Exists ts) e ps h = in_order_moves (InHand 0) (λ t. Unit {0}) (λ t. act_with (term_nodes t) (on_goal (exists t))) (λ t i. goal_moves (term_nodes t) 0 (exists t) (Rests.exists_rests t)) ts (anything ts) ps h
  run_moves (d.Exact x) e ps h = goal_moves 0 0 (exact x) (Rests.exact_rests x) ps h
  run_moves d.Assumption e ps h = goal_moves 0 0 assumption Rests.assumption_rests ps h
  run_moves d.ExFalso e ps h = goal_moves 0 0 exfalso Rests.exfalso_rests ps h
  run_moves d.Done e ps h = goal_moves 0 0 done Rests.done_rests ps h
  run_moves (d.Clear sels) e ps h = clear_all_moves sels ps h
  run_moves (d.Rename x y) e ps h = goal_moves 0 0 (rename x y) (Rests.rename_rests x y) ps h
  run_moves (d.Revert xs sels) e ps h = revert_all_moves xs sels ps h
  run_moves (d.Frame sels) e ps h = in_order_moves (InHand 0) (λ s. Unit {0}) frame_selected (λ s i. frame_selected_moves s) (sels_or_spats sels) (anything (sels_or_spats sels)) ps h
  run_moves d.ModIntro e ps h = goal_moves 0 0 head_intro Rests.head_intro_rests ps h
  run_moves d.Next e ps h = goal_moves 0 0 next Rests.next_rests ps h
  run_moves (d.Mod t p) e ps h = then_destruct (term_run lemmas (is_bare t) t ps) (pair.Elim p) e (term_moves lemmas (is_bare t) t ps h)
  run_moves (d.Loeb x) e ps h = goal_moves 0 0 (loeb x) (Rests.loeb_rests x) ps h
  run_moves (d.Unfold x) e ps h = goal_moves 0 0 (unfold_call preds x) (Rests.unfold_rests preds x) ps h
  run_moves (d.Fold f x) e ps h = goal_moves (nodes_of f) 0 (fold_call preds f x) (Rests.fold_rests preds f x) ps h
  run_moves (d.Combine x y p) e ps h = then_destruct (act (on_goal (combine_held x y)) ps) p e (goal_moves 0 1 (combine_held x y) (Rests.combine_holds x y) ps h)
  run_moves (d.Write x t) e ps h = goal_moves (term_nodes t) 0 (write x t) (Rests.write_rests x t) ps h
  run_moves (d.Alloc t l p) e ps h = then_destruct (act_with (term_nodes t) (on_goal (allocate t l)) ps) p e (goal_moves (term_nodes t) 1 (allocate t l) (Rests.allocate_holds t l) ps h)
  run_moves d.PureIntro e ps h = goal_moves 0 0 pure_intro Rests.pure_intro_rests ps h
  run_moves (d.Rewrite back x target) e ps h = goal_moves 0 0 (rewrite back x target) (Rests.rewrite_rests back x target) ps h
  run_moves (d.Cases p x) e ps h = goal_moves (pure_nodes p) 0 (cases p x) (Rests.cases_rests p x) ps h
  run_moves d.Linear e ps h = goal_moves 0 0 linear Rests.linear_rests ps h
  run_moves (d.LinearWith certs) e ps h = goal_moves 0 0 (linear_with certs) (Rests.linear_with_rests certs) ps h

-- ---- places at rest

is_nil : {A : Type 0} (xs : List A) → length xs ≡ 0 → xs ≡ []
is_nil [] e = refl
is_nil (x ∷ xs) e = absurd (omega (arith, e))

pub rests_stand : (p : Place) → IsAtRest p → Stands 0 0 p
rests_stand (finished goal) h = tt
rests_stand (current turns w) h = let e : length turns ≡ 0 = ap length h.0 in let f : count turns ≡ 0 = ap count h.0 in let g : length w.held ≡ 0 = ap length h.1 in (e, omega (arith, f, g))

no_turns : (turns : List Bool) → length turns ≡ 0 → count turns ≡ 0
no_turns [] e = refl
no_turns (t ∷ turns) e = absurd (omega (arith, e))

pub stand_at_rest : (p : Place) → Stands 0 0 p → IsAtRest p
stand_at_rest (finished goal) h = tt
stand_at_rest (current turns w) h = let c = no_turns turns h.0 in let i = h.1 in (is_nil turns h.0, is_nil w.held (omega (arith, c, i)))

empty_handed : (p : Place) → IsAtRest p → IsEmptyHanded p
empty_handed (finished goal) h = refl
empty_handed (current turns w) h = h.1

-- A directive takes places at rest to places at rest.
pub run_rests : (preds : Preds) (lemmas : Lemmas) (directive : Directive) → is_well_placed directive ≡ true → Moves IsAtRest IsAtRest (run preds lemmas directive)
run_rests preds lemmas directive e ps h = run_weaker (Stands 0 0) IsAtRest stand_at_rest (run preds lemmas directive ps) (run_moves preds lemmas directive e ps (each_weaker IsAtRest (Stands 0 0) rests_stand ps h))

pub run_on_rests : (preds : Preds) (lemmas : Lemmas) (goal : Goal) (directive : Directive) → is_well_placed directive ≡ true → EachPlace IsAtRest (run_on preds lemmas goal directive)
run_on_rests preds lemmas goal directive e = run_rests preds lemmas directive e (current [] (resting goal) ∷ []) ((refl, refl), tt)

pub nothing_stays_in_hand : NothingStaysInHand
nothing_stays_in_hand preds lemmas goal directive e = run_weaker IsAtRest IsEmptyHanded empty_handed (run_on preds lemmas goal directive) (run_on_rests preds lemmas goal directive e)
