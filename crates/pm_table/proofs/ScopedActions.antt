-- Each action keeps scoped works, for what stands on the table: what is handed to an action is scoped in the variables of its work.
use Rattle.std.proofs.Common.{Bool, List, length, arith, Option}
use Rattle.pm_logic.specs.declared.formula.Term.{Term}
use Rattle.pm_logic.specs.declared.formula.Pure as P
use Rattle.pm_logic.specs.declared.formula.Formula.{Formula}
use Rattle.pm_logic.specs.declared.formula.Preds.{Preds}
use Rattle.pm_logic.specs.Scope.{TermScoped, PureScoped, Scoped}
use Rattle.pm_goal.specs.declared.goal.Goal.{Goal}
use Rattle.pm_goal.specs.declared.work.Work.{Work}
use Rattle.pm_goal.specs.declared.work.Lemmas.{Lemmas}
use Rattle.pm_patterns.specs.declared.pattern.Pat.{Pat}
use Rattle.pm_patterns.specs.declared.pattern.Spat.{Spat}
use Rattle.pm_table.specs.Outcomes.{Outcome, Action, one}
use Rattle.pm_table.specs.Limits.{limited}
use Rattle.pm_table.specs.Works.{Named}
use Rattle.pm_table.specs.Introductions as introductions
use Rattle.pm_table.specs.Destructs as destructs
use Rattle.pm_table.specs.Basic as basic
use Rattle.pm_table.specs.Basic.{on_goal}
use Rattle.pm_table.specs.Modalities as modalities
use Rattle.pm_table.specs.Rewriting as rewriting
use Rattle.pm_table.specs.Heap as heap
use Rattle.pm_table.specs.Loeb as bodies
use Rattle.pm_table.specs.Terms as terms
use Rattle.pm_table.specs.Patterns as patterns
use Rattle.pm_table.specs.Scopes.{IsWorkScoped, AreBodiesScoped, AreLemmasScoped}
use Rattle.pm_table.proofs.Keeping.{InOutcome, rests_in}
use Rattle.pm_table.proofs.Outcomes.{limited_in}
use Rattle.pm_table.proofs.Scoping.{Inside, itself, all_scoped}
use Rattle.pm_table.proofs.ScopedHands as by_hands
use Rattle.pm_table.proofs.ScopedGoals as by_goals
use Rattle.pm_table.proofs.ScopedTerms as by_terms
use Rattle.pm_table.proofs.ScopedRules as by_rules

module _ (preds : Preds) where
  -- the works that an action gives on this one are scoped, and those that pass the limits
  abbrev pub Keeps : Action → Work → Type 0
  Keeps action w = InOutcome (IsWorkScoped preds) (action w) × InOutcome (IsWorkScoped preds) (limited (action w))

  kept : (action : Action) (w : Work) → IsWorkScoped preds w → (Inside preds (length w.goal.vars) w → InOutcome (Inside preds (length w.goal.vars)) (action w)) → Keeps action w
  kept action w h keeps = let all : InOutcome (IsWorkScoped preds) (action w) = all_scoped preds (length w.goal.vars) (action w) (keeps (itself preds w h)) in (all, limited_in (IsWorkScoped preds) (action w) all)

  kept_goal : (action : Goal → Outcome) (w : Work) → IsWorkScoped preds w → (Inside preds (length w.goal.vars) w → InOutcome (Inside preds (length w.goal.vars)) (action w.goal)) → Keeps (on_goal action) w
  kept_goal action w h keeps = kept (on_goal action) w h (λ i. rests_in (Inside preds (length w.goal.vars)) w.held (action w.goal) (one w) (keeps i) (i, tt))

  -- ---- introductions and patterns

  pub intro_one : (p : Pat) (w : Work) → IsWorkScoped preds w → Keeps (patterns.intro_one p) w
  intro_one p w h = kept (patterns.intro_one p) w h (by_hands.intro_one_in preds (length w.goal.vars) p w)

  pub intro_hyp : (w : Work) → IsWorkScoped preds w → Keeps introductions.intro_hyp w
  intro_hyp w h = kept introductions.intro_hyp w h (by_hands.intro_hyp_in preds (length w.goal.vars) w)

  pub intro_all : (x : Named) (w : Work) → IsWorkScoped preds w → Keeps (introductions.intro_all x) w
  intro_all x w h = kept (introductions.intro_all x) w h (by_hands.intro_all_in preds (length w.goal.vars) x w)

  pub name_held : (x : Named) (w : Work) → IsWorkScoped preds w → Keeps (destructs.name_held x) w
  name_held x w h = kept (destructs.name_held x) w h (by_hands.name_held_in preds (length w.goal.vars) x w)

  pub drop_held : (w : Work) → IsWorkScoped preds w → Keeps destructs.drop_held w
  drop_held w h = kept destructs.drop_held w h (by_hands.drop_held_in preds (length w.goal.vars) w)

  pub pair : (p q : Pat) (w : Work) → IsWorkScoped preds w → Keeps (destructs.pair p q) w
  pair p q w h = kept (destructs.pair p q) w h (by_hands.pair_in preds (length w.goal.vars) p q w)

  pub either : (w : Work) → IsWorkScoped preds w → Keeps destructs.either w
  either w h = kept destructs.either w h (by_hands.either_in preds (length w.goal.vars) w)

  pub absurd_held : (w : Work) → IsWorkScoped preds w → Keeps destructs.absurd_held w
  absurd_held w h = kept destructs.absurd_held w h (by_hands.absurd_held_in preds (length w.goal.vars) w)

  pub to_pure : (x : Named) (w : Work) → IsWorkScoped preds w → Keeps (destructs.to_pure x) w
  to_pure x w h = kept (destructs.to_pure x) w h (by_hands.to_pure_in preds (length w.goal.vars) x w)

  pub to_int : (w : Work) → IsWorkScoped preds w → Keeps destructs.to_int w
  to_int w h = kept destructs.to_int w h (by_hands.to_int_in preds (length w.goal.vars) w)

  pub to_spat : (w : Work) → IsWorkScoped preds w → Keeps destructs.to_spat w
  to_spat w h = kept destructs.to_spat w h (by_hands.to_spat_in preds (length w.goal.vars) w)

  pub elim_update : (w : Work) → IsWorkScoped preds w → Keeps modalities.elim_update w
  elim_update w h = kept modalities.elim_update w h (by_rules.elim_update_in preds (length w.goal.vars) w)

  pub subst_held : (back : Bool) (w : Work) → IsWorkScoped preds w → Keeps (rewriting.subst_held back) w
  subst_held back w h = kept (rewriting.subst_held back) w h (by_rules.subst_held_in preds (length w.goal.vars) back w)

  -- ---- proof terms and framing

  pub take : (x : Named) (w : Work) → IsWorkScoped preds w → Keeps (terms.take x) w
  take x w h = kept (terms.take x) w h (by_hands.take_in preds (length w.goal.vars) x w)

  pub lend : (x : Named) (w : Work) → IsWorkScoped preds w → Keeps (terms.lend x) w
  lend x w h = kept (terms.lend x) w h (by_hands.lend_in preds (length w.goal.vars) x w)

  pub lemma : (lemmas : Lemmas) (x : Named) (w : Work) → AreLemmasScoped preds lemmas → IsWorkScoped preds w → Keeps (terms.lemma lemmas x) w
  lemma lemmas x w given h = kept (terms.lemma lemmas x) w h (by_terms.lemma_in preds (length w.goal.vars) lemmas x w given)

  pub with_term : (t : Term) (w : Work) → TermScoped (length w.goal.vars) t → IsWorkScoped preds w → Keeps (terms.with_term t) w
  with_term t w given h = kept (terms.with_term t) w h (by_terms.with_term_in preds (length w.goal.vars) t w given)

  pub with_spat : (s : Spat) (w : Work) → IsWorkScoped preds w → Keeps (terms.with_spat s) w
  with_spat s w h = kept (terms.with_spat s) w h (by_terms.with_spat_in preds (length w.goal.vars) s w)

  pub assert : (f : Formula) (s : Spat) (w : Work) → Scoped preds (length w.goal.vars) f → IsWorkScoped preds w → Keeps (terms.assert f s) w
  assert f s w given h = kept (terms.assert f s) w h (by_terms.assert_in preds (length w.goal.vars) f s w given)

  pub apply : (w : Work) → IsWorkScoped preds w → Keeps terms.apply w
  apply w h = kept terms.apply w h (by_terms.apply_in preds (length w.goal.vars) w)

  pub frame_held : (w : Work) → IsWorkScoped preds w → Keeps terms.frame_held w
  frame_held w h = kept terms.frame_held w h (by_terms.frame_held_in preds (length w.goal.vars) w)

  pub frame_named : (x : Named) (w : Work) → IsWorkScoped preds w → Keeps (terms.frame_named x) w
  frame_named x w h = kept (terms.frame_named x) w h (by_terms.frame_named_in preds (length w.goal.vars) x w)

  pub frame_member : (x : Named) (w : Work) → IsWorkScoped preds w → Keeps (terms.frame_member x) w
  frame_member x w h = kept (terms.frame_member x) w h (by_terms.frame_member_in preds (length w.goal.vars) x w)

  -- ---- goals with nothing in hand

  pub split : (w : Work) → IsWorkScoped preds w → Keeps (on_goal basic.split) w
  split w h = kept_goal basic.split w h (by_goals.split_in preds (length w.goal.vars) w)

  pub split_at : (left : Bool) (list : Option (List Named)) (w : Work) → IsWorkScoped preds w → Keeps (on_goal (basic.split_at left list)) w
  split_at left list w h = kept_goal (basic.split_at left list) w h (by_goals.split_at_in preds (length w.goal.vars) left list w)

  pub side : (left : Bool) (w : Work) → IsWorkScoped preds w → Keeps (on_goal (basic.side left)) w
  side left w h = kept_goal (basic.side left) w h (by_goals.side_in preds (length w.goal.vars) left w)

  pub exists : (t : Term) (w : Work) → TermScoped (length w.goal.vars) t → IsWorkScoped preds w → Keeps (on_goal (basic.exists t)) w
  exists t w given h = kept_goal (basic.exists t) w h (by_goals.exists_in preds (length w.goal.vars) t w given)

  pub exfalso : (w : Work) → IsWorkScoped preds w → Keeps (on_goal basic.exfalso) w
  exfalso w h = kept_goal basic.exfalso w h (by_goals.exfalso_in preds (length w.goal.vars) w)

  pub exact : (x : Named) (w : Work) → IsWorkScoped preds w → Keeps (on_goal (basic.exact x)) w
  exact x w h = kept_goal (basic.exact x) w h (by_goals.exact_in preds (length w.goal.vars) x w)

  pub assumption : (w : Work) → IsWorkScoped preds w → Keeps (on_goal basic.assumption) w
  assumption w h = kept_goal basic.assumption w h (by_goals.assumption_in preds (length w.goal.vars) w)

  pub done : (w : Work) → IsWorkScoped preds w → Keeps (on_goal basic.done) w
  done w h = kept_goal basic.done w h (by_goals.done_in preds (length w.goal.vars) w)

  pub try_done : (w : Work) → IsWorkScoped preds w → Keeps (on_goal basic.try_done) w
  try_done w h = kept_goal basic.try_done w h (by_goals.try_done_in preds (length w.goal.vars) w)

  pub clear : (x : Named) (w : Work) → IsWorkScoped preds w → Keeps (on_goal (basic.clear x)) w
  clear x w h = kept_goal (basic.clear x) w h (by_goals.clear_in preds (length w.goal.vars) x w)

  pub rename : (x y : Named) (w : Work) → IsWorkScoped preds w → Keeps (on_goal (basic.rename x y)) w
  rename x y w h = kept_goal (basic.rename x y) w h (by_goals.rename_in preds (length w.goal.vars) x y w)

  pub revert : (x : Named) (w : Work) → IsWorkScoped preds w → Keeps (on_goal (basic.revert x)) w
  revert x w h = kept_goal (basic.revert x) w h (by_goals.revert_in preds (length w.goal.vars) x w)

  pub revert_var : (x : Named) (w : Work) → IsWorkScoped preds w → Keeps (on_goal (basic.revert_var x)) w
  revert_var x w h =
      let all : InOutcome (IsWorkScoped preds) (on_goal (basic.revert_var x) w) = all_scoped preds 0 (on_goal (basic.revert_var x) w) (rests_in (Inside preds 0) w.held (basic.revert_var x w.goal) (one w) (by_goals.revert_var_in preds x w (anyway w h)) (anyway w h, tt)) in
      (all, limited_in (IsWorkScoped preds) (on_goal (basic.revert_var x) w) all)
    where
      anyway : (w : Work) → IsWorkScoped preds w → Inside preds 0 w
      anyway w h = record { scoped = h; least = omega arith }

  -- ---- modalities, points-to, bodies, equations

  pub head_intro : (w : Work) → IsWorkScoped preds w → Keeps (on_goal modalities.head_intro) w
  head_intro w h = kept_goal modalities.head_intro w h (by_rules.head_intro_in preds (length w.goal.vars) w)

  pub next : (w : Work) → IsWorkScoped preds w → Keeps (on_goal modalities.next) w
  next w h = kept_goal modalities.next w h (by_rules.next_in preds (length w.goal.vars) w)

  pub combine_held : (x y : Named) (w : Work) → IsWorkScoped preds w → Keeps (on_goal (heap.combine_held x y)) w
  combine_held x y w h = kept_goal (heap.combine_held x y) w h (by_rules.combine_held_in preds (length w.goal.vars) x y w)

  pub write : (x : Named) (t : Term) (w : Work) → TermScoped (length w.goal.vars) t → IsWorkScoped preds w → Keeps (on_goal (heap.write x t)) w
  write x t w given h = kept_goal (heap.write x t) w h (by_rules.write_in preds (length w.goal.vars) x t w given)

  pub allocate : (t : Term) (l : Named) (w : Work) → TermScoped (length w.goal.vars) t → IsWorkScoped preds w → Keeps (on_goal (heap.allocate t l)) w
  allocate t l w given h = kept_goal (heap.allocate t l) w h (by_rules.allocate_in preds (length w.goal.vars) t l w given)

  pub loeb : (x : Named) (w : Work) → IsWorkScoped preds w → Keeps (on_goal (bodies.loeb x)) w
  loeb x w h = kept_goal (bodies.loeb x) w h (by_rules.loeb_in preds (length w.goal.vars) x w)

  pub unfold_call : (x : Option Named) (w : Work) → AreBodiesScoped preds → IsWorkScoped preds w → Keeps (on_goal (bodies.unfold_call preds x)) w
  unfold_call x w given h = kept_goal (bodies.unfold_call preds x) w h (by_rules.unfold_call_in preds (length w.goal.vars) x w given)

  pub fold_call : (f : Formula) (x : Named) (w : Work) → Scoped preds (length w.goal.vars) f → IsWorkScoped preds w → Keeps (on_goal (bodies.fold_call preds f x)) w
  fold_call f x w given h = kept_goal (bodies.fold_call preds f x) w h (by_rules.fold_call_in preds (length w.goal.vars) f x w given)

  pub rewrite : (back : Bool) (x : Named) (target : Option Named) (w : Work) → IsWorkScoped preds w → Keeps (on_goal (rewriting.rewrite back x target)) w
  rewrite back x target w h = kept_goal (rewriting.rewrite back x target) w h (by_rules.rewrite_in preds (length w.goal.vars) back x target w)

  pub pure_intro : (w : Work) → IsWorkScoped preds w → Keeps (on_goal rewriting.pure_intro) w
  pure_intro w h = kept_goal rewriting.pure_intro w h (by_rules.pure_intro_in preds (length w.goal.vars) w)

  pub cases : (p : P.Pure) (x : Named) (w : Work) → PureScoped (length w.goal.vars) p → IsWorkScoped preds w → Keeps (on_goal (rewriting.cases p x)) w
  cases p x w given h = kept_goal (rewriting.cases p x) w h (by_rules.cases_in preds (length w.goal.vars) p x w given)
