-- What proof terms, applications and framing make of scoped works is scoped.
use Rattle.std.proofs.Common.{◌≡◌, ℕ, zero, suc, ◌≤◌, Bool, true, false, cond, not, List, [], ◌∷◌, length, refl, sym, subst, arith, Option, Some, None, option_map, option_and_then, bytes_eq}
use Rattle.std.specs.List.{AllByRecursion}
use Rattle.pm_logic.specs.declared.formula.Term.{Term}
use Rattle.pm_logic.specs.declared.formula.Formula.{Formula}
use Rattle.pm_logic.specs.declared.formula.Formula.TheVariants.{Pure as Assert}
use Rattle.pm_logic.specs.declared.formula.Preds.{Preds}
use Rattle.pm_logic.specs.Substitution.{opened_of}
use Rattle.pm_logic.specs.Size.{nodes_of}
use Rattle.pm_logic.specs.Scope.{TermScoped, Scoped}
use Rattle.pm_logic.proofs.Grows.{term_grows}
use Rattle.pm_goal.specs.declared.goal.Goal.{Goal}
use Rattle.pm_goal.specs.declared.work.Kind.{Kind}
use Rattle.pm_goal.specs.declared.work.Kind.TheVariants.{Int, Spat}
use Rattle.pm_goal.specs.declared.work.Work.{Work}
use Rattle.pm_goal.specs.declared.work.Lemma.{Lemma}
use Rattle.pm_goal.specs.declared.work.Lemmas.{Lemmas}
use Rattle.pm_patterns.specs.declared.pattern.Spat as S
use Rattle.pm_patterns.specs.declared.pattern.Spat.TheVariants as premise
use Rattle.pm_classes.specs.Classes.{Parts, into_wand, into_forall, from_pure}
use Rattle.pm_classes.specs.Persistence.{is_persistent}
use Rattle.pm_classes.proofs.Scoped as entries
use Rattle.pm_table.specs.Outcomes.{one}
use Rattle.pm_table.specs.Limits.{resting}
use Rattle.pm_table.specs.Works.{Named, hyp_named, is_listed, with_concl, without_spat, hold, work_of}
use Rattle.pm_table.specs.Equality.{formula_eq}
use Rattle.pm_table.specs.Basic.{is_truth, is_done}
use Rattle.pm_table.specs.Framing.{frame}
use Rattle.pm_table.specs.Terms.{held_as, lemma_named, Step, is_premise, both_kinds, framed, keeping, leaving, picked, picked_framed, by_pattern, lemma, with_term, with_spat, assert, premises_before, premises, premise_goal, premise_goals, apply, concluding, passing, frame_held, frame_named, frame_member}
use Rattle.pm_table.specs.Scopes.{GoalScopedIn, IsGoalScoped, AreLemmasScoped}
use Rattle.pm_table.proofs.Keeping.{Everywhere, InOutcome}
use Rattle.pm_table.proofs.Outcomes.{joined_in, chosen_in, require_in, require_plain_in, require_some_in, require_entry_in, all_spatial_in}
use Rattle.pm_table.proofs.Scopes.{grown, opened}
use Rattle.pm_table.proofs.Scoping.{OneIn, PartsIn, Inside, all_filter, one_chosen, hyp_named_in, concl_in, without_spat_in, held_then, with_hand_in, entry_in, named_in}
use Rattle.pm_table.proofs.ScopedHands.{HeldAsIn, held_as_in, parts_where}
use Rattle.pm_table.proofs.ScopedGoals.{rest_in}
use Rattle.pm_table.proofs.ScopedFrames.{frame_in}

lemma_named_in : (preds : Preds) (x : Named) (ls : List Lemma) → AllByRecursion (λ l. Scoped preds 0 l.formula) ls → OneIn preds 0 (lemma_named x ls)
lemma_named_in preds x [] h = tt
lemma_named_in preds x (l ∷ ls) h = one_chosen preds 0 (bytes_eq x l.name) (Some l.formula) (lemma_named x ls) h.0 (lemma_named_in preds x ls h.1)

-- ---- the premises before a conclusion

module _ (preds : Preds) (k : ℕ) where
  abbrev AllIn : Option (List Formula) → Type 0
  AllIn None = Unit {0}
  AllIn (Some fs) = AllByRecursion (λ f. Scoped preds k f) fs

  chosen_all : (b : Bool) (o q : Option (List Formula)) → AllIn o → AllIn q → AllIn (cond b o q)
  chosen_all true o q h g = h
  chosen_all false o q h g = g

  with_first : (f : Formula) (o : Option (List Formula)) → Scoped preds k f → AllIn o → AllIn (option_map (λ ps. f ∷ ps) o)
  with_first f None s h = tt
  with_first f (Some fs) s h = (s, h)

  after_parts : (o : Option Parts) (g : Parts → Option (List Formula)) → PartsIn preds k o → ((p : Parts) → Scoped preds k p.first → Scoped preds k p.second → AllIn (g p)) → AllIn (option_and_then g o)
  after_parts None g h i = tt
  after_parts (Some p) g h i = i p h.0 h.1

  premises_before_in : (n : ℕ) (c r : Formula) → Scoped preds k r → AllIn (premises_before n c r)
  unfolding premises_before
  premises_before_in zero c r s = chosen_all (formula_eq r c) (Some []) None tt tt
  premises_before_in (suc n) c r s =
      let g : Parts → Option (List Formula) = λ parts. option_map (λ ps. parts.first ∷ ps) (premises_before n c parts.second) in
      chosen_all (formula_eq r c) (Some []) (option_and_then g (into_wand r)) tt
      (after_parts (into_wand r) g (parts_where preds k (into_wand r) (λ p e. entries.scoped.wand preds k r p e s)) (λ p t u. with_first p.first (premises_before n c p.second) t (premises_before_in n c p.second u)))

  -- ---- goals with fewer spatial hypotheses

  keeping_in : (list : List Named) (c : Formula) (g : Goal) → GoalScopedIn preds k g → Scoped preds k c → GoalScopedIn preds k (keeping list c g)
  keeping_in list c g h s = record { pures = h.pures; ints = h.ints; spats = all_filter (λ i. Scoped preds k i.formula) (λ i. is_listed list i.name) g.spats h.spats; concl = s }

  leaving_in : (list : List Named) (c : Formula) (g : Goal) → GoalScopedIn preds k g → Scoped preds k c → GoalScopedIn preds k (leaving list c g)
  leaving_in list c g h s = record { pures = h.pures; ints = h.ints; spats = all_filter (λ i. Scoped preds k i.formula) (λ i. not (is_listed list i.name)) g.spats h.spats; concl = s }

module _ (preds : Preds) (n : ℕ) where
  abbrev In : Work → Type 0
  In w = Inside preds n w

  pub lemma_in : (lemmas : Lemmas) (x : Named) (w : Work) → AreLemmasScoped preds lemmas → In w → InOutcome In (lemma lemmas x w)
  lemma_in lemmas x w given h = named_in preds n 0 (lemma_named x lemmas.list) _ _ _ (lemma_named_in preds x lemmas.list given) (λ f s. (held_then preds n Int f w h (grown preds 0 (length w.goal.vars) f (omega arith) s), tt))

  pub with_term_in : (t : Term) (w : Work) → TermScoped n t → In w → InOutcome In (with_term t w)
  with_term_in t w given h = with_hand_in preds n w _ h (λ hand g. require_entry_in In (into_forall hand.last.formula) _ _ (λ b e.
      let k : ℕ = length w.goal.vars in
      let s = entries.scoped.forall_ preds k hand.last.formula b e g.last in
      (held_then preds n hand.last.kind (opened_of b t) (work_of w.goal hand.others) (record { scoped = record { goal = h.scoped.goal; held = g.others }; least = h.least }) (opened preds k b t s (term_grows n k t h.least given)), tt)))

  -- ---- premises

  record StepIn (s : Step) : Type 0 where
    work : In s.work
    premise : Scoped preds (length s.work.goal.vars) s.premise
    result : Scoped preds (length s.work.goal.vars) s.result

  framed_in : (list : List Named) (g : Goal) → n ≤ length g.vars → IsGoalScoped preds g → InOutcome In (framed list g)
  framed_in [] g le h = (rest_in preds n g le h, tt)
  framed_in (x ∷ xs) g le h = let k : ℕ = length g.vars in
      named_in preds n k (hyp_named x g.spats) _ _ _ (hyp_named_in preds k x g.spats h.spats) (λ r s. named_in preds n k (frame r g.concl) _ _ _ (frame_in preds k r g.concl s h.concl) (λ rest t. chosen_in In (is_truth rest) _ _ (λ e. tt) (λ e.
      framed_in xs (without_spat x (with_concl rest g)) le (without_spat_in preds k x (with_concl rest g) (concl_in preds k rest g h t)))))

  -- the main work, with another goal of the same variables
  main_in : (kind : Kind) (g : Goal) (s : Step) → n ≤ length g.vars → IsGoalScoped preds g → length g.vars ≡ length s.work.goal.vars → StepIn s → In (hold kind s.result (work_of g s.work.held))
  main_in kind g s le h same given = held_then preds n kind s.result (work_of g s.work.held)
      (record { scoped = record { goal = h; held = subst (λ (k : ℕ). AllByRecursion (λ i. Scoped preds k i.formula) s.work.held) (sym same) given.work.scoped.held }; least = le })
      (subst (λ (k : ℕ). Scoped preds k s.result) (sym same) given.result)

  by_pattern_in : (p : S.Spat) (s : Step) → StepIn s → InOutcome In (by_pattern p s)
  unfolding by_pattern
  by_pattern_in (premise.Name x) s h = let k : ℕ = length s.work.goal.vars in
      require_some_in In (held_as x s.work.goal) _ _ _ (λ held e. require_in In (is_premise held s.premise) _ _ _ (λ f.
      (main_in (both_kinds s.kind held.kind) (without_spat x s.work.goal) s h.work.least (without_spat_in preds k x s.work.goal h.work.scoped.goal) refl h, tt)))
  by_pattern_in (premise.Goal picks) s h = let k : ℕ = length s.work.goal.vars in
      let g : Goal = leaving (picked picks) s.work.goal.concl s.work.goal in
      all_spatial_in In s.work.goal (picked picks) _ (joined_in In (framed (picked_framed picks) (keeping (picked picks) s.premise s.work.goal)) (one (hold Spat s.result (work_of g s.work.held)))
      (framed_in (picked_framed picks) (keeping (picked picks) s.premise s.work.goal) h.work.least (keeping_in preds k (picked picks) s.premise s.work.goal h.work.scoped.goal h.premise))
      (main_in Spat g s h.work.least (leaving_in preds k (picked picks) s.work.goal.concl s.work.goal h.work.scoped.goal h.work.scoped.goal.concl) refl h, tt))
  by_pattern_in (premise.Rest list) s h = let k : ℕ = length s.work.goal.vars in
      all_spatial_in In s.work.goal list _ (
        rest_in preds n (leaving list s.premise s.work.goal) h.work.least (leaving_in preds k list s.premise s.work.goal h.work.scoped.goal h.premise),
        (main_in Spat (keeping list s.work.goal.concl s.work.goal) s h.work.least (keeping_in preds k list s.work.goal.concl s.work.goal h.work.scoped.goal h.work.scoped.goal.concl) refl h, tt),
      )
  by_pattern_in premise.Persistent s h = let k : ℕ = length s.work.goal.vars in
      require_plain_in In (is_persistent s.premise) _ _ (λ e. (
        rest_in preds n (with_concl s.premise s.work.goal) h.work.least (concl_in preds k s.premise s.work.goal h.work.scoped.goal h.premise),
        (held_then preds n s.kind s.result s.work h.work h.result, tt),
      ))
  by_pattern_in premise.Pure s h = let k : ℕ = length s.work.goal.vars in
      require_entry_in In (from_pure s.premise) _ _ (λ p e. (
        rest_in preds n (with_concl (Assert p) s.work.goal) h.work.least (concl_in preds k (Assert p) s.work.goal h.work.scoped.goal (entries.scoped.of_pure preds k s.premise p e h.premise)),
        (held_then preds n s.kind s.result s.work h.work h.result, tt),
      ))
  by_pattern_in premise.Done s h = require_plain_in In (is_done (keeping [] s.premise s.work.goal)) _ _ (λ e. (held_then preds n Spat s.result s.work h.work h.result, tt))

  pub with_spat_in : (p : S.Spat) (w : Work) → In w → InOutcome In (with_spat p w)
  with_spat_in p w h = with_hand_in preds n w _ h (λ hand g. require_entry_in In (into_wand hand.last.formula) _ _ (λ parts e.
      let k : ℕ = length w.goal.vars in
      let both = entries.scoped.wand preds k hand.last.formula parts e g.last in
      by_pattern_in p (record { work = work_of w.goal hand.others; kind = hand.last.kind; premise = parts.first; result = parts.second })
      (record { work = record { scoped = record { goal = h.scoped.goal; held = g.others }; least = h.least }; premise = both.0; result = both.1 })))

  pub assert_in : (f : Formula) (p : S.Spat) (w : Work) → Scoped preds n f → In w → InOutcome In (assert f p w)
  assert_in f p w given h =
      let s : Scoped preds (length w.goal.vars) f = grown preds n (length w.goal.vars) f h.least given in
      by_pattern_in p (record { work = w; kind = Int; premise = f; result = f }) (record { work = h; premise = s; result = s })

  -- ---- application

  premise_goal_in : (g : Goal) (qs : List Formula) (p : Formula) → n ≤ length g.vars → IsGoalScoped preds g → Scoped preds (length g.vars) p → In (resting (premise_goal g qs p))
  premise_goal_in g [] p le h s = rest_in preds n (with_concl p g) le (concl_in preds (length g.vars) p g h s)
  premise_goal_in g (q ∷ qs) p le h s = rest_in preds n (keeping [] p g) le (keeping_in preds (length g.vars) [] p g h s)

  premise_goals_in : (g : Goal) (ps : List Formula) → n ≤ length g.vars → IsGoalScoped preds g → AllByRecursion (λ f. Scoped preds (length g.vars) f) ps → Everywhere In (premise_goals g ps)
  premise_goals_in g [] le h s = tt
  premise_goals_in g (p ∷ ps) le h s = (premise_goal_in g ps p le h s.0, premise_goals_in g ps le h s.1)

  pub apply_in : (w : Work) → In w → InOutcome In (apply w)
  apply_in w h = with_hand_in preds n w _ h (λ hand g. require_entry_in In (premises w.goal.concl hand.last.formula) _ _ (λ ps e.
      let k : ℕ = length w.goal.vars in
      premise_goals_in w.goal ps h.least h.scoped.goal (subst (AllIn preds k) e (premises_before_in preds k (nodes_of hand.last.formula) w.goal.concl hand.last.formula g.last))))

  -- ---- framing

  concluding_in : (rest : Formula) (w : Work) → In w → Scoped preds (length w.goal.vars) rest → InOutcome In (concluding rest w)
  concluding_in rest w h s = chosen_in In (is_truth rest) _ _ (λ e. tt) (λ e. (record { scoped = record { goal = concl_in preds (length w.goal.vars) rest w.goal h.scoped.goal s; held = h.scoped.held }; least = h.least }, tt))

  pub frame_held_in : (w : Work) → In w → InOutcome In (frame_held w)
  frame_held_in w h = with_hand_in preds n w _ h (λ hand g.
      let k : ℕ = length w.goal.vars in
      entry_in preds n k (frame hand.last.formula w.goal.concl) _ _ (frame_in preds k hand.last.formula w.goal.concl g.last h.scoped.goal.concl) (λ rest s.
      concluding_in rest (work_of w.goal hand.others) (record { scoped = record { goal = h.scoped.goal; held = g.others }; least = h.least }) s))

  used_up : (x : Named) (w : Work) → In w → In (work_of (without_spat x w.goal) w.held)
  used_up x w h = record { scoped = record { goal = without_spat_in preds (length w.goal.vars) x w.goal h.scoped.goal; held = h.scoped.held }; least = h.least }

  pub frame_named_in : (x : Named) (w : Work) → In w → InOutcome In (frame_named x w)
  frame_named_in x w h = require_some_in In (held_as x w.goal) _ _ _ (λ held e.
      let k : ℕ = length w.goal.vars in
      let s : HeldAsIn preds k (Some held) = subst (HeldAsIn preds k) e (held_as_in preds x w h.scoped) in
      named_in preds n k (frame held.formula w.goal.concl) _ _ _ (frame_in preds k held.formula w.goal.concl s h.scoped.goal.concl) (λ rest t.
      concluding_in rest (work_of (without_spat x w.goal) w.held) (used_up x w h) t))

  passing_in : (x : Named) (w : Work) (o : Option Formula) → In w → OneIn preds (length w.goal.vars) o → InOutcome In (passing x w o)
  passing_in x w (Some rest) h s = concluding_in rest (work_of (without_spat x w.goal) w.held) (used_up x w h) s
  passing_in x w None h s = (h, tt)

  pub frame_member_in : (x : Named) (w : Work) → In w → InOutcome In (frame_member x w)
  frame_member_in x w h = require_some_in In (held_as x w.goal) _ _ _ (λ held e.
      let k : ℕ = length w.goal.vars in
      let s : HeldAsIn preds k (Some held) = subst (HeldAsIn preds k) e (held_as_in preds x w h.scoped) in
      passing_in x w (frame held.formula w.goal.concl) h (frame_in preds k held.formula w.goal.concl s h.scoped.goal.concl))
