-- Conclusions of two parts, of which each is shown by all that the goal has.
use Rattle.std.proofs.Common.{◌≡◌, ℕ, suc, ◌+◌, ◌*◌, ◌≤◌, Bool, true, false, cond, ◌||◌, List, [], ◌∷◌, ◌++◌, length, map, refl, sym, ◌∙◌, ap, subst, arith, Option, Some, None}
use Rattle.std.specs.Prelude.{Result, Err}
use Rattle.pm_logic.specs.declared.formula.Pure as P
use Rattle.pm_logic.specs.declared.formula.Pure.TheVariants.{True, False, Eq, Le, Lt}
use Rattle.pm_logic.specs.declared.formula.Pure.TheViews as pure_view
use Rattle.pm_logic.specs.declared.formula.Formula.{Formula}
use Rattle.pm_logic.specs.declared.formula.Formula.TheVariants.{Pure as Assert, Pts, Call}
use Rattle.pm_logic.specs.declared.formula.Formula.TheViews as view
use Rattle.pm_logic.specs.Trees.{both, either, nope, Sep, Wand, And, Or, Imp, All, Ex, Later, Pers, Upd}
use Rattle.pm_logic.specs.Size.{depth_of, nodes_of}
use Rattle.pm_logic.proofs.Scopes.{scoped_in_sep, and_scoped_in}
use Rattle.pm_logic.proofs.Sizes.{depth_pure, depth_both}
use Rattle.pm_logic.proofs.Views.{view_both, view_sep, view_and}
use Rattle.pm_goal.specs.declared.goal.Goal.{Goal}
use Rattle.pm_goal.specs.declared.work.Work.{Work}
use Rattle.pm_goal.specs.declared.refusal.Row.TheVariants.{ConclusionNotSplit}
use Rattle.pm_goal.specs.declared.refusal.StepFault.{StepFault}
use Rattle.pm_goal.specs.declared.refusal.StepFault.TheVariants as fault
use Rattle.pm_goal.specs.declared.work.Held.{Held}
use Rattle.pm_goal.specs.Left.{facts, hyps, left_of_work}
use Rattle.pm_rules.specs.declared.rules.Entail.{Entail}
use Rattle.pm_proof.specs.Trees.{Tree, entail, conclusion}
use Rattle.pm_proof.specs.Valid.{EntailScoped}
use Rattle.pm_proof.specs.Known.{Proves, Every, ScopedWhere}
use Rattle.pm_proof.specs.declared.proof.Parts.{Parts}
use Rattle.pm_proof.proofs.Fills.{weaker}
use Rattle.pm_schemes.specs.Sketches.{deepest}
use Rattle.pm_star.specs.Chains.{ChainProves, across}
use Rattle.pm_schemes.proofs.Scopes.{two_scoped}
use Rattle.pm_rules.specs.declared.pattern.Binary.TheVariants as binary
use Rattle.pm_classes.specs.declared.entry.Pair.{Pair}
use Rattle.pm_classes.specs.Classes as classes
use Rattle.pm_classes.specs.Classes.{into_sep}
use Rattle.pm_classes.specs.Entries.{IsHanded as IsFormulaHanded, IsPair, PairAnswers, sep_says, HasProof}
use Rattle.pm_classes.specs.Persistence.{is_persistent}
use Rattle.pm_classes.proofs.Sizes.{has_nodes, depth_sep, depth_and, nodes_sep, nodes_and}
use Rattle.pm_table.specs.declared.place.Place.{Place}
use Rattle.pm_table.specs.declared.place.Place.TheVariants.{Current as current}
use Rattle.pm_table.specs.Outcomes.{Outcome, require_entry}
use Rattle.pm_table.specs.Limits.{limited, resting, work_formulas, formulas, all_nodes}
use Rattle.pm_table.specs.Basic.{for, on_goal, split, split_parts, gives_goals}
use Rattle.pm_action.specs.Meanings.{meaning, meanings, room, width}
use Rattle.pm_action.specs.Acting.{IsActed, Answers, Ends, plainly}
use Rattle.pm_action.proofs.Heights.{concl_depth, concl_height, star_height}
use Rattle.pm_action.proofs.Moves.{few}
use Rattle.pm_action.proofs.Sums.{nodes_append}
use Rattle.pm_basic.specs.Halves.{both_say, SplitAnswer, AreHalves, Joined}
use Rattle.pm_basic.proofs.Ending.{on_rest, rested, refused_plainly}

-- ---- entries

module _ (k : ℕ) (a b : Formula) where
  pub and_pair : (c f g : Formula) (t : Tree) → c ≡ view.And a b → f ≡ a → g ≡ b → Proves Every (entail k c c) [] 1 (deepest (c ∷ []) []) k t → IsPair (both_say k c) k c (classes.parts a b) (record { first = f; second = g; proof = t })
  and_pair c f g t is fs gs p =
      let far : HasProof k c (entail k c c) t = weaker Every (entail k c c) [] 1 (deepest (c ∷ []) []) k (200 * nodes_of c) (depth_of c + 8) (k + depth_of c) t (omega (arith, has_nodes c)) (omega arith) (omega arith) p in
      record { first = fs; second = gs; proof = subst (λ (x : Formula). HasProof k c (entail k x c) t) is far }

  -- the conjunction is as large as the star
  and_depth : depth_of (view.And a b) ≡ depth_of (view.Sep a b)
  and_depth = depth_and a b ∙ sym (depth_sep a b)

  and_nodes : nodes_of (view.And a b) ≡ nodes_of (view.Sep a b)
  and_nodes = nodes_and a b ∙ sym (nodes_sep a b)

  pub and_handed : (c : Formula) → c ≡ view.And a b → IsFormulaHanded k (view.Sep a b) → IsFormulaHanded k c
  and_handed c is h =
      let s = scoped_in_sep k a b h.scoped in
      subst (IsFormulaHanded k) (sym is) (record { scoped = and_scoped_in k a b s.0 s.1; within = omega (arith, h.within, and_depth) })

  in_star : (r : Bool) (e : Option Pair) → PairAnswers (sep_says k (view.And a b)) k (view.And a b) (cond r (Some (classes.parts a b)) None) e → PairAnswers (both_say k (view.Sep a b)) k (view.Sep a b) (cond r (Some (classes.parts a b)) None) e
  in_star true None h = h
  in_star false None h = h
  in_star false (Some e) h = h
  in_star true (Some e) h = record {
    first = h.first;
    second = h.second;
    proof =
        let says : Entail = entail k (view.And a b) (view.Sep a b) in
        weaker Every says [] (200 * nodes_of (view.And a b)) (depth_of (view.And a b) + 8) (k + depth_of (view.And a b)) (200 * nodes_of (view.Sep a b)) (depth_of (view.Sep a b) + 8) (k + depth_of (view.Sep a b)) e.proof
        (omega (arith, and_nodes)) (omega (arith, and_depth)) (omega (arith, and_depth)) h.proof;
  }

  -- the entry of the conjunction as a star is that of the star
  pub star_answer : (c : Formula) (e : Option Pair) → c ≡ view.And a b → PairAnswers (sep_says k c) k c (into_sep c) e → SplitAnswer k (view.Sep a b) e
  unfolding into_sep
  star_answer c e is h =
      let h1 : PairAnswers (sep_says k (view.And a b)) k (view.And a b) (into_sep (view.And a b)) e = subst (λ (x : Formula). PairAnswers (sep_says k x) k x (into_sep x) e) is h in
      let entry : into_sep (view.And a b) ≡ cond (is_persistent a || is_persistent b) (Some (classes.parts a b)) None = ap into_sep (view_and a b) in
      let row : split_parts (view.Sep a b) ≡ cond (is_persistent a || is_persistent b) (Some (classes.parts a b)) None = ap split_parts (view_sep a b) in
      subst (λ (o : Option classes.Parts). PairAnswers (both_say k (view.Sep a b)) k (view.Sep a b) o e) (sym row)
      (in_star (is_persistent a || is_persistent b) e (subst (λ (o : Option classes.Parts). PairAnswers (sep_says k (view.And a b)) k (view.And a b) o e) entry h1))

module _ (k : ℕ) (p q : P.Pure) where
  pub both_pair : (f g : Formula) (t : Tree) → f ≡ Assert p → g ≡ Assert q → Proves Every (entail k (view.And (Assert p) (Assert q)) (Assert (pure_view.And p q))) [] 1 (deepest [] (p ∷ q ∷ []) + 2) k t
      → IsPair (both_say k (Assert (pure_view.And p q))) k (Assert (pure_view.And p q)) (classes.parts (Assert p) (Assert q)) (record { first = f; second = g; proof = t })
  both_pair f g t fs gs h =
      let c : Formula = Assert (pure_view.And p q) in
      record {
        first = fs;
        second = gs;
        proof = weaker Every (entail k (view.And (Assert p) (Assert q)) c) [] 1 (deepest [] (p ∷ q ∷ []) + 2) k (200 * nodes_of c) (depth_of c + 8) (k + depth_of c) t (omega (arith, has_nodes c)) (omega (arith, depth_pure (pure_view.And p q), depth_both p q)) (omega arith) h;
      }

module _ (k : ℕ) where
  pub pure_both : (fact p q : P.Pure) (r : Pair) → fact ≡ pure_view.And p q → IsPair (both_say k (Assert (pure_view.And p q))) k (Assert (pure_view.And p q)) (classes.parts (Assert p) (Assert q)) r → SplitAnswer k (Assert fact) (Some r)
  pure_both fact p q r is h =
      subst (λ (x : P.Pure). SplitAnswer k (Assert x) (Some r)) (sym (is ∙ view_both p q))
      (subst (λ (x : P.Pure). IsPair (both_say k (Assert x)) k (Assert x) (classes.parts (Assert p) (Assert q)) r) (view_both p q) h)

  pub pure_no_both : (fact : P.Pure) → ((p q : P.Pure) → ¬ (fact ≡ pure_view.And p q)) → SplitAnswer k (Assert fact) None
  pure_no_both True never = tt
  pure_no_both False never = tt
  pure_no_both (Eq s t) never = tt
  pure_no_both (Le s t) never = tt
  pure_no_both (Lt s t) never = tt
  pure_no_both (both p q) never = absurd (never p q (sym (view_both p q)))
  pure_no_both (either p q) never = tt
  pure_no_both (nope p) never = tt

  pub formula_and : (c a b : Formula) (r : Pair) → c ≡ view.And a b → IsPair (both_say k c) k c (classes.parts a b) r → SplitAnswer k c (Some r)
  formula_and c a b r is h =
      let e : c ≡ And a b = is ∙ view_and a b in
      subst (λ (x : Formula). SplitAnswer k x (Some r)) (sym e) (subst (λ (x : Formula). IsPair (both_say k x) k x (classes.parts a b) r) e h)

  pub formula_sep : (c a b : Formula) (e : Option Pair) → c ≡ view.Sep a b → SplitAnswer k (view.Sep a b) e → SplitAnswer k c e
  formula_sep c a b e is h = subst (λ (x : Formula). SplitAnswer k x e) (sym is) h

  pub formula_no_half : (c : Formula) → ((a b : Formula) → ¬ (c ≡ view.And a b)) → ((p : P.Pure) → ¬ (c ≡ Assert p)) → ((a b : Formula) → ¬ (c ≡ view.Sep a b)) → SplitAnswer k c None
  formula_no_half (And a b) no_and no_pure no_sep = absurd (no_and a b (sym (view_and a b)))
  formula_no_half (Assert p) no_and no_pure no_sep = absurd (no_pure p refl)
  formula_no_half (Sep a b) no_and no_pure no_sep = absurd (no_sep a b (sym (view_sep a b)))
  formula_no_half (Or a b) no_and no_pure no_sep = tt
  formula_no_half (Wand a b) no_and no_pure no_sep = tt
  formula_no_half (Imp a b) no_and no_pure no_sep = tt
  formula_no_half (All a) no_and no_pure no_sep = tt
  formula_no_half (Ex a) no_and no_pure no_sep = tt
  formula_no_half (Later a) no_and no_pure no_sep = tt
  formula_no_half (Pers a) no_and no_pure no_sep = tt
  formula_no_half (Upd a) no_and no_pure no_sep = tt
  formula_no_half (Pts l u v) no_and no_pure no_sep = tt
  formula_no_half (Call q args) no_and no_pure no_sep = tt

-- ---- both goals

module _ (g : Goal) (a b : Formula) where
  abbrev halves : List Place
  halves = current [] (resting (for a g)) ∷ current [] (resting (for b g)) ∷ []

  joined_rest : (l : Formula) (closing step t : Tree) (n d q : ℕ) → l ≡ left_of_work (resting g) → room (resting g) halves ≤ d → length g.vars ≤ q
      → Proves Every (entail (length g.vars) l (view.And a b)) (entail (length g.vars) l a ∷ entail (length g.vars) l b ∷ []) 1 (deepest (l ∷ a ∷ b ∷ []) [] + 1) (length g.vars) step
      → ChainProves step closing t → Proves Every (entail (length g.vars) (view.And a b) g.concl) [] n d q closing
      → Proves Every (meaning (resting g)) (meanings halves) (n + 2) d q t
  joined_rest l closing step t n d q is deep wide p chain known =
      let w : Work = resting g in
      let k : ℕ = length g.vars in
      let l1 : Formula = left_of_work w in
      let f : Formula = view.And a b in
      let p1 : Proves Every (entail k l1 f) (meanings halves) 1 (deepest (l1 ∷ a ∷ b ∷ []) [] + 1) k step = subst (λ (x : Formula). Proves Every (entail k x f) (entail k x a ∷ entail k x b ∷ []) 1 (deepest (x ∷ a ∷ b ∷ []) [] + 1) k step) is p in
      let p2 : Proves Every (entail k l1 f) (meanings halves) 1 d q step = weaker Every (entail k l1 f) (meanings halves) 1 (deepest (l1 ∷ a ∷ b ∷ []) [] + 1) k 1 d q step (omega arith) (omega (arith, deep, star_height w, concl_height (resting (for a g)), concl_height (resting (for b g)))) wide p1 in
      let p3 : Proves Every (conclusion step) (meanings halves) 1 d q step = subst (λ (e : Entail). Proves Every e (meanings halves) 1 d q step) (sym p1.concludes) p2 in
      let known1 : Proves Every (conclusion closing) [] n d q closing = subst (λ (e : Entail). Proves Every e [] n d q closing) (sym known.concludes) known in
      let over : across step closing ≡ meaning w = ap (λ (e : Entail). entail e.vars e.left (conclusion closing).right) p1.concludes ∙ ap (λ (e : Entail). entail k l1 e.right) known.concludes in
      let scope : ScopedWhere (across step closing) (meanings halves) (conclusion step) = λ preds e hs.
      subst (EntailScoped preds) (sym p1.concludes) ((subst (EntailScoped preds) over e).0, two_scoped preds k binary.And a b hs.0.1 hs.1.0.1) in
      let all : Proves Every (across step closing) (meanings halves) (1 + n + 1) d q t = chain Every (meanings halves) [] 1 n d q p3 known1 scope in
      weaker Every (meaning w) (meanings halves) (1 + n + 1) d q (n + 2) d q t (omega arith) (omega arith) (omega arith) (subst (λ (e : Entail). Proves Every e (meanings halves) (1 + n + 1) d q t) over all)

pub joined_done : (w : Work) (a b l : Formula) (k : ℕ) (closing step t : Tree) → k ≡ length w.goal.vars → l ≡ left_of_work w
    → Proves Every (entail k l (view.And a b)) (entail k l a ∷ entail k l b ∷ []) 1 (deepest (l ∷ a ∷ b ∷ []) [] + 1) k step → ChainProves step closing t → Joined w a b closing t
joined_done w a b l k closing step t vars is p chain n d q deep wide nothing known =
    let same : w ≡ resting w.goal = rested w nothing in
    let p1 = subst (λ (j : ℕ). Proves Every (entail j l (view.And a b)) (entail j l a ∷ entail j l b ∷ []) 1 (deepest (l ∷ a ∷ b ∷ []) [] + 1) j step) vars p in
    let deep1 : room (resting w.goal) (halves w.goal a b) ≤ d = subst (λ (x : Work). room x (halves w.goal a b) ≤ d) same deep in
    subst (λ (x : Work). Proves Every (meaning x) (meanings (halves w.goal a b)) (n + 2) d q t) (sym same)
    (joined_rest w.goal a b l closing step t n d q (is ∙ ap left_of_work same) deep1 wide p1 chain known)

-- ---- the row

-- the conclusion's nodes are some of the work's
concl_nodes : (w : Work) → nodes_of w.goal.concl ≤ all_nodes (work_formulas w)
concl_nodes w =
    let g : Goal = w.goal in
    let inner : List Formula = hyps g.spats ++ (g.concl ∷ []) in
    omega (arith, nodes_append (formulas g) (map (λ (h : Held). h.formula) w.held), nodes_append (facts g.pures) (hyps g.ints ++ inner), nodes_append (hyps g.ints) inner, nodes_append (hyps g.spats) (g.concl ∷ []))

module _ (w : Work) (nothing : w.held ≡ []) where
  abbrev two_goals : Formula → Formula → Outcome
  two_goals a b = gives_goals (for a w.goal) (for b w.goal)

  pub split_ends : (e : Pair) (first second : Work) (t : Tree) (r : Result (Parts Place) StepFault) → AreHalves (length w.goal.vars) w.goal.concl e
      → first ≡ resting (for e.first w.goal) → second ≡ resting (for e.second w.goal)
      → Joined w e.first e.second e.proof t → Ends (current [] first ∷ current [] second ∷ []) t r
      → Answers (all_nodes (work_formulas w)) w (limited (two_goals e.first e.second)) r
  split_ends e first second t r halved is1 is2 joined ends =
      let s : ℕ = all_nodes (work_formulas w) in
      let k : ℕ = length w.goal.vars in
      let c : Formula = w.goal.concl in
      let a : Formula = e.first in
      let b : Formula = e.second in
      let ps : List Place = halves w.goal a b in
      let d : ℕ = room w ps in
      let n : ℕ = 200 * nodes_of c in
      let from : Entail = entail k (view.And a b) c in
      let known : Proves Every from [] n d (width w) e.proof = weaker Every from [] n (depth_of c + 8) (k + depth_of c) n d (width w) e.proof (omega arith) (omega (arith, concl_height w)) (omega (arith, concl_depth w)) halved in
      let all : Proves Every (meaning w) (meanings ps) (n + 2) d (width w) t = joined n d (width w) (omega arith) (omega arith) nothing known in
      let bound : n + 2 ≤ 1000 * (suc s * suc s) = few s (n + 2) (omega (arith, concl_nodes w)) in
      let acted : IsActed s w ps t = weaker Every (meaning w) (meanings ps) (n + 2) d (width w) (1000 * (suc s * suc s)) d (width w) t bound (omega arith) (omega arith) all in
      let ends1 : Ends ps t r = subst (λ (x : Work). Ends (current [] (resting (for a w.goal)) ∷ current [] x ∷ []) t r) is2 (subst (λ (x : Work). Ends (current [] x ∷ current [] second ∷ []) t r) is1 ends) in
      ends1 s w acted

  abbrev given : ℕ → Option Pair → Type 0
  given j q = SplitAnswer j w.goal.concl q

  halves_given : (o : Option classes.Parts) (e : Pair) → PairAnswers (both_say (length w.goal.vars) w.goal.concl) (length w.goal.vars) w.goal.concl o (Some e) → AreHalves (length w.goal.vars) w.goal.concl e
  halves_given None e h = absurd h
  halves_given (Some p) e h =
      let k : ℕ = length w.goal.vars in
      let c : Formula = w.goal.concl in
      subst (λ (x : Formula). HasProof k c (entail k (view.And e.first x) c) e.proof) (sym h.second) (subst (λ (x : Formula). HasProof k c (entail k (view.And x p.second) c) e.proof) (sym h.first) h.proof)

  row_given : (s : ℕ) (o : Option classes.Parts) (e : Pair) (r : Result (Parts Place) StepFault) → PairAnswers (both_say (length w.goal.vars) w.goal.concl) (length w.goal.vars) w.goal.concl o (Some e)
      → Answers s w (limited (two_goals e.first e.second)) r → Answers s w (limited (require_entry o ConclusionNotSplit (λ x. two_goals x.first x.second))) r
  row_given s None e r h ends = absurd h
  row_given s (Some p) e r h ends = subst (λ (f : Formula). Answers s w (limited (two_goals p.first f)) r) h.second (subst (λ (f : Formula). Answers s w (limited (two_goals f e.second)) r) h.first ends)

  row_missing : (s : ℕ) (o : Option classes.Parts) (f : StepFault) → PairAnswers (both_say (length w.goal.vars) w.goal.concl) (length w.goal.vars) w.goal.concl o None
      → f ≡ fault.Refused (plainly ConclusionNotSplit) → Answers s w (limited (require_entry o ConclusionNotSplit (λ x. two_goals x.first x.second))) (Err f)
  row_missing s None f h e = refused_plainly s w ConclusionNotSplit f e
  row_missing s (Some p) f h e = absurd h

  module _ (k : ℕ) (o : Option Pair) (vars : k ≡ length w.goal.vars) (answer : SplitAnswer k w.goal.concl o) where
    pub split_halves : (e : Pair) → o ≡ Some e → AreHalves (length w.goal.vars) w.goal.concl e
    split_halves e is = halves_given (split_parts w.goal.concl) e (subst (λ (j : ℕ). given j (Some e)) vars (subst (λ (q : Option Pair). given k q) is answer))

    pub split_done : (e : Pair) (r : Result (Parts Place) StepFault) → o ≡ Some e → Answers (all_nodes (work_formulas w)) w (limited (two_goals e.first e.second)) r → Answers (all_nodes (work_formulas w)) w (limited (on_goal split w)) r
    split_done e r is ends =
        let s : ℕ = all_nodes (work_formulas w) in
        on_rest s w split r nothing (row_given s (split_parts w.goal.concl) e r (subst (λ (j : ℕ). given j (Some e)) vars (subst (λ (q : Option Pair). given k q) is answer)) ends)

    pub split_refused : (f : StepFault) → o ≡ None → f ≡ fault.Refused (plainly ConclusionNotSplit) → Answers (all_nodes (work_formulas w)) w (limited (on_goal split w)) (Err f)
    split_refused f is e =
        let s : ℕ = all_nodes (work_formulas w) in
        on_rest s w split (Err f) nothing (row_missing s (split_parts w.goal.concl) f (subst (λ (j : ℕ). given j None) vars (subst (λ (q : Option Pair). given k q) is answer)) e)
