-- What is left of a goal where its facts stay alone.
use Rattle.std.proofs.Common.{◌≡◌, ℕ, ◌+◌, ◌*◌, ◌-◌, ◌≤◌, List, [], ◌∷◌, ◌++◌, length, map, refl, sym, ◌∙◌, ap, subst, arith, Option, Some, None}
use Rattle.std.specs.Prelude.{Result, Err}
use Rattle.std.proofs.lemmas.List.{length-map}
use Rattle.pm_logic.specs.declared.formula.Pure as P
use Rattle.pm_logic.specs.declared.formula.Pure.TheVariants as pure
use Rattle.pm_logic.specs.declared.formula.Formula.{Formula}
use Rattle.pm_logic.specs.declared.formula.Formula.TheVariants.{Pure as Assert}
use Rattle.pm_logic.specs.Scope.{Scoped}
use Rattle.pm_logic.specs.Size.{depth_of, nodes_of}
use Rattle.pm_goal.specs.declared.goal.Fact.{Fact}
use Rattle.pm_goal.specs.declared.goal.Goal.{Goal}
use Rattle.pm_goal.specs.declared.work.Kind.TheVariants.{Int}
use Rattle.pm_goal.specs.declared.work.Held.{Held}
use Rattle.pm_goal.specs.declared.work.Work.{Work}
use Rattle.pm_goal.specs.declared.refusal.Row.TheVariants.{ConclusionNotPure}
use Rattle.pm_goal.specs.declared.refusal.StepFault.{StepFault}
use Rattle.pm_goal.specs.declared.refusal.StepFault.TheVariants as fault
use Rattle.pm_goal.specs.Left.{star_onto, facts, hyps, hyps_as, left_of, left_of_work}
use Rattle.pm_rules.specs.declared.rules.Entail.{Entail}
use Rattle.pm_proof.specs.Trees.{Tree, Hole, entail, conclusion}
use Rattle.pm_proof.specs.Known.{Proves, Extends, Every}
use Rattle.pm_proof.specs.declared.proof.Parts.{Parts}
use Rattle.pm_proof.proofs.Fills.{weaker, extends_weaker, extends_proves}
use Rattle.pm_schemes.specs.Sketches.{deepest}
use Rattle.pm_classes.specs.declared.entry.OnePure.{OnePure}
use Rattle.pm_classes.specs.Classes.{from_pure}
use Rattle.pm_classes.specs.Entries.{FromPureAnswer, PureAnswers, HasProof, from_pure_says}
use Rattle.pm_star.specs.Stars.{star, room as star_room}
use Rattle.pm_star.specs.Levels.{Around, IsBehind, left_side, right_side}
use Rattle.pm_star.specs.Chains.{ChainProves, across}
use Rattle.pm_star.proofs.Scoping.{scoped_onto, truth_scoped, depth_sep}
use Rattle.pm_table.specs.declared.place.Place.{Place}
use Rattle.pm_table.specs.declared.place.Place.TheVariants.{Current as current}
use Rattle.pm_table.specs.Outcomes.{Outcome, require_entry}
use Rattle.pm_table.specs.Limits.{limited, resting, formulas, work_formulas, all_nodes}
use Rattle.pm_table.specs.Running.{rules_within}
use Rattle.pm_table.specs.Basic.{on_goal, gives_goal}
use Rattle.pm_table.specs.Rewriting.{pure_intro}
use Rattle.pm_action.specs.Meanings.{meaning, height, room, width}
use Rattle.pm_action.specs.Acting.{IsActed, Answers, Ends, plainly}
use Rattle.pm_action.proofs.Sums.{nodes_append}
use Rattle.pm_action.proofs.Heights.{concl_height, concl_depth, star_height, parts_nodes, parts_are}
use Rattle.pm_action.proofs.Moves.{few}
use Rattle.pm_pure.specs.Goals.{factless, facts_alone, IsFollowed, FactsReached}
use Rattle.pm_pure.proofs.Chaining.{chained, hole_proves, on_rest, refused_plainly, rested}

-- ---- the star of the facts

-- the star is that of the others, behind the facts
onto_facts : (g : Goal) → left_of g ≡ star_onto (facts g.pures) (left_of (factless g))
unfolding star_onto
onto_facts g = refl

alone_star : (g : Goal) (p : P.Pure) → left_of_work (resting (facts_alone g p)) ≡ star (facts g.pures)
unfolding star_onto
alone_star g p = refl

rest_star : (g : Goal) → left_of_work (resting g) ≡ left_of g
unfolding star_onto
rest_star g = refl

-- what stands at the end of a star isn't deeper
end_deep : (fs : List Formula) (end : Formula) → depth_of end ≤ depth_of (star_onto fs end)
unfolding star_onto
end_deep [] end = omega arith
end_deep (f ∷ fs) end = omega (arith, end_deep fs end, depth_sep f (star_onto fs end))

-- a star of deeper ends is deeper
ends_deep : (fs : List Formula) (a b : Formula) → depth_of a ≤ depth_of b → depth_of (star_onto fs a) ≤ depth_of (star_onto fs b)
unfolding star_onto
ends_deep [] a b le = le
ends_deep (f ∷ fs) a b le = omega (arith, ends_deep fs a b le, depth_sep f (star_onto fs a), depth_sep f (star_onto fs b))

others_deep : (g : Goal) → depth_of (Assert pure.True) ≤ depth_of (left_of (factless g))
unfolding star_onto
others_deep g = omega (arith, end_deep (hyps_as Int g.ints) (star_onto (hyps g.spats) (Assert pure.True)), end_deep (hyps g.spats) (Assert pure.True))

facts_rest : (g : Goal) (k : ℕ) (parts : List Formula) (inner t : Tree) → k ≡ length g.vars → parts ≡ facts g.pures
    → Proves Every (entail k (left_of (factless g)) (Assert pure.True)) [] 1 (deepest (left_of (factless g) ∷ []) [] + 2) k inner
    → IsBehind k parts 0 inner t
    → Proves Every (entail (length g.vars) (left_of g) (star (facts g.pures))) [] (2 * length g.pures + 1) (height (resting g) + 16) (length g.vars) t
facts_rest g k parts inner t vars is p behind =
    let fs : List Formula = facts g.pures in
    let others : Formula = left_of (factless g) in
    let truth : Formula = Assert pure.True in
    let n : ℕ = 2 * (length fs - 0) in
    let d : ℕ = height (resting g) + 16 in
    let x1 : Around k n inner (star_onto fs (left_side inner)) (star_onto fs (right_side inner)) t = subst (λ ps. Around k (2 * (length ps - 0)) inner (star_onto ps (left_side inner)) (star_onto ps (right_side inner)) t) is behind.known in
    let x2 : Around k n inner (star_onto fs others) (star_onto fs truth) t = subst (λ (e : Entail). Around k n inner (star_onto fs e.left) (star_onto fs e.right) t) p.concludes x1 in
    let x3 : Around k n inner (left_of g) (star fs) t = subst (λ l. Around k n inner l (star fs) t) (sym (onto_facts g)) x2 in
    let tall : depth_of (left_of g) ≤ height (resting g) + 1 = subst (λ l. depth_of l ≤ height (resting g) + 1) (rest_star g) (star_height (resting g)) in
    let same : depth_of (left_of g) ≡ depth_of (star_onto fs others) = ap depth_of (onto_facts g) in
    let x4 : Extends inner (entail k (left_of g) (star fs)) n d k t = extends_weaker inner t (entail k (left_of g) (star fs)) n (star_room (left_of g) (star fs)) k n d k (omega arith) (omega (arith, tall, same, ends_deep fs truth others (others_deep g))) (omega arith) x3 in
    let by1 : Proves Every (entail k others truth) [] 1 d k inner = weaker Every (entail k others truth) [] 1 (deepest (others ∷ []) [] + 2) k 1 d k inner (omega arith) (omega (arith, tall, same, end_deep fs others)) (omega arith) p in
    let all : Proves Every (entail k (left_of g) (star fs)) [] (1 + n) d k t = extends_proves Every inner t (entail k others truth) (entail k (left_of g) (star fs)) [] 1 n d k by1 x4
    (λ preds s hs. ((scoped_onto preds k fs others (subst (Scoped preds k) (onto_facts g) s.0)).1, truth_scoped preds k)) in
    let few : 1 + n ≤ 2 * length g.pures + 1 = omega (arith, length-map g.pures (λ (f : Fact). Assert f.pure)) in
    subst (λ j. Proves Every (entail j (left_of g) (star fs)) [] (2 * length g.pures + 1) d j t) vars
    (weaker Every (entail k (left_of g) (star fs)) [] (1 + n) d k (2 * length g.pures + 1) d k t few (omega arith) (omega arith) all)

pub facts_reached : (w : Work) (k : ℕ) (parts : List Formula) (inner t : Tree) → w.held ≡ [] → k ≡ length w.goal.vars → parts ≡ facts w.goal.pures
    → Proves Every (entail k (left_of (factless w.goal)) (Assert pure.True)) [] 1 (deepest (left_of (factless w.goal) ∷ []) [] + 2) k inner
    → IsBehind k parts 0 inner t → FactsReached w t
facts_reached w k parts inner t nothing vars is p behind =
    let g : Goal = w.goal in
    subst (λ (x : Work). FactsReached x t) (sym (rested w nothing))
    (subst (λ l. Proves Every (entail (length g.vars) l (star (facts g.pures))) [] (2 * length g.pures + 1) (height (resting g) + 16) (length g.vars) t) (sym (rest_star g))
    (facts_rest g k parts inner t vars is p behind))

-- ---- the entry

module _ (w : Work) where
  abbrev k : ℕ
  k = length w.goal.vars

  abbrev c : Formula
  c = w.goal.concl

  abbrev row : Option P.Pure → Outcome
  row o = require_entry o ConclusionNotPure (λ p. gives_goal (facts_alone w.goal p))

  given : (o : Option P.Pure) (e : OnePure) → PureAnswers (from_pure_says k c) k c o (Some e) → IsFollowed w e
  given None e h = absurd h
  given (Some p) e h = subst (λ (x : P.Pure). HasProof k c (from_pure_says k c x) e.proof) (sym h.pure) h.proof

  row_given : (s : ℕ) (o : Option P.Pure) (e : OnePure) (r : Result (Parts Place) StepFault) → PureAnswers (from_pure_says k c) k c o (Some e)
      → Answers s w (limited (gives_goal (facts_alone w.goal e.pure))) r → Answers s w (limited (row o)) r
  row_given s None e r h ends = absurd h
  row_given s (Some p) e r h ends = subst (λ (x : P.Pure). Answers s w (limited (gives_goal (facts_alone w.goal x))) r) h.pure ends

  row_missing : (s : ℕ) (o : Option P.Pure) (f : StepFault) → PureAnswers (from_pure_says k c) k c o None → f ≡ fault.Refused (plainly ConclusionNotPure) → Answers s w (limited (row o)) (Err f)
  row_missing s None f h e = refused_plainly s w ConclusionNotPure f e
  row_missing s (Some p) f h e = absurd h

  concl_nodes : nodes_of c ≤ all_nodes (work_formulas w)
  concl_nodes =
      let g : Goal = w.goal in
      let inner : List Formula = hyps g.spats ++ (g.concl ∷ []) in
      omega (arith, nodes_append (formulas g) (map (λ (h : Held). h.formula) w.held), nodes_append (facts g.pures) (hyps g.ints ++ inner), nodes_append (hyps g.ints) inner, nodes_append (hyps g.spats) (g.concl ∷ []))

  module _ (j : ℕ) (o : Option OnePure) (vars : j ≡ length w.goal.vars) (answer : FromPureAnswer j w.goal.concl o) where
    at_vars : (q : Option OnePure) → o ≡ q → FromPureAnswer k c q
    at_vars q is = subst (λ (i : ℕ). FromPureAnswer i c q) vars (subst (λ (x : Option OnePure). FromPureAnswer j c x) is answer)

    pub entry_follows : (e : OnePure) → o ≡ Some e → IsFollowed w e
    entry_follows e is = given (from_pure c) e (at_vars (Some e) is)

    pub intro_done : (e : OnePure) (r : Result (Parts Place) StepFault) → w.held ≡ [] → o ≡ Some e
        → Answers (all_nodes (work_formulas w)) w (limited (gives_goal (facts_alone w.goal e.pure))) r → Answers (all_nodes (work_formulas w)) w (limited (on_goal pure_intro w)) r
    intro_done e r nothing is ends =
        let s : ℕ = all_nodes (work_formulas w) in
        on_rest s w pure_intro r nothing (row_given s (from_pure c) e r (at_vars (Some e) is) ends)

    pub intro_refused : (f : StepFault) → w.held ≡ [] → o ≡ None → f ≡ fault.Refused (plainly ConclusionNotPure) → Answers (all_nodes (work_formulas w)) w (limited (on_goal pure_intro w)) (Err f)
    intro_refused f nothing is e =
        let s : ℕ = all_nodes (work_formulas w) in
        on_rest s w pure_intro (Err f) nothing (row_missing s (from_pure c) f (at_vars None is) e)

  -- from the star to the star of the facts, from there to the fact, and from that to the conclusion
  entered_as : (e : OnePure) (first hole shown t : Tree) (r : Result (Parts Place) StepFault) → IsFollowed w e → FactsReached w first
      → hole ≡ Hole (meaning (resting (facts_alone w.goal e.pure))) → ChainProves hole e.proof shown → ChainProves first shown t → Ends (current [] (resting (facts_alone w.goal e.pure)) ∷ []) t r
      → Answers (all_nodes (work_formulas w)) w (limited (gives_goal (facts_alone w.goal e.pure))) r
  entered_as e first hole shown t r follows reached wants chain1 chain2 ends =
      let s : ℕ = all_nodes (work_formulas w) in
      let new : Work = resting (facts_alone w.goal e.pure) in
      let ps : List Place = current [] new ∷ [] in
      let d : ℕ = room w ps in
      let q : ℕ = width w in
      let n : ℕ = 200 * nodes_of c in
      let m : ℕ = 2 * length w.goal.pures + 1 in
      let l : Formula = left_of_work w in
      let x : Formula = left_of_work new in
      let f : Formula = Assert e.pure in
      let hole1 : Proves Every (entail k x f) (meaning new ∷ []) 0 d q hole =
      subst (λ (y : Tree). Proves Every (entail k x f) (meaning new ∷ []) 0 d q y) (sym wants)
      (weaker Every (meaning new) (meaning new ∷ []) 0 (height new + 16) k 0 d q (Hole (meaning new)) (omega arith) (omega arith) (omega arith) (hole_proves new)) in
      let entry1 : Proves Every (entail k f c) [] n d q e.proof = weaker Every (entail k f c) [] n (depth_of c + 8) (k + depth_of c) n d q e.proof (omega arith) (omega (arith, concl_height w)) (omega (arith, concl_depth w)) follows in
      let shown1 : Proves Every (entail k x c) (meaning new ∷ []) (0 + n + 1) d q shown = chained k 0 n d q x f c (meaning new ∷ []) [] hole e.proof shown hole1 entry1 (λ preds whole all. all.0.1) chain1 in
      let first1 : Proves Every (entail k l x) [] m d q first = weaker Every (entail k l x) [] m (height w + 16) k m d q first (omega arith) (omega arith) (omega arith)
      (subst (λ (y : Formula). Proves Every (entail k l y) [] m (height w + 16) k first) (sym (alone_star w.goal e.pure)) reached) in
      let all : Proves Every (entail k l c) (meaning new ∷ []) (m + (0 + n + 1) + 1) d q t = chained k m (0 + n + 1) d q l x c [] (meaning new ∷ []) first shown t first1 shown1 (λ preds whole hs. hs.0.0) chain2 in
      let bound : m + (0 + n + 1) + 1 ≤ rules_within s = few s (m + (0 + n + 1) + 1) (omega (arith, concl_nodes, parts_nodes w, parts_are w)) in
      let acted : IsActed s w ps t = weaker Every (meaning w) (meaning new ∷ []) (m + (0 + n + 1) + 1) d q (rules_within s) d q t bound (omega arith) (omega arith) all in
      ends s w acted

  pub entered : (e : OnePure) (new : Work) (first hole shown t : Tree) (r : Result (Parts Place) StepFault) → IsFollowed w e → new ≡ resting (facts_alone w.goal e.pure) → FactsReached w first
      → hole ≡ Hole (meaning new) → ChainProves hole e.proof shown → ChainProves first shown t → Ends (current [] new ∷ []) t r
      → Answers (all_nodes (work_formulas w)) w (limited (gives_goal (facts_alone w.goal e.pure))) r
  entered e new first hole shown t r follows is reached wants chain1 chain2 ends =
      entered_as e first hole shown t r follows reached (wants ∙ ap (λ (y : Work). Hole (meaning y)) is) chain1 chain2 (subst (λ (y : Work). Ends (current [] y ∷ []) t r) is ends)

-- ---- where the proofs meet

module _ (w : Work) (e : OnePure) (new : Work) (first hole shown : Tree) (follows : IsFollowed w e) (is : new ≡ resting (facts_alone w.goal e.pure)) (reached : FactsReached w first) (wants : hole ≡ Hole (meaning new)) where
  wanted_says : conclusion hole ≡ entail (length w.goal.vars) (left_of_work (resting (facts_alone w.goal e.pure))) (Assert e.pure)
  wanted_says = ap conclusion wants ∙ ap (λ (y : Work). meaning y) is

  pub first_vars : (conclusion e.proof).vars ≡ (conclusion hole).vars
  first_vars = ap (λ (x : Entail). x.vars) follows.concludes ∙ sym (ap (λ (x : Entail). x.vars) wanted_says)

  pub first_meets : left_side e.proof ≡ right_side hole
  first_meets = ap (λ (x : Entail). x.left) follows.concludes ∙ sym (ap (λ (x : Entail). x.right) wanted_says)

  pub second_vars : conclusion shown ≡ across hole e.proof → (conclusion shown).vars ≡ (conclusion first).vars
  second_vars says = ap (λ (x : Entail). x.vars) says ∙ (ap (λ (x : Entail). x.vars) wanted_says ∙ sym (ap (λ (x : Entail). x.vars) reached.concludes))

  pub second_meets : conclusion shown ≡ across hole e.proof → left_side shown ≡ right_side first
  second_meets says = ap (λ (x : Entail). x.left) says ∙ (ap (λ (x : Entail). x.left) wanted_says ∙ (alone_star w.goal e.pure ∙ sym (ap (λ (x : Entail). x.right) reached.concludes)))
