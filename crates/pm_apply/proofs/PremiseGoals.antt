-- The goals of premises, and what they mean.
use Rattle.std.proofs.Common.{◌≡◌, ℕ, zero, suc, ◌+◌, ◌<◌, ◌≤◌, Bool, true, false, ◌==◌, cond, List, [], ◌∷◌, ◌++◌, map, filter, length, reverse, Option, Some, None, refl, sym, ◌∙◌, ap, subst, arith, append-nil}
use Rattle.std.proofs.lemmas.List.{reverse-append, append_assoc}
use Rattle.std.proofs.lemmas.Bool.{ne_eqb}
use Rattle.std.proofs.lemmas.Grind.{reverse_onto}
use Rattle.pm_logic.specs.declared.formula.Formula.{Formula}
use Rattle.pm_logic.specs.Size.{depth_of}
use Rattle.pm_goal.specs.declared.goal.Hyp.{Hyp}
use Rattle.pm_goal.specs.declared.goal.Goal.{Goal}
use Rattle.pm_goal.specs.declared.work.Work.{Work}
use Rattle.pm_goal.specs.Left.{star_onto, facts, hyps, hyps_as, left_of}
use Rattle.pm_rules.specs.declared.rules.Entail.{Entail}
use Rattle.pm_proof.specs.Trees.{entail}
use Rattle.pm_star.specs.Stars.{star, shared, parts}
use Rattle.pm_star.proofs.Contexts.{goal_star}
use Rattle.pm_table.specs.declared.place.Place.{Place}
use Rattle.pm_table.specs.declared.place.Place.TheVariants.{Finished as finished}
use Rattle.pm_table.specs.Limits.{resting}
use Rattle.pm_table.specs.Works.{hyps_in, is_listed, with_concl}
use Rattle.pm_table.specs.Terms.{keeping, premise_goal, premise_goals}
use Rattle.pm_action.specs.Meanings.{meaning, meanings}
use Rattle.pm_apply.specs.Reaching.{wanted, goal_for, shared_star, wanted_of}

-- ---- with no spatial hypotheses

pub kept_none : (hs : List Hyp) → hyps_in [] hs ≡ []
kept_none [] = refl
kept_none (h ∷ hs) = kept_none hs

pub bare_star : (goal copy : Goal) (none : List Hyp) (f : Formula) → copy ≡ goal → none ≡ [] → f ≡ left_of (record { vars = copy.vars; pures = copy.pures; ints = copy.ints; spats = none; concl = copy.concl }) → f ≡ shared_star goal
bare_star goal copy none f same empty is =
    let bare : Goal = record { vars = goal.vars; pures = goal.pures; ints = goal.ints; spats = []; concl = goal.concl } in
    let here : f ≡ left_of bare = is ∙ ap (λ (g : Goal). left_of (record { vars = g.vars; pures = g.pures; ints = g.ints; spats = none; concl = g.concl })) same ∙ ap (λ hs. left_of (record { vars = goal.vars; pures = goal.pures; ints = goal.ints; spats = hs; concl = goal.concl })) empty in
    here ∙ sym (goal_star bare) ∙ ap star (append-nil (shared goal))

pub last_goal : (goal copy : Goal) (last : Bool) (p : Formula) → copy ≡ goal → last ≡ true → finished (record { vars = copy.vars; pures = copy.pures; ints = copy.ints; spats = copy.spats; concl = p }) ≡ finished (goal_for goal last p)
last_goal goal copy last p same holds = ap (λ (g : Goal). finished (with_concl p g)) same ∙ ap (λ b. finished (goal_for goal b p)) (sym holds)

pub other_goal : (goal copy : Goal) (none : List Hyp) (last : Bool) (p : Formula) → copy ≡ goal → none ≡ [] → last ≡ false → finished (record { vars = copy.vars; pures = copy.pures; ints = copy.ints; spats = none; concl = p }) ≡ finished (goal_for goal last p)
other_goal goal copy none last p same empty fails =
    ap (λ (g : Goal). finished (record { vars = g.vars; pures = g.pures; ints = g.ints; spats = none; concl = p })) same
    ∙ ap (λ hs. finished (record { vars = goal.vars; pures = goal.pures; ints = goal.ints; spats = hs; concl = p })) (empty ∙ sym (kept_none goal.spats))
    ∙ ap (λ b. finished (goal_for goal b p)) (sym fails)

-- ---- the list of them

behind_some : (goal : Goal) (ys : List Formula) (x p : Formula) → premise_goal goal (ys ++ x ∷ []) p ≡ keeping [] p goal
behind_some goal [] x p = refl
behind_some goal (y ∷ ys) x p = refl

goal_is : (goal : Goal) (xs : List Formula) (p : Formula) → goal_for goal (length xs == 0) p ≡ premise_goal goal (reverse xs) p
goal_is goal [] p = refl
goal_is goal (x ∷ xs) p = ap (λ b. goal_for goal b p) (ne_eqb (suc (length xs)) 0 (λ e. absurd (omega (arith, e)))) ∙ sym (ap (λ ys. premise_goal goal ys p) (reverse_onto xs x []) ∙ behind_some goal (reverse xs) x p)

-- those that are made, and those that are left
abbrev pub AreMade : Goal → (all left : List Formula) → List Place → Type 0
AreMade goal all left made = premise_goals goal (reverse all) ≡ made ++ premise_goals goal (reverse left)

pub one_made : (goal : Goal) (all left rest : List Formula) (p : Formula) (last : Bool) (place : Place) (made now : List Place) → AreMade goal all left made → left ≡ rest ++ p ∷ [] → last ≡ (length rest == 0) → place ≡ finished (goal_for goal last p) → now ≡ made ++ place ∷ [] → AreMade goal all rest now
one_made goal all left rest p last place made now before is test at next =
    let turned : reverse left ≡ p ∷ reverse rest = ap reverse is ∙ reverse-append rest (p ∷ []) in
    let here : finished (premise_goal goal (reverse rest) p) ≡ place = ap finished (sym (goal_is goal rest p)) ∙ ap (λ b. finished (goal_for goal b p)) (sym test) ∙ sym at in
    before
    ∙ ap (λ xs. made ++ premise_goals goal xs) turned
    ∙ ap (λ x. made ++ x ∷ premise_goals goal (reverse rest)) here
    ∙ sym (append_assoc made (place ∷ []) (premise_goals goal (reverse rest)))
    ∙ ap (λ ys. ys ++ premise_goals goal (reverse rest)) (sym next)

none_left : (left : List Formula) → (0 < length left → ⊥) → left ≡ []
none_left [] h = refl
none_left (x ∷ xs) h = absurd (h (omega arith))

pub all_made : (goal : Goal) (all left : List Formula) (made : List Place) → AreMade goal all left made → (0 < length left → ⊥) → made ≡ premise_goals goal (reverse all)
all_made goal all left made before none = sym (before ∙ ap (λ xs. made ++ premise_goals goal (reverse xs)) (none_left left none) ∙ append-nil made)

-- ---- what they mean

kept_left : (goal : Goal) (p : Formula) → left_of (keeping [] p goal) ≡ shared_star goal
kept_left goal p =
    sym (goal_star (keeping [] p goal)) ∙ ap (λ hs. star (shared goal ++ hyps hs)) (kept_none goal.spats) ∙ ap star (append-nil (shared goal))

rest_means : (goal : Goal) → meaning (resting goal) ≡ entail (length goal.vars) (left_of goal) goal.concl
unfolding star_onto
rest_means goal = refl

pub mean_wanted : (goal : Goal) (ps : List Formula) → meanings (premise_goals goal ps) ≡ wanted (length goal.vars) (left_of goal) (shared_star goal) ps
mean_wanted goal [] = refl
mean_wanted goal (p ∷ []) = ap (λ e. e ∷ []) (rest_means (with_concl p goal))
mean_wanted goal (p ∷ q ∷ ps) =
    ap (λ e. e ∷ meanings (premise_goals goal (q ∷ ps))) (rest_means (keeping [] p goal) ∙ ap (λ l. entail (length goal.vars) l p) (kept_left goal p))
    ∙ ap (λ es. entail (length goal.vars) (shared_star goal) p ∷ es) (mean_wanted goal (q ∷ ps))
