-- From moves of a star to the proofs that actions owe.
use Rattle.std.proofs.Common.{◌≡◌, ℕ, suc, ◌+◌, ◌*◌, ◌≤◌, [], ◌∷◌, length, refl, sym, ◌∙◌, ap, subst, arith}
use Rattle.std.specs.Prelude.{Result}
use Rattle.pm_logic.specs.declared.formula.Formula.{Formula}
use Rattle.pm_logic.specs.Scope.{Scoped}
use Rattle.pm_goal.specs.declared.work.Work.{Work}
use Rattle.pm_goal.specs.Left.{left_of_work}
use Rattle.pm_goal.specs.declared.refusal.StepFault.{StepFault}
use Rattle.pm_rules.specs.declared.rules.Entail.{Entail}
use Rattle.pm_proof.specs.Trees.{Tree, Hole, entail, conclusion}
use Rattle.pm_proof.specs.Valid.{EntailScoped}
use Rattle.pm_proof.specs.Known.{Proves, Extends, Every, ScopedWhere}
use Rattle.pm_proof.specs.declared.proof.Parts.{Parts}
use Rattle.pm_proof.proofs.Fills.{weaker, extends_proves, extends_weaker}
use Rattle.pm_star.specs.Stars.{work_parts, room as star_room, Moves, MovesBy}
use Rattle.pm_star.specs.Chains.{ChainProves, across}
use Rattle.pm_table.specs.declared.place.Place.{Place}
use Rattle.pm_table.specs.declared.place.Place.TheVariants.{Current as current}
use Rattle.pm_table.specs.Outcomes.{gives}
use Rattle.pm_table.specs.Limits.{limited, work_formulas, all_nodes}
use Rattle.pm_table.specs.Running.{rules_within}
use Rattle.pm_action.specs.Meanings.{meaning, height, room, width}
use Rattle.pm_action.specs.Acting.{IsActed, Answers, Ends, MovesTo, StaysAs}
use Rattle.pm_action.proofs.Heights.{star_height, sides_height, parts_nodes}

-- the hole of what a work means proves it
hole_proves : (w : Work) → Proves Every (meaning w) (meaning w ∷ []) 0 (height w + 16) (length w.goal.vars) (Hole (meaning w))
hole_proves w = record {
  concludes = refl;
  holes = refl;
  valid = λ preds among. tt;
  scoped = λ preds e hs. e;
  size = omega arith;
  shallow = omega (arith, sides_height w);
  narrow = omega arith;
}

-- where two proofs meet is scoped where the left side and the hole are
meets : (k : ℕ) (l m r : Formula) → ScopedWhere (entail k l r) (entail k m r ∷ []) (entail k l m)
meets k l m r preds e hs = (e.0, hs.0.0)

-- few rules, as a square of the nodes
product : (a b : ℕ) → suc a * b ≡ b + a * b
product a b = omega arith

pub few : (s n : ℕ) → n ≤ 1000 * suc s → n ≤ rules_within s
few s n le = omega (arith, le, product s (suc s))

pub moved_to : (w new : Work) (t wanted p : Tree) (r : Result (Parts Place) StepFault) → length new.goal.vars ≡ length w.goal.vars → new.goal.concl ≡ w.goal.concl → conclusion t ≡ entail (length w.goal.vars) (left_of_work w) (left_of_work new) → wanted ≡ Hole (meaning new) → ChainProves t wanted p → Ends (current [] new ∷ []) p r → MovesTo w new t r
moved_to w new t wanted p r vars concl moved is chain ends s n fit known =
    let k = length w.goal.vars in
    let d = room w (current [] new ∷ []) in
    let k1 = width w in
    let hole1 : Proves Every (meaning new) (meaning new ∷ []) 0 d k1 (Hole (meaning new)) = weaker Every (meaning new) (meaning new ∷ []) 0 (height new + 16) (length new.goal.vars) 0 d k1 (Hole (meaning new)) (omega arith) (omega arith) (omega (arith, vars)) (hole_proves new) in
    let hole2 : Proves Every (conclusion wanted) (meaning new ∷ []) 0 d k1 wanted = rw is hole1 in
    let over : across t wanted ≡ meaning w = ap (λ x. across t x) is ∙ (ap (λ (e : Entail). entail e.vars e.left new.goal.concl) moved ∙ ap (λ c. entail k (left_of_work w) c) concl) in
    let scope : ScopedWhere (across t wanted) (meaning new ∷ []) (conclusion t) = λ preds e hs. let whole : EntailScoped preds (meaning w) = subst (EntailScoped preds) over e in let new_left : Scoped preds k (left_of_work new) = subst (λ j. Scoped preds j (left_of_work new)) vars hs.0.0 in rw moved (whole.0, new_left) in
    let all : Proves Every (across t wanted) (meaning new ∷ []) (n + 0 + 1) d k1 p = chain Every [] (meaning new ∷ []) n 0 d k1 known hole2 scope in
    let acted : IsActed s w (current [] new ∷ []) p = weaker Every (meaning w) (meaning new ∷ []) (n + 0 + 1) d k1 (rules_within s) d k1 p (omega (arith, fit)) (omega arith) (omega arith) (subst (λ e. Proves Every e (meaning new ∷ []) (n + 0 + 1) d k1 p) over all) in
    ends s w acted

pub stays_as : (w new : Work) (p q : Tree) (r : Result (Parts Place) StepFault) → meaning new ≡ meaning w → p ≡ Hole (meaning new) → Ends (current [] new ∷ []) p r → StaysAs w new r
stays_as w new p q r same is ends s =
    let d = room w (current [] new ∷ []) in
    let known : Proves Every (meaning new) (meaning new ∷ []) 0 (height new + 16) (length new.goal.vars) p = rw is (hole_proves new) in
    let vars : length new.goal.vars ≡ length w.goal.vars = ap (λ (e : Entail). e.vars) same in
    let acted : IsActed s w (current [] new ∷ []) p = weaker Every (meaning w) (meaning new ∷ []) 0 (height new + 16) (length new.goal.vars) (rules_within s) d (width w) p (omega arith) (omega arith) (omega (arith, vars)) (subst (λ e. Proves Every e (meaning new ∷ []) 0 (height new + 16) (length new.goal.vars) p) same known) in
    ends s w acted

-- ---- moves as they come

-- a move's proof within the bounds of an action
move_known : (w new : Work) (t : Tree) → Moves (length w.goal.vars) (length (work_parts w)) (left_of_work w) (left_of_work new) t → Proves Every (conclusion t) [] (100 * (length (work_parts w) + 1)) (room w (current [] new ∷ [])) (width w) t
move_known w new t m =
    let k = length w.goal.vars in
    let e = entail k (left_of_work w) (left_of_work new) in
    let n = 100 * (length (work_parts w) + 1) in
    let near : star_room (left_of_work w) (left_of_work new) ≤ room w (current [] new ∷ []) = omega (arith, star_height w, star_height new) in
    subst (λ x. Proves Every x [] n (room w (current [] new ∷ [])) (width w) t) (sym m.concludes) (weaker Every e [] n (star_room (left_of_work w) (left_of_work new)) k n (room w (current [] new ∷ [])) (width w) t (omega arith) near (omega arith) m)

pub moves_answer : (s : ℕ) (w new : Work) (t : Tree) (r : Result (Parts Place) StepFault) → all_nodes (work_formulas w) ≤ s → Moves (length w.goal.vars) (length (work_parts w)) (left_of_work w) (left_of_work new) t → MovesTo w new t r → Answers s w (limited (gives (current [] new ∷ []))) r
moves_answer s w new t r le m to = to s (100 * (length (work_parts w) + 1)) (few s (suc (100 * (length (work_parts w) + 1))) (omega (arith, le, parts_nodes w))) (move_known w new t m)

-- the same around a proof of a class, in place of a part: by is what is proved of the part
pub moves_by_answer : (s n d : ℕ) (w new : Work) (by t : Tree) (r : Result (Parts Place) StepFault)
    → all_nodes (work_formulas w) ≤ s → MovesBy by (length w.goal.vars) (length (work_parts w)) (left_of_work w) (left_of_work new) t
    → Proves Every (conclusion by) [] n d (width w) by → n ≤ 800 * suc s → d ≤ room w (current [] new ∷ [])
    → ScopedWhere (entail (length w.goal.vars) (left_of_work w) (left_of_work new)) [] (conclusion by)
    → MovesTo w new t r → Answers s w (limited (gives (current [] new ∷ []))) r
moves_by_answer s n d w new by t r le m known fit deep scope to =
    let k = length w.goal.vars in
    let e = entail k (left_of_work w) (left_of_work new) in
    let c = 100 * (length (work_parts w) + 1) in
    let d1 = room w (current [] new ∷ []) in
    let near : star_room (left_of_work w) (left_of_work new) ≤ d1 = omega (arith, star_height w, star_height new) in
    let by1 : Proves Every (conclusion by) [] n d1 (width w) by = weaker Every (conclusion by) [] n d (width w) n d1 (width w) by (omega arith) deep (omega arith) known in
    let t1 : Extends by e c d1 (width w) t = extends_weaker by t e c (star_room (left_of_work w) (left_of_work new)) k c d1 (width w) (omega arith) near (omega arith) m in
    let all : Proves Every e [] (n + c) d1 (width w) t = extends_proves Every by t (conclusion by) e [] n c d1 (width w) by1 t1 scope in
    to s (n + c) (few s (suc (n + c)) (omega (arith, le, parts_nodes w, fit))) (subst (λ x. Proves Every x [] (n + c) d1 (width w) t) (sym all.concludes) all)
