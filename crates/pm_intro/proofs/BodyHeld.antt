-- The end where a variable comes into the goal and a body is held.
use Rattle.std.proofs.Common.{◌≡◌, ℕ, suc, ◌+◌, ◌*◌, max, true, false, [], ◌∷◌, length, sym, ◌∙◌, ap, ap₂, subst, arith}
use Rattle.std.specs.Prelude.{Result}
use Rattle.std.specs.List.{AllByRecursion}
use Rattle.pm_logic.specs.declared.formula.Formula.{Formula}
use Rattle.pm_logic.specs.declared.formula.Formula.TheViews as view
use Rattle.pm_logic.specs.declared.formula.Preds.{Preds}
use Rattle.pm_logic.specs.Scope.{Scoped}
use Rattle.pm_logic.specs.Substitution.{shift_of}
use Rattle.pm_goal.specs.declared.work.Held.{Held}
use Rattle.pm_goal.specs.declared.work.Work.{Work}
use Rattle.pm_goal.specs.declared.refusal.StepFault.{StepFault}
use Rattle.pm_goal.specs.Left.{of_kind, left_of_work}
use Rattle.pm_rules.specs.declared.rules.Entail.{Entail}
use Rattle.pm_rules.specs.declared.pattern.Unary.TheVariants as unary
use Rattle.pm_proof.specs.Trees.{Tree, entail, conclusion}
use Rattle.pm_proof.specs.Valid.{EntailScoped}
use Rattle.pm_proof.specs.Known.{Proves, Every, ScopedWhere}
use Rattle.pm_proof.specs.declared.proof.Parts.{Parts}
use Rattle.pm_proof.proofs.Fills.{weaker}
use Rattle.pm_schemes.proofs.Scopes.{one_scoped}
use Rattle.pm_star.specs.Stars.{work_parts}
use Rattle.pm_star.specs.Levels.{left_side, right_side}
use Rattle.pm_star.specs.Chains.{ChainProves, across}
use Rattle.pm_star.proofs.Contexts.{work_star}
use Rattle.pm_star.proofs.Scoping.{scoped_star, star_scoped, sep_scoped}
use Rattle.pm_table.specs.declared.place.Place.{Place}
use Rattle.pm_table.specs.declared.place.Place.TheVariants.{Current as current}
use Rattle.pm_table.specs.Outcomes.{Outcome, gives}
use Rattle.pm_table.specs.Limits.{all_nodes, work_formulas, limited}
use Rattle.pm_table.specs.Works.{Named}
use Rattle.pm_action.specs.Meanings.{meaning, height, room, width}
use Rattle.pm_action.specs.Acting.{IsActed, IsLast, Answers, Ends}
use Rattle.pm_action.proofs.Moves.{few}
use Rattle.pm_intro.specs.Ending.{HasMore}
use Rattle.pm_intro.specs.Hands.{rest}
use Rattle.pm_intro.specs.Fronts.{IsFront}
use Rattle.pm_intro.specs.Variables.{lifted, opened, IsOpened}
use Rattle.pm_intro.proofs.Answered.{follows}
use Rattle.pm_intro.proofs.Handed.{all_parts}
use Rattle.pm_intro.proofs.InFront.{more_scoped}
use Rattle.pm_intro.proofs.Openings.{opens_more, opened_vars}
use Rattle.pm_intro.proofs.Parted.{whole}

-- what is left of a star is scoped where the star is
rest_scoped : (preds : Preds) (k : ℕ) (w : Work) (l : Held) → IsLast w l → Scoped preds k (left_of_work w) → Scoped preds k (left_of_work (rest w))
rest_scoped preds k w l last s =
    let all : AllByRecursion (Scoped preds k) (work_parts w) = scoped_star preds k (work_parts w) (subst (Scoped preds k) (sym (work_star w)) s) in
    let some = (all_parts (Scoped preds k) (work_parts (rest w)) (of_kind l.kind l.formula ∷ []) (subst (AllByRecursion (Scoped preds k)) (whole w l last) all)).0 in
    subst (Scoped preds k) (work_star (rest w)) (star_scoped preds k (work_parts (rest w)) some)

ex_scoped : (preds : Preds) (k : ℕ) (b : Formula) → Scoped preds (k + 1) b → Scoped preds k (view.Ex b)
ex_scoped preds k b s = let same : k + 1 ≡ suc k = omega arith in one_scoped preds 0 k unary.Ex b (subst (λ (n : ℕ). Scoped preds n b) same s)

pub body_meet : (w new : Work) (part q : Formula) (front body : Tree) → q ≡ view.Ex part → IsFront w q front → IsOpened w part new body → left_side body ≡ right_side front
body_meet w new part q front body is p r = ap (λ (e : Entail). e.left) r.concludes ∙ ap (λ x. view.Sep x (left_of_work (rest w))) (sym is) ∙ sym (ap (λ (e : Entail). e.right) p.concludes)

body_acts : (w : Work) (l : Held) (last : IsLast w l) (x : Named) (part q : Formula) (new : Work) (front body t : Tree) → HasMore (lifted x (shift_of w.goal.concl) (rest w)) part new → length new.goal.vars ≡ length w.goal.vars + 1
    → q ≡ view.Ex part → IsFront w q front → IsOpened w part new body → ChainProves front body t → IsActed (all_nodes (work_formulas w)) w (current (false ∷ true ∷ []) new ∷ []) t
body_acts w l last x part q new front body t more v is p r chain =
    let k = length w.goal.vars in
    let s = all_nodes (work_formulas w) in
    let L = left_of_work w in
    let R = left_of_work (rest w) in
    let hs = meaning new ∷ [] in
    let d = room w (current (false ∷ true ∷ []) new ∷ []) in
    let n = 300 * s + 203 in
    let m = 100 * s + 4 in
    let e0 = entail k L (view.Sep (view.Ex part) R) in
    let e1 = entail k (view.Sep (view.Ex part) R) w.goal.concl in
    let p0 : Proves Every e0 [] n (height w + 12) (width w) front = subst (λ y. Proves Every (entail k L (view.Sep y R)) [] n (height w + 12) (width w) front) is p in
    let p1 : Proves Every (conclusion front) [] n d (width w) front = subst (λ y. Proves Every y [] n d (width w) front) (sym p0.concludes) (weaker Every e0 [] n (height w + 12) (width w) n d (width w) front (omega arith) (omega arith) (omega arith) p0) in
    let r0 : Proves Every e1 hs m d (width w) body = weaker Every e1 hs m (max (height w) (height new) + 16) (width w) m d (width w) body (omega arith) (omega arith) (omega arith) r in
    let r1 : Proves Every (conclusion body) hs m d (width w) body = subst (λ y. Proves Every y hs m d (width w) body) (sym r.concludes) r0 in
    let over : across front body ≡ meaning w = ap₂ (λ (y z : Entail). entail y.vars y.left z.right) p0.concludes r.concludes in
    let scope : ScopedWhere (across front body) hs (conclusion front) = λ preds h all. subst (EntailScoped preds) (sym p0.concludes) (parted preds (subst (EntailScoped preds) over h).0 all.0.0) in
    let u : Proves Every (across front body) hs (n + m + 1) d (width w) t = chain Every [] hs n m d (width w) p1 r1 scope in
    weaker Every (meaning w) hs (n + m + 1) d (width w) _ d (width w) t (few s (n + m + 1) (omega arith)) (omega arith) (omega arith)
    (subst (λ y. Proves Every y hs (n + m + 1) d (width w) t) over u)
  where
    parted : (preds : Preds) → Scoped preds (length w.goal.vars) (left_of_work w) → Scoped preds (length new.goal.vars) (left_of_work new) → EntailScoped preds (entail (length w.goal.vars) (left_of_work w) (view.Sep (view.Ex part) (left_of_work (rest w))))
    parted preds h f =
        let k = length w.goal.vars in
        let b = (more_scoped preds (k + 1) (lifted x (shift_of w.goal.concl) (rest w)) new part more (subst (λ n. Scoped preds n (left_of_work new)) v f)).0 in
        (h, sep_scoped preds k (view.Ex part) (left_of_work (rest w)) (ex_scoped preds k part b) (rest_scoped preds k w l last h))

pub body_answer : (w : Work) (l : Held) (last : IsLast w l) (x : Named) (b q : Formula) (new : Work) (front body t : Tree) (o : Outcome) (r : Result (Parts Place) StepFault) → new ≡ opened w l.kind x b → o ≡ gives (current (false ∷ true ∷ []) (opened w l.kind x b) ∷ [])
    → q ≡ view.Ex (of_kind l.kind b) → IsFront w q front → IsOpened w (of_kind l.kind b) new body → ChainProves front body t → Ends (current (false ∷ true ∷ []) new ∷ []) t r → Answers (all_nodes (work_formulas w)) w (limited o) r
body_answer w l last x b q new front body t o r is o_is q_is p c chain ends =
    let s = all_nodes (work_formulas w) in
    let part = of_kind l.kind b in
    let more : HasMore (lifted x (shift_of w.goal.concl) (rest w)) part new = subst (λ (y : Work). HasMore (lifted x (shift_of w.goal.concl) (rest w)) part y) (sym is) (opens_more w l.kind x b) in
    let vars : length new.goal.vars ≡ length w.goal.vars + 1 = ap (λ (y : Work). length y.goal.vars) is ∙ opened_vars w l.kind x b in
    follows s w (gives (current (false ∷ true ∷ []) new ∷ [])) o r (o_is ∙ ap (λ (y : Work). gives (current (false ∷ true ∷ []) y ∷ [])) (sym is))
    (ends s w (body_acts w l last x part q new front body t more vars q_is p c chain))
