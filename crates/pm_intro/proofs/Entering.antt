-- The step from what is put behind a star, and ends with turns.
use Rattle.std.proofs.Common.{◌≡◌, ℕ, zero, suc, ◌+◌, ◌*◌, ◌≤◌, Bool, List, [], ◌∷◌, length, refl, sym, ◌∙◌, ap, ap₂, subst, arith}
use Rattle.std.specs.Prelude.{Result, insert}
use Rattle.pm_logic.specs.declared.formula.Formula.{Formula}
use Rattle.pm_logic.specs.declared.formula.Formula.TheViews as view
use Rattle.pm_logic.specs.Scope.{Scoped}
use Rattle.pm_logic.specs.Size.{depth_of}
use Rattle.pm_goal.specs.declared.work.Work.{Work}
use Rattle.pm_goal.specs.declared.refusal.StepFault.{StepFault}
use Rattle.pm_goal.specs.Left.{left_of_work}
use Rattle.pm_rules.specs.declared.rules.Entail.{Entail}
use Rattle.pm_proof.specs.Trees.{Tree, Hole, entail, conclusion}
use Rattle.pm_proof.specs.Valid.{EntailScoped}
use Rattle.pm_proof.specs.Known.{Proves, Every, ScopedWhere}
use Rattle.pm_proof.specs.declared.proof.Parts.{Parts}
use Rattle.pm_proof.proofs.Fills.{weaker}
use Rattle.pm_star.specs.Stars.{star, work_parts, room as star_room, Moves}
use Rattle.pm_star.specs.Levels.{left_side, right_side}
use Rattle.pm_star.specs.Chains.{ChainProves, across}
use Rattle.pm_star.proofs.Contexts.{work_star}
use Rattle.pm_star.specs.Scopes.{star_depth}
use Rattle.pm_star.proofs.Scoping.{depth_sep, star_is_deep}
use Rattle.pm_table.specs.declared.place.Place.{Place}
use Rattle.pm_table.specs.declared.place.Place.TheVariants.{Current as current}
use Rattle.pm_action.specs.Meanings.{meaning, height, room, width}
use Rattle.pm_action.specs.Acting.{IsActed, Ends}
use Rattle.pm_action.proofs.Heights.{star_height, sides_height}
use Rattle.pm_intro.specs.Ending.{OpensTo, HasMore, Reaches}

pub hole_proves : (w : Work) → Proves Every (meaning w) (meaning w ∷ []) 0 (height w + 16) (length w.goal.vars) (Hole (meaning w))
hole_proves w = record {
  concludes = refl;
  holes = refl;
  valid = λ preds among. tt;
  scoped = λ preds e hs. e;
  size = omega arith;
  shallow = omega (arith, sides_height w);
  narrow = omega arith;
}

-- the hole as code has it
pub wanted_proves : (w : Work) (t : Tree) (n d k : ℕ) → t ≡ Hole (meaning w) → height w + 16 ≤ d → length w.goal.vars ≤ k → Proves Every (conclusion t) (meaning w ∷ []) n d k t
wanted_proves w t n d k is deep wide =
    let p = weaker Every (meaning w) (meaning w ∷ []) 0 (height w + 16) (length w.goal.vars) n d k (Hole (meaning w)) (omega arith) deep wide (hole_proves w) in
    subst (λ x. Proves Every (conclusion x) (meaning w ∷ []) n d k x) (sym is) p

pub opens_to : (turns : List Bool) (w new : Work) (t wanted p : Tree) (r : Result (Parts Place) StepFault) → length new.goal.vars ≡ length w.goal.vars → new.goal.concl ≡ w.goal.concl → conclusion t ≡ entail (length w.goal.vars) (left_of_work w) (left_of_work new) → wanted ≡ Hole (meaning new) → ChainProves t wanted p → Ends (current turns new ∷ []) p r → OpensTo turns w new t r
opens_to turns w new t wanted p r vars concl moved is chain ends s n fit known =
    let k = length w.goal.vars in
    let d = room w (current turns new ∷ []) in
    let k1 = width w in
    let hole : Proves Every (conclusion wanted) (meaning new ∷ []) 0 d k1 wanted = wanted_proves new wanted 0 d k1 is (omega arith) (omega (arith, vars)) in
    let over : across t wanted ≡ meaning w = ap (λ x. across t x) is ∙ (ap (λ (e : Entail). entail e.vars e.left new.goal.concl) moved ∙ ap (λ c. entail k (left_of_work w) c) concl) in
    let scope : ScopedWhere (across t wanted) (meaning new ∷ []) (conclusion t) = λ preds e hs. let whole : EntailScoped preds (meaning w) = subst (EntailScoped preds) over e in let new_left : Scoped preds k (left_of_work new) = subst (λ j. Scoped preds j (left_of_work new)) vars hs.0.0 in rw moved (whole.0, new_left) in
    let all : Proves Every (across t wanted) (meaning new ∷ []) (n + 0 + 1) d k1 p = chain Every [] (meaning new ∷ []) n 0 d k1 known hole scope in
    let acted : IsActed s w (current turns new ∷ []) p = weaker Every (meaning w) (meaning new ∷ []) (n + 0 + 1) d k1 _ d k1 p (omega (arith, fit)) (omega arith) (omega arith) (subst (λ e. Proves Every e (meaning new ∷ []) (n + 0 + 1) d k1 p) over all) in
    ends s w acted

-- ---- behind a star

pub more_star : (old new : Work) (a : Formula) → HasMore old a new → star (insert (work_parts old) (length (work_parts old)) a) ≡ left_of_work new
more_star old new a more = ap star (sym more) ∙ work_star new

deeper : (fs : List Formula) (n : ℕ) (a : Formula) → (star_depth fs ≤ star_depth (insert fs n a)) × (suc (depth_of a) ≤ star_depth (insert fs n a))
deeper fs zero a = (omega arith, omega arith)
deeper [] (suc n) a = (omega arith, omega arith)
deeper (f ∷ fs) (suc n) a = let r = deeper fs n a in (omega (arith, r.0), omega (arith, r.1))

-- the part beside the star isn't deeper than the star with it, but for a level
pub beside_deep : (old new : Work) (a : Formula) → HasMore old a new → depth_of (view.Sep a (left_of_work old)) ≤ height new + 2
beside_deep old new a more =
    let fs = work_parts old in
    let r = deeper fs (length fs) a in
    let whole : star_depth (insert fs (length fs) a) ≡ depth_of (left_of_work new) = sym (star_is_deep (insert fs (length fs) a)) ∙ ap depth_of (more_star old new a more) in
    let part : star_depth fs ≡ depth_of (left_of_work old) = sym (star_is_deep fs) ∙ ap depth_of (work_star old) in
    omega (arith, r.0, r.1, whole, part, depth_sep a (left_of_work old), star_height new)

-- the place behind the others, as code counts it
pub sunk : (old : Work) (a : Formula) (t : Tree) (place : ℕ) → place ≡ length (work_parts old) → Moves (length old.goal.vars) (length (work_parts old)) (view.Sep a (left_of_work old)) (star (insert (work_parts old) place a)) t → Moves (length old.goal.vars) (length (work_parts old)) (view.Sep a (left_of_work old)) (star (insert (work_parts old) (length (work_parts old)) a)) t
sunk old a t place at m = subst (λ (n : ℕ). Moves (length old.goal.vars) (length (work_parts old)) (view.Sep a (left_of_work old)) (star (insert (work_parts old) n a)) t) at m

pub meet : (old new : Work) (a : Formula) (moved wanted : Tree) → HasMore old a new → Moves (length old.goal.vars) (length (work_parts old)) (view.Sep a (left_of_work old)) (star (insert (work_parts old) (length (work_parts old)) a)) moved → wanted ≡ Hole (meaning new) → left_side wanted ≡ right_side moved
meet old new a moved wanted more m is = ap left_side is ∙ sym (more_star old new a more) ∙ sym (ap (λ (e : Entail). e.right) m.concludes)

pub reaches : (old new : Work) (a : Formula) (moved wanted t : Tree) → length new.goal.vars ≡ length old.goal.vars → HasMore old a new → Moves (length old.goal.vars) (length (work_parts old)) (view.Sep a (left_of_work old)) (star (insert (work_parts old) (length (work_parts old)) a)) moved → wanted ≡ Hole (meaning new) → ChainProves moved wanted t → Reaches old a new t
reaches old new a moved wanted t vars more m is chain =
    let k = length new.goal.vars in
    let n = 100 * (length (work_parts old) + 1) in
    let d = height new + 16 in
    let l = view.Sep a (left_of_work old) in
    let to : star (insert (work_parts old) (length (work_parts old)) a) ≡ left_of_work new = more_star old new a more in
    let m1 : Proves Every (entail k l (left_of_work new)) [] n (star_room l (left_of_work new)) k moved = subst (λ (r : Formula). Proves Every (entail k l r) [] n (star_room l r) k moved) to (subst (λ (j : ℕ). Proves Every (entail j l (star (insert (work_parts old) (length (work_parts old)) a))) [] n (star_room l (star (insert (work_parts old) (length (work_parts old)) a))) j moved) (sym vars) m) in
    let near : star_room l (left_of_work new) ≤ d = omega (arith, star_height new, beside_deep old new a more) in
    let m2 : Proves Every (conclusion moved) [] n d k moved = subst (λ (e : Entail). Proves Every e [] n d k moved) (sym m1.concludes) (weaker Every (entail k l (left_of_work new)) [] n (star_room l (left_of_work new)) k n d k moved (omega arith) near (omega arith) m1) in
    let hole : Proves Every (conclusion wanted) (meaning new ∷ []) 0 d k wanted = wanted_proves new wanted 0 d k is (omega arith) (omega arith) in
    let over : across moved wanted ≡ entail k l new.goal.concl = ap₂ (λ (x y : Entail). entail x.vars x.left y.right) m1.concludes (ap conclusion is) in
    let scope : ScopedWhere (across moved wanted) (meaning new ∷ []) (conclusion moved) = λ preds e hs. subst (EntailScoped preds) (sym m1.concludes) ((subst (EntailScoped preds) over e).0, hs.0.0) in
    weaker Every (entail k l new.goal.concl) (meaning new ∷ []) (n + 0 + 1) d k (n + 1) d k t (omega arith) (omega arith) (omega arith)
    (subst (λ (e : Entail). Proves Every e (meaning new ∷ []) (n + 0 + 1) d k t) over (chain Every [] (meaning new ∷ []) n 0 d k m2 hole scope))
