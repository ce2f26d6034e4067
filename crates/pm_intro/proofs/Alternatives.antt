-- What is last in hand is taken apart into two alternatives.
use Rattle.std.proofs.Common.{◌≡◌, ℕ, ◌+◌, ◌*◌, ◌<◌, ◌≤◌, true, false, [], ◌∷◌, length, refl, sym, ◌∙◌, ap, ap₂, subst, arith, Option, Some, None}
use Rattle.pm_logic.specs.declared.formula.Formula.{Formula}
use Rattle.pm_logic.specs.declared.formula.Formula.TheViews as view
use Rattle.pm_logic.specs.declared.formula.Preds.{Preds}
use Rattle.pm_logic.specs.Scope.{Scoped}
use Rattle.pm_logic.specs.Size.{depth_of}
use Rattle.pm_goal.specs.declared.work.Kind.{Kind}
use Rattle.pm_goal.specs.declared.work.Held.{Held}
use Rattle.pm_goal.specs.declared.work.Work.{Work}
use Rattle.pm_goal.specs.declared.refusal.Row.TheVariants.{NotAlternatives}
use Rattle.pm_goal.specs.declared.refusal.StepFault.{StepFault}
use Rattle.pm_goal.specs.Left.{of_kind, left_of_work}
use Rattle.pm_rules.specs.declared.rules.Entail.{Entail}
use Rattle.pm_rules.specs.declared.pattern.Binary.TheVariants as binary
use Rattle.pm_proof.specs.Trees.{Tree, entail, conclusion}
use Rattle.pm_proof.specs.declared.proof.Parts.{Parts as Parted}
use Rattle.pm_proof.specs.Valid.{EntailScoped}
use Rattle.pm_proof.specs.Known.{Proves, Every, ScopedWhere}
use Rattle.pm_proof.proofs.Fills.{weaker}
use Rattle.pm_schemes.specs.Sketches.{deepest}
use Rattle.pm_schemes.proofs.Scopes.{two_scoped}
use Rattle.pm_star.specs.Stars.{work_parts}
use Rattle.pm_star.specs.Levels.{left_side, right_side}
use Rattle.pm_star.specs.Chains.{ChainProves, across}
use Rattle.pm_star.proofs.Places.{gains_held}
use Rattle.pm_star.proofs.Scoping.{sep_scoped, depth_sep}
use Rattle.pm_classes.specs.declared.entry.Pair.{Pair}
use Rattle.pm_classes.specs.Classes.{Parts, into_or}
use Rattle.pm_table.specs.Outcomes.{Outcome, gives, refuse_plain, require_entry}
use Rattle.pm_table.specs.declared.place.Place.{Place}
use Rattle.pm_table.specs.declared.place.Place.TheVariants.{Current as current}
use Rattle.pm_table.specs.Limits.{all_nodes, work_formulas, limited}
use Rattle.pm_table.specs.Works.{Hand, holding}
use Rattle.pm_table.specs.Destructs as table
use Rattle.pm_table.specs.Destructs.{with_hand}
use Rattle.pm_action.specs.Meanings.{meaning, height, room, width}
use Rattle.pm_action.specs.Acting.{IsActed, IsLast, Answers, Ends}
use Rattle.pm_action.proofs.Heights.{star_height, concl_height, parts_nodes}
use Rattle.pm_action.proofs.Hands.{with_last_is}
use Rattle.pm_action.proofs.Moves.{few}
use Rattle.pm_intro.specs.Closing.{ClosesBoth}
use Rattle.pm_intro.specs.Ending.{HasMore, Reaches}
use Rattle.pm_intro.specs.Hands.{hand_at, kept, rest, CasesAnswer}
use Rattle.pm_intro.specs.Fronts.{IsFront}
use Rattle.pm_intro.specs.Cases.{cases, Splits}
use Rattle.std.specs.Prelude.{Result}
use Rattle.pm_intro.proofs.Answered.{follows}
use Rattle.pm_intro.proofs.Handed.{last_nodes, rest_height, has_last}
use Rattle.pm_intro.proofs.Entering.{beside_deep}
use Rattle.pm_intro.proofs.InFront.{more_scoped}
use Rattle.pm_intro.proofs.ByKind.{pair_is, none_is}

-- ---- the row

abbrev opened_by : Work → Hand → Option Parts → Outcome
opened_by w hand o = require_entry o NotAlternatives (λ p.
    gives (current (true ∷ false ∷ []) (with_hand w hand (holding hand.last.kind p.first ∷ []))
    ∷ current (false ∷ true ∷ []) (with_hand w hand (holding hand.last.kind p.second ∷ []))
    ∷ []))

abbrev acts_on : Work → Hand → Outcome
acts_on w hand = opened_by w hand (into_or hand.last.formula)

row : (w : Work) (l : Held) (o : Option Parts) → IsLast w l → into_or l.formula ≡ o → table.either w ≡ opened_by w (hand_at w l) o
row w l o last e = with_last_is w (acts_on w) l last ∙ ap (opened_by w (hand_at w l)) e

pub either_row : (w : Work) (l : Held) (r : Pair) → IsLast w l → CasesAnswer l.kind (length w.goal.vars) l.formula (Some r)
    → table.either w ≡ gives (cases (kept w (holding l.kind r.first ∷ [])) (kept w (holding l.kind r.second ∷ [])))
either_row w l r last a =
    let k = length w.goal.vars in
    row w l (Some (record { first = r.first; second = r.second })) last (pair_is (λ x y. entail k (of_kind l.kind l.formula) (view.Or (of_kind l.kind x) (of_kind l.kind y))) k (of_kind l.kind l.formula) (into_or l.formula) r a)

pub either_refused : (w : Work) (l : Held) → IsLast w l → CasesAnswer l.kind (length w.goal.vars) l.formula None → table.either w ≡ refuse_plain NotAlternatives
either_refused w l last a =
    let k = length w.goal.vars in
    row w l None last (none_is (λ x y. entail k (of_kind l.kind l.formula) (view.Or (of_kind l.kind x) (of_kind l.kind y))) k (of_kind l.kind l.formula) (into_or l.formula) a)

-- ---- the new works

pub keeps_one : (w : Work) (z : Kind) (f : Formula) → HasMore (rest w) (of_kind z f) (kept w (holding z f ∷ []))
keeps_one w z f = gains_held (rest w) (kept w (holding z f ∷ [])) (holding z f) refl refl

pub is_more : (w new : Work) (z : Kind) (f a : Formula) → new ≡ kept w (holding z f ∷ []) → a ≡ of_kind z f → HasMore (rest w) a new
is_more w new z f a is a_is = subst (λ x. HasMore (rest w) a x) (sym is) (subst (λ x. HasMore (rest w) x (kept w (holding z f ∷ []))) (sym a_is) (keeps_one w z f))

-- ---- proofs

module _ (w : Work) (l : Held) (last : IsLast w l) (a b : Formula) (left right : Work) (v1 : length left.goal.vars ≡ length w.goal.vars) (v2 : length right.goal.vars ≡ length w.goal.vars) (c1 : left.goal.concl ≡ w.goal.concl) (c2 : right.goal.concl ≡ w.goal.concl) (more1 : HasMore (rest w) a left) (more2 : HasMore (rest w) b right) where
  abbrev pub bound : ℕ
  bound = room w (cases left right)

  pub case_gap : (x : Formula) (new : Work) (st : Formula) (reached : Tree) → length new.goal.vars ≡ length w.goal.vars → new.goal.concl ≡ w.goal.concl → st ≡ left_of_work (rest w) → Reaches (rest w) x new reached → conclusion reached ≡ entail (length w.goal.vars) (view.Sep x st) w.goal.concl
  case_gap x new st reached v c is p = p.concludes ∙ ap₂ (λ n y. entail n (view.Sep x (left_of_work (rest w))) y) v c ∙ ap (λ y. entail (length w.goal.vars) (view.Sep x y) w.goal.concl) (sym is)

  reached_fits : (x : Formula) (new : Work) (reached : Tree) → length new.goal.vars ≡ length w.goal.vars → height new + 16 ≤ bound → Reaches (rest w) x new reached → Proves Every (conclusion reached) (meaning new ∷ []) (100 * (length (work_parts (rest w)) + 1) + 1) bound (width w) reached
  reached_fits x new reached v le p =
      let e = entail (length new.goal.vars) (view.Sep x (left_of_work (rest w))) new.goal.concl in
      let n = 100 * (length (work_parts (rest w)) + 1) + 1 in
      subst (λ y. Proves Every y (meaning new ∷ []) n bound (width w) reached) (sym p.concludes)
      (weaker Every e (meaning new ∷ []) n (height new + 16) (length new.goal.vars) n bound (width w) reached (omega arith) le (omega (arith, v)) p)

  pub splits : (st c : Formula) (first second t : Tree) → st ≡ left_of_work (rest w) → c ≡ w.goal.concl → Reaches (rest w) a left first → Reaches (rest w) b right second
      → ClosesBoth first second (entail (length w.goal.vars) (view.Sep (view.Or a b) st) c) 4 (deepest (a ∷ b ∷ st ∷ c ∷ []) [] + 2) (length w.goal.vars) t
      → Splits w a b left right t
  splits st c first second t is c_is p q closes =
      let k = length w.goal.vars in
      let n = 100 * (length (work_parts (rest w)) + 1) + 1 in
      let hs = meaning left ∷ meaning right ∷ [] in
      let e = entail k (view.Sep (view.Or a b) st) c in
      let deep1 : depth_of st ≤ height w + 1 = rw is (omega (arith, star_height (rest w), rest_height w l last)) in
      let deep2 : depth_of c ≤ height w = rw c_is (concl_height w) in
      let deep3 : depth_of a ≤ height left + 2 = omega (arith, beside_deep (rest w) left a more1, depth_sep a (left_of_work (rest w))) in
      let deep4 : depth_of b ≤ height right + 2 = omega (arith, beside_deep (rest w) right b more2, depth_sep b (left_of_work (rest w))) in
      let r : Proves Every e hs (4 + n + n) bound (width w) t = closes (meaning left ∷ []) (meaning right ∷ []) n n bound (width w) (omega (arith, deep1, deep2, deep3, deep4)) (omega arith) (reached_fits a left first v1 (omega arith) p) (reached_fits b right second v2 (omega arith) q) in
      let m = 200 * all_nodes (work_formulas w) + 6 in
      let r1 : Proves Every e hs m bound (width w) t = weaker Every e hs (4 + n + n) bound (width w) m bound (width w) t (omega (arith, parts_nodes (rest w), last_nodes w l last)) (omega arith) (omega arith) r in
      subst (λ x. Proves Every (entail k (view.Sep (view.Or a b) (left_of_work (rest w))) x) hs m bound (width w) t) c_is
      (subst (λ x. Proves Every (entail k (view.Sep (view.Or a b) x) c) hs m bound (width w) t) is r1)

  pub cases_meet : (q : Formula) (front split : Tree) → q ≡ view.Or a b → IsFront w q front → Splits w a b left right split → left_side split ≡ right_side front
  cases_meet q front split is p r = ap (λ (e : Entail). e.left) r.concludes ∙ ap (λ x. view.Sep x (left_of_work (rest w))) (sym is) ∙ sym (ap (λ (e : Entail). e.right) p.concludes)

  pub cases_act : (q : Formula) (front split t : Tree) → q ≡ view.Or a b → IsFront w q front → Splits w a b left right split → ChainProves front split t → IsActed (all_nodes (work_formulas w)) w (cases left right) t
  cases_act q front split t is p r chain =
      let k = length w.goal.vars in
      let s = all_nodes (work_formulas w) in
      let L = left_of_work w in
      let R = left_of_work (rest w) in
      let hs = meaning left ∷ meaning right ∷ [] in
      let n = 300 * s + 203 in
      let m = 200 * s + 6 in
      let e0 = entail k L (view.Sep (view.Or a b) R) in
      let p0 : Proves Every e0 [] n (height w + 12) (width w) front = subst (λ x. Proves Every (entail k L (view.Sep x R)) [] n (height w + 12) (width w) front) is p in
      let p1 : Proves Every (conclusion front) [] n bound (width w) front = subst (λ x. Proves Every x [] n bound (width w) front) (sym p0.concludes) (weaker Every e0 [] n (height w + 12) (width w) n bound (width w) front (omega arith) (omega arith) (omega arith) p0) in
      let r1 : Proves Every (conclusion split) hs m bound (width w) split = subst (λ x. Proves Every x hs m bound (width w) split) (sym r.concludes) r in
      let over : across front split ≡ meaning w = ap₂ (λ (x y : Entail). entail x.vars x.left y.right) p0.concludes r.concludes in
      let scope : ScopedWhere (across front split) hs (conclusion front) = λ preds h all. subst (EntailScoped preds) (sym p0.concludes) (whole preds (subst (EntailScoped preds) over h).0 all.0.0 all.1.0.0) in
      let u : Proves Every (across front split) hs (n + m + 1) bound (width w) t = chain Every [] hs n m bound (width w) p1 r1 scope in
      weaker Every (meaning w) hs (n + m + 1) bound (width w) _ bound (width w) t (few s (n + m + 1) (omega arith)) (omega arith) (omega arith)
      (subst (λ x. Proves Every x hs (n + m + 1) bound (width w) t) over u)
    where
      whole : (preds : Preds) → Scoped preds (length w.goal.vars) (left_of_work w) → Scoped preds (length left.goal.vars) (left_of_work left) → Scoped preds (length right.goal.vars) (left_of_work right) → EntailScoped preds (entail (length w.goal.vars) (left_of_work w) (view.Sep (view.Or a b) (left_of_work (rest w))))
      whole preds h f g =
          let k = length w.goal.vars in
          let f1 = more_scoped preds k (rest w) left a more1 (subst (λ n. Scoped preds n (left_of_work left)) v1 f) in
          let g1 = more_scoped preds k (rest w) right b more2 (subst (λ n. Scoped preds n (left_of_work right)) v2 g) in
          (h, sep_scoped preds k (view.Or a b) (left_of_work (rest w)) (two_scoped preds k binary.Or a b f1.0 g1.0) f1.1)

-- ---- the end

cases_end : (s : ℕ) (w left right left1 right1 : Work) (t : Tree) (r : Result (Parted Place) StepFault) → left ≡ left1 → right ≡ right1 → Ends (cases left right) t r → IsActed s w (cases left right) t → Answers s w (limited (gives (cases left1 right1))) r
cases_end s w left right left1 right1 t r e f ends acted = follows s w (gives (cases left right)) (gives (cases left1 right1)) r (ap₂ (λ x y. gives (cases x y)) (sym e) (sym f)) (ends s w acted)

pub alternatives_answer : (w : Work) (l : Held) (last : IsLast w l) (first second q : Formula) (left right : Work) (front split t : Tree) (r : Result (Parted Place) StepFault)
    → left ≡ kept w (holding l.kind first ∷ []) → right ≡ kept w (holding l.kind second ∷ []) → q ≡ view.Or (of_kind l.kind first) (of_kind l.kind second)
    → IsFront w q front → Splits w (of_kind l.kind first) (of_kind l.kind second) left right split → ChainProves front split t → Ends (cases left right) t r
    → Answers (all_nodes (work_formulas w)) w (limited (gives (cases (kept w (holding l.kind first ∷ [])) (kept w (holding l.kind second ∷ []))))) r
alternatives_answer w l last first second q left right front split t r e f is p c chain ends =
    let a = of_kind l.kind first in
    let b = of_kind l.kind second in
    cases_end (all_nodes (work_formulas w)) w left right (kept w (holding l.kind first ∷ [])) (kept w (holding l.kind second ∷ [])) t r e f ends
    (cases_act w l last a b left right (ap (λ (x : Work). length x.goal.vars) e) (ap (λ (x : Work). length x.goal.vars) f) (ap (λ (x : Work). x.goal.concl) e) (ap (λ (x : Work). x.goal.concl) f) (is_more w left l.kind first a e refl) (is_more w right l.kind second b f refl) q front split t is p c chain)

pub alternatives_meet : (w : Work) (a b q : Formula) (left right : Work) (front split : Tree) → q ≡ view.Or a b → IsFront w q front → Splits w a b left right split → left_side split ≡ right_side front
alternatives_meet w a b q left right front split is p r = ap (λ (e : Entail). e.left) r.concludes ∙ ap (λ x. view.Sep x (left_of_work (rest w))) (sym is) ∙ sym (ap (λ (e : Entail). e.right) p.concludes)

-- ---- as code has it

pub split_more : (w rst new : Work) (z : Kind) (f a : Formula) → rst ≡ rest w → new ≡ kept w (holding z f ∷ []) → a ≡ of_kind z f → HasMore rst a new
split_more w rst new z f a rst_is is a_is = subst (λ (x : Work). HasMore x a new) (sym rst_is) (is_more w new z f a is a_is)

pub reached_says : (w rst new : Work) (z : Kind) (f x st : Formula) (t : Tree) → new ≡ kept w (holding z f ∷ []) → st ≡ left_of_work rst → Reaches rst x new t → conclusion t ≡ entail (length w.goal.vars) (view.Sep x st) w.goal.concl
reached_says w rst new z f x st t is st_is p =
    p.concludes
    ∙ ap₂ (λ n y. entail n (view.Sep x (left_of_work rst)) y) (ap (λ (y : Work). length y.goal.vars) is) (ap (λ (y : Work). y.goal.concl) is)
    ∙ ap (λ y. entail (length w.goal.vars) (view.Sep x y) w.goal.concl) (sym st_is)

pub split_known : (w : Work) → 0 < length w.held → (z : Kind) (f g a b : Formula) (rst left right : Work) (st : Formula) (first second t : Tree)
    → rst ≡ rest w → a ≡ of_kind z f → b ≡ of_kind z g → left ≡ kept w (holding z f ∷ []) → right ≡ kept w (holding z g ∷ []) → st ≡ left_of_work rst
    → Reaches rst a left first → Reaches rst b right second
    → ClosesBoth first second (entail (length w.goal.vars) (view.Sep (view.Or a b) st) w.goal.concl) 4 (deepest (a ∷ b ∷ st ∷ w.goal.concl ∷ []) [] + 2) (length w.goal.vars) t
    → Splits w (of_kind z f) (of_kind z g) left right t
split_known w some z f g a b rst left right st first second t rst_is a_is b_is left_is right_is st_is p q closes =
    let l = has_last w some in
    let u : Splits w a b left right t = splits w l.0 l.1 a b left right (ap (λ (x : Work). length x.goal.vars) left_is) (ap (λ (x : Work). length x.goal.vars) right_is) (ap (λ (x : Work). x.goal.concl) left_is) (ap (λ (x : Work). x.goal.concl) right_is)
    (is_more w left z f a left_is a_is) (is_more w right z g b right_is b_is) st w.goal.concl first second t (st_is ∙ ap (λ (x : Work). left_of_work x) rst_is) refl
    (subst (λ (x : Work). Reaches x a left first) rst_is p) (subst (λ (x : Work). Reaches x b right second) rst_is q) closes in
    subst (λ (x : Formula). Splits w x (of_kind z g) left right t) a_is (subst (λ (y : Formula). Splits w a y left right t) b_is u)
