-- Lemmas in hand.
use Rattle.std.proofs.Common.{◌≡◌, ℕ, zero, suc, ◌+◌, ◌*◌, ◌<◌, ◌≤◌, max, Bool, true, false, cond, List, [], ◌∷◌, ◌++◌, map, length, length-append, refl, sym, ◌∙◌, ap, ap₂, subst, arith, Option, Some, None, slice_get, append-nil, bytes_eq}
use Rattle.std.specs.Prelude.{Result, Ok, Err, insert, option_map}
use Rattle.std.specs.List.{AllByRecursion, find}
use Rattle.std.proofs.lemmas.List.{append_assoc}
use Rattle.pm_logic.specs.declared.formula.Term.{Term}
use Rattle.pm_logic.specs.declared.formula.Formula.{Formula}
use Rattle.pm_logic.specs.declared.formula.Formula.TheVariants.{Pure as Assert}
use Rattle.pm_logic.specs.declared.formula.Formula.TheViews as view
use Rattle.pm_logic.specs.declared.formula.Pure.TheVariants as pure
use Rattle.pm_logic.specs.declared.formula.Preds.{Preds}
use Rattle.pm_logic.specs.Scope.{Scoped, ScopedIn, PureScoped}
use Rattle.pm_logic.specs.Size.{depth_of, nodes_of}
use Rattle.pm_logic.specs.Substitution.{subst_of}
use Rattle.pm_goal.specs.declared.work.Kind.TheVariants as kind
use Rattle.pm_goal.specs.declared.work.Held.{Held}
use Rattle.pm_goal.specs.declared.work.Lemma.{Lemma}
use Rattle.pm_goal.specs.declared.work.Lemmas.{Lemmas}
use Rattle.pm_goal.specs.declared.work.Work.{Work}
use Rattle.pm_goal.specs.declared.refusal.Row.TheVariants.{NoSuchLemma}
use Rattle.pm_goal.specs.declared.refusal.StepFault.{StepFault}
use Rattle.pm_goal.specs.declared.refusal.StepFault.TheVariants as fault
use Rattle.pm_goal.specs.Left.{of_kind, held_parts, left_of_work}
use Rattle.pm_rules.specs.declared.rules.Entail.{Entail}
use Rattle.pm_proof.specs.Trees.{Tree, Hole, entail, conclusion, holes_of, splice, side_depth}
use Rattle.pm_proof.specs.Valid.{EntailScoped}
use Rattle.pm_proof.specs.Known.{Proves, Every, ScopedWhere, FillProves}
use Rattle.pm_proof.specs.declared.proof.Parts.{Parts}
use Rattle.pm_proof.proofs.Fills.{weaker}
use Rattle.pm_schemes.specs.Sketches.{deepest}
use Rattle.pm_star.specs.Stars.{star, parts, work_parts, room as star_room, Moves}
use Rattle.pm_star.specs.Chains.{ChainProves, across}
use Rattle.pm_star.proofs.Scoping.{sep_scoped, scoped_sep, scoped_box, scoped_star, truth_scoped, depth_sep, depth_box, depth_truth}
use Rattle.pm_star.proofs.Contexts.{work_star}
use Rattle.pm_table.specs.declared.place.Place.{Place}
use Rattle.pm_table.specs.declared.place.Place.TheVariants.{Current as current}
use Rattle.pm_table.specs.Outcomes.{Outcome, gives, one, refuse, require_some}
use Rattle.pm_table.specs.Limits.{limited, limit_row, all_nodes, work_formulas, greatest_depth, formulas}
use Rattle.pm_table.specs.Running.{rules_within}
use Rattle.pm_table.specs.Terms.{lemma_named}
use Rattle.pm_table.specs.Works.{Named, hold, holding}
use Rattle.pm_table.specs.Directives.{lemma_nodes}
use Rattle.pm_action.specs.Meanings.{meaning, meanings, height, room, width}
use Rattle.pm_action.specs.Acting.{Refuses}
use Rattle.pm_action.proofs.Sums.{depth_append}
use Rattle.pm_action.proofs.Heights.{star_height, sides_height, concl_height, parts_nodes}
use Rattle.pm_action.proofs.Moves.{few}
use Rattle.pm_action.proofs.Hands.{star_is}
use Rattle.pm_apply.specs.Citing.{says, IsCitable, AreCitable, IsCited, AnswersCiting, IsFromNew, IsCiting, EndsCiting}
use Rattle.pm_apply.proofs.ClosedFormulas.{closed_instance}

abbrev truth : Formula
truth = Assert pure.True

-- ---- in the variables of a work

pub truth_closed : (n : ℕ) → ScopedIn n truth
unfolding ScopedIn PureScoped
truth_closed n = tt

abbrev InstanceAt : ℕ → List Term → Formula → Tree → Type 0
InstanceAt k sigma f t = Proves Every (entail k (subst_of truth sigma) (subst_of f sigma)) (entail 0 truth f ∷ []) 1 (max (side_depth (entail k (subst_of truth sigma) (subst_of f sigma))) (side_depth (entail 0 truth f))) (max k 0) t

instance_of : (k : ℕ) (f x y : Formula) (t : Tree) → x ≡ truth → y ≡ f → Proves Every (entail k x y) (says f ∷ []) 1 (max (side_depth (entail k x y)) (side_depth (says f))) (max k 0) t → Proves Every (entail k truth f) (says f ∷ []) 1 (depth_of f + 2) k t
instance_of k f x y t is is1 p =
    let at = subst (λ z. Proves Every (entail k z f) (says f ∷ []) 1 (max (side_depth (entail k z f)) (side_depth (says f))) (max k 0) t) is (subst (λ z. Proves Every (entail k x z) (says f ∷ []) 1 (max (side_depth (entail k x z)) (side_depth (says f))) (max k 0) t) is1 p) in
    weaker Every (entail k truth f) (says f ∷ []) 1 (max (side_depth (entail k truth f)) (side_depth (says f))) (max k 0) 1 (depth_of f + 2) k t (omega arith) (omega (arith, depth_truth)) (omega arith) at

pub instance_done : (k : ℕ) (f copy : Formula) (sigma : List Term) (t : Tree) → ScopedIn 0 f → copy ≡ f → sigma ≡ [] → InstanceAt k sigma copy t → Proves Every (entail k truth f) (says f ∷ []) 1 (depth_of f + 2) k t
instance_done k f copy sigma t closed same none p =
    let at : InstanceAt k [] f t = subst (λ ts. InstanceAt k ts f t) none (subst (λ g. InstanceAt k sigma g t) same p) in
    instance_of k f (subst_of truth []) (subst_of f []) t (closed_instance truth (truth_closed 0)) (closed_instance f closed) at

-- ---- from the new work

insert_end : (fs : List Formula) (x : Formula) → insert fs (length fs) x ≡ fs ++ x ∷ []
insert_end [] x = refl
insert_end (f ∷ fs) x = ap (λ l. f ∷ l) (insert_end fs x)

held_end : (hs : List Held) (h : Held) → held_parts (hs ++ h ∷ []) ≡ held_parts hs ++ of_kind h.kind h.formula ∷ []
held_end [] h = refl
held_end (x ∷ hs) h = ap (λ l. of_kind x.kind x.formula ∷ l) (held_end hs h)

abbrev cited_work : Work → Formula → Work
cited_work w f = hold kind.Int f w

new_parts : (w : Work) (f : Formula) → work_parts (cited_work w f) ≡ work_parts w ++ view.Pers f ∷ []
new_parts w f = ap (λ l. parts w.goal ++ l) (held_end w.held (holding kind.Int f)) ∙ sym (append_assoc (parts w.goal) (held_parts w.held) (view.Pers f ∷ []))

sunk_star : (w : Work) (f : Formula) → star (insert (work_parts w) (length (work_parts w)) (view.Pers f)) ≡ left_of_work (cited_work w f)
sunk_star w f = star_is (cited_work w f) (insert (work_parts w) (length (work_parts w)) (view.Pers f)) (new_parts w f ∙ sym (insert_end (work_parts w) (view.Pers f)))

abbrev SunkAt : Work → (boxed : Formula) → (place : ℕ) → Tree → Type 0
SunkAt w x n t = Moves (length w.goal.vars) (length (work_parts w)) (view.Sep x (left_of_work w)) (star (insert (work_parts w) n x)) t

sunk_is : (w : Work) (f x : Formula) (n : ℕ) (t : Tree) → x ≡ view.Pers f → n ≡ length (work_parts w) → SunkAt w x n t → Moves (length w.goal.vars) (length (work_parts w)) (view.Sep (view.Pers f) (left_of_work w)) (left_of_work (cited_work w f)) t
sunk_is w f x n t is at m =
    subst (λ r. Moves (length w.goal.vars) (length (work_parts w)) (view.Sep (view.Pers f) (left_of_work w)) r t) (sunk_star w f) (subst (λ i. SunkAt w (view.Pers f) i t) at (subst (λ y. SunkAt w y n t) is m))

pub sunk_meets : (w new : Work) (f x : Formula) (n : ℕ) (sunk hole : Tree) → new ≡ cited_work w f → x ≡ view.Pers f → n ≡ length (work_parts w) → SunkAt w x n sunk → hole ≡ Hole (meaning new) → (conclusion hole).left ≡ (conclusion sunk).right
sunk_meets w new f x n sunk hole new_is is at m hole_is = ap (λ (t : Tree). (conclusion t).left) hole_is ∙ ap left_of_work new_is ∙ sym (ap (λ (e : Entail). e.right) (sunk_is w f x n sunk is at m).concludes)

pub sunk_vars : (w new : Work) (f x : Formula) (n : ℕ) (sunk hole : Tree) → new ≡ cited_work w f → SunkAt w x n sunk → hole ≡ Hole (meaning new) → (conclusion hole).vars ≡ (conclusion sunk).vars
sunk_vars w new f x n sunk hole new_is m hole_is = ap (λ (t : Tree). (conclusion t).vars) hole_is ∙ ap (λ (v : Work). length v.goal.vars) new_is ∙ sym (ap (λ (e : Entail). e.vars) m.concludes)

formula_deep : (w : Work) (f : Formula) → depth_of f ≤ height (cited_work w f)
formula_deep w f = omega (arith, depth_append (formulas w.goal) (map (λ (h : Held). h.formula) (w.held ++ holding kind.Int f ∷ [])), at_end w.held)
  where
    at_end : (hs : List Held) → depth_of f ≤ greatest_depth (map (λ (h : Held). h.formula) (hs ++ holding kind.Int f ∷ []))
    at_end [] = omega arith
    at_end (h ∷ hs) = omega (arith, at_end hs)

pub from_new_done : (w new : Work) (f x : Formula) (n : ℕ) (sunk hole t : Tree) → new ≡ cited_work w f → x ≡ view.Pers f → n ≡ length (work_parts w) → SunkAt w x n sunk → hole ≡ Hole (meaning new) → ChainProves sunk hole t → IsFromNew w f t
from_new_done w new f x n sunk hole t new_is is at m0 hole_is chain =
    let k = length w.goal.vars in
    let v = cited_work w f in
    let l = view.Sep (view.Pers f) (left_of_work w) in
    let r = left_of_work v in
    let q = w.goal.concl in
    let m = sunk_is w f x n sunk is at m0 in
    let c = 100 * (length (work_parts w) + 1) in
    let d = max (height w) (height v) + 12 in
    let hole_v : hole ≡ Hole (meaning v) = hole_is ∙ ap (λ (y : Work). Hole (meaning y)) new_is in
    let m1 : Proves Every (conclusion sunk) [] c d k sunk = subst (λ e. Proves Every e [] c d k sunk) (sym m.concludes) (weaker Every (entail k l r) [] c (star_room l r) k c d k sunk (omega arith) (omega (arith, star_height w, star_height v, formula_deep w f, depth_sep (view.Pers f) (left_of_work w), depth_box f)) (omega arith) m) in
    let h0 : Proves Every (meaning v) (meaning v ∷ []) 0 d k (Hole (meaning v)) = record { concludes = refl; holes = refl; valid = λ preds among. tt; scoped = λ preds e hs. e; size = omega arith; shallow = omega (arith, sides_height v); narrow = omega arith } in
    let h1 : Proves Every (conclusion hole) (meaning v ∷ []) 0 d k hole = rw hole_v h0 in
    let over : across sunk hole ≡ entail k l q = ap (λ y. across sunk y) hole_v ∙ ap (λ (e : Entail). entail e.vars e.left q) m.concludes in
    let scope : ScopedWhere (across sunk hole) (meaning v ∷ []) (conclusion sunk) = subst (λ e. ScopedWhere e (meaning v ∷ []) (conclusion sunk)) (sym over) (subst (λ e. ScopedWhere (entail k l q) (meaning v ∷ []) e) (sym m.concludes) (λ preds es hs. (es.0, hs.0.0))) in
    let all : Proves Every (across sunk hole) (meaning v ∷ []) (c + 0 + 1) d k t = chain Every [] (meaning v ∷ []) c 0 d k m1 h1 scope in
    weaker Every (entail k l q) (meaning v ∷ []) (c + 0 + 1) d k (100 * length (work_parts w) + 101) d k t (omega arith) (omega arith) (omega arith) (subst (λ e. Proves Every e (meaning v ∷ []) (c + 0 + 1) d k t) over all)

-- ---- cited

last_all : (P : Formula → Type 0) (xs : List Formula) (x : Formula) → AllByRecursion P (xs ++ x ∷ []) → P x
last_all P [] x a = a.0
last_all P (y ∷ xs) x a = last_all P xs x a.1

boxed_scoped : (preds : Preds) (k : ℕ) (w : Work) (f : Formula) → Scoped preds k (left_of_work (cited_work w f)) → Scoped preds k (view.Pers f)
boxed_scoped preds k w f s =
    last_all (Scoped preds k) (work_parts w) (view.Pers f) (subst (AllByRecursion (Scoped preds k)) (new_parts w f) (scoped_star preds k (work_parts (cited_work w f)) (subst (Scoped preds k) (sym (work_star (cited_work w f))) s)))

module _ (w : Work) (f : Formula) where
  abbrev k : ℕ
  k = length w.goal.vars

  abbrev pub CitedAt : ℕ → Formula → Tree → Type 0
  CitedAt n l t = Proves Every (entail n l w.goal.concl) (entail n (view.Sep (view.Pers f) l) w.goal.concl ∷ entail n truth f ∷ []) 20 (deepest (l ∷ f ∷ w.goal.concl ∷ []) [] + 3) n t

  abbrev deep : ℕ
  deep = max (height w) (height (cited_work w f)) + 12

  abbrev pub SaidAt : ℕ → Tree → Type 0
  SaidAt n t = Proves Every (entail n truth f) (says f ∷ []) 1 (depth_of f + 2) n t

  rule_at : (n : ℕ) (l : Formula) (t : Tree) → n ≡ k → l ≡ left_of_work w → CitedAt n l t → CitedAt k (left_of_work w) t
  rule_at n l t vars left p = subst (λ j. CitedAt j (left_of_work w) t) vars (subst (λ x. CitedAt n x t) left p)

  pub said_hole : (n : ℕ) (l : Formula) (rule said : Tree) → n ≡ k → l ≡ left_of_work w → CitedAt n l rule → SaidAt n said → slice_get (holes_of rule) 1 ≡ Some (conclusion said)
  said_hole n l rule said vars left p s = ap (λ hs. slice_get hs 1) p.holes ∙ ap Some (sym s.concludes)

  said_filled : (n : ℕ) (l : Formula) (rule said t : Tree) → n ≡ k → l ≡ left_of_work w → CitedAt n l rule → SaidAt n said → FillProves rule 1 said t
      → Proves Every (meaning w) (entail k (view.Sep (view.Pers f) (left_of_work w)) w.goal.concl ∷ says f ∷ []) 21 deep (width w) t
  said_filled n l rule said t vars left p0 s0 fills =
      let p : CitedAt k (left_of_work w) rule = rule_at n l rule vars left p0 in
      let s : SaidAt k said = subst (λ j. SaidAt j said) vars s0 in
      let x = left_of_work w in
      let q = w.goal.concl in
      let g = entail k (view.Sep (view.Pers f) x) q in
      let h = entail k truth f in
      let hs = g ∷ h ∷ [] in
      let p1 : Proves Every (meaning w) hs 20 deep (width w) rule = weaker Every (meaning w) hs 20 (deepest (x ∷ f ∷ q ∷ []) [] + 3) k 20 deep (width w) rule (omega arith) (omega (arith, star_height w, concl_height w, formula_deep w f)) (omega arith) p in
      let s1 : Proves Every (conclusion said) (says f ∷ []) 1 deep (width w) said = subst (λ e. Proves Every e (says f ∷ []) 1 deep (width w) said) (sym s.concludes) (weaker Every h (says f ∷ []) 1 (depth_of f + 2) k 1 deep (width w) said (omega arith) (omega (arith, formula_deep w f)) (omega arith) s) in
      let scope : ScopedWhere (meaning w) (splice hs 1 (says f ∷ [])) h = λ preds es gs. (truth_scoped preds k, scoped_box preds k f (scoped_sep preds k (view.Pers f) x gs.0.0).0) in
      fills Every (meaning w) hs (says f ∷ []) 20 1 deep (width w) p1 s1 (subst (λ e. ScopedWhere (meaning w) (splice hs 1 (says f ∷ [])) e) (sym s.concludes) scope)

  pub new_hole : (n : ℕ) (l : Formula) (rule said t by : Tree) → n ≡ k → l ≡ left_of_work w → CitedAt n l rule → SaidAt n said → FillProves rule 1 said t → IsFromNew w f by → slice_get (holes_of t) 0 ≡ Some (conclusion by)
  new_hole n l rule said t by vars left p s fills b = ap (λ hs. slice_get hs 0) (said_filled n l rule said t vars left p s fills).holes ∙ ap Some (sym b.concludes)

  pub citing_done : (n : ℕ) (l : Formula) (rule said t u by : Tree) → n ≡ k → l ≡ left_of_work w → CitedAt n l rule → SaidAt n said → FillProves rule 1 said t → IsFromNew w f by → FillProves t 0 by u → IsCiting w f u
  citing_done n l rule said t u by vars left p s fills b fills1 =
      let x = left_of_work w in
      let q = w.goal.concl in
      let v = cited_work w f in
      let g = entail k (view.Sep (view.Pers f) x) q in
      let hs = g ∷ says f ∷ [] in
      let m = 100 * length (work_parts w) + 101 in
      let made = said_filled n l rule said t vars left p s fills in
      let b1 : Proves Every (conclusion by) (meaning v ∷ []) m deep (width w) by = subst (λ e. Proves Every e (meaning v ∷ []) m deep (width w) by) (sym b.concludes) (weaker Every g (meaning v ∷ []) m deep k m deep (width w) by (omega arith) (omega arith) (omega arith) b) in
      let scope : ScopedWhere (meaning w) (meaning v ∷ says f ∷ []) g = λ preds es gs. (sep_scoped preds k (view.Pers f) x (boxed_scoped preds k w f gs.0.0) es.0, es.1) in
      let all : Proves Every (meaning w) (meaning v ∷ says f ∷ []) (21 + m) deep (width w) u = fills1 Every (meaning w) hs (meaning v ∷ []) 21 m deep (width w) made b1 (subst (λ e. ScopedWhere (meaning w) (meaning v ∷ says f ∷ []) e) (sym b.concludes) scope) in
      weaker Every (meaning w) (meaning v ∷ says f ∷ []) (21 + m) deep (width w) (100 * length (work_parts w) + 122) deep (width w) u (omega arith) (omega arith) (omega arith) all

-- ---- what is answered

pub cite_done : (w new : Work) (f : Formula) (t : Tree) (r : Result (Parts Place) StepFault) → new ≡ cited_work w f → IsCiting w f t → EndsCiting new t r
    → AnswersCiting (all_nodes (work_formulas w) + nodes_of f) w (Some f) (limited (one (cited_work w f))) r
cite_done w new f t r is p ends0 =
    let v = cited_work w f in
    let s = all_nodes (work_formulas w) + nodes_of f in
    let n = 100 * length (work_parts w) + 122 in
    let d = max (height w) (height v) + 12 in
    let ps = current [] v ∷ [] in
    let ends : EndsCiting v t r = subst (λ x. EndsCiting x t r) is ends0 in
    ends s w f (weaker Every (meaning w) (meaning v ∷ says f ∷ []) n d (width w) (rules_within s) (room w ps) (width w) t (few s n (omega (arith, parts_nodes w))) (omega arith) (omega arith) p)

test_step : (b : Bool) (l : Lemma) (o : Option Lemma) (q : Option Formula) → q ≡ option_map (λ (m : Lemma). m.formula) o → cond b (Some l.formula) q ≡ option_map (λ (m : Lemma). m.formula) (cond b (Some l) o)
test_step true l o q e = refl
test_step false l o q e = e

found_named : (n : Named) (ls : List Lemma) → lemma_named n ls ≡ option_map (λ (m : Lemma). m.formula) (find (λ (l : Lemma). bytes_eq n l.name) ls)
found_named n [] = refl
found_named n (l ∷ ls) = test_step (bytes_eq n l.name) l (find (λ (m : Lemma). bytes_eq n m.name) ls) (lemma_named n ls) (found_named n ls)

find_in : (P : Lemma → Type 0) (test : Lemma → Bool) (ls : List Lemma) (l : Lemma) → AllByRecursion P ls → find test ls ≡ Some l → P l
find_in P test [] l a e = absurd cc
find_in P test (x ∷ ls) l a e = by (test x) e (λ h. find_in P test ls l a.1 h)
  where
    by : (b : Bool) → cond b (Some x) (find test ls) ≡ Some l → (find test ls ≡ Some l → P l) → P l
    by true h behind = let same : x ≡ l = cc in subst P same a.0
    by false h behind = behind h

pub found_citable : (lemmas : Lemmas) (list : List Lemma) (n : Named) (l : Lemma) → AreCitable lemmas → list ≡ lemmas.list → Some l ≡ find (λ (m : Lemma). bytes_eq n m.name) list → IsCitable l
found_citable lemmas list n l a is e = find_in IsCitable (λ (m : Lemma). bytes_eq n m.name) lemmas.list l a.each (ap (find (λ (m : Lemma). bytes_eq n m.name)) (sym is) ∙ sym e)

abbrev AnswersOf : Work → Option Formula → Result (Parts Place) StepFault → Named → Type 0
AnswersOf w o r n = AnswersCiting (all_nodes (work_formulas w) + lemma_nodes o) w o (limited (require_some o NoSuchLemma n (λ f. one (cited_work w f)))) r

pub lemma_cited : (w : Work) (lemmas : Lemmas) (list : List Lemma) (n : Named) (l : Lemma) (r : Result (Parts Place) StepFault) → list ≡ lemmas.list → Some l ≡ find (λ (m : Lemma). bytes_eq n m.name) list
    → AnswersCiting (all_nodes (work_formulas w) + nodes_of l.formula) w (Some l.formula) (limited (one (cited_work w l.formula))) r → AnswersOf w (lemma_named n lemmas.list) r n
lemma_cited w lemmas list n l r is e a =
    let named : lemma_named n lemmas.list ≡ Some l.formula = found_named n lemmas.list ∙ ap (λ ls. option_map (λ (m : Lemma). m.formula) (find (λ (m : Lemma). bytes_eq n m.name) ls)) (sym is) ∙ ap (option_map (λ (m : Lemma). m.formula)) (sym e) in
    subst (λ o. AnswersOf w o r n) (sym named) a

refuses_citing : (s : ℕ) (w : Work) (o : Option Formula) (n : Named) (f : StepFault) → Refuses NoSuchLemma n f → AnswersCiting s w o (refuse NoSuchLemma n) (Err f)
refuses_citing s w o n (fault.Refused x) h = h
refuses_citing s w o n fault.Memory h = tt

pub lemma_refused : (w : Work) (lemmas : Lemmas) (list : List Lemma) (n : Named) (f : StepFault) → list ≡ lemmas.list → None ≡ find (λ (m : Lemma). bytes_eq n m.name) list → Refuses NoSuchLemma n f → AnswersOf w (lemma_named n lemmas.list) (Err f) n
lemma_refused w lemmas list n f is e h =
    let named : lemma_named n lemmas.list ≡ None = found_named n lemmas.list ∙ ap (λ ls. option_map (λ (m : Lemma). m.formula) (find (λ (m : Lemma). bytes_eq n m.name) ls)) (sym is) ∙ ap (option_map (λ (m : Lemma). m.formula)) (sym e) in
    subst (λ o. AnswersOf w o (Err f) n) (sym named) (refuses_citing (all_nodes (work_formulas w) + 0) w None n f h)
