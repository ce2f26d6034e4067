-- A universal that is last in hand, opened with a term.
use Rattle.std.proofs.Common.{◌≡◌, ℕ, suc, ◌+◌, ◌*◌, ◌<◌, ◌≤◌, max, List, [], ◌∷◌, ◌++◌, length, map, refl, sym, ◌∙◌, ap, ap₂, subst, arith, Option, Some, None, slice_get}
use Rattle.std.specs.Prelude.{Result, Err}
use Rattle.std.proofs.lemmas.List.{map-append}
use Rattle.pm_logic.specs.declared.formula.Term.{Term}
use Rattle.pm_logic.specs.declared.formula.Preds.{Preds}
use Rattle.pm_logic.specs.declared.formula.Formula.{Formula}
use Rattle.pm_logic.specs.declared.formula.Formula.TheViews as view
use Rattle.pm_logic.specs.Trees as tree
use Rattle.pm_logic.proofs.Views.{view_all, view_pers}
use Rattle.pm_logic.specs.declared.formula.TheConstants.{BOUND}
use Rattle.pm_logic.specs.Bounds.{IsBounded, past_indices}
use Rattle.pm_logic.specs.Scope.{ScopedIn, CallsFit, Scoped, TermScoped}
use Rattle.pm_logic.specs.Size.{depth_of, nodes_of, term_nodes}
use Rattle.pm_logic.specs.Substitution.{opened_of}
use Rattle.pm_logic.proofs.Grows.{term_grows}
use Rattle.pm_rules.specs.declared.rules.Entail.{Entail}
use Rattle.pm_goal.specs.declared.work.Kind.{Kind}
use Rattle.pm_goal.specs.declared.work.Kind.TheVariants.{Int, Spat}
use Rattle.pm_goal.specs.declared.work.Held.{Held}
use Rattle.pm_goal.specs.declared.work.Work.{Work}
use Rattle.pm_goal.specs.declared.refusal.Row.TheVariants.{NotUniversal}
use Rattle.pm_goal.specs.declared.refusal.StepFault.{StepFault}
use Rattle.pm_goal.specs.declared.refusal.StepFault.TheVariants as fault
use Rattle.pm_goal.specs.Left.{of_kind}
use Rattle.pm_proof.specs.Trees.{Tree, Hole, Axiom, First, Second, Both, entail, conclusion, depth, holes_of, side_depth, splice, filled}
use Rattle.pm_proof.specs.Valid.{EntailScoped, TermFits}
use Rattle.pm_proof.specs.Known.{Proves, Every, ScopedWhere, FillProves}
use Rattle.pm_proof.specs.declared.proof.Parts.{Parts}
use Rattle.pm_proof.proofs.Fills.{fills, weaker}
use Rattle.pm_schemes.specs.Sketches.{deepest}
use Rattle.pm_classes.proofs.Bodies.{body_handed}
use Rattle.pm_classes.specs.declared.entry.One.{One}
use Rattle.pm_classes.specs.Classes.{into_forall}
use Rattle.pm_classes.specs.Entries.{ForallAnswer, forall_says}
use Rattle.pm_classes.specs.Entries as entries
use Rattle.pm_classes.proofs.Scoped as classes
use Rattle.pm_table.specs.declared.place.Place.{Place}
use Rattle.pm_table.specs.Outcomes.{one, require_entry}
use Rattle.pm_table.specs.Limits.{limited, formulas, all_nodes, greatest_depth, work_formulas}
use Rattle.pm_table.specs.Works.{holding, work_of}
use Rattle.pm_table.specs.Terms as table
use Rattle.pm_action.specs.Meanings.{width}
use Rattle.pm_action.specs.Acting.{Answers, IsHanded, IsLast, all_but_last, plainly}
use Rattle.pm_action.proofs.Hands.{with_last_is}
use Rattle.pm_action.proofs.Sums.{depth_append}
use Rattle.pm_hand.specs.Changed.{relast, last_says, opening, IsOpened, Becomes}
use Rattle.pm_hand.proofs.Relasts.{last_depth, last_nodes, last_scoped}

-- ---- what is asked of the body and the term

pub bounded : (k : ℕ) (b : Formula) → ScopedIn (k + 1) b → k + 1 + depth_of b < BOUND → IsBounded b
bounded k b s le = record { vars = k + 1; scoped = s; within = omega (arith, le) }

pub placed : (k : ℕ) (t : Term) → k ≤ BOUND → TermFits k t → TermScoped past_indices t
unfolding past_indices
placed k t le h = term_grows k past_indices t (omega arith) h.scoped

-- ---- depth

root_deep : (t : Tree) → side_depth (conclusion t) ≤ depth t
root_deep (Hole e) = omega arith
root_deep (Axiom r e) = omega arith
root_deep (First r e a) = omega arith
root_deep (Second r e b) = omega arith
root_deep (Both r e a b) = omega arith

-- ---- scope

under_box : (preds : Preds) (k : ℕ) (a : Formula) → Scoped preds k (tree.Pers a) → Scoped preds k a
unfolding ScopedIn CallsFit
under_box preds k a s = record { indices = s.indices; calls = s.calls }

quantified : (preds : Preds) (k : ℕ) (a : Formula) → Scoped preds (suc k) a → Scoped preds k (tree.All a)
unfolding ScopedIn CallsFit
quantified preds k a s = record { indices = s.indices; calls = s.calls }

kind_scoped : (preds : Preds) (k : ℕ) (kind : Kind) (f : Formula) → Scoped preds k (of_kind kind f) → Scoped preds k f
kind_scoped preds k Spat f s = s
kind_scoped preds k Int f s = under_box preds k f (subst (Scoped preds k) (view_pers f) s)

all_scoped : (preds : Preds) (k : ℕ) (f b : Formula) → into_forall f ≡ Some b → Scoped preds k f → Scoped preds k (view.All b)
all_scoped preds k f b is s = subst (Scoped preds k) (sym (view_all b)) (quantified preds k b (classes.scoped.forall_ preds k f b is s))

-- ---- the proof

module _ (k : ℕ) (kind : Kind) (f b : Formula) (t : Term) where
  abbrev all_of : Formula
  all_of = view.All b

  abbrev at_term : Formula
  at_term = opened_of b t

  abbrev whole : Entail
  whole = entail k (of_kind kind f) (of_kind kind at_term)

  abbrev first : Entail
  first = entail k f all_of

  abbrev second : Entail
  second = entail k all_of at_term

  abbrev deep : ℕ
  deep = deepest (f ∷ all_of ∷ at_term ∷ []) [] + 1

  module _ (scheme special by p1 p2 : Tree) (known : Proves Every whole (first ∷ second ∷ []) 2 deep k scheme) (instance : Proves Every second [] 1 (side_depth second) k special) (says : conclusion by ≡ first) where
    pub second_hole : slice_get (holes_of scheme) 1 ≡ Some (conclusion special)
    second_hole = ap (λ es. slice_get es 1) known.holes ∙ ap Some (sym instance.concludes)

    module _ (one_more : p1 ≡ filled scheme 1 special) where
      holes_then : holes_of p1 ≡ first ∷ []
      holes_then = ap holes_of one_more ∙ (fills scheme 1 special second_hole).holes ∙ ap₂ (λ es xs. splice es 1 xs) known.holes instance.holes

      pub first_hole : slice_get (holes_of p1) 0 ≡ Some (conclusion by)
      first_hole = ap (λ es. slice_get es 0) holes_then ∙ ap Some (sym says)

      pub opens : p2 ≡ filled p1 0 by → FillProves scheme 1 special p1 → FillProves p1 0 by p2 → IsOpened k kind f b t by p2
      opens all_more fill1 fill2 =
          let over : conclusion p2 ≡ whole = ap conclusion all_more ∙ (fills p1 0 by first_hole).concludes ∙ (ap conclusion one_more ∙ (fills scheme 1 special second_hole).concludes) ∙ known.concludes in
          record {
            concludes = over;
            proves = λ n d q given scoped narrow low.
                let s1 : Proves Every whole (first ∷ second ∷ []) 2 d q scheme = weaker Every whole (first ∷ second ∷ []) 2 deep k 2 d q scheme (omega arith) low narrow known in
                let x1 : Proves Every (conclusion special) [] 1 d q special = subst (λ e. Proves Every e [] 1 d q special) (sym instance.concludes) (weaker Every second [] 1 (side_depth second) k 1 d q special (omega arith) (omega (arith, low)) narrow instance) in
                let scope1 : ScopedWhere whole (first ∷ []) (conclusion special) = λ preds e hs. subst (EntailScoped preds) (sym instance.concludes) (hs.0.1, kind_scoped preds k kind at_term e.1) in
                let y1 : Proves Every whole (first ∷ []) 3 d q p1 = fill1 Every whole (first ∷ second ∷ []) [] 2 1 d q s1 x1 scope1 in
                let scope2 : ScopedWhere whole [] (conclusion by) = λ preds e hs. let left : Scoped preds k f = kind_scoped preds k kind f e.0 in subst (EntailScoped preds) (sym says) (left, scoped preds left) in
                let y2 : Proves Every whole [] (3 + n) d q p2 = fill2 Every whole (first ∷ []) [] 3 n d q y1 given scope2 in
                subst (λ e. Proves Every e [] (n + 3) d q p2) (sym over) (weaker Every whole [] (3 + n) d q (n + 3) d q p2 (omega arith) (omega arith) (omega arith) y2);
          }

-- ---- the action

term_row : (w : Work) (l : Held) (t : Term) → IsLast w l → table.with_term t w ≡ opening w l t
term_row w l t is = with_last_is w (λ hand. require_entry (into_forall hand.last.formula) NotUniversal (λ b. one (work_of w.goal (hand.others ++ (holding hand.last.kind (opened_of b t) ∷ []))))) l is

pub by_row : (s : ℕ) (w : Work) (l : Held) (t : Term) (r : Result (Parts Place) StepFault) → IsLast w l → Answers s w (limited (opening w l t)) r → Answers s w (limited (table.with_term t w)) r
by_row s w l t r is a = subst (λ o. Answers s w (limited o) r) (sym (term_row w l t is)) a

pub entry_handed : (w : Work) (l : Held) → IsHanded w → IsLast w l → entries.IsHanded (length w.goal.vars) l.formula
entry_handed w l h is = record { scoped = last_scoped w l is h.scoped; within = omega (arith, h.shallow, last_depth w l is) }

pub body_handed_over : (w : Work) (l : Held) (x : One) → IsHanded w → IsLast w l → ForallAnswer (length w.goal.vars) l.formula (Some x) → entries.IsHanded (length w.goal.vars + 1) x.formula
body_handed_over w l x h is a = body_handed (length w.goal.vars) l.formula x (entry_handed w l h is) a

pub no_universal : (s : ℕ) (w : Work) (l : Held) (t : Term) (f : StepFault) → ForallAnswer (length w.goal.vars) l.formula None → f ≡ fault.Refused (plainly NotUniversal) → Answers s w (limited (opening w l t)) (Err f)
no_universal s w l t f a e = by (into_forall l.formula) a
  where
    by : (o : Option Formula) → entries.OneAnswers (forall_says (length w.goal.vars) l.formula) (length w.goal.vars) l.formula o None → Answers s w (limited (require_entry o NotUniversal (λ b. one (relast w l.kind (opened_of b t))))) (Err f)
    by None a = rw e refl
    by (Some g) a = absurd a

pub entry_says : (w : Work) (l : Held) (x : One) → ForallAnswer (length w.goal.vars) l.formula (Some x) → conclusion x.proof ≡ entail (length w.goal.vars) l.formula (view.All x.formula)
entry_says w l x a = by (into_forall l.formula) a
  where
    by : (o : Option Formula) → entries.OneAnswers (forall_says (length w.goal.vars) l.formula) (length w.goal.vars) l.formula o (Some x) → conclusion x.proof ≡ entail (length w.goal.vars) l.formula (view.All x.formula)
    by None a = absurd a
    by (Some g) a = a.proof.concludes ∙ ap (λ y. entail (length w.goal.vars) l.formula (view.All y)) (sym a.formula)

new_depth : (w : Work) (k : Kind) (f : Formula) → depth_of f ≤ greatest_depth (work_formulas (relast w k f))
new_depth w k f =
    let hs = all_but_last w.held in
    let new : List Held = holding k f ∷ [] in
    let behind : greatest_depth (map (λ (h : Held). h.formula) (hs ++ new)) ≡ max (greatest_depth (map (λ (h : Held). h.formula) hs)) (greatest_depth (map (λ (h : Held). h.formula) new)) = ap greatest_depth (map-append (λ (h : Held). h.formula) hs new) ∙ depth_append (map (λ (h : Held). h.formula) hs) (map (λ (h : Held). h.formula) new) in
    omega (arith, depth_append (formulas w.goal) (map (λ (h : Held). h.formula) (hs ++ new)), behind)

pub opened_says : (w : Work) (l : Held) (t : Term) (x : One) (y : Formula) (by : Tree) → y ≡ opened_of x.formula t → IsOpened (length w.goal.vars) l.kind l.formula x.formula t x.proof by → conclusion by ≡ last_says w l l.kind y
opened_says w l t x y by y_is opened = opened.concludes ∙ ap (λ z. entail (length w.goal.vars) (of_kind l.kind l.formula) (of_kind l.kind z)) (sym y_is)

module _ (w : Work) (l : Held) (t : Term) (x : One) (y : Formula) (by : Tree) (r : Result (Parts Place) StepFault) (is : IsLast w l) (y_is : y ≡ opened_of x.formula t) (opened : IsOpened (length w.goal.vars) l.kind l.formula x.formula t x.proof by) where
  abbrev s : ℕ
  s = all_nodes (work_formulas w) + term_nodes t

  taken : (g : Formula) → into_forall l.formula ≡ Some g → entries.IsOne (forall_says (length w.goal.vars) l.formula) (length w.goal.vars) l.formula g x → Becomes w (relast w l.kind (opened_of x.formula t)) by r → Answers s w (limited (one (relast w l.kind (opened_of g t)))) r
  taken g entry_is a b =
      let n = 200 * nodes_of l.formula in
      let d = max (depth_of l.formula + 8) (deepest (l.formula ∷ view.All x.formula ∷ opened_of x.formula t ∷ []) [] + 1) in
      let e = forall_says (length w.goal.vars) l.formula g in
      let given : Proves Every (conclusion x.proof) [] n d (width w) x.proof = subst (λ c. Proves Every c [] n d (width w) x.proof) (sym a.proof.concludes) (weaker Every e [] n (depth_of l.formula + 8) (length w.goal.vars + depth_of l.formula) n d (width w) x.proof (omega arith) (omega arith) (omega (arith, last_depth w l is)) a.proof) in
      let root : side_depth (conclusion x.proof) ≤ depth_of l.formula + 8 = omega (arith, root_deep x.proof, a.proof.shallow) in
      let universal : depth_of (view.All x.formula) ≤ depth_of l.formula + 8 = omega (arith, subst (λ c. side_depth c ≤ depth_of l.formula + 8) (a.proof.concludes ∙ ap (λ z. entail (length w.goal.vars) l.formula (view.All z)) (sym a.formula)) root) in
      let p : Proves Every (conclusion by) [] (n + 3) d (width w) by = opened.proves n d (width w) given (λ preds z. subst (λ c. Scoped preds (length w.goal.vars) (view.All c)) (sym a.formula) (all_scoped preds (length w.goal.vars) l.formula g entry_is z)) (omega arith) (omega arith) in
      subst (λ z. Answers s w (limited (one (relast w l.kind (opened_of z t)))) r) a.formula
      (b s (n + 3) d (omega arith) p (omega (arith, last_nodes w l is)) (omega (arith, last_depth w l is, new_depth w l.kind (opened_of x.formula t), universal)))

  pub given_open : ForallAnswer (length w.goal.vars) l.formula (Some x) → Becomes w (relast w l.kind y) by r → Answers s w (limited (opening w l t)) r
  given_open a b0 = go (into_forall l.formula) refl a
    where
      b : Becomes w (relast w l.kind (opened_of x.formula t)) by r
      b = subst (λ z. Becomes w (relast w l.kind z) by r) y_is b0

      go : (o : Option Formula) → into_forall l.formula ≡ o → entries.OneAnswers (forall_says (length w.goal.vars) l.formula) (length w.goal.vars) l.formula o (Some x) → Answers s w (limited (require_entry o NotUniversal (λ g. one (relast w l.kind (opened_of g t))))) r
      go None entry_is a = absurd a
      go (Some g) entry_is a = taken g entry_is a b
