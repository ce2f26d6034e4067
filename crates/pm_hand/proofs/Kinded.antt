-- What changing the kind of the last in hand answers.
use Rattle.std.proofs.Common.{◌≡◌, ℕ, ◌+◌, ◌*◌, [], ◌∷◌, ◌++◌, length, refl, sym, ◌∙◌, ap, ap₂, subst, arith, Option, Some, None}
use Rattle.std.specs.Prelude.{Result, Err}
use Rattle.pm_logic.specs.declared.formula.Formula.{Formula}
use Rattle.pm_logic.specs.declared.formula.Formula.TheViews as view
use Rattle.pm_logic.specs.Size.{depth_of, nodes_of}
use Rattle.pm_goal.specs.declared.work.Kind.{Kind}
use Rattle.pm_goal.specs.declared.work.Kind.TheVariants.{Int, Spat}
use Rattle.pm_goal.specs.declared.work.Held.{Held}
use Rattle.pm_goal.specs.declared.work.Work.{Work}
use Rattle.pm_goal.specs.declared.refusal.Row.TheVariants.{NotPersistent}
use Rattle.pm_goal.specs.declared.refusal.StepFault.{StepFault}
use Rattle.pm_goal.specs.declared.refusal.StepFault.TheVariants as fault
use Rattle.pm_goal.specs.Left.{of_kind}
use Rattle.pm_proof.specs.Trees.{Tree, entail, conclusion}
use Rattle.pm_proof.specs.Known.{Proves, Every}
use Rattle.pm_proof.specs.declared.proof.Parts.{Parts}
use Rattle.pm_proof.proofs.Fills.{weaker}
use Rattle.pm_schemes.specs.Sketches.{deepest}
use Rattle.pm_classes.specs.declared.entry.One.{One}
use Rattle.pm_classes.specs.Classes.{into_persistent}
use Rattle.pm_classes.specs.Entries.{HasProof, PersistentAnswer, persistent_says}
use Rattle.pm_classes.specs.Entries as entries
use Rattle.pm_table.specs.declared.place.Place.{Place}
use Rattle.pm_table.specs.Outcomes.{one, require_entry}
use Rattle.pm_table.specs.Limits.{limited, all_nodes, work_formulas}
use Rattle.pm_table.specs.Works.{holding, work_of}
use Rattle.pm_table.specs.Destructs as table
use Rattle.pm_action.specs.Meanings.{width}
use Rattle.pm_action.specs.Acting.{Answers, IsHanded, IsLast, StaysAs, all_but_last, plainly}
use Rattle.pm_action.proofs.Hands.{with_last_is, held_is}
use Rattle.pm_hand.specs.Changed.{relast, last_says, boxing, GivesOne, BecomesOne}
use Rattle.pm_hand.proofs.Relasts.{last_depth, last_nodes, last_scoped}

-- it stays as it is
relast_same : (w : Work) (l : Held) (k : Kind) → IsLast w l → l.kind ≡ k → relast w k l.formula ≡ w
relast_same w l k is e = ap (λ x. work_of w.goal (all_but_last w.held ++ (holding x l.formula ∷ []))) (sym e) ∙ ap (work_of w.goal) (sym (held_is w l is))

-- ---- spatial

spat_row : (w : Work) (l : Held) → IsLast w l → table.to_spat w ≡ one (relast w Spat l.formula)
spat_row w l is = with_last_is w (λ hand. one (work_of w.goal (hand.others ++ (holding Spat hand.last.formula ∷ [])))) l is

pub spat_given : (w : Work) (l : Held) (r : Result (Parts Place) StepFault) → IsLast w l → GivesOne w (relast w Spat l.formula) r → Answers (all_nodes (work_formulas w)) w (limited (table.to_spat w)) r
spat_given w l r is g = subst (λ o. Answers (all_nodes (work_formulas w)) w (limited o) r) (sym (spat_row w l is)) g

pub spat_stays : (w : Work) (l : Held) (r : Result (Parts Place) StepFault) → IsLast w l → l.kind ≡ Spat → StaysAs w w r → Answers (all_nodes (work_formulas w)) w (limited (table.to_spat w)) r
spat_stays w l r is e stays = spat_given w l r is (subst (λ x. GivesOne w x r) (sym (relast_same w l Spat is e)) (stays (all_nodes (work_formulas w))))

-- the rule of the box
pub unbox_says : (w : Work) (l : Held) (v : ℕ) (f : Formula) (by : Tree) (n d k : ℕ) → v ≡ length w.goal.vars → f ≡ l.formula → l.kind ≡ Int → Proves Every (entail v (view.Pers l.formula) l.formula) [] n d k by → conclusion by ≡ last_says w l Spat f
unbox_says w l v f by n d k vars same e p =
    p.concludes ∙ ap (λ x. entail x (view.Pers l.formula) l.formula) vars ∙ ap₂ (λ x y. entail (length w.goal.vars) (of_kind x l.formula) y) (sym e) (sym same)

pub unbox_given : (w : Work) (l : Held) (v : ℕ) (f : Formula) (by : Tree) (r : Result (Parts Place) StepFault) → IsLast w l → v ≡ length w.goal.vars → f ≡ l.formula
    → Proves Every (entail v (view.Pers l.formula) l.formula) [] 1 (deepest (l.formula ∷ []) [] + 1) v by
    → BecomesOne w (relast w Spat f) by r → GivesOne w (relast w Spat l.formula) r
unbox_given w l v f by r is vars same q b1 =
    let b : BecomesOne w (relast w Spat l.formula) by r = subst (λ x. BecomesOne w (relast w Spat x) by r) same b1 in
    let p : Proves Every (entail (length w.goal.vars) (view.Pers l.formula) l.formula) [] 1 (deepest (l.formula ∷ []) [] + 1) (length w.goal.vars) by = subst (λ x. Proves Every (entail x (view.Pers l.formula) l.formula) [] 1 (deepest (l.formula ∷ []) [] + 1) x by) vars q in
    b 1 (deepest (l.formula ∷ []) [] + 1)
    (subst (λ e. Proves Every e [] 1 (deepest (l.formula ∷ []) [] + 1) (width w) by) (sym p.concludes) (weaker Every (entail (length w.goal.vars) (view.Pers l.formula) l.formula) [] 1 (deepest (l.formula ∷ []) [] + 1) (length w.goal.vars) 1 (deepest (l.formula ∷ []) [] + 1) (width w) by (omega arith) (omega arith) (omega arith) p))
    (omega arith)
    (omega (arith, last_depth w l is))

-- ---- intuitionistic

int_row : (w : Work) (l : Held) → IsLast w l → table.to_int w ≡ require_entry (table.boxed_part l.kind l.formula) NotPersistent (λ g. one (relast w Int g))
int_row w l is = with_last_is w (λ hand. require_entry (table.boxed_part hand.last.kind hand.last.formula) NotPersistent (λ g. one (work_of w.goal (hand.others ++ (holding Int g ∷ []))))) l is

pub int_stays : (w : Work) (l : Held) (r : Result (Parts Place) StepFault) → IsLast w l → l.kind ≡ Int → StaysAs w w r → Answers (all_nodes (work_formulas w)) w (limited (table.to_int w)) r
int_stays w l r is e stays =
    subst (λ o. Answers (all_nodes (work_formulas w)) w (limited o) r)
    (ap (λ x. one x) (sym (relast_same w l Int is e)) ∙ ap (λ k. require_entry (table.boxed_part k l.formula) NotPersistent (λ g. one (relast w Int g))) (sym e) ∙ sym (int_row w l is))
    (stays (all_nodes (work_formulas w)))

pub int_boxed : (w : Work) (l : Held) (r : Result (Parts Place) StepFault) → IsLast w l → l.kind ≡ Spat → Answers (all_nodes (work_formulas w)) w (limited (boxing w l)) r → Answers (all_nodes (work_formulas w)) w (limited (table.to_int w)) r
int_boxed w l r is e a =
    subst (λ o. Answers (all_nodes (work_formulas w)) w (limited o) r)
    (ap (λ k. require_entry (table.boxed_part k l.formula) NotPersistent (λ g. one (relast w Int g))) (sym e) ∙ sym (int_row w l is)) a

pub entry_handed : (w : Work) (l : Held) → IsHanded w → IsLast w l → entries.IsHanded (length w.goal.vars) l.formula
entry_handed w l h is = record { scoped = last_scoped w l is h.scoped; within = omega (arith, h.shallow, last_depth w l is) }

pub box_refused : (w : Work) (l : Held) (f : StepFault) → PersistentAnswer (length w.goal.vars) l.formula None → f ≡ fault.Refused (plainly NotPersistent) → Answers (all_nodes (work_formulas w)) w (limited (boxing w l)) (Err f)
box_refused w l f a e = by (into_persistent l.formula) a
  where
    by : (o : Option Formula) → entries.OneAnswers (persistent_says (length w.goal.vars) l.formula) (length w.goal.vars) l.formula o None → Answers (all_nodes (work_formulas w)) w (limited (require_entry o NotPersistent (λ g. one (relast w Int g)))) (Err f)
    by None a = rw e refl
    by (Some g) a = absurd a

-- what an entry says
pub entry_says : (w : Work) (l : Held) (x : One) → l.kind ≡ Spat → PersistentAnswer (length w.goal.vars) l.formula (Some x) → conclusion x.proof ≡ last_says w l Int x.formula
entry_says w l x e a = by (into_persistent l.formula) a
  where
    by : (o : Option Formula) → entries.OneAnswers (persistent_says (length w.goal.vars) l.formula) (length w.goal.vars) l.formula o (Some x) → conclusion x.proof ≡ last_says w l Int x.formula
    by None a = absurd a
    by (Some g) a = a.proof.concludes ∙ ap₂ (λ k y. entail (length w.goal.vars) (of_kind k l.formula) (view.Pers y)) (sym e) (sym a.formula)

pub box_given : (w : Work) (l : Held) (x : One) (r : Result (Parts Place) StepFault) → IsLast w l → PersistentAnswer (length w.goal.vars) l.formula (Some x) → BecomesOne w (relast w Int x.formula) x.proof r → Answers (all_nodes (work_formulas w)) w (limited (boxing w l)) r
box_given w l x r is a b = by (into_persistent l.formula) a
  where
    by : (o : Option Formula) → entries.OneAnswers (persistent_says (length w.goal.vars) l.formula) (length w.goal.vars) l.formula o (Some x) → Answers (all_nodes (work_formulas w)) w (limited (require_entry o NotPersistent (λ g. one (relast w Int g)))) r
    by None a = absurd a
    by (Some g) a =
        let e = persistent_says (length w.goal.vars) l.formula g in
        let n = 200 * nodes_of l.formula in
        let d = depth_of l.formula + 8 in
        let known = weaker Every e [] n d (length w.goal.vars + depth_of l.formula) n d (width w) x.proof (omega arith) (omega arith) (omega (arith, last_depth w l is)) a.proof in
        subst (λ y. GivesOne w (relast w Int y) r) a.formula
        (b n d (subst (λ c. Proves Every c [] n d (width w) x.proof) (sym a.proof.concludes) known) (omega (arith, last_nodes w l is)) (omega (arith, last_depth w l is)))
