-- A variable of the conclusion comes into the goal.
use Rattle.std.proofs.Common.{◌≡◌, ◌+◌, ◌≤◌, max, [], ◌∷◌, length, refl, sym, ◌∙◌, ap, ap₂, subst, arith}
use Rattle.pm_logic.specs.declared.formula.Formula.{Formula}
use Rattle.pm_logic.specs.declared.formula.Formula.TheViews as view
use Rattle.pm_logic.specs.Trees.{All}
use Rattle.pm_logic.specs.Size.{depth_of}
use Rattle.pm_logic.specs.Substitution.{shift_of}
use Rattle.pm_logic.proofs.Views.{view_all}
use Rattle.pm_goal.specs.declared.work.Work.{Work}
use Rattle.pm_goal.specs.declared.refusal.Row.TheVariants.{NoVariableToIntroduce, NameInUse}
use Rattle.pm_goal.specs.Left.{left_of_work}
use Rattle.pm_proof.specs.Trees.{Tree, entail, side_depth}
use Rattle.pm_proof.specs.Known.{Proves, Every}
use Rattle.pm_proof.proofs.Fills.{weaker}
use Rattle.pm_classes.proofs.Sizes.{depth_all}
use Rattle.pm_classes.proofs.Bound.{shift_deep}
use Rattle.std.specs.Prelude.{Bool, true, false, Result}
use Rattle.pm_goal.specs.declared.refusal.StepFault.{StepFault}
use Rattle.pm_proof.specs.declared.proof.Parts.{Parts}
use Rattle.pm_table.specs.declared.place.Place.{Place}
use Rattle.pm_table.specs.declared.place.Place.TheVariants.{Current as current}
use Rattle.pm_table.specs.Outcomes.{Outcome, one, refuse, refuse_plain, require, require_entry}
use Rattle.pm_table.specs.Limits.{all_nodes, work_formulas, limited}
use Rattle.pm_table.specs.Running.{rules_within}
use Rattle.pm_table.specs.Works as works
use Rattle.pm_table.specs.Works.{Named, fits, with_var, work_of}
use Rattle.pm_table.specs.Introductions as table
use Rattle.pm_table.specs.Introductions.{universal_of}
use Rattle.pm_action.specs.Meanings.{meaning, height, room, width}
use Rattle.pm_action.specs.Acting.{IsActed, IsHanded, Answers, Ends}
use Rattle.pm_action.specs.Naming.{IsFindable}
use Rattle.pm_action.proofs.Heights.{star_height, concl_height}
use Rattle.pm_action.proofs.Moves.{few}
use Rattle.pm_intro.specs.Variables.{lifted}
use Rattle.pm_intro.proofs.Answered.{answers_one}
use Rattle.pm_intro.proofs.Shifting.{lifted_star, lifted_vars}

-- ---- the row

acts_on : Named → Work → Formula → Outcome
acts_on x w c = require_entry (universal_of c) NoVariableToIntroduce (λ b.
    require (fits w.goal x) NameInUse x
    (one (work_of (with_var x b w.goal) [])))

fitting : Named → Work → Formula → Bool → Outcome
fitting x w b f = require f NameInUse x (one (work_of (with_var x b w.goal) []))

module _ (x : Named) (w : Work) (b : Formula) (concl : w.goal.concl ≡ view.All b) where
  row : table.intro_all x w ≡ fitting x w b (fits w.goal x)
  unfolding acts_on fitting
  row = ap (acts_on x w) (concl ∙ view_all b)

  pub row_used : fits w.goal x ≡ false → table.intro_all x w ≡ refuse NameInUse x
  unfolding fitting
  row_used e = row ∙ ap (fitting x w b) e

  pub row_free : fits w.goal x ≡ true → w.held ≡ [] → table.intro_all x w ≡ one (lifted x b w)
  unfolding fitting
  row_free e none = row ∙ ap (fitting x w b) e ∙ ap (λ hs. one (work_of (with_var x b w.goal) (works.each_held shift_of hs))) (sym none)

  pub all_acts : (st : Formula) (t : Tree) → st ≡ left_of_work w
      → Proves Every (entail (length w.goal.vars) st (view.All b)) (entail (length w.goal.vars + 1) (shift_of st) b ∷ []) 1 (max (side_depth (entail (length w.goal.vars) st (view.All b))) (side_depth (entail (length w.goal.vars + 1) (shift_of st) b))) (length w.goal.vars + 1) t
      → IsActed (all_nodes (work_formulas w)) w (current [] (lifted x b w) ∷ []) t
  all_acts st t is p =
      let s = all_nodes (work_formulas w) in
      let k = length w.goal.vars in
      let d = room w (current [] (lifted x b w) ∷ []) in
      let e = entail k st (view.All b) in
      let h = entail (k + 1) (shift_of st) b in
      let same : e ≡ meaning w = ap₂ (entail k) is (sym concl) in
      let hole : h ≡ meaning (lifted x b w) = ap (λ l. entail (k + 1) l b) (ap shift_of is ∙ lifted_star x b w) ∙ ap (λ n. entail n (left_of_work (lifted x b w)) b) (sym (lifted_vars x w.goal.vars)) in
      let left : depth_of st ≤ height w + 1 = rw is (star_height w) in
      let whole : depth_of (view.All b) ≤ height w = subst (λ (y : Formula). depth_of y ≤ height w) concl (concl_height w) in
      subst (λ y. Proves Every y (meaning (lifted x b w) ∷ []) (rules_within s) d (width w) t) same
      (subst (λ y. Proves Every e (y ∷ []) (rules_within s) d (width w) t) hole
      (weaker Every e (h ∷ []) 1 (max (side_depth e) (side_depth h)) (k + 1) (rules_within s) d (width w) t (few s 1 (omega arith)) (omega (arith, left, whole, depth_all b, shift_deep st)) (omega arith) p))

pub other_row : (x : Named) (w : Work) → ((b : Formula) → w.goal.concl ≡ view.All b → ⊥) → table.intro_all x w ≡ refuse_plain NoVariableToIntroduce
unfolding acts_on
other_row x w n = by w.goal.concl n
  where
    by : (c : Formula) → ((b : Formula) → c ≡ view.All b → ⊥) → acts_on x w c ≡ refuse_plain NoVariableToIntroduce
    by (All b) n = absurd (n b (sym (view_all b)))
    by c n = refl

-- ---- the end

pub all_answer : (x : Named) (w : Work) (b body : Formula) (new : Work) (t : Tree) (r : Result (Parts Place) StepFault) → w.goal.concl ≡ view.All b → fits w.goal x ≡ true → w.held ≡ [] → body ≡ b → new ≡ lifted x body w
    → IsActed (all_nodes (work_formulas w)) w (current [] (lifted x b w) ∷ []) t → Ends (current [] new ∷ []) t r → Answers (all_nodes (work_formulas w)) w (limited (table.intro_all x w)) r
all_answer x w b body new t r concl free nothing body_is is acted ends =
    let s = all_nodes (work_formulas w) in
    let new_is : new ≡ lifted x b w = is ∙ ap (λ c. lifted x c w) body_is in
    answers_one s w new (table.intro_all x w) t r (row_free x w b concl free nothing ∙ ap one (sym new_is)) ends
    (subst (λ (y : Work). IsActed s w (current [] y ∷ []) t) (sym new_is) acted)

pub findable : (w : Work) → IsHanded w → IsFindable w.goal
findable w h = record {
  vars = omega (arith, h.few);
  pures = omega (arith, h.few);
  ints = omega (arith, h.few);
  spats = omega (arith, h.few);
}
