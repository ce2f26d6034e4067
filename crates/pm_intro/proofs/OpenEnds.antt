-- Ends where what is last in hand gives way to others, on which patterns are to come.
use Rattle.std.proofs.Common.{◌≡◌, suc, ◌+◌, ◌*◌, max, Bool, List, [], ◌∷◌, length, sym, ◌∙◌, ap, subst, arith}
use Rattle.std.specs.Prelude.{Result}
use Rattle.pm_goal.specs.declared.work.Work.{Work}
use Rattle.pm_goal.specs.declared.refusal.StepFault.{StepFault}
use Rattle.pm_goal.specs.Left.{left_of_work}
use Rattle.pm_proof.specs.Trees.{Tree, entail, conclusion}
use Rattle.pm_proof.specs.Known.{Proves, Every}
use Rattle.pm_proof.specs.declared.proof.Parts.{Parts}
use Rattle.pm_proof.proofs.Fills.{weaker}
use Rattle.pm_table.specs.declared.place.Place.{Place}
use Rattle.pm_table.specs.declared.place.Place.TheVariants.{Current as current}
use Rattle.pm_table.specs.Outcomes.{Outcome, gives}
use Rattle.pm_table.specs.Limits.{all_nodes, work_formulas, limited}
use Rattle.pm_action.specs.Meanings.{height, room, width}
use Rattle.pm_action.specs.Acting.{Answers}
use Rattle.pm_action.proofs.Moves.{few}
use Rattle.pm_intro.specs.Ending.{OpensTo}
use Rattle.pm_intro.specs.Pairs.{Becomes}
use Rattle.pm_intro.proofs.Answered.{follows}

pub becomes_says : (w new new1 : Work) (t : Tree) → new ≡ new1 → Becomes w new1 t → conclusion t ≡ entail (length w.goal.vars) (left_of_work w) (left_of_work new)
becomes_says w new new1 t is p = p.concludes ∙ ap (λ (x : Work). entail (length w.goal.vars) (left_of_work w) (left_of_work x)) (sym is)

pub opens_answer : (turns : List Bool) (w new new1 : Work) (t : Tree) (o : Outcome) (r : Result (Parts Place) StepFault) → new ≡ new1 → o ≡ gives (current turns new1 ∷ []) → Becomes w new1 t → OpensTo turns w new t r → Answers (all_nodes (work_formulas w)) w (limited o) r
opens_answer turns w new new1 t o r is o_is p opens =
    let s = all_nodes (work_formulas w) in
    let k = length w.goal.vars in
    let n = 300 * s + 202 in
    let d = room w (current turns new ∷ []) in
    let e = entail k (left_of_work w) (left_of_work new) in
    let p0 : Becomes w new t = subst (λ (x : Work). Becomes w x t) (sym is) p in
    let p1 : Proves Every e [] n d (width w) t = weaker Every e [] n (max (height w) (height new) + 16) (width w) n d (width w) t (omega arith) (omega arith) (omega arith) p0 in
    let p2 : Proves Every (conclusion t) [] n d (width w) t = subst (λ x. Proves Every x [] n d (width w) t) (sym p1.concludes) p1 in
    follows s w (gives (current turns new ∷ [])) o r (o_is ∙ ap (λ (x : Work). gives (current turns x ∷ [])) (sym is)) (opens s n (few s (suc n) (omega arith)) p2)
