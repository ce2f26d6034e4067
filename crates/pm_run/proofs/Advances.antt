-- An open proof goes on by a step.
use Rattle.std.proofs.Common.{◌≡◌, ◌↔◌, ℕ, zero, suc, ◌+◌, ◌-◌, ◌<◌, ◌≤◌, List, [], ◌∷◌, ◌++◌, length, length-append, map, take, drop, reverse, refl, sym, ◌∙◌, ap, ap₂, subst, arith, Option, Some, None, Result, Err}
use Rattle.std.specs.Prelude.{IsSome, slice_get}
use Rattle.std.specs.Option.{option_to_list}
use Rattle.std.specs.List.{AllByRecursion}
use Rattle.std.proofs.Math.Seq.{drop-length}
use Rattle.std.proofs.lemmas.List.{append-nil, length-map, map-append, reverse-append, take_all}
use Rattle.pm_logic.specs.declared.limits.TheConstants.{MAX_LINE_LEVELS, MAX_LINE_VARIABLES}
use Rattle.pm_logic.specs.declared.formula.Preds.{Preds}
use Rattle.pm_rules.specs.declared.rules.Entail.{Entail}
use Rattle.pm_goal.specs.declared.goal.Goal.{Goal}
use Rattle.pm_goal.specs.declared.work.Lemmas.{Lemmas}
use Rattle.pm_goal.specs.declared.refusal.Row.TheVariants.{NoGoalInFocus}
use Rattle.pm_goal.specs.declared.refusal.StepFault.{StepFault}
use Rattle.pm_goal.specs.declared.refusal.StepFault.TheVariants as fault
use Rattle.pm_goal.specs.Refusals.{refusal}
use Rattle.pm_script.specs.declared.directive.Directive.{Directive}
use Rattle.pm_proof.specs.declared.joining.Step.{Step as ProofStep}
use Rattle.pm_proof.specs.declared.proof.Parts.{Parts}
use Rattle.pm_proof.specs.Trees.{Tree, Hole, Axiom, First, Second, Both, conclusion, holes_of, hole_count}
use Rattle.pm_proof.specs.Valid.{EntailScoped}
use Rattle.pm_proof.specs.Known.{Tables, IsAmong}
use Rattle.pm_proof.specs.Joins.{goals_of, Leads}
use Rattle.pm_proof.proofs.Joins.{leads_more}
use Rattle.pm_write.specs.Derived.{IsOneOf}
use Rattle.pm_directives.specs.Steps.{IsLedTo, Leaves, Steps}
use Rattle.pm_run.specs.declared.proof.Proof.{Proof}
use Rattle.pm_run.specs.Within.{meaning}
use Rattle.pm_run.specs.Runs.{OpenProof, opening}
use Rattle.pm_run.specs.Keeping.{IsLeft, IsSafe, KeepsProof, StepsFirst, IsStepped}
use Rattle.pm_run.proofs.SoundGoals.{meaning_scoped}

-- ---- lists

-- the goal that is kept last is the first one
pub last_first : (gs rest : List Goal) (g : Goal) → gs ≡ rest ++ g ∷ [] → reverse gs ≡ g ∷ reverse rest
last_first gs rest g e = ap reverse e ∙ reverse-append rest (g ∷ [])

no_items : {A : Type 0} (xs : List A) → ¬ (0 < length xs) → xs ≡ []
no_items [] none = refl
no_items (x ∷ xs) none = absurd (none (omega arith))

-- without the one that is kept last
pub others_first : (old new : List Goal) (o : Option Goal) → (IsSome o ↔ (0 < length old)) → old ≡ new ++ option_to_list o → reverse new ≡ drop 1 (reverse old)
others_first old new None some e =
    let none : old ≡ [] = no_items old (λ lt. absurd (cc (some.1 lt))) in
    let same : new ≡ old = sym (e ∙ append-nil new) in
    ap reverse (same ∙ none) ∙ sym (ap (λ (gs : List Goal). drop 1 (reverse gs)) none)
others_first old new (Some g) some e = sym (ap (λ (gs : List Goal). drop 1 gs) (last_first old new g e))

-- the one that is kept last, where it is looked up
at_end : (gs : List Goal) (n : ℕ) (g : Goal) → suc n ≡ length gs → Some g ≡ slice_get gs n → (rest : List Goal) × (gs ≡ rest ++ g ∷ [])
at_end [] n g len at = absurd (omega (arith, len))
at_end (x ∷ []) zero g len at = let same : g ≡ x = cc in ([], ap (λ (y : Goal). y ∷ []) (sym same))
at_end (x ∷ []) (suc n) g len at = absurd (omega (arith, len))
at_end (x ∷ (y ∷ gs)) zero g len at = absurd (omega (arith, len))
at_end (x ∷ (y ∷ gs)) (suc n) g len at = let more = at_end (y ∷ gs) n g (omega (arith, len)) at in (x ∷ more.0, ap (λ (ys : List Goal). x ∷ ys) more.1)

last_at : (gs : List Goal) (g : Goal) → Some g ≡ slice_get gs (length gs - 1) → (rest : List Goal) × (gs ≡ rest ++ g ∷ [])
last_at [] g at = absurd cc
last_at (x ∷ gs) g at = let n : length (x ∷ gs) - 1 ≡ length gs = omega arith in at_end (x ∷ gs) (length gs) g refl (subst (λ i. Some g ≡ slice_get (x ∷ gs) i) n at)

here_at : (gs : List Goal) (i : ℕ) → i < length gs → None ≡ slice_get gs i → ⊥
here_at [] i lt at = omega (arith, lt)
here_at (x ∷ gs) zero lt at = absurd cc
here_at (x ∷ gs) (suc i) lt at = here_at gs i (omega (arith, lt)) at

none_at : (gs : List Goal) → None ≡ slice_get gs (length gs - 1) → gs ≡ []
none_at [] at = refl
none_at (x ∷ gs) at = absurd (here_at (x ∷ gs) (length (x ∷ gs) - 1) (omega arith) at)

counted : (t : Tree) → length (holes_of t) ≡ hole_count t
counted (Hole e) = refl
counted (Axiom r e) = refl
counted (First r e a) = counted a
counted (Second r e b) = counted b
counted (Both r e a b) = length-append (holes_of a) (holes_of b) ∙ ap₂ (λ n m. n + m) (counted a) (counted b)

all_append : {A : Type 0} (P : A → Type 0) (xs ys : List A) → AllByRecursion P xs → AllByRecursion P ys → AllByRecursion P (xs ++ ys)
all_append P [] ys all behind = behind
all_append P (x ∷ xs) ys all behind = (all.0, all_append P xs ys all.1 behind)

-- ---- the first goal is stepped

pub first_stepped : (preds : Preds) (lemmas : Lemmas) (x : Directive) (gs : List Goal) (g : Goal) (result : Result (Parts Goal) StepFault) → Some g ≡ slice_get gs (length gs - 1) → Steps preds lemmas g x result → StepsFirst preds lemmas (reverse gs) x result
unfolding StepsFirst
first_stepped preds lemmas x gs g result at h = let last = last_at gs g at in subst (λ (hs : List Goal). StepsFirst preds lemmas hs x result) (sym (last_first gs last.0 g last.1)) h

pub none_stepped : (preds : Preds) (lemmas : Lemmas) (x : Directive) (gs : List Goal) → None ≡ slice_get gs (length gs - 1) → StepsFirst preds lemmas (reverse gs) x (Err (fault.Refused (refusal NoGoalInFocus [])))
unfolding StepsFirst
none_stepped preds lemmas x gs at = subst (λ (hs : List Goal). StepsFirst preds lemmas (reverse hs) x (Err (fault.Refused (refusal NoGoalInFocus [])))) (sym (none_at gs at)) refl

-- ---- a step more

-- the steps lead on
steps_lead : (start : Entail) (ss : List ProofStep) (step : ProofStep) (goal : Goal) (rest more : List Goal) → Leads (start ∷ []) ss (map meaning (goal ∷ rest)) → conclusion step.proof ≡ meaning goal → holes_of step.proof ≡ map meaning more → step.goals ≡ length more → Leads (start ∷ []) (ss ++ step ∷ []) (map meaning (more ++ rest))
steps_lead start ss step goal rest more leads concl holes count =
    let all : goals_of step ≡ map meaning more = ap₂ take (count ∙ sym (length-map more meaning)) holes ∙ take_all (length (map meaning more)) (map meaning more) (omega arith) in
    let enough : step.goals ≤ hole_count step.proof = omega (arith, count, counted step.proof, ap length holes, length-map more meaning) in
    subst (Leads (start ∷ []) (ss ++ step ∷ [])) (ap (λ (es : List Entail). es ++ map meaning rest) all ∙ sym (map-append meaning more rest)) (leads_more (start ∷ []) ss step (meaning goal) (map meaning rest) leads concl enough)

-- the new goals are left
more_left : (on : Tables) (goal : Goal) (more : List Goal) → IsLeft on goal → AllByRecursion (IsLedTo goal) more → AllByRecursion (IsLeft on) more
more_left on goal [] left led = tt
more_left on goal (g ∷ gs) left led = (record { fit = led.0.fit; scoped = λ preds among. led.0.scoped preds (left.scoped preds among) }, more_left on goal gs left led.1)

meanings_scoped : (on : Tables) (preds : Preds) → IsAmong on preds → (gs : List Goal) → AllByRecursion (IsLeft on) gs → AllByRecursion (EntailScoped preds) (map meaning gs)
meanings_scoped on preds among [] all = tt
meanings_scoped on preds among (g ∷ gs) all = (meaning_scoped preds g (all.0.scoped preds among), meanings_scoped on preds among gs all.1)

-- the step's proof is safe
step_safe : (on : Tables) (known : List Entail) (goal : Goal) (n : ℕ) (more : List Goal) (parts : Parts Goal) → IsLeft on goal → AllByRecursion (IsLeft on) more → Leaves goal n more parts → IsSafe on known (record { proof = parts.proof; goals = length parts.goals })
step_safe on known goal n more parts left lefts leaves =
    let hs : List Entail = map meaning more in
    let proves = leaves.1 in
    let count : length parts.goals ≡ length hs = ap length leaves.0 ∙ sym (length-map more meaning) in
    record {
      valid = λ preds among. proves.valid preds tt;
      scoped = λ preds among. proves.scoped preds (meaning_scoped preds goal (left.scoped preds among)) (meanings_scoped on preds among more lefts);
      shallow = omega (arith, proves.shallow);
      narrow = omega (arith, proves.narrow);
      lemmas = subst (AllByRecursion (IsOneOf known)) (sym (ap₂ drop count proves.holes ∙ drop-length hs)) tt;
    }

-- what is kept of the proof is kept of the one that is a step further
pub kept_step : (on : Tables) (known : List Entail) (p q : Proof) (o : OpenProof) (goal : Goal) (rest more : List Goal) (n : ℕ) (parts : Parts Goal) → KeepsProof on known p o → o.goals ≡ goal ∷ rest → Leaves goal n more parts → IsStepped p parts q → KeepsProof on known q (record o { goals = more ++ rest })
kept_step on known p q o goal rest more n parts keeps goals leaves stepped =
    let start : Entail = meaning (opening o.statement) in
    let step : ProofStep = record { proof = parts.proof; goals = length parts.goals } in
    let left : AllByRecursion (IsLeft on) (goal ∷ rest) = subst (AllByRecursion (IsLeft on)) goals keeps.left in
    let lefts : AllByRecursion (IsLeft on) more = more_left on goal more left.0 leaves.2 in
    let leads : Leads (start ∷ []) p.steps.items (map meaning (goal ∷ rest)) = subst (λ (gs : List Goal). Leads (start ∷ []) p.steps.items (map meaning gs)) goals keeps.leads in
    record {
      name_is = stepped.name_is ∙ keeps.name_is;
      statement_is = stepped.statement_is ∙ keeps.statement_is;
      goals_are = stepped.goals_are ∙ ap₂ (λ (gs hs : List Goal). gs ++ drop 1 hs) leaves.0 (keeps.goals_are ∙ goals);
      leads = subst (λ (ss : List ProofStep). Leads (start ∷ []) ss (map meaning (more ++ rest))) (sym stepped.steps_are) (steps_lead start p.steps.items step goal rest more leads leaves.1.concludes leaves.1.holes (ap length leaves.0));
      safe = subst (AllByRecursion (IsSafe on known)) (sym stepped.steps_are) (all_append (IsSafe on known) p.steps.items (step ∷ []) keeps.safe (step_safe on known goal n more parts left.0 lefts leaves, tt));
      left = all_append (IsLeft on) more rest lefts left.1;
    }
