-- Runs of scripts: what each sentence does, and what a run comes to.
use Rattle.std.specs.Prelude.{◌≡◌, ℕ, ◌+◌, ◌<◌, ◌≤◌, Bool, true, false, ◌||◌, if◌then◌else◌, is_some, IsTrue, List, [], ◌∷◌, ◌++◌, length, map, reverse, Option, Some, None, Ok, Err}
use Rattle.std.specs.List.{list_any}
use Rattle.std.specs.Str.{bytes_eq}
use Rattle.pm_logic.specs.declared.limits.TheConstants.{MAX_LEMMAS, MAX_LEVELS, MAX_NODES, MAX_PREDICATES, MAX_VARIABLES}
use Rattle.pm_logic.specs.declared.formula.Formula.{Formula}
use Rattle.pm_logic.specs.declared.formula.Pred.{Pred}
use Rattle.pm_logic.specs.declared.formula.Preds.{Preds}
use Rattle.pm_logic.specs.Guard.{CallsBelow}
use Rattle.pm_logic.specs.Size.{nodes_of, depth_of}
use Rattle.pm_check.specs.declared.checked.Statement.{Statement}
use Rattle.pm_goal.specs.declared.goal.Goal.{Goal}
use Rattle.pm_goal.specs.declared.work.Lemma.{Lemma}
use Rattle.pm_goal.specs.declared.work.Lemmas.{Lemmas}
use Rattle.pm_terms.specs.declared.fault.TextFault.{TextFault}
use Rattle.pm_terms.specs.declared.fault.TextFault.TheVariants.{Unexpected}
use Rattle.pm_terms.specs.Scope.{Names}
use Rattle.pm_cutter.specs.Cutting.{Part, cut, rest_of}
use Rattle.pm_script.specs.declared.directive.Directive.{Directive}
use Rattle.pm_script.specs.declared.sentence.Sentence.{Sentence}
use Rattle.pm_script.specs.declared.sentence.Sentence.TheVariants as sentence
use Rattle.pm_script.specs.SentenceReading.{read_sentence}
use Rattle.pm_goal.specs.declared.refusal.Row.{Row}
use Rattle.pm_goal.specs.declared.refusal.Row.TheVariants.{NoOpenProof, ProofIsOpen, GoalsRemain, NameIsDefined, NotGuarded, NoGoalInFocus, TooManyVariables, TooManyNodes, TooDeep, TooManyPredicates, TooManyLemmas}
use Rattle.pm_goal.specs.declared.refusal.Refusal.{Refusal}
use Rattle.pm_goal.specs.Refusals.{refusal}
use Rattle.pm_table.specs.Directives.{Stepped, step}
use Rattle.pm_table.specs.Directives as steps
use Rattle.pm_directives.specs.Built.{is_built}
use Rattle.pm_run.specs.Rows.{Table, when, no_row, always, when_large}

-- ---- states

-- the lemma whose proof is open, and the goals that are left
pub record OpenProof : Type 0 where
  pub name : List ℕ
  pub statement : Formula
  pub goals : List Goal

-- the predicates and the proved lemmas, in order
pub record State : Type 0 where
  pub preds : List Pred
  pub lemmas : List Statement
  pub proof : Option OpenProof

abbrev pub start : State
start = record { preds = []; lemmas = []; proof = None }

abbrev pub is_open : State → Bool
is_open s = is_some s.proof

-- a predicate or a proved lemma has the name
abbrev pub is_used : State → List ℕ → Bool
is_used s name = list_any (λ q. bytes_eq q.name name) s.preds || list_any (λ l. bytes_eq l.name name) s.lemmas

-- the variables of the first goal, the newest first
abbrev pub scope_by : Option OpenProof → Names
scope_by None = []
scope_by (Some p) = first p.goals
  where
    first : List Goal → Names
    first [] = []
    first (g ∷ gs) = reverse g.vars

abbrev pub scope : State → Names
scope s = scope_by s.proof

-- the goal that a lemma opens with
abbrev pub opening : Formula → Goal
opening f = record { vars = []; pures = []; ints = []; spats = []; concl = f }

-- ---- what a sentence does: a new state, a refusal, or nothing where it isn't built yet

pub data Answer : Type 0 where
  moves : State → Answer
  refuses : Refusal → Answer
  unbuilt : Answer

abbrev pub answer_of : List ℕ → State → Option Row → Answer
answer_of name s None = moves s
answer_of name s (Some row) = refuses (refusal row name)

-- the new state, where no row of the table holds; the sentence is about this name
abbrev pub Answers : List ℕ → Table → State → Answer → Type 0
Answers name table new answer = (row : Option Row) × table row × (answer ≡ answer_of name new row)

abbrev pub predicate_rows : State → List ℕ → List (List ℕ) → Formula → Table
predicate_rows s name params body =
    when (IsTrue (is_open s)) ProofIsOpen
    (when (IsTrue (is_used s name)) NameIsDefined
    (when (¬ CallsBelow (length s.preds) body) NotGuarded
    (when (MAX_PREDICATES ≤ length s.preds) TooManyPredicates
    (when (MAX_VARIABLES < length params) TooManyVariables
    (when (MAX_NODES < nodes_of body) TooManyNodes
    (when (MAX_LEVELS < depth_of body) TooDeep
    no_row))))))

abbrev pub with_predicate : State → List ℕ → List (List ℕ) → Formula → State
with_predicate s name params body = record s { preds = s.preds ++ (record { name = name; arity = length params; body = body } ∷ []) }

abbrev pub lemma_rows : State → List ℕ → Formula → Table
lemma_rows s name statement =
    when (IsTrue (is_open s)) ProofIsOpen
    (when (IsTrue (is_used s name)) NameIsDefined
    (when (MAX_LEMMAS ≤ length s.lemmas) TooManyLemmas
    (when_large (opening statement)
    no_row)))

abbrev pub with_proof : State → Option OpenProof → State
with_proof s proof = record s { proof = proof }

abbrev pub opened : State → List ℕ → Formula → State
opened s name statement = with_proof s (Some (record { name = name; statement = statement; goals = opening statement ∷ [] }))

-- the lemma of the open proof is proved
abbrev pub proved : State → OpenProof → State
proved s p = record { preds = s.preds; lemmas = s.lemmas ++ (record { name = p.name; formula = p.statement } ∷ []); proof = None }

abbrev pub proof_rows : State → Table
proof_rows s = when (¬ IsTrue (is_open s)) NoOpenProof no_row

abbrev pub qed_rows : Option OpenProof → Table
qed_rows None = always NoOpenProof
qed_rows (Some p) = when (¬ (p.goals ≡ [])) GoalsRemain no_row

abbrev pub qed_state : State → Option OpenProof → State
qed_state s None = s
qed_state s (Some p) = proved s p

-- ---- directives

-- the table of the state
abbrev pub table : State → Preds
table s = record { list = s.preds }

abbrev pub stated : Statement → Lemma
stated l = record { name = l.name; formula = l.formula }

-- the proved lemmas, in order
abbrev pub proved_lemmas : State → Lemmas
proved_lemmas s = record { list = map stated s.lemmas }

-- the goals that come in the first one's place stand before the others
abbrev pub beside : Stepped → List Goal → Stepped
beside (steps.goals new) others = steps.goals (new ++ others)
beside (steps.refused r) others = steps.refused r

-- a step of the first goal
unfoldable pub step_first : Preds → Lemmas → List Goal → Directive → Stepped
step_first preds lemmas [] d = steps.refused (refusal NoGoalInFocus [])
step_first preds lemmas (g ∷ gs) d = beside (step preds lemmas g d) gs

abbrev pub answer_to : State → OpenProof → Stepped → Answer
answer_to s p (steps.goals gs) = moves (with_proof s (Some (record p { goals = gs })))
answer_to s p (steps.refused r) = refuses r

abbrev pub step_open : State → Option OpenProof → Directive → Answer
step_open s None d = refuses (refusal NoOpenProof [])
step_open s (Some p) d = answer_to s p (step_first (table s) (proved_lemmas s) p.goals d)

abbrev pub directed : State → Directive → Answer
directed s d = if is_built d then step_open s s.proof d else unbuilt

-- ---- sentences

unfoldable pub Does : State → Sentence → Answer → Type 0
Does s (sentence.Predicate name params body) answer = Answers name (predicate_rows s name params body) (with_predicate s name params body) answer
Does s (sentence.Lemma name statement) answer = Answers name (lemma_rows s name statement) (opened s name statement) answer
Does s sentence.Proof answer = Answers [] (proof_rows s) s answer
Does s sentence.Qed answer = Answers [] (qed_rows s.proof) (qed_state s s.proof) answer
Does s (sentence.Directive d) answer = answer ≡ directed s d
Does s x answer = answer ≡ unbuilt

-- ---- runs

-- what a run comes to: predicates and proved lemmas; the first sentence that is refused, by its number and its offset; or the first fault of the text
pub data Outcome : Type 0 where
  accepted : (preds : List Pred) (lemmas : List Statement) → Outcome
  refused : (number offset : ℕ) → Refusal → Outcome
  unreadable : TextFault → Outcome

-- What comes of sentences in a text of so many bytes, whose rest has its fault there, if it has one. The number is that of the next sentence.
pub data RunsFrom (size : ℕ) (rest : Option ℕ) : ℕ → State → List Part → Outcome → Type 0 where
  does_not_read : {n : ℕ} {s : State} (p : Part) {ps : List Part} {f : TextFault} → read_sentence p.offset s.preds (scope s) p.text ≡ Err f → RunsFrom size rest n s (p ∷ ps) (unreadable f)
  is_unbuilt : {n : ℕ} {s : State} (p : Part) {ps : List Part} (x : Sentence) → read_sentence p.offset s.preds (scope s) p.text ≡ Ok x → Does s x unbuilt → RunsFrom size rest n s (p ∷ ps) (unreadable (Unexpected p.offset))
  is_refused : {n : ℕ} {s : State} (p : Part) {ps : List Part} (x : Sentence) {r : Refusal} → read_sentence p.offset s.preds (scope s) p.text ≡ Ok x → Does s x (refuses r) → RunsFrom size rest n s (p ∷ ps) (refused n p.offset r)
  goes_on : {n : ℕ} {s : State} (p : Part) {ps : List Part} (x : Sentence) (new : State) {o : Outcome} → read_sentence p.offset s.preds (scope s) p.text ≡ Ok x → Does s x (moves new) → RunsFrom size rest (n + 1) new ps o → RunsFrom size rest n s (p ∷ ps) o
  is_cut_off : {n : ℕ} {s : State} (at : ℕ) → rest ≡ Some at → RunsFrom size rest n s [] (unreadable (Unexpected at))
  ends_inside : {n : ℕ} {s : State} → rest ≡ None → is_open s ≡ true → RunsFrom size rest n s [] (refused n size (refusal GoalsRemain []))
  ends : {n : ℕ} {s : State} → rest ≡ None → is_open s ≡ false → RunsFrom size rest n s [] (accepted s.preds s.lemmas)

-- what comes of a script
abbrev pub RunsTo : List ℕ → Outcome → Type 0
RunsTo bytes o = RunsFrom (length bytes) (rest_of bytes) 1 start (cut bytes) o
