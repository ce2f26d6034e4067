-- What a running script keeps, against the state of its run.
use Rattle.std.specs.Prelude.{◌≡◌, ℕ, ◌+◌, ◌-◌, ◌^◌, min, ◌≤◌, Bool, false, IsTrue, is_some, List, [], ◌∷◌, ◌++◌, drop, length, map, reverse, Option, Some, None, Result, Ok, Err, option_map}
use Rattle.std.specs.List.{AllByRecursion}
use Rattle.pm_logic.specs.declared.limits.TheConstants.{MAX_LEVELS, MAX_LINE_LEVELS, MAX_LINE_VARIABLES}
use Rattle.pm_logic.specs.declared.formula.Formula.{Formula}
use Rattle.pm_logic.specs.declared.formula.Pred.{Pred}
use Rattle.pm_logic.specs.declared.formula.Preds.{Preds}
use Rattle.pm_rules.specs.declared.rules.Entail.{Entail}
use Rattle.pm_goal.specs.declared.goal.Goal.{Goal}
use Rattle.pm_goal.specs.declared.work.Lemmas.{Lemmas}
use Rattle.pm_logic.specs.Size.{nodes_of, depth_of}
use Rattle.pm_names.specs.Names.{is_name}
use Rattle.pm_terms.specs.Scope.{Names}
use Rattle.pm_dtext.specs.Ranges.{InRange}
use Rattle.pm_dtext.specs.Texts.{arities_of}
use Rattle.pm_name_sets.specs.Sets.{has, Adds}
use Rattle.pm_check.specs.Table.{BeginsTable}
use Rattle.pm_proof.specs.declared.joining.Step.{Step as ProofStep}
use Rattle.pm_proof.specs.Trees.{Tree, depth, variables}
use Rattle.pm_proof.specs.declared.proof.Parts.{Parts}
use Rattle.pm_proof.specs.Valid.{TermFits, Valid, IsScoped}
use Rattle.pm_proof.specs.Known.{Tables, From, IsAmong}
use Rattle.pm_proof.specs.Joins.{Leads, lemmas_of, Joins}
use Rattle.pm_write.specs.declared.writing.Named.{Named}
use Rattle.pm_write.specs.Derived.{statement_of, conclusions, IsOneOf, AreWritable}
use Rattle.pm_script.specs.declared.directive.Directive.{Directive}
use Rattle.pm_script.specs.declared.directive.Directive.TheVariants as directive
use Rattle.pm_script.specs.declared.sentence.Sentence.{Sentence}
use Rattle.pm_script.specs.declared.sentence.Sentence.TheVariants as sentence
use Rattle.pm_script.specs.Stating.{stated_of}
use Rattle.pm_goal.specs.declared.refusal.Row.{Row}
use Rattle.pm_goal.specs.declared.refusal.Row.TheVariants.{NoGoalInFocus}
use Rattle.pm_goal.specs.declared.refusal.StepFault.{StepFault}
use Rattle.pm_goal.specs.declared.refusal.StepFault.TheVariants as fault
use Rattle.pm_goal.specs.declared.refusal.Refusal.{Refusal}
use Rattle.pm_goal.specs.Refusals.{refusal}
use Rattle.pm_table.specs.Limits.{resting}
use Rattle.pm_table.specs.Scopes.{IsWorkScoped}
use Rattle.pm_sweep.specs.Standing.{IsFit, IsSoundWork}
use Rattle.pm_directives.specs.Steps.{terms_of, FitsGoal, Steps}
use Rattle.pm_run.specs.Rows.{Table}
use Rattle.pm_run.specs.declared.proof.Proof.{Proof}
use Rattle.pm_run.specs.declared.running.Running.{Running}
use Rattle.pm_run.specs.declared.running.Done.{Done}
use Rattle.pm_run.specs.declared.running.Done.TheVariants as done
use Rattle.pm_run.specs.Within.{meaning, IsWithin}
use Rattle.pm_run.specs.Runs.{OpenProof, State, Answer, moves, refuses, unbuilt, Does, is_open, is_used, scope_by, opening, table, proved_lemmas, predicate_rows, with_predicate, lemma_rows, opened, proof_rows, qed_rows, qed_state, step_open, directed}

-- ---- what is kept of an open proof, of which each table that comes has more predicates at its end, and these lemmas are proved

-- a goal that is left
pub record IsLeft (on : Tables) (goal : Goal) : Type 0 where
  pub fit : IsFit (resting goal)
  pub scoped : (preds : Preds) → IsAmong on preds → IsWorkScoped preds (resting goal)

-- a step that was done: it uses no lemma but proved ones
pub record IsSafe (on : Tables) (known : List Entail) (s : ProofStep) : Type 0 where
  pub valid : (preds : Preds) → IsAmong on preds → Valid preds s.proof
  pub scoped : (preds : Preds) → IsAmong on preds → IsScoped preds s.proof
  pub shallow : depth s.proof ≤ MAX_LINE_LEVELS
  pub narrow : variables s.proof ≤ MAX_LINE_VARIABLES
  pub lemmas : AllByRecursion (IsOneOf known) (lemmas_of s)

-- the steps lead from what the statement means to what the goals mean that are left
pub record KeepsProof (on : Tables) (known : List Entail) (p : Proof) (o : OpenProof) : Type 0 where
  pub name_is : p.name ≡ o.name
  pub statement_is : p.statement ≡ o.statement
  pub goals_are : reverse p.goals ≡ o.goals
  pub leads : Leads (meaning (opening o.statement) ∷ []) p.steps.items (map meaning o.goals)
  pub safe : AllByRecursion (IsSafe on known) p.steps.items
  pub left : AllByRecursion (IsLeft on) o.goals

abbrev pub KeepsProofs : Tables → List Entail → Option Proof → Option OpenProof → Type 0
KeepsProofs on known None None = Unit {0}
KeepsProofs on known (Some p) (Some o) = KeepsProof on known p o
KeepsProofs on known None (Some o) = ⊥
KeepsProofs on known (Some p) None = ⊥

-- ---- states that a script can lead to

-- that of the state, and each that has more predicates at its end
abbrev pub tables : State → Tables
tables s = From (table s)

-- a statement that may be proved over the table
pub record IsProvable (s : State) (name : List ℕ) (statement : Formula) : Type 0 where
  pub named : IsTrue (is_name name)
  pub new : is_used s name ≡ false

abbrev pub ProofIsSound : State → Option OpenProof → Type 0
ProofIsSound s None = Unit {0}
ProofIsSound s (Some p) = IsProvable s p.name p.statement

pub record IsSound (s : State) : Type 0 where
  pub table_begins : BeginsTable (arities_of s.preds) s.preds
  pub proof_sound : ProofIsSound s s.proof

-- The kept proofs are of the proved lemmas. They can be written down with the table and with each that has more predicates.
pub record Keeps (r : Running) (s : State) : Type 0 where
  pub preds_are : r.preds.list ≡ s.preds
  pub names_are : (name : List ℕ) → has r.names name ≡ is_used s name
  pub lemmas_are : r.lemmas ≡ proved_lemmas s
  pub states : map statement_of r.proofs ≡ s.lemmas
  pub writable : (preds : Preds) → IsAmong (tables s) preds → AreWritable preds r.proofs
  pub proof_is : KeepsProofs (tables s) (conclusions r.proofs) r.proof s.proof
  pub sound : IsSound s

-- ---- what a sentence does

-- what reading tells of a sentence
abbrev pub IsSayable : State → Sentence → Type 0
IsSayable s (sentence.Predicate name params body) = IsTrue (is_name name) × InRange (arities_of s.preds ++ (length params ∷ [])) (length params) body × (depth_of body ≤ MAX_LEVELS)
IsSayable s (sentence.Lemma name statement) = IsTrue (is_name name) × InRange (arities_of s.preds) 0 statement × (depth_of statement ≤ MAX_LEVELS)
IsSayable s x = Unit {0}

-- the terms of a directive fit k variables
abbrev pub TermsFit : ℕ → Directive → Type 0
TermsFit k x = AllByRecursion (TermFits k) (terms_of x)

-- those of a directive fit the goal that it is for
abbrev pub FitsFirst : Directive → List Goal → Type 0
FitsFirst x [] = Unit {0}
FitsFirst x (g ∷ gs) = FitsGoal x g

-- ---- what the code of a sentence answers, behind the table's rows

-- after a refusal everything is as before, and after a sentence that isn't built
abbrev pub IsAnswered : (name : List ℕ) → Table → State → (old new : Running) → Done → Type 0
IsAnswered name table state old new done.Moved = table None × Keeps new state
IsAnswered name table state old new (done.Refused r) = (row : Row) × table (Some row) × (r ≡ refusal row name) × (new ≡ old)
IsAnswered name table state old new done.Unbuilt = ⊥

abbrev pub IsDone : (old new : Running) → Answer → Done → Type 0
IsDone old new (moves s) d = (d ≡ done.Moved) × Keeps new s
IsDone old new (refuses r) d = (d ≡ done.Refused r) × (new ≡ old)
IsDone old new unbuilt d = (d ≡ done.Unbuilt) × (new ≡ old)

pub record IsDoing (s : State) (x : Sentence) (old new : Running) (d : Done) : Type 0 where
  pub answer : Answer
  pub does : Does s x answer
  pub is_done : IsDone old new answer d

-- a state is kept
pub record IsKept (r : Running) : Type 0 where
  pub state : State
  pub kept : Keeps r state

-- what the code keeps of an open proof, as the state has it
abbrev pub open_of : Proof → OpenProof
open_of p = record { name = p.name; statement = p.statement; goals = reverse p.goals }

-- the names that a sentence may speak of
abbrev pub scope_of : Running → Names
scope_of r = scope_by (option_map open_of r.proof)

-- the terms of a sentence fit the variables in scope
abbrev pub IsHanded : Running → Sentence → Type 0
IsHanded r (sentence.Directive x) = TermsFit (length (scope_of r)) x
IsHanded r x = Unit {0}

-- ---- an open proof

abbrev pub AreSound : List Goal → Type 0
AreSound goals = AllByRecursion (λ g. IsSoundWork (resting g)) goals

abbrev pub AreWithin : List Goal → Type 0
AreWithin goals = AllByRecursion IsWithin goals

-- nothing is done of a proof
pub record IsBegun (name : List ℕ) (statement : Formula) (p : Proof) : Type 0 where
  pub name_is : p.name ≡ name
  pub statement_is : p.statement ≡ statement
  pub steps_are : p.steps.items ≡ []
  pub goals_are : p.goals ≡ opening statement ∷ []

abbrev pub IsRefused : Refusal → Result (Parts Goal) StepFault → Type 0
IsRefused r (Ok parts) = ⊥
IsRefused r (Err (fault.Refused x)) = x ≡ r
IsRefused r (Err fault.Memory) = Unit {0}

-- what the code of a step of the first goal answers
unfoldable pub StepsFirst : Preds → Lemmas → List Goal → Directive → Result (Parts Goal) StepFault → Type 0
StepsFirst preds lemmas [] x result = IsRefused (refusal NoGoalInFocus []) result
StepsFirst preds lemmas (g ∷ gs) x result = Steps preds lemmas g x result

-- these goals in the first one's place, and one step more, which uses no lemma
pub record IsStepped (old : Proof) (parts : Parts Goal) (new : Proof) : Type 0 where
  pub name_is : new.name ≡ old.name
  pub statement_is : new.statement ≡ old.statement
  pub goals_are : reverse new.goals ≡ parts.goals ++ drop 1 (reverse old.goals)
  pub steps_are : new.steps.items ≡ old.steps.items ++ record { proof = parts.proof; goals = length parts.goals } ∷ []

-- the lemma of a proof whose steps lead to no goal is kept
pub record IsProved (old : Running) (p : Proof) (new : Running) : Type 0 where
  pub proof : Tree
  pub joins : Joins p.steps.items proof
  pub preds_are : new.preds ≡ old.preds
  pub names_are : Adds old.names new.names p.name
  pub lemmas_are : new.lemmas.list ≡ old.lemmas.list ++ record { name = p.name; formula = p.statement } ∷ []
  pub proofs_are : new.proofs ≡ old.proofs ++ record { name = p.name; proof = proof } ∷ []
  pub proof_is : new.proof ≡ old.proof

-- ---- rows as the code tests them

-- of a predicate that is the last of the table already, with so many parameters
abbrev pub PredicateRow : Running → Bool → (count all deepest : ℕ) → Option Row → Type 0
PredicateRow r used count all deepest row = (s : State) (q : Pred) (name : List ℕ) (params : List (List ℕ)) → r.preds.list ≡ s.preds ++ q ∷ [] → is_some r.proof ≡ is_open s → used ≡ is_used s name → count ≡ length params → all ≡ min (nodes_of q.body) (2 ^ 64 - 1) → deepest ≡ min (depth_of q.body) (2 ^ 32 - 1) → predicate_rows s name params q.body row

-- the last predicate is taken away again, and the refusal is about its name
abbrev pub TakesBack : Running → Row → Running → Done → Type 0
TakesBack old row new d = (before : List Pred) (last : Pred) → old.preds.list ≡ before ++ last ∷ [] → (d ≡ done.Refused (refusal row last.name)) × (new ≡ record old { preds = record { list = before } })

-- the name of the last predicate is used from now on
abbrev pub UsesLastName : Running → Running → Type 0
UsesLastName old new = (before : List Pred) (last : Pred) → old.preds.list ≡ before ++ last ∷ [] → Adds old.names new.names last.name × (new ≡ record old { names = new.names })

-- of a lemma
abbrev pub LemmaRow : Running → Bool → (all deepest : ℕ) → Option Row → Type 0
LemmaRow r used all deepest row = (s : State) (name : List ℕ) (statement : Formula) → all ≡ min (nodes_of statement) (2 ^ 64 - 1) → deepest ≡ min (depth_of statement) (2 ^ 32 - 1) → is_some r.proof ≡ is_open s → used ≡ is_used s name → r.lemmas ≡ proved_lemmas s → lemma_rows s name statement row

-- ---- what the code of each sentence answers, whatever state is kept

abbrev pub AddsPredicate : Running → List ℕ → ℕ → Formula → Running → Done → Type 0
AddsPredicate old name count body new d = (s : State) (params : List (List ℕ)) → count ≡ length params → Keeps old s → IsSayable s (sentence.Predicate name params body) → IsAnswered name (predicate_rows s name params body) (with_predicate s name params body) old new d

abbrev pub Opens : Running → List ℕ → Formula → Running → Done → Type 0
Opens old name statement new d = (s : State) → Keeps old s → IsSayable s (sentence.Lemma name statement) → IsAnswered name (lemma_rows s name statement) (opened s name statement) old new d

abbrev pub Begins : Running → Running → Done → Type 0
Begins old new d = (s : State) → Keeps old s → IsAnswered [] (proof_rows s) s old new d

abbrev pub Closes : Running → Running → Done → Type 0
Closes old new d = (s : State) → Keeps old s → IsAnswered [] (qed_rows s.proof) (qed_state s s.proof) old new d

-- of a directive that is built
abbrev pub Directs : Running → Directive → Running → Done → Type 0
Directs old x new d = (s : State) → Keeps old s → IsDone old new (step_open s s.proof x) d

abbrev pub DirectsIf : Running → Directive → Running → Done → Type 0
DirectsIf old x new d = (s : State) → Keeps old s → IsDone old new (directed s x) d

-- ---- whole sentences

-- it states neither a predicate nor a lemma
abbrev pub StatesNothing : Sentence → Type 0
StatesNothing x = stated_of x ≡ Err x

abbrev pub DoesSentence : Running → Sentence → Running → Done → Type 0
DoesSentence old x new d = (s : State) → Keeps old s → IsSayable s x → IsDoing s x old new d
