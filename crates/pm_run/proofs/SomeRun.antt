-- A script comes to something.
use Rattle.std.proofs.Common.{◌≡◌, inl, inr, ℕ, ◌+◌, ◌<◌, ◌≤◌, Bool, true, false, not, List, [], ◌∷◌, length, refl, Option, Some, None}
use Rattle.std.specs.Prelude.{IsTrue, Result, Ok, Err}
use Rattle.std.specs.Bool.{Decides}
use Rattle.std.proofs.Math.Dec.{ltb}
use Rattle.std.proofs.lemmas.Bool.Decides.{Decides-ltb, Decides-not}
use Rattle.pm_logic.specs.declared.limits.TheConstants.{MAX_HYPOTHESES, MAX_LEMMAS, MAX_LEVELS, MAX_NODES, MAX_PREDICATES, MAX_VARIABLES}
use Rattle.pm_logic.specs.declared.formula.Formula.{Formula}
use Rattle.pm_logic.specs.Guard.{CallsBelow}
use Rattle.pm_logic.specs.Size.{nodes_of, depth_of}
use Rattle.pm_goal.specs.declared.goal.Goal.{Goal}
use Rattle.pm_terms.specs.declared.fault.TextFault.{TextFault}
use Rattle.pm_terms.specs.declared.fault.TextFault.TheVariants.{Unexpected}
use Rattle.pm_cutter.specs.Cutting.{Part, cut, rest_of}
use Rattle.pm_script.specs.declared.sentence.Sentence.{Sentence}
use Rattle.pm_script.specs.declared.sentence.Sentence.TheVariants as sentence
use Rattle.pm_script.specs.SentenceReading.{read_sentence}
use Rattle.pm_goal.specs.declared.refusal.Row.{Row}
use Rattle.pm_goal.specs.declared.refusal.Row.TheVariants.{NoOpenProof, ProofIsOpen, GoalsRemain, NameIsDefined, NotGuarded, TooManyVariables, TooManyHypotheses, TooManyNodes, TooDeep, TooManyPredicates, TooManyLemmas}
use Rattle.pm_goal.specs.Refusals.{refusal}
use Rattle.pm_table.specs.Limits.{formulas, all_nodes, greatest_depth}
use Rattle.pm_run.specs.Rows.{Table, when, no_row, always, held, when_large}
use Rattle.pm_run.specs.Runs.{OpenProof, State, start, is_open, is_used, scope, opening, Answer, moves, refuses, unbuilt, answer_of, Answers, predicate_rows, with_predicate, lemma_rows, opened, proof_rows, qed_rows, qed_state, directed, Does, Outcome, accepted, refused, unreadable, RunsFrom, does_not_read, is_unbuilt, is_refused, goes_on, is_cut_off, ends_inside, ends}
use Rattle.pm_run.specs.Coming.{RunsAreTotal}
use Rattle.pm_run.proofs.Decisions.{decides_true, decides_le, decides_empty, decides_below}

-- ---- each table answers

abbrev HasAnswer : Table → Type 0
HasAnswer table = (row : Option Row) × table row

no_row_answers : HasAnswer no_row
no_row_answers = (None, refl)

always_answers : (row : Row) → HasAnswer (always row)
always_answers row = (Some row, refl)

when_answers : (condition : Type 0) (row : Row) (others : Table) (r : Bool) → Decides r condition → HasAnswer others → HasAnswer (when condition row others)
when_answers condition row others true d h = (Some row, inl (d.0 refl, refl))
when_answers condition row others false d h = (h.0, inr (λ c. cc (d.1 c), h.1))

when_true : (b : Bool) (row : Row) (others : Table) → HasAnswer others → HasAnswer (when (IsTrue b) row others)
when_true b row others h = when_answers (IsTrue b) row others b (decides_true b) h

when_below : (m n : ℕ) (row : Row) (others : Table) → HasAnswer others → HasAnswer (when (m < n) row others)
when_below m n row others h = when_answers (m < n) row others (ltb m n) (Decides-ltb m n) h

when_reached : (m n : ℕ) (row : Row) (others : Table) → HasAnswer others → HasAnswer (when (m ≤ n) row others)
when_reached m n row others h = when_answers (m ≤ n) row others (not (ltb n m)) (decides_le m n) h

when_not : (condition : Type 0) (row : Row) (others : Table) (r : Bool) → Decides r condition → HasAnswer others → HasAnswer (when (¬ condition) row others)
when_not condition row others r d h = when_answers (¬ condition) row others (not r) (Decides-not r d) h

large_answers : (g : Goal) (others : Table) → HasAnswer others → HasAnswer (when_large g others)
large_answers g others h =
    when_below MAX_VARIABLES (length g.vars) TooManyVariables _ (when_below MAX_HYPOTHESES (held g) TooManyHypotheses _ (when_below MAX_NODES (all_nodes (formulas g)) TooManyNodes _ (when_below MAX_LEVELS (greatest_depth (formulas g)) TooDeep others h)))

predicate_answers : (s : State) (name : List ℕ) (params : List (List ℕ)) (body : Formula) → HasAnswer (predicate_rows s name params body)
predicate_answers s name params body =
    when_true (is_open s) ProofIsOpen _ (when_true (is_used s name) NameIsDefined _ (when_not (CallsBelow (length s.preds) body) NotGuarded _ _ (decides_below (length s.preds) body)
    (when_reached MAX_PREDICATES (length s.preds) TooManyPredicates _ (when_below MAX_VARIABLES (length params) TooManyVariables _ (when_below MAX_NODES (nodes_of body) TooManyNodes _ (when_below MAX_LEVELS (depth_of body) TooDeep no_row no_row_answers))))))

lemma_answers : (s : State) (name : List ℕ) (f : Formula) → HasAnswer (lemma_rows s name f)
lemma_answers s name f = when_true (is_open s) ProofIsOpen _ (when_true (is_used s name) NameIsDefined _ (when_reached MAX_LEMMAS (length s.lemmas) TooManyLemmas _ (large_answers (opening f) no_row no_row_answers)))

qed_answers : (p : Option OpenProof) → HasAnswer (qed_rows p)
qed_answers None = always_answers NoOpenProof
qed_answers (Some p) = let empty = decides_empty p.goals in when_not (p.goals ≡ []) GoalsRemain no_row empty.0 empty.1 no_row_answers

-- ---- each sentence does something

abbrev DoesSome : State → Sentence → Type 0
DoesSome s x = (a : Answer) × Does s x a

answered : (name : List ℕ) (table : Table) (new : State) → HasAnswer table → (a : Answer) × Answers name table new a
answered name table new h = (answer_of name new h.0, (h.0, h.1, refl))

does_some : (s : State) (x : Sentence) → DoesSome s x
unfolding Does
does_some s (sentence.Predicate name params body) = answered name (predicate_rows s name params body) (with_predicate s name params body) (predicate_answers s name params body)
does_some s (sentence.Lemma name f) = answered name (lemma_rows s name f) (opened s name f) (lemma_answers s name f)
does_some s sentence.Proof = answered [] (proof_rows s) s (when_not (IsTrue (is_open s)) NoOpenProof no_row (is_open s) (decides_true (is_open s)) no_row_answers)
does_some s sentence.Qed = answered [] (qed_rows s.proof) (qed_state s s.proof) (qed_answers s.proof)
does_some s (sentence.Directive d) = (directed s d, refl)
does_some s x = (unbuilt, refl)

-- ---- a run comes to something

abbrev ComesToSome : ℕ → Option ℕ → ℕ → State → List Part → Type 0
ComesToSome size left n s ps = (o : Outcome) × RunsFrom size left n s ps o

at_answer : (size : ℕ) (left : Option ℕ) (n : ℕ) (s : State) (p : Part) (ps : List Part) (x : Sentence) → read_sentence p.offset s.preds (scope s) p.text ≡ Ok x → (a : Answer) → Does s x a → ((new : State) → ComesToSome size left (n + 1) new ps) → ComesToSome size left n s (p ∷ ps)
at_answer size left n s p ps x e (moves new) does on = let b = on new in (b.0, goes_on p x new e does b.1)
at_answer size left n s p ps x e (refuses r) does on = (refused n p.offset r, is_refused p x e does)
at_answer size left n s p ps x e unbuilt does on = (unreadable (Unexpected p.offset), is_unbuilt p x e does)

at_reading : (size : ℕ) (left : Option ℕ) (n : ℕ) (s : State) (p : Part) (ps : List Part) (r : Result Sentence TextFault) → read_sentence p.offset s.preds (scope s) p.text ≡ r → ((new : State) → ComesToSome size left (n + 1) new ps) → ComesToSome size left n s (p ∷ ps)
at_reading size left n s p ps (Ok x) e on = let a = does_some s x in at_answer size left n s p ps x e a.0 a.1 on
at_reading size left n s p ps (Err f) e on = (unreadable f, does_not_read p e)

at_end : (size : ℕ) (n : ℕ) (s : State) (b : Bool) → is_open s ≡ b → ComesToSome size None n s []
at_end size n s true e = (refused n size (refusal GoalsRemain []), ends_inside refl e)
at_end size n s false e = (accepted s.preds s.lemmas, ends refl e)

comes_to_some : (size : ℕ) (left : Option ℕ) (n : ℕ) (s : State) (ps : List Part) → ComesToSome size left n s ps
comes_to_some size left n s (p ∷ ps) = at_reading size left n s p ps (read_sentence p.offset s.preds (scope s) p.text) refl (λ new. comes_to_some size left (n + 1) new ps)
comes_to_some size (Some at) n s [] = (unreadable (Unexpected at), is_cut_off at refl)
comes_to_some size None n s [] = at_end size n s (is_open s) refl

pub runs_are_total : RunsAreTotal
runs_are_total bytes = comes_to_some (length bytes) (rest_of bytes) 1 start (cut bytes)
