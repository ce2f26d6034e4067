-- A script comes to one thing.
use Rattle.std.proofs.Common.{◌≡◌, ◌⊎◌, inl, inr, ℕ, ◌+◌, Bool, true, false, List, [], ◌∷◌, length, refl, sym, ◌∙◌, ap, subst, Option, Some, None, Result, Ok, Err}
use Rattle.pm_logic.specs.declared.formula.Formula.{Formula}
use Rattle.pm_terms.specs.declared.fault.TextFault.{TextFault}
use Rattle.pm_terms.specs.declared.fault.TextFault.TheVariants.{Unexpected}
use Rattle.pm_cutter.specs.Cutting.{Part, cut, rest_of}
use Rattle.pm_script.specs.declared.sentence.Sentence.{Sentence}
use Rattle.pm_script.specs.declared.sentence.Sentence.TheVariants as sentence
use Rattle.pm_goal.specs.declared.refusal.Row.{Row}
use Rattle.pm_goal.specs.declared.refusal.Refusal.{Refusal}
use Rattle.pm_run.specs.Rows.{Table}
use Rattle.pm_run.specs.Runs.{OpenProof, State, start, Answer, moves, refuses, unbuilt, answer_of, Answers, predicate_rows, with_predicate, lemma_rows, opened, proof_rows, qed_rows, qed_state, Does, Outcome, refused, unreadable, RunsFrom, does_not_read, is_unbuilt, is_refused, goes_on, is_cut_off, ends_inside, ends}
use Rattle.pm_run.specs.Coming.{RunsAreOne}

-- ---- a table answers one row

-- two answers are one, if those of the others are
one_when : {P A B : Type 0} {a b : Option Row} {row : Row} → P × (a ≡ Some row) ⊎ (¬ P) × A → P × (b ≡ Some row) ⊎ (¬ P) × B → (A → B → a ≡ b) → a ≡ b
one_when (inl x) (inl y) rest = x.1 ∙ sym y.1
one_when (inl x) (inr y) rest = absurd (y.0 x.0)
one_when (inr x) (inl y) rest = absurd (x.0 y.0)
one_when (inr x) (inr y) rest = rest x.1 y.1

-- both are the same
both_are : {A : Type 0} {a b c : A} → a ≡ c → b ≡ c → a ≡ b
both_are e f = e ∙ sym f

abbrev IsOne : Table → Type 0
IsOne table = (a b : Option Row) → table a → table b → a ≡ b

one_predicate : (s : State) (name : List ℕ) (params : List (List ℕ)) (body : Formula) → IsOne (predicate_rows s name params body)
one_predicate s name params body a b x y =
    one_when x y (λ x1 y1. one_when x1 y1 (λ x2 y2. one_when x2 y2 (λ x3 y3. one_when x3 y3 (λ x4 y4. one_when x4 y4 (λ x5 y5. one_when x5 y5 (λ x6 y6. one_when x6 y6 (λ e f. both_are e f)))))))

one_lemma : (s : State) (name : List ℕ) (statement : Formula) → IsOne (lemma_rows s name statement)
one_lemma s name statement a b x y =
    one_when x y (λ x1 y1. one_when x1 y1 (λ x2 y2. one_when x2 y2 (λ x3 y3. one_when x3 y3 (λ x4 y4. one_when x4 y4 (λ x5 y5. one_when x5 y5 (λ x6 y6. one_when x6 y6 (λ e f. both_are e f)))))))

one_proof : (s : State) → IsOne (proof_rows s)
one_proof s a b x y = one_when x y (λ e f. both_are e f)

one_qed : (o : Option OpenProof) → IsOne (qed_rows o)
one_qed None a b x y = both_are x y
one_qed (Some p) a b x y = one_when x y (λ e f. both_are e f)

-- ---- a sentence does one thing

one_answer : (name : List ℕ) (table : Table) (new : State) (a b : Answer) → IsOne table → Answers name table new a → Answers name table new b → a ≡ b
one_answer name table new a b one x y = x.2 ∙ ap (answer_of name new) (one x.0 y.0 x.1 y.1) ∙ sym y.2

one_does : (s : State) (x : Sentence) (a b : Answer) → Does s x a → Does s x b → a ≡ b
unfolding Does
one_does s (sentence.Predicate name params body) a b u v = one_answer name (predicate_rows s name params body) (with_predicate s name params body) a b (one_predicate s name params body) u v
one_does s (sentence.Lemma name statement) a b u v = one_answer name (lemma_rows s name statement) (opened s name statement) a b (one_lemma s name statement) u v
one_does s sentence.Proof a b u v = one_answer [] (proof_rows s) s a b (one_proof s) u v
one_does s sentence.Qed a b u v = one_answer [] (qed_rows s.proof) (qed_state s s.proof) a b (one_qed s.proof) u v
one_does s (sentence.Directive d) a b u v = both_are u v
one_does s x a b u v = both_are u v

-- ---- a run comes to one thing

abbrev pub Read : Type 0
Read = Result Sentence TextFault

same_sentence : (r : Read) (x y : Sentence) → r ≡ Ok x → r ≡ Ok y → x ≡ y
same_sentence r x y e f = cc

pub same_fault : (r : Read) (f g : TextFault) → r ≡ Err f → r ≡ Err g → f ≡ g
same_fault r f g e h = cc

pub read_or_not : (r : Read) (x : Sentence) (f : TextFault) → r ≡ Ok x → r ≡ Err f → ⊥
read_or_not r x f e h = cc

-- what a sentence that was read does
pub one_done : (s : State) (r : Read) (x y : Sentence) (a b : Answer) → r ≡ Ok x → r ≡ Ok y → Does s x a → Does s y b → a ≡ b
one_done s r x y a b e f u v = one_does s x a b u (subst (λ (z : Sentence). Does s z b) (same_sentence r y x f e) v)

pub same_place : (o : Option ℕ) (i j : ℕ) → o ≡ Some i → o ≡ Some j → i ≡ j
same_place o i j e f = cc

pub some_or_none : (o : Option ℕ) (i : ℕ) → o ≡ Some i → o ≡ None → ⊥
some_or_none o i e f = cc

pub open_or_not : (b : Bool) → b ≡ true → b ≡ false → ⊥
open_or_not b e f = cc

pub same_refusal : (q r : Refusal) → refuses q ≡ refuses r → q ≡ r
same_refusal q r e = cc

pub same_state : (s t : State) → moves s ≡ moves t → s ≡ t
same_state s t e = cc

pub unbuilt_refuses : (r : Refusal) → unbuilt ≡ refuses r → ⊥
unbuilt_refuses r e = cc

pub unbuilt_moves : (s : State) → unbuilt ≡ moves s → ⊥
unbuilt_moves s e = cc

pub refuses_moves : (r : Refusal) (s : State) → refuses r ≡ moves s → ⊥
refuses_moves r s e = cc

behind : (size : ℕ) (rest : Option ℕ) (n : ℕ) (ps : List Part) (o : Outcome) (s t : State) → s ≡ t → RunsFrom size rest n t ps o → RunsFrom size rest n s ps o
behind size rest n ps o s t e run = subst (λ (z : State). RunsFrom size rest n z ps o) (sym e) run

one_from : (size : ℕ) (rest : Option ℕ) (n : ℕ) (s : State) (ps : List Part) (a b : Outcome) → RunsFrom size rest n s ps a → RunsFrom size rest n s ps b → a ≡ b
one_from size rest n s _ _ _ (does_not_read p e) (does_not_read q f) = ap unreadable (same_fault _ _ _ e f)
one_from size rest n s _ _ _ (does_not_read p e) (is_unbuilt q y f v) = absurd (read_or_not _ _ _ f e)
one_from size rest n s _ _ _ (does_not_read p e) (is_refused q y f v) = absurd (read_or_not _ _ _ f e)
one_from size rest n s _ _ _ (does_not_read p e) (goes_on q y t f v run) = absurd (read_or_not _ _ _ f e)
one_from size rest n s _ _ _ (is_unbuilt p x e u) (does_not_read q f) = absurd (read_or_not _ _ _ e f)
one_from size rest n s _ _ _ (is_unbuilt p x e u) (is_unbuilt q y f v) = refl
one_from size rest n s _ _ _ (is_unbuilt p x e u) (is_refused q y f v) = absurd (unbuilt_refuses _ (one_done s _ x y _ _ e f u v))
one_from size rest n s _ _ _ (is_unbuilt p x e u) (goes_on q y t f v run) = absurd (unbuilt_moves _ (one_done s _ x y _ _ e f u v))
one_from size rest n s _ _ _ (is_refused p x e u) (does_not_read q f) = absurd (read_or_not _ _ _ e f)
one_from size rest n s _ _ _ (is_refused p x e u) (is_unbuilt q y f v) = absurd (unbuilt_refuses _ (one_done s _ y x _ _ f e v u))
one_from size rest n s _ _ _ (is_refused p x e u) (is_refused q y f v) = ap (refused n q.offset) (same_refusal _ _ (one_done s _ x y _ _ e f u v))
one_from size rest n s _ _ _ (is_refused p x e u) (goes_on q y t f v run) = absurd (refuses_moves _ _ (one_done s _ x y _ _ e f u v))
one_from size rest n s _ _ _ (goes_on p x new e u run) (does_not_read q f) = absurd (read_or_not _ _ _ e f)
one_from size rest n s _ _ _ (goes_on p x new e u run) (is_unbuilt q y f v) = absurd (unbuilt_moves _ (one_done s _ y x _ _ f e v u))
one_from size rest n s _ _ _ (goes_on p x new e u run) (is_refused q y f v) = absurd (refuses_moves _ _ (one_done s _ y x _ _ f e v u))
one_from size rest n s _ _ _ (goes_on p x new e u run) (goes_on q y t f v run') = one_from size rest (n + 1) new _ _ _ run (behind size rest (n + 1) _ _ new t (same_state new t (one_done s _ x y _ _ e f u v)) run')
one_from size rest n s _ _ _ (is_cut_off i e) (is_cut_off j f) = ap (λ (k : ℕ). unreadable (Unexpected k)) (same_place rest i j e f)
one_from size rest n s _ _ _ (is_cut_off i e) (ends_inside f h) = absurd (some_or_none rest i e f)
one_from size rest n s _ _ _ (is_cut_off i e) (ends f h) = absurd (some_or_none rest i e f)
one_from size rest n s _ _ _ (ends_inside e g) (is_cut_off i f) = absurd (some_or_none rest i f e)
one_from size rest n s _ _ _ (ends_inside e g) (ends_inside f h) = refl
one_from size rest n s _ _ _ (ends_inside e g) (ends f h) = absurd (open_or_not _ g h)
one_from size rest n s _ _ _ (ends e g) (is_cut_off i f) = absurd (some_or_none rest i f e)
one_from size rest n s _ _ _ (ends e g) (ends_inside f h) = absurd (open_or_not _ h g)
one_from size rest n s _ _ _ (ends e g) (ends f h) = refl

pub runs_are_one : RunsAreOne
runs_are_one bytes a b x y = one_from (length bytes) (rest_of bytes) 1 start (cut bytes) a b x y
