-- What sentences do to what a running script keeps.
use Rattle.std.proofs.Common.{◌≡◌, ◌⊎◌, inl, inr, ℕ, ◌+◌, ◌≤◌, min, Bool, true, false, not, ◌||◌, List, [], ◌∷◌, ◌++◌, length, map, reverse, refl, sym, ◌∙◌, ap, ap₂, subst, arith, Option, Some, None, Result, Ok, Err}
use Rattle.std.proofs.lemmas.List.{length-reverse}
use Rattle.std.proofs.lemmas.Bool.Decides.{Decides-eqb}
use Rattle.std.specs.Prelude.{IsTrue, IfOk, is_some, ◌==◌, if◌then◌else◌, option_map}
use Rattle.std.specs.List.{AllByRecursion}
use Rattle.std.specs.Str.{bytes_eq}
use Rattle.pm_logic.specs.declared.limits.TheConstants.{MAX_LINE_LEVELS, MAX_LINE_VARIABLES, MAX_VARIABLES}
use Rattle.pm_logic.specs.declared.formula.Formula.{Formula}
use Rattle.pm_logic.specs.declared.formula.Pred.{Pred}
use Rattle.pm_logic.specs.declared.formula.Preds.{Preds}
use Rattle.pm_names.specs.Names.{is_name}
use Rattle.pm_rules.specs.declared.rules.Entail.{Entail}
use Rattle.pm_check.specs.declared.checked.Statement.{Statement}
use Rattle.pm_check.specs.Fronts.{EachBehind}
use Rattle.pm_check.specs.Lines.{is_used as is_stated}
use Rattle.pm_name_sets.specs.Sets.{has, Adds}
use Rattle.pm_goal.specs.declared.goal.Goal.{Goal}
use Rattle.pm_goal.specs.declared.work.Lemma.{Lemma}
use Rattle.pm_goal.specs.declared.work.Lemmas.{Lemmas}
use Rattle.pm_goal.specs.Left.{star_onto}
use Rattle.pm_proof.specs.declared.joining.Step.{Step as ProofStep}
use Rattle.pm_proof.specs.declared.proof.Parts.{Parts}
use Rattle.pm_proof.specs.Trees.{Tree, conclusion, holes_of, depth, variables}
use Rattle.pm_proof.specs.Valid.{Valid, IsScoped}
use Rattle.pm_proof.specs.Known.{Tables, IsAmong}
use Rattle.pm_proof.specs.Joins.{lemmas_of, Leads, IsComplete, used, Joins}
use Rattle.pm_proof.proofs.Scoping.{scoped_fits}
use Rattle.pm_proof.proofs.Joins.{all_used}
use Rattle.pm_write.specs.declared.writing.Named.{Named}
use Rattle.pm_write.specs.Derived.{statement_of, names_of as written_names, conclusions, IsOneOf, IsWritable, AreWritable}
use Rattle.pm_script.specs.declared.sentence.Sentence.{Sentence}
use Rattle.pm_script.specs.declared.sentence.Sentence.TheVariants as sentence
use Rattle.pm_script.specs.declared.sentence.Stated.TheVariants as stating
use Rattle.pm_script.specs.Stating.{stated_of}
use Rattle.pm_script.specs.declared.directive.Directive.{Directive}
use Rattle.pm_goal.specs.declared.refusal.Row.{Row}
use Rattle.pm_goal.specs.declared.refusal.Row.TheVariants.{GoalsRemain, NoOpenProof}
use Rattle.pm_goal.specs.declared.refusal.Refusal.{Refusal}
use Rattle.pm_goal.specs.declared.refusal.StepFault.{StepFault}
use Rattle.pm_goal.specs.declared.refusal.StepFault.TheVariants as fault
use Rattle.pm_table.specs.Directives.{Stepped, step, step_rules}
use Rattle.pm_table.specs.Directives as steps
use Rattle.pm_directives.specs.Built.{is_built}
use Rattle.pm_directives.specs.Steps.{StepAnswers}
use Rattle.pm_run.specs.declared.proof.Proof.{Proof}
use Rattle.pm_run.specs.declared.running.Running.{Running}
use Rattle.pm_run.specs.declared.running.Done.{Done}
use Rattle.pm_run.specs.declared.running.Done.TheVariants as done
use Rattle.pm_goal.specs.Refusals.{refusal}
use Rattle.pm_run.specs.Rows.{Table}
use Rattle.pm_run.specs.Within.{meaning}
use Rattle.pm_run.specs.Runs.{OpenProof, State, Answer, moves, refuses, unbuilt, Answers, is_used, scope_by, opening, table, stated, proved_lemmas, predicate_rows, with_predicate, lemma_rows, opened, with_proof, proved, proof_rows, qed_rows, qed_state, beside, step_first, answer_to, step_open, directed, Does}
use Rattle.pm_run.specs.Keeping.{IsSafe, KeepsProof, KeepsProofs, tables, Keeps, IsSayable, IsAnswered, IsDone, IsDoing, open_of, scope_of, TermsFit, FitsFirst, AreSound, IsBegun, StepsFirst, IsStepped, IsProved, UsesLastName, StatesNothing}
use Rattle.pm_run.proofs.SoundGoals.{all_sound, opening_left}
use Rattle.pm_run.proofs.Advances.{kept_step}
use Rattle.pm_run.proofs.Handed.{fits_first}
use Rattle.pm_run.proofs.Growing.{among_before}
use Rattle.pm_run.proofs.Sounds.{none_when, sound_predicate, sound_lemma, sound_qed, sound_step, new_qed, names_with_predicate, names_proved}

-- ---- numbers

pub is_none : (n : ℕ) → (n == 0) ≡ true → n ≡ 0
is_none n e = (Decides-eqb n 0).0 e

pub is_some_number : (n : ℕ) → (n == 0) ≡ false → ¬ (n ≡ 0)
is_some_number n e zero_is = absurd (let t : true ≡ false = sym ((Decides-eqb n 0).1 zero_is) ∙ e in cc t)

-- ---- lists

no_items : {A : Type 0} (xs : List A) → length xs ≡ 0 → xs ≡ []
no_items [] e = refl
no_items (x ∷ xs) e = absurd (omega (arith, e))

map_end : {A B : Type 0} (f : A → B) (xs : List A) (x : A) → map f (xs ++ x ∷ []) ≡ map f xs ++ f x ∷ []
map_end f [] x = refl
map_end f (y ∷ xs) x = ap (λ zs. f y ∷ zs) (map_end f xs x)

-- the names of proofs are those of what they say
names_stated : (xs : List Named) → written_names xs ≡ map (λ (l : Statement). l.name) (map statement_of xs)
names_stated [] = refl
names_stated (x ∷ xs) = ap (λ (ns : List (List ℕ)). x.name ∷ ns) (names_stated xs)

-- the last item, or one before it
last_or_before : {A : Type 0} (xs before behind : List A) (x y : A) → xs ++ x ∷ [] ≡ before ++ y ∷ behind → ((before ≡ xs) × (y ≡ x)) ⊎ ((more : List A) × (xs ≡ before ++ y ∷ more))
last_or_before [] [] behind x y e = inl (refl, cc)
last_or_before [] (b ∷ []) behind x y e = absurd cc
last_or_before [] (b ∷ (c ∷ before)) behind x y e = absurd cc
last_or_before (z ∷ xs) [] behind x y e = let same : z ≡ y = cc in inr (xs, ap (λ w. w ∷ xs) same)
last_or_before (z ∷ xs) (b ∷ before) behind x y e =
    let same : z ≡ b = cc in
    let rest : xs ++ x ∷ [] ≡ before ++ y ∷ behind = cc in
    elim (last_or_before xs before behind x y rest) [
      | inl s ↦ inl (ap₂ (λ w ws. w ∷ ws) (sym same) s.0, s.1)
      | inr s ↦ inr (s.0, ap₂ (λ w ws. w ∷ ws) same s.1)
    ]

each_more : {A : Type 0} (P : List A → A → Type 0) (xs : List A) (x : A) → EachBehind P xs → P xs x → EachBehind P (xs ++ x ∷ [])
each_more {A} P xs x all here = λ before y behind e. go before y (last_or_before xs before behind x y e)
  where
    go : (before : List A) (y : A) → ((before ≡ xs) × (y ≡ x)) ⊎ ((more : List A) × (xs ≡ before ++ y ∷ more)) → P before y
    go before y (inl s) = subst (λ ys. P ys y) (sym s.0) (subst (P xs) (sym s.1) here)
    go before y (inr s) = all before y s.0 s.1

-- ---- answers

pub refused_is : (name : List ℕ) (table : Table) (state : State) (old new : Running) (d : Done) (row : Row) → d ≡ done.Refused (refusal row name) → table (Some row) → new ≡ old → IsAnswered name table state old new d
refused_is name table state old new d row e t same = subst (IsAnswered name table state old new) (sym e) (row, t, refl, same)

pub on_ok : {A E : Type 0} (P Q : A → Type 0) (r : Result A E) → ((x : A) → P x → Q x) → IfOk r P → IfOk r Q
on_ok P Q (Ok x) f h = f x h
on_ok P Q (Err e) f h = tt

pub doing : (name : List ℕ) (table : Table) (state : State) (old new : Running) (d : Done) → IsAnswered name table state old new d → (a : Answer) × Answers name table state a × IsDone old new a d
doing name table state old new done.Moved h = (moves state, (None, h.0, refl), (refl, h.1))
doing name table state old new (done.Refused r) h = (refuses (refusal h.0 name), (Some h.0, h.1, refl), (ap done.Refused h.2, h.3))
doing name table state old new done.Unbuilt h = absurd h

-- ---- proofs that are open

pub open_same : (on : Tables) (known : List Entail) (p : Option Proof) (o : Option OpenProof) → KeepsProofs on known p o → is_some p ≡ is_some o
open_same on known None None k = refl
open_same on known (Some p) (Some o) k = refl
open_same on known None (Some o) k = absurd k
open_same on known (Some p) None k = absurd k

-- whether the code's and the state's are open is the same
pub kept_open : (r : Running) (s : State) → Keeps r s → is_some r.proof ≡ is_some s.proof
kept_open r s k = open_same (tables s) (conclusions r.proofs) r.proof s.proof k.proof_is

-- what is known of an open proof
pub record IsOpen (r : Running) (s : State) (p : Proof) : Type 0 where
  pub o : OpenProof
  pub is : s.proof ≡ Some o
  pub keeps : KeepsProof (tables s) (conclusions r.proofs) p o

pub is_opened : (r : Running) (s : State) (p : Proof) → r.proof ≡ Some p → Keeps r s → IsOpen r s p
is_opened r s p e k = go s.proof refl (subst (λ (q : Option Proof). KeepsProofs (tables s) (conclusions r.proofs) q s.proof) e k.proof_is)
  where
    go : (o : Option OpenProof) → s.proof ≡ o → KeepsProofs (tables s) (conclusions r.proofs) (Some p) o → IsOpen r s p
    go None e k = absurd k
    go (Some o) e k = record { o = o; is = e; keeps = k }

-- where none is open, nothing of one is kept
pub none_kept : (on : Tables) (known : List Entail) (p : Option Proof) (o : Option OpenProof) → ¬ IsTrue (is_some o) → is_some p ≡ is_some o → KeepsProofs on known p o
none_kept on known None None closed same = tt
none_kept on known p (Some o) closed same = absurd (closed refl)
none_kept on known (Some p) None closed same = absurd cc

-- ---- predicates

-- no row: not too many parameters
few_params : (s : State) (name : List ℕ) (params : List (List ℕ)) (body : Formula) → predicate_rows s name params body None → length params ≤ MAX_VARIABLES
few_params s name params body (inl x) = absurd (let e = x.1 in cc)
few_params s name params body (inr (a, inl x)) = absurd (let e = x.1 in cc)
few_params s name params body (inr (a, inr (b, inl x))) = absurd (let e = x.1 in cc)
few_params s name params body (inr (a, inr (b, inr (c, inl x)))) = absurd (let e = x.1 in cc)
few_params s name params body (inr (a, inr (b, inr (c, inr (d, inl x))))) = absurd (let e = x.1 in cc)
few_params s name params body (inr (a, inr (b, inr (c, inr (d, inr (e, rest)))))) = omega (arith, e)

-- the table has the predicate more, and then its name is used
pub predicate_added : (old new : Running) (s : State) (name : List ℕ) (params : List (List ℕ)) (body : Formula) (count arity : ℕ)
    → Keeps old s → IsSayable s (sentence.Predicate name params body) → count ≡ length params → arity ≡ min count (MAX_VARIABLES + 1)
    → (list : List Pred) → list ≡ old.preds.list ++ (record { name = name; arity = arity; body = body } ∷ [])
    → UsesLastName (record old { preds = record { list = list } }) new
    → predicate_rows s name params body None
    → predicate_rows s name params body None × Keeps new (with_predicate s name params body)
predicate_added old new s name params body count arity k sayable counts arities list lists uses rows =
    let few = few_params s name params body rows in
    let arity_is : arity ≡ length params = omega (arith, few, counts, arities) in
    let used = uses old.preds.list (record { name = name; arity = arity; body = body }) lists in
    let adds = used.0 in (
      rows,
      subst (λ (r : Running). Keeps r (with_predicate s name params body)) (sym used.1) (record {
        preds_are = lists ∙ ap₂ (λ (ps : List Pred) (n : ℕ). ps ++ (record { name = name; arity = n; body = body } ∷ [])) k.preds_are arity_is;
        names_are = λ n. adds.has n ∙ (ap (λ b. b || bytes_eq n name) (k.names_are n) ∙ sym (names_with_predicate s name params body n));
        lemmas_are = k.lemmas_are;
        states = k.states;
        writable = λ preds among. k.writable preds (among_before s.preds (record { name = name; arity = length params; body = body }) preds among);
        proof_is = none_kept (tables (with_predicate s name params body)) (conclusions old.proofs) old.proof s.proof (none_when rows).0 (kept_open old s k);
        sound = sound_predicate s name params body k.sound sayable rows;
      }),
    )

-- ---- lemmas

pub lemma_opened : (old : Running) (s : State) (name : List ℕ) (statement : Formula) (p : Proof) → Keeps old s → IsSayable s (sentence.Lemma name statement) → IsBegun name statement p → lemma_rows s name statement None
    → lemma_rows s name statement None × Keeps (record { preds = old.preds; names = old.names; lemmas = old.lemmas; proofs = old.proofs; proof = Some p }) (opened s name statement)
lemma_opened old s name statement p k sayable begun rows = (
  rows,
  record {
    preds_are = k.preds_are;
    names_are = k.names_are;
    lemmas_are = k.lemmas_are;
    states = k.states;
    writable = k.writable;
    proof_is = record {
      name_is = begun.name_is;
      statement_is = begun.statement_is;
      goals_are = ap reverse begun.goals_are;
      leads = subst (λ (ss : List ProofStep). Leads (meaning (opening statement) ∷ []) ss (meaning (opening statement) ∷ [])) (sym begun.steps_are) refl;
      safe = subst (AllByRecursion (IsSafe (tables s) (conclusions old.proofs))) (sym begun.steps_are) tt;
      left = (opening_left s statement (none_when (none_when (none_when rows).1).1).1 sayable.1, tt);
    };
    sound = sound_lemma s name statement k.sound sayable rows;
  },
)

-- ---- `Qed`

pub qed_refused : (old : Running) (s : State) (p : Proof) (new : Running) (d : Done) → Keeps old s → old.proof ≡ Some p → ¬ (length p.goals ≡ 0) → d ≡ done.Refused (refusal GoalsRemain []) → new ≡ old → IsAnswered [] (qed_rows s.proof) (qed_state s s.proof) old new d
qed_refused old s p new d k e left is same =
    let op = is_opened old s p e k in
    let some : ¬ (op.o.goals ≡ []) = λ none. left (sym (length-reverse p.goals) ∙ ap length (op.keeps.goals_are ∙ none)) in
    refused_is [] (qed_rows s.proof) (qed_state s s.proof) old new d GoalsRemain is (subst (λ (o : Option OpenProof). qed_rows o (Some GoalsRemain)) (sym op.is) (inl (some, refl))) same

-- the steps lead to no goal
pub complete : (old : Running) (s : State) (p : Proof) → Keeps old s → old.proof ≡ Some p → length p.goals ≡ 0 → IsComplete p.steps.items
complete old s p k e none =
    let op = is_opened old s p e k in
    let goals : op.o.goals ≡ [] = sym op.keeps.goals_are ∙ ap reverse (no_items p.goals none) in
    (meaning (opening op.o.statement), subst (λ (gs : List Goal). Leads (meaning (opening op.o.statement) ∷ []) p.steps.items (map meaning gs)) goals op.keeps.leads)

all_as : {A : Type 0} (P Q : A → Type 0) → ((x : A) → P x → Q x) → (xs : List A) → AllByRecursion P xs → AllByRecursion Q xs
all_as P Q f [] all = tt
all_as P Q f (x ∷ xs) all = (f x all.0, all_as P Q f xs all.1)

-- the joined proof can be written behind the others
proof_writable : (old : Running) (s : State) (p : Proof) (o : OpenProof) (t : Tree) (preds : Preds) → Keeps old s → s.proof ≡ Some o → KeepsProof (tables s) (conclusions old.proofs) p o → o.goals ≡ [] → Joins p.steps.items t → IsAmong (tables s) preds → IsWritable preds old.proofs (record { name = p.name; proof = t })
unfolding star_onto
proof_writable old s p o t preds k is keeps none joins among =
    let facts = new_qed s o is k.sound in
    let ss : List ProofStep = p.steps.items in
    let known : List Entail = conclusions old.proofs in
    let concl : conclusion t ≡ meaning (opening o.statement) = joins.concludes (meaning (opening o.statement)) (subst (λ (gs : List Goal). Leads (meaning (opening o.statement) ∷ []) ss (map meaning gs)) none keeps.leads) in
    let scoped : IsScoped preds t = joins.scoped preds (all_as (IsSafe (tables s) known) (λ x. IsScoped preds x.proof) (λ x h. h.scoped preds among) ss keeps.safe) in
    let deep : depth t ≤ MAX_LINE_LEVELS = joins.shallow MAX_LINE_LEVELS (all_as (IsSafe (tables s) known) (λ x. depth x.proof ≤ MAX_LINE_LEVELS) (λ x h. h.shallow) ss keeps.safe) in
    let broad : variables t ≤ MAX_LINE_VARIABLES = joins.narrow MAX_LINE_VARIABLES (all_as (IsSafe (tables s) known) (λ x. variables x.proof ≤ MAX_LINE_VARIABLES) (λ x h. h.narrow) ss keeps.safe) in
    let lemmas : AllByRecursion (AllByRecursion (IsOneOf known)) (used ss) = all_used (IsOneOf known) ss (all_as (IsSafe (tables s) known) (λ x. AllByRecursion (IsOneOf known) (lemmas_of x)) (λ x h. h.lemmas) ss keeps.safe) in
    record {
      named = subst (λ (n : List ℕ). IsTrue (is_name n)) (sym keeps.name_is) facts.1;
      new = ap (is_stated (written_names old.proofs)) keeps.name_is ∙ ap (λ (ns : List (List ℕ)). is_stated ns o.name) (names_stated old.proofs ∙ ap (map (λ (l : Statement). l.name)) k.states) ∙ facts.0;
      closed = ap (λ (e : Entail). e.vars) concl;
      left = ap (λ (e : Entail). e.left) concl;
      valid = joins.valid preds (all_as (IsSafe (tables s) known) (λ x. Valid preds x.proof) (λ x h. h.valid preds among) ss keeps.safe);
      fits = scoped_fits preds t scoped deep broad;
      holes = (subst (AllByRecursion (AllByRecursion (IsOneOf known))) joins.holes lemmas).0;
    }

-- one lemma more is proved
lemmas_proved : (old : Running) (s : State) (p : Proof) (o : OpenProof) (new : Running) → Keeps old s → p.name ≡ o.name → p.statement ≡ o.statement → new.lemmas.list ≡ old.lemmas.list ++ record { name = p.name; formula = p.statement } ∷ [] → new.lemmas ≡ proved_lemmas (proved s o)
lemmas_proved old s p o new k names statements lists = ap (λ (ls : List Lemma). record { list = ls }) (
    lists
    ∙ ap₂ (λ (ls : List Lemma) (l : Lemma). ls ++ l ∷ []) (ap (λ (ls : Lemmas). ls.list) k.lemmas_are) (ap₂ (λ (n : List ℕ) (f : Formula). record { name = n; formula = f }) names statements)
    ∙ sym (map_end stated s.lemmas (record { name = o.name; formula = o.statement }))
    )

pub qed_done : (old : Running) (s : State) (p : Proof) (new : Running)
    → Keeps old s → old.proof ≡ Some p → length p.goals ≡ 0 → IsProved (record old { proof = None }) p new
    → qed_rows s.proof None × Keeps new (qed_state s s.proof)
qed_done old s p new k e none done =
    let op = is_opened old s p e k in
    let o : OpenProof = op.o in
    let goals : o.goals ≡ [] = sym op.keeps.goals_are ∙ ap reverse (no_items p.goals none) in
    let concl : conclusion done.proof ≡ meaning (opening o.statement) = done.joins.concludes (meaning (opening o.statement)) (subst (λ (gs : List Goal). Leads (meaning (opening o.statement) ∷ []) p.steps.items (map meaning gs)) goals op.keeps.leads) in
    let x : Named = record { name = p.name; proof = done.proof } in
    let says : statement_of x ≡ record { name = o.name; formula = o.statement } = ap₂ (λ (n : List ℕ) (f : Formula). record { name = n; formula = f }) op.keeps.name_is (ap (λ (e : Entail). e.right) concl) in (
      subst (λ (q : Option OpenProof). qed_rows q None) (sym op.is) (inr ((λ some. some goals), refl)),
      subst (λ (q : Option OpenProof). Keeps new (qed_state s q)) (sym op.is) (record {
        preds_are = ap (λ (ps : Preds). ps.list) done.preds_are ∙ k.preds_are;
        names_are = λ n. done.names_are.has n ∙ (ap₂ (λ b m. b || bytes_eq n m) (k.names_are n) op.keeps.name_is ∙ sym (names_proved s o n));
        lemmas_are = lemmas_proved old s p o new k op.keeps.name_is op.keeps.statement_is done.lemmas_are;
        states = ap (map statement_of) done.proofs_are ∙ map_end statement_of old.proofs x ∙ ap₂ (λ (ls : List Statement) (l : Statement). ls ++ l ∷ []) k.states says;
        writable = λ preds among. subst (AreWritable preds) (sym done.proofs_are) (each_more (IsWritable preds) old.proofs x (k.writable preds among) (proof_writable old s p o done.proof preds k op.is op.keeps goals done.joins among));
        proof_is = subst (λ (q : Option Proof). KeepsProofs (tables s) (conclusions new.proofs) q None) (sym done.proof_is) tt;
        sound = sound_qed s o op.is k.sound;
      }),
    )

-- ---- directives

module _ (old : Running) (s : State) (p : Proof) (x : Directive) (k : Keeps old s) (e : old.proof ≡ Some p) where
  the_proof : IsOpen old s p
  the_proof = is_opened old s p e k

  abbrev o : OpenProof
  o = the_proof.o

  pub goals_sound : AreSound (reverse p.goals)
  goals_sound = subst AreSound (sym the_proof.keeps.goals_are) (all_sound s o.goals the_proof.keeps.left)

  pub goals_handed : TermsFit (length (scope_of old)) x → FitsFirst x (reverse p.goals)
  goals_handed h = fits_first x p.name p.statement (reverse p.goals) (subst (λ (q : Option Proof). TermsFit (length (scope_by (option_map open_of q))) x) e h)

  -- what the code of the step answers, by the state
  here : (result : Result (Parts Goal) StepFault) → StepsFirst old.preds old.lemmas (reverse p.goals) x result → StepsFirst (table s) (proved_lemmas s) o.goals x result
  here result h =
      subst (λ (gs : List Goal). StepsFirst (table s) (proved_lemmas s) gs x result) the_proof.keeps.goals_are
      (subst (λ (ls : Lemmas). StepsFirst (table s) ls (reverse p.goals) x result) k.lemmas_are
      (subst (λ (ps : List Pred). StepsFirst (record { list = ps }) old.lemmas (reverse p.goals) x result) k.preds_are h))

  open_is : (answer : Option OpenProof → Type 0) → answer (Some o) → answer s.proof
  open_is answer h = subst answer (sym the_proof.is) h

  abbrev moved : Proof → Running
  moved q = record old { proof = Some q }

  -- the state that keeps a proof which is a step further
  keeps_moved : (q : Proof) (gs : List Goal) → KeepsProof (tables s) (conclusions old.proofs) q (record o { goals = gs }) → Keeps (moved q) (with_proof s (Some (record o { goals = gs })))
  keeps_moved q gs keeps = record {
    preds_are = k.preds_are;
    names_are = k.names_are;
    lemmas_are = k.lemmas_are;
    states = k.states;
    writable = k.writable;
    proof_is = keeps;
    sound = sound_step s o gs the_proof.is k.sound;
  }

  stepped_here : (q : Proof) (g : Goal) (gs : List Goal) (n : ℕ) (parts : Parts Goal) (r : Stepped) → o.goals ≡ g ∷ gs → IsStepped p parts q → StepAnswers g n r (Ok parts) → IsDone old (moved q) (answer_to s o (beside r gs)) done.Moved
  stepped_here q g gs n parts (steps.goals new) goals stepped leaves = (refl, keeps_moved q (new ++ gs) (kept_step (tables s) (conclusions old.proofs) p q o g gs new n parts the_proof.keeps goals leaves stepped))
  stepped_here q g gs n parts (steps.refused r) goals stepped leaves = absurd leaves

  moved_by : (q : Proof) (parts : Parts Goal) (gs : List Goal) → o.goals ≡ gs → IsStepped p parts q → StepsFirst (table s) (proved_lemmas s) gs x (Ok parts) → IsDone old (moved q) (answer_to s o (step_first (table s) (proved_lemmas s) gs x)) done.Moved
  unfolding StepsFirst step_first
  moved_by q parts [] goals stepped h = absurd h
  moved_by q parts (g ∷ gs) goals stepped h = stepped_here q g gs (step_rules (table s) (proved_lemmas s) g x) parts (step (table s) (proved_lemmas s) g x) goals stepped h

  pub directive_moved : (q : Proof) (parts : Parts Goal) → StepsFirst old.preds old.lemmas (reverse p.goals) x (Ok parts) → IsStepped p parts q → IsDone old (moved q) (step_open s s.proof x) done.Moved
  directive_moved q parts h stepped = open_is (λ (op : Option OpenProof). IsDone old (moved q) (step_open s op x) done.Moved) (moved_by q parts o.goals refl stepped (here (Ok parts) h))

  refused_here : (g : Goal) (gs : List Goal) (n : ℕ) (r : Stepped) (by : Refusal) → StepAnswers g n r (Err (fault.Refused by)) → IsDone old (moved p) (answer_to s o (beside r gs)) (done.Refused by)
  refused_here g gs n (steps.goals new) by h = absurd h
  refused_here g gs n (steps.refused r) by h = (ap done.Refused h, same)
    where
      same : moved p ≡ old
      same = ap (λ (q : Option Proof). record old { proof = q }) (sym e)

  refused_by : (by : Refusal) (gs : List Goal) → StepsFirst (table s) (proved_lemmas s) gs x (Err (fault.Refused by)) → IsDone old (moved p) (answer_to s o (step_first (table s) (proved_lemmas s) gs x)) (done.Refused by)
  unfolding StepsFirst step_first
  refused_by by [] h = (ap done.Refused h, ap (λ (q : Option Proof). record old { proof = q }) (sym e))
  refused_by by (g ∷ gs) h = refused_here g gs (step_rules (table s) (proved_lemmas s) g x) (step (table s) (proved_lemmas s) g x) by h

  pub directive_refused : (by : Refusal) → StepsFirst old.preds old.lemmas (reverse p.goals) x (Err (fault.Refused by)) → IsDone old (moved p) (step_open s s.proof x) (done.Refused by)
  directive_refused by h = open_is (λ (op : Option OpenProof). IsDone old (moved p) (step_open s op x) (done.Refused by)) (refused_by by o.goals (here (Err (fault.Refused by)) h))

-- where it is built
pub directs_if : (b : Bool) (x : Directive) (s : State) (old new : Running) (d : Done) → b ≡ is_built x → b ≡ true → IsDone old new (step_open s s.proof x) d → IsDone old new (directed s x) d
directs_if b x s old new d is built h = subst (λ (c : Bool). IsDone old new (if c then step_open s s.proof x else unbuilt) d) (sym built ∙ is) h

pub directs_nothing : (b : Bool) (x : Directive) (s : State) (old : Running) → b ≡ is_built x → b ≡ false → IsDone old old (directed s x) done.Unbuilt
directs_nothing b x s old is built = subst (λ (c : Bool). IsDone old old (if c then step_open s s.proof x else unbuilt) done.Unbuilt) (sym built ∙ is) (refl, refl)

-- ---- whole sentences

-- a sentence whose table and new state these are
pub does_by : (s : State) (x : Sentence) (name : List ℕ) (table : Table) (state : State) (old new : Running) (d : Done) → ((a : Answer) → Answers name table state a → Does s x a) → IsAnswered name table state old new d → IsDoing s x old new d
does_by s x name table state old new d f h = let e = doing name table state old new d h in record { answer = e.0; does = f e.0 e.1; is_done = e.2 }

pub does_predicate : (s : State) (name : List ℕ) (params : List (List ℕ)) (body : Formula) (old new : Running) (d : Done) → IsAnswered name (predicate_rows s name params body) (with_predicate s name params body) old new d → IsDoing s (sentence.Predicate name params body) old new d
unfolding Does
does_predicate s name params body old new d h = does_by s (sentence.Predicate name params body) name (predicate_rows s name params body) (with_predicate s name params body) old new d (λ a x. x) h

pub does_lemma : (s : State) (name : List ℕ) (statement : Formula) (old new : Running) (d : Done) → IsAnswered name (lemma_rows s name statement) (opened s name statement) old new d → IsDoing s (sentence.Lemma name statement) old new d
unfolding Does
does_lemma s name statement old new d h = does_by s (sentence.Lemma name statement) name (lemma_rows s name statement) (opened s name statement) old new d (λ a x. x) h

pub does_proof : (s : State) (old new : Running) (d : Done) → IsAnswered [] (proof_rows s) s old new d → IsDoing s sentence.Proof old new d
unfolding Does
does_proof s old new d h = does_by s sentence.Proof [] (proof_rows s) s old new d (λ a x. x) h

pub does_qed : (s : State) (old new : Running) (d : Done) → IsAnswered [] (qed_rows s.proof) (qed_state s s.proof) old new d → IsDoing s sentence.Qed old new d
unfolding Does
does_qed s old new d h = does_by s sentence.Qed [] (qed_rows s.proof) (qed_state s s.proof) old new d (λ a x. x) h

pub does_directive : (s : State) (x : Directive) (old new : Running) (d : Done) → IsDone old new (directed s x) d → IsDoing s (sentence.Directive x) old new d
unfolding Does
does_directive s x old new d h = record { answer = directed s x; does = refl; is_done = h }

-- a sentence that isn't built
pub does_nothing : (s : State) (x : Sentence) (old : Running) → Does s x unbuilt → IsDoing s x old old done.Unbuilt
does_nothing s x old h = record { answer = unbuilt; does = h; is_done = (refl, refl) }

pub not_built : (s : State) (x : Sentence) → (x ≡ sentence.Abort) ⊎ ((x ≡ sentence.Restart) ⊎ ((x ≡ sentence.Show) ⊎ (((n : ℕ) × (x ≡ sentence.Undo n)) ⊎ ((x ≡ sentence.Enter) ⊎ (x ≡ sentence.Leave))))) → Does s x unbuilt
unfolding Does
not_built s x (inl e) = subst (λ y. Does s y unbuilt) (sym e) refl
not_built s x (inr (inl e)) = subst (λ y. Does s y unbuilt) (sym e) refl
not_built s x (inr (inr (inl e))) = subst (λ y. Does s y unbuilt) (sym e) refl
not_built s x (inr (inr (inr (inl e)))) = subst (λ y. Does s y unbuilt) (sym e.1) refl
not_built s x (inr (inr (inr (inr (inl e))))) = subst (λ y. Does s y unbuilt) (sym e) refl
not_built s x (inr (inr (inr (inr (inr e))))) = subst (λ y. Does s y unbuilt) (sym e) refl

-- ---- what a sentence states

pub is_predicate : (x : Sentence) (name : List ℕ) (params : List (List ℕ)) (body : Formula) → stated_of x ≡ Ok (stating.Predicate name params body) → x ≡ sentence.Predicate name params body
unfolding stated_of
is_predicate (sentence.Predicate m qs b) name params body e = cc
is_predicate x name params body e = absurd cc

pub is_lemma : (x : Sentence) (name : List ℕ) (statement : Formula) → stated_of x ≡ Ok (stating.Lemma name statement) → x ≡ sentence.Lemma name statement
unfolding stated_of
is_lemma (sentence.Lemma m f) name statement e = cc
is_lemma x name statement e = absurd cc

pub is_other : (x y : Sentence) → stated_of x ≡ Err y → x ≡ y
unfolding stated_of
is_other (sentence.Predicate m qs b) y e = absurd cc
is_other (sentence.Lemma m f) y e = absurd cc
is_other x y e = cc

pub states_predicate : (name : List ℕ) (params : List (List ℕ)) (body : Formula) → ¬ StatesNothing (sentence.Predicate name params body)
unfolding stated_of
states_predicate name params body e = absurd cc

pub states_lemma : (name : List ℕ) (statement : Formula) → ¬ StatesNothing (sentence.Lemma name statement)
unfolding stated_of
states_lemma name statement e = absurd cc

pub states_either : (x : Sentence) → ((name : List ℕ) × (params : List (List ℕ)) × (body : Formula) × (x ≡ sentence.Predicate name params body)) ⊎ ((name : List ℕ) × (statement : Formula) × (x ≡ sentence.Lemma name statement)) → ¬ StatesNothing x
states_either x (inl p) nothing = states_predicate p.0 p.1 p.2 (subst (λ y. StatesNothing y) p.3 nothing)
states_either x (inr l) nothing = states_lemma l.0 l.1 (subst (λ y. StatesNothing y) l.2 nothing)
