-- What each sentence keeps of a state: it is sound, and which names are used.
use Rattle.std.proofs.Common.{◌≡◌, ◌⊎◌, inl, inr, ℕ, zero, suc, ◌<◌, ◌≤◌, Bool, true, false, ◌||◌, List, [], ◌∷◌, ◌++◌, length, map, refl, sym, ◌∙◌, ap, subst, arith, Option, Some, None}
use Rattle.std.proofs.lemmas.List.Folds.{list_any-append}
use Rattle.std.proofs.lemmas.Slice.Eq.{bytes_eq-Decides}
use Rattle.std.specs.Prelude.{IsTrue, is_some, not}
use Rattle.std.specs.Bool.{Decides}
use Rattle.pm_run.proofs.Decisions.{calls_below, decides_below}
use Rattle.pm_run.proofs.Growing.{range_kept}
use Rattle.std.specs.List.{AllByRecursion, list_any}
use Rattle.std.specs.Str.{bytes_eq}
use Rattle.pm_logic.specs.declared.limits.TheConstants.{MAX_LEVELS, MAX_PREDICATES, MAX_VARIABLES}
use Rattle.pm_logic.specs.declared.formula.Formula.{Formula}
use Rattle.pm_logic.specs.declared.formula.Pred.{Pred}
use Rattle.pm_logic.specs.Guard.{CallsBelow}
use Rattle.pm_logic.specs.Size.{depth_of}
use Rattle.pm_names.specs.Names.{is_name}
use Rattle.pm_dtext.specs.Ranges.{HasArity, InRange, AritiesFit, PredFits}
use Rattle.pm_dtext.specs.Texts.{arities_of, names_of}
use Rattle.pm_dtext.proofs.Tables.{taken_by}
use Rattle.pm_check.specs.declared.checked.Statement.{Statement}
use Rattle.pm_check.specs.Lines.{is_used as is_stated}
use Rattle.pm_check.specs.Table.{BeginsTable}
use Rattle.pm_check.proofs.Tables.{table_none, table_more}
use Rattle.pm_goal.specs.declared.goal.Goal.{Goal}
use Rattle.pm_script.specs.declared.sentence.Sentence.TheVariants as sentence
use Rattle.pm_goal.specs.declared.refusal.Row.{Row}
use Rattle.pm_run.specs.Runs.{OpenProof, State, start, is_open, is_used, predicate_rows, with_predicate, lemma_rows, opened, with_proof, proved}
use Rattle.pm_run.specs.Keeping.{IsProvable, ProofIsSound, IsSound, IsSayable}

-- ---- tests

-- where a table answers no row, its first condition fails and the others answer none
pub none_when : {P A : Type 0} {row : Row} → P × (None ≡ Some row) ⊎ (¬ P) × A → (¬ P) × A
none_when (inl x) = absurd (cc x.1)
none_when (inr x) = x

not_true : (b : Bool) → ¬ IsTrue b → b ≡ false
not_true true never = absurd (never refl)
not_true false never = refl

neither : (a b : Bool) → ¬ IsTrue (a || b) → (a ≡ false) × (b ≡ false)
neither true b never = absurd (never refl)
neither false true never = absurd (never refl)
neither false false never = (refl, refl)

or_other : (a b : Bool) → (a || b) ≡ false → b ≡ false
or_other true b e = absurd (cc e)
or_other false b e = e

same_tests : (a b : Bool) → (a ≡ true → b ≡ true) → (b ≡ true → a ≡ true) → a ≡ b
same_tests true b to back = sym (to refl)
same_tests false true to back = back refl
same_tests false false to back = refl

turned : (x y : List ℕ) → bytes_eq x y ≡ bytes_eq y x
turned x y = same_tests (bytes_eq x y) (bytes_eq y x) (λ e. (bytes_eq-Decides y x).1 (sym ((bytes_eq-Decides x y).0 e))) (λ e. (bytes_eq-Decides x y).1 (sym ((bytes_eq-Decides y x).0 e)))

settled : {P : Type 0} (r : Bool) → Decides r P → ¬ (¬ P) → P
settled true d never = d.0 refl
settled false d never = absurd (never (λ h. cc (d.1 h)))

-- calls that can't but be below are below
are_below : (p : ℕ) (f : Formula) → ¬ (¬ CallsBelow p f) → CallsBelow p f
are_below p f never = settled (calls_below p f) (decides_below p f) never

-- ---- ranges grow with the table

arity_more : (arities more : List ℕ) (p n : ℕ) → HasArity arities p n → HasArity (arities ++ more) p n
arity_more [] more p n h = absurd cc
arity_more (a ∷ arities) more zero n h = h
arity_more (a ∷ arities) more (suc p) n h = arity_more arities more p n h

pred_more : (arities more : List ℕ) (names : List (List ℕ)) (q : Pred) → PredFits arities names q → PredFits (arities ++ more) names q
pred_more arities more names q fits = record {
  named = fits.named;
  new = fits.new;
  arity = arity_more arities more (length names) q.arity fits.arity;
  body = record { in_range = range_kept arities more q.arity q.body fits.body.in_range; levels = fits.body.levels };
}

pub begins_more : (arities more : List ℕ) (qs : List Pred) → AritiesFit (arities ++ more) → BeginsTable arities qs → BeginsTable (arities ++ more) qs
begins_more arities more qs fit b = record {
  fit = fit;
  each = λ before q behind e. pred_more arities more (names_of before) q (b.each before q behind e);
  guarded = b.guarded;
}

-- ---- one more at the end

arities_end : (qs : List Pred) (q : Pred) → arities_of (qs ++ q ∷ []) ≡ arities_of qs ++ q.arity ∷ []
arities_end [] q = refl
arities_end (x ∷ qs) q = ap (λ (ns : List ℕ). x.arity ∷ ns) (arities_end qs q)

length_end : (qs : List Pred) (n : ℕ) → length (arities_of qs ++ n ∷ []) ≡ suc (length qs)
length_end [] n = refl
length_end (x ∷ qs) n = ap suc (length_end qs n)

all_end : {A : Type 0} (P : A → Type 0) (xs : List A) (x : A) → AllByRecursion P xs → P x → AllByRecursion P (xs ++ x ∷ [])
all_end P [] x all here = (here, tt)
all_end P (y ∷ xs) x all here = (all.0, all_end P xs x all.1 here)

arity_end : (qs : List Pred) (n : ℕ) → HasArity (arities_of qs ++ n ∷ []) (length (names_of qs)) n
arity_end [] n = refl
arity_end (x ∷ qs) n = arity_end qs n

fit_end : (qs : List Pred) (n : ℕ) → AritiesFit (arities_of qs) → length qs < MAX_PREDICATES → n ≤ MAX_VARIABLES → AritiesFit (arities_of qs ++ n ∷ [])
fit_end qs n fit few small = (let l : length (arities_of qs ++ n ∷ []) ≡ suc (length qs) = length_end qs n in omega (arith, l, few), all_end (λ (a : ℕ). a ≤ MAX_VARIABLES) (arities_of qs) n fit.1 small)

-- ---- states

pub closed_sound : (s : State) (o : Option OpenProof) → ¬ IsTrue (is_some o) → ProofIsSound s o
closed_sound s None never = tt
closed_sound s (Some p) never = absurd (never refl)

abbrev defined : List ℕ → List (List ℕ) → Formula → Pred
defined name params body = record { name = name; arity = length params; body = body }

defined_fits : (s : State) (name : List ℕ) (params : List (List ℕ)) (body : Formula) → IsSayable s (sentence.Predicate name params body) → ¬ IsTrue (is_used s name) → PredFits (arities_of s.preds ++ length params ∷ []) (names_of s.preds) (defined name params body)
defined_fits s name params body sayable unused = record {
  named = sayable.0;
  new = ap not (taken_by s.preds name ∙ (neither (list_any (λ (q : Pred). bytes_eq q.name name) s.preds) (list_any (λ (l : Statement). bytes_eq l.name name) s.lemmas) unused).0);
  arity = arity_end s.preds (length params);
  body = record { in_range = sayable.1; levels = let d : depth_of body ≤ MAX_LEVELS = sayable.2 in omega (arith, d) };
}

with_defined : (s : State) (name : List ℕ) (params : List (List ℕ)) (body : Formula) → IsSound s → IsSayable s (sentence.Predicate name params body) → ¬ IsTrue (is_open s) → ¬ IsTrue (is_used s name) → CallsBelow (length s.preds) body → length s.preds < MAX_PREDICATES → length params ≤ MAX_VARIABLES → IsSound (with_predicate s name params body)
with_defined s name params body sound sayable closed unused below few small =
    let fit : AritiesFit (arities_of s.preds ++ length params ∷ []) = fit_end s.preds (length params) sound.table_begins.fit few small in
    let longer : BeginsTable (arities_of s.preds ++ length params ∷ []) s.preds = begins_more (arities_of s.preds) (length params ∷ []) s.preds fit sound.table_begins in
    record {
      table_begins = subst (λ (ns : List ℕ). BeginsTable ns (s.preds ++ defined name params body ∷ [])) (sym (arities_end s.preds (defined name params body))) (table_more (arities_of s.preds ++ length params ∷ []) s.preds (defined name params body) longer (defined_fits s name params body sayable unused) below);
      proof_sound = closed_sound (with_predicate s name params body) s.proof closed;
    }

pub sound_predicate : (s : State) (name : List ℕ) (params : List (List ℕ)) (body : Formula) → IsSound s → IsSayable s (sentence.Predicate name params body) → predicate_rows s name params body None → IsSound (with_predicate s name params body)
sound_predicate s name params body sound sayable rows =
    let closed = none_when rows in
    let unused = none_when closed.1 in
    let below = none_when unused.1 in
    let few = none_when below.1 in
    let small = none_when few.1 in
    with_defined s name params body sound sayable closed.0 unused.0 (are_below (length s.preds) body below.0) (omega (arith, few.0)) (omega (arith, small.0))

pub sound_lemma : (s : State) (name : List ℕ) (statement : Formula) → IsSound s → IsSayable s (sentence.Lemma name statement) → lemma_rows s name statement None → IsSound (opened s name statement)
sound_lemma s name statement sound sayable rows =
    let closed = none_when rows in
    let unused = none_when closed.1 in
    record {
      table_begins = sound.table_begins;
      proof_sound = record { named = sayable.0; new = not_true (is_used s name) unused.0 };
    }

pub open_provable : (s : State) (p : OpenProof) → s.proof ≡ Some p → IsSound s → IsProvable s p.name p.statement
open_provable s p e sound = subst (ProofIsSound s) e sound.proof_sound

pub sound_qed : (s : State) (p : OpenProof) → s.proof ≡ Some p → IsSound s → IsSound (proved s p)
sound_qed s p e sound = record {
  table_begins = sound.table_begins;
  proof_sound = tt;
}

pub sound_step : (s : State) (p : OpenProof) (gs : List Goal) → s.proof ≡ Some p → IsSound s → IsSound (with_proof s (Some (record p { goals = gs })))
sound_step s p gs e sound =
    let h : IsProvable s p.name p.statement = open_provable s p e sound in
    record {
      table_begins = sound.table_begins;
      proof_sound = record { named = h.named; new = h.new };
    }

-- ---- names

stated : (ls : List Statement) (name : List ℕ) → is_stated (map (λ (l : Statement). l.name) ls) name ≡ list_any (λ (l : Statement). bytes_eq l.name name) ls
stated [] name = refl
stated (l ∷ ls) name = ap (λ b. b || is_stated (map (λ (l : Statement). l.name) ls) name) (turned name l.name) ∙ ap (λ b. bytes_eq l.name name || b) (stated ls name)

pub new_qed : (s : State) (p : OpenProof) → s.proof ≡ Some p → IsSound s → (is_stated (map (λ (l : Statement). l.name) s.lemmas) p.name ≡ false) × IsTrue (is_name p.name)
new_qed s p e sound =
    let h : IsProvable s p.name p.statement = open_provable s p e sound in
    (stated s.lemmas p.name ∙ or_other (list_any (λ (q : Pred). bytes_eq q.name p.name) s.preds) (list_any (λ (l : Statement). bytes_eq l.name p.name) s.lemmas) h.new, h.named)

or_first : (a b c : Bool) → ((a || (c || false)) || b) ≡ ((a || b) || c)
or_first true b c = refl
or_first false true true = refl
or_first false true false = refl
or_first false false true = refl
or_first false false false = refl

or_last : (a b c : Bool) → (a || (b || (c || false))) ≡ ((a || b) || c)
or_last true b c = refl
or_last false true c = refl
or_last false false true = refl
or_last false false false = refl

pub names_with_predicate : (s : State) (name : List ℕ) (params : List (List ℕ)) (body : Formula) (n : List ℕ) → is_used (with_predicate s name params body) n ≡ (is_used s n || bytes_eq n name)
names_with_predicate s name params body n =
    ap (λ b. b || list_any (λ (l : Statement). bytes_eq l.name n) s.lemmas) (list_any-append (λ (q : Pred). bytes_eq q.name n) s.preds (defined name params body ∷ []))
    ∙ or_first (list_any (λ (q : Pred). bytes_eq q.name n) s.preds) (list_any (λ (l : Statement). bytes_eq l.name n) s.lemmas) (bytes_eq name n)
    ∙ ap (λ b. is_used s n || b) (turned name n)

pub names_proved : (s : State) (p : OpenProof) (n : List ℕ) → is_used (proved s p) n ≡ (is_used s n || bytes_eq n p.name)
names_proved s p n =
    ap (λ b. list_any (λ (q : Pred). bytes_eq q.name n) s.preds || b) (list_any-append (λ (l : Statement). bytes_eq l.name n) s.lemmas (record { name = p.name; formula = p.statement } ∷ []))
    ∙ or_last (list_any (λ (q : Pred). bytes_eq q.name n) s.preds) (list_any (λ (l : Statement). bytes_eq l.name n) s.lemmas) (bytes_eq p.name n)
    ∙ ap (λ b. is_used s n || b) (turned p.name n)
