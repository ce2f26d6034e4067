-- Each line of a derivation is true in the model, by induction over the lines before it.
use Rattle.std.proofs.Common.{◌≡◌, ℕ, zero, suc, List, [], ◌∷◌, ◌++◌, slice_get, Option, Some, None, MatchOption, option_map, option_to_list, sym, refl, ap, subst, subst₂, ◌∙◌, append_assoc, append-nil}
use Rattle.std.specs.List.{AllByRecursion}
use Rattle.pm_logic.specs.declared.formula.Formula.TheVariants.{Pure as Fact}
use Rattle.pm_logic.specs.declared.formula.Pure.TheVariants as pure
use Rattle.pm_logic.specs.declared.formula.Preds.{Preds}
use Rattle.pm_logic.specs.Scope.{Scoped}
use Rattle.pm_model.specs.Entailment.{IsTrueEntailment}
use Rattle.pm_rules.specs.declared.rules.Entail.{Entail}
use Rattle.pm_rules.specs.Rules.{premises}
use Rattle.pm_sound.specs.Truth.{IsTrueEntail, AreScoped, IsWellFormed}
use Rattle.pm_sound.proofs.Sound.{all_sound, consistent}
use Rattle.pm_dtext.specs.declared.line.Line.{Line}
use Rattle.pm_dtext.specs.declared.line.Line.TheVariants.{Step, Qed}
use Rattle.pm_dtext.specs.Texts.{arities_of}
use Rattle.pm_check.specs.Fronts.{EachBehind}
use Rattle.pm_check.specs.Table.{BeginsTable}
use Rattle.pm_check.specs.Lines.{steps, names, proof_line, cited, statement, statements_behind, QedFollows}
use Rattle.pm_check.specs.Derivation.{IsNext}
use Rattle.pm_check.specs.Truth.{IsTrueStatement}
use Rattle.pm_check.specs.Laws.{ProofLinesAreTrue, DerivationsAreTrue, NothingAbsurd}
use Rattle.pm_dtext.proofs.Scopes.{is_scoped}

-- ---- a table that begins a derivation is well formed

-- what holds of each item behind those before it holds at each place
each_at : {X : Type 0} (P : X → Type 0) (xs : List X) → ((before : List X) (x : X) (behind : List X) → xs ≡ before ++ x ∷ behind → P x) → (i : ℕ) → MatchOption (slice_get xs i) (Unit {0}) P
each_at P [] each i = tt
each_at P (x ∷ xs) each zero = each [] x xs refl
each_at P (x ∷ xs) each (suc i) = each_at P xs (λ before y behind e. each (x ∷ before) y behind (ap (λ l. x ∷ l) e)) i

pub well_formed : (preds : Preds) → BeginsTable (arities_of preds.list) preds.list → IsWellFormed preds
well_formed preds t = record {
  guarded = t.guarded;
  scoped = each_at (λ q. Scoped preds q.arity q.body) preds.list (λ before q behind e. is_scoped preds q.arity q.body (t.each before q behind e).body.in_range);
}

-- ---- what holds of all items

all_append : {X : Type 0} (P : X → Type 0) (xs ys : List X) → AllByRecursion P xs → AllByRecursion P ys → AllByRecursion P (xs ++ ys)
all_append P [] ys a b = b
all_append P (x ∷ xs) ys a b = (a.0, all_append P xs ys a.1 b)

all_by : {X : Type 0} {P Q : X → Type 0} → ((x : X) → P x → Q x) → (xs : List X) → AllByRecursion P xs → AllByRecursion Q xs
all_by f [] a = tt
all_by f (x ∷ xs) a = (f x a.0, all_by f xs a.1)

all_at : {X : Type 0} (P : X → Type 0) (xs : List X) → AllByRecursion P xs → (i : ℕ) → AllByRecursion P (option_to_list (slice_get xs i))
all_at P [] a i = tt
all_at P (x ∷ xs) a zero = (a.0, tt)
all_at P (x ∷ xs) a (suc i) = all_at P xs a.1 i

all_cited : (P : Entail → Type 0) (es : List Entail) → AllByRecursion P es → (c : Option ℕ) → AllByRecursion P (option_to_list (cited es c))
all_cited P es a None = tt
all_cited P es a (Some zero) = tt
all_cited P es a (Some (suc k)) = all_at P es a k

-- ---- proof lines

steps_append : (ls more : List Line) → steps (ls ++ more) ≡ steps ls ++ steps more
steps_append [] more = refl
steps_append (Step rule first second e ∷ ls) more = ap (λ es. e ∷ es) (steps_append ls more)
steps_append (Qed name n ∷ ls) more = steps_append ls more

-- scoped and true
abbrev HoldsScoped : Preds → Entail → Type 0
HoldsScoped preds e = AreScoped preds e × IsTrueEntail preds e

premises_hold : (P : Entail → Type 0) (es : List Entail) → AllByRecursion P es → (first second : Option ℕ) → AllByRecursion P (premises (cited es first) (cited es second))
premises_hold P es a first second = all_append P (option_to_list (cited es first)) (option_to_list (cited es second)) (all_cited P es a first) (all_cited P es a second)

line_holds : (preds : Preds) → IsWellFormed preds → (before : List Line) (l : Line) → IsNext preds before l → AllByRecursion (HoldsScoped preds) (steps before) → AllByRecursion (HoldsScoped preds) (steps (l ∷ []))
line_holds preds w before (Step rule first second e) next a =
    let ps = premises (cited (steps before) first) (cited (steps before) second) in
    let both = premises_hold (HoldsScoped preds) (steps before) a first second in
    let s : AreScoped preds e = record { left = is_scoped preds e.vars e.left next.fits.left.in_range; right = is_scoped preds e.vars e.right next.fits.right.in_range } in
    ((s, all_sound rule preds ps e w (all_by (λ x h. h.0) ps both) s (all_by (λ x h. h.1) ps both) next.follows), tt)
line_holds preds w before (Qed name n) next a = tt

-- what holds of the proof lines before a line that comes next holds with this line
more_hold : (preds : Preds) → IsWellFormed preds → (before : List Line) (l : Line) → IsNext preds before l → AllByRecursion (HoldsScoped preds) (steps before) → AllByRecursion (HoldsScoped preds) (steps (before ++ l ∷ []))
more_hold preds w before l next a = subst (AllByRecursion (HoldsScoped preds)) (sym (steps_append before (l ∷ []))) (all_append (HoldsScoped preds) (steps before) (steps (l ∷ [])) a (line_holds preds w before l next a))

-- the lines that are left, behind one more
shifted : {ls : List Line} (before : List Line) (l : Line) (behind : List Line) → ls ≡ before ++ l ∷ behind → ls ≡ (before ++ l ∷ []) ++ behind
shifted before l behind e = e ∙ sym (append_assoc before (l ∷ []) behind)

lines_hold : (preds : Preds) → IsWellFormed preds → (ls : List Line) → EachBehind (IsNext preds) ls → (before behind : List Line) → ls ≡ before ++ behind → AllByRecursion (HoldsScoped preds) (steps before) → AllByRecursion (HoldsScoped preds) (steps ls)
lines_hold preds w ls each before [] e a = subst (λ l. AllByRecursion (HoldsScoped preds) (steps l)) (sym (e ∙ append-nil before)) a
lines_hold preds w ls each before (l ∷ behind) e a = lines_hold preds w ls each (before ++ l ∷ []) behind (shifted before l behind e) (more_hold preds w before l (each before l behind e) a)

pub lines_true : ProofLinesAreTrue
lines_true bytes preds ls rest b = all_by (λ e h. h.1) (steps ls) (lines_hold preds (well_formed preds b.table) ls b.each [] ls refl tt)

-- ---- statements

-- the line that a statement cites is true, and so is the statement
qed_true : (preds : Preds) (es : List Entail) (used : List (List ℕ)) (name : List ℕ) (n : ℕ) → QedFollows es used name n → AllByRecursion (HoldsScoped preds) es → AllByRecursion (IsTrueStatement preds) (option_to_list (option_map (statement name) (proof_line es n)))
qed_true preds es used name n q a =
    let cited_holds = subst (λ o. AllByRecursion (HoldsScoped preds) (option_to_list o)) q.there (all_cited (HoldsScoped preds) es a (Some n)) in
    let is_true : IsTrueEntailment preds 0 (Fact pure.True) q.line.right = subst₂ (λ k x. IsTrueEntailment preds k x q.line.right) q.closed q.left cited_holds.0.1 in
    subst (λ o. AllByRecursion (IsTrueStatement preds) (option_to_list (option_map (statement name) o))) (sym q.there) (is_true, tt)

statements_hold : (preds : Preds) → IsWellFormed preds → (ls : List Line) → EachBehind (IsNext preds) ls → (before behind : List Line) → ls ≡ before ++ behind → AllByRecursion (HoldsScoped preds) (steps before) → AllByRecursion (IsTrueStatement preds) (statements_behind (steps before) behind)
statements_hold preds w ls each before [] e a = tt
statements_hold preds w ls each before (Step rule first second x ∷ behind) e a =
    let l = Step rule first second x in
    let later = statements_hold preds w ls each (before ++ l ∷ []) behind (shifted before l behind e) (more_hold preds w before l (each before l behind e) a) in
    subst (λ es. AllByRecursion (IsTrueStatement preds) (statements_behind es behind)) (steps_append before (l ∷ [])) later
statements_hold preds w ls each before (Qed name n ∷ behind) e a =
    let l = Qed name n in
    let next = each before l behind e in
    let later = statements_hold preds w ls each (before ++ l ∷ []) behind (shifted before l behind e) (more_hold preds w before l next a) in
    all_append (IsTrueStatement preds) (option_to_list (option_map (statement name) (proof_line (steps before) n))) (statements_behind (steps before) behind)
    (qed_true preds (steps before) (names before) name n next.follows a)
    (subst (λ es. AllByRecursion (IsTrueStatement preds) (statements_behind es behind)) (steps_append before (l ∷ []) ∙ append-nil (steps before)) later)

pub statements_true : DerivationsAreTrue
statements_true bytes preds statements d =
    let w = well_formed preds d.whole.table in
    subst (AllByRecursion (IsTrueStatement preds)) (sym d.states) (statements_hold preds w d.lines d.whole.each [] d.lines refl tt)

-- a true statement isn't absurd, by the consistency of its table
pub nothing_absurd : NothingAbsurd
nothing_absurd bytes preds statements d =
    let c = consistent preds in
    let at = IsTrueEntailment preds 0 (Fact pure.True) in
    all_by (λ s h. record { now = λ e. c.now (subst at e h); later = λ e. c.later (subst at e h) }) statements (statements_true bytes preds statements d)
