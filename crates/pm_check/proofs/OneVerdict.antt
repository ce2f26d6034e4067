-- A text has one verdict.
use Rattle.std.proofs.Common.{◌≡◌, ℕ, ◌<◌, ◌^◌, List, [], length, refl, sym, ◌∙◌, ap, ap₂, subst, arith, Result, Ok, Err, inl, inr}
use Rattle.pm_logic.specs.declared.formula.Pred.{Pred}
use Rattle.pm_logic.specs.declared.formula.Preds.{Preds}
use Rattle.pm_dtext.specs.declared.line.Line.{Line}
use Rattle.pm_dtext.specs.declared.line.Line.TheVariants.{Step, Qed}
use Rattle.pm_dtext.specs.declared.fault.Fault.{Fault}
use Rattle.pm_dtext.specs.Spelling.{header_text, arities_text, line_text, pred_text}
use Rattle.pm_dtext.specs.Ranges.{AritiesFit}
use Rattle.pm_dtext.specs.Reading.{header_at, arities_at}
use Rattle.pm_dtext.specs.Texts.{arities_of}
use Rattle.pm_dtext.specs.Laws.{LinesAreRead, HeadersAreRead, AritiesAreRead, PredsAreRead}
use Rattle.pm_check.specs.declared.checked.Statement.{Statement}
use Rattle.pm_check.specs.declared.fault.CheckFault.{CheckFault}
use Rattle.pm_check.specs.declared.fault.CheckFault.TheVariants.{Refused, Unguarded}
use Rattle.pm_check.specs.declared.fault.Failed.TheVariants as failed
use Rattle.pm_check.specs.Table.{preds_text, table_text, BeginsTable}
use Rattle.pm_check.specs.Lines.{cited, statements_behind}
use Rattle.pm_check.specs.Derivation.{next_number, lines_text, Begins, IsDerivation}
use Rattle.pm_check.specs.Offence.{placed, line_named, FirstOffence, header, arities, predicate, unguarded, line, step, qed}
use Rattle.pm_check.specs.Kept.{step as refused_step, qed as refused_qed}
use Rattle.pm_check.proofs.Longer.{table_longer}
use Rattle.pm_check.proofs.OneEnd.{Verdict, Stops, ends, unread, stuck}
use Rattle.pm_check.specs.declared.checked.Checked.{Checked}
use Rattle.pm_check.specs.Answers.{Judges, HasItsAnswer}
use Rattle.pm_check.specs.Laws.{VerdictsAreOne}
use Rattle.pm_check.proofs.OneTable.{with_preds, Found, TableStops, no_pred, no_guard, behind, Laws, table_once}

-- what is found in a whole text
data Finds (bytes : List ℕ) : Found → Type 0 where
  no_header : (f : Fault) → header_at bytes ≡ Err f → Finds bytes (Err (placed bytes 0 f))
  no_arities : (rest : List ℕ) (f : Fault) → bytes ≡ header_text rest → arities_at rest ≡ Err f → Finds bytes (Err (placed bytes 0 f))
  in_table : (table : List ℕ) (qs : List Pred) (rest : List ℕ) (v : Found) → bytes ≡ table_text table qs rest → BeginsTable table qs → TableStops bytes table qs rest v → Finds bytes v

pub record ReadingLaws : Type 0 where
  pub headers : HeadersAreRead
  pub arities : AritiesAreRead
  pub preds : PredsAreRead
  pub lines : LinesAreRead

abbrev ReadHeader : Type 0
ReadHeader = Result (List ℕ) Fault

header_ok_is : (p q : List ℕ) → (let r : ReadHeader = Ok p in r) ≡ Ok q → p ≡ q
header_ok_is p q e = cc

header_err_is : (f g : Fault) → (let r : ReadHeader = Err f in r) ≡ Err g → f ≡ g
header_err_is f g e = cc

header_ok_or_err : (p : List ℕ) (f : Fault) → (let r : ReadHeader = Ok p in r) ≡ Err f → ⊥
header_ok_or_err p f e = cc

abbrev ReadArities : Type 0
ReadArities = Result (List ℕ × List ℕ) Fault

arities_ok_is : (p q : List ℕ × List ℕ) → (let r : ReadArities = Ok p in r) ≡ Ok q → p ≡ q
arities_ok_is p q e = cc

arities_err_is : (f g : Fault) → (let r : ReadArities = Err f in r) ≡ Err g → f ≡ g
arities_err_is f g e = cc

arities_ok_or_err : (p : List ℕ × List ℕ) (f : Fault) → (let r : ReadArities = Ok p in r) ≡ Err f → ⊥
arities_ok_or_err p f e = cc

reads_header : (bytes rest : List ℕ) → ReadingLaws → bytes ≡ header_text rest → header_at bytes ≡ Ok rest
reads_header bytes rest law e = ap header_at e ∙ law.headers.again rest

same_header : (bytes rest rest' : List ℕ) → ReadingLaws → bytes ≡ header_text rest → bytes ≡ header_text rest' → rest ≡ rest'
same_header bytes rest rest' law e e' = header_ok_is rest rest' (sym (reads_header bytes rest law e) ∙ reads_header bytes rest' law e')

laws_of : (table : List ℕ) → ReadingLaws → AritiesFit table → Laws table
laws_of table law fit = record {
  preds = law.preds;
  lines = record { again = λ n l rest small fits. let few = fit.0 in law.lines.again table n l rest (omega arith) small fits };
  fit = fit;
}

finds_once : (bytes : List ℕ) (v w : Found) → length bytes < 2 ^ 64 → ReadingLaws → Finds bytes v → Finds bytes w → v ≡ w
finds_once bytes _ _ small law (no_header f e) (no_header g e') = ap (λ x. Err (placed bytes 0 x)) (header_err_is f g (sym e ∙ e'))
finds_once bytes _ _ small law (no_header f e) (no_arities rest g is e') = absurd (header_ok_or_err rest f (sym (reads_header bytes rest law is) ∙ e))
finds_once bytes _ _ small law (no_header f e) (in_table table qs rest w is b s) = absurd (header_ok_or_err (arities_text table (preds_text qs rest)) f (sym (reads_header bytes (arities_text table (preds_text qs rest)) law is) ∙ e))
finds_once bytes _ _ small law (no_arities rest f is e) (no_header g e') = absurd (header_ok_or_err rest g (sym (reads_header bytes rest law is) ∙ e'))
finds_once bytes _ _ small law (no_arities rest f is e) (no_arities rest' g is' e') =
    let same = same_header bytes rest rest' law is is' in
    ap (λ x. Err (placed bytes 0 x)) (arities_err_is f g (sym e ∙ ap arities_at same ∙ e'))
finds_once bytes _ _ small law (no_arities rest f is e) (in_table table qs after w is' b s) =
    let same = same_header bytes rest (arities_text table (preds_text qs after)) law is is' in
    absurd (arities_ok_or_err (table, preds_text qs after) f (sym (law.arities.again table (preds_text qs after) b.fit) ∙ ap arities_at (sym same) ∙ e))
finds_once bytes _ _ small law (in_table table qs rest v is b s) (no_header f e) = absurd (header_ok_or_err (arities_text table (preds_text qs rest)) f (sym (reads_header bytes (arities_text table (preds_text qs rest)) law is) ∙ e))
finds_once bytes _ _ small law (in_table table qs after v is b s) (no_arities rest f is' e) =
    let same = same_header bytes rest (arities_text table (preds_text qs after)) law is' is in
    absurd (arities_ok_or_err (table, preds_text qs after) f (sym (law.arities.again table (preds_text qs after) b.fit) ∙ ap arities_at (sym same) ∙ e))
finds_once bytes _ _ small law (in_table table qs rest v is b s) (in_table table' rs rest' w is' c t) =
    let heads = same_header bytes (arities_text table (preds_text qs rest)) (arities_text table' (preds_text rs rest')) law is is' in
    let same = arities_ok_is (table, preds_text qs rest) (table', preds_text rs rest') (sym (law.arities.again table (preds_text qs rest) b.fit) ∙ ap arities_at heads ∙ law.arities.again table' (preds_text rs rest') c.fit) in
    let tables : table' ≡ table = ap (λ (p : List ℕ × List ℕ). p.0) (sym same) in
    let c' : BeginsTable table rs = subst (λ (ns : List ℕ). BeginsTable ns rs) tables c in
    let t' : TableStops bytes table rs rest' w = subst (λ (ns : List ℕ). TableStops bytes ns rs rest' w) tables t in
    let longer = table_longer table qs rest in
    let same_length = ap length is in
    table_once bytes table [] qs rs rest rest' v w (omega arith) (laws_of table law b.fit) (ap (λ (p : List ℕ × List ℕ). p.1) same) b.each c'.each b.guarded c'.guarded s t'

-- ---- derivations and offences

behind_table : (bytes : List ℕ) (preds : Preds) (ls : List Line) (rest : List ℕ) (v : Verdict) → Begins bytes preds ls rest → Stops bytes preds ls rest v → Finds bytes (with_preds preds v)
behind_table bytes preds ls rest v b s = in_table (arities_of preds.list) preds.list (lines_text 1 ls rest) (with_preds preds v) b.text b.table (behind ls rest v refl refl b.each s)

finds_derivation : (bytes : List ℕ) (preds : Preds) (statements : List Statement) → IsDerivation bytes preds statements → Finds bytes (Ok (preds, statements))
finds_derivation bytes preds statements d = subst (λ (ss : List Statement). Finds bytes (Ok (preds, ss))) (sym d.states) (behind_table bytes preds d.lines [] (Ok (statements_behind [] d.lines)) d.whole (ends refl))

finds_offence : (bytes : List ℕ) (f : CheckFault) → FirstOffence bytes f → Finds bytes (Err f)
finds_offence bytes _ (header f e) = no_header f e
finds_offence bytes _ (arities rest f t e) = no_arities rest f t e
finds_offence bytes _ (predicate table preds arity rest f t b h e) = in_table table preds rest (Err (placed bytes 0 f)) t b (no_pred arity f h e)
finds_offence bytes _ (unguarded table preds q rest t b fits bad) = in_table table preds (pred_text q rest) (Err (Unguarded (length preds))) t b (no_guard q rest refl fits bad)
finds_offence bytes _ (line preds ls rest f b some e) = behind_table bytes preds ls rest (Err (placed bytes (line_named ls rest) f)) b (unread f some e)
finds_offence bytes _ (step preds ls rule first second e rest unmet b fits bad) = behind_table bytes preds ls (line_text (next_number ls) (Step rule first second e) rest) (Err (Refused (next_number ls) (failed.Step unmet))) b (stuck (Step rule first second e) rest (Refused (next_number ls) (failed.Step unmet)) refl fits (refused_step rule first second e unmet bad))
finds_offence bytes _ (qed preds ls name cited rest condition b fits bad) = behind_table bytes preds ls (line_text (next_number ls) (Qed name cited) rest) (Err (Refused cited (failed.Qed condition))) b (stuck (Qed name cited) rest (Refused cited (failed.Qed condition)) refl fits (refused_qed name cited condition bad))

found_is : (p q : Preds × List Statement) → (let r : Found = Ok p in r) ≡ Ok q → p ≡ q
found_is p q e = cc

fault_is : (f g : CheckFault) → (let r : Found = Err f in r) ≡ Err g → f ≡ g
fault_is f g e = cc

found_or_fault : (p : Preds × List Statement) (f : CheckFault) → (let r : Found = Ok p in r) ≡ Err f → ⊥
found_or_fault p f e = cc

pub one_verdict : HeadersAreRead → AritiesAreRead → PredsAreRead → LinesAreRead → VerdictsAreOne
one_verdict headers aritiess preds lines =
    let law : ReadingLaws = record { headers = headers; arities = aritiess; preds = preds; lines = lines } in
    record {
      derivation = λ bytes p q s t small d e.
          let same = found_is (p, s) (q, t) (finds_once bytes (Ok (p, s)) (Ok (q, t)) small law (finds_derivation bytes p s d) (finds_derivation bytes q t e)) in
          (ap (λ (x : Preds × List Statement). x.0) same, ap (λ (x : Preds × List Statement). x.1) same);
      offence = λ bytes f g small a b. fault_is f g (finds_once bytes (Err f) (Err g) small law (finds_offence bytes f a) (finds_offence bytes g b));
      not_both = λ bytes p s f small d a. found_or_fault (p, s) f (finds_once bytes (Ok (p, s)) (Err f) small law (finds_derivation bytes p s d) (finds_offence bytes f a));
    }

-- ---- each cause has its answer

abbrev Answer : Type 0
Answer = Result Checked CheckFault

checked_is : (c d : Checked) → c.preds ≡ d.preds → c.statements ≡ d.statements → (let r : Answer = Ok c in r) ≡ Ok d
checked_is c d a b = ap₂ (λ p s. let r : Answer = Ok (record { preds = p; statements = s }) in r) a b

pub has_its_answer : (bytes : List ℕ) (r : Answer) → length bytes < 2 ^ 63 → VerdictsAreOne → Judges bytes r → HasItsAnswer bytes r
has_its_answer bytes (Ok c) short law j = record {
  derivation = λ d e. let same = law.derivation bytes c.preds d.preds c.statements d.statements (omega arith) j e in inr (checked_is c d same.0 same.1);
  offence = λ f a. absurd (law.not_both bytes c.preds c.statements f (omega arith) j a);
}
has_its_answer bytes (Err f) short law j = elim j [
  | inl memory ↦ record {
    derivation = λ d e. inl (ap (λ x. let r : Answer = Err x in r) memory);
    offence = λ g a. inl (ap (λ x. let r : Answer = Err x in r) memory);
  }
  | inr first ↦ record {
    derivation = λ d e. absurd (law.not_both bytes d.preds d.statements f (omega arith) e first);
    offence = λ g a. inr (ap (λ x. let r : Answer = Err x in r) (law.offence bytes f g (omega arith) first a));
  }
]
