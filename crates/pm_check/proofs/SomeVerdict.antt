-- No text is without a verdict: at each place reading fails, or a condition is unmet, or the next place is reached.
use Rattle.std.proofs.Common.{◌≡◌, ◌≢◌, ℕ, zero, suc, ◌+◌, ◌<◌, ◌≤◌, List, [], ◌∷◌, ◌++◌, length, refl, sym, ◌∙◌, ap, subst, arith, Option, Some, None, Result, Ok, Err, inl, inr}
use Rattle.std.specs.Prelude.{Bool, true, false, slice_index_or}
use Rattle.pm_logic.specs.declared.formula.Formula.TheVariants.{Pure as Fact}
use Rattle.pm_logic.specs.declared.formula.Pure.TheVariants.{True}
use Rattle.pm_logic.specs.declared.formula.Pred.{Pred}
use Rattle.pm_logic.specs.declared.formula.Preds.{Preds}
use Rattle.pm_rules.specs.declared.rules.Rule.{Rule}
use Rattle.pm_rules.specs.declared.rules.Entail.{Entail}
use Rattle.pm_rules.specs.declared.rules.Condition.{Condition}
use Rattle.pm_rules.specs.declared.rules.Condition.TheVariants as rule_condition
use Rattle.pm_rules.specs.Rules.{premises, rule_number, FirstUnmet}
use Rattle.pm_dtext.specs.declared.line.Line.{Line}
use Rattle.pm_dtext.specs.declared.line.Line.TheVariants.{Step, Qed}
use Rattle.pm_dtext.specs.declared.fault.Fault.{Fault}
use Rattle.pm_dtext.specs.Spelling.{line_text}
use Rattle.pm_dtext.specs.Ranges.{LineFits}
use Rattle.pm_dtext.specs.Reading.{header_at, arities_at, pred_at, line_at}
use Rattle.pm_dtext.specs.Texts.{arities_of, names_of}
use Rattle.pm_dtext.proofs.Stated.{headers, arities as aritiess, preds as predss, lines}
use Rattle.pm_check.specs.declared.fault.CheckFault.TheVariants.{Refused, Unguarded}
use Rattle.pm_check.specs.declared.fault.QedCondition.{QedCondition}
use Rattle.pm_check.specs.declared.fault.QedCondition.TheVariants.{Variables, LeftSide, Name}
use Rattle.pm_check.specs.declared.fault.Failed.TheVariants as failed
use Rattle.pm_check.specs.Table.{table_text}
use Rattle.pm_check.specs.Lines.{steps, names, proof_line, cited, is_used, statements_behind, StepFollows, QedFollows, LineFollows, FirstUnmetByQed}
use Rattle.pm_check.specs.Derivation.{next_number, Begins, IsNext}
use Rattle.pm_check.specs.Offence.{placed, line_named, header, arities, predicate, unguarded, line, step, qed}
use Rattle.pm_check.specs.Laws.{HasVerdict, NoneLacksVerdict}
use Rattle.pm_check.proofs.Growing.{each_none, each_more}
use Rattle.pm_check.proofs.Tables.{TableProgress, has_arity, named_arity, table_begun, table_grown, table_read, arities_text_is, arities_fit}
use Rattle.pm_check.proofs.Longer.{line_longer}
use Rattle.pm_check.proofs.Lines.{derivation_text_more}
use Rattle.pm_check.proofs.OneCondition.{ReadLine}

-- ---- a line that was read follows, or a condition is unmet

step_follows : (bytes after : List ℕ) (preds : Preds) (ls : List Line) (rule : Rule) (first second : Option ℕ) (e : Entail) → ¬ HasVerdict bytes → Begins bytes preds ls (line_text (next_number ls) (Step rule first second e) after) → LineFits (arities_of preds.list) (next_number ls) (Step rule first second e) → ¬ ¬ StepFollows preds (steps ls) rule first second e
step_follows bytes after preds ls rule first second e none b fits stuck =
    let refuse : (c : Condition) → FirstUnmet preds rule (premises (cited (steps ls) first) (cited (steps ls) second)) e c → ⊥ = λ c f.
    none (inr (Refused (next_number ls) (failed.Step (record { rule = rule_number rule; condition = c })), step preds ls rule first second e after (record { rule = rule_number rule; condition = c }) b fits (record { rule_is = refl; fails = f }))) in
    refuse rule_condition.Premises (λ p. refuse rule_condition.Variables (p, λ v. refuse rule_condition.Arguments (p, v, λ a. refuse rule_condition.Shape (p, v, a, λ s. refuse rule_condition.Bracket (p, v, a, s, λ k. stuck (record { premises = p; variables = v; arguments = a; shape = s; bracket = k }))))))

there_is : (es : List Entail) (n : ℕ) → 1 ≤ n → n ≤ length es → proof_line es n ≡ None → ⊥
there_is es zero some within e = omega arith
there_is [] (suc k) some within e = omega arith
there_is (x ∷ es) (suc zero) some within e = cc
there_is (x ∷ es) (suc (suc k)) some within e = there_is es (suc k) (omega arith) (omega arith) e

qed_follows : (bytes after : List ℕ) (preds : Preds) (ls : List Line) (name : List ℕ) (n : ℕ) (o : Option Entail) → ¬ HasVerdict bytes → Begins bytes preds ls (line_text (next_number ls) (Qed name n) after) → LineFits (arities_of preds.list) (next_number ls) (Qed name n) → proof_line (steps ls) n ≡ o → ¬ ¬ QedFollows (steps ls) (names ls) name n
qed_follows bytes after preds ls name n None none b fits e stuck =
    let some = fits.1.some in
    let before = fits.1.before in
    there_is (steps ls) n some (omega arith) e
qed_follows bytes after preds ls name n (Some cited) none b fits there stuck =
    let refuse : (c : QedCondition) → FirstUnmetByQed cited (names ls) name c → ⊥ = λ c f.
    none (inr (Refused n (failed.Qed c), qed preds ls name n after c b fits (record { line = cited; there = there; fails = f }))) in
    refuse Variables (λ closed. refuse LeftSide (closed, λ left. last closed left (λ used. refuse Name (closed, left, used)) (is_used (names ls) name) refl))
  where
    last : cited.vars ≡ 0 → cited.left ≡ Fact True → (is_used (names ls) name ≡ true → ⊥) → (u : Bool) → is_used (names ls) name ≡ u → ⊥
    last closed left taken true e = taken e
    last closed left taken false e = stuck (record { line = cited; there = there; closed = closed; left = left; new = e })

line_follows : (bytes after : List ℕ) (preds : Preds) (ls : List Line) (l : Line) → ¬ HasVerdict bytes → Begins bytes preds ls (line_text (next_number ls) l after) → LineFits (arities_of preds.list) (next_number ls) l → ¬ ¬ LineFollows preds (steps ls) (names ls) l
line_follows bytes after preds ls (Step rule first second e) none b fits = step_follows bytes after preds ls rule first second e none b fits
line_follows bytes after preds ls (Qed name n) none b fits = qed_follows bytes after preds ls name n (proof_line (steps ls) n) none b fits refl

-- ---- lines

begins_more : (bytes after : List ℕ) (preds : Preds) (ls : List Line) (l : Line) → Begins bytes preds ls (line_text (next_number ls) l after) → IsNext preds ls l → Begins bytes preds (ls ++ l ∷ []) after
begins_more bytes after preds ls l b next = record {
  text = b.text ∙ sym (derivation_text_more preds ls l after);
  table = b.table;
  each = each_more (IsNext preds) ls l b.each next;
}

-- the line at the front of the rest, where shorter rests have a verdict
line_verdict : (bytes rest : List ℕ) (preds : Preds) (ls : List Line) (r : ReadLine) → ¬ HasVerdict bytes → ((ks : List Line) (after : List ℕ) → length after < length rest → Begins bytes preds ks after → ⊥) → Begins bytes preds ls rest → rest ≢ [] → line_at (arities_of preds.list) (next_number ls) rest ≡ r → ⊥
line_verdict bytes rest preds ls (Err f) none again b some e = none (inr (placed bytes (line_named ls rest) f, line preds ls rest f b some e))
line_verdict bytes rest preds ls (Ok (l, after)) none again b some e =
    let found = lines.found (arities_of preds.list) (next_number ls) rest l after e in
    let b' : Begins bytes preds ls (line_text (next_number ls) l after) = subst (λ (x : List ℕ). Begins bytes preds ls x) found.spelled b in
    let longer = line_longer (next_number ls) l after in
    let same = ap length found.spelled in
    line_follows bytes after preds ls l none b' found.fits (λ follows. again (ls ++ l ∷ []) after (omega arith) (begins_more bytes after preds ls l b' (record { fits = found.fits; follows = follows })))

lines_verdict : (fuel : ℕ) (bytes rest : List ℕ) (preds : Preds) (ls : List Line) → ¬ HasVerdict bytes → length rest ≤ fuel → Begins bytes preds ls rest → ⊥
lines_verdict fuel bytes [] preds ls none few b = none (inl (preds, statements_behind [] ls, record { lines = ls; whole = b; states = refl }))
lines_verdict zero bytes (x ∷ rest) preds ls none few b = omega arith
lines_verdict (suc fuel) bytes (x ∷ rest) preds ls none few b = line_verdict bytes (x ∷ rest) preds ls (line_at (arities_of preds.list) (next_number ls) (x ∷ rest)) none (λ ks after shorter c. lines_verdict fuel bytes after preds ks none (omega arith) c) b (λ e. cc) refl

-- ---- predicates

abbrev ReadPred : Type 0
ReadPred = Result (Pred × List ℕ) Fault

-- the predicate at the front of the rest, where it comes to a verdict with one predicate more
pred_verdict : (bytes table rest : List ℕ) (i : ℕ) (qs : List Pred) (r : ReadPred) → ¬ HasVerdict bytes → ((q : Pred) (after : List ℕ) → TableProgress bytes table (i + 1) (qs ++ q ∷ []) after → ⊥) → TableProgress bytes table i qs rest → i < length table → pred_at table (names_of qs) (slice_index_or table i 0) rest ≡ r → ⊥
pred_verdict bytes table rest i qs (Err f) none again p lt e = none (inr (placed bytes 0 f, predicate table qs (slice_index_or table i 0) rest f p.text p.begins (has_arity table qs i (slice_index_or table i 0) p.count lt refl) e))
pred_verdict bytes table rest i qs (Ok (q, after)) none again p lt e =
    let named = named_arity table qs (slice_index_or table i 0) (has_arity table qs i (slice_index_or table i 0) p.count lt refl) in
    let found = predss.found table (names_of qs) (slice_index_or table i 0) rest q after named e in
    none (inr (
      Unguarded (length qs),
      unguarded table qs q after (p.text ∙ ap (table_text table qs) found.spelled) p.begins found.fits (λ below.
          again q after (table_grown bytes table rest i (slice_index_or table i 0) qs q after (qs ++ q ∷ []) predss p lt refl e (refl, below))),
    ))

table_verdict : (left : ℕ) (bytes table rest : List ℕ) (i : ℕ) (qs : List Pred) → ¬ HasVerdict bytes → i + left ≡ length table → TableProgress bytes table i qs rest → ⊥
table_verdict zero bytes table rest i qs none all p =
    let preds : Preds = record { list = qs } in
    let t = table_read bytes table rest i preds p (omega arith) in
    lines_verdict (length rest) bytes rest preds [] none (omega arith) (record { text = t.text; table = t.table; each = each_none (IsNext preds) })
table_verdict (suc left) bytes table rest i qs none all p = pred_verdict bytes table rest i qs (pred_at table (names_of qs) (slice_index_or table i 0) rest) none (λ q after p'. table_verdict left bytes table after (i + 1) (qs ++ q ∷ []) none (omega arith) p') p (omega arith) refl

-- ---- the lines before them

arities_verdict : (bytes rest : List ℕ) (r : Result (List ℕ × List ℕ) Fault) → ¬ HasVerdict bytes → header_at bytes ≡ Ok rest → arities_at rest ≡ r → ⊥
arities_verdict bytes rest (Err f) none h e = none (inr (placed bytes 0 f, arities rest f (headers.found bytes rest h) e))
arities_verdict bytes rest (Ok (table, after)) none h e = table_verdict (length table) bytes table after 0 [] none (omega arith) (table_begun bytes table after [] refl (arities_text_is bytes rest table after headers aritiess h e) (arities_fit rest table after aritiess e))

header_verdict : (bytes : List ℕ) (r : Result (List ℕ) Fault) → ¬ HasVerdict bytes → header_at bytes ≡ r → ⊥
header_verdict bytes (Err f) none e = none (inr (placed bytes 0 f, header f e))
header_verdict bytes (Ok rest) none e = arities_verdict bytes rest (arities_at rest) none e refl

pub none_lacks_verdict : NoneLacksVerdict
none_lacks_verdict bytes none = header_verdict bytes (header_at bytes) none refl
