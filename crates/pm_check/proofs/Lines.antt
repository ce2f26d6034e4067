-- Lines that were read from the front of a text, and what the text is found to be.
use Rattle.std.proofs.Common.{◌≡◌, ◌≢◌, ◌⊎◌, ℕ, suc, ◌+◌, ◌<◌, ◌≤◌, List, [], ◌∷◌, ◌++◌, length, codes, sym, ◌∙◌, ap, ap₂, subst, arith, Result, Ok, Err, append-nil, inl, inr}
use Rattle.std.specs.Prelude.{if◌then◌else◌}
use Rattle.std.specs.Str.{bytes_eq}
use Rattle.pm_logic.specs.declared.formula.Preds.{Preds}
use Rattle.pm_rules.specs.declared.rules.Entail.{Entail}
use Rattle.pm_dtext.specs.declared.line.Line.{Line}
use Rattle.pm_dtext.specs.declared.line.Line.TheVariants.{Step, Qed}
use Rattle.pm_dtext.specs.declared.fault.Fault.{Fault}
use Rattle.pm_dtext.specs.declared.fault.ReadFault.{ReadFault}
use Rattle.pm_dtext.specs.declared.fault.ReadFault.TheVariants as read
use Rattle.pm_dtext.specs.Spelling.{line_text}
use Rattle.pm_dtext.specs.Ranges.{LineFits}
use Rattle.pm_dtext.specs.Reading.{word, line_at}
use Rattle.pm_dtext.specs.Texts.{arities_of, Fails}
use Rattle.pm_dtext.specs.Laws.{LinesAreRead}
use Rattle.pm_check.specs.declared.checked.Checked.{Checked}
use Rattle.pm_check.specs.declared.kept.Kept.{Kept}
use Rattle.pm_check.specs.declared.fault.CheckFault.{CheckFault}
use Rattle.pm_check.specs.declared.fault.CheckFault.TheVariants.{Memory}
use Rattle.pm_check.specs.Table.{table_text}
use Rattle.pm_check.specs.Lines.{steps}
use Rattle.pm_check.specs.Derivation.{next_number, lines_text, derivation_text, Begins}
use Rattle.pm_check.specs.Offence.{placed, line_named, FirstOffence, line, step, qed}
use Rattle.pm_check.specs.Answers.{IsDerived}
use Rattle.pm_check.specs.Kept.{answered, HasTable, IsReady, Keeps, Refuses, TakesLine}
use Rattle.pm_check.specs.Kept.{step as refused_step, qed as refused_qed}
use Rattle.pm_dtext.proofs.Tables.{all_told}
use Rattle.pm_check.proofs.Tables.{fit_bodies}
use Rattle.pm_check.proofs.Longer.{line_longer}
use Rattle.pm_check.proofs.Keeping.{line_fit, ready_more, steps_more}

-- ---- the text of one line more

plus_zero : (n : ℕ) → n ≡ n + 0
plus_zero n = omega arith

suc_plus : (n k : ℕ) → suc n + k ≡ n + suc k
suc_plus n k = omega arith

one_plus : (k : ℕ) → 1 + k ≡ suc k
one_plus k = omega arith

text_more : (n : ℕ) (ls : List Line) (l : Line) (rest : List ℕ) → lines_text n (ls ++ l ∷ []) rest ≡ lines_text n ls (line_text (n + length (steps ls)) l rest)
text_more n [] (Step r f s e) rest = ap (λ k. line_text k (Step r f s e) rest) (plus_zero n)
text_more n [] (Qed m c) rest = ap (λ k. line_text k (Qed m c) rest) (plus_zero n)
text_more n (Step r f s e ∷ ls) l rest = ap (line_text n (Step r f s e)) (text_more (suc n) ls l rest ∙ ap (λ k. lines_text (suc n) ls (line_text k l rest)) (suc_plus n (length (steps ls))))
text_more n (Qed m c ∷ ls) l rest = ap (line_text n (Qed m c)) (text_more n ls l rest)

pub derivation_text_more : (preds : Preds) (ls : List Line) (l : Line) (rest : List ℕ) → derivation_text preds (ls ++ l ∷ []) rest ≡ derivation_text preds ls (line_text (next_number ls) l rest)
derivation_text_more preds ls l rest = ap (table_text (arities_of preds.list) preds.list) (text_more 1 ls l rest ∙ ap (λ k. lines_text 1 ls (line_text k l rest)) (one_plus (length (steps ls))))

-- ---- the loop

-- these lines stand at the front, and this is kept of them
pub record Progress (bytes : List ℕ) (preds : Preds) (kept : Kept) (rest : List ℕ) : Type 0 where
  pub lines : List Line
  pub begins : Begins bytes preds lines rest
  pub keeps : Keeps preds lines kept
  pub ready : IsReady preds (steps lines)

pub progress_begun : (bytes rest : List ℕ) (preds : Preds) (kept : Kept) → HasTable bytes preds rest → Keeps preds [] kept → Progress bytes preds kept rest
progress_begun bytes rest preds kept t k = record {
  lines = [];
  begins = record { text = t.text; table = t.table; each = k.each };
  keeps = k;
  ready = record { bodies = fit_bodies preds t.table; steps = tt };
}

pub progress_ready : (bytes rest : List ℕ) (preds : Preds) (kept : Kept) → Progress bytes preds kept rest → IsReady kept.preds kept.steps.items
progress_ready bytes rest preds kept p = subst (λ (ps : Preds). IsReady ps kept.steps.items) (sym p.keeps.preds_are) (subst (λ (es : List Entail). IsReady preds es) (sym p.keeps.steps_are) p.ready)

-- what was read at the front of the rest
abbrev Read : Kept → ℕ → List ℕ → Line → List ℕ → Type 0
Read kept n rest l after = line_at (arities_of kept.preds.list) (n + 1) rest ≡ Ok (l, after)

pub line_smaller : (kept : Kept) (n : ℕ) (rest : List ℕ) (l : Line) (after : List ℕ) → LinesAreRead → Read kept n rest l after → length after < length rest
line_smaller kept n rest l after law e =
    let longer = line_longer (n + 1) l after in
    let same = ap length (law.found (arities_of kept.preds.list) (n + 1) rest l after e).spelled in
    omega arith

pub table_small : (bytes rest : List ℕ) (preds : Preds) (kept : Kept) → Progress bytes preds kept rest → length kept.preds.list ≤ 1000000
table_small bytes rest preds kept p =
    let few = p.begins.table.fit.0 in
    let same = all_told preds.list in
    let kept_same = ap (λ (ps : Preds). length ps.list) p.keeps.preds_are in
    omega arith

pub line_fits : (kept : Kept) (n : ℕ) (rest : List ℕ) (l : Line) (after : List ℕ) → LinesAreRead → Read kept n rest l after → n ≡ length kept.steps.items → LineFits (arities_of kept.preds.list) (suc (length kept.steps.items)) l
line_fits kept n rest l after law e is = let next : n + 1 ≡ suc (length kept.steps.items) = omega arith in subst (λ (m : ℕ). LineFits (arities_of kept.preds.list) m l) next (law.found (arities_of kept.preds.list) (n + 1) rest l after e).fits

-- a line that was read behind lines
pub record ReadBehind (preds : Preds) (ls : List Line) (rest : List ℕ) (l : Line) (after : List ℕ) : Type 0 where
  pub fits : LineFits (arities_of preds.list) (next_number ls) l
  pub spelled : rest ≡ line_text (next_number ls) l after

read_behind : (bytes rest after : List ℕ) (preds : Preds) (kept : Kept) (n : ℕ) (l : Line) → LinesAreRead → (p : Progress bytes preds kept rest) → Read kept n rest l after → n ≡ length kept.steps.items → ReadBehind preds p.lines rest l after
read_behind bytes rest after preds kept n l law p e is =
    let found = law.found (arities_of kept.preds.list) (n + 1) rest l after e in
    let count : n ≡ length (steps p.lines) = is ∙ ap length p.keeps.steps_are in
    let next : n + 1 ≡ next_number p.lines = omega arith in
    record {
      fits = subst (λ (ps : Preds). LineFits (arities_of ps.list) (next_number p.lines) l) p.keeps.preds_are (subst (λ (m : ℕ). LineFits (arities_of kept.preds.list) m l) next found.fits);
      spelled = found.spelled ∙ ap (λ m. line_text m l after) next;
    }

ready_next : (preds : Preds) (es : List Entail) (n : ℕ) (l : Line) → IsReady preds es → LineFits (arities_of preds.list) n l → IsReady preds (es ++ steps (l ∷ []))
ready_next preds es n (Step r f s e) ready fits = ready_more preds es e ready (line_fit preds n r f s e fits)
ready_next preds es n (Qed m c) ready fits = subst (λ (xs : List Entail). IsReady preds xs) (sym (simp append-nil)) ready

pub progress_more : (bytes rest after : List ℕ) (preds : Preds) (kept new : Kept) (n : ℕ) (l : Line) (u : Unit {0}) → LinesAreRead → Progress bytes preds kept rest → Read kept n rest l after → n ≡ length kept.steps.items → (let r : Result (Unit {0}) CheckFault = Ok u in TakesLine kept l new r) → Progress bytes preds new after
progress_more bytes rest after preds kept new n l u law p e is t =
    let front = read_behind bytes rest after preds kept n l law p e is in
    let keeps = t.behind preds p.lines p.keeps front.fits in
    record {
      lines = p.lines ++ l ∷ [];
      begins = record {
        text = p.begins.text ∙ ap (derivation_text preds p.lines) front.spelled ∙ sym (derivation_text_more preds p.lines l after);
        table = p.begins.table;
        each = keeps.each;
      };
      keeps = keeps;
      ready = subst (λ (es : List Entail). IsReady preds es) (sym (steps_more p.lines l)) (ready_next preds (steps p.lines) (next_number p.lines) l p.ready front.fits);
    }

refused : (bytes after : List ℕ) (preds : Preds) (ls : List Line) (l : Line) (f : CheckFault) → Begins bytes preds ls (line_text (next_number ls) l after) → LineFits (arities_of preds.list) (next_number ls) l → Refuses preds ls l f → FirstOffence bytes f
refused bytes after preds ls _ _ b fits (refused_step rule first second e unmet fails) = step preds ls rule first second e after unmet b fits fails
refused bytes after preds ls _ _ b fits (refused_qed name cited condition fails) = qed preds ls name cited after condition b fits fails

with_rest : (bytes rest other : List ℕ) (preds : Preds) (ls : List Line) → Begins bytes preds ls rest → rest ≡ other → Begins bytes preds ls other
with_rest bytes rest other preds ls b e = subst (λ (x : List ℕ). Begins bytes preds ls x) e b

pub progress_refused : (bytes rest after : List ℕ) (preds : Preds) (kept new : Kept) (n : ℕ) (l : Line) (f : CheckFault) → LinesAreRead → Progress bytes preds kept rest → Read kept n rest l after → n ≡ length kept.steps.items → (let r : Result (Unit {0}) CheckFault = Err f in TakesLine kept l new r) → (f ≡ Memory) ⊎ FirstOffence bytes f
progress_refused bytes rest after preds kept new n l f law p e is t =
    let front = read_behind bytes rest after preds kept n l law p e is in
    elim (t.behind preds p.lines p.keeps front.fits) [
      | inl memory ↦ inl memory
      | inr bad ↦ inr (refused bytes after preds p.lines l f (with_rest bytes rest (line_text (next_number p.lines) l after) preds p.lines p.begins front.spelled) front.fits bad)
    ]

unread : (bytes rest : List ℕ) (preds : Preds) (kept : Kept) (n : ℕ) (f : Fault) → Progress bytes preds kept rest → rest ≢ [] → n ≡ length kept.steps.items → line_at (arities_of kept.preds.list) (n + 1) rest ≡ Err f → FirstOffence bytes (placed bytes (if bytes_eq (word rest) (codes "qed") then n else suc n) f)
unread bytes rest preds kept n f p some is e =
    let count : n ≡ length (steps p.lines) = is ∙ ap length p.keeps.steps_are in
    let next : n + 1 ≡ next_number p.lines = omega arith in
    let read : line_at (arities_of preds.list) (next_number p.lines) rest ≡ Err f = ap₂ (λ (ps : Preds) (m : ℕ). line_at (arities_of ps.list) m rest) (sym p.keeps.preds_are) (sym next) ∙ e in
    let number : (if bytes_eq (word rest) (codes "qed") then n else suc n) ≡ line_named p.lines rest = ap (λ (k : ℕ). if bytes_eq (word rest) (codes "qed") then k else suc k) count in
    subst (λ (h : CheckFault). FirstOffence bytes h) (sym (ap (λ m. placed bytes m f) number)) (line preds p.lines rest f p.begins some read)

pub progress_fault : (bytes rest : List ℕ) (preds : Preds) (kept : Kept) (n : ℕ) (e : ReadFault) (g : CheckFault) → Progress bytes preds kept rest → rest ≢ [] → n ≡ length kept.steps.items → Fails e (line_at (arities_of kept.preds.list) (n + 1) rest) → g ≡ answered bytes (if bytes_eq (word rest) (codes "qed") then n else suc n) e → (g ≡ Memory) ⊎ FirstOffence bytes g
progress_fault bytes rest preds kept n read.Memory g p some is e g_is = inl g_is
progress_fault bytes rest preds kept n (read.Fault f) g p some is e g_is = inr (subst (λ (h : CheckFault). FirstOffence bytes h) (sym g_is) (unread bytes rest preds kept n f p some is e))

pub progress_end : (bytes rest : List ℕ) (preds : Preds) (kept : Kept) (c : Checked) → Progress bytes preds kept rest → rest ≡ [] → c.preds ≡ kept.preds → c.statements ≡ kept.statements → IsDerived bytes c
progress_end bytes rest preds kept c p end ps sts =
    let whole : Begins bytes preds p.lines [] = with_rest bytes rest [] preds p.lines p.begins end in
    record {
      lines = p.lines;
      whole = subst (λ (x : Preds). Begins bytes x p.lines []) (sym (ps ∙ p.keeps.preds_are)) whole;
      states = sts ∙ p.keeps.statements_are;
    }
