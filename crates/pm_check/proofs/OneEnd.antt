-- Lines at the front of a text have one verdict.
use Rattle.std.proofs.Common.{◌≡◌, ◌≢◌, ℕ, suc, ◌+◌, ◌<◌, ◌≤◌, ◌^◌, List, [], ◌∷◌, ◌++◌, length, refl, sym, ◌∙◌, ap, subst, arith, Result, Ok, Err, append-nil, length-append}
use Rattle.pm_logic.specs.declared.formula.Preds.{Preds}
use Rattle.pm_dtext.specs.declared.line.Line.{Line}
use Rattle.pm_dtext.specs.declared.line.Line.TheVariants.{Step, Qed}
use Rattle.pm_dtext.specs.declared.fault.Fault.{Fault}
use Rattle.pm_dtext.specs.Spelling.{line_text}
use Rattle.pm_dtext.specs.Ranges.{LineFits}
use Rattle.pm_dtext.specs.Reading.{line_at}
use Rattle.pm_dtext.specs.Texts.{arities_of}
use Rattle.pm_check.specs.declared.checked.Statement.{Statement}
use Rattle.pm_check.specs.declared.fault.CheckFault.{CheckFault}
use Rattle.pm_check.specs.Fronts.{EachBehind}
use Rattle.pm_check.specs.Lines.{steps, names, statements_behind, LineFollows}
use Rattle.pm_check.specs.Derivation.{next_number, lines_text, IsNext}
use Rattle.pm_check.specs.Offence.{placed, line_named}
use Rattle.pm_check.specs.Kept.{Refuses}
use Rattle.pm_check.proofs.Growing.{each_now, each_next}
use Rattle.std.proofs.lemmas.List.{append_assoc}
use Rattle.pm_check.proofs.Keeping.{steps_more}
use Rattle.pm_check.proofs.Longer.{line_longer}
use Rattle.pm_check.proofs.OneCondition.{ok_is, err_is, ok_or_err, refuses_once, refuses_not}

-- the laws of lines over the table of these arities
pub record LineLaws (table : List ℕ) : Type 0 where
  pub again : (n : ℕ) (l : Line) (rest : List ℕ) → n < 2 ^ 64 → LineFits table n l → line_at table n (line_text n l rest) ≡ Ok (l, rest)

-- ---- what stands behind lines that follow

pub data Stops (bytes : List ℕ) (preds : Preds) (ls : List Line) (rest : List ℕ) : Result (List Statement) CheckFault → Type 0 where
  ends : rest ≡ [] → Stops bytes preds ls rest (Ok (statements_behind [] ls))
  unread : (f : Fault) → rest ≢ [] → line_at (arities_of preds.list) (next_number ls) rest ≡ Err f → Stops bytes preds ls rest (Err (placed bytes (line_named ls rest) f))
  stuck : (l : Line) (after : List ℕ) (g : CheckFault) → rest ≡ line_text (next_number ls) l after → LineFits (arities_of preds.list) (next_number ls) l → Refuses preds ls l g → Stops bytes preds ls rest (Err g)

reads : (table : List ℕ) (n : ℕ) (l : Line) (rest after : List ℕ) → n < 2 ^ 64 → LineLaws table → rest ≡ line_text n l after → LineFits table n l → line_at table n rest ≡ Ok (l, after)
reads table n l rest after small law e fits = ap (line_at table n) e ∙ law.again n l after small fits

some_text : (n : ℕ) (l : Line) (rest after : List ℕ) → rest ≡ line_text n l after → rest ≡ [] → ⊥
some_text n l rest after e none =
    let longer = line_longer n l after in
    let same = ap length (sym e ∙ none) in
    omega arith

same_line : (table : List ℕ) (n : ℕ) (l k : Line) (rest a b : List ℕ) → n < 2 ^ 64 → LineLaws table → rest ≡ line_text n l a → LineFits table n l → rest ≡ line_text n k b → LineFits table n k → (l ≡ k) × (a ≡ b)
same_line table n l k rest a b small law e fits e' fits' =
    let same = ok_is (l, a) (k, b) (sym (reads table n l rest a small law e fits) ∙ reads table n k rest b small law e' fits') in
    (ap (λ (p : Line × List ℕ). p.0) same, ap (λ (p : Line × List ℕ). p.1) same)

pub stops_once : (bytes : List ℕ) (preds : Preds) (ls : List Line) (rest : List ℕ) (v w : Result (List Statement) CheckFault) → next_number ls < 2 ^ 64 → LineLaws (arities_of preds.list) → Stops bytes preds ls rest v → Stops bytes preds ls rest w → v ≡ w
stops_once bytes preds ls rest _ _ small law (ends e) (ends e') = refl
stops_once bytes preds ls rest _ _ small law (ends e) (unread f some e') = absurd (some e)
stops_once bytes preds ls rest _ _ small law (ends e) (stuck l after g is fits bad) = absurd (some_text (next_number ls) l rest after is e)
stops_once bytes preds ls rest _ _ small law (unread f some e) (ends e') = absurd (some e')
stops_once bytes preds ls rest _ _ small law (unread f some e) (unread g some' e') = ap (λ x. Err (placed bytes (line_named ls rest) x)) (err_is f g (sym e ∙ e'))
stops_once bytes preds ls rest _ _ small law (unread f some e) (stuck l after g is fits bad) = absurd (ok_or_err (l, after) f (sym (reads (arities_of preds.list) (next_number ls) l rest after small law is fits) ∙ e))
stops_once bytes preds ls rest _ _ small law (stuck l after g is fits bad) (ends e') = absurd (some_text (next_number ls) l rest after is e')
stops_once bytes preds ls rest _ _ small law (stuck l after g is fits bad) (unread f some e) = absurd (ok_or_err (l, after) f (sym (reads (arities_of preds.list) (next_number ls) l rest after small law is fits) ∙ e))
stops_once bytes preds ls rest _ _ small law (stuck l after g is fits bad) (stuck k after' h is' fits' bad') =
    let same = same_line (arities_of preds.list) (next_number ls) l k rest after after' small law is fits is' fits' in
    ap (λ x. Err x) (refuses_once preds ls l g h bad (subst (λ (x : Line). Refuses preds ls x h) (sym same.0) bad'))

-- nothing stops before a line that follows
goes_on : (bytes : List ℕ) (preds : Preds) (ls : List Line) (l : Line) (rest after : List ℕ) (v : Result (List Statement) CheckFault) → next_number ls < 2 ^ 64 → LineLaws (arities_of preds.list) → rest ≡ line_text (next_number ls) l after → IsNext preds ls l → Stops bytes preds ls rest v → ⊥
goes_on bytes preds ls l rest after _ small law is next (ends e) = some_text (next_number ls) l rest after is e
goes_on bytes preds ls l rest after _ small law is next (unread f some e) = ok_or_err (l, after) f (sym (reads (arities_of preds.list) (next_number ls) l rest after small law is next.fits) ∙ e)
goes_on bytes preds ls l rest after _ small law is next (stuck k after' g is' fits bad) =
    let same = same_line (arities_of preds.list) (next_number ls) l k rest after after' small law is next.fits is' fits in
    refuses_not preds ls k g bad (subst (λ (x : Line). LineFollows preds (steps ls) (names ls) x) same.0 next.follows)

-- ---- two lists of lines

next_more : (front : List Line) (l : Line) → next_number (front ++ l ∷ []) ≡ next_number front + length (steps (l ∷ []))
next_more front l = let e = ap length (steps_more front l) ∙ length-append (steps front) (steps (l ∷ [])) in omega arith

steps_few : (l : Line) → length (steps (l ∷ [])) ≤ 1
steps_few (Step r f s e) = omega arith
steps_few (Qed m c) = omega arith

lines_cons : (front : List Line) (l : Line) (ls : List Line) (rest : List ℕ) → lines_text (next_number front) (l ∷ ls) rest ≡ line_text (next_number front) l (lines_text (next_number (front ++ l ∷ [])) ls rest)
lines_cons front (Step r f s e) ls rest =
    let next : suc (next_number front) ≡ next_number (front ++ Step r f s e ∷ []) = let more = next_more front (Step r f s e) in omega arith in
    ap (λ n. line_text (next_number front) (Step r f s e) (lines_text n ls rest)) next
lines_cons front (Qed m c) ls rest =
    let next : next_number front ≡ next_number (front ++ Qed m c ∷ []) = let more = next_more front (Qed m c) in omega arith in
    ap (λ n. line_text (next_number front) (Qed m c) (lines_text n ls rest)) next

abbrev pub Verdict : Type 0
Verdict = Result (List Statement) CheckFault

none_more : (bytes : List ℕ) (preds : Preds) (front : List Line) (rest : List ℕ) (v : Verdict) → Stops bytes preds (front ++ []) rest v → Stops bytes preds front rest v
none_more bytes preds front rest v s = subst (λ (xs : List Line). Stops bytes preds xs rest v) (simp append-nil) s

one_more : (bytes : List ℕ) (preds : Preds) (front : List Line) (l : Line) (ls : List Line) (rest : List ℕ) (v : Verdict) → Stops bytes preds (front ++ l ∷ ls) rest v → Stops bytes preds ((front ++ l ∷ []) ++ ls) rest v
one_more bytes preds front l ls rest v s = subst (λ (xs : List Line). Stops bytes preds xs rest v) (sym (append_assoc front (l ∷ []) ls)) s

pub lines_once : (bytes : List ℕ) (preds : Preds) (front ls ks : List Line) (rest rest' : List ℕ) (v w : Verdict) → next_number front + length (lines_text (next_number front) ls rest) < 2 ^ 64 → LineLaws (arities_of preds.list) → lines_text (next_number front) ls rest ≡ lines_text (next_number front) ks rest' → EachBehind (IsNext preds) (front ++ ls) → EachBehind (IsNext preds) (front ++ ks) → Stops bytes preds (front ++ ls) rest v → Stops bytes preds (front ++ ks) rest' w → v ≡ w
lines_once bytes preds front [] [] rest rest' v w small law e a b s t = stops_once bytes preds front rest v w (omega arith) law (none_more bytes preds front rest v s) (subst (λ (x : List ℕ). Stops bytes preds front x w) (sym e) (none_more bytes preds front rest' w t))
lines_once bytes preds front [] (k ∷ ks) rest rest' v w small law e a b s t = absurd (goes_on bytes preds front k rest (lines_text (next_number (front ++ k ∷ [])) ks rest') v (omega arith) law (e ∙ lines_cons front k ks rest') (each_now (IsNext preds) front k ks b) (none_more bytes preds front rest v s))
lines_once bytes preds front (l ∷ ls) [] rest rest' v w small law e a b s t = absurd (goes_on bytes preds front l rest' (lines_text (next_number (front ++ l ∷ [])) ls rest) w (omega arith) law (sym e ∙ lines_cons front l ls rest) (each_now (IsNext preds) front l ls a) (none_more bytes preds front rest' w t))
lines_once bytes preds front (l ∷ ls) (k ∷ ks) rest rest' v w small law e a b s t =
    let x = lines_text (next_number front) (l ∷ ls) rest in
    let same = same_line (arities_of preds.list) (next_number front) l k x (lines_text (next_number (front ++ l ∷ [])) ls rest) (lines_text (next_number (front ++ k ∷ [])) ks rest') (omega arith) law (lines_cons front l ls rest) (each_now (IsNext preds) front l ls a).fits (e ∙ lines_cons front k ks rest') (each_now (IsNext preds) front k ks b).fits in
    let b' : EachBehind (IsNext preds) (front ++ l ∷ ks) = subst (λ (m : Line). EachBehind (IsNext preds) (front ++ m ∷ ks)) (sym same.0) b in
    let t' : Stops bytes preds (front ++ l ∷ ks) rest' w = subst (λ (m : Line). Stops bytes preds (front ++ m ∷ ks) rest' w) (sym same.0) t in
    let e' : lines_text (next_number (front ++ l ∷ [])) ls rest ≡ lines_text (next_number (front ++ l ∷ [])) ks rest' = same.1 ∙ ap (λ (m : Line). lines_text (next_number (front ++ m ∷ [])) ks rest') (sym same.0) in
    let next = next_more front l in
    let few = steps_few l in
    let longer = line_longer (next_number front) l (lines_text (next_number (front ++ l ∷ [])) ls rest) in
    let same_length = ap length (lines_cons front l ls rest) in
    lines_once bytes preds (front ++ l ∷ []) ls ks rest rest' v w (omega arith) law e' (each_next (IsNext preds) front l ls a) (each_next (IsNext preds) front l ks b') (one_more bytes preds front l ls rest v s) (one_more bytes preds front l ks rest' w t')
