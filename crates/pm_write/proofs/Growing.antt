-- Lines, and one line more at the end.
use Rattle.std.proofs.Common.{Option, Result, Ok, Err, ◌≡◌, ◌⊎◌, inl, inr, ℕ, zero, suc, ◌+◌, ◌<◌, ◌≤◌, List, [], ◌∷◌, ◌++◌, length, refl, sym, ◌∙◌, ap, subst, arith, append_assoc, append-nil, length-append, Some}
use Rattle.std.specs.Prelude.{slice_get, ◌^◌, OnOk}
use Rattle.std.specs.Option.{option_map, option_to_list}
use Rattle.std.specs.Fmt.{decimal}
use Rattle.pm_logic.specs.declared.formula.Formula.{Formula}
use Rattle.pm_logic.specs.declared.formula.Preds.{Preds}
use Rattle.pm_logic.specs.declared.list.Memory.{Memory}
use Rattle.pm_rules.specs.declared.rules.Rule.{Rule}
use Rattle.pm_rules.specs.declared.rules.Entail.{Entail}
use Rattle.pm_dtext.specs.declared.line.Line.{Line}
use Rattle.pm_dtext.specs.declared.line.Line.TheVariants.{Step, Qed}
use Rattle.pm_dtext.specs.Spelling.{formula_text, rule_name, args_text, cite_text, entail_text, line_text}
use Rattle.pm_check.specs.Fronts.{EachBehind}
use Rattle.pm_check.specs.Lines.{steps, names, proof_line, statement, statements_behind}
use Rattle.pm_check.specs.Derivation.{lines_text, IsNext}
use Rattle.pm_write.proofs.Spelled.{formula_before}
use Rattle.pm_write.proofs.Arguments.{args_before}
use Rattle.pm_write.proofs.Wording.{cite_onto}
use Rattle.pm_write.specs.declared.written.Written.{Written}
use Rattle.pm_write.specs.Writing.{Keeps, Holds, Adds, Closes, Grows, Reaches}

-- ---- what they contain

pub steps_grown : (ls : List Line) (l : Line) → steps (ls ++ l ∷ []) ≡ steps ls ++ steps (l ∷ [])
steps_grown [] l = refl
steps_grown (Step r f s e ∷ ls) l = ap (λ es. e ∷ es) (steps_grown ls l)
steps_grown (Qed n c ∷ ls) l = steps_grown ls l

pub names_grown : (ls : List Line) (l : Line) → names (ls ++ l ∷ []) ≡ names ls ++ names (l ∷ [])
names_grown [] l = refl
names_grown (Step r f s e ∷ ls) l = names_grown ls l
names_grown (Qed n c ∷ ls) l = ap (λ ns. n ∷ ns) (names_grown ls l)

states_behind : (es : List Entail) (ls : List Line) (l : Line) → statements_behind es (ls ++ l ∷ []) ≡ statements_behind es ls ++ statements_behind (es ++ steps ls) (l ∷ [])
states_behind es [] l = ap (λ xs. statements_behind xs (l ∷ [])) (sym (append-nil es))
states_behind es (Step r f s x ∷ ls) l = states_behind (es ++ x ∷ []) ls l ∙ ap (λ xs. statements_behind (es ++ x ∷ []) ls ++ statements_behind xs (l ∷ [])) (append_assoc es (x ∷ []) (steps ls))
states_behind es (Qed name n ∷ ls) l =
    ap (λ xs. option_to_list (option_map (statement name) (proof_line es n)) ++ xs) (states_behind es ls l)
    ∙ sym (append_assoc (option_to_list (option_map (statement name) (proof_line es n))) (statements_behind es ls) (statements_behind (es ++ steps ls) (l ∷ [])))

pub states_grown : (ls : List Line) (l : Line) → statements_behind [] (ls ++ l ∷ []) ≡ statements_behind [] ls ++ statements_behind (steps ls) (l ∷ [])
states_grown ls l = states_behind [] ls l

-- ---- proof lines by their numbers

get_end : (es : List Entail) (e : Entail) → slice_get (es ++ e ∷ []) (length es) ≡ Some e
get_end [] e = refl
get_end (x ∷ es) e = get_end es e

pub get_kept : {A : Type 0} (xs more : List A) (x : A) (k : ℕ) → slice_get xs k ≡ Some x → slice_get (xs ++ more) k ≡ Some x
get_kept [] more x k at = absurd cc
get_kept (y ∷ xs) more x zero at = at
get_kept (y ∷ xs) more x (suc k) at = get_kept xs more x k at

pub line_kept : (es more : List Entail) (x : Entail) (n : ℕ) → proof_line es n ≡ Some x → proof_line (es ++ more) n ≡ Some x
line_kept es more x zero at = absurd cc
line_kept es more x (suc k) at = get_kept es more x k at

get_within : (es : List Entail) (x : Entail) (k : ℕ) → slice_get es k ≡ Some x → k < length es
get_within [] x k at = absurd cc
get_within (y ∷ es) x zero at = omega arith
get_within (y ∷ es) x (suc k) at = let less = get_within es x k at in omega (arith, less)

-- the number of a proof line is at least 1, and at most as many as there are
pub line_within : (es : List Entail) (x : Entail) (n : ℕ) → proof_line es n ≡ Some x → (1 ≤ n) × (n ≤ length es)
line_within es x zero at = absurd cc
line_within es x (suc k) at = let less = get_within es x k at in (omega arith, omega (arith, less))

pub there_kept : (ls : List Line) (l : Line) (x : Entail) (n : ℕ) → proof_line (steps ls) n ≡ Some x → proof_line (steps (ls ++ l ∷ [])) n ≡ Some x
there_kept ls l x n at = ap (λ es. proof_line es n) (steps_grown ls l) ∙ line_kept (steps ls) (steps (l ∷ [])) x n at

pub there_new : (ls : List Line) (l : Line) (x : Entail) (n : ℕ) → steps (l ∷ []) ≡ x ∷ [] → n ≡ length (steps (ls ++ l ∷ [])) → proof_line (steps (ls ++ l ∷ [])) n ≡ Some x
there_new ls l x n one e =
    let grown : steps (ls ++ l ∷ []) ≡ steps ls ++ x ∷ [] = steps_grown ls l ∙ ap (λ es. steps ls ++ es) one in
    let count : n ≡ suc (length (steps ls)) = e ∙ ap length grown ∙ length-append (steps ls) (x ∷ []) ∙ omega arith in
    rw (count, grown) (get_end (steps ls) x)

-- ---- each line follows

record Last (ls before : List Line) (l x : Line) : Type 0 where
  front : before ≡ ls
  line : x ≡ l

record Earlier (ls before : List Line) (x : Line) : Type 0 where
  behind : List Line
  whole : ls ≡ before ++ x ∷ behind

first_same : {A : Type 0} (x y : A) (xs ys : List A) → x ∷ xs ≡ y ∷ ys → x ≡ y
first_same x y xs ys e = cc

rest_same : {A : Type 0} (x y : A) (xs ys : List A) → x ∷ xs ≡ y ∷ ys → xs ≡ ys
rest_same x y xs ys e = cc

none_is_some : (before behind : List Line) (x : Line) → [] ≡ before ++ x ∷ behind → ⊥
none_is_some [] behind x e = cc
none_is_some (b ∷ before) behind x e = cc

-- a place in the longer list: the new last line, or one of those before
placed : (ls before behind : List Line) (l x : Line) → ls ++ l ∷ [] ≡ before ++ x ∷ behind → Last ls before l x ⊎ Earlier ls before x
placed [] [] behind l x e = inl (record { front = refl; line = sym (first_same l x [] behind e) })
placed [] (b ∷ before) behind l x e = absurd (none_is_some before behind x (rest_same l b [] (before ++ x ∷ behind) e))
placed (y ∷ ls) [] behind l x e = inr (record { behind = ls; whole = ap (λ (z : Line). z ∷ ls) (first_same y x (ls ++ l ∷ []) behind e) })
placed (y ∷ ls) (b ∷ before) behind l x e =
    let same : y ≡ b = first_same y b (ls ++ l ∷ []) (before ++ x ∷ behind) e in
    elim (placed ls before behind l x (rest_same y b (ls ++ l ∷ []) (before ++ x ∷ behind) e)) [
      | inl h ↦ inl (record { front = ap (λ (z : Line). z ∷ before) (sym same) ∙ ap (λ zs. y ∷ zs) h.front; line = h.line })
      | inr h ↦ inr (record { behind = h.behind; whole = ap (λ zs. y ∷ zs) h.whole ∙ ap (λ (z : Line). z ∷ (before ++ x ∷ h.behind)) same })
    ]

pub each_none : (preds : Preds) → EachBehind (IsNext preds) []
each_none preds before l behind e = absurd (none_is_some before behind l e)

pub each_more : (preds : Preds) (ls : List Line) (l : Line) → EachBehind (IsNext preds) ls → IsNext preds ls l → EachBehind (IsNext preds) (ls ++ l ∷ [])
each_more preds ls l each next before x behind e =
    elim (placed ls before behind l x e) [
      | inl h ↦ subst (λ (z : Line). IsNext preds before z) (sym h.line) (subst (λ zs. IsNext preds zs l) (sym h.front) next)
      | inr h ↦ each before x h.behind h.whole
    ]

-- ---- their text

sides_before : (p q : Formula) (rest : List ℕ) → formula_text p (32 ∷ formula_text q (10 ∷ rest)) ≡ formula_text p (32 ∷ formula_text q (10 ∷ [])) ++ rest
sides_before p q rest =
    formula_before p (32 ∷ formula_text q (10 ∷ rest)) ∙ ap (λ t. formula_text p [] ++ (32 ∷ t)) (formula_before q (10 ∷ rest))
    ∙ regroup (formula_text p []) (formula_text q [])
    ∙ ap (λ t. t ++ rest) (sym (formula_before p (32 ∷ formula_text q (10 ∷ [])) ∙ ap (λ t. formula_text p [] ++ (32 ∷ t)) (formula_before q (10 ∷ []))))
  where
    regroup : (a b : List ℕ) → a ++ (32 ∷ (b ++ (10 ∷ rest))) ≡ (a ++ (32 ∷ (b ++ (10 ∷ [])))) ++ rest
    regroup a b = simp append_assoc

line_before : (n : ℕ) (l : Line) (rest : List ℕ) → line_text n l rest ≡ line_text n l [] ++ rest
line_before n (Qed name c) rest = simp append_assoc
line_before n (Step rule first second e) rest =
    let sides = entail_text e (10 ∷ []) in
    let args = args_text rule sides in
    let with_args : args_text rule (entail_text e (10 ∷ rest)) ≡ args ++ rest = ap (args_text rule) (ap (λ t. 32 ∷ t) (sides_before e.left e.right rest)) ∙ args_before rule sides rest in
    ap (λ t. decimal n ++ (32 ∷ (rule_name rule ++ (32 ∷ (decimal e.vars ++ t)))))
    (ap (λ t. cite_text first (cite_text second t)) with_args
    ∙ ap (cite_text first) (cite_onto second args rest)
    ∙ cite_onto first (cite_text second args) rest)
    ∙ regroup (decimal n) (rule_name rule) (decimal e.vars) (cite_text first (cite_text second args))
  where
    regroup : (a b c t : List ℕ) → a ++ (32 ∷ (b ++ (32 ∷ (c ++ (t ++ rest))))) ≡ (a ++ (32 ∷ (b ++ (32 ∷ (c ++ t))))) ++ rest
    regroup a b c t = simp append_assoc

text_alone : (n : ℕ) (l : Line) → lines_text n (l ∷ []) [] ≡ line_text n l []
text_alone n (Step r f s e) = refl
text_alone n (Qed name c) = refl

-- a line's own text, and then that of the others
text_behind : (n k m : ℕ) (ls : List Line) (y l : Line) → lines_text k (ls ++ l ∷ []) [] ≡ lines_text k ls [] ++ line_text m l [] → line_text n y (lines_text k (ls ++ l ∷ []) []) ≡ line_text n y (lines_text k ls []) ++ line_text m l []
text_behind n k m ls y l e =
    ap (line_text n y) e ∙ line_before n y (lines_text k ls [] ++ line_text m l [])
    ∙ sym (append_assoc (line_text n y []) (lines_text k ls []) (line_text m l []))
    ∙ ap (λ t. t ++ line_text m l []) (sym (line_before n y (lines_text k ls [])))

text_grown : (n m : ℕ) (ls : List Line) (l : Line) → m ≡ n + length (steps ls) → lines_text n (ls ++ l ∷ []) [] ≡ lines_text n ls [] ++ line_text m l []
text_grown n m [] l e = text_alone n l ∙ ap (λ k. line_text k l []) (omega (arith, e))
text_grown n m (Step r f s x ∷ ls) l e = text_behind n (suc n) m ls (Step r f s x) l (text_grown (suc n) m ls l (omega (arith, e)))
text_grown n m (Qed name c ∷ ls) l e = text_behind n n m ls (Qed name c) l (text_grown n m ls l e)

-- ---- what is kept of them

pub keeps_none : (w : Written) → w.text ≡ [] → w.count ≡ 0 → Keeps w []
keeps_none w text count = record { text_is = text; count_is = count }

keeps_step : (old new : Written) (ls : List Line) (r : Rule) (first second : Option ℕ) (e : Entail) → new.text ≡ old.text ++ line_text new.count (Step r first second e) [] → new.count ≡ old.count + 1 → Keeps old ls → Keeps new (ls ++ Step r first second e ∷ [])
keeps_step old new ls r first second e text count k =
    let l : Line = Step r first second e in
    record {
      text_is = text ∙ ap (λ t. t ++ line_text new.count l []) k.text_is ∙ sym (text_grown 1 new.count ls l (omega (arith, count, k.count_is)));
      count_is = count ∙ omega (arith, k.count_is, ap length (steps_grown ls l), length-append (steps ls) (steps (l ∷ [])));
    }

keeps_qed : (old new : Written) (ls : List Line) (name : List ℕ) (n m : ℕ) → new.text ≡ old.text ++ line_text m (Qed name n) [] → new.count ≡ old.count → Keeps old ls → Keeps new (ls ++ Qed name n ∷ [])
keeps_qed old new ls name n m text count k =
    let l : Line = Qed name n in
    record {
      text_is = text ∙ ap (λ t. t ++ line_text m l []) k.text_is ∙ sym (text_grown 1 (1 + length (steps ls)) ls l refl);
      count_is = count ∙ omega (arith, k.count_is, ap length (steps_grown ls l), length-append (steps ls) []);
    }

pub added : (old : Written) (text : List ℕ) (number : ℕ) (r : Rule) (first second : Option ℕ) (e : Entail) → number ≡ old.count + 1 → number < 2 ^ 64 → text ≡ old.text ++ line_text number (Step r first second e) [] → Adds old (record { text = text; count = number }) number (Step r first second e)
added old text number r first second e next small is = record {
  number_is = refl;
  small = small;
  behind = λ lines keeps. keeps_step old (record { text = text; count = number }) lines r first second e is next keeps;
}

closed : (old new : Written) (name piece : List ℕ) (n : ℕ) → piece ≡ name → new.text ≡ old.text ++ line_text n (Qed piece n) [] → new.count ≡ old.count → Closes old new name n
closed old new name piece n same text count = record {
  count_is = count;
  behind = λ lines keeps. keeps_qed old new lines name n n (text ∙ ap (λ x. old.text ++ line_text n (Qed x n) []) same) count keeps;
}

pub closed_if : (old : Written) (text name piece : List ℕ) (n : ℕ) (r : Result (Unit {0}) Memory) → piece ≡ name → OnOk r (text ≡ old.text ++ line_text n (Qed piece n) []) → OnOk r (Closes old (record { text = text; count = old.count }) name n)
closed_if old text name piece n (Ok u) same e = closed old (record { text = text; count = old.count }) name piece n same e refl
closed_if old text name piece n (Err x) same e = tt

-- ---- lines that follow

abbrev pub grows_none : (preds : Preds) (w : Written) (ls : List Line) → Holds preds w ls → Grows preds ls w
grows_none preds w ls h = record { lines = ls; holds = h; names_are = refl; states = refl; kept = λ n e at. at }

-- a proof line more, which follows
pub grows_step : (preds : Preds) (old new : Written) (n : ℕ) (ls : List Line) (r : Rule) (first second : Option ℕ) (e : Entail) → Adds old new n (Step r first second e) → Holds preds old ls → IsNext preds ls (Step r first second e) → Reaches preds ls new n e
grows_step preds old new n ls r first second e adds h next =
    let l : Line = Step r first second e in
    let k : Keeps new (ls ++ l ∷ []) = adds.behind ls h.keeps in
    let count : n ≡ length (steps (ls ++ l ∷ [])) = adds.number_is ∙ k.count_is in
    record {
      grows = record {
        lines = ls ++ l ∷ [];
        holds = record { keeps = k; few = omega (arith, count, adds.small); each = each_more preds ls l h.each next };
        names_are = names_grown ls l ∙ append-nil (names ls);
        states = states_grown ls l ∙ append-nil (statements_behind [] ls);
        kept = λ m x at. there_kept ls l x m at;
      };
      there = there_new ls l e n refl count;
    }

abbrev pub grows_then : (preds : Preds) (base : List Line) (w v : Written) (g : Grows preds base w) → Grows preds g.lines v → Grows preds base v
grows_then preds base w v g h = record {
  lines = h.lines;
  holds = h.holds;
  names_are = h.names_are ∙ g.names_are;
  states = h.states ∙ g.states;
  kept = λ n e at. h.kept n e (g.kept n e at);
}
