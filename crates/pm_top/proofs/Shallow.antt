-- What a derivation contains is shallow enough to be printed.
use Rattle.std.proofs.Common.{◌≡◌, ℕ, zero, suc, ◌≤◌, List, [], ◌∷◌, ◌++◌, slice_get, option_map, option_to_list, sym, refl, ap, subst, arith}
use Rattle.std.proofs.lemmas.List.Elements.{All-nil, All-append}
use Rattle.std.specs.Prelude.{All, ⊤}
use Rattle.pm_logic.specs.declared.formula.Preds.{Preds}
use Rattle.pm_logic.specs.declared.formula.TheConstants.{BOUND}
use Rattle.pm_logic.specs.Size.{depth_of}
use Rattle.pm_rules.specs.declared.rules.Entail.{Entail}
use Rattle.pm_dtext.specs.declared.line.Line.{Line}
use Rattle.pm_dtext.specs.declared.line.Line.TheVariants.{Step, Qed}
use Rattle.pm_check.specs.declared.checked.Statement.{Statement}
use Rattle.pm_check.specs.Lines.{proof_line, statement, statements_behind}
use Rattle.pm_check.specs.Derivation.{IsNext, IsDerivation}
use Rattle.pm_top.specs.Printed.{IsShallowPredicate, IsShallowStatement, AreShallow}

-- ---- what holds of all items

pub all_cons : {X : Type 0} (P : X → Type 0) (x : X) (xs : List X) → P x → All P xs → All P (x ∷ xs)
all_cons P x xs p a zero d lt = p
all_cons P x xs p a (suc k) d lt = a k d (omega (arith, lt))

all_tail : {X : Type 0} (P : X → Type 0) (x : X) (xs : List X) → All P (x ∷ xs) → All P xs
all_tail P x xs a k d lt = a (suc k) d (omega (arith, lt))

-- what holds of each item, wherever it stands
all_each : {X : Type 0} (P : X → Type 0) (xs : List X) → ((before : List X) (x : X) (behind : List X) → xs ≡ before ++ x ∷ behind → P x) → All P xs
all_each P [] each = All-nil P
all_each P (x ∷ xs) each = all_cons P x xs (each [] x xs refl) (all_each P xs (λ before y behind e. each (x ∷ before) y behind (ap (λ l. x ∷ l) e)))

within : (n : ℕ) → n ≤ 1000 → n ≤ BOUND
within n le = omega (arith, le)

-- ---- proof lines and what they state

abbrev HasShallowRight : Entail → Type 0
HasShallowRight e = depth_of e.right ≤ BOUND

cited_shallow : (es : List Entail) → All HasShallowRight es → (name : List ℕ) (k : ℕ) → All IsShallowStatement (option_to_list (option_map (statement name) (slice_get es k)))
cited_shallow [] a name k = All-nil IsShallowStatement
cited_shallow (e ∷ es) a name zero = all_cons IsShallowStatement (statement name e) [] (a 0 e (omega arith)) (All-nil IsShallowStatement)
cited_shallow (e ∷ es) a name (suc k) = cited_shallow es (all_tail HasShallowRight e es a) name k

stated_shallow : (es : List Entail) → All HasShallowRight es → (name : List ℕ) (n : ℕ) → All IsShallowStatement (option_to_list (option_map (statement name) (proof_line es n)))
stated_shallow es a name zero = All-nil IsShallowStatement
stated_shallow es a name (suc k) = cited_shallow es a name k

abbrev IsShallowLine : Line → Type 0
IsShallowLine (Step rule first second e) = HasShallowRight e
IsShallowLine (Qed name n) = ⊤

line_shallow : (preds : Preds) (before : List Line) (l : Line) → IsNext preds before l → IsShallowLine l
line_shallow preds before (Step rule first second e) next = within (depth_of e.right) next.fits.right.levels
line_shallow preds before (Qed name n) next = tt

lines_shallow : (es : List Entail) → All HasShallowRight es → (ls : List Line) → All IsShallowLine ls → All IsShallowStatement (statements_behind es ls)
lines_shallow es a [] b = All-nil IsShallowStatement
lines_shallow es a (Step rule first second e ∷ ls) b =
    lines_shallow (es ++ e ∷ []) (All-append HasShallowRight es (e ∷ []) a (all_cons HasShallowRight e [] (b 0 (Step rule first second e) (omega arith)) (All-nil HasShallowRight))) ls (all_tail IsShallowLine (Step rule first second e) ls b)
lines_shallow es a (Qed name n ∷ ls) b =
    All-append IsShallowStatement (option_to_list (option_map (statement name) (proof_line es n))) (statements_behind es ls) (stated_shallow es a name n) (lines_shallow es a ls (all_tail IsShallowLine (Qed name n) ls b))

pub derived_shallow : (bytes : List ℕ) (preds : Preds) (statements : List Statement) → IsDerivation bytes preds statements → AreShallow preds statements
derived_shallow bytes preds statements d = record {
  bodies = all_each IsShallowPredicate preds.list (λ before q behind e. within (depth_of q.body) (d.whole.table.each before q behind e).body.levels);
  formulas = subst (All IsShallowStatement) (sym d.states) (lines_shallow [] (All-nil HasShallowRight) d.lines (all_each IsShallowLine d.lines (λ before l behind e. line_shallow preds before l (d.whole.each before l behind e))));
}
