-- A text is longer than what comes after it.
use Rattle.std.proofs.Common.{ℕ, suc, ◌+◌, ◌<◌, ◌≤◌, ℤ, List, [], ◌∷◌, ◌++◌, length, codes, arith, length-append, Option, Some, None}
use Rattle.std.specs.Fmt.{decimal, signed_decimal}
use Rattle.pm_logic.specs.declared.formula.Term.{Term}
use Rattle.pm_logic.specs.declared.formula.Term.TheVariants.{Lit, Var}
use Rattle.pm_logic.specs.declared.formula.Pure.{Pure}
use Rattle.pm_logic.specs.declared.formula.Pure.TheVariants as pure
use Rattle.pm_logic.specs.declared.formula.Formula.{Formula}
use Rattle.pm_logic.specs.declared.formula.Formula.TheVariants.{Pure as Fact, Pts, Call}
use Rattle.pm_logic.specs.declared.formula.Pred.{Pred}
use Rattle.pm_logic.specs.Trees.{add, sub, neg, scale, both, either, nope, Sep, Wand, And, Or, Imp, All, Ex, Later, Pers, Upd}
use Rattle.pm_rules.specs.declared.rules.Rule.{Rule}
use Rattle.pm_rules.specs.declared.rules.Rule.TheVariants.{Inst, AllE, ExI, Linear, Rewrite}
use Rattle.pm_rules.specs.declared.rules.Entail.{Entail}
use Rattle.pm_dtext.specs.declared.line.Line.{Line}
use Rattle.pm_dtext.specs.declared.line.Line.TheVariants.{Step, Qed}
use Rattle.pm_dtext.specs.Spelling.{term_text, pure_text, formula_text, items_text, list_text, literal_text, number_text, args_text, cite_text, entail_text, rule_name, line_text, arities_text, pred_text}
use Rattle.pm_check.specs.Table.{preds_text, table_text}

front : (w rest : List ℕ) → length rest ≤ length (w ++ rest)
front w rest = let e = length-append w rest in omega arith

before : (w x rest : List ℕ) → length rest ≤ length x → length rest ≤ length (w ++ x)
before w x rest le = let e = length-append w x in omega arith

blank : (n : ℕ) (x rest : List ℕ) → length rest ≤ length x → length rest ≤ length (n ∷ x)
blank n x rest le = omega arith

-- behind a word: two parts with a blank between them
two : (w : List ℕ) (x y rest : List ℕ) → suc (length y) ≤ length x → length rest ≤ length y → length rest ≤ length (w ++ x)
two w x y rest a b = let e = length-append w x in omega arith

term_longer : (t : Term) (rest : List ℕ) → length rest ≤ length (term_text t rest)
unfolding term_text
term_longer (Lit z) rest = front (signed_decimal z) rest
term_longer (Var i) rest = before (codes "v") (decimal i ++ rest) rest (front (decimal i) rest)
term_longer (add s t) rest = two (codes "add ") (term_text s (32 ∷ term_text t rest)) (term_text t rest) rest (term_longer s (32 ∷ term_text t rest)) (term_longer t rest)
term_longer (sub s t) rest = two (codes "sub ") (term_text s (32 ∷ term_text t rest)) (term_text t rest) rest (term_longer s (32 ∷ term_text t rest)) (term_longer t rest)
term_longer (neg t) rest = before (codes "neg ") (term_text t rest) rest (term_longer t rest)
term_longer (scale z t) rest = before (codes "mul ") (signed_decimal z ++ (32 ∷ term_text t rest)) rest (before (signed_decimal z) (32 ∷ term_text t rest) rest (blank 32 (term_text t rest) rest (term_longer t rest)))

pure_longer : (a : Pure) (rest : List ℕ) → length rest ≤ length (pure_text a rest)
unfolding pure_text
pure_longer pure.True rest = front (codes "T") rest
pure_longer pure.False rest = front (codes "F") rest
pure_longer (pure.Eq s t) rest = two (codes "eq ") (term_text s (32 ∷ term_text t rest)) (term_text t rest) rest (term_longer s (32 ∷ term_text t rest)) (term_longer t rest)
pure_longer (pure.Le s t) rest = two (codes "le ") (term_text s (32 ∷ term_text t rest)) (term_text t rest) rest (term_longer s (32 ∷ term_text t rest)) (term_longer t rest)
pure_longer (pure.Lt s t) rest = two (codes "lt ") (term_text s (32 ∷ term_text t rest)) (term_text t rest) rest (term_longer s (32 ∷ term_text t rest)) (term_longer t rest)
pure_longer (both a b) rest = two (codes "cj ") (pure_text a (32 ∷ pure_text b rest)) (pure_text b rest) rest (pure_longer a (32 ∷ pure_text b rest)) (pure_longer b rest)
pure_longer (either a b) rest = two (codes "dj ") (pure_text a (32 ∷ pure_text b rest)) (pure_text b rest) rest (pure_longer a (32 ∷ pure_text b rest)) (pure_longer b rest)
pure_longer (nope a) rest = before (codes "no ") (pure_text a rest) rest (pure_longer a rest)

items_longer : {A : Type 0} (text : A → List ℕ → List ℕ) (each : (x : A) (rest : List ℕ) → length rest ≤ length (text x rest)) (xs : List A) (rest : List ℕ) → length rest ≤ length (items_text text xs rest)
unfolding items_text
items_longer text each [] rest = omega arith
items_longer text each (x ∷ xs) rest = let a = each x (items_text text xs rest) in let b = items_longer text each xs rest in omega arith

formula_longer : (f : Formula) (rest : List ℕ) → length rest ≤ length (formula_text f rest)
unfolding formula_text
formula_longer (Fact a) rest = before (codes "pure ") (pure_text a rest) rest (pure_longer a rest)
formula_longer (Sep p q) rest = two (codes "sep ") (formula_text p (32 ∷ formula_text q rest)) (formula_text q rest) rest (formula_longer p (32 ∷ formula_text q rest)) (formula_longer q rest)
formula_longer (Wand p q) rest = two (codes "wand ") (formula_text p (32 ∷ formula_text q rest)) (formula_text q rest) rest (formula_longer p (32 ∷ formula_text q rest)) (formula_longer q rest)
formula_longer (And p q) rest = two (codes "and ") (formula_text p (32 ∷ formula_text q rest)) (formula_text q rest) rest (formula_longer p (32 ∷ formula_text q rest)) (formula_longer q rest)
formula_longer (Or p q) rest = two (codes "or ") (formula_text p (32 ∷ formula_text q rest)) (formula_text q rest) rest (formula_longer p (32 ∷ formula_text q rest)) (formula_longer q rest)
formula_longer (Imp p q) rest = two (codes "imp ") (formula_text p (32 ∷ formula_text q rest)) (formula_text q rest) rest (formula_longer p (32 ∷ formula_text q rest)) (formula_longer q rest)
formula_longer (All p) rest = before (codes "all ") (formula_text p rest) rest (formula_longer p rest)
formula_longer (Ex p) rest = before (codes "ex ") (formula_text p rest) rest (formula_longer p rest)
formula_longer (Later p) rest = before (codes "later ") (formula_text p rest) rest (formula_longer p rest)
formula_longer (Pers p) rest = before (codes "pers ") (formula_text p rest) rest (formula_longer p rest)
formula_longer (Upd p) rest = before (codes "upd ") (formula_text p rest) rest (formula_longer p rest)
formula_longer (Pts l u v) rest =
    let x = decimal u ++ (32 ∷ term_text v rest) in
    two (codes "pts ") (term_text l (32 ∷ x)) x rest (term_longer l (32 ∷ x)) (before (decimal u) (32 ∷ term_text v rest) rest (blank 32 (term_text v rest) rest (term_longer v rest)))
formula_longer (Call p ts) rest = before (codes "call ") (decimal p ++ items_text term_text ts rest) rest (before (decimal p) (items_text term_text ts rest) rest (items_longer term_text term_longer ts rest))

literal_longer : (z : ℤ) (rest : List ℕ) → length rest ≤ length (literal_text z rest)
literal_longer z rest = front (signed_decimal z) rest

number_longer : (n : ℕ) (rest : List ℕ) → length rest ≤ length (number_text n rest)
number_longer n rest = front (decimal n) rest

list_longer : {A : Type 0} (text : A → List ℕ → List ℕ) (each : (x : A) (rest : List ℕ) → length rest ≤ length (text x rest)) (xs : List A) (rest : List ℕ) → length rest ≤ length (list_text text xs rest)
list_longer text each xs rest = before (decimal (length xs)) (items_text text xs rest) rest (items_longer text each xs rest)

args_longer : (r : Rule) (rest : List ℕ) → length rest ≤ length (args_text r rest)
unfolding args_text
args_longer (Inst sigma) rest = blank 32 (list_text term_text sigma rest) rest (list_longer term_text term_longer sigma rest)
args_longer (AllE t) rest = blank 32 (term_text t rest) rest (term_longer t rest)
args_longer (ExI t) rest = blank 32 (term_text t rest) rest (term_longer t rest)
args_longer (Linear c d) rest =
    let x = list_text literal_text d rest in
    let a = list_longer literal_text literal_longer c (32 ∷ x) in
    let b = list_longer literal_text literal_longer d rest in
    omega arith
args_longer (Rewrite b) rest = blank 32 (formula_text b rest) rest (formula_longer b rest)
args_longer _ rest = omega arith

cite_longer : (o : Option ℕ) (rest : List ℕ) → length rest ≤ length (cite_text o rest)
cite_longer None rest = omega arith
cite_longer (Some n) rest = blank 32 (decimal n ++ rest) rest (front (decimal n) rest)

entail_longer : (e : Entail) (rest : List ℕ) → length rest ≤ length (entail_text e rest)
entail_longer e rest =
    let a = formula_longer e.left (32 ∷ formula_text e.right rest) in
    let b = formula_longer e.right rest in
    omega arith

-- a line has a byte and more
pub line_longer : (n : ℕ) (l : Line) (rest : List ℕ) → length rest < length (line_text n l rest)
line_longer n (Step rule first second e) rest =
    let end = entail_text e (10 ∷ rest) in
    let args = args_text rule end in
    let cites = cite_text first (cite_text second args) in
    let a = entail_longer e (10 ∷ rest) in
    let b = args_longer rule end in
    let c = cite_longer second args in
    let d = cite_longer first (cite_text second args) in
    let g = front (decimal e.vars) cites in
    let h = front (rule_name rule) (32 ∷ (decimal e.vars ++ cites)) in
    let i = front (decimal n) (32 ∷ (rule_name rule ++ (32 ∷ (decimal e.vars ++ cites)))) in
    omega arith
line_longer n (Qed name cited) rest =
    let a = front (decimal cited) (10 ∷ rest) in
    let b = front name (32 ∷ (decimal cited ++ (10 ∷ rest))) in
    let c = front (codes "qed ") (name ++ (32 ∷ (decimal cited ++ (10 ∷ rest)))) in
    omega arith

pub pred_longer : (q : Pred) (rest : List ℕ) → length rest ≤ length (pred_text q rest)
pred_longer q rest =
    let b = formula_longer q.body (10 ∷ rest) in
    let c = front q.name (32 ∷ formula_text q.body (10 ∷ rest)) in
    let d = front (codes "pred ") (q.name ++ (32 ∷ formula_text q.body (10 ∷ rest))) in
    omega arith

pub table_longer : (table : List ℕ) (qs : List Pred) (rest : List ℕ) → length (preds_text qs rest) + 1 ≤ length (table_text table qs rest)
table_longer table qs rest =
    let x = preds_text qs rest in
    let b = items_longer number_text number_longer table (10 ∷ x) in
    let c = front (codes "arities") (items_text number_text table (10 ∷ x)) in
    let d = front (codes "mosel-derivation 1") (10 ∷ arities_text table x) in
    omega arith
