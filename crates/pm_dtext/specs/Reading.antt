-- Reading from left to right, up to the first fault, which names how many bytes are left at its place.
use Rattle.std.specs.Prelude.{◌≡◌, ◌≢◌, slice_index, ℕ, zero, suc, ◌-◌, ◌^◌, Bool, true, false, ◌&&◌, not, ◌==◌, nat_lt, nat_le, List, [], ◌∷◌, length, take, drop, slice_get, codes, Option, Some, None, Result, Ok, Err, if◌then◌else◌, ℤ, pos, negsuc}
use Rattle.std.specs.Fmt.{decimal}
use Rattle.std.specs.List.{prefix_len, list_any}
use Rattle.std.specs.Option.{option_map}
use Rattle.std.specs.Str.{bytes_eq}
use Rattle.std.specs.Str.Parse.{digits_value}
use Rattle.pm_logic.specs.declared.limits.TheConstants.{MAX_LINE_LEVELS, MAX_LINE_TERMS, MAX_LINE_VARIABLES, MAX_PREDICATES, MAX_VARIABLES}
use Rattle.pm_logic.specs.declared.formula.Term.{Term}
use Rattle.pm_logic.specs.declared.formula.Term.TheVariants.{Lit, Var}
use Rattle.pm_logic.specs.declared.formula.Term.TheViews as term
use Rattle.pm_logic.specs.declared.formula.Pure.{Pure}
use Rattle.pm_logic.specs.declared.formula.Pure.TheViews as pure
use Rattle.pm_logic.specs.declared.formula.Pure.TheVariants.{True, False, Eq, Le, Lt}
use Rattle.pm_logic.specs.declared.formula.Formula.{Formula}
use Rattle.pm_logic.specs.declared.formula.Formula.TheVariants.{Pure as Fact, Pts, Call}
use Rattle.pm_logic.specs.declared.formula.Pred.{Pred}
use Rattle.pm_logic.specs.declared.formula.TheConstants.{UNIT}
use Rattle.pm_rules.specs.declared.pattern.Unary.{Unary}
use Rattle.pm_rules.specs.declared.pattern.Unary.TheVariants as unary
use Rattle.pm_rules.specs.declared.pattern.Binary.TheVariants as binary
use Rattle.pm_rules.specs.declared.rules.Rule.{Rule}
use Rattle.pm_rules.specs.declared.rules.Rule.TheVariants as rule
use Rattle.pm_rules.specs.declared.rules.Entail.{Entail}
use Rattle.pm_rules.specs.Rules.{premise_count}
use Rattle.pm_rules.specs.Shapes.{one, two}
use Rattle.pm_names.specs.Names.{is_name}
use Rattle.pm_dtext.specs.declared.fault.Fault.{Fault}
use Rattle.pm_dtext.specs.declared.fault.Fault.TheVariants.{Syntax, NoLine, Deep}
use Rattle.pm_dtext.specs.declared.signs.TermSign.{TermSign}
use Rattle.pm_dtext.specs.declared.signs.TermSign.TheVariants as term_sign
use Rattle.pm_dtext.specs.declared.signs.PureSign.{PureSign}
use Rattle.pm_dtext.specs.declared.signs.PureSign.TheVariants as pure_sign
use Rattle.pm_dtext.specs.declared.signs.FormulaSign.{FormulaSign}
use Rattle.pm_dtext.specs.declared.signs.FormulaSign.TheVariants as formula_sign
use Rattle.pm_dtext.specs.declared.signs.RuleSign.{RuleSign}
use Rattle.pm_dtext.specs.declared.signs.RuleSign.TheVariants as rule_sign
use Rattle.pm_dtext.specs.declared.line.Line.{Line}
use Rattle.pm_dtext.specs.declared.line.Line.TheVariants.{Step, Qed}

infixl 10 ◌>>=◌
abbrev pub ◌>>=◌ : {A B : Type 0} → Result A Fault → (A → Result B Fault) → Result B Fault
(Ok x) >>= f = f x
(Err e) >>= f = Err e

-- ---- words and separators

abbrev pub is_word_byte : ℕ → Bool
is_word_byte b = not (b == 32) && not (b == 10)

-- the word at the front, and what comes after it
abbrev pub word : List ℕ → List ℕ
word bytes = take (prefix_len is_word_byte bytes) bytes

abbrev pub after : List ℕ → List ℕ
after bytes = drop (prefix_len is_word_byte bytes) bytes

-- what follows a word that has to be this one
unfoldable pub expect_at : List ℕ → List ℕ → Result (List ℕ) Fault
expect_at w bytes = if bytes_eq (word bytes) w then Ok (after bytes) else Err (Syntax (length bytes))

-- what follows a separator
unfoldable pub skip_at : ℕ → List ℕ → Result (List ℕ) Fault
skip_at s [] = Err (Syntax 0)
skip_at s (b ∷ bytes) = if b == s then Ok bytes else Err (Syntax (suc (length bytes)))

-- what a word says, and what follows it
abbrev pub or_syntax : {A : Type 0} → Option A → List ℕ → Result (A × List ℕ) Fault
or_syntax None bytes = Err (Syntax (length bytes))
or_syntax (Some x) bytes = Ok (x, after bytes)

unfoldable pub says_at : {A : Type 0} → (List ℕ → Option A) → List ℕ → Result (A × List ℕ) Fault
says_at says bytes = or_syntax (says (word bytes)) bytes

-- what stands beside the word in the table
abbrev pub named : {A : Type 0} → List (List ℕ × A) → List ℕ → Option A
named [] w = None
named (e ∷ table) w = if bytes_eq w e.0 then Some e.1 else named table w

-- ---- numbers

-- no plus in front, and no zero before other digits
abbrev pub HasPlainFront : List ℕ → Type 0
HasPlainFront w = (slice_index w 0 ≢ 43) × (slice_index w 0 ≡ 48 → length w ≡ 1)

-- the number below 2 ^ 64 that a word is the decimal form of
unfoldable pub number_of : List ℕ → Option ℕ
number_of w =
    let n = digits_value 10 w in
    if nat_lt n (2 ^ 64) && bytes_eq w (decimal n) then Some n else None

-- the number, where it passes the test
abbrev pub where_it : (ℕ → Bool) → Option ℕ → Option ℕ
where_it test None = None
where_it test (Some n) = if test n then Some n else None

unfoldable pub up_to : ℕ → List ℕ → Option ℕ
up_to most w = where_it (λ n. nat_le n most) (number_of w)

unfoldable pub units_of : List ℕ → Option ℕ
units_of w = where_it (λ u. nat_le 1 u && nat_le u UNIT) (number_of w)

-- the index of a variable, of which there are k
unfoldable pub index_of : ℕ → List ℕ → Option ℕ
index_of k w = where_it (λ i. nat_lt i k) (number_of w)

abbrev pub positive : Option ℕ → Option ℤ
positive None = None
positive (Some n) = if nat_lt n (2 ^ 63) then Some (pos n) else None

abbrev pub negative : Option ℕ → Option ℤ
negative None = None
negative (Some n) = if nat_le 1 n && nat_le n (2 ^ 63) then Some (negsuc (n - 1)) else None

-- the i64 that a word is the decimal form of
unfoldable pub literal_of : List ℕ → Option ℤ
literal_of [] = None
literal_of (b ∷ w) = if b == 45 then negative (number_of w) else positive (number_of (b ∷ w))

-- ---- parts behind a word, each behind a blank

unfoldable pub part_at : {A : Type 0} → (List ℕ → Result (A × List ℕ) Fault) → List ℕ → Result (A × List ℕ) Fault
part_at inner bytes = skip_at 32 bytes >>= inner

unfoldable pub part_as : {A B : Type 0} → (A → B) → (List ℕ → Result (A × List ℕ) Fault) → List ℕ → Result (B × List ℕ) Fault
part_as make inner bytes = do
  a ← part_at inner bytes
  Ok (make a.0, a.1)

unfoldable pub pair_at : {A : Type 0} → (List ℕ → Result (A × List ℕ) Fault) → List ℕ → Result (A × A × List ℕ) Fault
pair_at inner bytes = do
  a ← part_at inner bytes
  b ← part_at inner a.1
  Ok (a.0, b.0, b.1)

unfoldable pub parts_at : {A B : Type 0} → (A → A → B) → (List ℕ → Result (A × List ℕ) Fault) → List ℕ → Result (B × List ℕ) Fault
parts_at make inner bytes = do
  pair ← pair_at inner bytes
  Ok (make pair.0 pair.1, pair.2)

-- so many of them
unfoldable pub items_at : {A : Type 0} → (List ℕ → Result (A × List ℕ) Fault) → ℕ → List ℕ → Result (List A × List ℕ) Fault
items_at inner zero bytes = Ok ([], bytes)
items_at inner (suc n) bytes = do
  x ← part_at inner bytes
  xs ← items_at inner n x.1
  Ok (x.0 ∷ xs.0, xs.1)

-- the same behind their number
unfoldable pub list_at : {A : Type 0} → ℕ → (List ℕ → Result (A × List ℕ) Fault) → List ℕ → Result (List A × List ℕ) Fault
list_at most inner bytes = do
  n ← says_at (up_to most) bytes
  items_at inner n.0 n.1

-- ---- terms with k variables, where levels is how many levels they may have

abbrev pub term_signs : List (List ℕ × TermSign)
term_signs =
    (codes "add", term_sign.Add)
    ∷ (codes "sub", term_sign.Sub)
    ∷ (codes "neg", term_sign.Neg)
    ∷ (codes "mul", term_sign.Scale)
    ∷ []

unfoldable pub leaf_of : ℕ → List ℕ → Option TermSign
leaf_of k [] = None
leaf_of k (b ∷ w) = if b == 118 then option_map term_sign.Var (index_of k w) else option_map term_sign.Lit (literal_of (b ∷ w))

abbrev pub or_leaf : ℕ → List ℕ → Option TermSign → Option TermSign
or_leaf k w (Some s) = Some s
or_leaf k w None = leaf_of k w

unfoldable pub term_sign_of : ℕ → List ℕ → Option TermSign
term_sign_of k w = or_leaf k w (named term_signs w)

-- behind the sign, where inner reads the terms under it
unfoldable pub term_under : TermSign → (List ℕ → Result (Term × List ℕ) Fault) → List ℕ → Result (Term × List ℕ) Fault
term_under (term_sign.Lit z) inner bytes = Ok (Lit z, bytes)
term_under (term_sign.Var i) inner bytes = Ok (Var i, bytes)
term_under term_sign.Add inner bytes = parts_at term.Add inner bytes
term_under term_sign.Sub inner bytes = parts_at term.Sub inner bytes
term_under term_sign.Neg inner bytes = part_as term.Neg inner bytes
term_under term_sign.Scale inner bytes = do
  z ← part_at (says_at literal_of) bytes
  t ← part_at inner z.1
  Ok (term.Scale z.0 t.0, t.1)

unfoldable pub term_at : ℕ → ℕ → List ℕ → Result (Term × List ℕ) Fault
term_at zero k bytes = do
  sign ← says_at (term_sign_of k) bytes
  Err (Deep (length bytes))
term_at (suc levels) k bytes = do
  sign ← says_at (term_sign_of k) bytes
  term_under sign.0 (term_at levels k) sign.1

-- ---- pure formulas

abbrev pub pure_signs : List (List ℕ × PureSign)
pure_signs =
    (codes "T", pure_sign.True)
    ∷ (codes "F", pure_sign.False)
    ∷ (codes "eq", pure_sign.Eq)
    ∷ (codes "le", pure_sign.Le)
    ∷ (codes "lt", pure_sign.Lt)
    ∷ (codes "cj", pure_sign.And)
    ∷ (codes "dj", pure_sign.Or)
    ∷ (codes "no", pure_sign.Not)
    ∷ []

unfoldable pub pure_sign_of : List ℕ → Option PureSign
pure_sign_of w = named pure_signs w

unfoldable pub pure_under : PureSign → (List ℕ → Result (Term × List ℕ) Fault) → (List ℕ → Result (Pure × List ℕ) Fault) → List ℕ → Result (Pure × List ℕ) Fault
pure_under pure_sign.True terms inner bytes = Ok (True, bytes)
pure_under pure_sign.False terms inner bytes = Ok (False, bytes)
pure_under pure_sign.Eq terms inner bytes = parts_at Eq terms bytes
pure_under pure_sign.Le terms inner bytes = parts_at Le terms bytes
pure_under pure_sign.Lt terms inner bytes = parts_at Lt terms bytes
pure_under pure_sign.And terms inner bytes = parts_at pure.And inner bytes
pure_under pure_sign.Or terms inner bytes = parts_at pure.Or inner bytes
pure_under pure_sign.Not terms inner bytes = part_as pure.Not inner bytes

unfoldable pub pure_at : ℕ → ℕ → List ℕ → Result (Pure × List ℕ) Fault
pure_at zero k bytes = do
  sign ← says_at pure_sign_of bytes
  Err (Deep (length bytes))
pure_at (suc levels) k bytes = do
  sign ← says_at pure_sign_of bytes
  pure_under sign.0 (term_at levels k) (pure_at levels k) sign.1

-- ---- formulas over the table of these arities

abbrev pub formula_signs : List (List ℕ × FormulaSign)
formula_signs =
    (codes "pure", formula_sign.Pure)
    ∷ (codes "sep", formula_sign.Two binary.Sep)
    ∷ (codes "wand", formula_sign.Two binary.Wand)
    ∷ (codes "and", formula_sign.Two binary.And)
    ∷ (codes "or", formula_sign.Two binary.Or)
    ∷ (codes "imp", formula_sign.Two binary.Imp)
    ∷ (codes "all", formula_sign.One unary.All)
    ∷ (codes "ex", formula_sign.One unary.Ex)
    ∷ (codes "later", formula_sign.One unary.Later)
    ∷ (codes "pers", formula_sign.One unary.Pers)
    ∷ (codes "upd", formula_sign.One unary.Upd)
    ∷ (codes "pts", formula_sign.Pts)
    ∷ (codes "call", formula_sign.Call)
    ∷ []

unfoldable pub formula_sign_of : List ℕ → Option FormulaSign
formula_sign_of w = named formula_signs w

-- how many variables there are under the sign
abbrev pub variables_under : Unary → ℕ → ℕ
variables_under unary.All k = suc k
variables_under unary.Ex k = suc k
variables_under unary.Later k = k
variables_under unary.Pers k = k
variables_under unary.Upd k = k

unfoldable pub points_at : (List ℕ → Result (Term × List ℕ) Fault) → List ℕ → Result (Formula × List ℕ) Fault
points_at terms bytes = do
  l ← part_at terms bytes
  u ← part_at (says_at units_of) l.1
  v ← part_at terms u.1
  Ok (Pts l.0 u.0 v.0, v.1)

-- the predicate and its arity
abbrev pub with_arity : List ℕ → Option ℕ → Option (ℕ × ℕ)
with_arity arities None = None
with_arity arities (Some p) = option_map (λ n. (p, n)) (slice_get arities p)

unfoldable pub predicate_of : List ℕ → List ℕ → Option (ℕ × ℕ)
predicate_of arities w = with_arity arities (number_of w)

unfoldable pub call_at : List ℕ → (List ℕ → Result (Term × List ℕ) Fault) → List ℕ → Result (Formula × List ℕ) Fault
call_at arities terms bytes = do
  p ← part_at (says_at (predicate_of arities)) bytes
  ts ← items_at terms p.0.1 p.1
  Ok (Call p.0.0 ts.0, ts.1)

unfoldable pub formula_under : List ℕ → FormulaSign → ℕ → (List ℕ → Result (Pure × List ℕ) Fault) → (List ℕ → Result (Term × List ℕ) Fault) → (ℕ → List ℕ → Result (Formula × List ℕ) Fault) → List ℕ → Result (Formula × List ℕ) Fault
formula_under arities formula_sign.Pure k pures terms inner bytes = part_as Fact pures bytes
formula_under arities (formula_sign.Two sign) k pures terms inner bytes = parts_at (two sign) (inner k) bytes
formula_under arities (formula_sign.One sign) k pures terms inner bytes = part_as (one sign) (inner (variables_under sign k)) bytes
formula_under arities formula_sign.Pts k pures terms inner bytes = points_at terms bytes
formula_under arities formula_sign.Call k pures terms inner bytes = call_at arities terms bytes

unfoldable pub formula_at : List ℕ → ℕ → ℕ → List ℕ → Result (Formula × List ℕ) Fault
formula_at arities zero k bytes = do
  sign ← says_at formula_sign_of bytes
  Err (Deep (length bytes))
formula_at arities (suc levels) k bytes = do
  sign ← says_at formula_sign_of bytes
  formula_under arities sign.0 k (pure_at levels k) (term_at levels k) (formula_at arities levels) sign.1

-- ---- rules

abbrev pub rule_signs : List (List ℕ × RuleSign)
rule_signs =
    (codes "refl", rule_sign.Plain rule.Refl)
    ∷ (codes "trans", rule_sign.Plain rule.Trans)
    ∷ (codes "inst", rule_sign.Inst)
    ∷ (codes "true", rule_sign.Plain rule.True)
    ∷ (codes "false", rule_sign.Plain rule.False)
    ∷ (codes "and-l", rule_sign.Plain rule.AndL)
    ∷ (codes "and-r", rule_sign.Plain rule.AndR)
    ∷ (codes "and-i", rule_sign.Plain rule.AndI)
    ∷ (codes "or-l", rule_sign.Plain rule.OrL)
    ∷ (codes "or-r", rule_sign.Plain rule.OrR)
    ∷ (codes "or-e", rule_sign.Plain rule.OrE)
    ∷ (codes "imp-i", rule_sign.Plain rule.ImpI)
    ∷ (codes "imp-e", rule_sign.Plain rule.ImpE)
    ∷ (codes "all-i", rule_sign.Plain rule.AllI)
    ∷ (codes "all-e", rule_sign.AllE)
    ∷ (codes "ex-i", rule_sign.ExI)
    ∷ (codes "ex-e", rule_sign.Plain rule.ExE)
    ∷ (codes "sep-mono", rule_sign.Plain rule.SepMono)
    ∷ (codes "sep-comm", rule_sign.Plain rule.SepComm)
    ∷ (codes "sep-assoc-r", rule_sign.Plain rule.SepAssocR)
    ∷ (codes "sep-assoc-l", rule_sign.Plain rule.SepAssocL)
    ∷ (codes "sep-unit", rule_sign.Plain rule.SepUnit)
    ∷ (codes "sep-weaken", rule_sign.Plain rule.SepWeaken)
    ∷ (codes "wand-i", rule_sign.Plain rule.WandI)
    ∷ (codes "wand-e", rule_sign.Plain rule.WandE)
    ∷ (codes "later-mono", rule_sign.Plain rule.LaterMono)
    ∷ (codes "later-intro", rule_sign.Plain rule.LaterIntro)
    ∷ (codes "loeb", rule_sign.Plain rule.Loeb)
    ∷ (codes "later-sep", rule_sign.Plain rule.LaterSep)
    ∷ (codes "sep-later", rule_sign.Plain rule.SepLater)
    ∷ (codes "later-and", rule_sign.Plain rule.LaterAnd)
    ∷ (codes "later-or", rule_sign.Plain rule.LaterOr)
    ∷ (codes "later-all", rule_sign.Plain rule.LaterAll)
    ∷ (codes "later-ex", rule_sign.Plain rule.LaterEx)
    ∷ (codes "pers-mono", rule_sign.Plain rule.PersMono)
    ∷ (codes "pers-elim", rule_sign.Plain rule.PersElim)
    ∷ (codes "pers-idem", rule_sign.Plain rule.PersIdem)
    ∷ (codes "pers-dup", rule_sign.Plain rule.PersDup)
    ∷ (codes "pers-pure", rule_sign.Plain rule.PersPure)
    ∷ (codes "pers-and", rule_sign.Plain rule.PersAnd)
    ∷ (codes "pers-or", rule_sign.Plain rule.PersOr)
    ∷ (codes "pers-all", rule_sign.Plain rule.PersAll)
    ∷ (codes "pers-ex", rule_sign.Plain rule.PersEx)
    ∷ (codes "pers-later", rule_sign.Plain rule.PersLater)
    ∷ (codes "later-pers", rule_sign.Plain rule.LaterPers)
    ∷ (codes "upd-mono", rule_sign.Plain rule.UpdMono)
    ∷ (codes "upd-intro", rule_sign.Plain rule.UpdIntro)
    ∷ (codes "upd-trans", rule_sign.Plain rule.UpdTrans)
    ∷ (codes "upd-frame", rule_sign.Plain rule.UpdFrame)
    ∷ (codes "upd-pure", rule_sign.Plain rule.UpdPure)
    ∷ (codes "pure-and", rule_sign.Plain rule.PureAnd)
    ∷ (codes "and-pure", rule_sign.Plain rule.AndPure)
    ∷ (codes "pure-or", rule_sign.Plain rule.PureOr)
    ∷ (codes "or-pure", rule_sign.Plain rule.OrPure)
    ∷ (codes "not", rule_sign.Plain rule.Not)
    ∷ (codes "em", rule_sign.Plain rule.Em)
    ∷ (codes "linear", rule_sign.Linear)
    ∷ (codes "rewrite", rule_sign.Rewrite)
    ∷ (codes "pts-split", rule_sign.Plain rule.PtsSplit)
    ∷ (codes "pts-join", rule_sign.Plain rule.PtsJoin)
    ∷ (codes "pts-agree", rule_sign.Plain rule.PtsAgree)
    ∷ (codes "pts-over", rule_sign.Plain rule.PtsOver)
    ∷ (codes "pts-write", rule_sign.Plain rule.PtsWrite)
    ∷ (codes "pts-new", rule_sign.Plain rule.PtsNew)
    ∷ (codes "fold", rule_sign.Plain rule.Fold)
    ∷ (codes "unfold", rule_sign.Plain rule.Unfold)
    ∷ (codes "timeless", rule_sign.Plain rule.Timeless)
    ∷ []

unfoldable pub rule_sign_of : List ℕ → Option RuleSign
rule_sign_of w = named rule_signs w

-- how many premises the rule takes, whatever its arguments are
abbrev pub count_of : RuleSign → ℕ
count_of (rule_sign.Plain r) = premise_count r
count_of rule_sign.Inst = premise_count (rule.Inst [])
count_of rule_sign.AllE = premise_count (rule.AllE (Lit (pos 0)))
count_of rule_sign.ExI = premise_count (rule.ExI (Lit (pos 0)))
count_of rule_sign.Linear = premise_count (rule.Linear [] [])
count_of rule_sign.Rewrite = premise_count (rule.Rewrite (Fact True))

-- the arguments of a rule, where its conclusion has k variables
unfoldable pub args_at : List ℕ → ℕ → RuleSign → List ℕ → Result (Rule × List ℕ) Fault
args_at arities k (rule_sign.Plain r) bytes = Ok (r, bytes)
args_at arities k rule_sign.Inst bytes = part_as rule.Inst (list_at MAX_LINE_TERMS (term_at MAX_LINE_LEVELS k)) bytes
args_at arities k rule_sign.AllE bytes = part_as rule.AllE (term_at MAX_LINE_LEVELS k) bytes
args_at arities k rule_sign.ExI bytes = part_as rule.ExI (term_at MAX_LINE_LEVELS k) bytes
args_at arities k rule_sign.Linear bytes = parts_at rule.Linear (list_at 66 (says_at literal_of)) bytes
args_at arities k rule_sign.Rewrite bytes = part_as rule.Rewrite (formula_at arities MAX_LINE_LEVELS (suc k)) bytes

-- ---- lines, where n is the number of the next proof line

-- the number of an earlier proof line
unfoldable pub earlier_at : ℕ → List ℕ → Result (ℕ × List ℕ) Fault
earlier_at n bytes = do
  cited ← says_at number_of bytes
  if nat_le 1 cited.0 && nat_lt cited.0 n then Ok cited else Err (NoLine cited.0)

-- a citation, where one is wanted
unfoldable pub cite_at : ℕ → Bool → List ℕ → Result (Option ℕ × List ℕ) Fault
cite_at n false bytes = Ok (None, bytes)
cite_at n true bytes = part_as (λ cited. Some cited) (earlier_at n) bytes

abbrev pub entail_of : ℕ → Formula → Formula → Entail
entail_of k left right = record { vars = k; left = left; right = right }

-- both sides of an entailment with k variables
unfoldable pub entail_at : List ℕ → ℕ → List ℕ → Result (Entail × List ℕ) Fault
entail_at arities k bytes = parts_at (entail_of k) (formula_at arities MAX_LINE_LEVELS k) bytes

-- a line's end behind what was read
unfoldable pub ends_at : {A : Type 0} → A × List ℕ → Result (A × List ℕ) Fault
ends_at x = do
  rest ← skip_at 10 x.1
  Ok (x.0, rest)

unfoldable pub step_at : List ℕ → ℕ → List ℕ → Result (Line × List ℕ) Fault
step_at arities n bytes = do
  a ← expect_at (decimal n) bytes
  sign ← part_at (says_at rule_sign_of) a
  k ← part_at (says_at (up_to MAX_LINE_VARIABLES)) sign.1
  first ← cite_at n (nat_le 1 (count_of sign.0)) k.1
  second ← cite_at n (nat_le 2 (count_of sign.0)) first.1
  rule ← args_at arities k.0 sign.0 second.1
  e ← entail_at arities k.0 rule.1
  ends_at (Step rule.0 first.0 second.0 e.0, e.1)

unfoldable pub name_of : List ℕ → Option (List ℕ)
name_of w = if is_name w then Some w else None

-- behind `qed`
unfoldable pub qed_at : ℕ → List ℕ → Result (Line × List ℕ) Fault
qed_at n bytes = do
  name ← part_at (says_at name_of) bytes
  cited ← part_at (earlier_at n) name.1
  ends_at (Qed name.0 cited.0, cited.1)

-- the line at the front, over the table of these arities
unfoldable pub line_at : List ℕ → ℕ → List ℕ → Result (Line × List ℕ) Fault
line_at arities n bytes = if bytes_eq (word bytes) (codes "qed") then qed_at n (after bytes) else step_at arities n bytes

-- ---- the lines before them

-- what follows the first line
unfoldable pub header_at : List ℕ → Result (List ℕ) Fault
header_at bytes = do
  a ← expect_at (codes "mosel-derivation") bytes
  b ← skip_at 32 a
  c ← expect_at (codes "1") b
  skip_at 10 c

abbrev pub ends_line : List ℕ → Bool
ends_line [] = false
ends_line (b ∷ bytes) = b == 10

-- numbers of at most MAX_VARIABLES up to the line's end, at most so many
unfoldable pub numbers_at : ℕ → List ℕ → Result (List ℕ × List ℕ) Fault
numbers_at zero bytes = ends_at ([], bytes)
numbers_at (suc most) bytes =
    if ends_line bytes then ends_at ([], bytes)
    else do
      n ← part_at (says_at (up_to MAX_VARIABLES)) bytes
      ns ← numbers_at most n.1
      Ok (n.0 ∷ ns.0, ns.1)

unfoldable pub arities_at : List ℕ → Result (List ℕ × List ℕ) Fault
arities_at bytes = expect_at (codes "arities") bytes >>= numbers_at MAX_PREDICATES

-- a name that isn't one of these
unfoldable pub new_name_of : List (List ℕ) → List ℕ → Option (List ℕ)
new_name_of names w = if is_name w && not (list_any (λ x. bytes_eq x w) names) then Some w else None

-- the next predicate, where these names are taken and n is its arity
unfoldable pub pred_at : List ℕ → List (List ℕ) → ℕ → List ℕ → Result (Pred × List ℕ) Fault
pred_at arities names n bytes = do
  a ← expect_at (codes "pred") bytes
  name ← part_at (says_at (new_name_of names)) a
  body ← part_at (formula_at arities MAX_LINE_LEVELS n) name.1
  ends_at (record { name = name.0; arity = n; body = body.0 }, body.1)
