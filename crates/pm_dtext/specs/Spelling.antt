-- How a derivation text is spelled. Each spelling takes what comes after it as its last argument.
use Rattle.std.specs.Prelude.{ℕ, ℤ, List, [], ◌∷◌, ◌++◌, length, codes, Option, Some, None}
use Rattle.std.specs.Fmt.{decimal, signed_decimal}
use Rattle.pm_logic.specs.declared.formula.Term.{Term}
use Rattle.pm_logic.specs.declared.formula.Term.TheVariants.{Lit, Var}
use Rattle.pm_logic.specs.declared.formula.Pure.{Pure}
use Rattle.pm_logic.specs.declared.formula.Pure.TheVariants as pure
use Rattle.pm_logic.specs.declared.formula.Formula.{Formula}
use Rattle.pm_logic.specs.declared.formula.Formula.TheVariants.{Pure as Fact, Pts, Call}
use Rattle.pm_logic.specs.declared.formula.Pred.{Pred}
use Rattle.pm_logic.specs.Trees.{add, sub, neg, scale, both, either, nope, Sep, Wand, And, Or, Imp, All, Ex, Later, Pers, Upd}
use Rattle.pm_rules.specs.declared.rules.Rule.{Rule}
use Rattle.pm_rules.specs.declared.rules.Rule.TheVariants.{Refl, Trans, Inst, True, False, AndL, AndR, AndI, OrL, OrR, OrE, ImpI, ImpE, AllI, AllE, ExI, ExE, SepMono, SepComm, SepAssocR, SepAssocL, SepUnit, SepWeaken, WandI, WandE, LaterMono, LaterIntro, Loeb, LaterSep, SepLater, LaterAnd, LaterOr, LaterAll, LaterEx, PersMono, PersElim, PersIdem, PersDup, PersPure, PersAnd, PersOr, PersAll, PersEx, PersLater, LaterPers, UpdMono, UpdIntro, UpdTrans, UpdFrame, UpdPure, PureAnd, AndPure, PureOr, OrPure, Not, Em, Linear, Rewrite, PtsSplit, PtsJoin, PtsAgree, PtsOver, PtsWrite, PtsNew, Fold, Unfold, Timeless}
use Rattle.pm_rules.specs.declared.rules.Entail.{Entail}
use Rattle.pm_dtext.specs.declared.line.Line.{Line}
use Rattle.pm_dtext.specs.declared.line.Line.TheVariants.{Step, Qed}

-- ---- terms, pure formulas and formulas

unfoldable pub term_text : Term → List ℕ → List ℕ
term_text (Lit z) rest = signed_decimal z ++ rest
term_text (Var i) rest = codes "v" ++ (decimal i ++ rest)
term_text (add s t) rest = codes "add " ++ term_text s (32 ∷ term_text t rest)
term_text (sub s t) rest = codes "sub " ++ term_text s (32 ∷ term_text t rest)
term_text (neg t) rest = codes "neg " ++ term_text t rest
term_text (scale z t) rest = codes "mul " ++ (signed_decimal z ++ (32 ∷ term_text t rest))

unfoldable pub pure_text : Pure → List ℕ → List ℕ
pure_text pure.True rest = codes "T" ++ rest
pure_text pure.False rest = codes "F" ++ rest
pure_text (pure.Eq s t) rest = codes "eq " ++ term_text s (32 ∷ term_text t rest)
pure_text (pure.Le s t) rest = codes "le " ++ term_text s (32 ∷ term_text t rest)
pure_text (pure.Lt s t) rest = codes "lt " ++ term_text s (32 ∷ term_text t rest)
pure_text (both a b) rest = codes "cj " ++ pure_text a (32 ∷ pure_text b rest)
pure_text (either a b) rest = codes "dj " ++ pure_text a (32 ∷ pure_text b rest)
pure_text (nope a) rest = codes "no " ++ pure_text a rest

-- items, each behind a blank
unfoldable pub items_text : {A : Type 0} → (A → List ℕ → List ℕ) → List A → List ℕ → List ℕ
items_text text [] rest = rest
items_text text (x ∷ xs) rest = 32 ∷ text x (items_text text xs rest)

unfoldable pub formula_text : Formula → List ℕ → List ℕ
formula_text (Fact a) rest = codes "pure " ++ pure_text a rest
formula_text (Sep p q) rest = codes "sep " ++ formula_text p (32 ∷ formula_text q rest)
formula_text (Wand p q) rest = codes "wand " ++ formula_text p (32 ∷ formula_text q rest)
formula_text (And p q) rest = codes "and " ++ formula_text p (32 ∷ formula_text q rest)
formula_text (Or p q) rest = codes "or " ++ formula_text p (32 ∷ formula_text q rest)
formula_text (Imp p q) rest = codes "imp " ++ formula_text p (32 ∷ formula_text q rest)
formula_text (All p) rest = codes "all " ++ formula_text p rest
formula_text (Ex p) rest = codes "ex " ++ formula_text p rest
formula_text (Later p) rest = codes "later " ++ formula_text p rest
formula_text (Pers p) rest = codes "pers " ++ formula_text p rest
formula_text (Upd p) rest = codes "upd " ++ formula_text p rest
formula_text (Pts l u v) rest = codes "pts " ++ term_text l (32 ∷ (decimal u ++ (32 ∷ term_text v rest)))
formula_text (Call p ts) rest = codes "call " ++ (decimal p ++ items_text term_text ts rest)

-- ---- rules

abbrev pub rule_name : Rule → List ℕ
rule_name Refl = codes "refl"
rule_name Trans = codes "trans"
rule_name (Inst sigma) = codes "inst"
rule_name True = codes "true"
rule_name False = codes "false"
rule_name AndL = codes "and-l"
rule_name AndR = codes "and-r"
rule_name AndI = codes "and-i"
rule_name OrL = codes "or-l"
rule_name OrR = codes "or-r"
rule_name OrE = codes "or-e"
rule_name ImpI = codes "imp-i"
rule_name ImpE = codes "imp-e"
rule_name AllI = codes "all-i"
rule_name (AllE t) = codes "all-e"
rule_name (ExI t) = codes "ex-i"
rule_name ExE = codes "ex-e"
rule_name SepMono = codes "sep-mono"
rule_name SepComm = codes "sep-comm"
rule_name SepAssocR = codes "sep-assoc-r"
rule_name SepAssocL = codes "sep-assoc-l"
rule_name SepUnit = codes "sep-unit"
rule_name SepWeaken = codes "sep-weaken"
rule_name WandI = codes "wand-i"
rule_name WandE = codes "wand-e"
rule_name LaterMono = codes "later-mono"
rule_name LaterIntro = codes "later-intro"
rule_name Loeb = codes "loeb"
rule_name LaterSep = codes "later-sep"
rule_name SepLater = codes "sep-later"
rule_name LaterAnd = codes "later-and"
rule_name LaterOr = codes "later-or"
rule_name LaterAll = codes "later-all"
rule_name LaterEx = codes "later-ex"
rule_name PersMono = codes "pers-mono"
rule_name PersElim = codes "pers-elim"
rule_name PersIdem = codes "pers-idem"
rule_name PersDup = codes "pers-dup"
rule_name PersPure = codes "pers-pure"
rule_name PersAnd = codes "pers-and"
rule_name PersOr = codes "pers-or"
rule_name PersAll = codes "pers-all"
rule_name PersEx = codes "pers-ex"
rule_name PersLater = codes "pers-later"
rule_name LaterPers = codes "later-pers"
rule_name UpdMono = codes "upd-mono"
rule_name UpdIntro = codes "upd-intro"
rule_name UpdTrans = codes "upd-trans"
rule_name UpdFrame = codes "upd-frame"
rule_name UpdPure = codes "upd-pure"
rule_name PureAnd = codes "pure-and"
rule_name AndPure = codes "and-pure"
rule_name PureOr = codes "pure-or"
rule_name OrPure = codes "or-pure"
rule_name Not = codes "not"
rule_name Em = codes "em"
rule_name (Linear c d) = codes "linear"
rule_name (Rewrite b) = codes "rewrite"
rule_name PtsSplit = codes "pts-split"
rule_name PtsJoin = codes "pts-join"
rule_name PtsAgree = codes "pts-agree"
rule_name PtsOver = codes "pts-over"
rule_name PtsWrite = codes "pts-write"
rule_name PtsNew = codes "pts-new"
rule_name Fold = codes "fold"
rule_name Unfold = codes "unfold"
rule_name Timeless = codes "timeless"

abbrev pub number_text : ℕ → List ℕ → List ℕ
number_text n rest = decimal n ++ rest

abbrev pub literal_text : ℤ → List ℕ → List ℕ
literal_text z rest = signed_decimal z ++ rest

-- a list behind its length
abbrev pub list_text : {A : Type 0} → (A → List ℕ → List ℕ) → List A → List ℕ → List ℕ
list_text text xs rest = decimal (length xs) ++ items_text text xs rest

-- what a rule takes besides premises and conclusion
unfoldable pub args_text : Rule → List ℕ → List ℕ
args_text (Inst sigma) rest = 32 ∷ list_text term_text sigma rest
args_text (AllE t) rest = 32 ∷ term_text t rest
args_text (ExI t) rest = 32 ∷ term_text t rest
args_text (Linear c d) rest = 32 ∷ list_text literal_text c (32 ∷ list_text literal_text d rest)
args_text (Rewrite b) rest = 32 ∷ formula_text b rest
args_text _ rest = rest

-- ---- lines

-- a citation, where there is one
abbrev pub cite_text : Option ℕ → List ℕ → List ℕ
cite_text None rest = rest
cite_text (Some n) rest = 32 ∷ (decimal n ++ rest)

abbrev pub entail_text : Entail → List ℕ → List ℕ
entail_text e rest = 32 ∷ formula_text e.left (32 ∷ formula_text e.right rest)

-- a line, where n is the number of the next proof line
abbrev pub line_text : ℕ → Line → List ℕ → List ℕ
line_text n (Step rule first second e) rest = decimal n ++ (32 ∷ (rule_name rule ++ (32 ∷ (decimal e.vars ++ cite_text first (cite_text second (args_text rule (entail_text e (10 ∷ rest))))))))
line_text n (Qed name cited) rest = codes "qed " ++ (name ++ (32 ∷ (decimal cited ++ (10 ∷ rest))))

-- ---- the lines before them

abbrev pub header_text : List ℕ → List ℕ
header_text rest = codes "mosel-derivation 1" ++ (10 ∷ rest)

abbrev pub arities_text : List ℕ → List ℕ → List ℕ
arities_text arities rest = codes "arities" ++ items_text number_text arities (10 ∷ rest)

abbrev pub pred_text : Pred → List ℕ → List ℕ
pred_text q rest = codes "pred " ++ (q.name ++ (32 ∷ formula_text q.body (10 ∷ rest)))
