-- Rules with their arguments: what is spelled is read again, and what was read is spelled so.
use Rattle.std.proofs.Common.{◌≡◌, ℕ, suc, ◌<◌, ◌≤◌, ◌^◌, Bool, true, false, List, ◌∷◌, ◌++◌, length, refl, ◌∙◌, ap, subst, arith, Some, Ok}
use Rattle.std.specs.Prelude.{codes, ℤ}
use Rattle.std.specs.List.{AllByRecursion}
use Rattle.pm_logic.specs.declared.limits.TheConstants.{MAX_LINE_LEVELS, MAX_LINE_TERMS, MAX_LINE_VARIABLES}
use Rattle.pm_logic.specs.declared.formula.Term.{Term}
use Rattle.pm_logic.specs.declared.formula.Formula.{Formula}
use Rattle.pm_rules.specs.declared.rules.Rule.{Rule}
use Rattle.pm_rules.specs.declared.rules.Rule.TheVariants.{Inst, AllE, ExI, Linear, Rewrite}
use Rattle.pm_rules.specs.Rules.{premise_count}
use Rattle.pm_dtext.specs.declared.signs.RuleSign.{RuleSign}
use Rattle.pm_dtext.specs.declared.signs.RuleSign.TheVariants as sign
use Rattle.pm_dtext.specs.Spelling.{term_text, formula_text, literal_text, list_text, rule_name, args_text}
use Rattle.pm_dtext.specs.Ranges.{IsI64, TermFits, FormulaFits, ArgsFit}
use Rattle.pm_dtext.specs.Reading.{part_as, says_at, literal_of, part_at, list_at, term_at, formula_at, rule_signs, rule_sign_of, count_of, args_at}
use Rattle.pm_dtext.proofs.Steps.{with_ok, ok_is}
use Rattle.pm_dtext.proofs.WordLaws.{stops, is_word, says_again, says_found, part_again, parts_again, part_found, parts_found, named_found, named_passes, literal_at_again, literal_at_found}
use Rattle.pm_dtext.proofs.ItemLaws.{ItemFound, list_again, list_found}
use Rattle.pm_dtext.proofs.TermLaws.{term_again, term_found}
use Rattle.pm_dtext.proofs.FormulaLaws.{formula_again, formula_found}

-- ---- signs

-- the sign of a rule's name
abbrev pub sign_for : Rule → RuleSign
sign_for (Inst sigma) = sign.Inst
sign_for (AllE t) = sign.AllE
sign_for (ExI t) = sign.ExI
sign_for (Linear c d) = sign.Linear
sign_for (Rewrite b) = sign.Rewrite
sign_for r = sign.Plain r

-- the word that says a sign
abbrev pub sign_text : RuleSign → List ℕ
sign_text (sign.Plain r) = rule_name r
sign_text sign.Inst = codes "inst"
sign_text sign.AllE = codes "all-e"
sign_text sign.ExI = codes "ex-i"
sign_text sign.Linear = codes "linear"
sign_text sign.Rewrite = codes "rewrite"

abbrev pub has_no_args : Rule → Bool
has_no_args (Inst sigma) = false
has_no_args (AllE t) = false
has_no_args (ExI t) = false
has_no_args (Linear c d) = false
has_no_args (Rewrite b) = false
has_no_args r = true

abbrev pub is_listed : RuleSign → Bool
is_listed (sign.Plain r) = has_no_args r
is_listed s = true

name_word : (r : Rule) → is_word (rule_name r) ≡ true
name_word (Inst sigma) = refl
name_word r = refl

sign_again : (r : Rule) → rule_sign_of (rule_name r) ≡ Some (sign_for r)
unfolding rule_sign_of
sign_again (Inst sigma) = refl
sign_again r = refl

pub rule_again : (r : Rule) (rest : List ℕ) → stops rest ≡ true → says_at rule_sign_of (rule_name r ++ rest) ≡ Ok (sign_for r, rest)
rule_again r rest e = says_again rule_sign_of (rule_name r) rest (sign_for r) (name_word r) e (sign_again r)

pub count_again : (r : Rule) → count_of (sign_for r) ≡ premise_count r
count_again (Inst sigma) = refl
count_again r = refl

pub record SignFound (bytes : List ℕ) (s : RuleSign) (rest : List ℕ) : Type 0 where
  pub parts : bytes ≡ sign_text s ++ rest
  pub listed : is_listed s ≡ true

pub sign_found : (bytes : List ℕ) (s : RuleSign) (rest : List ℕ) → says_at rule_sign_of bytes ≡ Ok (s, rest) → SignFound bytes s rest
unfolding rule_sign_of
sign_found bytes s rest e =
    let f = says_found rule_sign_of bytes s rest e in
    record {
      parts = f.parts ∙ ap (λ w. w ++ rest) (named_found sign_text rule_signs f.w s refl f.says_it);
      listed = named_passes is_listed rule_signs f.w s refl f.says_it;
    }

-- ---- arguments

term_part : (arities : List ℕ) (k : ℕ) (t : Term) (rest : List ℕ) → k ≤ MAX_LINE_VARIABLES → TermFits k t → stops rest ≡ true → part_at (term_at MAX_LINE_LEVELS k) (32 ∷ term_text t rest) ≡ Ok (t, rest)
term_part arities k t rest few fits e = part_again (term_at MAX_LINE_LEVELS k) (term_text t rest) ∙ term_again t MAX_LINE_LEVELS k rest (omega arith) fits.in_range fits.levels e

inst_again : (arities : List ℕ) (k : ℕ) (sigma : List Term) (rest : List ℕ) → k ≤ MAX_LINE_VARIABLES → (length sigma ≤ MAX_LINE_TERMS) × AllByRecursion (TermFits k) sigma → stops rest ≡ true → args_at arities k sign.Inst (32 ∷ list_text term_text sigma rest) ≡ Ok (Inst sigma, rest)
unfolding args_at part_as
inst_again arities k sigma rest few fits e =
    rw (part_again (list_at MAX_LINE_TERMS (term_at MAX_LINE_LEVELS k)) (list_text term_text sigma rest))
    (rw (list_again MAX_LINE_TERMS (term_at MAX_LINE_LEVELS k) term_text (TermFits k) sigma rest (omega arith) (λ t r h s. term_again t MAX_LINE_LEVELS k r (omega arith) h.in_range h.levels s) fits.0 fits.1 e) refl)

all_again : (arities : List ℕ) (k : ℕ) (t : Term) (rest : List ℕ) → k ≤ MAX_LINE_VARIABLES → TermFits k t → stops rest ≡ true → args_at arities k sign.AllE (32 ∷ term_text t rest) ≡ Ok (AllE t, rest)
unfolding args_at part_as
all_again arities k t rest few fits e = rw (term_part arities k t rest few fits e) refl

ex_again : (arities : List ℕ) (k : ℕ) (t : Term) (rest : List ℕ) → k ≤ MAX_LINE_VARIABLES → TermFits k t → stops rest ≡ true → args_at arities k sign.ExI (32 ∷ term_text t rest) ≡ Ok (ExI t, rest)
unfolding args_at part_as
ex_again arities k t rest few fits e = rw (term_part arities k t rest few fits e) refl

factors_again : (c : List ℤ) (rest : List ℕ) → (length c ≤ 66) × AllByRecursion IsI64 c → stops rest ≡ true → list_at 66 (says_at literal_of) (list_text literal_text c rest) ≡ Ok (c, rest)
factors_again c rest fits e = list_again 66 (says_at literal_of) literal_text IsI64 c rest (omega arith) (λ z r h s. literal_at_again z r h s) fits.0 fits.1 e

linear_again : (arities : List ℕ) (k : ℕ) (c d : List ℤ) (rest : List ℕ) → ((length c ≤ 66) × AllByRecursion IsI64 c) × ((length d ≤ 66) × AllByRecursion IsI64 d) → stops rest ≡ true → args_at arities k sign.Linear (32 ∷ list_text literal_text c (32 ∷ list_text literal_text d rest)) ≡ Ok (Linear c d, rest)
unfolding args_at part_as
linear_again arities k c d rest fits e =
    parts_again Linear (list_at 66 (says_at literal_of)) (list_text literal_text c (32 ∷ list_text literal_text d rest)) (list_text literal_text d rest) rest c d
    (factors_again c (32 ∷ list_text literal_text d rest) fits.0 refl)
    (factors_again d rest fits.1 e)

rewrite_again : (arities : List ℕ) (k : ℕ) (b : Formula) (rest : List ℕ) → length arities < 2 ^ 64 → k ≤ MAX_LINE_VARIABLES → FormulaFits arities (suc k) b → stops rest ≡ true → args_at arities k sign.Rewrite (32 ∷ formula_text b rest) ≡ Ok (Rewrite b, rest)
unfolding args_at part_as
rewrite_again arities k b rest table few fits e =
    rw (part_again (formula_at arities MAX_LINE_LEVELS (suc k)) (formula_text b rest))
    (rw (formula_again arities b MAX_LINE_LEVELS (suc k) rest table (omega arith) fits.in_range fits.levels e) refl)

pub args_again : (arities : List ℕ) (k : ℕ) (r : Rule) (rest : List ℕ) → length arities < 2 ^ 64 → k ≤ MAX_LINE_VARIABLES → ArgsFit arities k r → stops rest ≡ true → args_at arities k (sign_for r) (args_text r rest) ≡ Ok (r, rest)
unfolding args_at args_text ArgsFit part_as
args_again arities k (Inst sigma) rest table few fits e = inst_again arities k sigma rest few fits e
args_again arities k (AllE t) rest table few fits e = all_again arities k t rest few fits e
args_again arities k (ExI t) rest table few fits e = ex_again arities k t rest few fits e
args_again arities k (Linear c d) rest table few fits e = linear_again arities k c d rest fits e
args_again arities k (Rewrite b) rest table few fits e = rewrite_again arities k b rest table few fits e
args_again arities k r rest table few fits e = refl

pub args_stop : (r : Rule) (rest : List ℕ) → stops rest ≡ true → stops (args_text r rest) ≡ true
unfolding args_text
args_stop (Inst sigma) rest e = refl
args_stop (AllE t) rest e = refl
args_stop (ExI t) rest e = refl
args_stop (Linear c d) rest e = refl
args_stop (Rewrite b) rest e = refl
args_stop r rest e = e

pub record ArgsFound (arities : List ℕ) (k : ℕ) (s : RuleSign) (bytes : List ℕ) (r : Rule) (rest : List ℕ) : Type 0 where
  pub spelled : bytes ≡ args_text r rest
  pub fits : ArgsFit arities k r
  pub named : sign_text s ≡ rule_name r
  pub count : count_of s ≡ premise_count r

plain_found : (arities : List ℕ) (k : ℕ) (r : Rule) (bytes : List ℕ) → has_no_args r ≡ true → ArgsFound arities k (sign.Plain r) bytes r bytes
unfolding args_text ArgsFit
plain_found arities k (Inst sigma) bytes h = absurd cc
plain_found arities k (AllE t) bytes h = absurd cc
plain_found arities k (ExI t) bytes h = absurd cc
plain_found arities k (Linear c d) bytes h = absurd cc
plain_found arities k (Rewrite b) bytes h = absurd cc
plain_found arities k r bytes h = record { spelled = refl; fits = tt; named = refl; count = refl }

fit_term : (k : ℕ) (bytes : List ℕ) (t : Term) (rest : List ℕ) → term_at MAX_LINE_LEVELS k bytes ≡ Ok (t, rest) → ItemFound term_text (TermFits k) bytes t rest
fit_term k bytes t rest e = let f = term_found MAX_LINE_LEVELS k bytes t rest e in record { spelled = f.spelled; fits = record { in_range = f.in_range; levels = f.depth } }

factor_found : (bytes : List ℕ) (z : ℤ) (rest : List ℕ) → says_at literal_of bytes ≡ Ok (z, rest) → ItemFound literal_text IsI64 bytes z rest
factor_found bytes z rest e = let f = literal_at_found bytes z rest e in record { spelled = f.parts; fits = f.fits }

inst_found : (arities : List ℕ) (k : ℕ) (bytes : List ℕ) (r : Rule) (rest : List ℕ) → args_at arities k sign.Inst bytes ≡ Ok (r, rest) → ArgsFound arities k sign.Inst bytes r rest
unfolding args_at args_text ArgsFit part_as
inst_found arities k bytes r rest e =
    with_ok (part_at (list_at MAX_LINE_TERMS (term_at MAX_LINE_LEVELS k)) bytes) _ (r, rest) e (λ ts et ht.
    let p = part_found (list_at MAX_LINE_TERMS (term_at MAX_LINE_LEVELS k)) bytes ts.0 ts.1 et in
    let f = list_found MAX_LINE_TERMS (term_at MAX_LINE_LEVELS k) term_text (TermFits k) p.at ts.0 ts.1 (λ b t q h. fit_term k b t q h) p.read in
    subst (λ (x : Rule × List ℕ). ArgsFound arities k sign.Inst bytes x.0 x.1) (ok_is {A = Rule × List ℕ} (Inst ts.0, ts.1) (r, rest) ht)
    (record { spelled = p.parts ∙ ap (λ x. 32 ∷ x) f.spelled; fits = (f.few, f.fits); named = refl; count = refl }))

all_found : (arities : List ℕ) (k : ℕ) (bytes : List ℕ) (r : Rule) (rest : List ℕ) → args_at arities k sign.AllE bytes ≡ Ok (r, rest) → ArgsFound arities k sign.AllE bytes r rest
unfolding args_at args_text ArgsFit part_as
all_found arities k bytes r rest e =
    with_ok (part_at (term_at MAX_LINE_LEVELS k) bytes) _ (r, rest) e (λ t et ht.
    let p = part_found (term_at MAX_LINE_LEVELS k) bytes t.0 t.1 et in
    let f = fit_term k p.at t.0 t.1 p.read in
    subst (λ (x : Rule × List ℕ). ArgsFound arities k sign.AllE bytes x.0 x.1) (ok_is {A = Rule × List ℕ} (AllE t.0, t.1) (r, rest) ht)
    (record { spelled = p.parts ∙ ap (λ x. 32 ∷ x) f.spelled; fits = f.fits; named = refl; count = refl }))

ex_found : (arities : List ℕ) (k : ℕ) (bytes : List ℕ) (r : Rule) (rest : List ℕ) → args_at arities k sign.ExI bytes ≡ Ok (r, rest) → ArgsFound arities k sign.ExI bytes r rest
unfolding args_at args_text ArgsFit part_as
ex_found arities k bytes r rest e =
    with_ok (part_at (term_at MAX_LINE_LEVELS k) bytes) _ (r, rest) e (λ t et ht.
    let p = part_found (term_at MAX_LINE_LEVELS k) bytes t.0 t.1 et in
    let f = fit_term k p.at t.0 t.1 p.read in
    subst (λ (x : Rule × List ℕ). ArgsFound arities k sign.ExI bytes x.0 x.1) (ok_is {A = Rule × List ℕ} (ExI t.0, t.1) (r, rest) ht)
    (record { spelled = p.parts ∙ ap (λ x. 32 ∷ x) f.spelled; fits = f.fits; named = refl; count = refl }))

linear_found : (arities : List ℕ) (k : ℕ) (bytes : List ℕ) (r : Rule) (rest : List ℕ) → args_at arities k sign.Linear bytes ≡ Ok (r, rest) → ArgsFound arities k sign.Linear bytes r rest
unfolding args_at args_text ArgsFit part_as
linear_found arities k bytes r rest e =
    let p = parts_found Linear (list_at 66 (says_at literal_of)) bytes r rest e in
    let c = list_found 66 (says_at literal_of) literal_text IsI64 p.a p.x (32 ∷ p.b) (λ b z q h. factor_found b z q h) p.first in
    let d = list_found 66 (says_at literal_of) literal_text IsI64 p.b p.y rest (λ b z q h. factor_found b z q h) p.second in
    subst (λ (x : Rule). ArgsFound arities k sign.Linear bytes x rest) p.made
    (record { spelled = p.parts ∙ ap (λ x. 32 ∷ x) (c.spelled ∙ ap (λ x. list_text literal_text p.x (32 ∷ x)) d.spelled); fits = ((c.few, c.fits), (d.few, d.fits)); named = refl; count = refl })

rewrite_found : (arities : List ℕ) (k : ℕ) (bytes : List ℕ) (r : Rule) (rest : List ℕ) → args_at arities k sign.Rewrite bytes ≡ Ok (r, rest) → ArgsFound arities k sign.Rewrite bytes r rest
unfolding args_at args_text ArgsFit part_as
rewrite_found arities k bytes r rest e =
    with_ok (part_at (formula_at arities MAX_LINE_LEVELS (suc k)) bytes) _ (r, rest) e (λ b eb hb.
    let p = part_found (formula_at arities MAX_LINE_LEVELS (suc k)) bytes b.0 b.1 eb in
    let f = formula_found arities MAX_LINE_LEVELS (suc k) p.at b.0 b.1 p.read in
    subst (λ (x : Rule × List ℕ). ArgsFound arities k sign.Rewrite bytes x.0 x.1) (ok_is {A = Rule × List ℕ} (Rewrite b.0, b.1) (r, rest) hb)
    (record { spelled = p.parts ∙ ap (λ x. 32 ∷ x) f.spelled; fits = record { in_range = f.in_range; levels = f.depth }; named = refl; count = refl }))

pub args_found : (arities : List ℕ) (k : ℕ) (s : RuleSign) (bytes : List ℕ) (r : Rule) (rest : List ℕ) → is_listed s ≡ true → args_at arities k s bytes ≡ Ok (r, rest) → ArgsFound arities k s bytes r rest
unfolding args_at part_as
args_found arities k (sign.Plain q) bytes r rest h e =
    subst (λ (x : Rule × List ℕ). ArgsFound arities k (sign.Plain q) bytes x.0 x.1) (ok_is {A = Rule × List ℕ} (q, bytes) (r, rest) e) (plain_found arities k q bytes h)
args_found arities k sign.Inst bytes r rest h e = inst_found arities k bytes r rest e
args_found arities k sign.AllE bytes r rest h e = all_found arities k bytes r rest e
args_found arities k sign.ExI bytes r rest h e = ex_found arities k bytes r rest e
args_found arities k sign.Linear bytes r rest h e = linear_found arities k bytes r rest e
args_found arities k sign.Rewrite bytes r rest h e = rewrite_found arities k bytes r rest e
