-- A rule's line follows from the lines before it.
use Rattle.std.proofs.Common.{◌≡◌, ◌<◌, ◌^◌, ℕ, suc, List, [], ◌∷◌, length, refl, sym, ◌∙◌, ap, subst, arith, Option, Some, None}
use Rattle.std.specs.Prelude.{nat_le, is_some, map}
use Rattle.std.specs.List.{AllByRecursion}
use Rattle.pm_logic.specs.declared.formula.Term.{Term}
use Rattle.pm_logic.specs.declared.formula.Term.TheVariants.{Lit, Var}
use Rattle.pm_logic.specs.declared.formula.Formula.{Formula}
use Rattle.pm_logic.specs.declared.formula.Preds.{Preds}
use Rattle.pm_logic.specs.Trees.{add, sub, neg, scale}
use Rattle.pm_logic.specs.Scope.{TermScoped}
use Rattle.pm_logic.specs.Integers.{TermIsI64, TermsAreI64, FormulaIsI64}
use Rattle.pm_rules.specs.declared.rules.Rule.{Rule}
use Rattle.pm_rules.specs.declared.rules.Rule.TheVariants as rule
use Rattle.pm_rules.specs.declared.rules.Entail.{Entail}
use Rattle.pm_rules.specs.Rules.{premises, premise_count, RuleOk}
use Rattle.pm_proof.specs.Trees.{Tree, conclusion}
use Rattle.pm_proof.specs.Valid as valid
use Rattle.pm_dtext.specs.declared.line.Line.{Line}
use Rattle.pm_dtext.specs.declared.line.Line.TheVariants.{Step}
use Rattle.pm_dtext.specs.Ranges as ranges
use Rattle.pm_dtext.specs.Ranges.{TermInRange, ArgsFit, CiteFits, IsEarlier}
use Rattle.pm_dtext.specs.Texts.{arities_of}
use Rattle.pm_dtext.proofs.Scopes.{is_in_range}
use Rattle.pm_check.specs.Lines.{steps, proof_line, cited}
use Rattle.pm_check.specs.Derivation.{next_number, IsNext}
use Rattle.pm_write.specs.Writing.{Cites, RuleIsI64}
use Rattle.pm_write.proofs.Growing.{line_within}

-- ---- ranges

term_in_range : (k : ℕ) (t : Term) → TermScoped k t → TermIsI64 t → TermInRange k t
unfolding TermScoped TermIsI64 TermInRange
term_in_range k (Lit z) s i = i
term_in_range k (Var n) s i = s
term_in_range k (add a b) s i = (term_in_range k a s.0 i.0, term_in_range k b s.1 i.1)
term_in_range k (sub a b) s i = (term_in_range k a s.0 i.0, term_in_range k b s.1 i.1)
term_in_range k (neg a) s i = term_in_range k a s i
term_in_range k (scale z a) s i = (i.0, term_in_range k a s i.1)

term_fits : (k : ℕ) (t : Term) → valid.TermFits k t → TermIsI64 t → ranges.TermFits k t
term_fits k t f i = record { in_range = term_in_range k t f.scoped i; levels = f.levels }

terms_fit : (k : ℕ) (ts : List Term) → AllByRecursion (valid.TermFits k) ts → TermsAreI64 ts → AllByRecursion (ranges.TermFits k) ts
unfolding TermsAreI64
terms_fit k [] f i = tt
terms_fit k (t ∷ ts) f i = (term_fits k t f.0 i.0, terms_fit k ts f.1 i.1)

formula_fits : (preds : Preds) (k : ℕ) (f : Formula) → valid.FormulaFits preds k f → FormulaIsI64 f → ranges.FormulaFits (arities_of preds.list) k f
formula_fits preds k f fits i = record { in_range = is_in_range preds k f fits.scoped i; levels = fits.levels }

args_fit : (preds : Preds) (k : ℕ) (r : Rule) → valid.ArgumentsFit preds k r → RuleIsI64 r → ArgsFit (arities_of preds.list) k r
unfolding valid.ArgumentsFit RuleIsI64 ArgsFit
args_fit preds k (rule.Inst sigma) f i = (f.0, terms_fit k sigma f.1 i)
args_fit preds k (rule.AllE t) f i = term_fits k t f i
args_fit preds k (rule.ExI t) f i = term_fits k t f i
args_fit preds k (rule.Linear c d) f i = ((f.0, f.1), (f.2, f.3))
args_fit preds k (rule.Rewrite b) f i = formula_fits preds (suc k) b f i
args_fit preds k r f i = tt

-- ---- citations

pub earlier : (ls : List Line) (n : ℕ) (e : Entail) → length (steps ls) < 2 ^ 64 → proof_line (steps ls) n ≡ Some e → IsEarlier (next_number ls) n
earlier ls n e few at = let within = line_within (steps ls) e n at in record { some = within.0; before = omega (arith, within.1); small = omega (arith, within.1, few) }

pub record Cited (ls : List Line) (c : ℕ) (ts : List Tree) (first second : Option ℕ) : Type 0 where
  pub first_stands : is_some first ≡ nat_le 1 c
  pub second_stands : is_some second ≡ nat_le 2 c
  pub first_fits : CiteFits (next_number ls) first
  pub second_fits : CiteFits (next_number ls) second
  pub premises_are : premises (cited (steps ls) first) (cited (steps ls) second) ≡ map conclusion ts

cites : (ls : List Line) (c : ℕ) (ts : List Tree) (first second : Option ℕ) → length (steps ls) < 2 ^ 64 → length (map conclusion ts) ≡ c → Cites ls ts first second → Cited ls c ts first second
cites ls c [] None None few count h = record { first_stands = ap (nat_le 1) count; second_stands = ap (nat_le 2) count; first_fits = tt; second_fits = tt; premises_are = refl }
cites ls c [] None (Some m) few count h = absurd h
cites ls c [] (Some n) second few count h = absurd h
cites ls c (a ∷ []) None second few count h = absurd h
cites ls c (a ∷ []) (Some n) None few count h = record { first_stands = ap (nat_le 1) count; second_stands = ap (nat_le 2) count; first_fits = earlier ls n (conclusion a) few h; second_fits = tt; premises_are = ap (λ o. premises o None) h }
cites ls c (a ∷ []) (Some n) (Some m) few count h = absurd h
cites ls c (a ∷ b ∷ []) None second few count h = absurd h
cites ls c (a ∷ b ∷ []) (Some n) None few count h = absurd h
cites ls c (a ∷ b ∷ []) (Some n) (Some m) few count h = record {
  first_stands = ap (nat_le 1) count;
  second_stands = ap (nat_le 2) count;
  first_fits = earlier ls n (conclusion a) few h.0;
  second_fits = earlier ls m (conclusion b) few h.1;
  premises_are = ap (λ o. premises o (proof_line (steps ls) m)) h.0 ∙ ap (λ o. premises (Some (conclusion a)) o) h.1;
}
cites ls c (a ∷ b ∷ d ∷ ts) first second few count h = absurd h

-- ---- the line

pub next_step : (preds : Preds) (ls : List Line) (ts : List Tree) (r : Rule) (first second : Option ℕ) (e : Entail) → length (steps ls) < 2 ^ 64 → Cites ls ts first second → RuleOk preds r (map conclusion ts) e → valid.RuleFits preds r e → RuleIsI64 r → FormulaIsI64 e.left → FormulaIsI64 e.right → IsNext preds ls (Step r first second e)
next_step preds ls ts r first second e few h ok fits ri li rri =
    let c : Cited ls (premise_count r) ts first second = cites ls (premise_count r) ts first second few ok.premises h in
    record {
      fits = record {
        first_stands = c.first_stands;
        second_stands = c.second_stands;
        first_fits = c.first_fits;
        second_fits = c.second_fits;
        vars = fits.entail.vars;
        args = args_fit preds e.vars r fits.arguments ri;
        left = formula_fits preds e.vars e.left fits.entail.left li;
        right = formula_fits preds e.vars e.right fits.entail.right rri;
      };
      follows = subst (λ ps. RuleOk preds r ps e) (sym c.premises_are) ok;
    }
