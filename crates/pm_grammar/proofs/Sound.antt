-- Whole texts that are read are derived by the grammar.
use Rattle.std.proofs.Common.{◌≡◌, ℕ, ◌&&◌, ◌==◌, leb, List, [], ◌∷◌, ◌++◌, length, Ok, refl, sym, ap, subst, ◌∙◌, append-nil}
use Rattle.std.proofs.lemmas.Bool.Decides.{Decides-eqb}
use Rattle.pm_logic.specs.declared.limits.TheConstants.{MAX_LEVELS}
use Rattle.pm_logic.specs.declared.formula.Term.{Term}
use Rattle.pm_logic.specs.declared.formula.Pure.{Pure}
use Rattle.pm_logic.specs.declared.formula.Formula.{Formula}
use Rattle.pm_logic.specs.Size.{term_depth, pure_depth, depth_of}
use Rattle.pm_tokens.specs.Tokens.{Token, Place}
use Rattle.pm_terms.specs.declared.level.PureLevel.TheVariants.{Ors}
use Rattle.pm_text.specs.declared.level.Level.TheVariants.{Wands}
use Rattle.pm_terms.specs.Scope.{Names, Callables}
use Rattle.pm_terms.specs.Steps.{Read, offset, all_of, shallow}
use Rattle.pm_terms.specs.TermReading.{sum_in}
use Rattle.pm_terms.specs.PureReading.{pure_in}
use Rattle.pm_text.specs.FormulaReading.{formula_in, term_of, pure_of, formula_of}
use Rattle.pm_grammar.specs.TermGrammar.{IsTerm, sum}
use Rattle.pm_grammar.specs.PureGrammar.{IsPure}
use Rattle.pm_grammar.specs.FormulaGrammar.{End, IsFormula}
use Rattle.pm_grammar.specs.ReadingLaws.{tokens_at, ReadingIsSound}
use Rattle.pm_grammar.specs.Parts.{PartsAreDerived}
use Rattle.pm_grammar.proofs.Steps.{bind_ok, guard_ok}
use Rattle.pm_grammar.proofs.TermsDerived.{and_ok, sum_derived, operand_derived}
use Rattle.pm_grammar.proofs.PuresDerived.{pure_derived}
use Rattle.pm_grammar.proofs.FormulasDerived.{narrow, formula_derived}

no_tokens : (ts : List Place) → length ts ≡ 0 → tokens_at ts ≡ []
no_tokens [] e = refl
no_tokens (t ∷ ts) e = absurd cc

module _ {A : Type 0} (depth : A → ℕ) (end stop at : ℕ) (read : Read A) (a : A) where
  whole_ok : shallow depth at (all_of end stop read) ≡ Ok a → (rest : List Place) × (read ≡ Ok (a, rest)) × (tokens_at rest ≡ [])
  unfolding shallow all_of
  whole_ok e =
      let b = bind_ok (all_of end stop read) _ a e in
      let g = guard_ok (leb (depth b.0) MAX_LEVELS) b.0 a _ b.2 in
      let c = bind_ok read _ b.0 b.1 in
      let h = guard_ok (length c.0.1 == 0 && (stop == end)) c.0.0 b.0 _ c.2 in
      let none = (Decides-eqb (length c.0.1) 0).0 (and_ok (length c.0.1 == 0) (stop == end) h.0).0 in
      (c.0.1, c.1 ∙ ap (λ x. Ok (x, c.0.1)) (h.1 ∙ g.1), no_tokens c.0.1 none)

-- all tokens are the ones that were read
all_tokens : (ts ys rest : List Token) → ts ≡ ys ++ rest → rest ≡ [] → ys ≡ ts
all_tokens ts ys rest e none = sym (e ∙ ap (λ us. ys ++ us) none ∙ append-nil ys)

term_sound : (names : Names) (end stop : ℕ) (ts : List Place) (a : Term) → term_of names end stop ts ≡ Ok a → IsTerm names sum (tokens_at ts) a
unfolding term_of
term_sound names end stop ts a e =
    let w = whole_ok term_depth end stop (offset stop ts) (sum_in stop names MAX_LEVELS ts) a e in
    let d = sum_derived stop names MAX_LEVELS ts (a, w.0) w.1 in
    subst (λ (us : List Token). IsTerm names sum us a) (all_tokens (tokens_at ts) d.0 (tokens_at w.0) d.1 w.2) d.2

pure_sound : (names : Names) (end stop : ℕ) (ts : List Place) (a : Pure) → pure_of names end stop ts ≡ Ok a → IsPure names Ors (tokens_at ts) a
unfolding pure_of
pure_sound names end stop ts a e =
    let w = whole_ok pure_depth end stop (offset stop ts) (pure_in stop names MAX_LEVELS Ors ts) a e in
    let d = pure_derived stop names MAX_LEVELS Ors ts (a, w.0) w.1 in
    subst (λ (us : List Token). IsPure names Ors us a) (all_tokens (tokens_at ts) d.0 (tokens_at w.0) d.1 w.2) d.2

formula_sound : (preds : Callables) (names : Names) (end stop : ℕ) (ts : List Place) (a : Formula) → formula_of preds names end stop ts ≡ Ok a → (e : End) × IsFormula preds names Wands e (tokens_at ts) a
unfolding formula_of
formula_sound preds names end stop ts a e =
    let w = whole_ok depth_of end stop (offset stop ts) (formula_in stop preds MAX_LEVELS Wands names ts) a e in
    let d = formula_derived stop preds MAX_LEVELS Wands names ts (a, w.0) w.1 in
    (d.0, subst (λ (us : List Token). IsFormula preds names Wands d.0 us a) (all_tokens (tokens_at ts) d.1 (tokens_at w.0) d.2 w.2) d.3)

pub sound : ReadingIsSound
sound = record { terms = term_sound; pures = pure_sound; formulas = formula_sound }

pub parts : PartsAreDerived
parts = record {
  terms = λ stop room names ts rest a e. sum_derived stop names room ts (a, rest) e;
  operands = λ stop room names ts rest a e. operand_derived stop names room ts (a, rest) e;
  pures = λ stop room names l ts rest p e. pure_derived stop names room l ts (p, rest) e;
  formulas = λ stop room preds names ts rest f e. let d = formula_derived stop preds room Wands names ts (f, rest) e in (d.0, (d.1, d.2, d.3), narrow d.0 rest d.4);
}
