-- What is known of the letters after the sides and the premises.
use Rattle.std.proofs.Common.{◌≡◌, ℕ, zero, suc, List, Option, None, Some, refl, sym, subst}
use Rattle.pm_logic.specs.declared.formula.Pure as P
use Rattle.pm_logic.specs.declared.formula.Pure.TheVariants.{True}
use Rattle.pm_logic.specs.declared.formula.Formula.{Formula}
use Rattle.pm_logic.specs.declared.formula.Formula.TheVariants.{Pure as Fact}
use Rattle.pm_rules.specs.declared.rules.Entail.{Entail}
use Rattle.pm_rules.specs.Shapes.{Letters, Sequent}
use Rattle.pm_rules.specs.Rules.{IsInstance, AreInstances, HasLetters}
use Rattle.pm_rules.specs.Matching.{Known, Stands, Agrees, Learns, Matches, nothing}

pub side_denied : (k : Known) (a : Sequent) (e : Entail) → Matches k a.left e.left None → Learns k (λ s. IsInstance s a e) None
side_denied k a e m = record { none = λ s g c. m.none s g c.left_is }

pub sides_learned : (k k1 : Known) (a : Sequent) (e : Entail) (r : Option Known) → Matches k a.left e.left (Some k1) → Matches k1 a.right e.right r → Learns k (λ s. IsInstance s a e) r
sides_learned k k1 a e None m n = record { none = λ s g c. n.none s (m.from s g c.left_is) c.right_is }
sides_learned k k1 a e (Some k2) m n = record {
  to = λ s g. ((m.to s (n.to s g).0).0, record { left_is = (m.to s (n.to s g).0).1; right_is = (n.to s g).1 });
  from = λ s g c. n.from s (m.from s g c.left_is) c.right_is;
}

-- ---- letters

formula_or : Option Formula → Formula
formula_or None = Fact True
formula_or (Some f) = f

pure_or : Option P.Pure → P.Pure
pure_or None = True
pure_or (Some f) = f

formulas : Known → ℕ → Formula
formulas k zero = formula_or k.first
formulas k (suc zero) = formula_or k.second
formulas k (suc (suc zero)) = formula_or k.third
formulas k (suc (suc (suc i))) = formula_or k.fourth

pures : Known → ℕ → P.Pure
pures k zero = pure_or k.pure_first
pures k (suc i) = pure_or k.pure_second

-- letters that stand for what is known
letters_of : Known → Letters
letters_of k = record { formula = formulas k; pure = pures k }

formula_stands : (o : Option Formula) → Stands o (formula_or o)
unfolding formula_or
formula_stands None = tt
formula_stands (Some f) = refl

pure_stands : (o : Option P.Pure) → Stands o (pure_or o)
unfolding pure_or
pure_stands None = tt
pure_stands (Some f) = refl

letters_agree : (k : Known) → Agrees (letters_of k) k
unfolding letters_of formulas pures
letters_agree k = record {
  first = formula_stands k.first;
  second = formula_stands k.second;
  third = formula_stands k.third;
  fourth = formula_stands k.fourth;
  pure_first = pure_stands k.pure_first;
  pure_second = pure_stands k.pure_second;
}

all_agree : (s : Letters) (k : Known) → k ≡ nothing → Agrees s k
all_agree s k e = let P : Known → Type 0 = Agrees s in subst P (sym e) (record { first = tt; second = tt; third = tt; fourth = tt; pure_first = tt; pure_second = tt })

pub letters_found : (k k1 k2 : Known) (given : List Sequent) (c : Sequent) (ps : List Entail) (e : Entail) → Learns k (λ s. IsInstance s c e) (Some k1) → Learns k1 (λ s. AreInstances s given ps) (Some k2) → HasLetters given c ps e
letters_found k k1 k2 given c ps e m n = record {
  letters = letters_of k2;
  premises = (n.to (letters_of k2) (letters_agree k2)).1;
  conclusion = (m.to (letters_of k2) (n.to (letters_of k2) (letters_agree k2)).0).1;
}

pub no_conclusion : (k : Known) (given : List Sequent) (c : Sequent) (ps : List Entail) (e : Entail) → k ≡ nothing → Learns k (λ s. IsInstance s c e) None → HasLetters given c ps e → ⊥
no_conclusion k given c ps e z m h = m.none h.letters (all_agree h.letters k z) h.conclusion

pub no_premises : (k k1 : Known) (given : List Sequent) (c : Sequent) (ps : List Entail) (e : Entail) → k ≡ nothing → Learns k (λ s. IsInstance s c e) (Some k1) → Learns k1 (λ s. AreInstances s given ps) None → HasLetters given c ps e → ⊥
no_premises k k1 given c ps e z m n h = n.none h.letters (m.from h.letters (all_agree h.letters k z) h.conclusion) h.premises
