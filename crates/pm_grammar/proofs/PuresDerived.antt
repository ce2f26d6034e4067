-- Pure formulas that are read are derived by the grammar.
use Rattle.std.proofs.Common.{◌≡◌, ℕ, zero, suc, List, [], ◌∷◌, ◌++◌, drop, Some, None, Option, Ok, Err, refl, sym, ap, subst, ◌∙◌}
use Rattle.pm_logic.specs.declared.formula.Pure.{Pure}
use Rattle.pm_logic.specs.declared.formula.Pure.TheVariants.{True, False}
use Rattle.pm_logic.specs.declared.formula.Pure.TheViews as pure
use Rattle.pm_tokens.specs.declared.symbol.Symbol.{Symbol}
use Rattle.pm_tokens.specs.declared.symbol.Symbol.TheVariants as s
use Rattle.pm_tokens.specs.Tokens.{Token, name, number, symbol, Place, place}
use Rattle.pm_terms.specs.declared.level.Comparison.{Comparison}
use Rattle.pm_terms.specs.declared.level.PureLevel.{PureLevel}
use Rattle.pm_terms.specs.declared.level.PureLevel.TheVariants.{Ors, Ands, Literals}
use Rattle.pm_terms.specs.Scope.{Names}
use Rattle.pm_terms.specs.Steps.{◌>>=◌, sees, unexpected}
use Rattle.pm_terms.specs.TermReading.{sum_in}
use Rattle.pm_terms.specs.PureReading.{comparison_of, compared, next_comparison, begins_comparison, sees_infix, joined, Pures, comparison_sign, comparison_at, literal_at, infix_at, ands_at, ors_at, pure_at, pure_in}
use Rattle.pm_grammar.specs.PureGrammar as p
use Rattle.pm_grammar.specs.PureGrammar.{IsPure}
use Rattle.pm_grammar.specs.ReadingLaws.{tokens_at}
use Rattle.pm_grammar.proofs.Steps.{bind_ok, ok_is, ok_to, made_ok, either, sees_ok, closed_ok, join, shut}
use Rattle.pm_grammar.proofs.TermsDerived as terms

module _ (stop : ℕ) (names : Names) where
  abbrev pub Found : PureLevel → List Place → Pure × List Place → Type 0
  Found level ts x = (ys : List Token) × (tokens_at ts ≡ ys ++ tokens_at x.1) × IsPure names level ys x.0

  abbrev Sound : Pures → Type 0
  Sound self = (level : PureLevel) (ts : List Place) (x : Pure × List Place) → self level ts ≡ Ok x → Found level ts x

  -- ---- comparisons

  Sign : List Place → Comparison × List Place → Type 0
  Sign ts c = (r : Symbol) × (tokens_at ts ≡ symbol r ∷ tokens_at c.1) × (comparison_of r ≡ Some c.0)

  sign_ok : (ts : List Place) (c : Comparison × List Place) → comparison_sign stop names ts ≡ Ok c → Sign ts c
  unfolding Sign comparison_sign next_comparison
  sign_ok [] c e = absurd cc
  sign_ok (place (name w) at ∷ ts) c e = absurd cc
  sign_ok (place (number n) at ∷ ts) c e = absurd cc
  sign_ok (place (symbol r) at ∷ ts) c e = go (comparison_of r) refl
    where
      whole : List Place
      whole = place (symbol r) at ∷ ts

      none : comparison_of r ≡ None → comparison_sign stop names whole ≡ Err (unexpected stop whole)
      none h = rw h refl

      some : (k : Comparison) → comparison_of r ≡ Some k → comparison_sign stop names whole ≡ Ok (k, ts)
      some k h = rw h refl

      go : (o : Option Comparison) → comparison_of r ≡ o → (q : Symbol) × (symbol r ∷ tokens_at ts ≡ symbol q ∷ tokens_at c.1) × (comparison_of q ≡ Some c.0)
      go None h = let f = none h in absurd cc
      go (Some k) h =
          let same = ok_is (k, ts) c (sym (some k h) ∙ e) in
          (r, ap (λ us. symbol r ∷ tokens_at us) (ap (λ y. y.1) same), h ∙ ap Some (ap (λ y. y.0) same))

  sound_comparison : (self : Pures) (room : ℕ) (ts : List Place) (x : Pure × List Place) → comparison_at stop names self room ts ≡ Ok x → Found Literals ts x
  unfolding Sign comparison_at
  sound_comparison self room ts x e =
      let a = bind_ok (sum_in stop names (suc room) ts) (λ a. comparison_sign stop names a.1 >>= λ c. sum_in stop names room c.1 >>= λ b. Ok (compared c.0 a.0 b.0, b.1)) x e in
      let c = bind_ok (comparison_sign stop names a.0.1) (λ c. sum_in stop names room c.1 >>= λ b. Ok (compared c.0 a.0.0 b.0, b.1)) x a.2 in
      let b = bind_ok (sum_in stop names room c.0.1) (λ b. Ok (compared c.0.0 a.0.0 b.0, b.1)) x c.2 in
      let l = terms.sum_derived stop names (suc room) ts a.0 a.1 in
      let g = sign_ok a.0.1 c.0 c.1 in
      let r = terms.sum_derived stop names room c.0.1 b.0 b.1 in
      ok_to (Found Literals ts) (compared c.0.0 a.0.0 b.0.0, b.0.1) x b.2
      (l.0 ++ symbol g.0 ∷ r.0, join g.0 l.0 r.0 (tokens_at ts) (tokens_at a.0.1) (tokens_at c.0.1) (tokens_at b.0.1) l.1 g.1 r.1, p.comparison g.0 l.2 g.2 r.2)

  -- ---- one level

  sound_literal : (self : Pures) (room : ℕ) → Sound self → (ts : List Place) (x : Pure × List Place) → literal_at stop names self room ts ≡ Ok x → Found Literals ts x
  unfolding literal_at
  sound_literal self room h [] x e = sound_comparison self room [] x e
  sound_literal self room h (place (name w) at ∷ ts) x e = sound_comparison self room (place (name w) at ∷ ts) x e
  sound_literal self room h (place (number n) at ∷ ts) x e = sound_comparison self room (place (number n) at ∷ ts) x e
  sound_literal self room h (place (symbol s.Not) at ∷ ts) x e =
      let m = made_ok pure.Not (self Literals ts) x e in
      let i = h Literals ts (m.0, x.1) m.1 in
      (symbol s.Not ∷ i.0, ap (λ us. symbol s.Not ∷ us) i.1, subst (IsPure names Literals (symbol s.Not ∷ i.0)) m.2 (p.negation i.2))
  sound_literal self room h (place (symbol s.True) at ∷ ts) x e = ok_to (Found Literals (place (symbol s.True) at ∷ ts)) (True, ts) x e (symbol s.True ∷ [], refl, p.truth)
  sound_literal self room h (place (symbol s.False) at ∷ ts) x e = ok_to (Found Literals (place (symbol s.False) at ∷ ts)) (False, ts) x e (symbol s.False ∷ [], refl, p.falsehood)
  sound_literal self room h (place (symbol s.Open) at ∷ ts) x e = either (begins_comparison ts) _ _ _ e (Found Literals (place (symbol s.Open) at ∷ ts) x)
      (λ term f. sound_comparison self room (place (symbol s.Open) at ∷ ts) x f)
      (λ group f.
      let c = closed_ok s.Close stop (self Ors ts) x f in
      let i = h Ors ts (x.0, c.0) c.1 in
      (symbol s.Open ∷ (i.0 ++ symbol s.Close ∷ []), shut s.Open s.Close i.0 (tokens_at ts) (tokens_at c.0) (tokens_at x.1) i.1 c.2, p.group i.2))
  sound_literal self room h (place (symbol r) at ∷ ts) x e = sound_comparison self room (place (symbol r) at ∷ ts) x e

  -- behind the tighter part of a level
  sound_infix : (level tighter : PureLevel) (r : Symbol) (self : Pures) (room : ℕ) → Sound self → ((ts : List Place) → sees_infix level ts ≡ sees r ts)
      → ((ys : List Token) (a : Pure) → IsPure names tighter ys a → IsPure names level ys a)
      → ((xs ys : List Token) (a b : Pure) → IsPure names tighter xs a → IsPure names level ys b → IsPure names level (xs ++ symbol r ∷ ys) (joined level a b))
      → (ts : List Place) (a : Pure × List Place) (x : Pure × List Place) → Found tighter ts a → infix_at stop names self room level a.0 a.1 ≡ Ok x → Found level ts x
  unfolding infix_at
  sound_infix level tighter r self room h seen up both ts a x found e = either (sees_infix level a.1) _ _ _ e (Found level ts x)
      (λ infix_there f.
      let m = made_ok (joined level a.0) (self level (drop 1 a.1)) x f in
      let i = h level (drop 1 a.1) (m.0, x.1) m.1 in (
        found.0 ++ symbol r ∷ i.0,
        join r found.0 i.0 (tokens_at ts) (tokens_at a.1) (tokens_at (drop 1 a.1)) (tokens_at x.1) found.1 (sees_ok r a.1 (sym (seen a.1) ∙ infix_there)) i.1,
        subst (IsPure names level (found.0 ++ symbol r ∷ i.0)) m.2 (both found.0 i.0 a.0 m.0 found.2 i.2),
      ))
      (λ alone f. ok_to (Found level ts) a x f (found.0, found.1, up found.0 a.0 found.2))

  sound_ands : (self : Pures) (room : ℕ) → Sound self → (ts : List Place) (x : Pure × List Place) → ands_at stop names self room ts ≡ Ok x → Found Ands ts x
  unfolding ands_at
  sound_ands self room h ts x e =
      let b = bind_ok (literal_at stop names self room ts) (λ a. infix_at stop names self room Ands a.0 a.1) x e in
      sound_infix Ands Literals s.And self room h (λ ts. refl) (λ ys a is. p.of_literal is) (λ xs ys a b j k. p.conjunction j k) ts b.0 x (sound_literal self room h ts b.0 b.1) b.2

  sound_ors : (self : Pures) (room : ℕ) → Sound self → (ts : List Place) (x : Pure × List Place) → ors_at stop names self room ts ≡ Ok x → Found Ors ts x
  unfolding ors_at
  sound_ors self room h ts x e =
      let b = bind_ok (ands_at stop names self room ts) (λ a. infix_at stop names self room Ors a.0 a.1) x e in
      sound_infix Ors Ands s.Or self room h (λ ts. refl) (λ ys a is. p.of_ands is) (λ xs ys a b j k. p.disjunction j k) ts b.0 x (sound_ands self room h ts b.0 b.1) b.2

  sound_level : (self : Pures) (room : ℕ) → Sound self → (level : PureLevel) (ts : List Place) (x : Pure × List Place) → pure_at stop names self room level ts ≡ Ok x → Found level ts x
  unfolding pure_at
  sound_level self room h Ors = sound_ors self room h
  sound_level self room h Ands = sound_ands self room h
  sound_level self room h Literals = sound_literal self room h

  pub pure_derived : (room : ℕ) (level : PureLevel) (ts : List Place) (x : Pure × List Place) → pure_in stop names room level ts ≡ Ok x → Found level ts x
  unfolding pure_in
  pure_derived zero level ts x e = absurd cc
  pure_derived (suc room) level ts x e = sound_level (pure_in stop names room) room (λ level ts x e. pure_derived room level ts x e) level ts x e
