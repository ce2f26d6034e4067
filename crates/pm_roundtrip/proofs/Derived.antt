-- What is printed is derived by the grammar.
use Rattle.std.proofs.Common.{◌≡◌, ℕ, zero, suc, ◌≤◌, Bool, true, false, cond, ℤ, pos, negsuc, List, [], ◌∷◌, ◌++◌, length, refl, ap, ◌∙◌, arith, append_assoc}
use Rattle.std.specs.Prelude.{nat_lt}
use Rattle.std.proofs.lemmas.Bool.Decides.{nat_tests}
use Rattle.pm_logic.specs.declared.formula.Term.{Term}
use Rattle.pm_logic.specs.declared.formula.Term.TheVariants.{Lit, Var}
use Rattle.pm_logic.specs.declared.formula.Term.TheBlock as term_block
use Rattle.pm_logic.specs.declared.formula.Pure.{Pure}
use Rattle.pm_logic.specs.declared.formula.Pure.TheVariants.{True, False, Eq, Le, Lt}
use Rattle.pm_logic.specs.declared.formula.Pure.TheBlock as pure_block
use Rattle.pm_logic.specs.Trees.{add, sub, neg, scale, both, either, nope}
use denote.Hole.Carrier as carrier
use Rattle.pm_tokens.specs.declared.symbol.Symbol.{Symbol}
use Rattle.pm_tokens.specs.declared.symbol.Symbol.TheVariants as s
use Rattle.pm_tokens.specs.Tokens.{Token, symbol}
use Rattle.pm_terms.specs.declared.level.Comparison.TheVariants as cmp
use Rattle.pm_terms.specs.declared.level.PureLevel.{PureLevel}
use Rattle.pm_terms.specs.declared.level.PureLevel.TheVariants.{Ors, Ands, Literals}
use Rattle.pm_terms.specs.PureReading.{comparison_of, compared}
use Rattle.pm_grammar.specs.TermGrammar as t
use Rattle.pm_grammar.specs.TermGrammar.{IsLiteral, IsTerm, Sort, sum, product, operand}
use Rattle.pm_grammar.specs.PureGrammar as p
use Rattle.pm_grammar.specs.PureGrammar.{IsPure}
use Rattle.pm_dtext.specs.Ranges.{IsI64, TermInRange, PureInRange}
use Rattle.pm_print.specs.Printing.{Names, Piece, blank, token, sign, operator, before, between, level, literal, term_pieces, pure_pieces, tokens_of}
use Rattle.pm_roundtrip.proofs.Found.{Differ, variable_found}

-- ---- the tokens of pieces

pub tokens-append : (xs ys : List Piece) → tokens_of (xs ++ ys) ≡ tokens_of xs ++ tokens_of ys
unfolding tokens_of
tokens-append [] ys = refl
tokens-append (blank ∷ xs) ys = tokens-append xs ys
tokens-append (token k ∷ xs) ys = ap (λ ks. k ∷ ks) (tokens-append xs ys)

pub tokens-link : (xs ms ys : List Piece) → tokens_of (xs ++ ms ++ ys) ≡ tokens_of xs ++ (tokens_of ms ++ tokens_of ys)
tokens-link xs ms ys = tokens-append (xs ++ ms) ys ∙ (ap (λ ks. ks ++ tokens_of ys) (tokens-append xs ms) ∙ append_assoc (tokens_of xs) (tokens_of ms) (tokens_of ys))

pub tokens-infix : (r : Symbol) (xs ys : List Piece) → tokens_of (xs ++ operator r ++ ys) ≡ tokens_of xs ++ symbol r ∷ tokens_of ys
unfolding tokens_of
tokens-infix r xs ys = tokens-link xs (operator r) ys

pub tokens-between : (l r : Symbol) (xs : List Piece) → tokens_of (between l r xs) ≡ symbol l ∷ (tokens_of xs ++ symbol r ∷ [])
unfolding tokens_of
tokens-between l r xs = ap (λ ks. symbol l ∷ ks) (tokens-append xs (sign r ∷ []))

-- ---- terms

-- what is needed as a sort
unfoldable pub sort_of : ℕ → Sort
sort_of zero = sum
sort_of (suc zero) = sum
sort_of (suc (suc zero)) = product
sort_of (suc (suc (suc n))) = operand

module _ (names : Names) (xs : List Token) (a : Term) where
  sum_of : (n : ℕ) → IsTerm names (sort_of n) xs a → IsTerm names sum xs a
  unfolding sort_of
  sum_of zero h = h
  sum_of (suc zero) h = h
  sum_of (suc (suc zero)) h = t.of_product h
  sum_of (suc (suc (suc n))) h = t.of_product (t.of_operand h)

  of_operand : (n : ℕ) → IsTerm names operand xs a → IsTerm names (sort_of n) xs a
  unfolding sort_of
  of_operand zero h = t.of_product (t.of_operand h)
  of_operand (suc zero) h = t.of_product (t.of_operand h)
  of_operand (suc (suc zero)) h = t.of_operand h
  of_operand (suc (suc (suc n))) h = h

  looser : (m n : ℕ) → n ≤ m → IsTerm names (sort_of m) xs a → IsTerm names (sort_of n) xs a
  unfolding sort_of
  looser m zero le h = sum_of m h
  looser m (suc zero) le h = sum_of m h
  looser zero (suc (suc n)) le h = absurd (omega arith)
  looser (suc zero) (suc (suc n)) le h = absurd (omega arith)
  looser (suc (suc zero)) (suc (suc zero)) le h = h
  looser (suc (suc zero)) (suc (suc (suc n))) le h = absurd (omega arith)
  looser (suc (suc (suc m))) (suc (suc zero)) le h = t.of_operand h
  looser (suc (suc (suc m))) (suc (suc (suc n))) le h = h

levelled : (has needs : ℕ) (names : Names) (ps : List Piece) (xs : List Token) (a : Term) → tokens_of ps ≡ xs → IsTerm names (sort_of has) xs a → IsTerm names (sort_of needs) (tokens_of (level has needs ps)) a
levelled has needs names ps xs a is h = go (nat_lt has needs) refl
  where
    go : (b : Bool) → nat_lt has needs ≡ b → IsTerm names (sort_of needs) (tokens_of (cond b (between s.Open s.Close ps) ps)) a
    go true e = rw (tokens-between s.Open s.Close ps, is) (of_operand names _ a needs (t.group (sum_of names xs a has h)))
    go false e = rw is (looser names xs a has needs (grind (arith, nat_tests, e)) h)

is_literal : (z : ℤ) → IsI64 z → IsLiteral (tokens_of (literal z)) z
unfolding tokens_of
is_literal (pos n) fits = t.positive fits
is_literal (negsuc n) fits = t.negative {n = suc n} (omega arith)

pub term_derived : (needs : ℕ) (names : Names) (a : Term) → Differ names → TermInRange (length names) a → IsTerm names (sort_of needs) (tokens_of (term_pieces needs names a)) a
unfolding term_pieces TermInRange tokens_of sort_of term_block.shape-the_row-Term-0 term_block.hidden-the_row-Term-0 carrier.hidden
term_derived needs names (Lit z) d r = of_operand names _ (Lit z) needs (t.literal (is_literal z r))
term_derived needs names (Var i) d r = of_operand names _ (Var i) needs (t.variable (variable_found names i d r))
term_derived needs names (add a b) d r = levelled 1 needs names _ _ (add a b) (tokens-infix s.Plus (term_pieces 1 names a) (term_pieces 2 names b)) (t.plus (term_derived 1 names a d r.0) (term_derived 2 names b d r.1))
term_derived needs names (sub a b) d r = levelled 1 needs names _ _ (sub a b) (tokens-infix s.Minus (term_pieces 1 names a) (term_pieces 2 names b)) (t.minus (term_derived 1 names a d r.0) (term_derived 2 names b d r.1))
term_derived needs names (neg a) d r = levelled 2 needs names (sign s.Minus ∷ between s.Open s.Close (term_pieces 0 names a)) _ (neg a) (ap (λ ks. symbol s.Minus ∷ ks) (tokens-between s.Open s.Close (term_pieces 0 names a))) (t.negation refl (t.of_operand (t.group (term_derived 0 names a d r))))
term_derived needs names (scale z a) d r = levelled 2 needs names _ _ (scale z a) (tokens-infix s.Asterisk (literal z) (term_pieces 2 names a)) (t.scale (is_literal z r.0) (term_derived 2 names a d r.1))

-- ---- pure formulas

unfoldable pub pure_level : ℕ → PureLevel
pure_level zero = Ors
pure_level (suc zero) = Ors
pure_level (suc (suc zero)) = Ands
pure_level (suc (suc (suc n))) = Literals

module _ (names : Names) (xs : List Token) (a : Pure) where
  ors_of : (n : ℕ) → IsPure names (pure_level n) xs a → IsPure names Ors xs a
  unfolding pure_level
  ors_of zero h = h
  ors_of (suc zero) h = h
  ors_of (suc (suc zero)) h = p.of_ands h
  ors_of (suc (suc (suc n))) h = p.of_ands (p.of_literal h)

  of_literal : (n : ℕ) → IsPure names Literals xs a → IsPure names (pure_level n) xs a
  unfolding pure_level
  of_literal zero h = p.of_ands (p.of_literal h)
  of_literal (suc zero) h = p.of_ands (p.of_literal h)
  of_literal (suc (suc zero)) h = p.of_literal h
  of_literal (suc (suc (suc n))) h = h

  looser_pure : (m n : ℕ) → n ≤ m → IsPure names (pure_level m) xs a → IsPure names (pure_level n) xs a
  unfolding pure_level
  looser_pure m zero le h = ors_of m h
  looser_pure m (suc zero) le h = ors_of m h
  looser_pure zero (suc (suc n)) le h = absurd (omega arith)
  looser_pure (suc zero) (suc (suc n)) le h = absurd (omega arith)
  looser_pure (suc (suc zero)) (suc (suc zero)) le h = h
  looser_pure (suc (suc zero)) (suc (suc (suc n))) le h = absurd (omega arith)
  looser_pure (suc (suc (suc m))) (suc (suc zero)) le h = p.of_literal h
  looser_pure (suc (suc (suc m))) (suc (suc (suc n))) le h = h

levelled_pure : (has needs : ℕ) (names : Names) (ps : List Piece) (xs : List Token) (a : Pure) → tokens_of ps ≡ xs → IsPure names (pure_level has) xs a → IsPure names (pure_level needs) (tokens_of (level has needs ps)) a
levelled_pure has needs names ps xs a is h = go (nat_lt has needs) refl
  where
    go : (b : Bool) → nat_lt has needs ≡ b → IsPure names (pure_level needs) (tokens_of (cond b (between s.Open s.Close ps) ps)) a
    go true e = rw (tokens-between s.Open s.Close ps, is) (of_literal names _ a needs (p.group (ors_of names xs a has h)))
    go false e = rw is (looser_pure names xs a has needs (grind (arith, nat_tests, e)) h)

compares : (needs : ℕ) (names : Names) (r : Symbol) (a b : Term) (q : Pure) → Differ names → TermInRange (length names) a → TermInRange (length names) b
    → (IsTerm names sum (tokens_of (term_pieces 0 names a)) a → IsTerm names sum (tokens_of (term_pieces 0 names b)) b → IsPure names Literals (tokens_of (term_pieces 0 names a) ++ symbol r ∷ tokens_of (term_pieces 0 names b)) q)
    → IsPure names (pure_level needs) (tokens_of (term_pieces 0 names a ++ operator r ++ term_pieces 0 names b)) q
unfolding sort_of
compares needs names r a b q d f g make =
    of_literal names _ q needs (rw (tokens-infix r (term_pieces 0 names a) (term_pieces 0 names b)) (make (term_derived 0 names a d f) (term_derived 0 names b d g)))

pub pure_derived : (needs : ℕ) (names : Names) (q : Pure) → Differ names → PureInRange (length names) q → IsPure names (pure_level needs) (tokens_of (pure_pieces needs names q)) q
unfolding pure_pieces PureInRange tokens_of pure_level comparison_of compared pure_block.shape-the_row-Pure-0 pure_block.hidden-the_row-Pure-0 carrier.hidden
pure_derived needs names True d r = of_literal names _ True needs p.truth
pure_derived needs names False d r = of_literal names _ False needs p.falsehood
pure_derived needs names (Eq a b) d r = compares needs names s.Equals a b (Eq a b) d r.0 r.1 (λ h k. p.comparison s.Equals {c = cmp.Equal} h refl k)
pure_derived needs names (Le a b) d r = compares needs names s.AtMost a b (Le a b) d r.0 r.1 (λ h k. p.comparison s.AtMost {c = cmp.AtMost} h refl k)
pure_derived needs names (Lt a b) d r = compares needs names s.Less a b (Lt a b) d r.0 r.1 (λ h k. p.comparison s.Less {c = cmp.Below} h refl k)
pure_derived needs names (either a b) d r = levelled_pure 1 needs names _ _ (either a b) (tokens-infix s.Or (pure_pieces 2 names a) (pure_pieces 1 names b)) (p.disjunction (pure_derived 2 names a d r.0) (pure_derived 1 names b d r.1))
pure_derived needs names (both a b) d r = levelled_pure 2 needs names _ _ (both a b) (tokens-infix s.And (pure_pieces 3 names a) (pure_pieces 2 names b)) (p.conjunction (pure_derived 3 names a d r.0) (pure_derived 2 names b d r.1))
pure_derived needs names (nope a) d r = levelled_pure 3 needs names (before s.Not ++ pure_pieces 3 names a) _ (nope a) refl (p.negation (pure_derived 3 names a d r))
