-- What is printed of terms, pure formulas and formulas is read token by token.
use Rattle.std.proofs.Common.{◌≡◌, ℕ, zero, suc, ◌+◌, ◌/◌, ◌<◌, ◌≤◌, ◌^◌, Bool, true, false, ◌==◌, cond, List, [], ◌∷◌, ◌++◌, length, get_or, refl, ◌∙◌, arith}
use Rattle.std.specs.Prelude.{nat_le}
use Rattle.std.specs.Fmt.{decimal}
use Rattle.std.specs.Int.{is_in_range}
use Rattle.std.specs.List.{AllByRecursion, list_all}
use Rattle.std.specs.Str.{IsAscii, is_utf8, chars}
use Rattle.std.proofs.Math.Nat.{div-le_self}
use Rattle.std.proofs.lemmas.Bool.Decides.{nat_tests}
use Rattle.std.proofs.lemmas.Fmt.{IsAscii-decimal}
use Rattle.std.proofs.lemmas.List.{append-nil, length-map}
use Rattle.std.proofs.lemmas.Option.{slice_get_within}
use Rattle.std.proofs.lemmas.Str.{chars-IsAscii, is_utf8-from_IsUtf8, IsUtf8-from_ascii}
use Rattle.std.proofs.lemmas.Str.Ascii.{IsAscii-cons}
use Rattle.std.proofs.lemmas.Bool.{and_parts}
use Rattle.unicode_ident.proofs.IdentLemmas.{is_xid_start-ascii, is_xid_continue-ascii}
use Rattle.pm_logic.specs.declared.formula.Term.{Term}
use Rattle.pm_logic.specs.declared.formula.Term.TheVariants.{Lit, Var}
use Rattle.pm_logic.specs.declared.formula.Pure.{Pure}
use Rattle.pm_logic.specs.declared.formula.Pure.TheVariants.{True, False, Eq, Le, Lt}
use Rattle.pm_logic.specs.declared.formula.Formula.{Formula}
use Rattle.pm_logic.specs.declared.formula.Formula.TheVariants.{Pure as Fact, Pts, Call}
use Rattle.pm_logic.specs.declared.formula.Pred.{Pred}
use Rattle.pm_logic.specs.declared.formula.TheConstants.{UNIT}
use Rattle.pm_logic.specs.Trees.{add, sub, neg, scale, both, either, nope, Sep, Wand, And, Or, Imp, All, Ex, Later, Pers, Upd}
use Rattle.pm_logic.specs.Size.{depth_of}
use Rattle.pm_tokens.specs.declared.mode.Mode.TheVariants.{Start}
use Rattle.pm_tokens.specs.declared.symbol.Symbol.{Symbol}
use Rattle.pm_tokens.specs.declared.symbol.Symbol.TheVariants as s
use Rattle.pm_tokens.specs.Characters.{is_digit}
use Rattle.pm_tokens.specs.Tokens.{name}
use Rattle.pm_names.specs.Names.{continues_name, is_identifier, is_reserved, is_name}
use Rattle.pm_dtext.specs.Ranges.{TermInRange, PureInRange, InRange}
use Rattle.pm_dtext.specs.Texts.{arities_of}
use Rattle.pm_print.specs.Printing.{Names, Piece, blank, token, sign, operator, quantifier, bound, binder_name, names_of, term_pieces, terms_pieces, pure_pieces, units_pieces, fraction, common_divisor, formula_pieces}
use Rattle.pm_roundtrip.specs.PrintingLaws.{IsLexed, PrintingIsLexed}
use Rattle.pm_roundtrip.proofs.LexedPieces.{Lexes, lexes_none}
use Rattle.pm_roundtrip.proofs.Standing as sign_of
use Rattle.pm_roundtrip.proofs.Standing.{IsPrefix, decimal_spells}
use Rattle.pm_roundtrip.proofs.Parts.{Part, done, Link, empty, linked, linked_right, infix_link, comma_link, fraction_link, prefixed, levelled, pure_group, word_part, literal_part, negated, true_part, false_part, called}

-- each of these is a name
abbrev pub Words : Names → Type 0
Words names = (i : ℕ) → i < length names → is_name (get_or names i []) ≡ true

pub term_part : (needs : ℕ) (names : Names) (t : Term) → Words names → TermInRange (length names) t → Part (term_pieces needs names t)
unfolding term_pieces TermInRange
term_part needs names (Lit z) w r = literal_part z r
term_part needs names (Var i) w r = word_part (get_or names i []) (w i r)
term_part needs names (add a b) w r = levelled 1 needs _ (linked _ _ _ (term_part 1 names a w r.0) (infix_link sign_of.plus) (term_part 2 names b w r.1))
term_part needs names (sub a b) w r = levelled 1 needs _ (linked _ _ _ (term_part 1 names a w r.0) (infix_link sign_of.minus) (term_part 2 names b w r.1))
term_part needs names (neg a) w r = levelled 2 needs _ (negated _ (term_part 0 names a w r))
term_part needs names (scale z a) w r = levelled 2 needs _ (linked _ _ _ (literal_part z r.0) (infix_link sign_of.asterisk) (term_part 2 names a w r.1))

pub terms_part : (names : Names) (ts : List Term) → Words names → AllByRecursion (TermInRange (length names)) ts → Part (terms_pieces names ts)
unfolding terms_pieces
terms_part names [] w r = empty
terms_part names (t ∷ []) w r = term_part 0 names t w r.0
terms_part names (t ∷ u ∷ ts) w r = linked_right (term_pieces 0 names t) (sign s.Comma ∷ blank ∷ []) (terms_pieces names (u ∷ ts)) (term_part 0 names t w r.0) comma_link (terms_part names (u ∷ ts) w r.1)

pub pure_part : (needs : ℕ) (names : Names) (p : Pure) → Words names → PureInRange (length names) p → Part (pure_pieces needs names p)
unfolding pure_pieces PureInRange
pure_part needs names True w r = true_part
pure_part needs names False w r = false_part
pure_part needs names (Eq a b) w r = linked _ _ _ (term_part 0 names a w r.0) (infix_link sign_of.equals) (term_part 0 names b w r.1)
pure_part needs names (Le a b) w r = linked _ _ _ (term_part 0 names a w r.0) (infix_link sign_of.at_most) (term_part 0 names b w r.1)
pure_part needs names (Lt a b) w r = linked _ _ _ (term_part 0 names a w r.0) (infix_link sign_of.less) (term_part 0 names b w r.1)
pure_part needs names (either p q) w r = levelled 1 needs _ (linked _ _ _ (pure_part 2 names p w r.0) (infix_link sign_of.or) (pure_part 1 names q w r.1))
pure_part needs names (both p q) w r = levelled 2 needs _ (linked _ _ _ (pure_part 3 names p w r.0) (infix_link sign_of.and) (pure_part 2 names q w r.1))
pure_part needs names (nope p) w r = levelled 3 needs _ (prefixed _ sign_of.negation (pure_part 3 names p w r))

units_link : (u : ℕ) → u ≤ UNIT → Link (units_pieces u)
unfolding units_pieces
units_link u most = go (u == UNIT)
  where
    n : ℕ
    n = common_divisor u UNIT

    go : (b : Bool) → Link (cond b (operator s.PointsTo) (blank ∷ sign s.PointsTo ∷ (fraction (u / n) (UNIT / n) ++ blank ∷ [])))
    go true = infix_link sign_of.points_to
    go false = fraction_link (u / n) (UNIT / n) (omega (arith, div-le_self u n)) (omega (arith, div-le_self UNIT n))

-- ---- binders

digits_continue : (ds : List ℕ) → list_all is_digit ds ≡ true → list_all continues_name ds ≡ true
digits_continue [] all = refl
digits_continue (d ∷ ds) all =
    let p = and_parts (is_digit d) (list_all is_digit ds) all in
    let digit : is_in_range 48 57 d ≡ true = p.0 in
    let small : d < 128 = (let h = (and_parts (nat_le 48 d) (nat_le d 57) p.0).1 in grind (arith, nat_tests, h)) in
    let goes : continues_name d ≡ true = rw (is_xid_continue-ascii d small, digit) refl in
    rw (goes) (digits_continue ds p.1)

-- the name of a binder whose number is small
pub binder_is_name : (k : ℕ) → k < 2 ^ 64 → is_name (binder_name k) ≡ true
unfolding is_name is_identifier is_reserved
binder_is_name k small =
    let w : List ℕ = binder_name k in
    let ascii : IsAscii w = IsAscii-cons 95 (decimal k) (omega arith) (IsAscii-decimal k small) in
    let text : is_utf8 w ≡ true = is_utf8-from_IsUtf8 w (IsUtf8-from_ascii w ascii) in
    let same : chars w ≡ w = chars-IsAscii w ascii in
    let goes : list_all continues_name (decimal k) ≡ true = digits_continue (decimal k) (decimal_spells k small).digits in
    rw (text, same, is_xid_start-ascii 95 (omega arith), goes) refl

pub bound_words : (names : Names) → length names < 2 ^ 64 → Words names → Words (bound names)
bound_words names small w zero h = binder_is_name (length names) small
bound_words names small w (suc i) h = w i (omega arith)

quantified : {r : Symbol} (names : Names) (ps : List Piece) → IsPrefix r → length names < 2 ^ 64 → Part ps → Part (quantifier r names ++ ps)
quantified names ps is small p = prefixed _ is (linked_right (token (name (binder_name (length names))) ∷ []) (sign s.Comma ∷ blank ∷ []) ps (word_part _ (binder_is_name (length names) small)) comma_link p)

-- ---- formulas

pub formula_part : (preds : List Pred) (needs : ℕ) (names : Names) (f : Formula) → Words (names_of preds) → Words names → InRange (arities_of preds) (length names) f → length names + depth_of f < 2 ^ 64 → Part (formula_pieces preds needs names f)
unfolding formula_pieces InRange depth_of
formula_part preds needs names (All a) v w r few = levelled 0 needs _ (quantified names _ sign_of.forall (omega arith) (formula_part preds 0 (bound names) a v (bound_words names (omega arith) w) r (omega arith)))
formula_part preds needs names (Ex a) v w r few = levelled 0 needs _ (quantified names _ sign_of.exists (omega arith) (formula_part preds 0 (bound names) a v (bound_words names (omega arith) w) r (omega arith)))
formula_part preds needs names (Upd a) v w r few = levelled 0 needs _ (prefixed _ sign_of.update (formula_part preds 0 names a v w r (omega arith)))
formula_part preds needs names (Wand a b) v w r few = levelled 0 needs _ (linked _ _ _ (formula_part preds 1 names a v w r.0 (omega arith)) (infix_link sign_of.wand) (formula_part preds 0 names b v w r.1 (omega arith)))
formula_part preds needs names (Imp a b) v w r few = levelled 0 needs _ (linked _ _ _ (formula_part preds 1 names a v w r.0 (omega arith)) (infix_link sign_of.arrow) (formula_part preds 0 names b v w r.1 (omega arith)))
formula_part preds needs names (Or a b) v w r few = levelled 1 needs _ (linked _ _ _ (formula_part preds 2 names a v w r.0 (omega arith)) (infix_link sign_of.or) (formula_part preds 1 names b v w r.1 (omega arith)))
formula_part preds needs names (And a b) v w r few = levelled 2 needs _ (linked _ _ _ (formula_part preds 3 names a v w r.0 (omega arith)) (infix_link sign_of.and) (formula_part preds 2 names b v w r.1 (omega arith)))
formula_part preds needs names (Sep a b) v w r few = levelled 2 needs _ (linked _ _ _ (formula_part preds 3 names a v w r.0 (omega arith)) (infix_link sign_of.star) (formula_part preds 2 names b v w r.1 (omega arith)))
formula_part preds needs names (Later a) v w r few = levelled 3 needs _ (prefixed _ sign_of.later (formula_part preds 3 names a v w r (omega arith)))
formula_part preds needs names (Pers a) v w r few = levelled 3 needs _ (prefixed _ sign_of.persistently (formula_part preds 3 names a v w r (omega arith)))
formula_part preds needs names (Fact p) v w r few = pure_group _ (pure_part 0 names p w r)
formula_part preds needs names (Pts l u x) v w r few = linked _ _ _ (term_part 3 names l w r.0) (units_link u r.2) (term_part 3 names x w r.3)
formula_part preds needs names (Call q ts) v w r few =
    let within : q < length (names_of preds) = omega (arith, slice_get_within (arities_of preds) q (length ts) r.0, length-map preds (λ p. p.arity), length-map preds (λ p. p.name)) in
    called _ _ (v q within) (terms_part names ts w r.1)

-- ---- whole texts

pub lexed : (ps : List Piece) → Part ps → IsLexed ps
lexed ps p =
    let all : Lexes ps = rw (append-nil ps) at (p.lexes [] done lexes_none) in
    let found = all.lexes Start 0 refl in
    record { same = found.same; end = found.end ∙ omega arith }

pub printing_is_lexed : PrintingIsLexed
printing_is_lexed = record {
  terms = λ names a w r. lexed _ (term_part 0 names a w.each r);
  pures = λ names p w r. lexed _ (pure_part 0 names p w.each r);
  formulas = λ preds names f h. lexed _ (formula_part preds 0 names f h.predicates.each h.variables.found.each h.in_range h.levels);
}
