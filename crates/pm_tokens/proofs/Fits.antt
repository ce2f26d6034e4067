-- Each piece has at least one byte and no more than there are; so a text has one list of tokens, at rising offsets.
use Rattle.std.proofs.Common.{◌≡◌, ℕ, zero, suc, ◌+◌, ◌-◌, ◌<◌, ◌≤◌, Bool, true, false, cond, ◌==◌, List, [], ◌∷◌, length, length-drop, take, drop, Option, Some, None, refl, sym, ap, subst, ◌∙◌, arith}
use Rattle.std.specs.Prelude.{codes}
use Rattle.std.proofs.lemmas.Bool.Decides.{nat_tests}
use Rattle.std.proofs.lemmas.List.Sums.{prefix_len-le-length}
use Rattle.pm_tokens.specs.declared.mode.Mode.{Mode}
use Rattle.pm_tokens.specs.declared.mode.Mode.TheVariants.{Start}
use Rattle.pm_tokens.specs.declared.symbol.Symbol.{Symbol}
use Rattle.pm_tokens.specs.Tokens.{Place, place}
use Rattle.pm_tokens.specs.Modes.{after}
use Rattle.pm_tokens.specs.Symbols.{begins, symbol_at}
use Rattle.pm_names.specs.Names.{starts_name, continues_name}
use Rattle.pm_tokens.specs.Characters.{first_char, run, name_by, name_len, is_digit}
use Rattle.pm_tokens.specs.Pieces.{Piece, gap, token, is_blank, comment, comment_by, comment_step, comment_end, digits, word, sign_by, word_or_sign, first_piece}
use Rattle.pm_tokens.specs.Texts.{Lexed, put, lex, lex_by, added, behind, AreTokens, stops, passes, takes, Rise, HasOneList}
use Rattle.pm_tokens.proofs.Runs.{run_on}
use Rattle.pm_tokens.proofs.Named.{BeginsWith, FirstIs, first_is}
use Rattle.pm_tokens.proofs.Tables.{SymbolFits, symbol_fits}
use Rattle.pm_tokens.proofs.Lexing.{behind_all, lex_on, lex_ends}

-- ---- pieces

abbrev PieceFits : List ℕ → Option (Piece × ℕ) → Type 0
PieceFits bs None = Unit {0}
PieceFits bs (Some x) = (0 < x.1) × (x.1 ≤ length bs)

comment_within : (at left depth : ℕ) (bs : List ℕ) (n : ℕ) → comment_end at left depth bs ≡ Some n → (at + left ≤ n) × (n ≤ at + length bs)
unfolding comment_end
comment_within at (suc left) depth [] n e = absurd cc
comment_within at (suc left) depth (b ∷ bs) n e = let h = comment_within (at + 1) left depth bs n e in (omega (arith, h.0), omega (arith, h.1))
comment_within at zero zero bs n e = let same : at ≡ n = cc in (omega (arith, same), omega (arith, same))
comment_within at zero (suc d) [] n e = absurd cc
comment_within at zero (suc d) (b ∷ bs) n e =
    let step = comment_step (suc d) (b ∷ bs) in
    let h = comment_within (at + 1) (step.1 - 1) step.0 bs n e in (omega (arith, h.0), omega (arith, h.1))

comment_fits : (bs : List ℕ) → PieceFits bs (comment bs)
unfolding comment
comment_fits bs = go (comment_end 0 2 1 bs) refl
  where
    go : (o : Option ℕ) → comment_end 0 2 1 bs ≡ o → PieceFits bs (comment_by o)
    go None e = tt
    go (Some n) e = let h = comment_within 0 2 1 bs n e in (omega (arith, h.0), omega (arith, h.1))

digits_fit : (b : ℕ) (bs : List ℕ) → is_digit b ≡ true → PieceFits (b ∷ bs) (digits (b ∷ bs))
unfolding digits
digits_fit b bs is = (rw is (omega arith), prefix_len-le-length is_digit (b ∷ bs))

run_within : (k : ℕ) (bs : List ℕ) → length bs ≤ k → run 0 bs ≤ length bs
unfolding run
run_within k [] le = omega arith
run_within zero (b ∷ bs) le = absurd (omega arith)
run_within (suc k) (b ∷ bs) le = go (λ rest short. run_within k rest short) (first_char (b ∷ bs)) refl (first_is (b ∷ bs))
  where
    all : List ℕ
    all = b ∷ bs

    Shorter : Type 0
    Shorter = (rest : List ℕ) → length rest ≤ k → run 0 rest ≤ length rest

    ends : run 0 all ≡ 0 → run 0 all ≤ length all
    ends e = omega (arith, e)

    more : Shorter → (c n : ℕ) → first_char all ≡ Some (c, n) → BeginsWith all c n → (t : Bool) → continues_name c ≡ t → run 0 all ≤ length all
    more shorter c n e first true pass =
        let rest = drop n all in
        let turn = run_on all c n 0 (run 0 all) e first.some first.within pass (omega arith) in
        let len : length rest ≡ length all - n = length-drop n all in
        let later = shorter rest (omega (arith, len, first.some, le)) in
        omega (arith, turn, later, len, first.within)
    more shorter c n e first false pass = ends (rw (e, pass) refl)

    go : Shorter → (o : Option (ℕ × ℕ)) → first_char all ≡ o → FirstIs all o → run 0 all ≤ length all
    go shorter None e f = ends (rw e refl)
    go shorter (Some x) e f = more shorter x.0 x.1 e f (continues_name x.0) refl

name_within : (bs : List ℕ) → name_len bs ≤ length bs
unfolding name_len
name_within bs = go (first_char bs) (first_is bs)
  where
    starts : (c n : ℕ) → BeginsWith bs c n → (t : Bool) → cond t (n + run 0 (drop n bs)) 0 ≤ length bs
    starts c n first true =
        let len : length (drop n bs) ≡ length bs - n = length-drop n bs in
        let later = run_within (length (drop n bs)) (drop n bs) (omega arith) in
        omega (arith, later, len, first.within)
    starts c n first false = omega arith

    go : (o : Option (ℕ × ℕ)) → FirstIs bs o → name_by o bs ≤ length bs
    go None f = omega arith
    go (Some x) f = starts x.0 x.1 f (starts_name x.0)

word_or_sign_fits : (mode : Mode) (bs : List ℕ) → PieceFits bs (word_or_sign mode (name_len bs) bs)
unfolding word_or_sign
word_or_sign_fits mode bs = go (name_len bs == 0) refl
  where
    n : ℕ
    n = name_len bs

    sign : (o : Option (Symbol × ℕ)) → SymbolFits bs o → PieceFits bs (sign_by o)
    sign None f = tt
    sign (Some s) f = f

    go : (b : Bool) → (n == 0) ≡ b → PieceFits bs (cond b (sign_by (symbol_at mode bs)) (Some (token (word mode (take n bs)), n)))
    go true e = sign (symbol_at mode bs) (symbol_fits mode bs)
    go false e = (grind (arith, nat_tests, e), name_within bs)

piece_fits : (mode : Mode) (bs : List ℕ) → PieceFits bs (first_piece mode bs)
unfolding first_piece
piece_fits mode [] = tt
piece_fits mode (b ∷ bs) = blank (is_blank b)
  where
    all : List ℕ
    all = b ∷ bs

    digit : (t : Bool) → is_digit b ≡ t → PieceFits all (cond t (digits all) (word_or_sign mode (name_len all) all))
    digit true e = digits_fit b bs e
    digit false e = word_or_sign_fits mode all

    opens : (t : Bool) → PieceFits all (cond t (comment all) (cond (is_digit b) (digits all) (word_or_sign mode (name_len all) all)))
    opens true = comment_fits all
    opens false = digit (is_digit b) refl

    blank : (t : Bool) → PieceFits all (cond t (Some (gap, 1)) (cond (begins (codes "(*") all) (comment all) (cond (is_digit b) (digits all) (word_or_sign mode (name_len all) all))))
    blank true = (omega arith, omega arith)
    blank false = opens (begins (codes "(*") all)

-- ---- one list

turn : (mode : Mode) (at n : ℕ) (bs : List ℕ) (p : Piece) → first_piece mode bs ≡ Some (p, n) → (0 < n) × (n ≤ length bs)
turn mode at n bs p is = subst (λ found. PieceFits bs found) is (piece_fits mode bs)

only_list : {mode : Mode} {at stop : ℕ} {bs : List ℕ} {ps : List Place} → AreTokens mode at bs ps stop → lex mode 0 at bs ≡ (ps, stop)
only_list (stops {mode = m} {at = k} {bytes = bs} is) = lex_ends m k bs is
only_list (passes {mode = m} {at = k} {n = n} {bytes = bs} is later) =
    let fits = turn m k n bs gap is in lex_on m k n bs gap is fits.0 fits.1 ∙ only_list later
only_list (takes {mode = m} {at = k} {n = n} {bytes = bs} {t = t} is later) =
    let fits = turn m k n bs (token t) is in lex_on m k n bs (token t) is fits.0 fits.1 ∙ ap (λ rest. put (place t k) rest) (only_list later)

abbrev Listed : Mode → ℕ → List ℕ → Lexed → Type 0
Listed mode at bs found = AreTokens mode at bs found.0 found.1

-- lists of all texts of at most k bytes
abbrev Lists : ℕ → Type 0
Lists k = (mode : Mode) (at : ℕ) (bs : List ℕ) → length bs ≤ k → Listed mode at bs (lex mode 0 at bs)

took : (mode : Mode) (at n : ℕ) (bs : List ℕ) (p : Piece) → first_piece mode bs ≡ Some (p, n)
    → Listed (behind mode p) (at + n) (drop n bs) (lex (behind mode p) 0 (at + n) (drop n bs)) → Listed mode at bs (behind_all (added at p) (lex (behind mode p) 0 (at + n) (drop n bs)))
took mode at n bs gap is later = passes is later
took mode at n bs (token t) is later = takes is later

ended : (mode : Mode) (at : ℕ) (bs : List ℕ) → first_piece mode bs ≡ None → Listed mode at bs (lex mode 0 at bs)
ended mode at bs is = subst (λ found. Listed mode at bs found) (sym (lex_ends mode at bs is)) (stops is)

lists : (k : ℕ) → Lists k
lists zero mode at bs le = go (first_piece mode bs) refl
  where
    go : (o : Option (Piece × ℕ)) → first_piece mode bs ≡ o → Listed mode at bs (lex mode 0 at bs)
    go None e = ended mode at bs e
    go (Some (p, n)) e = let fits = turn mode at n bs p e in absurd (omega (arith, fits.0, fits.1, le))
lists (suc k) mode at bs le = go (lists k) (first_piece mode bs) refl
  where
    go : Lists k → (o : Option (Piece × ℕ)) → first_piece mode bs ≡ o → Listed mode at bs (lex mode 0 at bs)
    go shorter None e = ended mode at bs e
    go shorter (Some (p, n)) e =
        let fits = turn mode at n bs p e in
        let later = shorter (behind mode p) (at + n) (drop n bs) (omega (arith, length-drop n bs, fits.0, fits.1, le)) in
        subst (λ found. Listed mode at bs found) (sym (lex_on mode at n bs p e fits.0 fits.1)) (took mode at n bs p e later)

pub one_list : HasOneList
one_list text = (lists (length text) Start 0 text (omega arith), λ ps stop are. only_list are)

-- ---- offsets

lower : (at : ℕ) (ps : List Place) (stop : ℕ) → Rise (at + 1) ps stop → Rise at ps stop
lower at [] stop h = omega (arith, h)
lower at (place t k ∷ ps) stop h = (omega (arith, h.0), h.1)

pub lex_rises : (mode : Mode) (left at : ℕ) (bs : List ℕ) → Rise at (lex mode left at bs).0 (lex mode left at bs).1
unfolding lex
lex_rises mode zero at [] = omega arith
lex_rises mode (suc left) at [] = omega arith
lex_rises mode (suc left) at (b ∷ bs) = lower at _ _ (lex_rises mode left (at + 1) bs)
lex_rises mode zero at (b ∷ bs) = go (λ m left. lex_rises m left (at + 1) bs) (first_piece mode (b ∷ bs))
  where
    next : Mode → ℕ → Lexed
    next m left = lex m left (at + 1) bs

    go : ((m : Mode) (left : ℕ) → Rise (at + 1) (next m left).0 (next m left).1) → (o : Option (Piece × ℕ)) → Rise at (lex_by mode at o next).0 (lex_by mode at o next).1
    go later None = omega arith
    go later (Some (gap, n)) = lower at _ _ (later mode (n - 1))
    go later (Some (token t, n)) = (omega arith, later (after mode t) (n - 1))
