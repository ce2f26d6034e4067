-- Each name among the tokens of a text is a name.
use Rattle.std.proofs.Common.{◌≡◌, ℕ, zero, suc, ◌+◌, ◌-◌, ◌<◌, ◌≤◌, Bool, true, false, cond, ◌&&◌, ◌==◌, List, [], ◌∷◌, ◌++◌, length, length-drop, take, drop, Option, Some, None, refl, ap, ◌∙◌, arith}
use Rattle.std.specs.Prelude.{codes, nat_le}
use Rattle.std.specs.List.{list_all}
use Rattle.std.specs.Str.{IsUtf8, is_utf8, chars, bytes_eq}
use Rattle.std.proofs.lemmas.Bool.Decides.{nat_tests}
use Rattle.std.proofs.lemmas.Str.{chars-nil, chars-append, IsUtf8-append, is_utf8-from_IsUtf8, IsUtf8-from_is_utf8}
use Rattle.pm_tokens.specs.declared.mode.Mode.{Mode}
use Rattle.pm_tokens.specs.declared.symbol.Symbol.{Symbol}
use Rattle.pm_tokens.specs.declared.symbol.Symbol.TheVariants.{Wildcard}
use Rattle.pm_tokens.specs.Tokens.{symbol}
use Rattle.pm_tokens.specs.Modes.{after}
use Rattle.pm_tokens.specs.Symbols.{begins, keyword, symbol_at}
use Rattle.pm_names.specs.Names.{starts_name, continues_name}
use Rattle.pm_tokens.specs.Characters.{one, only_char, front_char, or_else, first_char, run, name_by, name_len, is_digit, with_len}
use Rattle.pm_names.specs.Names.{is_identifier, is_name}
use Rattle.pm_tokens.specs.Names.{is_named, are_named}
use Rattle.pm_tokens.proofs.Reserved.{not_reserved}
use Rattle.pm_tokens.specs.Pieces.{Piece, gap, token, is_blank, comment, comment_by, comment_end, digits, is_quoted, word, word_by, sign_by, word_or_sign, first_piece}
use Rattle.pm_tokens.specs.Texts.{Lexed, lex, lex_by}
use Rattle.pm_tokens.proofs.Runs.{run_on}

-- ---- the first character

abbrev pub IsChar : List ℕ → ℕ → Type 0
IsChar bs c = IsUtf8 bs × (chars bs ≡ c ∷ [])

one_is : (cs : List ℕ) (c : ℕ) → one cs ≡ Some c → cs ≡ c ∷ []
one_is [] c e = absurd cc
one_is (d ∷ []) c e = let same : d ≡ c = cc in ap (λ x. x ∷ []) same
one_is (d ∷ b ∷ cs) c e = absurd cc

only_is : (bs : List ℕ) (c : ℕ) → only_char bs ≡ Some c → IsChar bs c
unfolding only_char
only_is bs c e = go (is_utf8 bs) refl e
  where
    go : (t : Bool) → is_utf8 bs ≡ t → cond t (one (chars bs)) None ≡ Some c → IsChar bs c
    go true u f = (IsUtf8-from_is_utf8 bs u, one_is (chars bs) c f)
    go false u f = absurd cc

-- the first n bytes are the character c
pub record BeginsWith (bs : List ℕ) (c n : ℕ) : Type 0 where
  pub is : IsChar (take n bs) c
  pub some : 0 < n
  pub within : n ≤ length bs

abbrev pub FirstIs : List ℕ → Option (ℕ × ℕ) → Type 0
FirstIs bs None = Unit {0}
FirstIs bs (Some x) = BeginsWith bs x.0 x.1

front_is : (n : ℕ) (bs : List ℕ) → 0 < n → FirstIs bs (front_char n bs)
unfolding front_char
front_is n bs some = go (nat_le n (length bs)) refl
  where
    spelled : n ≤ length bs → (o : Option ℕ) → only_char (take n bs) ≡ o → FirstIs bs (with_len n o)
    spelled le None e = tt
    spelled le (Some c) e = record { is = only_is (take n bs) c e; some = some; within = le }

    go : (t : Bool) → nat_le n (length bs) ≡ t → FirstIs bs (cond t (with_len n (only_char (take n bs))) None)
    go true e = spelled (grind (arith, nat_tests, e)) (only_char (take n bs)) refl
    go false e = tt

either_is : (bs : List ℕ) (a b : Option (ℕ × ℕ)) → FirstIs bs a → FirstIs bs b → FirstIs bs (or_else a b)
either_is bs (Some x) b f g = f
either_is bs None b f g = g

pub first_is : (bs : List ℕ) → FirstIs bs (first_char bs)
unfolding first_char
first_is bs =
    either_is bs (front_char 1 bs) _ (front_is 1 bs (omega arith))
    (either_is bs (front_char 2 bs) _ (front_is 2 bs (omega arith))
    (either_is bs (front_char 3 bs) (front_char 4 bs) (front_is 3 bs (omega arith)) (front_is 4 bs (omega arith))))

-- ---- runs and names

abbrev IsRun : List ℕ → Type 0
IsRun w = IsUtf8 w × (list_all continues_name (chars w) ≡ true)

no_run : IsRun []
no_run = (([], (refl, refl)), rw chars-nil refl)

take_both : (n m : ℕ) (bs : List ℕ) → n ≤ length bs → take (n + m) bs ≡ take n bs ++ take m (drop n bs)
take_both zero m bs le = ap (λ k. take k bs) (omega arith)
take_both (suc n) m [] le = absurd (omega arith)
take_both (suc n) m (b ∷ bs) le =
    let same : suc n + m ≡ suc (n + m) = omega arith in
    ap (λ k. take k (b ∷ bs)) same ∙ ap (λ xs. b ∷ xs) (take_both n m bs (omega arith))

char_then : (x y : List ℕ) (c : ℕ) → IsChar x c → IsUtf8 y → IsUtf8 (x ++ y) × (chars (x ++ y) ≡ c ∷ chars y)
char_then x y c is u = (IsUtf8-append x y is.0 u, chars-append x y is.0 ∙ ap (λ cs. cs ++ chars y) is.1)

run_is : (k : ℕ) (bs : List ℕ) → length bs ≤ k → IsRun (take (run 0 bs) bs)
unfolding run
run_is k [] le = no_run
run_is zero (b ∷ bs) le = absurd (omega arith)
run_is (suc k) (b ∷ bs) le = go (λ rest short. run_is k rest short) (first_char (b ∷ bs)) refl (first_is (b ∷ bs))
  where
    all : List ℕ
    all = b ∷ bs

    ends : run 0 all ≡ 0 → IsRun (take (run 0 all) all)
    ends e = rw e no_run

    Shorter : Type 0
    Shorter = (rest : List ℕ) → length rest ≤ k → IsRun (take (run 0 rest) rest)

    more : Shorter → (c n : ℕ) → first_char all ≡ Some (c, n) → BeginsWith all c n → (t : Bool) → continues_name c ≡ t → IsRun (take (run 0 all) all)
    more shorter c n e first true pass =
        let rest = drop n all in
        let turn = run_on all c n 0 (run 0 all) e first.some first.within pass (omega arith) in
        let len : run 0 all ≡ n + run 0 rest = omega (arith, turn) in
        let short : length rest ≤ k = omega (arith, length-drop n all, first.some, le) in
        let later = shorter rest short in
        let both = char_then (take n all) (take (run 0 rest) rest) c first.is later.0 in
        rw (len, take_both n (run 0 rest) all first.within) (both.0, ap (list_all continues_name) both.1 ∙ rw pass later.1)
    more shorter c n e first false pass = ends (rw (e, pass) refl)

    go : Shorter → (o : Option (ℕ × ℕ)) → first_char all ≡ o → FirstIs all o → IsRun (take (run 0 all) all)
    go shorter None e f = ends (rw e refl)
    go shorter (Some x) e f = more shorter x.0 x.1 e f (continues_name x.0) refl

abbrev IsIdentifier : List ℕ → Type 0
IsIdentifier w = (is_utf8 w ≡ true) × (is_identifier (chars w) ≡ true)

name_is : (bs : List ℕ) → 0 < name_len bs → IsIdentifier (take (name_len bs) bs)
unfolding name_len is_identifier
name_is bs some = go (first_char bs) (first_is bs) some
  where
    starts : (c n : ℕ) → BeginsWith bs c n → (t : Bool) → starts_name c ≡ t → 0 < cond t (n + run 0 (drop n bs)) 0 → IsIdentifier (take (cond t (n + run 0 (drop n bs)) 0) bs)
    starts c n first true pass s =
        let rest = drop n bs in
        let later = run_is (length rest) rest (omega arith) in
        let both = char_then (take n bs) (take (run 0 rest) rest) c first.is later.0 in
        rw (take_both n (run 0 rest) bs first.within) (is_utf8-from_IsUtf8 _ both.0, ap is_identifier both.1 ∙ rw pass later.1)
    starts c n first false pass s = absurd (omega (arith, s))

    go : (o : Option (ℕ × ℕ)) → FirstIs bs o → 0 < name_by o bs → IsIdentifier (take (name_by o bs) bs)
    go None f s = absurd (omega (arith, s))
    go (Some x) f s = starts x.0 x.1 f (starts_name x.0) refl s

-- ---- pieces and texts

abbrev PieceNamed : Option (Piece × ℕ) → Type 0
PieceNamed None = Unit {0}
PieceNamed (Some (gap, n)) = Unit {0}
PieceNamed (Some (token t, n)) = is_named t ≡ true

either_named : (b : Bool) (x y : Option (Piece × ℕ)) → PieceNamed x → PieceNamed y → PieceNamed (cond b x y)
either_named true x y f g = f
either_named false x y f g = g

comment_named : (bs : List ℕ) → PieceNamed (comment bs)
unfolding comment
comment_named bs = go (comment_end 0 2 1 bs)
  where
    go : (o : Option ℕ) → PieceNamed (comment_by o)
    go None = tt
    go (Some n) = tt

digits_named : (bs : List ℕ) → PieceNamed (digits bs)
unfolding digits
digits_named bs = refl

word_named : (mode : Mode) (w : List ℕ) → IsIdentifier w → is_named (word mode w) ≡ true
unfolding word is_name
word_named mode w is = quoted (is_quoted mode && bytes_eq w (codes "_"))
  where
    plain : (o : Option Symbol) → keyword w ≡ o → is_named (word_by w o) ≡ true
    plain (Some s) e = refl
    plain None e = rw (is.0, is.1, not_reserved w e) refl

    quoted : (b : Bool) → is_named (cond b (symbol Wildcard) (word_by w (keyword w))) ≡ true
    quoted true = refl
    quoted false = plain (keyword w) refl

sign_named : (mode : Mode) (bs : List ℕ) → PieceNamed (sign_by (symbol_at mode bs))
sign_named mode bs = go (symbol_at mode bs)
  where
    go : (o : Option (Symbol × ℕ)) → PieceNamed (sign_by o)
    go None = tt
    go (Some s) = refl

word_or_sign_named : (mode : Mode) (bs : List ℕ) → PieceNamed (word_or_sign mode (name_len bs) bs)
unfolding word_or_sign
word_or_sign_named mode bs = go (name_len bs == 0) refl
  where
    n : ℕ
    n = name_len bs

    go : (b : Bool) → (n == 0) ≡ b → PieceNamed (cond b (sign_by (symbol_at mode bs)) (Some (token (word mode (take n bs)), n)))
    go true e = sign_named mode bs
    go false e = word_named mode (take n bs) (name_is bs (grind (arith, nat_tests, e)))

first_named : (mode : Mode) (bs : List ℕ) → PieceNamed (first_piece mode bs)
unfolding first_piece
first_named mode [] = tt
first_named mode (b ∷ bs) =
    either_named (is_blank b) _ _ tt
    (either_named (begins (codes "(*") (b ∷ bs)) _ _ (comment_named (b ∷ bs))
    (either_named (is_digit b) _ _ (digits_named (b ∷ bs)) (word_or_sign_named mode (b ∷ bs))))

pub lex_named : (mode : Mode) (left at : ℕ) (bs : List ℕ) → are_named (lex mode left at bs).0 ≡ true
unfolding lex
lex_named mode zero at [] = refl
lex_named mode (suc left) at [] = refl
lex_named mode (suc left) at (b ∷ bs) = lex_named mode left (at + 1) bs
lex_named mode zero at (b ∷ bs) = go (λ m left. lex_named m left (at + 1) bs) (first_piece mode (b ∷ bs)) (first_named mode (b ∷ bs))
  where
    next : Mode → ℕ → Lexed
    next m left = lex m left (at + 1) bs

    go : ((m : Mode) (left : ℕ) → are_named (next m left).0 ≡ true) → (o : Option (Piece × ℕ)) → PieceNamed o → are_named (lex_by mode at o next).0 ≡ true
    go later None f = refl
    go later (Some (gap, n)) f = later mode (n - 1)
    go later (Some (token t, n)) f = rw f (later (after mode t) (n - 1))
