-- A name has no blank and no line's end in it.
use Rattle.std.proofs.Common.{◌≡◌, ◌≢◌, ◌&&◌, ◌||◌, ◌==◌, ℕ, ◌≤◌, ◌+◌, ◌/◌, ◌%◌, Bool, true, false, cond, not, List, [], ◌∷◌, ◌++◌, refl, sym, ◌∙◌, ap, subst, arith}
use Rattle.std.specs.List.{list_all}
use Rattle.std.specs.Str.{chars, is_utf8}
use Rattle.std.proofs.lemmas.Bool.Decides.{nat_tests}
use Rattle.std.proofs.lemmas.Str.{chars-encodes, IsUtf8-from_is_utf8}
use Rattle.unicode_ident.proofs.IdentLemmas.{is_xid_start-ascii, is_xid_continue-ascii}
use Rattle.pm_names.specs.Names.{starts_name, continues_name, is_identifier, is_reserved, is_name}
use Rattle.pm_names.proofs.Characters.{both_true}
use lib.Utf8.{encode, encodes}
use lib.Dec.{ltb}

abbrev pub is_word_byte : ℕ → Bool
is_word_byte b = not (b == 32) && not (b == 10)

abbrev pub is_word : List ℕ → Bool
is_word w = list_all is_word_byte w

is_word_unless : (b : ℕ) → b ≢ 32 → b ≢ 10 → is_word_byte b ≡ true
is_word_unless b h g =
    let space : (b == 32) ≡ false = grind (arith, nat_tests) in
    let end : (b == 10) ≡ false = grind (arith, nat_tests) in
    rw space (rw end refl)

-- ---- the bytes of characters

either_word : (b : Bool) (x y : List ℕ) → is_word x ≡ true → is_word y ≡ true → is_word (cond b x y) ≡ true
either_word true x y h k = h
either_word false x y h k = k

one_word : (b : ℕ) (w : List ℕ) → is_word_byte b ≡ true → is_word w ≡ true → is_word (b ∷ w) ≡ true
one_word b w h k = rw h k

high : (b : ℕ) → 128 ≤ b → is_word_byte b ≡ true
high b h = is_word_unless b (λ e. absurd (omega arith)) (λ e. absurd (omega arith))

next_word : (n : ℕ) (w : List ℕ) → is_word w ≡ true → is_word ((128 + n % 64) ∷ w) ≡ true
next_word n w k = one_word (128 + n % 64) w (high (128 + n % 64) (omega arith)) k

encode_word : (c : ℕ) → is_word_byte c ≡ true → is_word (encode c) ≡ true
unfolding encode
encode_word c h =
    let one = (128 + c % 64) ∷ [] in
    let two = (128 + c / 64 % 64) ∷ one in
    let three = (128 + c / 4096 % 64) ∷ two in
    let one_is : is_word one ≡ true = next_word c [] refl in
    let two_is : is_word two ≡ true = next_word (c / 64) one one_is in
    let three_is : is_word three ≡ true = next_word (c / 4096) two two_is in
    either_word (ltb c 128) _ _ (one_word c [] h refl)
    (either_word (ltb c 2048) _ _ (one_word (192 + c / 64) one (high (192 + c / 64) (omega arith)) one_is)
    (either_word (ltb c 65536) _ _ (one_word (224 + c / 4096) two (high (224 + c / 4096) (omega arith)) two_is)
    (one_word (240 + c / 262144) three (high (240 + c / 262144) (omega arith)) three_is)))

append_word : (x y : List ℕ) → is_word x ≡ true → is_word y ≡ true → is_word (x ++ y) ≡ true
append_word [] y h k = k
append_word (b ∷ x) y h k =
    let p = both_true (is_word_byte b) (is_word x) h in
    one_word b (x ++ y) p.0 (append_word x y p.1 k)

encodes_word : (cs : List ℕ) → is_word cs ≡ true → is_word (encodes cs) ≡ true
encodes_word [] h = refl
encodes_word (c ∷ cs) h =
    let p = both_true (is_word_byte c) (is_word cs) h in
    append_word (encode c) (encodes cs) (encode_word c p.0) (encodes_word cs p.1)

-- ---- the characters of a name

-- a test that a blank and a line's end fail
passes_word : (p : ℕ → Bool) (b : ℕ) → p 32 ≡ false → p 10 ≡ false → p b ≡ true → is_word_byte b ≡ true
passes_word p b space end h = is_word_unless b (λ e. let s : p 32 ≡ true = ap p (sym e) ∙ h in absurd cc) (λ e. let s : p 10 ≡ true = ap p (sym e) ∙ h in absurd cc)

start_word : (c : ℕ) → starts_name c ≡ true → is_word_byte c ≡ true
start_word c h = passes_word starts_name c (ap (λ b. b || (32 == 95)) (is_xid_start-ascii 32 (omega arith))) (ap (λ b. b || (10 == 95)) (is_xid_start-ascii 10 (omega arith))) h

continue_word : (c : ℕ) → continues_name c ≡ true → is_word_byte c ≡ true
continue_word c h = passes_word continues_name c (ap (λ b. b || (32 == 39)) (is_xid_continue-ascii 32 (omega arith))) (ap (λ b. b || (10 == 39)) (is_xid_continue-ascii 10 (omega arith))) h

all_word : (cs : List ℕ) → list_all continues_name cs ≡ true → is_word cs ≡ true
all_word [] h = refl
all_word (c ∷ cs) h =
    let p = both_true (continues_name c) (list_all continues_name cs) h in
    one_word c cs (continue_word c p.0) (all_word cs p.1)

identifier_word : (cs : List ℕ) → is_identifier cs ≡ true → is_word cs ≡ true
unfolding is_identifier
identifier_word [] h = refl
identifier_word (c ∷ cs) h =
    let p = both_true (starts_name c) (list_all continues_name cs) h in
    one_word c cs (start_word c p.0) (all_word cs p.1)

pub name_word : (w : List ℕ) → is_name w ≡ true → is_word w ≡ true
unfolding is_name
name_word w h =
    let p = both_true (is_utf8 w && is_identifier (chars w)) (not (is_reserved w)) h in
    let q = both_true (is_utf8 w) (is_identifier (chars w)) p.0 in
    let u = IsUtf8-from_is_utf8 w q.0 in
    let same : chars w ≡ u.0 = ap chars (sym u.1.1) ∙ chars-encodes u.0 u.1.0 in
    subst (λ x. is_word x ≡ true) u.1.1 (encodes_word u.0 (identifier_word u.0 (subst (λ cs. is_identifier cs ≡ true) same q.1)))
