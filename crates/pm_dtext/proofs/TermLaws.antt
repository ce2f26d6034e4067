-- Terms: what is spelled is read again, and what was read is spelled so.
use Rattle.std.proofs.Common.{◌≡◌, ℕ, zero, suc, ◌<◌, ◌≤◌, ◌^◌, Bool, true, false, ◌==◌, List, [], ◌∷◌, ◌++◌, get_or, refl, sym, ◌∙◌, ap, subst, arith, Option, Some, None, Result, Ok, Err, inl, inr}
use Rattle.std.specs.Prelude.{codes, max, ℤ, pos, negsuc, nat_lt}
use Rattle.std.specs.Fmt.{decimal, signed_decimal}
use Rattle.std.specs.Option.{option_map}
use Rattle.std.proofs.lemmas.Bool.Decides.{Decides-eqb}
use Rattle.pm_logic.specs.declared.formula.Term.{Term}
use Rattle.pm_logic.specs.declared.formula.Term.TheVariants.{Lit, Var}
use Rattle.pm_logic.specs.declared.formula.Term.TheViews as term
use Rattle.pm_logic.specs.Trees.{add, sub, neg, scale}
use Rattle.pm_logic.specs.Size.{term_depth}
use Rattle.pm_logic.proofs.Views.{view_add, view_sub, view_neg, view_scale}
use Rattle.pm_dtext.specs.declared.fault.Fault.{Fault}
use Rattle.pm_dtext.specs.declared.signs.TermSign.{TermSign}
use Rattle.pm_dtext.specs.declared.signs.TermSign.TheVariants as sign
use Rattle.pm_dtext.specs.Spelling.{term_text}
use Rattle.pm_dtext.specs.Ranges.{IsI64, TermInRange}
use Rattle.pm_dtext.specs.Reading.{part_as, ◌>>=◌, says_at, named, number_of, where_it, literal_of, index_of, part_at, parts_at, term_signs, leaf_of, or_leaf, term_sign_of, term_under, term_at}
use Rattle.pm_dtext.proofs.Numbers.{first_digit}
use Rattle.pm_dtext.proofs.Steps.{with_ok, chosen, ok_is, false_eq, true_lt, lt_true}
use Rattle.pm_dtext.proofs.WordLaws.{stops, is_word, says_again, says_found, part_again, parts_again, part_found, PairFound, parts_found, named_found, named_passes, where_again, where_found, decimal_word, literal_again, literal_word, literal_at_again, literal_at_found, literal_some}

-- ---- signs

-- a word that begins with no letter is none of the names
first_apart : (b : ℕ) (w : List ℕ) → b < 97 → named term_signs (b ∷ w) ≡ None
first_apart b w h =
    let a : (b == 97) ≡ false = false_eq b 97 (λ e. absurd (omega arith)) in
    let s : (b == 115) ≡ false = false_eq b 115 (λ e. absurd (omega arith)) in
    let n : (b == 110) ≡ false = false_eq b 110 (λ e. absurd (omega arith)) in
    let m : (b == 109) ≡ false = false_eq b 109 (λ e. absurd (omega arith)) in
    rw (a, s, n, m) refl

empty_literal : (z : ℤ) → literal_of [] ≡ Some z → ⊥
unfolding literal_of
empty_literal z e = cc

literal_sign : (k : ℕ) (w : List ℕ) (z : ℤ) → literal_of w ≡ Some z → get_or w 0 0 < 97 → term_sign_of k w ≡ Some (sign.Lit z)
unfolding term_sign_of leaf_of
literal_sign k [] z e h = absurd (empty_literal z e)
literal_sign k (b ∷ w) z e h =
    let apart : named term_signs (b ∷ w) ≡ None = first_apart b w h in
    let v : (b == 118) ≡ false = false_eq b 118 (λ e. absurd (omega arith)) in
    rw apart (rw v (rw e refl))

lit_sign : (k : ℕ) (z : ℤ) → IsI64 z → term_sign_of k (signed_decimal z) ≡ Some (sign.Lit z)
lit_sign k (pos n) h =
    let first = first_digit n (omega arith) in
    literal_sign k (decimal n) (pos n) (literal_again (pos n) h) (omega (arith, first.1))
lit_sign k (negsuc n) h = literal_sign k (45 ∷ decimal (suc n)) (negsuc n) (literal_again (negsuc n) h) (omega arith)

var_sign : (k i : ℕ) → i < k → i < 2 ^ 64 → term_sign_of k (codes "v" ++ decimal i) ≡ Some (sign.Var i)
unfolding term_sign_of leaf_of index_of
var_sign k i h small =
    let read : where_it (λ j. nat_lt j k) (number_of (decimal i)) ≡ Some i = where_again (λ j. nat_lt j k) i small (true_lt i k h) in
    rw read refl

var_word : (i : ℕ) → i < 2 ^ 64 → is_word (codes "v" ++ decimal i) ≡ true
var_word i small = decimal_word i small

add_sign : (k : ℕ) → term_sign_of k (codes "add") ≡ Some sign.Add
unfolding term_sign_of
add_sign k = refl

sub_sign : (k : ℕ) → term_sign_of k (codes "sub") ≡ Some sign.Sub
unfolding term_sign_of
sub_sign k = refl

neg_sign : (k : ℕ) → term_sign_of k (codes "neg") ≡ Some sign.Neg
unfolding term_sign_of
neg_sign k = refl

scale_sign : (k : ℕ) → term_sign_of k (codes "mul") ≡ Some sign.Scale
unfolding term_sign_of
scale_sign k = refl

-- ---- what is spelled is read again

step_again : (n k : ℕ) (w behind : List ℕ) (s : TermSign) (y : Result (Term × List ℕ) Fault) → is_word w ≡ true → stops behind ≡ true → term_sign_of k w ≡ Some s → term_under s (term_at n k) behind ≡ y → term_at (suc n) k (w ++ behind) ≡ y
unfolding term_at
step_again n k w behind s y h e is under = rw (says_again (term_sign_of k) w behind s h e is) under

some_depth : (t : Term) → 0 < term_depth t
unfolding term_depth
some_depth (Lit z) = omega arith
some_depth (Var i) = omega arith
some_depth (add s t) = omega arith
some_depth (sub s t) = omega arith
some_depth (neg t) = omega arith
some_depth (scale z t) = omega arith

abbrev ReadsAgain : (List ℕ → Result (Term × List ℕ) Fault) → Term → Type 0
ReadsAgain inner t = (rest : List ℕ) → stops rest ≡ true → inner (term_text t rest) ≡ Ok (t, rest)

two_again : (make : Term → Term → Term) (inner : List ℕ → Result (Term × List ℕ) Fault) (s t : Term) (rest : List ℕ) → ReadsAgain inner s → ReadsAgain inner t → stops rest ≡ true → parts_at make inner (32 ∷ term_text s (32 ∷ term_text t rest)) ≡ Ok (make s t, rest)
two_again make inner s t rest each_s each_t e = parts_again make inner (term_text s (32 ∷ term_text t rest)) (term_text t rest) rest s t (each_s (32 ∷ term_text t rest) refl) (each_t rest e)

one_again : (inner : List ℕ → Result (Term × List ℕ) Fault) (t : Term) (rest : List ℕ) → ReadsAgain inner t → stops rest ≡ true → term_under sign.Neg inner (32 ∷ term_text t rest) ≡ Ok (term.Neg t, rest)
unfolding term_under part_as
one_again inner t rest each e = rw (part_again inner (term_text t rest)) (rw (each rest e) refl)

scale_again : (inner : List ℕ → Result (Term × List ℕ) Fault) (z : ℤ) (t : Term) (rest : List ℕ) → IsI64 z → ReadsAgain inner t → stops rest ≡ true → term_under sign.Scale inner (32 ∷ (signed_decimal z ++ (32 ∷ term_text t rest))) ≡ Ok (term.Scale z t, rest)
unfolding term_under part_as
scale_again inner z t rest fits each e =
    rw (part_again (says_at literal_of) (signed_decimal z ++ (32 ∷ term_text t rest)))
    (rw (literal_at_again z (32 ∷ term_text t rest) fits refl)
    (rw (part_again inner (term_text t rest)) (rw (each rest e) refl)))

pub term_again : (t : Term) (levels k : ℕ) (rest : List ℕ) → k < 2 ^ 64 → TermInRange k t → term_depth t ≤ levels → stops rest ≡ true → term_at levels k (term_text t rest) ≡ Ok (t, rest)
unfolding term_text TermInRange term_depth term_under part_as
term_again t zero k rest few fits deep e = absurd (omega (arith, some_depth t))
term_again (Lit z) (suc n) k rest few fits deep e = step_again n k (signed_decimal z) rest (sign.Lit z) (Ok (Lit z, rest)) (literal_word z fits) e (lit_sign k z fits) refl
term_again (Var i) (suc n) k rest few fits deep e = step_again n k (codes "v" ++ decimal i) rest (sign.Var i) (Ok (Var i, rest)) (var_word i (omega arith)) e (var_sign k i fits (omega arith)) refl
term_again (add s t) (suc n) k rest few fits deep e =
    step_again n k (codes "add") (32 ∷ term_text s (32 ∷ term_text t rest)) sign.Add (Ok (add s t, rest)) refl refl (add_sign k)
    (two_again term.Add (term_at n k) s t rest (λ r h. term_again s n k r few fits.0 (omega arith) h) (λ r h. term_again t n k r few fits.1 (omega arith) h) e ∙ ap (λ u. Ok (u, rest)) (view_add s t))
term_again (sub s t) (suc n) k rest few fits deep e =
    step_again n k (codes "sub") (32 ∷ term_text s (32 ∷ term_text t rest)) sign.Sub (Ok (sub s t, rest)) refl refl (sub_sign k)
    (two_again term.Sub (term_at n k) s t rest (λ r h. term_again s n k r few fits.0 (omega arith) h) (λ r h. term_again t n k r few fits.1 (omega arith) h) e ∙ ap (λ u. Ok (u, rest)) (view_sub s t))
term_again (neg t) (suc n) k rest few fits deep e =
    step_again n k (codes "neg") (32 ∷ term_text t rest) sign.Neg (Ok (neg t, rest)) refl refl (neg_sign k)
    (one_again (term_at n k) t rest (λ r h. term_again t n k r few fits (omega arith) h) e ∙ ap (λ u. Ok (u, rest)) (view_neg t))
term_again (scale z t) (suc n) k rest few fits deep e =
    step_again n k (codes "mul") (32 ∷ (signed_decimal z ++ (32 ∷ term_text t rest))) sign.Scale (Ok (scale z t, rest)) refl refl (scale_sign k)
    (scale_again (term_at n k) z t rest fits.0 (λ r h. term_again t n k r few fits.1 (omega arith) h) e ∙ ap (λ u. Ok (u, rest)) (view_scale z t))

-- ---- what was read is spelled so

-- the word that says a sign
abbrev sign_text : TermSign → List ℕ
sign_text (sign.Lit z) = signed_decimal z
sign_text (sign.Var i) = codes "v" ++ decimal i
sign_text sign.Add = codes "add"
sign_text sign.Sub = codes "sub"
sign_text sign.Neg = codes "neg"
sign_text sign.Scale = codes "mul"

abbrev SignFits : ℕ → TermSign → Type 0
SignFits k (sign.Lit z) = IsI64 z
SignFits k (sign.Var i) = i < k
SignFits k sign.Add = Unit {0}
SignFits k sign.Sub = Unit {0}
SignFits k sign.Neg = Unit {0}
SignFits k sign.Scale = Unit {0}

record SignFound (k : ℕ) (w : List ℕ) (s : TermSign) : Type 0 where
  spelled : w ≡ sign_text s
  fits : SignFits k s

-- the signs of the table
abbrev is_listed : TermSign → Bool
is_listed (sign.Lit z) = false
is_listed (sign.Var i) = false
is_listed sign.Add = true
is_listed sign.Sub = true
is_listed sign.Neg = true
is_listed sign.Scale = true

listed_fits : (k : ℕ) (w : List ℕ) (s : TermSign) → named term_signs w ≡ Some s → SignFits k s
listed_fits k w s e = go s (named_passes is_listed term_signs w s refl e)
  where
    go : (s : TermSign) → is_listed s ≡ true → SignFits k s
    go (sign.Lit z) h = absurd cc
    go (sign.Var i) h = absurd cc
    go sign.Add h = tt
    go sign.Sub h = tt
    go sign.Neg h = tt
    go sign.Scale h = tt

some_map : {A B : Type 0} (f : A → B) (o : Option A) (y : B) → option_map f o ≡ Some y → (x : A) × (o ≡ Some x) × (f x ≡ y)
some_map f None y e = absurd cc
some_map f (Some x) y e = (x, refl, cc)

var_found : (k : ℕ) (w : List ℕ) (i : ℕ) → index_of k w ≡ Some i → SignFound k (118 ∷ w) (sign.Var i)
unfolding index_of
var_found k w i e =
    let f = where_found (λ j. nat_lt j k) w i e in
    record { spelled = ap (λ d. 118 ∷ d) f.spelled; fits = lt_true i k f.passes }

lit_found : (k : ℕ) (w : List ℕ) (z : ℤ) → literal_of w ≡ Some z → SignFound k w (sign.Lit z)
lit_found k w z e = let f = literal_some w z e in record { spelled = f.0; fits = f.1 }

leaf_found : (k : ℕ) (w : List ℕ) (s : TermSign) → leaf_of k w ≡ Some s → SignFound k w s
unfolding leaf_of
leaf_found k [] s e = absurd cc
leaf_found k (b ∷ w) s e =
    elim (chosen (b == 118) (option_map sign.Var (index_of k w)) (option_map sign.Lit (literal_of (b ∷ w))) (Some s) e) [
      | inl c ↦
          let v : b ≡ 118 = (Decides-eqb b 118).0 c.0 in
          let i = some_map sign.Var (index_of k w) s c.1 in
          subst (λ (x : ℕ). SignFound k (x ∷ w) s) (sym v) (subst (λ (y : TermSign). SignFound k (118 ∷ w) y) i.2 (var_found k w i.0 i.1))
      | inr c ↦
          let z = some_map sign.Lit (literal_of (b ∷ w)) s c.1 in
          subst (λ (y : TermSign). SignFound k (b ∷ w) y) z.2 (lit_found k (b ∷ w) z.0 z.1)
    ]

sign_found : (k : ℕ) (w : List ℕ) (s : TermSign) → term_sign_of k w ≡ Some s → SignFound k w s
unfolding term_sign_of
sign_found k w s e = go (named term_signs w) refl e
  where
    go : (o : Option TermSign) → named term_signs w ≡ o → or_leaf k w o ≡ Some s → SignFound k w s
    go None n h = leaf_found k w s h
    go (Some x) n h =
        let same : x ≡ s = cc in
        let is : named term_signs w ≡ Some s = n ∙ ap (λ y. Some y) same in
        record { spelled = named_found sign_text term_signs w s refl is; fits = listed_fits k w s is }

pub record TermFound (levels k : ℕ) (bytes : List ℕ) (t : Term) (rest : List ℕ) : Type 0 where
  pub spelled : bytes ≡ term_text t rest
  pub in_range : TermInRange k t
  pub depth : term_depth t ≤ levels

abbrev FindsAll : ℕ → ℕ → (List ℕ → Result (Term × List ℕ) Fault) → Type 0
FindsAll levels k inner = (bytes : List ℕ) (t : Term) (rest : List ℕ) → inner bytes ≡ Ok (t, rest) → TermFound levels k bytes t rest

-- a sign and two terms
pub record TwoTerms (levels k : ℕ) (bytes : List ℕ) (s t : Term) (rest : List ℕ) : Type 0 where
  pub spelled : bytes ≡ 32 ∷ term_text s (32 ∷ term_text t rest)
  pub in_range : TermInRange k s × TermInRange k t
  pub depth : max (term_depth s) (term_depth t) ≤ levels

pub two_terms : {B : Type 0} (make : Term → Term → B) (levels k : ℕ) (inner : List ℕ → Result (Term × List ℕ) Fault) (bytes : List ℕ) (z : B) (rest : List ℕ) → FindsAll levels k inner → (p : PairFound make inner bytes z rest) → TwoTerms levels k bytes p.x p.y rest
two_terms make levels k inner bytes z rest each p =
    let l = each p.a p.x (32 ∷ p.b) p.first in
    let r = each p.b p.y rest p.second in
    record {
      spelled = p.parts ∙ ap (λ x. 32 ∷ x) (l.spelled ∙ ap (λ x. term_text p.x (32 ∷ x)) r.spelled);
      in_range = (l.in_range, r.in_range);
      depth = omega (arith, l.depth, r.depth);
    }

add_made : (levels k : ℕ) (bytes : List ℕ) (s t : Term) (rest : List ℕ) → TwoTerms levels k bytes s t rest → TermFound (suc levels) k (codes "add" ++ bytes) (term.Add s t) rest
unfolding term_text TermInRange term_depth
add_made levels k bytes s t rest h = subst (λ (u : Term). TermFound (suc levels) k (codes "add" ++ bytes) u rest) (sym (view_add s t)) (record { spelled = ap (λ x. codes "add" ++ x) h.spelled; in_range = h.in_range; depth = omega (arith, h.depth) })

sub_made : (levels k : ℕ) (bytes : List ℕ) (s t : Term) (rest : List ℕ) → TwoTerms levels k bytes s t rest → TermFound (suc levels) k (codes "sub" ++ bytes) (term.Sub s t) rest
unfolding term_text TermInRange term_depth
sub_made levels k bytes s t rest h = subst (λ (u : Term). TermFound (suc levels) k (codes "sub" ++ bytes) u rest) (sym (view_sub s t)) (record { spelled = ap (λ x. codes "sub" ++ x) h.spelled; in_range = h.in_range; depth = omega (arith, h.depth) })

neg_made : (levels k : ℕ) (a : List ℕ) (t : Term) (rest : List ℕ) → TermFound levels k a t rest → TermFound (suc levels) k (codes "neg" ++ (32 ∷ a)) (term.Neg t) rest
unfolding term_text TermInRange term_depth
neg_made levels k a t rest h = subst (λ (u : Term). TermFound (suc levels) k (codes "neg" ++ (32 ∷ a)) u rest) (sym (view_neg t)) (record { spelled = ap (λ x. codes "neg " ++ x) h.spelled; in_range = h.in_range; depth = omega (arith, h.depth) })

scale_made : (levels k : ℕ) (z : ℤ) (b : List ℕ) (t : Term) (rest : List ℕ) → IsI64 z → TermFound levels k b t rest → TermFound (suc levels) k (codes "mul" ++ (32 ∷ (signed_decimal z ++ (32 ∷ b)))) (term.Scale z t) rest
unfolding term_text TermInRange term_depth
scale_made levels k z b t rest fits h = subst (λ (u : Term). TermFound (suc levels) k (codes "mul" ++ (32 ∷ (signed_decimal z ++ (32 ∷ b)))) u rest) (sym (view_scale z t)) (record { spelled = ap (λ x. codes "mul " ++ (signed_decimal z ++ (32 ∷ x))) h.spelled; in_range = (fits, h.in_range); depth = omega (arith, h.depth) })

-- the term behind its sign
under_found : (levels k : ℕ) (inner : List ℕ → Result (Term × List ℕ) Fault) (s : TermSign) (bytes : List ℕ) (t : Term) (rest : List ℕ) → FindsAll levels k inner → SignFits k s → term_under s inner bytes ≡ Ok (t, rest) → TermFound (suc levels) k (sign_text s ++ bytes) t rest
unfolding term_under term_text TermInRange term_depth part_as
under_found levels k inner (sign.Lit z) bytes t rest each fits e =
    subst (λ (p : Term × List ℕ). TermFound (suc levels) k (signed_decimal z ++ bytes) p.0 p.1) (ok_is {A = Term × List ℕ} (Lit z, bytes) (t, rest) e) (record { spelled = refl; in_range = fits; depth = omega arith })
under_found levels k inner (sign.Var i) bytes t rest each fits e =
    subst (λ (p : Term × List ℕ). TermFound (suc levels) k (codes "v" ++ (decimal i ++ bytes)) p.0 p.1) (ok_is {A = Term × List ℕ} (Var i, bytes) (t, rest) e) (record { spelled = refl; in_range = fits; depth = omega arith })
under_found levels k inner sign.Add bytes t rest each fits e =
    let p = parts_found term.Add inner bytes t rest e in
    subst (λ (u : Term). TermFound (suc levels) k (codes "add" ++ bytes) u rest) p.made (add_made levels k bytes p.x p.y rest (two_terms term.Add levels k inner bytes t rest each p))
under_found levels k inner sign.Sub bytes t rest each fits e =
    let p = parts_found term.Sub inner bytes t rest e in
    subst (λ (u : Term). TermFound (suc levels) k (codes "sub" ++ bytes) u rest) p.made (sub_made levels k bytes p.x p.y rest (two_terms term.Sub levels k inner bytes t rest each p))
under_found levels k inner sign.Neg bytes t rest each fits e =
    with_ok (part_at inner bytes) _ (t, rest) e (λ a ea ha.
    let p = part_found inner bytes a.0 a.1 ea in
    subst (λ (q : Term × List ℕ). TermFound (suc levels) k (codes "neg" ++ bytes) q.0 q.1) (ok_is {A = Term × List ℕ} (term.Neg a.0, a.1) (t, rest) ha)
    (subst (λ (x : List ℕ). TermFound (suc levels) k (codes "neg" ++ x) (term.Neg a.0) a.1) (sym p.parts) (neg_made levels k p.at a.0 a.1 (each p.at a.0 a.1 p.read))))
under_found levels k inner sign.Scale bytes t rest each fits e =
    with_ok (part_at (says_at literal_of) bytes) _ (t, rest) e (λ z ez hz.
    with_ok (part_at inner z.1) _ (t, rest) hz (λ a ea ha.
    let p = part_found (says_at literal_of) bytes z.0 z.1 ez in
    let l = literal_at_found p.at z.0 z.1 p.read in
    let q = part_found inner z.1 a.0 a.1 ea in
    let whole : bytes ≡ 32 ∷ (signed_decimal z.0 ++ (32 ∷ q.at)) = p.parts ∙ ap (λ x. 32 ∷ x) (l.parts ∙ ap (λ x. signed_decimal z.0 ++ x) q.parts) in
    subst (λ (r : Term × List ℕ). TermFound (suc levels) k (codes "mul" ++ bytes) r.0 r.1) (ok_is {A = Term × List ℕ} (term.Scale z.0 a.0, a.1) (t, rest) ha)
    (subst (λ (x : List ℕ). TermFound (suc levels) k (codes "mul" ++ x) (term.Scale z.0 a.0) a.1) (sym whole) (scale_made levels k z.0 q.at a.0 a.1 l.fits (each q.at a.0 a.1 q.read)))))

-- no level is left
pub never : {A B : Type 0} (r : Result A Fault) (f : A → Fault) (y : B) → (r >>= λ x. Err (f x)) ≡ Ok y → ⊥
never (Ok x) f y e = cc
never (Err g) f y e = cc

pub term_found : (levels k : ℕ) (bytes : List ℕ) (t : Term) (rest : List ℕ) → term_at levels k bytes ≡ Ok (t, rest) → TermFound levels k bytes t rest
unfolding term_at
term_found zero k bytes t rest e = absurd (never (says_at (term_sign_of k) bytes) _ (t, rest) e)
term_found (suc n) k bytes t rest e =
    with_ok (says_at (term_sign_of k) bytes) _ (t, rest) e (λ s es hs.
    let said = says_found (term_sign_of k) bytes s.0 s.1 es in
    let is = sign_found k said.w s.0 said.says_it in
    subst (λ (x : List ℕ). TermFound (suc n) k x t rest) (sym (said.parts ∙ ap (λ w. w ++ s.1) is.spelled))
    (under_found n k (term_at n k) s.0 s.1 t rest (λ b u r h. term_found n k b u r h) is.fits hs))
