-- Pure formulas: what is spelled is read again, and what was read is spelled so.
use Rattle.std.proofs.Common.{◌≡◌, ℕ, zero, suc, ◌<◌, ◌≤◌, ◌^◌, true, List, ◌∷◌, ◌++◌, refl, sym, ◌∙◌, ap, subst, arith, Some, Result, Ok}
use Rattle.std.specs.Prelude.{codes, max}
use Rattle.pm_logic.specs.declared.formula.Term.{Term}
use Rattle.pm_logic.specs.declared.formula.Pure.{Pure}
use Rattle.pm_logic.specs.declared.formula.Pure.TheVariants.{True, False, Eq, Le, Lt}
use Rattle.pm_logic.specs.declared.formula.Pure.TheViews as pure
use Rattle.pm_logic.specs.Trees.{both, either, nope}
use Rattle.pm_logic.specs.Size.{term_depth, pure_depth}
use Rattle.pm_logic.proofs.Views.{view_both, view_either, view_not}
use Rattle.pm_dtext.specs.declared.fault.Fault.{Fault}
use Rattle.pm_dtext.specs.declared.signs.PureSign.{PureSign}
use Rattle.pm_dtext.specs.declared.signs.PureSign.TheVariants as sign
use Rattle.pm_dtext.specs.Spelling.{term_text, pure_text}
use Rattle.pm_dtext.specs.Ranges.{TermInRange, PureInRange}
use Rattle.pm_dtext.specs.Reading.{part_as, says_at, part_at, parts_at, term_at, pure_signs, pure_sign_of, pure_under, pure_at}
use Rattle.pm_dtext.proofs.Steps.{with_ok, ok_is}
use Rattle.pm_dtext.proofs.WordLaws.{stops, is_word, says_again, says_found, part_again, parts_again, part_found, PairFound, parts_found, named_found}
use Rattle.pm_dtext.proofs.TermLaws.{term_again, term_found, never, two_terms}

-- the word that says a sign
abbrev sign_text : PureSign → List ℕ
sign_text sign.True = codes "T"
sign_text sign.False = codes "F"
sign_text sign.Eq = codes "eq"
sign_text sign.Le = codes "le"
sign_text sign.Lt = codes "lt"
sign_text sign.And = codes "cj"
sign_text sign.Or = codes "dj"
sign_text sign.Not = codes "no"

sign_word : (s : PureSign) → is_word (sign_text s) ≡ true
sign_word sign.True = refl
sign_word sign.False = refl
sign_word sign.Eq = refl
sign_word sign.Le = refl
sign_word sign.Lt = refl
sign_word sign.And = refl
sign_word sign.Or = refl
sign_word sign.Not = refl

sign_again : (s : PureSign) → pure_sign_of (sign_text s) ≡ Some s
unfolding pure_sign_of
sign_again sign.True = refl
sign_again sign.False = refl
sign_again sign.Eq = refl
sign_again sign.Le = refl
sign_again sign.Lt = refl
sign_again sign.And = refl
sign_again sign.Or = refl
sign_again sign.Not = refl

sign_found : (w : List ℕ) (s : PureSign) → pure_sign_of w ≡ Some s → w ≡ sign_text s
unfolding pure_sign_of
sign_found w s e = named_found sign_text pure_signs w s refl e

-- ---- what is spelled is read again

step_again : (n k : ℕ) (s : PureSign) (behind : List ℕ) (y : Result (Pure × List ℕ) Fault) → stops behind ≡ true → pure_under s (term_at n k) (pure_at n k) behind ≡ y → pure_at (suc n) k (sign_text s ++ behind) ≡ y
unfolding pure_at
step_again n k s behind y e under = rw (says_again pure_sign_of (sign_text s) behind s (sign_word s) e (sign_again s)) under

some_depth : (p : Pure) → 0 < pure_depth p
unfolding pure_depth
some_depth True = omega arith
some_depth False = omega arith
some_depth (Eq s t) = omega arith
some_depth (Le s t) = omega arith
some_depth (Lt s t) = omega arith
some_depth (both a b) = omega arith
some_depth (either a b) = omega arith
some_depth (nope a) = omega arith

compared_again : (make : Term → Term → Pure) (n k : ℕ) (s t : Term) (rest : List ℕ) → k < 2 ^ 64 → TermInRange k s × TermInRange k t → max (term_depth s) (term_depth t) ≤ n → stops rest ≡ true → parts_at make (term_at n k) (32 ∷ term_text s (32 ∷ term_text t rest)) ≡ Ok (make s t, rest)
compared_again make n k s t rest few fits deep e =
    parts_again make (term_at n k) (term_text s (32 ∷ term_text t rest)) (term_text t rest) rest s t
    (term_again s n k (32 ∷ term_text t rest) few fits.0 (omega arith) refl)
    (term_again t n k rest few fits.1 (omega arith) e)

abbrev ReadsAgain : (List ℕ → Result (Pure × List ℕ) Fault) → Pure → Type 0
ReadsAgain inner p = (rest : List ℕ) → stops rest ≡ true → inner (pure_text p rest) ≡ Ok (p, rest)

two_again : (make : Pure → Pure → Pure) (inner : List ℕ → Result (Pure × List ℕ) Fault) (a b : Pure) (rest : List ℕ) → ReadsAgain inner a → ReadsAgain inner b → stops rest ≡ true → parts_at make inner (32 ∷ pure_text a (32 ∷ pure_text b rest)) ≡ Ok (make a b, rest)
two_again make inner a b rest each_a each_b e = parts_again make inner (pure_text a (32 ∷ pure_text b rest)) (pure_text b rest) rest a b (each_a (32 ∷ pure_text b rest) refl) (each_b rest e)

not_again : (n k : ℕ) (a : Pure) (rest : List ℕ) → ReadsAgain (pure_at n k) a → stops rest ≡ true → pure_under sign.Not (term_at n k) (pure_at n k) (32 ∷ pure_text a rest) ≡ Ok (pure.Not a, rest)
unfolding pure_under part_as
not_again n k a rest each e = rw (part_again (pure_at n k) (pure_text a rest)) (rw (each rest e) refl)

pub pure_again : (p : Pure) (levels k : ℕ) (rest : List ℕ) → k < 2 ^ 64 → PureInRange k p → pure_depth p ≤ levels → stops rest ≡ true → pure_at levels k (pure_text p rest) ≡ Ok (p, rest)
unfolding pure_text PureInRange pure_depth pure_under part_as
pure_again p zero k rest few fits deep e = absurd (omega (arith, some_depth p))
pure_again True (suc n) k rest few fits deep e = step_again n k sign.True rest (Ok (True, rest)) e refl
pure_again False (suc n) k rest few fits deep e = step_again n k sign.False rest (Ok (False, rest)) e refl
pure_again (Eq s t) (suc n) k rest few fits deep e = step_again n k sign.Eq (32 ∷ term_text s (32 ∷ term_text t rest)) (Ok (Eq s t, rest)) refl (compared_again Eq n k s t rest few fits (omega arith) e)
pure_again (Le s t) (suc n) k rest few fits deep e = step_again n k sign.Le (32 ∷ term_text s (32 ∷ term_text t rest)) (Ok (Le s t, rest)) refl (compared_again Le n k s t rest few fits (omega arith) e)
pure_again (Lt s t) (suc n) k rest few fits deep e = step_again n k sign.Lt (32 ∷ term_text s (32 ∷ term_text t rest)) (Ok (Lt s t, rest)) refl (compared_again Lt n k s t rest few fits (omega arith) e)
pure_again (both a b) (suc n) k rest few fits deep e =
    step_again n k sign.And (32 ∷ pure_text a (32 ∷ pure_text b rest)) (Ok (both a b, rest)) refl
    (two_again pure.And (pure_at n k) a b rest (λ r h. pure_again a n k r few fits.0 (omega arith) h) (λ r h. pure_again b n k r few fits.1 (omega arith) h) e ∙ ap (λ u. Ok (u, rest)) (view_both a b))
pure_again (either a b) (suc n) k rest few fits deep e =
    step_again n k sign.Or (32 ∷ pure_text a (32 ∷ pure_text b rest)) (Ok (either a b, rest)) refl
    (two_again pure.Or (pure_at n k) a b rest (λ r h. pure_again a n k r few fits.0 (omega arith) h) (λ r h. pure_again b n k r few fits.1 (omega arith) h) e ∙ ap (λ u. Ok (u, rest)) (view_either a b))
pure_again (nope a) (suc n) k rest few fits deep e =
    step_again n k sign.Not (32 ∷ pure_text a rest) (Ok (nope a, rest)) refl
    (not_again n k a rest (λ r h. pure_again a n k r few fits (omega arith) h) e ∙ ap (λ u. Ok (u, rest)) (view_not a))

-- ---- what was read is spelled so

pub record PureFound (levels k : ℕ) (bytes : List ℕ) (p : Pure) (rest : List ℕ) : Type 0 where
  pub spelled : bytes ≡ pure_text p rest
  pub in_range : PureInRange k p
  pub depth : pure_depth p ≤ levels

abbrev FindsAll : ℕ → ℕ → (List ℕ → Result (Pure × List ℕ) Fault) → Type 0
FindsAll levels k inner = (bytes : List ℕ) (p : Pure) (rest : List ℕ) → inner bytes ≡ Ok (p, rest) → PureFound levels k bytes p rest

record TwoPures (levels k : ℕ) (bytes : List ℕ) (a b : Pure) (rest : List ℕ) : Type 0 where
  spelled : bytes ≡ 32 ∷ pure_text a (32 ∷ pure_text b rest)
  in_range : PureInRange k a × PureInRange k b
  depth : max (pure_depth a) (pure_depth b) ≤ levels

two_pures : (make : Pure → Pure → Pure) (levels k : ℕ) (inner : List ℕ → Result (Pure × List ℕ) Fault) (bytes : List ℕ) (z : Pure) (rest : List ℕ) → FindsAll levels k inner → (p : PairFound make inner bytes z rest) → TwoPures levels k bytes p.x p.y rest
two_pures make levels k inner bytes z rest each p =
    let l = each p.a p.x (32 ∷ p.b) p.first in
    let r = each p.b p.y rest p.second in
    record {
      spelled = p.parts ∙ ap (λ x. 32 ∷ x) (l.spelled ∙ ap (λ x. pure_text p.x (32 ∷ x)) r.spelled);
      in_range = (l.in_range, r.in_range);
      depth = omega (arith, l.depth, r.depth);
    }

-- the pure formula of a sign and two terms
record IsCompared (w : List ℕ) (p : Pure) (s t : Term) : Type 0 where
  text : (rest : List ℕ) → pure_text p rest ≡ w ++ (32 ∷ term_text s (32 ∷ term_text t rest))
  in_range : (k : ℕ) → TermInRange k s × TermInRange k t → PureInRange k p
  depth : pure_depth p ≡ suc (max (term_depth s) (term_depth t))

eq_compared : (s t : Term) → IsCompared (codes "eq") (Eq s t) s t
unfolding pure_text PureInRange pure_depth
eq_compared s t = record { text = λ rest. refl; in_range = λ k h. h; depth = refl }

le_compared : (s t : Term) → IsCompared (codes "le") (Le s t) s t
unfolding pure_text PureInRange pure_depth
le_compared s t = record { text = λ rest. refl; in_range = λ k h. h; depth = refl }

lt_compared : (s t : Term) → IsCompared (codes "lt") (Lt s t) s t
unfolding pure_text PureInRange pure_depth
lt_compared s t = record { text = λ rest. refl; in_range = λ k h. h; depth = refl }

compared_found : (w : List ℕ) (make : Term → Term → Pure) (levels k : ℕ) (bytes : List ℕ) (p : Pure) (rest : List ℕ) → ((s t : Term) → IsCompared w (make s t) s t) → parts_at make (term_at levels k) bytes ≡ Ok (p, rest) → PureFound (suc levels) k (w ++ bytes) p rest
compared_found w make levels k bytes p rest is e =
    let f = parts_found make (term_at levels k) bytes p rest e in
    let h = two_terms make levels k (term_at levels k) bytes p rest (λ b t r g. term_found levels k b t r g) f in
    let c = is f.x f.y in
    subst (λ (q : Pure). PureFound (suc levels) k (w ++ bytes) q rest) f.made
    (record { spelled = ap (λ x. w ++ x) h.spelled ∙ sym (c.text rest); in_range = c.in_range k h.in_range; depth = omega (arith, c.depth, h.depth) })

-- the pure formula of a sign and two more
record IsJoined (w : List ℕ) (p a b : Pure) : Type 0 where
  text : (rest : List ℕ) → pure_text p rest ≡ w ++ (32 ∷ pure_text a (32 ∷ pure_text b rest))
  in_range : (k : ℕ) → PureInRange k a × PureInRange k b → PureInRange k p
  depth : pure_depth p ≡ suc (max (pure_depth a) (pure_depth b))

and_joined : (a b : Pure) → IsJoined (codes "cj") (pure.And a b) a b
unfolding pure_text PureInRange pure_depth
and_joined a b = subst (λ (p : Pure). IsJoined (codes "cj") p a b) (sym (view_both a b)) (record { text = λ rest. refl; in_range = λ k h. h; depth = refl })

or_joined : (a b : Pure) → IsJoined (codes "dj") (pure.Or a b) a b
unfolding pure_text PureInRange pure_depth
or_joined a b = subst (λ (p : Pure). IsJoined (codes "dj") p a b) (sym (view_either a b)) (record { text = λ rest. refl; in_range = λ k h. h; depth = refl })

joined_found : (w : List ℕ) (make : Pure → Pure → Pure) (levels k : ℕ) (inner : List ℕ → Result (Pure × List ℕ) Fault) (bytes : List ℕ) (p : Pure) (rest : List ℕ) → ((a b : Pure) → IsJoined w (make a b) a b) → FindsAll levels k inner → parts_at make inner bytes ≡ Ok (p, rest) → PureFound (suc levels) k (w ++ bytes) p rest
joined_found w make levels k inner bytes p rest is each e =
    let f = parts_found make inner bytes p rest e in
    let h = two_pures make levels k inner bytes p rest each f in
    let c = is f.x f.y in
    subst (λ (q : Pure). PureFound (suc levels) k (w ++ bytes) q rest) f.made
    (record { spelled = ap (λ x. w ++ x) h.spelled ∙ sym (c.text rest); in_range = c.in_range k h.in_range; depth = omega (arith, c.depth, h.depth) })

not_made : (levels k : ℕ) (a : List ℕ) (p : Pure) (rest : List ℕ) → PureFound levels k a p rest → PureFound (suc levels) k (codes "no" ++ (32 ∷ a)) (pure.Not p) rest
unfolding pure_text PureInRange pure_depth
not_made levels k a p rest h = subst (λ (q : Pure). PureFound (suc levels) k (codes "no" ++ (32 ∷ a)) q rest) (sym (view_not p)) (record { spelled = ap (λ x. codes "no " ++ x) h.spelled; in_range = h.in_range; depth = omega (arith, h.depth) })

under_found : (levels k : ℕ) (inner : List ℕ → Result (Pure × List ℕ) Fault) (s : PureSign) (bytes : List ℕ) (p : Pure) (rest : List ℕ) → FindsAll levels k inner → pure_under s (term_at levels k) inner bytes ≡ Ok (p, rest) → PureFound (suc levels) k (sign_text s ++ bytes) p rest
unfolding pure_under pure_text PureInRange pure_depth part_as
under_found levels k inner sign.True bytes p rest each e =
    subst (λ (q : Pure × List ℕ). PureFound (suc levels) k (codes "T" ++ bytes) q.0 q.1) (ok_is {A = Pure × List ℕ} (True, bytes) (p, rest) e) (record { spelled = refl; in_range = tt; depth = omega arith })
under_found levels k inner sign.False bytes p rest each e =
    subst (λ (q : Pure × List ℕ). PureFound (suc levels) k (codes "F" ++ bytes) q.0 q.1) (ok_is {A = Pure × List ℕ} (False, bytes) (p, rest) e) (record { spelled = refl; in_range = tt; depth = omega arith })
under_found levels k inner sign.Eq bytes p rest each e = compared_found (codes "eq") Eq levels k bytes p rest eq_compared e
under_found levels k inner sign.Le bytes p rest each e = compared_found (codes "le") Le levels k bytes p rest le_compared e
under_found levels k inner sign.Lt bytes p rest each e = compared_found (codes "lt") Lt levels k bytes p rest lt_compared e
under_found levels k inner sign.And bytes p rest each e = joined_found (codes "cj") pure.And levels k inner bytes p rest and_joined each e
under_found levels k inner sign.Or bytes p rest each e = joined_found (codes "dj") pure.Or levels k inner bytes p rest or_joined each e
under_found levels k inner sign.Not bytes p rest each e =
    with_ok (part_at inner bytes) _ (p, rest) e (λ a ea ha.
    let f = part_found inner bytes a.0 a.1 ea in
    subst (λ (q : Pure × List ℕ). PureFound (suc levels) k (codes "no" ++ bytes) q.0 q.1) (ok_is {A = Pure × List ℕ} (pure.Not a.0, a.1) (p, rest) ha)
    (subst (λ (x : List ℕ). PureFound (suc levels) k (codes "no" ++ x) (pure.Not a.0) a.1) (sym f.parts) (not_made levels k f.at a.0 a.1 (each f.at a.0 a.1 f.read))))

pub pure_found : (levels k : ℕ) (bytes : List ℕ) (p : Pure) (rest : List ℕ) → pure_at levels k bytes ≡ Ok (p, rest) → PureFound levels k bytes p rest
unfolding pure_at
pure_found zero k bytes p rest e = absurd (never (says_at pure_sign_of bytes) _ (p, rest) e)
pure_found (suc n) k bytes p rest e =
    with_ok (says_at pure_sign_of bytes) _ (p, rest) e (λ s es hs.
    let said = says_found pure_sign_of bytes s.0 s.1 es in
    subst (λ (x : List ℕ). PureFound (suc n) k x p rest) (sym (said.parts ∙ ap (λ w. w ++ s.1) (sign_found said.w s.0 said.says_it)))
    (under_found n k (pure_at n k) s.0 s.1 p rest (λ b q r h. pure_found n k b q r h) hs))
