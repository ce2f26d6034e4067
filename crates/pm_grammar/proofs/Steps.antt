-- Tokens at offsets, and readings one after another.
use Rattle.std.proofs.Common.{◌≡◌, ◌⊎◌, inl, inr, ℕ, zero, suc, ◌+◌, ◌≤◌, Bool, true, false, cond, List, [], ◌∷◌, ◌++◌, drop, Result, Ok, Err, refl, sym, ap, subst, ◌∙◌, append_assoc, rules, arith}
use denote.Enum.Bare.{same_true}
use Rattle.pm_tokens.specs.declared.symbol.Symbol.{Symbol}
use Rattle.pm_tokens.specs.contracts.symbol.Symbol.{the_type}
use Rattle.pm_tokens.specs.Tokens.{Token, name, number, symbol, Place, place}
use Rattle.pm_terms.specs.declared.fault.TextFault.{TextFault}
use Rattle.pm_terms.specs.Steps.{Read, ◌>>=◌, made, same_symbol, sees, expect, closed_by}
use Rattle.pm_grammar.specs.ReadingLaws.{tokens_at, IsDeep}
use Rattle.pm_grammar.specs.Openings.{weight, openings}

-- ---- tokens at any offsets

abbrev pub put : (ℕ → ℕ) → List Token → List Place
put o [] = []
put o (x ∷ xs) = place x (o 0) ∷ put (λ n. o (suc n)) xs

-- the offsets behind those tokens
abbrev pub skip : List Token → (ℕ → ℕ) → ℕ → ℕ
skip [] o = o
skip (x ∷ xs) o = skip xs (λ n. o (suc n))

pub put-append : (o : ℕ → ℕ) (xs ys : List Token) (rest : List Place) → put o (xs ++ ys) ++ rest ≡ put o xs ++ (put (skip xs o) ys ++ rest)
put-append o [] ys rest = refl
put-append o (x ∷ xs) ys rest = ap (λ (ps : List Place). place x (o 0) ∷ ps) (put-append (λ n. o (suc n)) xs ys rest)

abbrev after : ℕ → (ℕ → ℕ) → ℕ → ℕ
after at o zero = at
after at o (suc n) = o n

pub placed : (ts : List Place) → (o : ℕ → ℕ) × (put o (tokens_at ts) ≡ ts)
placed [] = (λ n. 0, refl)
placed (place t at ∷ ts) = let h = placed ts in (after at h.0, ap (λ (us : List Place). place t at ∷ us) h.1)

pub openings-append : (xs ys : List Token) → openings (xs ++ ys) ≡ openings xs + openings ys
openings-append [] ys = omega arith
openings-append (x ∷ xs) ys = let h = openings-append xs ys in omega (arith, h)

pub in_left : (room : ℕ) (xs ys : List Token) → room ≤ openings xs → room ≤ openings (xs ++ ys)
in_left room xs ys le = omega (arith, le, openings-append xs ys)

pub in_behind : (room : ℕ) (xs : List Token) (t : Token) (ys : List Token) → room ≤ openings ys → room ≤ openings (xs ++ t ∷ ys)
in_behind room xs t ys le = omega (arith, le, openings-append xs (t ∷ ys))

-- one construct more is opened by the token before
pub in_right : (room : ℕ) (xs : List Token) (t : Token) (ys : List Token) → 1 ≤ weight t → room ≤ openings ys → suc room ≤ openings (xs ++ t ∷ ys)
in_right room xs t ys one le = omega (arith, one, le, openings-append xs (t ∷ ys))

-- ---- read, or too deep where this holds

abbrev pub Again : {A : Type 0} → Type 0 → Result A TextFault → A → Type 0
Again P read x = (read ≡ Ok x) ⊎ (IsDeep read × P)

pub then_again : {A B : Type 0} {P Q R : Type 0} (read : Result A TextFault) (go : A → Result B TextFault) (x : A) (y : B) → Again P read x → (P → R) → Again Q (go x) y → (Q → R) → Again R (read >>= go) y
then_again read go x y (inl found) f (inl last) g = inl (rw found last)
then_again read go x y (inl found) f (inr deep) g = inr ((deep.0.0, rw found deep.0.1), g deep.1)
then_again read go x y (inr deep) f last g = inr ((deep.0.0, rw deep.0.1 refl), f deep.1)

pub then_ok : {A B : Type 0} {P R : Type 0} (read : Result A TextFault) (go : A → Result B TextFault) (x : A) (y : B) → Again P read x → (P → R) → go x ≡ Ok y → Again R (read >>= go) y
then_ok read go x y (inl found) f e = inl (rw found e)
then_ok read go x y (inr deep) f e = inr ((deep.0.0, rw deep.0.1 refl), f deep.1)

pub along : {A : Type 0} {P Q : Type 0} (read other : Result A TextFault) (x : A) → other ≡ read → (P → Q) → Again P read x → Again Q other x
along read other x e f (inl found) = inl (e ∙ found)
along read other x e f (inr deep) = inr ((deep.0.0, e ∙ deep.0.1), f deep.1)

-- the value changed
pub made_again : {A B : Type 0} {P Q : Type 0} (f : A → B) (read : Read A) (a : A) (rest : List Place) → (P → Q) → Again P read (a, rest) → Again Q (made f read) (f a, rest)
made_again f read a rest g (inl found) = inl (rw found refl)
made_again f read a rest g (inr deep) = inr ((deep.0.0, rw deep.0.1 refl), g deep.1)

-- once this symbol stands behind it
pub closed_again : {A : Type 0} {P Q : Type 0} (t : Symbol) (stop : ℕ) (read : Read A) (a : A) (at : ℕ) (rest : List Place) → sees t (place (symbol t) at ∷ rest) ≡ true → (P → Q) → Again P read (a, place (symbol t) at ∷ rest) → Again Q (closed_by t stop read) (a, rest)
unfolding closed_by expect
closed_again t stop read a at rest seen f (inl found) = inl (rw (found, seen) refl)
closed_again t stop read a at rest seen f (inr deep) = inr ((deep.0.0, rw deep.0.1 refl), f deep.1)

-- ---- what was read

pub bind_ok : {A B : Type 0} (read : Result A TextFault) (go : A → Result B TextFault) (y : B) → (read >>= go) ≡ Ok y → (x : A) × (read ≡ Ok x) × (go x ≡ Ok y)
bind_ok (Ok x) go y e = (x, refl, e)
bind_ok (Err f) go y e = absurd cc

abbrev pub done : {A : Type 0} → A → Result A TextFault
done x = Ok x

pub ok_is : {A : Type 0} (x y : A) → done x ≡ done y → x ≡ y
ok_is x y e = cc

pub ok_to : {A : Type 0} (P : A → Type 0) (x y : A) → done x ≡ done y → P x → P y
ok_to P x y e h = subst P (ok_is x y e) h

pub made_ok : {A B : Type 0} (f : A → B) (read : Read A) (y : B × List Place) → made f read ≡ Ok y → (a : A) × (read ≡ Ok (a, y.1)) × (f a ≡ y.0)
made_ok f (Ok x) y e = let same : (f x.0, x.1) ≡ y = ok_is (f x.0, x.1) y e in (x.0, ap (λ rest. done (x.0, rest)) (ap (λ z. z.1) same), ap (λ z. z.0) same)
made_ok f (Err e') y e = absurd cc

pub guard_ok : {A : Type 0} (b : Bool) (x y : A) (f : TextFault) → cond b (Ok x) (Err f) ≡ Ok y → (b ≡ true) × (x ≡ y)
guard_ok true x y f e = (refl, ok_is x y e)
guard_ok false x y f e = absurd cc

pub either : {A : Type 0} (b : Bool) (x y z : A) → cond b x y ≡ z → (P : Type 0) → (b ≡ true → x ≡ z → P) → (b ≡ false → y ≡ z → P) → P
either true x y z e P f g = f refl e
either false x y z e P f g = g refl e

pub symbol_is : (r t : Symbol) → same_symbol r t ≡ true → r ≡ t
unfolding same_symbol
symbol_is r t h = same_true the_type (search rules) r t h

pub sees_ok : (t : Symbol) (ts : List Place) → sees t ts ≡ true → tokens_at ts ≡ symbol t ∷ tokens_at (drop 1 ts)
unfolding sees
sees_ok t [] h = absurd cc
sees_ok t (place (name n) at ∷ ts) h = absurd cc
sees_ok t (place (number n) at ∷ ts) h = absurd cc
sees_ok t (place (symbol r) at ∷ ts) h = ap (λ (x : Symbol). symbol x ∷ tokens_at ts) (symbol_is r t h)

pub expect_ok : (t : Symbol) (stop : ℕ) (ts rest : List Place) → expect t stop ts ≡ Ok rest → tokens_at ts ≡ symbol t ∷ tokens_at rest
unfolding expect
expect_ok t stop ts rest e = let h = guard_ok (sees t ts) (drop 1 ts) rest _ e in sees_ok t ts h.0 ∙ ap (λ r. symbol t ∷ tokens_at r) h.1

pub closed_ok : {A : Type 0} (t : Symbol) (stop : ℕ) (read : Read A) (y : A × List Place) → closed_by t stop read ≡ Ok y → (us : List Place) × (read ≡ Ok (y.0, us)) × (tokens_at us ≡ symbol t ∷ tokens_at y.1)
unfolding closed_by
closed_ok t stop read y e =
    let b = bind_ok read (λ x. expect t stop x.1 >>= λ rest. Ok (x.0, rest)) y e in
    let c = bind_ok (expect t stop b.0.1) (λ rest. Ok (b.0.0, rest)) y b.2 in
    let same = ok_is (b.0.0, c.0) y c.2 in
    (b.0.1, b.1 ∙ ap (λ a. done (a, b.0.1)) (ap (λ z. z.0) same), expect_ok t stop b.0.1 c.0 c.1 ∙ ap (λ r. symbol t ∷ tokens_at r) (ap (λ z. z.1) same))

-- ---- the tokens of parts one after another

pub join : (r : Symbol) (xs ys ts us vs rest : List Token) → ts ≡ xs ++ us → us ≡ symbol r ∷ vs → vs ≡ ys ++ rest → ts ≡ (xs ++ symbol r ∷ ys) ++ rest
join r xs ys ts us vs rest a b c = rw (a, b, c) (sym (append_assoc xs (symbol r ∷ ys) rest))

pub shut : (p r : Symbol) (xs us vs rest : List Token) → us ≡ xs ++ vs → vs ≡ symbol r ∷ rest → symbol p ∷ us ≡ (symbol p ∷ (xs ++ symbol r ∷ [])) ++ rest
shut p r xs us vs rest a b = rw (a, b) (sym (ap (λ (ts : List Token). symbol p ∷ ts) (append_assoc xs (symbol r ∷ []) rest)))
