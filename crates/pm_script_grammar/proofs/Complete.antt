-- Readers that are complete: what the grammar derives is read, or it is too deep.
use Rattle.std.proofs.Common.{◌≡◌, ◌⊎◌, inl, inr, ℕ, zero, suc, ◌≤◌, Bool, true, false, not, List, [], ◌∷◌, ◌++◌, length, Result, Ok, refl, sym, ap, ◌∙◌, length-append, rules, arith}
use denote.Enum.Bare.{true_same, false_same}
use Rattle.pm_tokens.specs.declared.symbol.Symbol.{Symbol}
use Rattle.pm_tokens.specs.contracts.symbol.Symbol.{the_type}
use Rattle.pm_tokens.specs.Tokens.{Token, symbol, Place, place}
use Rattle.pm_terms.specs.declared.fault.TextFault.{TextFault}
use Rattle.pm_terms.specs.Steps.{Read, ◌>>=◌, made, same_symbol, sees, expect, closed_by, parts, many}
use Rattle.pm_patterns.specs.PatternReading.{until, some_until}
use Rattle.pm_grammar.specs.ReadingLaws.{IsDeep}
use Rattle.pm_grammar.proofs.Steps.{put, skip, put-append}
use Rattle.pm_script_grammar.specs.PatternGrammar.{AreAll, none, some, HasOne}

-- read, or too deep
abbrev pub Okay : {A : Type 0} → Result A TextFault → A → Type 0
Okay read x = (read ≡ Ok x) ⊎ IsDeep read

pub sees_itself : (t : Symbol) (at : ℕ) (ts : List Place) → sees t (place (symbol t) at ∷ ts) ≡ true
unfolding sees same_symbol
sees_itself t at ts = true_same the_type t t refl

pub sees_other : (t r : Symbol) (at : ℕ) (ts : List Place) → ¬ (r ≡ t) → sees t (place (symbol r) at ∷ ts) ≡ false
unfolding sees same_symbol
sees_other t r at ts ne = false_same the_type (search rules) r t ne

-- ---- one step

pub then_okay : {A B : Type 0} (read : Result A TextFault) (go : A → Result B TextFault) (x : A) (y : B) → Okay read x → Okay (go x) y → Okay (read >>= go) y
then_okay read go x y (inl found) (inl last) = inl (rw found last)
then_okay read go x y (inl found) (inr deep) = inr (deep.0, rw found deep.1)
then_okay read go x y (inr deep) last = inr (deep.0, rw deep.1 refl)

pub same_okay : {A : Type 0} (read other : Result A TextFault) (x : A) → other ≡ read → Okay read x → Okay other x
same_okay read other x e (inl found) = inl (e ∙ found)
same_okay read other x e (inr deep) = inr (deep.0, e ∙ deep.1)

pub at_okay : {A : Type 0} (read : List Place → Result A TextFault) (us vs : List Place) (x : A) → us ≡ vs → Okay (read vs) x → Okay (read us) x
at_okay read us vs x e h = same_okay (read vs) (read us) x (ap read e) h

pub record Complete {A : Type 0} (P : List Token → A → Type 0) (Ends : List Place → Type 0) (read : List Place → Read A) : Type 0 where
  pub ok : (o : ℕ → ℕ) (ys : List Token) (a : A) (rest : List Place) → P ys a → Ends rest → Okay (read (put o ys ++ rest)) (a, rest)

abbrev pub Any : List Place → Type 0
Any rest = Unit {0}

-- the tokens are these, and the value this
pub c_wider : {A : Type 0} {P Q : List Token → A → Type 0} {E : List Place → Type 0} {read : List Place → Read A} → Complete P E read → ((ys : List Token) (a : A) → Q ys a → P ys a) → Complete Q E read
c_wider h f = record { ok = λ o ys a rest is ends. h.ok o ys a rest (f ys a is) ends }

pub c_changed : {A B : Type 0} {P : List Token → A → Type 0} {Q : List Token → B → Type 0} {E : List Place → Type 0} {read : List Place → Read A} (f : A → B) → Complete P E read → ((ys : List Token) (b : B) → Q ys b → (a : A) × P ys a × (b ≡ f a)) → Complete Q E (λ ts. made f (read ts))
c_changed {read = read} f h g = record {
  ok = λ o ys b rest is ends.
      let k = g ys b is in
      then_okay (read (put o ys ++ rest)) (λ x. Ok (f x.0, x.1)) (k.0, rest) (b, rest) (h.ok o ys k.0 rest k.1 ends) (inl (ap (λ y. Ok (y, rest)) (sym k.2)));
}

pub c_behind : {A : Type 0} {P Q : List Token → A → Type 0} {E : List Place → Type 0} {read : List Place → Read A} (t : Symbol) (stop : ℕ) → Complete P E read → ((ys : List Token) (a : A) → Q ys a → (zs : List Token) × (ys ≡ symbol t ∷ zs) × P zs a) → Complete Q E (λ ts. expect t stop ts >>= read)
unfolding expect
c_behind {read = read} t stop h f = record {
  ok = λ o ys a rest is ends.
      let k = f ys a is in
      let us : List Place = put (λ n. o (suc n)) k.0 ++ rest in
      let seen = sees_itself t (o 0) us in
      at_okay (λ ts. expect t stop ts >>= read) (put o ys ++ rest) (place (symbol t) (o 0) ∷ us) (a, rest) (ap (λ (v : List Token). put o v ++ rest) k.1) (rw seen (h.ok (λ n. o (suc n)) k.0 a rest k.2 ends));
}

pub c_closed : {A : Type 0} {P Q : List Token → A → Type 0} {E : List Place → Type 0} {read : List Place → Read A} (Last : List Place → Type 0) (t : Symbol) (stop : ℕ) → ((at : ℕ) (us : List Place) → E (place (symbol t) at ∷ us)) → Complete P E read
    → ((ys : List Token) (a : A) → Q ys a → (zs : List Token) × (ys ≡ zs ++ symbol t ∷ []) × P zs a) → Complete Q Last (λ ts. closed_by t stop (read ts))
unfolding closed_by expect
c_closed {read = read} Last t stop e h f = record {
  ok = λ o ys a rest is ends.
      let k = f ys a is in
      let at : ℕ = skip k.0 o 0 in
      let us : List Place = place (symbol t) at ∷ rest in
      let inner = h.ok o k.0 a us k.2 (e at rest) in
      let whole : put o ys ++ rest ≡ put o k.0 ++ us = ap (λ (v : List Token). put o v ++ rest) k.1 ∙ put-append o k.0 (symbol t ∷ []) rest in
      let seen = sees_itself t at rest in
      at_okay (λ ts. closed_by t stop (read ts)) (put o ys ++ rest) (put o k.0 ++ us) (a, rest) whole (then_okay (read (put o k.0 ++ us)) (λ x. expect t stop x.1 >>= λ r. Ok (x.0, r)) (a, us) (a, rest) inner (inl (rw seen refl)));
}

-- two parts
pub record Split {A B : Type 0} (P : List Token → A → Type 0) (Q : A → List Token → B → Type 0) (E F : List Place → Type 0) (zs : List Token) (b : B) : Type 0 where
  pub left : List Token
  pub right : List Token
  pub value : A
  pub whole : zs ≡ left ++ right
  pub first : P left value
  pub second : Q value right b
  pub between : (o : ℕ → ℕ) (rest : List Place) → F rest → E (put o right ++ rest)

pub c_followed : {A B : Type 0} {P : List Token → A → Type 0} {Q : A → List Token → B → Type 0} {R : List Token → B → Type 0} {E F : List Place → Type 0} {read : List Place → Read A} {next : A → List Place → Read B}
    → Complete P E read → ((a : A) → Complete (Q a) F (next a)) → ((zs : List Token) (b : B) → R zs b → Split P Q E F zs b) → Complete R F (λ ts. read ts >>= λ a. next a.0 a.1)
c_followed {read = read} {next = next} h k f = record {
  ok = λ o zs b rest is ends.
      let p = f zs b is in
      let us : List Place = put (skip p.left o) p.right ++ rest in
      let whole : put o zs ++ rest ≡ put o p.left ++ us = ap (λ (v : List Token). put o v ++ rest) p.whole ∙ put-append o p.left p.right rest in
      at_okay (λ ts. read ts >>= λ a. next a.0 a.1) (put o zs ++ rest) (put o p.left ++ us) (b, rest) whole (then_okay (read (put o p.left ++ us)) (λ a. next a.0 a.1) (p.value, us) (b, rest) (h.ok o p.left p.value us p.first (p.between (skip p.left o) rest ends)) ((k p.value).ok (skip p.left o) p.right b rest p.second ends));
}

-- ---- several, one behind another

-- Each part begins so that the test passes, whatever stands behind it, and where all end it doesn't.
all_read : {A : Type 0} {P : List Token → A → Type 0} {part : List Place → Read A} (go : List Place → Bool) → Complete P Any part
    → ((o : ℕ → ℕ) (ys : List Token) (a : A) (rest : List Place) → P ys a → go (put o ys ++ rest) ≡ true) → ((ys : List Token) (a : A) → P ys a → 1 ≤ length ys)
    → (n : ℕ) (o : ℕ → ℕ) (ys : List Token) (list : List A) (rest : List Place) → AreAll P ys list → length ys ≤ n → go rest ≡ false → Okay (parts n go part (put o ys ++ rest)) (list, rest)
unfolding parts
all_read go h starts one zero o _ _ rest none le ends = inl refl
all_read go h starts one (suc n) o _ _ rest none le ends = inl (rw ends refl)
all_read go h starts one zero o _ _ rest (some {xs = xs} {ys = ys} {a = a} k more) le ends = absurd (omega (arith, one xs a k, le, length-append xs ys))
all_read {P = P} {part = part} go h starts one (suc n) o _ _ rest (some {xs = xs} {ys = ys} {a = a} {list = list} k more) le ends =
    let us : List Place = put (skip xs o) ys ++ rest in
    let begins = starts o xs a us k in
    rw (put-append o xs ys rest) (rw begins
    (then_okay (part (put o xs ++ us)) (λ x. parts n go part x.1 >>= λ xs. Ok (x.0 ∷ xs.0, xs.1)) (a, us) (a ∷ list, rest) (h.ok o xs a us k tt)
    (then_okay (parts n go part us) (λ xs. Ok (a ∷ xs.0, xs.1)) (list, rest) (a ∷ list, rest) (all_read go h starts one n (skip xs o) ys list rest more (omega (arith, one xs a k, le, length-append xs ys)) ends) (inl refl))))

pub length-put : (o : ℕ → ℕ) (ys : List Token) (rest : List Place) → length ys ≤ length (put o ys ++ rest)
length-put o [] rest = omega arith
length-put o (y ∷ ys) rest = let h = length-put (λ n. o (suc n)) ys rest in omega (arith, h)

-- a part begins otherwise than the symbol at which they end
pub record Apart {A : Type 0} (P : List Token → A → Type 0) (r : Symbol) : Type 0 where
  pub begins : (o : ℕ → ℕ) (ys : List Token) (a : A) (rest : List Place) → P ys a → sees r (put o ys ++ rest) ≡ false
  pub one : (ys : List Token) (a : A) → P ys a → 1 ≤ length ys

abbrev pub Sees : Symbol → List Place → Type 0
Sees r rest = sees r rest ≡ true

pub c_until : {A : Type 0} {P : List Token → A → Type 0} {part : List Place → Read A} (r : Symbol) → Complete P Any part → Apart P r → Complete (AreAll P) (Sees r) (until r part)
unfolding until many
c_until r h apart = record {
  ok = λ o ys list rest is ends.
      all_read (λ us. not (sees r us)) h (λ o ys a rest k. ap not (apart.begins o ys a rest k)) apart.one (length (put o ys ++ rest)) o ys list rest is (length-put o ys rest) (ap not ends);
}

pub c_some : {A : Type 0} {P : List Token → A → Type 0} {part : List Place → Read A} (r : Symbol) → Complete P Any part → Apart P r → Complete (λ ys list. AreAll P ys list × HasOne list) (Sees r) (some_until r part)
unfolding some_until
c_some {P = P} {part = part} r h apart = record { ok = λ o ys list rest is ends. go o ys list rest is.0 is.1 ends }
  where
    go : (o : ℕ → ℕ) (ys : List Token) (list : List _) (rest : List Place) → AreAll P ys list → HasOne list → sees r rest ≡ true → Okay (some_until r part (put o ys ++ rest)) (list, rest)
    go o _ _ rest none one ends = absurd one
    go o _ _ rest (some {xs = xs} {ys = ys} {a = a} {list = list} k more) one ends =
        let us : List Place = put (skip xs o) ys ++ rest in
        rw (put-append o xs ys rest)
        (then_okay (part (put o xs ++ us)) (λ x. made (λ zs. x.0 ∷ zs) (until r part x.1)) (a, us) (a ∷ list, rest) (h.ok o xs a us k tt)
        (then_okay (until r part us) (λ zs. Ok (a ∷ zs.0, zs.1)) (list, rest) (a ∷ list, rest) ((c_until r h apart).ok (skip xs o) ys list rest more ends) (inl refl)))
