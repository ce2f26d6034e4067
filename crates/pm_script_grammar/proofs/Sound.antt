-- Readers that are sound: what they read is derived from the tokens before those that are left.
use Rattle.std.proofs.Common.{◌≡◌, ℕ, zero, suc, Bool, cond, not, List, [], ◌∷◌, ◌++◌, length, drop, Ok, refl, sym, ap, subst, ◌∙◌, append_assoc}
use Rattle.pm_tokens.specs.declared.symbol.Symbol.{Symbol}
use Rattle.pm_tokens.specs.Tokens.{Token, symbol, Place}
use Rattle.pm_terms.specs.Steps.{Read, ◌>>=◌, made, sees, expect, closed_by, parts, many}
use Rattle.pm_patterns.specs.PatternReading.{until, some_until}
use Rattle.pm_grammar.specs.ReadingLaws.{tokens_at}
use Rattle.pm_grammar.proofs.Steps.{bind_ok, ok_to, made_ok, either, sees_ok, expect_ok, closed_ok}
use Rattle.pm_script_grammar.specs.PatternGrammar.{all_as, AreAll, none, some, HasOne}

pub record Found {A : Type 0} (P : List Token → A → Type 0) (ts : List Place) (x : A × List Place) : Type 0 where
  pub before : List Token
  pub split : tokens_at ts ≡ before ++ tokens_at x.1
  pub is : P before x.0

pub record Sound {A : Type 0} (P : List Token → A → Type 0) (read : List Place → Read A) : Type 0 where
  pub ok : (ts : List Place) (x : A × List Place) → read ts ≡ Ok x → Found P ts x

-- ---- what is derived, changed

pub widened : {A : Type 0} {P Q : List Token → A → Type 0} {ts : List Place} {x : A × List Place} → Found P ts x → ((ys : List Token) (a : A) → P ys a → Q ys a) → Found Q ts x
widened {x = x} h f = record { before = h.before; split = h.split; is = f h.before x.0 h.is }

pub wider : {A : Type 0} {P Q : List Token → A → Type 0} {read : List Place → Read A} → Sound P read → ((ys : List Token) (a : A) → P ys a → Q ys a) → Sound Q read
wider h f = record { ok = λ ts x e. widened (h.ok ts x e) f }

-- ---- nothing read

pub given : {A : Type 0} {P : List Token → A → Type 0} (a : A) → P [] a → Sound P (λ ts. Ok (a, ts))
given {P = P} a h = record { ok = λ ts x e. ok_to (Found P ts) (a, ts) x e (record { before = []; split = refl; is = h }) }

-- ---- one part

pub changed : {A B : Type 0} {P : List Token → A → Type 0} {Q : List Token → B → Type 0} {read : List Place → Read A} (f : A → B) → Sound P read → ((ys : List Token) (a : A) → P ys a → Q ys (f a)) → Sound Q (λ ts. made f (read ts))
changed {Q = Q} {read = read} f h g = record {
  ok = λ ts x e.
      let m = made_ok f (read ts) x e in
      let found = h.ok ts (m.0, x.1) m.1 in
      record { before = found.before; split = found.split; is = subst (Q found.before) m.2 (g found.before m.0 found.is) };
}

-- behind a symbol
pub behind_symbol : {A : Type 0} {P Q : List Token → A → Type 0} {read : List Place → Read A} (t : Symbol) (stop : ℕ) → Sound P read → ((ys : List Token) (a : A) → P ys a → Q (symbol t ∷ ys) a) → Sound Q (λ ts. expect t stop ts >>= read)
behind_symbol {read = read} t stop h f = record {
  ok = λ ts x e.
      let b = bind_ok (expect t stop ts) read x e in
      let found = h.ok b.0 x b.2 in
      record { before = symbol t ∷ found.before; split = expect_ok t stop ts b.0 b.1 ∙ ap (λ us. symbol t ∷ us) found.split; is = f found.before x.0 found.is };
}

-- before a symbol
pub closed : {A : Type 0} {P Q : List Token → A → Type 0} {read : List Place → Read A} (t : Symbol) (stop : ℕ) → Sound P read → ((ys : List Token) (a : A) → P ys a → Q (ys ++ symbol t ∷ []) a) → Sound Q (λ ts. closed_by t stop (read ts))
closed {read = read} t stop h f = record {
  ok = λ ts x e.
      let c = closed_ok t stop (read ts) x e in
      let found = h.ok ts (x.0, c.0) c.1 in
      record { before = found.before ++ symbol t ∷ []; split = found.split ∙ ap (λ us. found.before ++ us) c.2 ∙ sym (append_assoc found.before (symbol t ∷ []) (tokens_at x.1)); is = f found.before x.0 found.is };
}

-- ---- two parts

pub followed : {A B : Type 0} {P : List Token → A → Type 0} {Q : A → List Token → B → Type 0} {R : List Token → B → Type 0} {read : List Place → Read A} {next : A → List Place → Read B}
    → Sound P read → ((a : A) → Sound (Q a) (next a)) → ((xs ys : List Token) (a : A) (b : B) → P xs a → Q a ys b → R (xs ++ ys) b) → Sound R (λ ts. read ts >>= λ a. next a.0 a.1)
followed {read = read} {next = next} h k f = record {
  ok = λ ts x e.
      let b = bind_ok (read ts) (λ a. next a.0 a.1) x e in
      let first = h.ok ts b.0 b.1 in
      let second = (k b.0.0).ok b.0.1 x b.2 in
      record {
        before = first.before ++ second.before;
        split = first.split ∙ ap (λ us. first.before ++ us) second.split ∙ sym (append_assoc first.before second.before (tokens_at x.1));
        is = f first.before second.before b.0.0 x.0 first.is second.is;
      };
}

-- ---- one of two

pub chosen : {A : Type 0} {P : List Token → A → Type 0} {one other : List Place → Read A} (test : List Place → Bool) → Sound P one → Sound P other → Sound P (λ ts. cond (test ts) (one ts) (other ts))
chosen {P = P} {one = one} {other = other} test h k = record { ok = λ ts x e. either (test ts) (one ts) (other ts) (Ok x) e (Found P ts x) (λ yes f. h.ok ts x f) (λ no f. k.ok ts x f) }

-- behind a symbol where it stands there
pub after_symbol : {A : Type 0} {P Q : List Token → A → Type 0} {one other : List Place → Read A} (t : Symbol) → Sound P one → ((ys : List Token) (a : A) → P ys a → Q (symbol t ∷ ys) a) → Sound Q other → Sound Q (λ ts. cond (sees t ts) (one (drop 1 ts)) (other ts))
after_symbol {Q = Q} {one = one} {other = other} t h f k = record {
  ok = λ ts x e. either (sees t ts) (one (drop 1 ts)) (other ts) (Ok x) e (Found Q ts x)
      (λ yes g. let found = h.ok (drop 1 ts) x g in record { before = symbol t ∷ found.before; split = sees_ok t ts yes ∙ ap (λ us. symbol t ∷ us) found.split; is = f found.before x.0 found.is })
      (λ no g. k.ok ts x g);
}

-- ---- several, one behind another

abbrev Listed : {A : Type 0} → (List Token → A → Type 0) → A → List Token → List A → Type 0
Listed {A = A} P a ys list = (others : List A) × (list ≡ a ∷ others) × AreAll P ys others

extend : {A : Type 0} {P : List Token → A → Type 0} (a : A) {read : List Place → Read (List A)} → Sound (AreAll P) read → Sound (Listed P a) (λ ts. made (λ xs. a ∷ xs) (read ts))
extend a h = changed (λ xs. a ∷ xs) h (λ ys list is. (list, refl, is))

join_all : {A : Type 0} (P : List Token → A → Type 0) (xs ys : List Token) (a : A) (list : List A) → P xs a → Listed P a ys list → AreAll P (xs ++ ys) list
join_all P xs ys a list is more = subst (AreAll P (xs ++ ys)) (sym more.1) (some is more.2)

all_parts : {A : Type 0} {P : List Token → A → Type 0} {part : List Place → Read A} (goes_on : List Place → Bool) → Sound P part → (n : ℕ) → Sound (AreAll P) (parts n goes_on part)
unfolding parts
all_parts goes_on h zero = given [] none
all_parts {A = A} {P = P} {part = part} goes_on h (suc n) =
    chosen goes_on
    (followed {P = P} {Q = Listed P} {R = AreAll P} {read = part} {next = λ a ts. made (λ xs. a ∷ xs) (parts n goes_on part ts)} h (λ a. extend a (all_parts goes_on h n)) (join_all P))
    (given [] none)

pub all_until : {A : Type 0} {P : List Token → A → Type 0} {part : List Place → Read A} (r : Symbol) → Sound P part → Sound (AreAll P) (until r part)
unfolding until many
all_until r h = record { ok = λ ts x e. (all_parts (λ us. not (sees r us)) h (length ts)).ok ts x e }

abbrev pub AreSome : {A : Type 0} → (List Token → A → Type 0) → List Token → List A → Type 0
AreSome P ys list = AreAll P ys list × HasOne list

join_some : {A : Type 0} (P : List Token → A → Type 0) (xs ys : List Token) (a : A) (list : List A) → P xs a → Listed P a ys list → AreSome P (xs ++ ys) list
join_some P xs ys a list is more = (join_all P xs ys a list is more, subst HasOne (sym more.1) tt)

pub some_parts : {A : Type 0} {P : List Token → A → Type 0} {part : List Place → Read A} (r : Symbol) → Sound P part → Sound (AreSome P) (some_until r part)
unfolding some_until
some_parts {P = P} {part = part} r h = followed {P = P} {Q = Listed P} {R = AreSome P} {read = part} {next = λ a ts. made (λ xs. a ∷ xs) (until r part ts)} h (λ a. extend a (all_until r h)) (join_some P)

pub all_tokens : {A : Type 0} (tokens : A → List Token) (ys : List Token) (list : List A) → AreAll (λ xs a. xs ≡ tokens a) ys list → ys ≡ all_as tokens list
all_tokens tokens _ _ none = refl
all_tokens tokens _ _ (some {xs = xs} {ys = ys} {a = a} {list = list} h k) = ap (λ us. us ++ ys) h ∙ ap (λ us. tokens a ++ us) (all_tokens tokens ys list k)
