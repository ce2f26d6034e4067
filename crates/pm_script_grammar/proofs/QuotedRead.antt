-- What the grammar derives between quotes is read, unless it is too deep.
use Rattle.std.proofs.Common.{◌≡◌, inl, inr, ℕ, zero, suc, ◌≤◌, Bool, true, false, cond, ◌==◌, List, [], ◌∷◌, ◌++◌, length, Some, None, Err, refl, sym, ap, subst, ◌∙◌, append_assoc, arith}
use Rattle.pm_logic.specs.declared.limits.TheConstants.{MAX_LEVELS}
use Rattle.pm_tokens.specs.declared.symbol.Symbol.{Symbol}
use Rattle.pm_tokens.specs.declared.symbol.Symbol.TheVariants as s
use Rattle.pm_tokens.specs.Tokens.{Token, name, number, symbol, Place, place}
use Rattle.pm_terms.specs.Steps.{Read, ◌>>=◌, made, same_symbol, sees, expect, closed_by}
use Rattle.pm_patterns.specs.declared.pattern.Sel.{Sel}
use Rattle.pm_patterns.specs.declared.pattern.Sel.TheVariants as sel
use Rattle.pm_patterns.specs.declared.pattern.Pick.{Pick}
use Rattle.pm_patterns.specs.declared.pattern.Spat.{Spat}
use Rattle.pm_patterns.specs.declared.pattern.Spat.TheVariants as spat
use Rattle.pm_patterns.specs.declared.pattern.Pat.{Pat}
use Rattle.pm_patterns.specs.declared.pattern.Pat.TheVariants as pat
use Rattle.pm_patterns.specs.declared.pattern.Pat.TheViews as pair
use Rattle.pm_patterns.specs.declared.signs.PatternSign.{PatternSign}
use Rattle.pm_patterns.specs.declared.extent.Extent.TheVariants.{One}
use Rattle.pm_patterns.specs.Signs.{pattern_sign, item_of, sel_of, premise_of}
use Rattle.pm_patterns.specs.PatternReading.{until, some_until, at_symbol, next_item, next_premise, begins, quoted, name_in, quoted_name, quoted_names, grouped_names, sel_in, quoted_sels, quoted_pattern, deep_name, behind_name, named_at, named_pattern, bound_pattern, clear_or_pattern, intro_in, quoted_intros, pick_in, spatial_in, premise_in, premise, quoted_premise, spat_in, quoted_spats}
use Rattle.pm_grammar.proofs.Steps.{put, skip, put-append, symbol_is}
use Rattle.pm_script_grammar.specs.PatternGrammar as g
use Rattle.pm_script_grammar.specs.PatternGrammar.{within, in_quotes, in_parentheses, in_brackets, all_as, name_as, names_as, AreAll, none, some, HasOne, sel_as, sels_as, IsPattern, IsIntro, AreIntros, over, IsBoundPattern, pick_as, picks_as, spat_as, spats_as}
use Rattle.pm_script_grammar.proofs.PatternsDerived.{Within, Quoted, Spelled, SomeOf, IsPremise}
use Rattle.pm_script_grammar.proofs.Complete.{Okay, sees_itself, at_okay, Complete, Any, c_wider, c_changed, c_behind, c_closed, Apart, Sees, c_until, c_some}
use Rattle.pm_script_grammar.proofs.PatternsRead.{begun, unbegun, made_okay, c_pattern}

-- ---- between two symbols

pub c_enclosed : {A : Type 0} {P : List Token → A → Type 0} {E : List Place → Type 0} {read : List Place → Read A} (l r : Symbol) (stop : ℕ) → ((at : ℕ) (us : List Place) → E (place (symbol r) at ∷ us)) → Complete P E read
    → Complete (Within l r P) Any (λ ts. expect l stop ts >>= λ rest. closed_by r stop (read rest))
c_enclosed {P = P} {read = read} l r stop e h =
    c_behind {P = λ ys a. (zs : List Token) × (ys ≡ zs ++ symbol r ∷ []) × P zs a} {Q = Within l r P} {read = λ rest. closed_by r stop (read rest)} l stop
    (c_closed {P = P} {Q = λ ys a. (zs : List Token) × (ys ≡ zs ++ symbol r ∷ []) × P zs a} {read = read} Any r stop e h (λ ys a k. k))
    (λ ys a k. (k.0 ++ symbol r ∷ [], k.1, (k.0, refl, k.2)))

pub c_quotes : {A : Type 0} {P : List Token → A → Type 0} {E : List Place → Type 0} {read : List Place → Read A} (stop : ℕ) → ((at : ℕ) (us : List Place) → E (place (symbol s.Quote) at ∷ us)) → Complete P E read → Complete (Quoted P) Any (quoted stop read)
unfolding quoted
c_quotes stop e h = c_enclosed s.Quote s.Quote stop e h

any_end : (r : Symbol) (at : ℕ) (us : List Place) → Any (place (symbol r) at ∷ us)
any_end r at us = tt

pub c_spelled : {A : Type 0} (E : List Place → Type 0) {read : List Place → Read A} (tokens : A → List Token) → ((a : A) (o : ℕ → ℕ) (rest : List Place) → E rest → Okay (read (put o (tokens a) ++ rest)) (a, rest)) → Complete (Spelled tokens) E read
c_spelled E {read = read} tokens f = record { ok = λ o ys a rest is ends. at_okay read (put o ys ++ rest) (put o (tokens a) ++ rest) (a, rest) (ap (λ (v : List Token). put o v ++ rest) is) (f a o rest ends) }

pub apart_spelled : {A : Type 0} (r : Symbol) (tokens : A → List Token) → ((a : A) (o : ℕ → ℕ) (rest : List Place) → sees r (put o (tokens a) ++ rest) ≡ false) → ((a : A) → 1 ≤ length (tokens a)) → Apart (Spelled tokens) r
apart_spelled r tokens f one = record {
  begins = λ o ys a rest is. ap (λ (v : List Token). sees r (put o v ++ rest)) is ∙ f a o rest;
  one = λ ys a is. subst (λ (v : List Token). 1 ≤ length v) (sym is) (one a);
}

spelled_all : {A : Type 0} (tokens : A → List Token) (list : List A) → AreAll (Spelled tokens) (all_as tokens list) list
spelled_all tokens [] = none
spelled_all tokens (a ∷ list) = some refl (spelled_all tokens list)

all_spelled : {A : Type 0} (tokens : A → List Token) (ys : List Token) (list : List A) → ys ≡ all_as tokens list → AreAll (Spelled tokens) ys list
all_spelled tokens ys list e = subst (λ (v : List Token). AreAll (Spelled tokens) v list) (sym e) (spelled_all tokens list)

c_some_of : {A : Type 0} {read : List Place → Read A} (stop : ℕ) (r : Symbol) (tokens : A → List Token) → Complete (Spelled tokens) Any read → Apart (Spelled tokens) r → Complete (SomeOf stop tokens) (Sees r) (some_until r read)
c_some_of stop r tokens h apart = c_wider (c_some r h apart) (λ ys list k. (all_spelled tokens ys list k.0, k.1))

c_all_of : {A : Type 0} {read : List Place → Read A} (r : Symbol) (tokens : A → List Token) → Complete (Spelled tokens) Any read → Apart (Spelled tokens) r → Complete (Spelled (all_as tokens)) (Sees r) (until r read)
c_all_of r tokens h apart = c_wider (c_until r h apart) (all_spelled tokens)

-- ---- the next token

name_apart : (r : Symbol) → Apart (Spelled name_as) r
unfolding sees
name_apart r = apart_spelled r name_as (λ a o rest. refl) (λ a. omega arith)

sel_apart_quote : Apart (Spelled sel_as) s.Quote
unfolding sees same_symbol
sel_apart_quote = apart_spelled s.Quote sel_as (elim [ sel.Name x ↦ λ o rest. refl | sel.Pures ↦ λ o rest. refl | sel.Ints ↦ λ o rest. refl | sel.Spats ↦ λ o rest. refl ]) (elim [ sel.Name x ↦ omega arith | sel.Pures ↦ omega arith | sel.Ints ↦ omega arith | sel.Spats ↦ omega arith ])

sel_apart_brace : Apart (Spelled sel_as) s.CloseBrace
unfolding sees same_symbol
sel_apart_brace = apart_spelled s.CloseBrace sel_as (elim [ sel.Name x ↦ λ o rest. refl | sel.Pures ↦ λ o rest. refl | sel.Ints ↦ λ o rest. refl | sel.Spats ↦ λ o rest. refl ]) (elim [ sel.Name x ↦ omega arith | sel.Pures ↦ omega arith | sel.Ints ↦ omega arith | sel.Spats ↦ omega arith ])

-- what begins a pattern is no item alone
sign_no_item : (r : Symbol) (b : PatternSign) → pattern_sign r ≡ Some b → item_of r ≡ None
unfolding pattern_sign item_of
sign_no_item s.Modality b e = absurd cc
sign_no_item s.DoubleSlash b e = absurd cc
sign_no_item s.Asterisk b e = absurd cc
sign_no_item s.DoubleAsterisk b e = absurd cc
sign_no_item _ b e = refl

module _ (stop : ℕ) where
  pub c_name : {E : List Place → Type 0} → Complete (Spelled name_as) E (name_in stop)
  unfolding name_in
  c_name {E = E} = c_spelled E name_as (λ x o rest ends. inl refl)

  pub c_quoted_name : Complete (Quoted (Spelled name_as)) Any (quoted_name stop)
  unfolding quoted_name
  c_quoted_name = c_quotes {E = Any} stop (any_end s.Quote) c_name

  pub c_quoted_names : Complete (Quoted (SomeOf stop name_as)) Any (quoted_names stop)
  unfolding quoted_names
  c_quoted_names = c_quotes stop (sees_itself s.Quote) (c_some_of stop s.Quote name_as c_name (name_apart s.Quote))

  pub c_grouped_names : Complete (Within s.Open s.Close (SomeOf stop name_as)) Any (grouped_names stop)
  unfolding grouped_names
  c_grouped_names = c_enclosed s.Open s.Close stop (sees_itself s.Close) (c_some_of stop s.Close name_as c_name (name_apart s.Close))

  sel_read : (x : Sel) (o : ℕ → ℕ) (rest : List Place) → Okay (sel_in stop (put o (sel_as x) ++ rest)) (x, rest)
  unfolding sel_in at_symbol sel_of name_in
  sel_read (sel.Name x) o rest = inl refl
  sel_read sel.Pures o rest = inl refl
  sel_read sel.Ints o rest = inl refl
  sel_read sel.Spats o rest = inl refl

  c_sel : Complete (Spelled sel_as) Any (sel_in stop)
  c_sel = c_spelled Any sel_as (λ x o rest ends. sel_read x o rest)

  pub c_quoted_sels : Complete (Quoted (SomeOf stop sel_as)) Any (quoted_sels stop)
  unfolding quoted_sels
  c_quoted_sels = c_quotes stop (sees_itself s.Quote) (c_some_of stop s.Quote sel_as c_sel sel_apart_quote)

  -- ---- patterns

  pub c_quoted_pattern : (room : ℕ) → Complete (Quoted (IsPattern One)) Any (quoted_pattern stop room)
  unfolding quoted_pattern
  c_quoted_pattern room = c_quotes stop (any_end s.Quote) (c_pattern stop room)

  quoted_pattern_read : (room : ℕ) (zs : List Token) (p : Pat) → IsPattern One zs p → (o : ℕ → ℕ) (rest : List Place) → Okay (quoted_pattern stop room (put o (in_quotes zs) ++ rest)) (p, rest)
  quoted_pattern_read room zs p h o rest = (c_quoted_pattern room).ok o (in_quotes zs) p rest (zs, refl, h) tt

  abbrev next : (ℕ → ℕ) → ℕ → ℕ
  next o n = o (suc n)

  abbrev behind_names : List (List ℕ) → List Token → List Token
  behind_names xs zs = names_as xs ++ symbol s.Close ∷ in_quotes zs

  behind_read : (self : List Place → Read Pat) (room : ℕ) (xs : List (List ℕ)) (zs : List Token) (p : Pat) → IsPattern One zs p
      → ((x : List ℕ) (ys : List (List ℕ)) (o : ℕ → ℕ) (rest : List Place) → Okay (self (put o (behind_names (x ∷ ys) zs) ++ rest)) (over (x ∷ ys) p, rest))
      → (o : ℕ → ℕ) (rest : List Place) → Okay (behind_name stop self room (put o (behind_names xs zs) ++ rest)) (over xs p, rest)
  unfolding behind_name sees same_symbol
  behind_read self room [] zs p h k o rest = quoted_pattern_read room zs p h (next o) rest
  behind_read self room (x ∷ xs) zs p h k o rest = k x xs o rest

  named_read : (room : ℕ) (x : List ℕ) (xs : List (List ℕ)) (zs : List Token) (p : Pat) → IsPattern One zs p → (o : ℕ → ℕ) (rest : List Place) → Okay (named_pattern stop room (put o (behind_names (x ∷ xs) zs) ++ rest)) (over (x ∷ xs) p, rest)
  unfolding named_pattern named_at name_in deep_name
  named_read zero x xs zs p h o rest = inr (o 0, refl)
  named_read (suc room) x xs zs p h o rest = go (λ x ys o rest. named_read room x ys zs p h o rest) (room == 0) refl
    where
      go : ((x : List ℕ) (ys : List (List ℕ)) (o : ℕ → ℕ) (rest : List Place) → Okay (named_pattern stop room (put o (behind_names (x ∷ ys) zs) ++ rest)) (over (x ∷ ys) p, rest))
          → (b : Bool) → (room == 0) ≡ b → Okay (cond b (Err (deep_name stop (put o (behind_names (x ∷ xs) zs) ++ rest))) (named_at stop (named_pattern stop room) room (put o (behind_names (x ∷ xs) zs) ++ rest))) (over (x ∷ xs) p, rest)
      go k true e = inr (o 0, refl)
      go k false e = made_okay (pair.Pair (pat.PureName x)) (behind_name stop (named_pattern stop room) room (put (next o) (behind_names xs zs) ++ rest)) (over xs p) rest (behind_read (named_pattern stop room) room xs zs p h k (next o) rest)

  bound_read : (ys : List Token) (p : Pat) → IsBoundPattern ys p → (o : ℕ → ℕ) (rest : List Place) → Okay (bound_pattern stop (put o ys ++ rest)) (p, rest)
  unfolding bound_pattern sees same_symbol
  bound_read _ p (g.plain {xs = xs} h) o rest = quoted_pattern_read MAX_LEVELS xs p h o rest
  bound_read _ _ (g.named x ns {xs = xs} {p = p} h) o rest =
      at_okay (λ ts. named_pattern stop MAX_LEVELS ts) (put (next o) ((names_as (x ∷ ns) ++ symbol s.Close ∷ []) ++ in_quotes xs) ++ rest) (put (next o) (behind_names (x ∷ ns) xs) ++ rest) (over (x ∷ ns) p, rest)
      (ap (λ (v : List Token). put (next o) v ++ rest) (append_assoc (names_as (x ∷ ns)) (symbol s.Close ∷ []) (in_quotes xs))) (named_read MAX_LEVELS x ns xs p h (next o) rest)

  pub c_bound : Complete IsBoundPattern Any (bound_pattern stop)
  c_bound = record { ok = λ o ys p rest is ends. bound_read ys p is o rest }

  -- ---- introduction items

  no_item : (ts : List Place) (b : PatternSign) → begins ts ≡ Some b → next_item ts ≡ None
  unfolding begins at_symbol
  no_item [] b e = refl
  no_item (place (name w) at ∷ ts) b e = refl
  no_item (place (number n) at ∷ ts) b e = refl
  no_item (place (symbol r) at ∷ ts) b e = sign_no_item r b e

  no_brace : pattern_sign s.OpenBrace ≡ None
  unfolding pattern_sign
  no_brace = refl

  no_quote : pattern_sign s.Quote ≡ None
  unfolding pattern_sign
  no_quote = refl

  pattern_intro : (ys : List Token) (p : Pat) → IsPattern One ys p → (o : ℕ → ℕ) (rest : List Place) → Okay (intro_in stop (put o ys ++ rest)) (p, rest)
  unfolding intro_in clear_or_pattern
  pattern_intro ys p h o rest =
      let b = begun One ys p h o rest in
      let item = no_item (put o ys ++ rest) b.0 b.1 in
      let brace = unbegun s.OpenBrace no_brace (put o ys ++ rest) b.0 b.1 in
      rw item (rw brace ((c_pattern stop MAX_LEVELS).ok o ys p rest h tt))

  c_clear : Complete (λ ys p. (list : List Sel) × (ys ≡ sels_as list ++ symbol s.CloseBrace ∷ []) × HasOne list × (p ≡ pat.Clear list)) Any (λ ts. closed_by s.CloseBrace stop (made pat.Clear (some_until s.CloseBrace (sel_in stop) ts)))
  c_clear = c_closed {P = λ ys p. (list : List Sel) × (ys ≡ sels_as list) × HasOne list × (p ≡ pat.Clear list)} Any s.CloseBrace stop (sees_itself s.CloseBrace)
      (c_changed pat.Clear (c_some_of stop s.CloseBrace sel_as c_sel sel_apart_brace) (λ ys p k. (k.0, (k.1, k.2), k.3)))
      (λ ys p k. (sels_as k.0, k.1, (k.0, refl, k.2, k.3)))

  intro_read : (ys : List Token) (p : Pat) → IsIntro ys p → (o : ℕ → ℕ) (rest : List Place) → Okay (intro_in stop (put o ys ++ rest)) (p, rest)
  unfolding intro_in at_symbol item_of clear_or_pattern sees same_symbol
  intro_read ys p (g.pattern_of h) o rest = pattern_intro ys p h o rest
  intro_read ys p g.modality o rest = inl refl
  intro_read ys p g.done o rest = inl refl
  intro_read ys p g.universals o rest = inl refl
  intro_read ys p g.all o rest = inl refl
  intro_read _ _ (g.cleared x xs) o rest = c_clear.ok (next o) (sels_as (x ∷ xs) ++ symbol s.CloseBrace ∷ []) (pat.Clear (x ∷ xs)) rest (x ∷ xs, refl, tt, refl) tt

  some_begun : (ys : List Token) (b : PatternSign) → begins (put (λ n. n) ys ++ []) ≡ Some b → 1 ≤ length ys
  unfolding begins
  some_begun [] b e = absurd cc
  some_begun (y ∷ ys) b e = omega arith

  intro_apart : (o : ℕ → ℕ) (ys : List Token) (p : Pat) (rest : List Place) → IsIntro ys p → sees s.Quote (put o ys ++ rest) ≡ false
  unfolding sees same_symbol
  intro_apart o ys p rest (g.pattern_of h) = let b = begun One ys p h o rest in unbegun s.Quote no_quote (put o ys ++ rest) b.0 b.1
  intro_apart o ys p rest g.modality = refl
  intro_apart o ys p rest g.done = refl
  intro_apart o ys p rest g.universals = refl
  intro_apart o ys p rest g.all = refl
  intro_apart o _ _ rest (g.cleared x xs) = refl

  intro_one : (ys : List Token) (p : Pat) → IsIntro ys p → 1 ≤ length ys
  intro_one ys p (g.pattern_of h) = let b = begun One ys p h (λ n. n) [] in some_begun ys b.0 b.1
  intro_one ys p g.modality = omega arith
  intro_one ys p g.done = omega arith
  intro_one ys p g.universals = omega arith
  intro_one ys p g.all = omega arith
  intro_one _ _ (g.cleared x xs) = omega arith

  pub c_intros : Complete AreIntros (Sees s.Quote) (some_until s.Quote (intro_in stop))
  c_intros = c_some s.Quote (record { ok = λ o ys p rest is ends. intro_read ys p is o rest }) (record { begins = intro_apart; one = intro_one })

  pub c_quoted_intros : Complete (Quoted AreIntros) Any (quoted_intros stop)
  unfolding quoted_intros
  c_quoted_intros = c_quotes stop (sees_itself s.Quote) c_intros

  -- ---- specialisation patterns

  pick_read : (framed : Bool) (x : List ℕ) (o : ℕ → ℕ) (rest : List Place) → Okay (pick_in stop (put o (pick_as (record { framed = framed; name = x })) ++ rest)) (record { framed = framed; name = x }, rest)
  unfolding pick_in sees same_symbol name_in
  pick_read true x o rest = inl refl
  pick_read false x o rest = inl refl

  pick_apart : (framed : Bool) (x : List ℕ) (o : ℕ → ℕ) (rest : List Place) → sees s.CloseBracket (put o (pick_as (record { framed = framed; name = x })) ++ rest) ≡ false
  unfolding sees same_symbol
  pick_apart true x o rest = refl
  pick_apart false x o rest = refl

  pick_one : (framed : Bool) (x : List ℕ) → 1 ≤ length (pick_as (record { framed = framed; name = x }))
  pick_one true x = omega arith
  pick_one false x = omega arith

  c_picks : Complete (Spelled picks_as) (Sees s.CloseBracket) (until s.CloseBracket (pick_in stop))
  c_picks = c_all_of s.CloseBracket pick_as (c_spelled Any pick_as (λ p o rest ends. pick_read p.framed p.name o rest)) (apart_spelled s.CloseBracket pick_as (λ p o rest. pick_apart p.framed p.name o rest) (λ p. pick_one p.framed p.name))

  c_names : Complete (Spelled names_as) (Sees s.CloseBracket) (until s.CloseBracket (name_in stop))
  c_names = c_all_of s.CloseBracket name_as c_name (name_apart s.CloseBracket)

  -- what stands in the brackets
  abbrev inner : Spat → List Token
  inner (spat.Name x) = []
  inner (spat.Goal ps) = picks_as ps
  inner (spat.Rest xs) = symbol s.Minus ∷ names_as xs
  inner spat.Persistent = symbol s.Hash ∷ []
  inner spat.Pure = symbol s.Percent ∷ []
  inner spat.Done = symbol s.DoubleSlash ∷ []

  -- what doesn't begin with a sign of a premise begins names
  record Plain (ts : List Place) : Type 0 where
    alone : next_premise ts ≡ None
    minus : sees s.Minus ts ≡ false

  bracket_plain : (at : ℕ) (ts : List Place) → Plain (place (symbol s.CloseBracket) at ∷ ts)
  unfolding sees same_symbol at_symbol premise_of
  bracket_plain at ts = record { alone = refl; minus = refl }

  plain_end : (ts : List Place) → sees s.CloseBracket ts ≡ true → Plain ts
  unfolding sees at_symbol
  plain_end [] e = absurd cc
  plain_end (place (name w) at ∷ ts) e = absurd cc
  plain_end (place (number n) at ∷ ts) e = absurd cc
  plain_end (place (symbol r) at ∷ ts) e = subst (λ r. Plain (place (symbol r) at ∷ ts)) (sym (symbol_is r s.CloseBracket e)) (bracket_plain at ts)

  plain_pick : (framed : Bool) (x : List ℕ) (o : ℕ → ℕ) (rest : List Place) → Plain (put o (pick_as (record { framed = framed; name = x })) ++ rest)
  unfolding sees same_symbol at_symbol premise_of
  plain_pick true x o rest = record { alone = refl; minus = refl }
  plain_pick false x o rest = record { alone = refl; minus = refl }

  plain_picks : (ps : List Pick) (o : ℕ → ℕ) (rest : List Place) → sees s.CloseBracket rest ≡ true → Plain (put o (picks_as ps) ++ rest)
  plain_picks [] o rest e = plain_end rest e
  plain_picks (p ∷ ps) o rest e = subst Plain (sym (put-append o (pick_as p) (picks_as ps) rest)) (plain_pick p.framed p.name o (put (skip (pick_as p) o) (picks_as ps) ++ rest))

  goal_read : (ts rest : List Place) (ps : List Pick) → Plain ts → Okay (until s.CloseBracket (pick_in stop) ts) (ps, rest) → Okay (premise_in stop ts) (spat.Goal ps, rest)
  unfolding premise_in spatial_in
  goal_read ts rest ps plain h =
      let alone = plain.alone in
      let minus = plain.minus in
      rw alone (rw minus (made_okay spat.Goal (until s.CloseBracket (pick_in stop) ts) ps rest h))

  premise_read : (p : Spat) → ((x : List ℕ) → ¬ (p ≡ spat.Name x)) → (o : ℕ → ℕ) (rest : List Place) → sees s.CloseBracket rest ≡ true → Okay (premise_in stop (put o (inner p) ++ rest)) (p, rest)
  unfolding premise_in spatial_in at_symbol premise_of sees same_symbol
  premise_read (spat.Name x) ne o rest e = absurd (ne x refl)
  premise_read (spat.Goal ps) ne o rest e = goal_read (put o (picks_as ps) ++ rest) rest ps (plain_picks ps o rest e) (c_picks.ok o (picks_as ps) ps rest refl e)
  premise_read (spat.Rest xs) ne o rest e = made_okay spat.Rest (until s.CloseBracket (name_in stop) (put (next o) (names_as xs) ++ rest)) xs rest (c_names.ok (next o) (names_as xs) xs rest refl e)
  premise_read spat.Persistent ne o rest e = inl refl
  premise_read spat.Pure ne o rest e = inl refl
  premise_read spat.Done ne o rest e = inl refl

  in_its_brackets : (p : Spat) → ((x : List ℕ) → ¬ (p ≡ spat.Name x)) → spat_as p ≡ in_brackets (inner p)
  in_its_brackets (spat.Name x) ne = absurd (ne x refl)
  in_its_brackets (spat.Goal ps) ne = refl
  in_its_brackets (spat.Rest xs) ne = refl
  in_its_brackets spat.Persistent ne = refl
  in_its_brackets spat.Pure ne = refl
  in_its_brackets spat.Done ne = refl

  c_premise : Complete (IsPremise stop) Any (premise stop)
  unfolding premise
  c_premise = c_wider {P = Within s.OpenBracket s.CloseBracket (λ zs p. (zs ≡ inner p) × ((x : List ℕ) → ¬ (p ≡ spat.Name x)))}
      (c_enclosed s.OpenBracket s.CloseBracket stop (sees_itself s.CloseBracket)
      (record { ok = λ o ys p rest is ends. at_okay (λ ts. premise_in stop ts) (put o ys ++ rest) (put o (inner p) ++ rest) (p, rest) (ap (λ (v : List Token). put o v ++ rest) is.0) (premise_read p is.1 o rest ends) }))
      (λ ys p k. (inner p, k.0 ∙ in_its_brackets p k.1, (refl, k.1)))

  pub c_quoted_premise : Complete (Quoted (IsPremise stop)) Any (quoted_premise stop)
  unfolding quoted_premise
  c_quoted_premise = c_quotes stop (any_end s.Quote) c_premise

  spat_read : (p : Spat) (o : ℕ → ℕ) (rest : List Place) → Okay (spat_in stop (put o (spat_as p) ++ rest)) (p, rest)
  unfolding spat_in sees same_symbol name_in
  spat_read (spat.Name x) o rest = inl refl
  spat_read (spat.Goal ps) o rest = c_premise.ok o (spat_as (spat.Goal ps)) (spat.Goal ps) rest (refl, λ x e. cc) tt
  spat_read (spat.Rest xs) o rest = c_premise.ok o (spat_as (spat.Rest xs)) (spat.Rest xs) rest (refl, λ x e. cc) tt
  spat_read spat.Persistent o rest = c_premise.ok o (spat_as spat.Persistent) spat.Persistent rest (refl, λ x e. cc) tt
  spat_read spat.Pure o rest = c_premise.ok o (spat_as spat.Pure) spat.Pure rest (refl, λ x e. cc) tt
  spat_read spat.Done o rest = c_premise.ok o (spat_as spat.Done) spat.Done rest (refl, λ x e. cc) tt

  spat_apart : (p : Spat) (o : ℕ → ℕ) (rest : List Place) → sees s.Quote (put o (spat_as p) ++ rest) ≡ false
  unfolding sees same_symbol
  spat_apart (spat.Name x) o rest = refl
  spat_apart (spat.Goal ps) o rest = refl
  spat_apart (spat.Rest xs) o rest = refl
  spat_apart spat.Persistent o rest = refl
  spat_apart spat.Pure o rest = refl
  spat_apart spat.Done o rest = refl

  spat_one : (p : Spat) → 1 ≤ length (spat_as p)
  spat_one (spat.Name x) = omega arith
  spat_one (spat.Goal ps) = omega arith
  spat_one (spat.Rest xs) = omega arith
  spat_one spat.Persistent = omega arith
  spat_one spat.Pure = omega arith
  spat_one spat.Done = omega arith

  pub c_quoted_spats : Complete (Quoted (SomeOf stop spat_as)) Any (quoted_spats stop)
  unfolding quoted_spats
  c_quoted_spats = c_quotes stop (sees_itself s.Quote) (c_some_of stop s.Quote spat_as (c_spelled Any spat_as (λ p o rest ends. spat_read p o rest)) (apart_spelled s.Quote spat_as spat_apart spat_one))
