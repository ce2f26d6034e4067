-- What is read between quotes is derived by the grammar.
use Rattle.std.proofs.Common.{◌≡◌, ℕ, zero, suc, Bool, true, false, ◌==◌, List, [], ◌∷◌, ◌++◌, drop, Option, Some, None, Ok, Err, refl, sym, ap, subst, ◌∙◌, append_assoc}
use Rattle.pm_logic.specs.declared.limits.TheConstants.{MAX_LEVELS}
use Rattle.pm_tokens.specs.declared.symbol.Symbol.{Symbol}
use Rattle.pm_tokens.specs.declared.symbol.Symbol.TheVariants as s
use Rattle.pm_tokens.specs.Tokens.{Token, name, number, symbol, Place, place}
use Rattle.pm_terms.specs.Steps.{Read, ◌>>=◌, made, sees, expect, closed_by}
use Rattle.pm_patterns.specs.declared.pattern.Sel.{Sel}
use Rattle.pm_patterns.specs.declared.pattern.Sel.TheVariants as sel
use Rattle.pm_patterns.specs.declared.pattern.Spat.{Spat}
use Rattle.pm_patterns.specs.declared.pattern.Spat.TheVariants as spat
use Rattle.pm_patterns.specs.declared.pattern.Pat.{Pat}
use Rattle.pm_patterns.specs.declared.pattern.Pat.TheVariants as pat
use Rattle.pm_patterns.specs.declared.pattern.Pat.TheViews as pair
use Rattle.pm_patterns.specs.declared.signs.PatternSign.{PatternSign}
use Rattle.pm_patterns.specs.declared.signs.PatternSign.TheVariants as begin
use Rattle.pm_patterns.specs.declared.extent.Extent.{Extent}
use Rattle.pm_patterns.specs.declared.extent.Extent.TheVariants.{One, Others}
use Rattle.pm_patterns.specs.Signs.{pattern_sign, item_of, sel_of, premise_of}
use Rattle.pm_patterns.specs.PatternReading.{Patterns, until, some_until, at_symbol, alone_or, begins, another_follows, quoted, name_in, quoted_name, quoted_names, grouped_names, sel_in, quoted_sels, pure_pattern, bracket_end, bracket_at, ampersand_at, pattern_by, one_by, one_at, pattern_at, pattern_in, quoted_pattern, behind_name, named_at, named_pattern, bound_pattern, clear_or_pattern, intro_in, quoted_intros, pick_in, spatial_in, premise_in, premise, quoted_premise, spat_in, quoted_spats}
use Rattle.pm_grammar.specs.ReadingLaws.{tokens_at}
use Rattle.pm_grammar.proofs.Steps.{done, ok_to}
use Rattle.pm_script_grammar.specs.PatternGrammar as g
use Rattle.pm_script_grammar.specs.PatternGrammar.{within, in_quotes, in_parentheses, in_brackets, all_as, name_as, names_as, AreAll, HasOne, sel_as, sels_as, IsPattern, IsIntro, AreIntros, over, IsBoundPattern, pick_as, picks_as, spat_as, spats_as, IsCert, with_item, with_goal}
use Rattle.pm_script_grammar.proofs.Sound.{Found, Sound, wider, given, changed, behind_symbol, closed, followed, chosen, after_symbol, all_until, some_parts, all_tokens}

some_is : {A : Type 0} (x y : A) → Some x ≡ Some y → x ≡ y
some_is x y e = cc

-- ---- between two symbols

abbrev pub Within : {A : Type 0} → Symbol → Symbol → (List Token → A → Type 0) → List Token → A → Type 0
Within l r P ys a = (zs : List Token) × (ys ≡ within l r zs) × P zs a

pub enclosed : {A : Type 0} {P : List Token → A → Type 0} {read : List Place → Read A} (l r : Symbol) (stop : ℕ) → Sound P read → Sound (Within l r P) (λ ts. expect l stop ts >>= λ rest. closed_by r stop (read rest))
enclosed {P = P} {read = read} l r stop h =
    behind_symbol {P = λ ys a. (zs : List Token) × (ys ≡ zs ++ symbol r ∷ []) × P zs a} {Q = Within l r P} {read = λ rest. closed_by r stop (read rest)} l stop
    (closed {P = P} {Q = λ ys a. (zs : List Token) × (ys ≡ zs ++ symbol r ∷ []) × P zs a} {read = read} r stop h (λ ys a is. (ys, refl, is)))
    (λ ys a k. (k.0, ap (λ us. symbol l ∷ us) k.1, k.2))

abbrev pub Quoted : {A : Type 0} → (List Token → A → Type 0) → List Token → A → Type 0
Quoted P ys a = Within s.Quote s.Quote P ys a

pub quotes : {A : Type 0} {P : List Token → A → Type 0} {read : List Place → Read A} (stop : ℕ) → Sound P read → Sound (Quoted P) (quoted stop read)
unfolding quoted
quotes stop h = enclosed s.Quote s.Quote stop h

-- the tokens are those of the value
abbrev pub Spelled : {A : Type 0} → (A → List Token) → List Token → A → Type 0
Spelled tokens ys a = ys ≡ tokens a

-- ---- what is one symbol alone

at_symbol_ok : {A : Type 0} (table : Symbol → Option A) (ts : List Place) (a : A) → at_symbol table ts ≡ Some a → (r : Symbol) × (tokens_at ts ≡ symbol r ∷ tokens_at (drop 1 ts)) × (table r ≡ Some a)
unfolding at_symbol
at_symbol_ok table [] a e = absurd cc
at_symbol_ok table (place (name w) at ∷ ts) a e = absurd cc
at_symbol_ok table (place (number n) at ∷ ts) a e = absurd cc
at_symbol_ok table (place (symbol r) at ∷ ts) a e = (r, refl, e)

alone : {A : Type 0} {P : List Token → A → Type 0} {read : List Place → Read A} (table : Symbol → Option A) → ((r : Symbol) (a : A) → table r ≡ Some a → P (symbol r ∷ []) a) → Sound P read → Sound P (λ ts. alone_or (at_symbol table ts) (read ts) ts)
alone {A = A} {P = P} {read = read} table f h = record { ok = λ ts x e. go ts x (at_symbol table ts) refl e }
  where
    go : (ts : List Place) (x : A × List Place) (o : Option A) → at_symbol table ts ≡ o → alone_or o (read ts) ts ≡ Ok x → Found P ts x
    go ts x None k e = h.ok ts x e
    go ts x (Some a) k e =
        let found = at_symbol_ok table ts a k in
        ok_to (Found P ts) (a, drop 1 ts) x e (record { before = symbol found.0 ∷ []; split = found.1; is = f found.0 a found.2 })

sel_ok : (r : Symbol) (x : Sel) → sel_of r ≡ Some x → symbol r ∷ [] ≡ sel_as x
unfolding sel_of
sel_ok s.Percent x e = ap sel_as (some_is sel.Pures x e)
sel_ok s.Hash x e = ap sel_as (some_is sel.Ints x e)
sel_ok s.Asterisk x e = ap sel_as (some_is sel.Spats x e)
sel_ok r x e = absurd cc

item_ok : (r : Symbol) (x : Pat) → item_of r ≡ Some x → IsIntro (symbol r ∷ []) x
unfolding item_of
item_ok s.Modality x e = subst (IsIntro (symbol s.Modality ∷ [])) (some_is pat.ModIntro x e) g.modality
item_ok s.DoubleSlash x e = subst (IsIntro (symbol s.DoubleSlash ∷ [])) (some_is pat.Done x e) g.done
item_ok s.Asterisk x e = subst (IsIntro (symbol s.Asterisk ∷ [])) (some_is pat.Alls x e) g.universals
item_ok s.DoubleAsterisk x e = subst (IsIntro (symbol s.DoubleAsterisk ∷ [])) (some_is pat.AllsWands x e) g.all
item_ok r x e = absurd cc

-- between brackets, and no name
abbrev pub Bracketed : List Token → Spat → Type 0
Bracketed ys p = (in_brackets ys ≡ spat_as p) × ((x : List ℕ) → ¬ (p ≡ spat.Name x))

premise_ok : (r : Symbol) (x : Spat) → premise_of r ≡ Some x → Bracketed (symbol r ∷ []) x
unfolding premise_of
premise_ok s.Hash x e = subst (Bracketed (symbol s.Hash ∷ [])) (some_is spat.Persistent x e) (refl, λ w k. absurd cc)
premise_ok s.Percent x e = subst (Bracketed (symbol s.Percent ∷ [])) (some_is spat.Pure x e) (refl, λ w k. absurd cc)
premise_ok s.DoubleSlash x e = subst (Bracketed (symbol s.DoubleSlash ∷ [])) (some_is spat.Done x e) (refl, λ w k. absurd cc)
premise_ok r x e = absurd cc

-- the symbol that a pattern begins with, unless it is a name
sign_of : PatternSign → Symbol
sign_of begin.Name = s.Quote
sign_of begin.Fresh = s.Question
sign_of begin.Drop = s.Wildcard
sign_of begin.Frame = s.Dollar
sign_of begin.Rewrite = s.Arrow
sign_of begin.RewriteBack = s.BackArrow
sign_of begin.Bracket = s.OpenBracket
sign_of begin.Group = s.Open
sign_of begin.Fact = s.Percent
sign_of begin.Int = s.Hash
sign_of begin.Spat = s.MinusHash
sign_of begin.Elim = s.Greater

sign_ok : (r : Symbol) (b : PatternSign) → pattern_sign r ≡ Some b → r ≡ sign_of b
unfolding pattern_sign sign_of
sign_ok s.Question b e = ap sign_of (some_is begin.Fresh b e)
sign_ok s.Wildcard b e = ap sign_of (some_is begin.Drop b e)
sign_ok s.Dollar b e = ap sign_of (some_is begin.Frame b e)
sign_ok s.Arrow b e = ap sign_of (some_is begin.Rewrite b e)
sign_ok s.BackArrow b e = ap sign_of (some_is begin.RewriteBack b e)
sign_ok s.OpenBracket b e = ap sign_of (some_is begin.Bracket b e)
sign_ok s.Open b e = ap sign_of (some_is begin.Group b e)
sign_ok s.Percent b e = ap sign_of (some_is begin.Fact b e)
sign_ok s.Hash b e = ap sign_of (some_is begin.Int b e)
sign_ok s.MinusHash b e = ap sign_of (some_is begin.Spat b e)
sign_ok s.Greater b e = ap sign_of (some_is begin.Elim b e)
sign_ok r b e = absurd cc

names_one : PatternSign → Bool
names_one begin.Name = true
names_one b = false

begins_ok : (ts : List Place) (b : PatternSign) → begins ts ≡ Some b → names_one b ≡ false → tokens_at ts ≡ symbol (sign_of b) ∷ tokens_at (drop 1 ts)
unfolding begins names_one
begins_ok [] b e other = absurd cc
begins_ok (place (name w) at ∷ ts) b e other = let t : names_one b ≡ true = subst (λ b. names_one b ≡ true) (some_is begin.Name b e) refl in absurd cc
begins_ok (place (number n) at ∷ ts) b e other = absurd cc
begins_ok (place (symbol r) at ∷ ts) b e other = ap (λ r. symbol r ∷ tokens_at ts) (sign_ok r b e)

-- behind the symbol that stands there
behind_sign : {A : Type 0} {P Q : List Token → A → Type 0} {read : List Place → Read A} (r : Symbol) → Sound P read → ((ys : List Token) (a : A) → P ys a → Q (symbol r ∷ ys) a) → (ts : List Place) (x : A × List Place) → tokens_at ts ≡ symbol r ∷ tokens_at (drop 1 ts) → read (drop 1 ts) ≡ Ok x → Found Q ts x
behind_sign r h f ts x there e =
    let found = h.ok (drop 1 ts) x e in
    record { before = symbol r ∷ found.before; split = there ∙ ap (λ us. symbol r ∷ us) found.split; is = f found.before x.0 found.is }

module _ (stop : ℕ) where
  -- ---- names and selections

  name_read : (ts : List Place) (x : List ℕ × List Place) → name_in stop ts ≡ Ok x → Found (Spelled name_as) ts x
  unfolding name_in
  name_read [] x e = absurd cc
  name_read (place (name w) at ∷ ts) x e = ok_to (Found (Spelled name_as) (place (name w) at ∷ ts)) (w, ts) x e (record { before = name w ∷ []; split = refl; is = refl })
  name_read (place (number n) at ∷ ts) x e = absurd cc
  name_read (place (symbol r) at ∷ ts) x e = absurd cc

  pub name_sound : Sound (Spelled name_as) (name_in stop)
  name_sound = record { ok = name_read }

  pub quoted_name_sound : Sound (Quoted (Spelled name_as)) (quoted_name stop)
  unfolding quoted_name
  quoted_name_sound = quotes stop name_sound

  abbrev pub SomeOf : {A : Type 0} → (A → List Token) → List Token → List A → Type 0
  SomeOf tokens ys list = (ys ≡ all_as tokens list) × HasOne list

  some_of : {A : Type 0} {read : List Place → Read A} (r : Symbol) (tokens : A → List Token) → Sound (Spelled tokens) read → Sound (SomeOf tokens) (some_until r read)
  some_of r tokens h = wider (some_parts r h) (λ ys list k. (all_tokens tokens ys list k.0, k.1))

  pub quoted_names_sound : Sound (Quoted (SomeOf name_as)) (quoted_names stop)
  unfolding quoted_names
  quoted_names_sound = quotes stop (some_of s.Quote name_as name_sound)

  pub grouped_names_sound : Sound (Within s.Open s.Close (SomeOf name_as)) (grouped_names stop)
  unfolding grouped_names
  grouped_names_sound = enclosed s.Open s.Close stop (some_of s.Close name_as name_sound)

  sel_sound : Sound (Spelled sel_as) (sel_in stop)
  unfolding sel_in
  sel_sound = alone sel_of sel_ok (changed sel.Name name_sound (λ ys x is. is))

  pub quoted_sels_sound : Sound (Quoted (SomeOf sel_as)) (quoted_sels stop)
  unfolding quoted_sels
  quoted_sels_sound = quotes stop (some_of s.Quote sel_as sel_sound)

  -- ---- patterns

  abbrev Is : List Token → Pat → Type 0
  Is ys p = IsPattern One ys p

  abbrev AllSound : Patterns → Type 0
  AllSound self = (e : Extent) → Sound (IsPattern e) (self e)

  pure_sound : Sound (λ ys p. Is (symbol s.Percent ∷ ys) p) (pure_pattern stop)
  unfolding pure_pattern
  pure_sound = after_symbol {P = λ ys p. Is (symbol s.Percent ∷ symbol s.Question ∷ ys) p} {one = λ ts. Ok (pat.PureFresh, ts)} s.Question (given pat.PureFresh g.pure_fresh) (λ ys p is. is)
      (changed pat.PureName name_sound (λ ys x is. subst (λ us. Is (symbol s.Percent ∷ us) (pat.PureName x)) (sym is) (g.pure_name x)))

  -- behind the first pattern of a bracket, whatever stands before it
  abbrev Second : Pat → List Token → Pat → Type 0
  Second p zs r = (xs : List Token) → Is xs p → Is (symbol s.OpenBracket ∷ (xs ++ zs)) r

  bracket_end_sound : (self : Patterns) → AllSound self → (p : Pat) → Sound (Second p) (bracket_end stop self p)
  unfolding bracket_end
  bracket_end_sound self h p =
      after_symbol {P = λ zs r. Second p (symbol s.Bar ∷ zs) r} {Q = Second p} {one = λ us. closed_by s.CloseBracket stop (made (pair.Either p) (self One us))} s.Bar
      (closed {P = λ ys r. (xs : List Token) → Is xs p → Is (in_brackets (xs ++ symbol s.Bar ∷ ys)) r} s.CloseBracket stop
      (changed (pair.Either p) (h One) (λ ys q is xs first. g.either_of first is))
      (λ ys r k xs first. subst (λ us. Is (symbol s.OpenBracket ∷ us) r) (append_assoc xs (symbol s.Bar ∷ ys) (symbol s.CloseBracket ∷ [])) (k xs first)))
      (λ zs r k. k)
      (closed {P = λ ys r. (xs : List Token) → Is xs p → Is (in_brackets (xs ++ ys)) r} s.CloseBracket stop
      (changed (pair.Pair p) (h One) (λ ys q is xs first. g.pair_of first is))
      (λ ys r k xs first. subst (λ us. Is (symbol s.OpenBracket ∷ us) r) (append_assoc xs ys (symbol s.CloseBracket ∷ [])) (k xs first)))

  bracket_sound : (self : Patterns) → AllSound self → Sound (λ ys p. Is (symbol s.OpenBracket ∷ ys) p) (bracket_at stop self)
  unfolding bracket_at
  bracket_sound self h =
      after_symbol {P = λ ys p. Is (symbol s.OpenBracket ∷ symbol s.CloseBracket ∷ ys) p} {one = λ ts. Ok (pat.Absurd, ts)} s.CloseBracket (given pat.Absurd g.absurdity) (λ ys p is. is)
      (followed {P = Is} {Q = Second} {next = λ p. bracket_end stop self p} (h One) (λ p. bracket_end_sound self h p) (λ xs ys p r first k. k xs first))

  -- a pattern, an ampersand and others, in parentheses or behind an ampersand
  abbrev Several : List Token → Pat → Type 0
  Several ys p = Is (in_parentheses ys) p × IsPattern Others ys p

  ampersand_sound : (self : Patterns) → AllSound self → Sound Several (ampersand_at stop self)
  unfolding ampersand_at
  ampersand_sound self h =
      followed {P = Is} {Q = λ p zs r. (xs : List Token) → Is xs p → Several (xs ++ zs) r} {next = λ p ts. expect s.Ampersand stop ts >>= λ rest. made (pair.Pair p) (self Others rest)} (h One)
      (λ p. behind_symbol {P = λ ys r. (xs : List Token) → Is xs p → Several (xs ++ symbol s.Ampersand ∷ ys) r} s.Ampersand stop
      (changed (pair.Pair p) (h Others) (λ ys q is xs first. (g.several first is, g.another first is)))
      (λ ys r k. k))
      (λ xs ys p r first k. k xs first)

  leaf : (r : Symbol) (p : Pat) → Is (symbol r ∷ []) p → (ts : List Place) (x : Pat × List Place) → tokens_at ts ≡ symbol r ∷ tokens_at (drop 1 ts) → done (p, drop 1 ts) ≡ Ok x → Found Is ts x
  leaf r p is ts x there e = ok_to (Found Is ts) (p, drop 1 ts) x e (record { before = symbol r ∷ []; split = there; is = is })

  by_sound : (self : Patterns) → AllSound self → (b : PatternSign) (ts : List Place) (x : Pat × List Place) → begins ts ≡ Some b → pattern_by stop self b ts ≡ Ok x → Found Is ts x
  unfolding pattern_by sign_of names_one
  by_sound self h begin.Name ts x b e = (changed {Q = Is} pat.Name name_sound (λ ys w is. subst (λ us. Is us (pat.Name w)) (sym is) (g.of_name w))).ok ts x e
  by_sound self h begin.Fresh ts x b e = leaf s.Question pat.Fresh g.fresh ts x (begins_ok ts begin.Fresh b refl) e
  by_sound self h begin.Drop ts x b e = leaf s.Wildcard pat.Drop g.dropped ts x (begins_ok ts begin.Drop b refl) e
  by_sound self h begin.Frame ts x b e = leaf s.Dollar pat.Frame g.framed ts x (begins_ok ts begin.Frame b refl) e
  by_sound self h begin.Rewrite ts x b e = leaf s.Arrow pat.Rewrite g.rewritten ts x (begins_ok ts begin.Rewrite b refl) e
  by_sound self h begin.RewriteBack ts x b e = leaf s.BackArrow pat.RewriteBack g.rewritten_back ts x (begins_ok ts begin.RewriteBack b refl) e
  by_sound self h begin.Bracket ts x b e = behind_sign {Q = Is} s.OpenBracket (bracket_sound self h) (λ ys p is. is) ts x (begins_ok ts begin.Bracket b refl) e
  by_sound self h begin.Group ts x b e =
      behind_sign {P = λ ys p. Is (symbol s.Open ∷ ys) p} {Q = Is} {read = λ us. closed_by s.Close stop (ampersand_at stop self us)} s.Open (closed s.Close stop (ampersand_sound self h) (λ ys p is. is.0)) (λ ys p is. is) ts x (begins_ok ts begin.Group b refl) e
  by_sound self h begin.Fact ts x b e = behind_sign {Q = Is} s.Percent pure_sound (λ ys p is. is) ts x (begins_ok ts begin.Fact b refl) e
  by_sound self h begin.Int ts x b e = behind_sign {Q = Is} {read = λ us. made pair.Int (self One us)} s.Hash (changed {Q = λ ys p. Is (symbol s.Hash ∷ ys) p} pair.Int (h One) (λ ys p is. g.intuitionistic is)) (λ ys p is. is) ts x (begins_ok ts begin.Int b refl) e
  by_sound self h begin.Spat ts x b e = behind_sign {Q = Is} {read = λ us. made pair.Spat (self One us)} s.MinusHash (changed {Q = λ ys p. Is (symbol s.MinusHash ∷ ys) p} pair.Spat (h One) (λ ys p is. g.spatial is)) (λ ys p is. is) ts x (begins_ok ts begin.Spat b refl) e
  by_sound self h begin.Elim ts x b e = behind_sign {Q = Is} {read = λ us. made pair.Elim (self One us)} s.Greater (changed {Q = λ ys p. Is (symbol s.Greater ∷ ys) p} pair.Elim (h One) (λ ys p is. g.eliminated is)) (λ ys p is. is) ts x (begins_ok ts begin.Elim b refl) e

  one_sound : (self : Patterns) → AllSound self → Sound Is (one_at stop self)
  unfolding one_at
  one_sound self h = record { ok = λ ts x e. go ts x (begins ts) refl e }
    where
      go : (ts : List Place) (x : Pat × List Place) (o : Option PatternSign) → begins ts ≡ o → one_by stop self o ts ≡ Ok x → Found Is ts x
      go ts x None b e = absurd cc
      go ts x (Some k) b e = by_sound self h k ts x b e

  at_sound : (self : Patterns) → AllSound self → AllSound (pattern_at stop self)
  unfolding pattern_at
  at_sound self h One = one_sound self h
  at_sound self h Others = chosen (another_follows 0) (wider (ampersand_sound self h) (λ ys p is. is.1)) (wider (one_sound self h) (λ ys p is. g.last is))

  pub pattern_sound : (room : ℕ) → AllSound (pattern_in stop room)
  unfolding pattern_in
  pattern_sound zero e = record { ok = λ ts x f. absurd cc }
  pattern_sound (suc room) e = at_sound (pattern_in stop room) (λ e. pattern_sound room e) e

  pub quoted_pattern_sound : (room : ℕ) → Sound (Quoted Is) (quoted_pattern stop room)
  unfolding quoted_pattern
  quoted_pattern_sound room = quotes stop (pattern_sound room One)

  -- ---- names before a pattern

  -- further names up to the parenthesis, and the pattern behind it
  record Named (ys : List Token) (r : Pat) : Type 0 where
    bound : List (List ℕ)
    inner : List Token
    last : Pat
    spelled : ys ≡ names_as bound ++ symbol s.Close ∷ in_quotes inner
    built : r ≡ over bound last
    is : Is inner last

  abbrev further : (x : List ℕ) (ys : List Token) (r : Pat) → Named ys r → Named (name x ∷ ys) (pair.Pair (pat.PureName x) r)
  further x ys r n = record { bound = x ∷ n.bound; inner = n.inner; last = n.last; spelled = ap (λ us. name x ∷ us) n.spelled; built = ap (λ r. pair.Pair (pat.PureName x) r) n.built; is = n.is }

  abbrev OneNamed : List Token → Pat → Type 0
  OneNamed ys r = (n : Named ys r) × HasOne n.bound

  named_sound : (room : ℕ) → Sound OneNamed (named_pattern stop room)
  unfolding named_pattern named_at behind_name
  named_sound zero = record { ok = λ ts x e. absurd cc }
  named_sound (suc room) = go room (named_sound room)
    where
      go : (room : ℕ) → Sound OneNamed (named_pattern stop room) → Sound OneNamed (named_pattern stop (suc room))
      go room h = chosen {one = λ ts. Err _} (λ ts. room == 0) (record { ok = λ ts x e. absurd cc })
          (followed {P = Spelled name_as} {Q = λ w ys r. OneNamed (name w ∷ ys) r} {next = λ w ts. made (pair.Pair (pat.PureName w)) (behind_name stop (named_pattern stop room) room ts)} name_sound
          (λ w. changed (pair.Pair (pat.PureName w))
          (after_symbol {P = λ ys r. Named (symbol s.Close ∷ ys) r} {Q = Named} {one = quoted_pattern stop room} s.Close
          (wider (quoted_pattern_sound room) (λ ys r k. record { bound = []; inner = k.0; last = r; spelled = ap (λ us. symbol s.Close ∷ us) k.1; built = refl; is = k.2 }))
          (λ ys r n. n)
          (wider h (λ ys r n. n.0)))
          (λ ys r n. (further w ys r n, tt)))
          (λ xs ys w r is k. subst (λ us. OneNamed (us ++ ys) r) (sym is) k))

  bound_named : (ys : List Token) (r : Pat) → OneNamed ys r → IsBoundPattern (symbol s.Open ∷ ys) r
  bound_named ys r n = go n.0.bound n.0.spelled n.0.built n.1
    where
      inner : List Token
      inner = n.0.inner

      go : (bound : List (List ℕ)) → ys ≡ names_as bound ++ symbol s.Close ∷ in_quotes inner → r ≡ over bound n.0.last → HasOne bound → IsBoundPattern (symbol s.Open ∷ ys) r
      go [] spelled built one = absurd one
      go (x ∷ xs) spelled built one =
          let all : (names_as (x ∷ xs) ++ symbol s.Close ∷ []) ++ in_quotes inner ≡ ys = append_assoc (names_as (x ∷ xs)) (symbol s.Close ∷ []) (in_quotes inner) ∙ sym spelled in
          subst (λ us. IsBoundPattern (symbol s.Open ∷ us) r) all (subst (λ r. IsBoundPattern (symbol s.Open ∷ ((names_as (x ∷ xs) ++ symbol s.Close ∷ []) ++ in_quotes inner)) r) (sym built) (g.named x xs n.0.is))

  pub bound_pattern_sound : Sound IsBoundPattern (bound_pattern stop)
  unfolding bound_pattern
  bound_pattern_sound = after_symbol {one = named_pattern stop MAX_LEVELS} s.Open (named_sound MAX_LEVELS) bound_named (wider (quoted_pattern_sound MAX_LEVELS) (λ ys r k. subst (λ us. IsBoundPattern us r) (sym k.1) (g.plain k.2)))

  -- ---- introduction items

  cleared_is : (ys : List Token) (list : List Sel) → SomeOf sel_as ys list → IsIntro (symbol s.OpenBrace ∷ (ys ++ symbol s.CloseBrace ∷ [])) (pat.Clear list)
  cleared_is ys [] k = absurd k.1
  cleared_is ys (x ∷ xs) k = subst (λ us. IsIntro (symbol s.OpenBrace ∷ (us ++ symbol s.CloseBrace ∷ [])) (pat.Clear (x ∷ xs))) (sym k.0) (g.cleared x xs)

  clear_sound : Sound IsIntro (clear_or_pattern stop)
  unfolding clear_or_pattern
  clear_sound = after_symbol {P = λ ys p. IsIntro (symbol s.OpenBrace ∷ ys) p} {one = λ us. closed_by s.CloseBrace stop (made pat.Clear (some_until s.CloseBrace (sel_in stop) us))} s.OpenBrace
      (closed s.CloseBrace stop (changed {Q = λ ys p. IsIntro (symbol s.OpenBrace ∷ (ys ++ symbol s.CloseBrace ∷ [])) p} pat.Clear (some_of s.CloseBrace sel_as sel_sound) cleared_is) (λ ys p is. is))
      (λ ys p is. is)
      (wider (pattern_sound MAX_LEVELS One) (λ ys p is. g.pattern_of is))

  intro_sound : Sound IsIntro (intro_in stop)
  unfolding intro_in
  intro_sound = alone item_of item_ok clear_sound

  pub intros_sound : Sound AreIntros (some_until s.Quote (intro_in stop))
  intros_sound = some_parts s.Quote intro_sound

  pub quoted_intros_sound : Sound (Quoted AreIntros) (quoted_intros stop)
  unfolding quoted_intros
  quoted_intros_sound = quotes stop intros_sound

  -- ---- specialisation patterns

  pick_sound : Sound (Spelled pick_as) (pick_in stop)
  unfolding pick_in
  pick_sound = after_symbol {P = λ ys p. symbol s.Dollar ∷ ys ≡ pick_as p} {one = λ us. made (λ x. record { framed = true; name = x }) (name_in stop us)} s.Dollar
      (changed (λ x. record { framed = true; name = x }) name_sound (λ ys x is. ap (λ us. symbol s.Dollar ∷ us) is))
      (λ ys p is. is)
      (changed (λ x. record { framed = false; name = x }) name_sound (λ ys x is. is))

  all_of_kind : {A : Type 0} {read : List Place → Read A} (r : Symbol) (tokens : A → List Token) → Sound (Spelled tokens) read → Sound (Spelled (all_as tokens)) (until r read)
  all_of_kind r tokens h = wider (all_until r h) (all_tokens tokens)

  spatial_sound : Sound Bracketed (spatial_in stop)
  unfolding spatial_in
  spatial_sound = after_symbol {P = λ ys p. Bracketed (symbol s.Minus ∷ ys) p} {one = λ us. made spat.Rest (until s.CloseBracket (name_in stop) us)} s.Minus
      (changed spat.Rest (all_of_kind s.CloseBracket name_as name_sound) (λ ys xs is. (ap (λ us. in_brackets (symbol s.Minus ∷ us)) is, λ w k. absurd cc)))
      (λ ys p is. is)
      (changed spat.Goal (all_of_kind s.CloseBracket pick_as pick_sound) (λ ys ps is. (ap in_brackets is, λ w k. absurd cc)))

  premise_in_sound : Sound Bracketed (premise_in stop)
  unfolding premise_in
  premise_in_sound = alone premise_of premise_ok spatial_sound

  abbrev pub IsPremise : List Token → Spat → Type 0
  IsPremise ys p = (ys ≡ spat_as p) × ((x : List ℕ) → ¬ (p ≡ spat.Name x))

  premise_sound : Sound IsPremise (premise stop)
  unfolding premise
  premise_sound = wider (enclosed s.OpenBracket s.CloseBracket stop premise_in_sound) (λ ys p k. (k.1 ∙ k.2.0, k.2.1))

  pub quoted_premise_sound : Sound (Quoted IsPremise) (quoted_premise stop)
  unfolding quoted_premise
  quoted_premise_sound = quotes stop premise_sound

  spat_sound : Sound (Spelled spat_as) (spat_in stop)
  unfolding spat_in
  spat_sound = chosen (sees s.OpenBracket) (wider premise_sound (λ ys p is. is.0)) (changed spat.Name name_sound (λ ys x is. is))

  pub quoted_spats_sound : Sound (Quoted (SomeOf spat_as)) (quoted_spats stop)
  unfolding quoted_spats
  quoted_spats_sound = quotes stop (some_of s.Quote spat_as spat_sound)
