-- The grammar of what stands between quotes: the tokens of selections, patterns, specialisation patterns and certificates.
use Rattle.std.specs.Prelude.{ℕ, ◌<◌, ◌^◌, ℤ, pos, Bool, true, false, List, [], ◌∷◌, ◌++◌}
use Rattle.pm_tokens.specs.declared.symbol.Symbol.{Symbol}
use Rattle.pm_tokens.specs.declared.symbol.Symbol.TheVariants as s
use Rattle.pm_tokens.specs.Tokens.{Token, name, number, symbol}
use Rattle.pm_grammar.specs.TermGrammar.{IsLiteral}
use Rattle.pm_patterns.specs.declared.pattern.Sel.{Sel}
use Rattle.pm_patterns.specs.declared.pattern.Sel.TheVariants as sel
use Rattle.pm_patterns.specs.declared.pattern.Pick.{Pick}
use Rattle.pm_patterns.specs.declared.pattern.Spat.{Spat}
use Rattle.pm_patterns.specs.declared.pattern.Spat.TheVariants as spat
use Rattle.pm_patterns.specs.declared.pattern.Cert.{Cert}
use Rattle.pm_patterns.specs.declared.pattern.Pat.{Pat}
use Rattle.pm_patterns.specs.declared.pattern.Pat.TheVariants as pat
use Rattle.pm_patterns.specs.declared.pattern.Pat.TheViews as pair
use Rattle.pm_patterns.specs.declared.extent.Extent.{Extent}
use Rattle.pm_patterns.specs.declared.extent.Extent.TheVariants.{One as one, Others as others}

abbrev pub within : Symbol → Symbol → List Token → List Token
within l r ts = symbol l ∷ (ts ++ symbol r ∷ [])

abbrev pub in_quotes : List Token → List Token
in_quotes ts = within s.Quote s.Quote ts

abbrev pub in_parentheses : List Token → List Token
in_parentheses ts = within s.Open s.Close ts

abbrev pub in_brackets : List Token → List Token
in_brackets ts = within s.OpenBracket s.CloseBracket ts

-- tokens of several, one behind another
abbrev pub all_as : {A : Type 0} → (A → List Token) → List A → List Token
all_as tokens [] = []
all_as tokens (x ∷ xs) = tokens x ++ all_as tokens xs

abbrev pub name_as : List ℕ → List Token
name_as x = name x ∷ []

abbrev pub names_as : List (List ℕ) → List Token
names_as xs = all_as name_as xs

-- several, one behind another
pub data AreAll {A : Type 0} (Is : List Token → A → Type 0) : List Token → List A → Type 0 where
  none : AreAll Is [] []
  some : {xs ys : List Token} {a : A} {list : List A} → Is xs a → AreAll Is ys list → AreAll Is (xs ++ ys) (a ∷ list)

-- one of them at least
abbrev pub HasOne : {A : Type 0} → List A → Type 0
HasOne [] = ⊥
HasOne (x ∷ xs) = Unit {0}

-- ---- selections

abbrev pub sel_as : Sel → List Token
sel_as (sel.Name x) = name x ∷ []
sel_as sel.Pures = symbol s.Percent ∷ []
sel_as sel.Ints = symbol s.Hash ∷ []
sel_as sel.Spats = symbol s.Asterisk ∷ []

abbrev pub sels_as : List Sel → List Token
sels_as ss = all_as sel_as ss

-- ---- patterns

pub data IsPattern : Extent → List Token → Pat → Type 0 where
  of_name : (x : List ℕ) → IsPattern one (name x ∷ []) (pat.Name x)
  fresh : IsPattern one (symbol s.Question ∷ []) pat.Fresh
  dropped : IsPattern one (symbol s.Wildcard ∷ []) pat.Drop
  framed : IsPattern one (symbol s.Dollar ∷ []) pat.Frame
  pair_of : {xs ys : List Token} {p q : Pat} → IsPattern one xs p → IsPattern one ys q → IsPattern one (in_brackets (xs ++ ys)) (pair.Pair p q)
  either_of : {xs ys : List Token} {p q : Pat} → IsPattern one xs p → IsPattern one ys q → IsPattern one (in_brackets (xs ++ symbol s.Bar ∷ ys)) (pair.Either p q)
  absurdity : IsPattern one (in_brackets []) pat.Absurd
  several : {xs ys : List Token} {p q : Pat} → IsPattern one xs p → IsPattern others ys q → IsPattern one (in_parentheses (xs ++ symbol s.Ampersand ∷ ys)) (pair.Pair p q)
  pure_name : (x : List ℕ) → IsPattern one (symbol s.Percent ∷ name x ∷ []) (pat.PureName x)
  pure_fresh : IsPattern one (symbol s.Percent ∷ symbol s.Question ∷ []) pat.PureFresh
  intuitionistic : {xs : List Token} {p : Pat} → IsPattern one xs p → IsPattern one (symbol s.Hash ∷ xs) (pair.Int p)
  spatial : {xs : List Token} {p : Pat} → IsPattern one xs p → IsPattern one (symbol s.MinusHash ∷ xs) (pair.Spat p)
  eliminated : {xs : List Token} {p : Pat} → IsPattern one xs p → IsPattern one (symbol s.Greater ∷ xs) (pair.Elim p)
  rewritten : IsPattern one (symbol s.Arrow ∷ []) pat.Rewrite
  rewritten_back : IsPattern one (symbol s.BackArrow ∷ []) pat.RewriteBack
  -- behind an ampersand
  last : {xs : List Token} {p : Pat} → IsPattern one xs p → IsPattern others xs p
  another : {xs ys : List Token} {p q : Pat} → IsPattern one xs p → IsPattern others ys q → IsPattern others (xs ++ symbol s.Ampersand ∷ ys) (pair.Pair p q)

-- an item of `iIntros`
pub data IsIntro : List Token → Pat → Type 0 where
  pattern_of : {xs : List Token} {p : Pat} → IsPattern one xs p → IsIntro xs p
  modality : IsIntro (symbol s.Modality ∷ []) pat.ModIntro
  done : IsIntro (symbol s.DoubleSlash ∷ []) pat.Done
  universals : IsIntro (symbol s.Asterisk ∷ []) pat.Alls
  all : IsIntro (symbol s.DoubleAsterisk ∷ []) pat.AllsWands
  cleared : (x : Sel) (xs : List Sel) → IsIntro (within s.OpenBrace s.CloseBrace (sels_as (x ∷ xs))) (pat.Clear (x ∷ xs))

abbrev pub AreIntros : List Token → List Pat → Type 0
AreIntros xs ps = AreAll IsIntro xs ps × HasOne ps

-- `"pat"` and `( x … ) "pat"`, which is `[%x … pat]`
abbrev pub over : List (List ℕ) → Pat → Pat
over [] p = p
over (x ∷ xs) p = pair.Pair (pat.PureName x) (over xs p)

pub data IsBoundPattern : List Token → Pat → Type 0 where
  plain : {xs : List Token} {p : Pat} → IsPattern one xs p → IsBoundPattern (in_quotes xs) p
  named : (x : List ℕ) (ns : List (List ℕ)) {xs : List Token} {p : Pat} → IsPattern one xs p → IsBoundPattern (in_parentheses (names_as (x ∷ ns)) ++ in_quotes xs) (over (x ∷ ns) p)

-- ---- specialisation patterns

abbrev pub pick_as : Pick → List Token
pick_as p = if_framed p.framed (name p.name ∷ [])
  where
    if_framed : Bool → List Token → List Token
    if_framed true ts = symbol s.Dollar ∷ ts
    if_framed false ts = ts

abbrev pub picks_as : List Pick → List Token
picks_as ps = all_as pick_as ps

abbrev pub spat_as : Spat → List Token
spat_as (spat.Name x) = name x ∷ []
spat_as (spat.Goal ps) = in_brackets (picks_as ps)
spat_as (spat.Rest xs) = in_brackets (symbol s.Minus ∷ names_as xs)
spat_as spat.Persistent = in_brackets (symbol s.Hash ∷ [])
spat_as spat.Pure = in_brackets (symbol s.Percent ∷ [])
spat_as spat.Done = in_brackets (symbol s.DoubleSlash ∷ [])

abbrev pub spats_as : List Spat → List Token
spats_as ps = all_as spat_as ps

-- ---- certificates: the flag says whether the goal's factor may come

abbrev pub with_item : ℤ → List ℕ → Cert → Cert
with_item z x c = record { goal = c.goal; facts = record { factor = z; fact = x } ∷ c.facts }

abbrev pub with_goal : ℤ → Cert → Cert
with_goal z c = record { goal = z; facts = c.facts }

pub data IsCert : Bool → List Token → Cert → Type 0 where
  nothing : (goal : Bool) → IsCert goal [] (record { goal = pos 0; facts = [] })
  of_fact : {goal : Bool} {xs ys : List Token} {z : ℤ} {c : Cert} (x : List ℕ) → IsLiteral xs z → IsCert goal ys c → IsCert goal (xs ++ symbol s.Asterisk ∷ name x ∷ ys) (with_item z x c)
  of_goal : {n : ℕ} {ys : List Token} {c : Cert} → n < 2 ^ 63 → IsCert false ys c → IsCert true (number n ∷ symbol s.Asterisk ∷ symbol s.Entails ∷ ys) (with_goal (pos n) c)
