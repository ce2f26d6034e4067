-- Reading of what stands between quotes: names, selections, patterns, specialisation patterns and certificates.
--   sel   ::=  H  |  %  |  #  |  *
--   pat   ::=  H  |  ?  |  _  |  $  |  [ pat pat ]  |  [ pat | pat ]  |  [ ]  |  ( pat & pat … )  |  % H  |  % ?  |  # pat  |  -# pat  |  > pat  |  ->  |  <-
--   top   ::=  pat  |  !>  |  //  |  *  |  **  |  { sel … }
--   spat  ::=  H  |  [ H or $ H … ]  |  [ ]  |  [ - H … ]  |  [ - ]  |  [ # ]  |  [ % ]  |  [ // ]
--   cert  ::=  n * H  or  - n * H  …  and at most one  n * ⊢
use Rattle.std.specs.Prelude.{ℕ, zero, suc, ℤ, pos, Bool, true, false, ◌&&◌, ◌==◌, not, if◌then◌else◌, List, [], ◌∷◌, ◌++◌, drop, length, Option, Some, None, is_none, unwrap_or, Ok, Err}
use Rattle.pm_logic.specs.declared.limits.TheConstants.{MAX_LEVELS}
use Rattle.pm_tokens.specs.declared.symbol.Symbol.{Symbol}
use Rattle.pm_tokens.specs.declared.symbol.Symbol.TheVariants as s
use Rattle.pm_tokens.specs.Tokens.{name, number, symbol, Place, place}
use Rattle.pm_terms.specs.declared.fault.TextFault.{TextFault}
use Rattle.pm_terms.specs.declared.fault.TextFault.TheVariants.{Unexpected, Deep}
use Rattle.pm_terms.specs.Steps.{Read, ◌>>=◌, made, sees, offset, unexpected, expect, closed_by, literal, many}
use Rattle.pm_patterns.specs.declared.pattern.Sel.{Sel}
use Rattle.pm_patterns.specs.declared.pattern.Sel.TheVariants as sel
use Rattle.pm_patterns.specs.declared.pattern.Pick.{Pick}
use Rattle.pm_patterns.specs.declared.pattern.Spat.{Spat}
use Rattle.pm_patterns.specs.declared.pattern.Spat.TheVariants as spat
use Rattle.pm_patterns.specs.declared.pattern.Cert.{Cert}
use Rattle.pm_patterns.specs.declared.pattern.Pat.{Pat}
use Rattle.pm_patterns.specs.declared.pattern.Pat.TheVariants as pat
use Rattle.pm_patterns.specs.declared.pattern.Pat.TheViews as pair
use Rattle.pm_patterns.specs.declared.signs.PatternSign.{PatternSign}
use Rattle.pm_patterns.specs.declared.signs.PatternSign.TheVariants as begin
use Rattle.pm_patterns.specs.declared.signs.Nesting.{Nesting}
use Rattle.pm_patterns.specs.declared.signs.Nesting.TheVariants.{Opens, Closes, Ampersand, Quote, Inside}
use Rattle.pm_patterns.specs.declared.extent.Extent.{Extent}
use Rattle.pm_patterns.specs.declared.extent.Extent.TheVariants.{One, Others}
use Rattle.pm_patterns.specs.declared.certificates.Found.{Found}
use Rattle.pm_patterns.specs.Signs.{pattern_sign, item_of, sel_of, premise_of, token_nesting}

-- what reads a pattern inside one more
abbrev pub Patterns : Type 0
Patterns = Extent → List Place → Read Pat

-- ---- lists

-- more items, with these before them
abbrev pub behind : {A : Type 0} → List A → Read (List A) → Read (List A)
behind xs read = made (λ ys. xs ++ ys) read

-- one item
abbrev pub once : {A : Type 0} → (List Place → Read A) → List Place → Read (List A)
once part ts = made (λ x. x ∷ []) (part ts)

-- all up to a symbol
unfoldable pub until : {A : Type 0} → Symbol → (List Place → Read A) → List Place → Read (List A)
until r part ts = many (λ us. not (sees r us)) part ts

-- one or more, up to a symbol
unfoldable pub some_until : {A : Type 0} → Symbol → (List Place → Read A) → List Place → Read (List A)
some_until r part ts = part ts >>= λ x. behind (x.0 ∷ []) (until r part x.1)

-- ---- certificates

-- the certificate of what is found
abbrev pub cert_of : Found → Cert
cert_of f = record { goal = unwrap_or f.goal (pos 0); facts = f.facts }

-- whether the goal stands behind a factor, where it may: of the tokens from the factor on, and of those behind its asterisk
abbrev pub takes_goal : Found → List Place → List Place → Bool
takes_goal f ts rest = sees s.Entails rest && is_none f.goal && not (sees s.Minus ts)

-- ---- symbols that stand for something alone

unfoldable pub at_symbol : {A : Type 0} → (Symbol → Option A) → List Place → Option A
at_symbol table [] = None
at_symbol table (place (name x) at ∷ ts) = None
at_symbol table (place (number n) at ∷ ts) = None
at_symbol table (place (symbol r) at ∷ ts) = table r

abbrev pub next_sel : List Place → Option Sel
next_sel ts = at_symbol sel_of ts

abbrev pub next_item : List Place → Option Pat
next_item ts = at_symbol item_of ts

abbrev pub next_premise : List Place → Option Spat
next_premise ts = at_symbol premise_of ts

-- what the next token stands for, or else what is read there
abbrev pub alone_or : {A : Type 0} → Option A → Read A → List Place → Read A
alone_or (Some x) read ts = Ok (x, drop 1 ts)
alone_or None read ts = read

-- ---- patterns

-- how a pattern begins
unfoldable pub begins : List Place → Option PatternSign
begins [] = None
begins (place (name x) at ∷ ts) = Some begin.Name
begins (place (number n) at ∷ ts) = None
begins (place (symbol r) at ∷ ts) = pattern_sign r

abbrev pub follows_by : Nesting → ℕ → (ℕ → Bool) → Bool
follows_by Opens n go = go (suc n)
follows_by Closes zero go = false
follows_by Closes (suc n) go = go n
follows_by Ampersand zero go = true
follows_by Ampersand (suc n) go = go (suc n)
follows_by Quote n go = false
follows_by Inside n go = go n

-- Whether an ampersand follows before the parenthesis closes, of the tokens inside it. The number counts the brackets that are open there.
unfoldable pub another_follows : ℕ → List Place → Bool
another_follows n [] = false
another_follows n (place k at ∷ ts) = follows_by (token_nesting k) n (λ m. another_follows m ts)

module _ (stop : ℕ) where
  -- ---- quotes and names

  unfoldable pub quoted : {A : Type 0} → (List Place → Read A) → List Place → Read A
  quoted inner ts = expect s.Quote stop ts >>= λ rest. closed_by s.Quote stop (inner rest)

  unfoldable pub name_in : List Place → Read (List ℕ)
  name_in [] = Err (Unexpected stop)
  name_in (place (name x) at ∷ ts) = Ok (x, ts)
  name_in (place (number n) at ∷ ts) = Err (Unexpected at)
  name_in (place (symbol r) at ∷ ts) = Err (Unexpected at)

  -- `"H"`
  unfoldable pub quoted_name : List Place → Read (List ℕ)
  quoted_name ts = quoted name_in ts

  -- `"H …"`
  unfoldable pub quoted_names : List Place → Read (List (List ℕ))
  quoted_names ts = quoted (some_until s.Quote name_in) ts

  -- `( x … )`
  unfoldable pub grouped_names : List Place → Read (List (List ℕ))
  grouped_names ts = expect s.Open stop ts >>= λ rest. closed_by s.Close stop (some_until s.Close name_in rest)

  -- ---- selections

  unfoldable pub sel_in : List Place → Read Sel
  sel_in ts = alone_or (next_sel ts) (made sel.Name (name_in ts)) ts

  -- `"sel …"`
  unfoldable pub quoted_sels : List Place → Read (List Sel)
  quoted_sels ts = quoted (some_until s.Quote sel_in) ts

  -- ---- patterns

  -- the fault at a pattern that stands in as many others as may be
  abbrev pub deep_by : Option PatternSign → List Place → TextFault
  deep_by (Some b) ts = Deep (offset stop ts)
  deep_by None ts = unexpected stop ts

  unfoldable pub deep_pattern : List Place → TextFault
  deep_pattern ts = deep_by (begins ts) ts

  -- behind `%`
  unfoldable pub pure_pattern : List Place → Read Pat
  pure_pattern ts = if sees s.Question ts then Ok (pat.PureFresh, drop 1 ts) else made pat.PureName (name_in ts)

  -- ---- one level, where self reads a pattern inside one more

  -- behind the first pattern of a bracket
  unfoldable pub bracket_end : Patterns → Pat → List Place → Read Pat
  bracket_end self p ts =
      if sees s.Bar ts then closed_by s.CloseBracket stop (made (pair.Either p) (self One (drop 1 ts)))
      else closed_by s.CloseBracket stop (made (pair.Pair p) (self One ts))

  -- behind `[`
  unfoldable pub bracket_at : Patterns → List Place → Read Pat
  bracket_at self ts = if sees s.CloseBracket ts then Ok (pat.Absurd, drop 1 ts) else (self One ts >>= λ p. bracket_end self p.0 p.1)

  -- a pattern, an ampersand and the others
  unfoldable pub ampersand_at : Patterns → List Place → Read Pat
  ampersand_at self ts = self One ts >>= λ p. expect s.Ampersand stop p.1 >>= λ rest. made (pair.Pair p.0) (self Others rest)

  -- the pattern that begins so
  unfoldable pub pattern_by : Patterns → PatternSign → List Place → Read Pat
  pattern_by self begin.Name ts = made pat.Name (name_in ts)
  pattern_by self begin.Fresh ts = Ok (pat.Fresh, drop 1 ts)
  pattern_by self begin.Drop ts = Ok (pat.Drop, drop 1 ts)
  pattern_by self begin.Frame ts = Ok (pat.Frame, drop 1 ts)
  pattern_by self begin.Rewrite ts = Ok (pat.Rewrite, drop 1 ts)
  pattern_by self begin.RewriteBack ts = Ok (pat.RewriteBack, drop 1 ts)
  pattern_by self begin.Bracket ts = bracket_at self (drop 1 ts)
  pattern_by self begin.Group ts = closed_by s.Close stop (ampersand_at self (drop 1 ts))
  pattern_by self begin.Fact ts = pure_pattern (drop 1 ts)
  pattern_by self begin.Int ts = made pair.Int (self One (drop 1 ts))
  pattern_by self begin.Spat ts = made pair.Spat (self One (drop 1 ts))
  pattern_by self begin.Elim ts = made pair.Elim (self One (drop 1 ts))

  abbrev pub one_by : Patterns → Option PatternSign → List Place → Read Pat
  one_by self (Some b) ts = pattern_by self b ts
  one_by self None ts = Err (unexpected stop ts)

  unfoldable pub one_at : Patterns → List Place → Read Pat
  one_at self ts = one_by self (begins ts) ts

  unfoldable pub pattern_at : Patterns → Patterns
  pattern_at self One ts = one_at self ts
  pattern_at self Others ts = if another_follows 0 ts then ampersand_at self ts else one_at self ts

  -- ---- where so many patterns may still stand one in another

  unfoldable pub pattern_in : ℕ → Patterns
  pattern_in zero e ts = Err (deep_pattern ts)
  pattern_in (suc room) e ts = pattern_at (pattern_in room) e ts

  -- `"pat"`
  unfoldable pub quoted_pattern : ℕ → List Place → Read Pat
  quoted_pattern room ts = quoted (pattern_in room One) ts

  -- the fault at a name of `( x … )` that stands in as many patterns as may be
  unfoldable pub deep_name : List Place → TextFault
  deep_name [] = Unexpected stop
  deep_name (place (name x) at ∷ ts) = Deep at
  deep_name (place (number n) at ∷ ts) = Unexpected at
  deep_name (place (symbol r) at ∷ ts) = Unexpected at

  -- behind a name of `( x … )`, where self reads from a further name on
  unfoldable pub behind_name : (List Place → Read Pat) → ℕ → List Place → Read Pat
  behind_name self room ts = if sees s.Close ts then quoted_pattern room (drop 1 ts) else self ts

  unfoldable pub named_at : (List Place → Read Pat) → ℕ → List Place → Read Pat
  named_at self room ts = name_in ts >>= λ x. made (pair.Pair (pat.PureName x.0)) (behind_name self room x.1)

  -- `x … ) "pat"`, which is `[%x … pat]`, where so many patterns may still stand one in another
  unfoldable pub named_pattern : ℕ → List Place → Read Pat
  named_pattern zero ts = Err (deep_name ts)
  named_pattern (suc room) ts = if room == 0 then Err (deep_name ts) else named_at (named_pattern room) room ts

  -- `"pat"` or `( x … ) "pat"`
  unfoldable pub bound_pattern : List Place → Read Pat
  bound_pattern ts = if sees s.Open ts then named_pattern MAX_LEVELS (drop 1 ts) else quoted_pattern MAX_LEVELS ts

  -- `{ sel … }`, or a pattern
  unfoldable pub clear_or_pattern : List Place → Read Pat
  clear_or_pattern ts =
      if sees s.OpenBrace ts then closed_by s.CloseBrace stop (made pat.Clear (some_until s.CloseBrace sel_in (drop 1 ts)))
      else pattern_in MAX_LEVELS One ts

  -- an item of `iIntros`
  unfoldable pub intro_in : List Place → Read Pat
  intro_in ts = alone_or (next_item ts) (clear_or_pattern ts) ts

  -- `"pat …"` of `iIntros`
  unfoldable pub quoted_intros : List Place → Read (List Pat)
  quoted_intros ts = quoted (some_until s.Quote intro_in) ts

  -- the same behind others
  unfoldable pub further_intros : List Pat → List Place → Read (List Pat)
  further_intros found ts = quoted (λ us. behind found (some_until s.Quote intro_in us)) ts

  -- ---- specialisation patterns

  unfoldable pub pick_in : List Place → Read Pick
  pick_in ts =
      if sees s.Dollar ts then made (λ x. record { framed = true; name = x }) (name_in (drop 1 ts))
      else made (λ x. record { framed = false; name = x }) (name_in ts)

  -- spatial hypotheses, up to the bracket that closes
  unfoldable pub spatial_in : List Place → Read Spat
  spatial_in ts =
      if sees s.Minus ts then made spat.Rest (until s.CloseBracket name_in (drop 1 ts))
      else made spat.Goal (until s.CloseBracket pick_in ts)

  -- behind `[`, without the bracket that closes it
  unfoldable pub premise_in : List Place → Read Spat
  premise_in ts = alone_or (next_premise ts) (spatial_in ts) ts

  unfoldable pub premise : List Place → Read Spat
  premise ts = expect s.OpenBracket stop ts >>= λ rest. closed_by s.CloseBracket stop (premise_in rest)

  -- `"[ … ]"`
  unfoldable pub quoted_premise : List Place → Read Spat
  quoted_premise ts = quoted premise ts

  unfoldable pub spat_in : List Place → Read Spat
  spat_in ts = if sees s.OpenBracket ts then premise ts else made spat.Name (name_in ts)

  -- `"spat …"`
  unfoldable pub quoted_spats : List Place → Read (List Spat)
  quoted_spats ts = quoted (some_until s.Quote spat_in) ts

  -- ---- certificates

  -- the fact of a factor, behind what is found
  unfoldable pub fact_in : Found → ℤ → List Place → Read Found
  fact_in f z ts = made (λ x. record { goal = f.goal; facts = f.facts ++ record { factor = z; fact = x } ∷ [] }) (name_in ts)

  -- a factor with its fact, or with the goal, where that one may still come
  unfoldable pub entry_in : Found → List Place → Read Found
  entry_in f ts =
      literal stop ts >>= λ z. expect s.Asterisk stop z.1 >>= λ rest.
      if takes_goal f ts rest then Ok (record { goal = Some z.0; facts = f.facts }, drop 1 rest) else fact_in f z.0 rest

  -- entries up to the quote, at most as many as the number says, behind what is found
  unfoldable pub entries_in : (more : ℕ) → Found → List Place → Read Found
  entries_in zero f ts = Ok (f, ts)
  entries_in (suc more) f ts = if sees s.Quote ts then Ok (f, ts) else (entry_in f ts >>= λ g. entries_in more g.0 g.1)

  -- All entries up to the quote. Each takes a token at least.
  unfoldable pub cert_in : List Place → Read Cert
  cert_in ts = made cert_of (entries_in (length ts) (record { goal = None; facts = [] }) ts)

  -- `"cert"`
  unfoldable pub quoted_cert : List Place → Read Cert
  quoted_cert ts = quoted cert_in ts
