-- The reserved words are the keywords.
use Rattle.std.proofs.Common.{◌≡◌, Bool, true, false, ◌||◌, not, cond, List, ℕ, Option, Some, None, refl}
use Rattle.std.specs.Prelude.{codes}
use Rattle.std.specs.Str.{bytes_eq}
use lib.Utf8
use Rattle.pm_names.specs.Names.{is_reserved}
use Rattle.pm_tokens.specs.declared.symbol.Symbol.{Symbol}
use Rattle.pm_tokens.specs.declared.symbol.Symbol.TheVariants as s
use Rattle.pm_tokens.specs.Words.{lookup}
use Rattle.pm_tokens.specs.Symbols.{keywords, keyword}

-- the keyword of five answers
abbrev first_of : Bool → Bool → Bool → Bool → Bool → Option Symbol
first_of a b c d e = cond a (Some s.Forall) (cond b (Some s.Exists) (cond c (Some s.Emp) (cond d (Some s.True) (cond e (Some s.False) None))))

none_of : (a b c d e : Bool) → not (a || b || c || d || e) ≡ true → first_of a b c d e ≡ None
none_of false false false false false h = refl
none_of true b c d e h = absurd cc
none_of false true c d e h = absurd cc
none_of false false true d e h = absurd cc
none_of false false false true e h = absurd cc
none_of false false false false true h = absurd cc

any_of : (a b c d e : Bool) → first_of a b c d e ≡ None → not (a || b || c || d || e) ≡ true
any_of false false false false false h = refl
any_of true b c d e h = absurd cc
any_of false true c d e h = absurd cc
any_of false false true d e h = absurd cc
any_of false false false true e h = absurd cc
any_of false false false false true h = absurd cc

module _ (w : List ℕ) where
  pub is_no_keyword : not (is_reserved w) ≡ true → keyword w ≡ None
  unfolding is_reserved keyword keywords lookup lib.Utf8.encode
  is_no_keyword h = none_of (bytes_eq w (codes "forall")) (bytes_eq w (codes "exists")) (bytes_eq w (codes "emp")) (bytes_eq w (codes "True")) (bytes_eq w (codes "False")) h

  pub not_reserved : keyword w ≡ None → not (is_reserved w) ≡ true
  unfolding is_reserved keyword keywords lookup lib.Utf8.encode
  not_reserved h = any_of (bytes_eq w (codes "forall")) (bytes_eq w (codes "exists")) (bytes_eq w (codes "emp")) (bytes_eq w (codes "True")) (bytes_eq w (codes "False")) h
