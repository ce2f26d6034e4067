-- Which bytes are a name.
use Rattle.std.specs.Prelude.{ℕ, Bool, false, ◌&&◌, ◌||◌, not, ◌==◌, List, [], ◌∷◌, codes}
use Rattle.std.specs.List.{list_all}
use Rattle.std.specs.Str.{is_utf8, chars, bytes_eq}
use Rattle.unicode_ident.specs.Ident.{is_xid_start, is_xid_continue}

-- the characters that a name may start with, and those that may follow
abbrev pub starts_name : ℕ → Bool
starts_name c = is_xid_start c || c == 95

abbrev pub continues_name : ℕ → Bool
continues_name c = is_xid_continue c || c == 39

unfoldable pub is_identifier : List ℕ → Bool
is_identifier [] = false
is_identifier (c ∷ cs) = starts_name c && list_all continues_name cs

-- the words that are no names
unfoldable pub is_reserved : List ℕ → Bool
is_reserved w = bytes_eq w (codes "forall") || bytes_eq w (codes "exists") || bytes_eq w (codes "emp") || bytes_eq w (codes "True") || bytes_eq w (codes "False")

unfoldable pub is_name : List ℕ → Bool
is_name w = is_utf8 w && is_identifier (chars w) && not (is_reserved w)
