-- Names among tokens.
use Rattle.std.specs.Prelude.{Bool, true, List}
use Rattle.std.specs.List.{list_all}
use Rattle.pm_names.specs.Names.{is_name}
use Rattle.pm_tokens.specs.Tokens.{Token, name, number, symbol, Place, place}

abbrev pub is_named : Token → Bool
is_named (name w) = is_name w
is_named (number n) = true
is_named (symbol s) = true

abbrev pub is_named_place : Place → Bool
is_named_place (place t at) = is_named t

-- each name among the tokens is one
abbrev pub are_named : List Place → Bool
are_named ps = list_all is_named_place ps
