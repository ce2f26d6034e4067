-- The patterns' variants without the empty shapes of their boxes.
use Rattle.pm_patterns.specs.declared.pattern.Pat as P
use Rattle.pm_patterns.specs.declared.pattern.Pat.{more_of-Pat, end_of-Pat}
use Rattle.pm_patterns.specs.declared.pattern.Pat.TheVariants as p

pattern abbrev pub Pair : P.Pat → P.Pat → P.Pat
Pair a b = p.Pair' tt (more_of-Pat a end_of-Pat) tt (more_of-Pat b end_of-Pat)

pattern abbrev pub Either : P.Pat → P.Pat → P.Pat
Either a b = p.Either' tt (more_of-Pat a end_of-Pat) tt (more_of-Pat b end_of-Pat)

pattern abbrev pub Int : P.Pat → P.Pat
Int a = p.Int' tt (more_of-Pat a end_of-Pat)

pattern abbrev pub Spat : P.Pat → P.Pat
Spat a = p.Spat' tt (more_of-Pat a end_of-Pat)

pattern abbrev pub Elim : P.Pat → P.Pat
Elim a = p.Elim' tt (more_of-Pat a end_of-Pat)
