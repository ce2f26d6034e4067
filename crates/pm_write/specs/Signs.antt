-- The words that the texts of terms, pure formulas and formulas begin with, each with its blank.
use Rattle.std.specs.Prelude.{ℕ, List, [], codes}
use Rattle.pm_logic.specs.declared.formula.Term.{Term}
use Rattle.pm_logic.specs.declared.formula.Term.TheVariants.{Lit, Var}
use Rattle.pm_logic.specs.declared.formula.Pure.{Pure}
use Rattle.pm_logic.specs.declared.formula.Pure.TheVariants as pure
use Rattle.pm_logic.specs.declared.formula.Formula.{Formula}
use Rattle.pm_logic.specs.declared.formula.Formula.TheVariants.{Pure as Fact, Pts, Call}
use Rattle.pm_logic.specs.Trees.{add, sub, neg, scale, both, either, nope, Sep, Wand, And, Or, Imp, All, Ex, Later, Pers, Upd}

abbrev pub term_sign : Term → List ℕ
term_sign (Lit z) = []
term_sign (Var i) = codes "v"
term_sign (add s t) = codes "add "
term_sign (sub s t) = codes "sub "
term_sign (neg t) = codes "neg "
term_sign (scale z t) = codes "mul "

abbrev pub pure_sign : Pure → List ℕ
pure_sign pure.True = codes "T"
pure_sign pure.False = codes "F"
pure_sign (pure.Eq s t) = codes "eq "
pure_sign (pure.Le s t) = codes "le "
pure_sign (pure.Lt s t) = codes "lt "
pure_sign (both a b) = codes "cj "
pure_sign (either a b) = codes "dj "
pure_sign (nope a) = codes "no "

abbrev pub formula_sign : Formula → List ℕ
formula_sign (Fact a) = codes "pure "
formula_sign (Sep p q) = codes "sep "
formula_sign (Wand p q) = codes "wand "
formula_sign (And p q) = codes "and "
formula_sign (Or p q) = codes "or "
formula_sign (Imp p q) = codes "imp "
formula_sign (All p) = codes "all "
formula_sign (Ex p) = codes "ex "
formula_sign (Later p) = codes "later "
formula_sign (Pers p) = codes "pers "
formula_sign (Upd p) = codes "upd "
formula_sign (Pts l u v) = codes "pts "
formula_sign (Call p ts) = codes "call "
