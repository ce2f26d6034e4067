-- Where a variable occurs, and what becomes of indices when a goal gains or loses a variable.
use Rattle.std.specs.Prelude.{ℕ, suc, pred, Bool, false, ◌||◌, nat_eq, nat_lt, List, [], ◌∷◌, if◌then◌else◌}
use Rattle.pm_logic.specs.declared.formula.Term.{Term}
use Rattle.pm_logic.specs.declared.formula.Term.TheVariants.{Lit, Var}
use Rattle.pm_logic.specs.declared.formula.Pure.{Pure}
use Rattle.pm_logic.specs.declared.formula.Pure.TheVariants.{True, False, Eq, Le, Lt}
use Rattle.pm_logic.specs.declared.formula.Formula.{Formula}
use Rattle.pm_logic.specs.declared.formula.Formula.TheVariants.{Pure as Assert, Pts, Call}
use Rattle.pm_logic.specs.Trees.{add, sub, neg, scale, both, either, nope, Sep, Wand, And, Or, Imp, All, Ex, Later, Pers, Upd}
use Rattle.pm_logic.specs.Substitution.{Sub, in_pure, one_up}

-- ---- whether the index occurs

unfoldable pub in_a_term : ℕ → Term → Bool
in_a_term i (Lit z) = false
in_a_term i (Var j) = nat_eq i j
in_a_term i (add s t) = in_a_term i s || in_a_term i t
in_a_term i (sub s t) = in_a_term i s || in_a_term i t
in_a_term i (neg t) = in_a_term i t
in_a_term i (scale z t) = in_a_term i t

unfoldable pub in_some_term : ℕ → List Term → Bool
in_some_term i [] = false
in_some_term i (t ∷ ts) = in_a_term i t || in_some_term i ts

unfoldable pub in_a_pure : ℕ → Pure → Bool
in_a_pure i True = false
in_a_pure i False = false
in_a_pure i (Eq s t) = in_a_term i s || in_a_term i t
in_a_pure i (Le s t) = in_a_term i s || in_a_term i t
in_a_pure i (Lt s t) = in_a_term i s || in_a_term i t
in_a_pure i (both a b) = in_a_pure i a || in_a_pure i b
in_a_pure i (either a b) = in_a_pure i a || in_a_pure i b
in_a_pure i (nope a) = in_a_pure i a

unfoldable pub in_a_formula : ℕ → Formula → Bool
in_a_formula i (Assert a) = in_a_pure i a
in_a_formula i (Sep a b) = in_a_formula i a || in_a_formula i b
in_a_formula i (Wand a b) = in_a_formula i a || in_a_formula i b
in_a_formula i (And a b) = in_a_formula i a || in_a_formula i b
in_a_formula i (Or a b) = in_a_formula i a || in_a_formula i b
in_a_formula i (Imp a b) = in_a_formula i a || in_a_formula i b
in_a_formula i (All a) = in_a_formula (suc i) a
in_a_formula i (Ex a) = in_a_formula (suc i) a
in_a_formula i (Later a) = in_a_formula i a
in_a_formula i (Pers a) = in_a_formula i a
in_a_formula i (Upd a) = in_a_formula i a
in_a_formula i (Pts l u v) = in_a_term i l || in_a_term i v
in_a_formula i (Call q args) = in_some_term i args

-- ---- a variable more, or less

abbrev pub shifted_pure : Pure → Pure
shifted_pure p = in_pure one_up p

-- without the variable of index i: each index above it is one lower
abbrev pub without : ℕ → Sub
without i j = Var (if nat_lt i j then pred j else j)

-- the variable of index i under a binder of its own: it is index 0, and each index below it is one higher
abbrev pub to_front : ℕ → Sub
to_front i j = Var (if nat_eq i j then 0 else (if nat_lt i j then j else suc j))
