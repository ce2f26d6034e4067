-- Simultaneous substitution of terms for indices, under binders too.
use Rattle.std.specs.Prelude.{ℕ, zero, suc, ◌+◌, List, [], ◌∷◌, map, pos}
use Rattle.pm_logic.specs.declared.formula.Term.{Term}
use Rattle.pm_logic.specs.declared.formula.Term.TheVariants.{Lit, Var}
use Rattle.pm_logic.specs.declared.formula.Pure.{Pure}
use Rattle.pm_logic.specs.declared.formula.Pure.TheVariants.{True, False, Eq, Le, Lt}
use Rattle.pm_logic.specs.declared.formula.Formula.{Formula}
use Rattle.pm_logic.specs.declared.formula.Formula.TheVariants.{Pure as Fact, Pts, Call}
use Rattle.pm_logic.specs.Trees.{add, sub, neg, scale, both, either, nope, Sep, Wand, And, Or, Imp, All, Ex, Later, Pers, Upd}

-- a term for each index
abbrev pub Sub : Type 0
Sub = ℕ → Term

-- the term with the others in place of its indices
unfoldable pub in_term : Sub → Term → Term
in_term f (Lit z) = Lit z
in_term f (Var i) = f i
in_term f (add s t) = add (in_term f s) (in_term f t)
in_term f (sub s t) = sub (in_term f s) (in_term f t)
in_term f (neg t) = neg (in_term f t)
in_term f (scale z t) = scale z (in_term f t)

unfoldable pub in_pure : Sub → Pure → Pure
in_pure f True = True
in_pure f False = False
in_pure f (Eq s t) = Eq (in_term f s) (in_term f t)
in_pure f (Le s t) = Le (in_term f s) (in_term f t)
in_pure f (Lt s t) = Lt (in_term f s) (in_term f t)
in_pure f (both a b) = both (in_pure f a) (in_pure f b)
in_pure f (either a b) = either (in_pure f a) (in_pure f b)
in_pure f (nope a) = nope (in_pure f a)

-- each index one higher
abbrev pub raised : Term → Term
raised (Lit z) = Lit z
raised (Var i) = Var (suc i)
raised (add s t) = add (raised s) (raised t)
raised (sub s t) = sub (raised s) (raised t)
raised (neg t) = neg (raised t)
raised (scale z t) = scale z (raised t)

-- under one more binder: index 0 stays, and the terms for the others are raised
abbrev pub under : Sub → Sub
under f zero = Var 0
under f (suc i) = raised (f i)

-- the formula with the terms in place of its free indices
unfoldable pub in_formula : Sub → Formula → Formula
in_formula f (Fact a) = Fact (in_pure f a)
in_formula f (Sep a b) = Sep (in_formula f a) (in_formula f b)
in_formula f (Wand a b) = Wand (in_formula f a) (in_formula f b)
in_formula f (And a b) = And (in_formula f a) (in_formula f b)
in_formula f (Or a b) = Or (in_formula f a) (in_formula f b)
in_formula f (Imp a b) = Imp (in_formula f a) (in_formula f b)
in_formula f (All a) = All (in_formula (under f) a)
in_formula f (Ex a) = Ex (in_formula (under f) a)
in_formula f (Later a) = Later (in_formula f a)
in_formula f (Pers a) = Pers (in_formula f a)
in_formula f (Upd a) = Upd (in_formula f a)
in_formula f (Pts l u v) = Pts (in_term f l) u (in_term f v)
in_formula f (Call q args) = Call q (map (in_term f) args)

-- the terms of the list for the indices below its length, and 0 for the others
abbrev pub entries : List Term → Sub
entries [] i = Lit (pos 0)
entries (t ∷ ts) zero = t
entries (t ∷ ts) (suc i) = entries ts i

-- the term for index 0, and each other index one lower
abbrev pub first : Term → Sub
first t zero = t
first t (suc i) = Var i

-- each index one higher
abbrev pub one_up : Sub
one_up i = Var (suc i)

-- the simultaneous substitution of the list's terms for the indices
abbrev pub subst_of : Formula → List Term → Formula
subst_of a sigma = in_formula (entries sigma) a

-- every free index one higher
abbrev pub shift_of : Formula → Formula
shift_of a = in_formula one_up a

-- the term for index 0, and every other free index one lower
abbrev pub opened_of : Formula → Term → Formula
opened_of a t = in_formula (first t) a

-- under d more binders
abbrev pub under_by : ℕ → Sub → Sub
under_by zero f = f
under_by (suc d) f = under (under_by d f)

-- each index d higher
unfoldable pub raised_by : ℕ → Term → Term
raised_by d (Lit z) = Lit z
raised_by d (Var i) = Var (i + d)
raised_by d (add s t) = add (raised_by d s) (raised_by d t)
raised_by d (sub s t) = sub (raised_by d s) (raised_by d t)
raised_by d (neg t) = neg (raised_by d t)
raised_by d (scale z t) = scale z (raised_by d t)
