-- A new variable in place of a term.
use Rattle.std.specs.Prelude.{◌≡◌, ◌↔◌, ℕ, Bool, false, ◌&&◌, nat_eq, if◌then◌else◌, IsTrue}
use Rattle.std.specs.Ordering.{int_eq}
use Rattle.pm_logic.specs.declared.formula.Term.{Term}
use Rattle.pm_logic.specs.declared.formula.Term.TheVariants.{Lit, Var}
use Rattle.pm_logic.specs.declared.formula.Formula.{Formula}
use Rattle.pm_logic.specs.Trees.{add, sub, neg, scale}
use Rattle.pm_logic.specs.Substitution.{one_up, under_by, raised_by, opened_of}
use Rattle.pm_logic.specs.Changes.{changed}

-- whether the terms are equal trees
unfoldable pub term_eq : Term → Term → Bool
term_eq (Lit x) (Lit y) = int_eq x y
term_eq (Var i) (Var j) = nat_eq i j
term_eq (add a b) (add s t) = term_eq a s && term_eq b t
term_eq (sub a b) (sub s t) = term_eq a s && term_eq b t
term_eq (neg a) (neg s) = term_eq a s
term_eq (scale x a) (scale y s) = int_eq x y && term_eq a s
term_eq _ _ = false

-- index d for the term s, and u for any other term t
unfoldable pub new_index_or : ℕ → Term → Term → Term → Term
new_index_or d s t u = if term_eq t s then Var d else u

-- under d binders: every subterm equal to s is index d, and every other index from d on is one higher
unfoldable pub abstracted : ℕ → Term → Term → Term
abstracted d s (Lit z) = new_index_or d s (Lit z) (Lit z)
abstracted d s (Var i) = new_index_or d s (Var i) (under_by d one_up i)
abstracted d s (add a b) = new_index_or d s (add a b) (add (abstracted d s a) (abstracted d s b))
abstracted d s (sub a b) = new_index_or d s (sub a b) (sub (abstracted d s a) (abstracted d s b))
abstracted d s (neg a) = new_index_or d s (neg a) (neg (abstracted d s a))
abstracted d s (scale z a) = new_index_or d s (scale z a) (scale z (abstracted d s a))

-- the formula, one variable wider, in which every subterm equal to s, which is raised by the binders around it, is the new index 0 and nothing else is
abbrev pub abstract_of : Formula → Term → Formula
abstract_of f s = changed (λ d. abstracted d (raised_by d s)) 0 f

-- Whether terms are equal trees is told by the test.
abbrev pub EqualityIsTested : Type 0
EqualityIsTested = (s t : Term) → IsTrue (term_eq s t) ↔ (s ≡ t)

-- With the term put back for the new variable the formula is as before.
abbrev pub AbstractedOpens : Type 0
AbstractedOpens = (f : Formula) (s : Term) → opened_of (abstract_of f s) s ≡ f
