-- Integers of 64 bits at the variants as code makes them.
use Rattle.std.proofs.Common.{◌≡◌, ◌⊎◌, inl, inr, ℕ, zero, suc, ℤ, ◌+◌, ◌<◌, List, [], ◌∷◌, length, take, get_or, sym, subst, add-one, arith}
use Rattle.std.proofs.lemmas.List.{take_all}
use Rattle.pm_logic.specs.declared.formula.Term.{Term, the_lemmas as term_lemmas}
use Rattle.pm_logic.specs.declared.formula.Term.TheVariants.{Lit, Var}
use Rattle.pm_logic.specs.declared.formula.Term.TheViews as term
use Rattle.pm_logic.specs.declared.formula.Term.TheBlock as term_block
use denote.Hole.Carrier as carrier
use Rattle.pm_logic.specs.declared.formula.Pure.{Pure, the_lemmas as pure_lemmas}
use Rattle.pm_logic.specs.declared.formula.Pure.TheVariants.{True, False, Eq, Le, Lt}
use Rattle.pm_logic.specs.declared.formula.Pure.TheViews as pure
use Rattle.pm_logic.specs.declared.formula.Pure.TheBlock as pure_block
use Rattle.pm_logic.specs.declared.formula.Formula.{Formula, the_lemmas}
use Rattle.pm_logic.specs.declared.formula.Formula.TheVariants.{Pure as Fact, Pts, Call}
use Rattle.pm_logic.specs.declared.formula.Formula.TheViews as view
use Rattle.pm_logic.specs.declared.formula.Formula.TheBlock as block
use Rattle.pm_logic.specs.Integers.{IsI64, TermIsI64, TermsAreI64, PureIsI64, FormulaIsI64}

pub no_terms : TermsAreI64 []
unfolding TermsAreI64
no_terms = tt

pub one_term_more : (ts : List Term) (i : ℕ) (d : Term) → i < length ts → TermsAreI64 (take i ts) → TermIsI64 (get_or ts i d) → TermsAreI64 (take (i + 1) ts)
unfolding TermsAreI64
one_term_more [] i d lt h g = absurd (omega arith)
one_term_more (t ∷ ts) zero d lt h g = (g, tt)
one_term_more (t ∷ ts) (suc i) d lt h g = rw add-one (h.0, rw add-one at (one_term_more ts i d (omega arith) h.1 g))

pub literal : (z : ℤ) → IsI64 z → TermIsI64 (Lit z)
unfolding TermIsI64
literal z h = h

pub variable : (i : ℕ) → TermIsI64 (Var i)
unfolding TermIsI64
variable i = tt

pub sum_or_difference : (t a b : Term) → (t ≡ term.Add a b) ⊎ (t ≡ term.Sub a b) → TermIsI64 a → TermIsI64 b → TermIsI64 t
unfolding term_block.shape-the_row-Term-0 term_block.hidden-the_row-Term-0 carrier.hidden TermIsI64
sum_or_difference t a b (inl e) h g = subst (λ (x : Term). TermIsI64 x) (sym e) (h, g)
sum_or_difference t a b (inr e) h g = subst (λ (x : Term). TermIsI64 x) (sym e) (h, g)

pub negation : (a : Term) → TermIsI64 a → TermIsI64 (term.Neg a)
unfolding term_block.shape-the_row-Term-0 term_block.hidden-the_row-Term-0 carrier.hidden TermIsI64
negation a h = h

pub multiple : (z : ℤ) (a : Term) → IsI64 z → TermIsI64 a → TermIsI64 (term.Scale z a)
unfolding term_block.shape-the_row-Term-0 term_block.hidden-the_row-Term-0 carrier.hidden TermIsI64
multiple z a h g = (h, g)

pub truth : PureIsI64 True
unfolding PureIsI64
truth = tt

pub falsehood : PureIsI64 False
unfolding PureIsI64
falsehood = tt

pub comparison : (p : Pure) (s t : Term) → (p ≡ Eq s t) ⊎ ((p ≡ Le s t) ⊎ (p ≡ Lt s t)) → TermIsI64 s → TermIsI64 t → PureIsI64 p
unfolding PureIsI64
comparison p s t (inl e) h g = subst (λ (x : Pure). PureIsI64 x) (sym e) (h, g)
comparison p s t (inr (inl e)) h g = subst (λ (x : Pure). PureIsI64 x) (sym e) (h, g)
comparison p s t (inr (inr e)) h g = subst (λ (x : Pure). PureIsI64 x) (sym e) (h, g)

pub conjunction_or_disjunction : (p a b : Pure) → (p ≡ pure.And a b) ⊎ (p ≡ pure.Or a b) → PureIsI64 a → PureIsI64 b → PureIsI64 p
unfolding pure_block.shape-the_row-Pure-0 pure_block.hidden-the_row-Pure-0 carrier.hidden PureIsI64
conjunction_or_disjunction p a b (inl e) h g = subst (λ (x : Pure). PureIsI64 x) (sym e) (h, g)
conjunction_or_disjunction p a b (inr e) h g = subst (λ (x : Pure). PureIsI64 x) (sym e) (h, g)

pub denial : (a : Pure) → PureIsI64 a → PureIsI64 (pure.Not a)
unfolding pure_block.shape-the_row-Pure-0 pure_block.hidden-the_row-Pure-0 carrier.hidden PureIsI64
denial a h = h

pub connective : (f a b : Formula) → (f ≡ view.Sep a b) ⊎ ((f ≡ view.Wand a b) ⊎ ((f ≡ view.And a b) ⊎ ((f ≡ view.Or a b) ⊎ (f ≡ view.Imp a b)))) → FormulaIsI64 a → FormulaIsI64 b → FormulaIsI64 f
unfolding block.shape-the_row-Formula-0 block.hidden-the_row-Formula-0 carrier.hidden FormulaIsI64
connective f a b (inl e) h g = subst (λ (x : Formula). FormulaIsI64 x) (sym e) (h, g)
connective f a b (inr (inl e)) h g = subst (λ (x : Formula). FormulaIsI64 x) (sym e) (h, g)
connective f a b (inr (inr (inl e))) h g = subst (λ (x : Formula). FormulaIsI64 x) (sym e) (h, g)
connective f a b (inr (inr (inr (inl e)))) h g = subst (λ (x : Formula). FormulaIsI64 x) (sym e) (h, g)
connective f a b (inr (inr (inr (inr e)))) h g = subst (λ (x : Formula). FormulaIsI64 x) (sym e) (h, g)

pub quantified : (f a : Formula) → (f ≡ view.All a) ⊎ (f ≡ view.Ex a) → FormulaIsI64 a → FormulaIsI64 f
unfolding block.shape-the_row-Formula-0 block.hidden-the_row-Formula-0 carrier.hidden FormulaIsI64
quantified f a (inl e) h = subst (λ (x : Formula). FormulaIsI64 x) (sym e) h
quantified f a (inr e) h = subst (λ (x : Formula). FormulaIsI64 x) (sym e) h

pub modal : (f a : Formula) → (f ≡ view.Later a) ⊎ ((f ≡ view.Pers a) ⊎ (f ≡ view.Upd a)) → FormulaIsI64 a → FormulaIsI64 f
unfolding block.shape-the_row-Formula-0 block.hidden-the_row-Formula-0 carrier.hidden FormulaIsI64
modal f a (inl e) h = subst (λ (x : Formula). FormulaIsI64 x) (sym e) h
modal f a (inr (inl e)) h = subst (λ (x : Formula). FormulaIsI64 x) (sym e) h
modal f a (inr (inr e)) h = subst (λ (x : Formula). FormulaIsI64 x) (sym e) h

pub fact : (a : Pure) → PureIsI64 a → FormulaIsI64 (Fact a)
unfolding FormulaIsI64
fact a h = h

pub points_to : (l : Term) (u : ℕ) (v : Term) → TermIsI64 l → TermIsI64 v → FormulaIsI64 (Pts l u v)
unfolding FormulaIsI64
points_to l u v h g = (h, g)

pub call : (q : ℕ) (args : List Term) → TermsAreI64 args → FormulaIsI64 (Call q args)
unfolding FormulaIsI64
call q args h = h

pub ruleset term_integers = (term_lemmas, literal, variable, sum_or_difference, negation, multiple)

pub ruleset pure_integers = (pure_lemmas, truth, falsehood, comparison, conjunction_or_disjunction, denial)

pub ruleset formula_integers = (the_lemmas, connective, quantified, modal, fact, points_to, call)

pub ruleset list_integers = (arith, take_all, no_terms, one_term_more)
