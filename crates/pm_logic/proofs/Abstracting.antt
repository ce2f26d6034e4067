-- Terms with a new variable in place of one, at the variants as code makes them.
use Rattle.std.proofs.Common.{◌≡◌, ℕ, ℤ, true, false, if◌then◌else◌, [], ap, to_z-of_z}
use Rattle.pm_logic.specs.declared.formula.Term.{Term, the_lemmas}
use Rattle.pm_logic.specs.declared.formula.Term.TheVariants.{Lit, Var}
use Rattle.pm_logic.specs.declared.formula.Term.TheViews as view
use Rattle.pm_logic.specs.declared.formula.Term.TheBlock as block
use denote.Hole.Carrier as carrier
use Rattle.pm_logic.specs.declared.filling.Fill.TheVariants.{OneUp}
use Rattle.pm_logic.specs.Trees as tree
use Rattle.pm_logic.specs.Abstraction.{term_eq, new_index_or, abstracted}
use Rattle.pm_logic.specs.Substitution.{one_up, under_by}
use Rattle.pm_logic.specs.Walks.{filled}
use Rattle.pm_logic.proofs.Replaces.{fits_add, fits_sub, fits_neg, fits_scale, abstract_fits_var}
use Rattle.pm_logic.proofs.Scopes.{terms_scoped_none}

new_index_here : (d : ℕ) (s t u : Term) → term_eq t s ≡ true → new_index_or d s t u ≡ Var d
unfolding new_index_or
new_index_here d s t u e = ap (λ b. if b then Var d else u) e

pub abstracted_here : (d : ℕ) (s t : Term) → term_eq t s ≡ true → abstracted d s t ≡ Var d
unfolding abstracted
abstracted_here d s (Lit z) e = new_index_here d s (Lit z) (Lit z) e
abstracted_here d s (Var i) e = new_index_here d s (Var i) (under_by d one_up i) e
abstracted_here d s (tree.add a b) e = new_index_here d s (tree.add a b) (tree.add (abstracted d s a) (abstracted d s b)) e
abstracted_here d s (tree.sub a b) e = new_index_here d s (tree.sub a b) (tree.sub (abstracted d s a) (abstracted d s b)) e
abstracted_here d s (tree.neg a) e = new_index_here d s (tree.neg a) (tree.neg (abstracted d s a)) e
abstracted_here d s (tree.scale z a) e = new_index_here d s (tree.scale z a) (tree.scale z (abstracted d s a)) e

pub abstracted_lit : (d : ℕ) (s : Term) (z : ℤ) → term_eq (Lit z) s ≡ false → abstracted d s (Lit z) ≡ Lit z
unfolding abstracted new_index_or
abstracted_lit d s z e = ap (λ r. if r then Var d else Lit z) e

pub abstracted_var : (d : ℕ) (s : Term) (i : ℕ) → term_eq (Var i) s ≡ false → abstracted d s (Var i) ≡ under_by d (filled OneUp []) i
unfolding abstracted new_index_or filled
abstracted_var d s i e = ap (λ r. if r then Var d else under_by d (filled OneUp []) i) e

pub abstracted_add : (d : ℕ) (s : Term) (a b : Term) → term_eq (view.Add a b) s ≡ false → abstracted d s (view.Add a b) ≡ view.Add (abstracted d s a) (abstracted d s b)
unfolding block.shape-the_row-Term-0 block.hidden-the_row-Term-0 carrier.hidden abstracted new_index_or
abstracted_add d s a b e = ap (λ r. if r then Var d else view.Add (abstracted d s a) (abstracted d s b)) e

pub abstracted_sub : (d : ℕ) (s : Term) (a b : Term) → term_eq (view.Sub a b) s ≡ false → abstracted d s (view.Sub a b) ≡ view.Sub (abstracted d s a) (abstracted d s b)
unfolding block.shape-the_row-Term-0 block.hidden-the_row-Term-0 carrier.hidden abstracted new_index_or
abstracted_sub d s a b e = ap (λ r. if r then Var d else view.Sub (abstracted d s a) (abstracted d s b)) e

pub abstracted_neg : (d : ℕ) (s : Term) (a : Term) → term_eq (view.Neg a) s ≡ false → abstracted d s (view.Neg a) ≡ view.Neg (abstracted d s a)
unfolding block.shape-the_row-Term-0 block.hidden-the_row-Term-0 carrier.hidden abstracted new_index_or
abstracted_neg d s a e = ap (λ r. if r then Var d else view.Neg (abstracted d s a)) e

pub abstracted_scale : (d : ℕ) (s : Term) (z : ℤ) (a : Term) → term_eq (view.Scale z a) s ≡ false → abstracted d s (view.Scale z a) ≡ view.Scale z (abstracted d s a)
unfolding block.shape-the_row-Term-0 block.hidden-the_row-Term-0 carrier.hidden abstracted new_index_or
abstracted_scale d s z a e = ap (λ r. if r then Var d else view.Scale z (abstracted d s a)) e

pub ruleset abstracting = (the_lemmas, to_z-of_z, abstracted_here, abstracted_lit, abstracted_var, abstracted_add, abstracted_sub, abstracted_neg, abstracted_scale, fits_add, fits_sub, fits_neg, fits_scale, abstract_fits_var, terms_scoped_none)
