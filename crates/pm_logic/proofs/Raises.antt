-- Raised terms at the variants as code makes them.
use Rattle.std.proofs.Common.{◌≡◌, ℕ, ℤ, ◌+◌, refl, to_z-of_z}
use Rattle.pm_logic.specs.declared.formula.Term.{Term, the_lemmas}
use Rattle.pm_logic.specs.declared.formula.Term.TheVariants.{Lit, Var}
use Rattle.pm_logic.specs.declared.formula.Term.TheViews as view
use Rattle.pm_logic.specs.declared.formula.Term.TheBlock as block
use denote.Hole.Carrier as carrier
use Rattle.pm_logic.specs.Bounds.{past_indices}
use Rattle.pm_logic.specs.Substitution.{raised_by}
use Rattle.pm_logic.proofs.Scopes.{scoped_add, scoped_sub, scoped_neg, scoped_scale, var_scoped_to}

pub raised_by_lit : (d : ℕ) (z : ℤ) → raised_by d (Lit z) ≡ Lit z
unfolding raised_by
raised_by_lit d z = refl

pub raised_by_var : (d i : ℕ) → raised_by d (Var i) ≡ Var (i + d)
unfolding raised_by
raised_by_var d i = refl

pub raised_by_add : (d : ℕ) (a b : Term) → raised_by d (view.Add a b) ≡ view.Add (raised_by d a) (raised_by d b)
unfolding block.shape-the_row-Term-0 block.hidden-the_row-Term-0 carrier.hidden raised_by
raised_by_add d a b = refl

pub raised_by_sub : (d : ℕ) (a b : Term) → raised_by d (view.Sub a b) ≡ view.Sub (raised_by d a) (raised_by d b)
unfolding block.shape-the_row-Term-0 block.hidden-the_row-Term-0 carrier.hidden raised_by
raised_by_sub d a b = refl

pub raised_by_neg : (d : ℕ) (a : Term) → raised_by d (view.Neg a) ≡ view.Neg (raised_by d a)
unfolding block.shape-the_row-Term-0 block.hidden-the_row-Term-0 carrier.hidden raised_by
raised_by_neg d a = refl

pub raised_by_scale : (d : ℕ) (z : ℤ) (a : Term) → raised_by d (view.Scale z a) ≡ view.Scale z (raised_by d a)
unfolding block.shape-the_row-Term-0 block.hidden-the_row-Term-0 carrier.hidden raised_by
raised_by_scale d z a = refl

pub past : past_indices ≡ 1000000001
unfolding past_indices
past = refl

pub ruleset raising = (the_lemmas, to_z-of_z, scoped_add, scoped_sub, scoped_neg, scoped_scale, var_scoped_to, raised_by_lit, raised_by_var, raised_by_add, raised_by_sub, raised_by_neg, raised_by_scale, past)
