-- Replaced terms at the variants as code makes them.
use Rattle.std.proofs.Common.{◌≡◌, ◌⊎◌, inl, inr, ℕ, ℤ, refl, to_z-of_z}
use Rattle.pm_logic.specs.declared.formula.Term.{Term, the_lemmas}
use Rattle.pm_logic.specs.declared.formula.Term.TheVariants.{Lit, Var}
use Rattle.pm_logic.specs.declared.formula.Term.TheViews as view
use Rattle.pm_logic.specs.declared.formula.Term.TheBlock as block
use denote.Hole.Carrier as carrier
use Rattle.pm_logic.specs.declared.filling.Fill.{Fill}
use Rattle.pm_logic.specs.declared.filling.Fill.TheVariants.{OneUp}
use Rattle.pm_logic.specs.declared.change.Change.{Change}
use Rattle.pm_logic.specs.declared.change.Change.TheVariants.{Replace, Abstract}
use Rattle.pm_logic.specs.Scope.{TermScoped}
use Rattle.pm_logic.specs.Substitution.{Sub, in_term, under_by}
use Rattle.pm_logic.specs.Walks.{replaced, IndexFits, TermFits}

pub replaced_lit : (f : Sub) (d : ℕ) (z : ℤ) → replaced f d (Lit z) ≡ Lit z
unfolding replaced in_term
replaced_lit f d z = refl

pub replaced_var : (f : Sub) (d i : ℕ) → replaced f d (Var i) ≡ under_by d f i
unfolding replaced in_term
replaced_var f d i = refl

pub replaced_add : (f : Sub) (d : ℕ) (a b : Term) → replaced f d (view.Add a b) ≡ view.Add (replaced f d a) (replaced f d b)
unfolding block.shape-the_row-Term-0 block.hidden-the_row-Term-0 carrier.hidden replaced in_term
replaced_add f d a b = refl

pub replaced_sub : (f : Sub) (d : ℕ) (a b : Term) → replaced f d (view.Sub a b) ≡ view.Sub (replaced f d a) (replaced f d b)
unfolding block.shape-the_row-Term-0 block.hidden-the_row-Term-0 carrier.hidden replaced in_term
replaced_sub f d a b = refl

pub replaced_neg : (f : Sub) (d : ℕ) (a : Term) → replaced f d (view.Neg a) ≡ view.Neg (replaced f d a)
unfolding block.shape-the_row-Term-0 block.hidden-the_row-Term-0 carrier.hidden replaced in_term
replaced_neg f d a = refl

pub replaced_scale : (f : Sub) (d : ℕ) (z : ℤ) (a : Term) → replaced f d (view.Scale z a) ≡ view.Scale z (replaced f d a)
unfolding block.shape-the_row-Term-0 block.hidden-the_row-Term-0 carrier.hidden replaced in_term
replaced_scale f d z a = refl

pub fits_add : (c : Change) (d : ℕ) (a b : Term) → TermFits c d (view.Add a b) → TermFits c d a × TermFits c d b
unfolding block.shape-the_row-Term-0 block.hidden-the_row-Term-0 carrier.hidden TermFits TermScoped
fits_add c d a b (inl e) = (inl e, inl e)
fits_add c d a b (inr h) = (inr (h.0, h.1.0), inr (h.0, h.1.1))

pub fits_sub : (c : Change) (d : ℕ) (a b : Term) → TermFits c d (view.Sub a b) → TermFits c d a × TermFits c d b
unfolding block.shape-the_row-Term-0 block.hidden-the_row-Term-0 carrier.hidden TermFits TermScoped
fits_sub c d a b (inl e) = (inl e, inl e)
fits_sub c d a b (inr h) = (inr (h.0, h.1.0), inr (h.0, h.1.1))

pub fits_neg : (c : Change) (d : ℕ) (a : Term) → TermFits c d (view.Neg a) → TermFits c d a
unfolding block.shape-the_row-Term-0 block.hidden-the_row-Term-0 carrier.hidden TermFits TermScoped
fits_neg c d a h = h

pub fits_scale : (c : Change) (d : ℕ) (z : ℤ) (a : Term) → TermFits c d (view.Scale z a) → TermFits c d a
unfolding block.shape-the_row-Term-0 block.hidden-the_row-Term-0 carrier.hidden TermFits TermScoped
fits_scale c d z a h = h

pub fits_var : (fill : Fill) (d i : ℕ) → TermFits (Replace fill) d (Var i) → IndexFits fill d i
unfolding TermFits TermScoped IndexFits
fits_var fill d i (inl e) = inl (cc e)
fits_var fill d i (inr h) = inr h

pub abstract_fits_var : (d i : ℕ) → TermFits Abstract d (Var i) → IndexFits OneUp d i
unfolding TermFits TermScoped IndexFits
abstract_fits_var d i (inl e) = cc e
abstract_fits_var d i (inr h) = inr h

pub ruleset replaces = (the_lemmas, to_z-of_z, replaced_lit, replaced_var, replaced_add, replaced_sub, replaced_neg, replaced_scale)

pub ruleset replacing = (replaces, fits_add, fits_sub, fits_neg, fits_scale, fits_var)
