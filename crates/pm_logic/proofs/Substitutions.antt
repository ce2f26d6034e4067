-- What the walks give for each fill.
use Rattle.std.proofs.Common.{◌≡◌, inl, inr, ℕ, ◌+◌, ◌≤◌, List, [], ◌∷◌, refl, arith}
use Rattle.pm_logic.specs.declared.formula.Term.{Term}
use Rattle.pm_logic.specs.declared.formula.Pure.{Pure}
use Rattle.pm_logic.specs.declared.formula.Formula.{Formula}
use Rattle.pm_logic.specs.declared.formula.TheConstants.{BOUND}
use Rattle.pm_logic.specs.declared.filling.Fill.TheVariants.{Itself, Entries, First, OneUp}
use Rattle.pm_logic.specs.declared.change.Change.{Change}
use Rattle.pm_logic.specs.declared.change.Change.TheVariants.{Replace, Abstract}
use Rattle.pm_logic.specs.Abstraction.{abstract_of}
use Rattle.pm_logic.specs.Bounds.{IsBounded}
use Rattle.pm_logic.specs.Changes.{changed_pure, changed}
use Rattle.pm_logic.specs.Scope.{TermScoped, TermsScoped, ScopedIn}
use Rattle.pm_logic.specs.Size.{depth_of}
use Rattle.pm_logic.specs.Substitution.{subst_of, shift_of, opened_of}
use Rattle.pm_logic.specs.Walks.{filled, replaced, change_of, first_of, TermFits, PureFits, FormulaFits}
use Rattle.pm_logic.proofs.Changed.{changed_in, pure_same, replaced_itself}
use Rattle.pm_logic.proofs.Changes.{changed_itself}
use Rattle.pm_logic.proofs.Scopes.{terms_scoped_none}

pub replaced_entries : (f : Formula) (ts : List Term) → changed (replaced (filled Entries ts)) 0 f ≡ subst_of f ts
unfolding filled
replaced_entries f ts = changed_in (filled Entries ts) 0 f

pub replaced_one_up : (f : Formula) (ts : List Term) → changed (replaced (filled OneUp ts)) 0 f ≡ shift_of f
unfolding filled
replaced_one_up f ts = changed_in (filled OneUp ts) 0 f

pub replaced_first : (f : Formula) (t : Term) → changed (replaced (filled First (t ∷ []))) 0 f ≡ opened_of f t
unfolding filled first_of
replaced_first f t = changed_in (filled First (t ∷ [])) 0 f

pub change_entries : (f : Formula) (ts : List Term) → changed (change_of (Replace Entries) ts) 0 f ≡ subst_of f ts
unfolding change_of filled
change_entries f ts = replaced_entries f ts

pub change_one_up : (f : Formula) (ts : List Term) → changed (change_of (Replace OneUp) ts) 0 f ≡ shift_of f
unfolding change_of filled
change_one_up f ts = replaced_one_up f ts

pub change_first : (f : Formula) (t : Term) → changed (change_of (Replace First) (t ∷ [])) 0 f ≡ opened_of f t
unfolding change_of filled
change_first f t = replaced_first f t

pub change_abstract : (f : Formula) (s : Term) → changed (change_of Abstract (s ∷ [])) 0 f ≡ abstract_of f s
unfolding change_of
change_abstract f s = refl

pub change_itself : (f : Formula) (ts : List Term) → changed (change_of (Replace Itself) ts) 0 f ≡ f
change_itself f ts = changed_itself ts 0 f

pub pure_itself : (p : Pure) (ts : List Term) → changed_pure (change_of (Replace Itself) ts 0) p ≡ p
unfolding change_of filled
pure_itself p ts = pure_same (change_of (Replace Itself) ts 0) (replaced_itself 0) p

pub term_itself : (t : Term) (ts : List Term) → change_of (Replace Itself) ts 0 t ≡ t
unfolding change_of filled
term_itself t ts = replaced_itself 0 t

pub fits_bounded : (c : Change) (f : Formula) → IsBounded f → FormulaFits c 0 f
unfolding FormulaFits
fits_bounded c f h = let le = h.within in inr (omega (arith, le), h)

pub fits_itself : (f : Formula) → FormulaFits (Replace Itself) 0 f
unfolding FormulaFits
fits_itself f = inl refl

pub pure_fits_itself : (p : Pure) → PureFits (Replace Itself) 0 p
unfolding PureFits
pure_fits_itself p = inl refl

pub term_fits_itself : (t : Term) → TermFits (Replace Itself) 0 t
unfolding TermFits
term_fits_itself t = inl refl

pub one_scoped : (k : ℕ) (t : Term) → TermScoped k t → TermsScoped k (t ∷ [])
unfolding TermsScoped
one_scoped k t h = (h, tt)

pub bounded : (k : ℕ) (f : Formula) → ScopedIn k f → k + depth_of f ≤ BOUND → IsBounded f
bounded k f h le = record { vars = k; scoped = h; within = le }

pub ruleset tests = (replaced_entries, replaced_one_up, replaced_first)

pub ruleset fillings = (change_entries, change_one_up, change_first, change_abstract, change_itself, pure_itself, term_itself, fits_bounded, fits_itself, pure_fits_itself, term_fits_itself, one_scoped, terms_scoped_none, bounded)
