-- What stands for an index, by what is asked for.
use Rattle.std.proofs.Common.{◌≡◌, inl, inr, ℕ, ◌+◌, ◌<◌, ◌≤◌, List, refl, sym}
use Rattle.pm_logic.specs.declared.formula.Term.{Term, the_lemmas}
use Rattle.pm_logic.specs.declared.formula.Term.TheVariants.{Var}
use Rattle.pm_logic.specs.declared.filling.Fill.{Fill}
use Rattle.pm_logic.specs.declared.filling.Fill.TheVariants.{Itself, Entries, First, OneUp}
use Rattle.pm_logic.specs.Substitution.{under_by, entries}
use Rattle.pm_logic.specs.Walks.{first_of, filled, IndexFits}
use Rattle.pm_logic.proofs.Under.{under_low, under_itself, one_up_at}

pub index_low : (d i : ℕ) (fill : Fill) (ts : List Term) → i < d → under_by d (filled fill ts) i ≡ Var i
index_low d i fill ts lt = sym (under_low d i (filled fill ts) lt)

pub index_itself : (d i : ℕ) (ts : List Term) → under_by d (filled Itself ts) i ≡ Var i
unfolding filled
index_itself d i ts = sym (under_itself d i)

pub index_entries : (d i : ℕ) (ts : List Term) → under_by d (filled Entries ts) i ≡ under_by d (entries ts) i
unfolding filled
index_entries d i ts = refl

pub index_first : (d i : ℕ) (ts : List Term) → under_by d (filled First ts) i ≡ under_by d (first_of ts) i
unfolding filled
index_first d i ts = refl

pub index_one_up : (d i : ℕ) (ts : List Term) → d ≤ i → under_by d (filled OneUp ts) i ≡ Var (i + 1)
unfolding filled
index_one_up d i ts le = sym (one_up_at d i le)

pub fits_entries : (d i : ℕ) → IndexFits Entries d i → d ≤ 1000000000
unfolding IndexFits
fits_entries d i (inl e) = cc e
fits_entries d i (inr h) = h.0

pub fits_first : (d i : ℕ) → IndexFits First d i → d ≤ 1000000000
unfolding IndexFits
fits_first d i (inl e) = cc e
fits_first d i (inr h) = h.0

pub fits_one_up : (d i : ℕ) → IndexFits OneUp d i → i < 1000000000
unfolding IndexFits
fits_one_up d i (inl e) = cc e
fits_one_up d i (inr h) = h.1

pub ruleset indices = (the_lemmas, index_low, index_itself, index_entries, index_first, index_one_up, fits_entries, fits_first, fits_one_up)
