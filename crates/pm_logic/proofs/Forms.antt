-- The classes at the variants as code makes them.
use Rattle.std.proofs.Common.{◌≡◌, ◌⊎◌, inl, inr, ℕ, List, sym, subst}
use Rattle.pm_logic.specs.declared.formula.Term.{Term}
use Rattle.pm_logic.specs.declared.formula.Pure.{Pure}
use Rattle.pm_logic.specs.declared.formula.Formula.{Formula, the_lemmas}
use Rattle.pm_logic.specs.declared.formula.Formula.TheVariants.{Pure as Fact, Pts, Call}
use Rattle.pm_logic.specs.declared.formula.Formula.TheViews as view
use Rattle.pm_logic.specs.declared.formula.Formula.TheBlock as block
use denote.Hole.Carrier as carrier
use Rattle.pm_logic.specs.Classes.{IsPersistent, IsTimeless}

pub persistent_sep : (a b : Formula) → IsPersistent (view.Sep a b) → IsPersistent a × IsPersistent b
unfolding block.shape-the_row-Formula-0 block.hidden-the_row-Formula-0 carrier.hidden IsPersistent
persistent_sep a b h = h

pub sep_persistent : (a b : Formula) → IsPersistent a → IsPersistent b → IsPersistent (view.Sep a b)
unfolding block.shape-the_row-Formula-0 block.hidden-the_row-Formula-0 carrier.hidden IsPersistent
sep_persistent a b h g = (h, g)

pub persistent_and : (a b : Formula) → IsPersistent (view.And a b) → IsPersistent a × IsPersistent b
unfolding block.shape-the_row-Formula-0 block.hidden-the_row-Formula-0 carrier.hidden IsPersistent
persistent_and a b h = h

pub and_persistent : (a b : Formula) → IsPersistent a → IsPersistent b → IsPersistent (view.And a b)
unfolding block.shape-the_row-Formula-0 block.hidden-the_row-Formula-0 carrier.hidden IsPersistent
and_persistent a b h g = (h, g)

pub persistent_or : (a b : Formula) → IsPersistent (view.Or a b) → IsPersistent a × IsPersistent b
unfolding block.shape-the_row-Formula-0 block.hidden-the_row-Formula-0 carrier.hidden IsPersistent
persistent_or a b h = h

pub or_persistent : (a b : Formula) → IsPersistent a → IsPersistent b → IsPersistent (view.Or a b)
unfolding block.shape-the_row-Formula-0 block.hidden-the_row-Formula-0 carrier.hidden IsPersistent
or_persistent a b h g = (h, g)

pub persistent_part_of_persistent : (f a : Formula) → (f ≡ view.All a) ⊎ ((f ≡ view.Ex a) ⊎ (f ≡ view.Later a)) → IsPersistent f → IsPersistent a
unfolding block.shape-the_row-Formula-0 block.hidden-the_row-Formula-0 carrier.hidden IsPersistent
persistent_part_of_persistent f a (inl e) h = let P : Formula → Type 0 = λ x. IsPersistent x in subst P e h
persistent_part_of_persistent f a (inr (inl e)) h = let P : Formula → Type 0 = λ x. IsPersistent x in subst P e h
persistent_part_of_persistent f a (inr (inr e)) h = let P : Formula → Type 0 = λ x. IsPersistent x in subst P e h

pub part_of_persistent_persistent : (f a : Formula) → (f ≡ view.All a) ⊎ ((f ≡ view.Ex a) ⊎ (f ≡ view.Later a)) → IsPersistent a → IsPersistent f
unfolding block.shape-the_row-Formula-0 block.hidden-the_row-Formula-0 carrier.hidden IsPersistent
part_of_persistent_persistent f a (inl e) h = let P : Formula → Type 0 = λ x. IsPersistent x in subst P (sym e) h
part_of_persistent_persistent f a (inr (inl e)) h = let P : Formula → Type 0 = λ x. IsPersistent x in subst P (sym e) h
part_of_persistent_persistent f a (inr (inr e)) h = let P : Formula → Type 0 = λ x. IsPersistent x in subst P (sym e) h

pub pure_persistent : (a : Pure) → IsPersistent (Fact a)
unfolding IsPersistent
pure_persistent a = tt

pub pers_persistent : (a : Formula) → IsPersistent (view.Pers a)
unfolding block.shape-the_row-Formula-0 block.hidden-the_row-Formula-0 carrier.hidden IsPersistent
pers_persistent a = tt

pub wand_not_persistent : (a b : Formula) → IsPersistent (view.Wand a b) → ⊥
unfolding block.shape-the_row-Formula-0 block.hidden-the_row-Formula-0 carrier.hidden IsPersistent
wand_not_persistent a b h = h

pub imp_not_persistent : (a b : Formula) → IsPersistent (view.Imp a b) → ⊥
unfolding block.shape-the_row-Formula-0 block.hidden-the_row-Formula-0 carrier.hidden IsPersistent
imp_not_persistent a b h = h

pub upd_not_persistent : (a : Formula) → IsPersistent (view.Upd a) → ⊥
unfolding block.shape-the_row-Formula-0 block.hidden-the_row-Formula-0 carrier.hidden IsPersistent
upd_not_persistent a h = h

pub pts_not_persistent : (l : Term) (u : ℕ) (v : Term) → IsPersistent (Pts l u v) → ⊥
unfolding IsPersistent
pts_not_persistent l u v h = h

pub call_not_persistent : (q : ℕ) (args : List Term) → IsPersistent (Call q args) → ⊥
unfolding IsPersistent
call_not_persistent q args h = h

pub timeless_sep : (a b : Formula) → IsTimeless (view.Sep a b) → IsTimeless a × IsTimeless b
unfolding block.shape-the_row-Formula-0 block.hidden-the_row-Formula-0 carrier.hidden IsTimeless
timeless_sep a b h = h

pub sep_timeless : (a b : Formula) → IsTimeless a → IsTimeless b → IsTimeless (view.Sep a b)
unfolding block.shape-the_row-Formula-0 block.hidden-the_row-Formula-0 carrier.hidden IsTimeless
sep_timeless a b h g = (h, g)

pub timeless_and : (a b : Formula) → IsTimeless (view.And a b) → IsTimeless a × IsTimeless b
unfolding block.shape-the_row-Formula-0 block.hidden-the_row-Formula-0 carrier.hidden IsTimeless
timeless_and a b h = h

pub and_timeless : (a b : Formula) → IsTimeless a → IsTimeless b → IsTimeless (view.And a b)
unfolding block.shape-the_row-Formula-0 block.hidden-the_row-Formula-0 carrier.hidden IsTimeless
and_timeless a b h g = (h, g)

pub timeless_or : (a b : Formula) → IsTimeless (view.Or a b) → IsTimeless a × IsTimeless b
unfolding block.shape-the_row-Formula-0 block.hidden-the_row-Formula-0 carrier.hidden IsTimeless
timeless_or a b h = h

pub or_timeless : (a b : Formula) → IsTimeless a → IsTimeless b → IsTimeless (view.Or a b)
unfolding block.shape-the_row-Formula-0 block.hidden-the_row-Formula-0 carrier.hidden IsTimeless
or_timeless a b h g = (h, g)

pub timeless_part_of_timeless : (f a : Formula) → (f ≡ view.All a) ⊎ ((f ≡ view.Ex a) ⊎ (f ≡ view.Pers a)) → IsTimeless f → IsTimeless a
unfolding block.shape-the_row-Formula-0 block.hidden-the_row-Formula-0 carrier.hidden IsTimeless
timeless_part_of_timeless f a (inl e) h = let P : Formula → Type 0 = λ x. IsTimeless x in subst P e h
timeless_part_of_timeless f a (inr (inl e)) h = let P : Formula → Type 0 = λ x. IsTimeless x in subst P e h
timeless_part_of_timeless f a (inr (inr e)) h = let P : Formula → Type 0 = λ x. IsTimeless x in subst P e h

pub part_of_timeless_timeless : (f a : Formula) → (f ≡ view.All a) ⊎ ((f ≡ view.Ex a) ⊎ (f ≡ view.Pers a)) → IsTimeless a → IsTimeless f
unfolding block.shape-the_row-Formula-0 block.hidden-the_row-Formula-0 carrier.hidden IsTimeless
part_of_timeless_timeless f a (inl e) h = let P : Formula → Type 0 = λ x. IsTimeless x in subst P (sym e) h
part_of_timeless_timeless f a (inr (inl e)) h = let P : Formula → Type 0 = λ x. IsTimeless x in subst P (sym e) h
part_of_timeless_timeless f a (inr (inr e)) h = let P : Formula → Type 0 = λ x. IsTimeless x in subst P (sym e) h

pub pure_timeless : (a : Pure) → IsTimeless (Fact a)
unfolding IsTimeless
pure_timeless a = tt

pub pts_timeless : (l : Term) (u : ℕ) (v : Term) → IsTimeless (Pts l u v)
unfolding IsTimeless
pts_timeless l u v = tt

pub wand_not_timeless : (a b : Formula) → IsTimeless (view.Wand a b) → ⊥
unfolding block.shape-the_row-Formula-0 block.hidden-the_row-Formula-0 carrier.hidden IsTimeless
wand_not_timeless a b h = h

pub imp_not_timeless : (a b : Formula) → IsTimeless (view.Imp a b) → ⊥
unfolding block.shape-the_row-Formula-0 block.hidden-the_row-Formula-0 carrier.hidden IsTimeless
imp_not_timeless a b h = h

pub later_not_timeless : (a : Formula) → IsTimeless (view.Later a) → ⊥
unfolding block.shape-the_row-Formula-0 block.hidden-the_row-Formula-0 carrier.hidden IsTimeless
later_not_timeless a h = h

pub upd_not_timeless : (a : Formula) → IsTimeless (view.Upd a) → ⊥
unfolding block.shape-the_row-Formula-0 block.hidden-the_row-Formula-0 carrier.hidden IsTimeless
upd_not_timeless a h = h

pub call_not_timeless : (q : ℕ) (args : List Term) → IsTimeless (Call q args) → ⊥
unfolding IsTimeless
call_not_timeless q args h = h

pub ruleset persistence = (the_lemmas, persistent_sep, sep_persistent, persistent_and, and_persistent, persistent_or, or_persistent, persistent_part_of_persistent, part_of_persistent_persistent, pure_persistent, pers_persistent, wand_not_persistent, imp_not_persistent, upd_not_persistent, pts_not_persistent, call_not_persistent)

pub ruleset timelessness = (the_lemmas, timeless_sep, sep_timeless, timeless_and, and_timeless, timeless_or, or_timeless, timeless_part_of_timeless, part_of_timeless_timeless, pure_timeless, pts_timeless, wand_not_timeless, imp_not_timeless, later_not_timeless, upd_not_timeless, call_not_timeless)
