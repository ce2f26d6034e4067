-- The rows of the class table, at the formulas that code makes.
use Rattle.std.proofs.Common.{ℕ, ◌≡◌, ◌%◌, ◌==◌, ◌||◌, cond, None, Some, inl, inr, true, false, refl}
use Rattle.std.specs.Prelude.{option_map}
use denote.Hole.Carrier as carrier
use Rattle.pm_logic.specs.declared.formula.Term.{Term}
use Rattle.pm_logic.specs.declared.formula.Pure as P
use Rattle.pm_logic.specs.declared.formula.Pure.TheViews as pure
use Rattle.pm_logic.specs.declared.formula.Pure.TheBlock as pure_block
use Rattle.pm_logic.specs.declared.formula.Formula.{Formula}
use Rattle.pm_logic.specs.declared.formula.Formula.TheVariants.{Pure as Fact, Pts}
use Rattle.pm_logic.specs.declared.formula.Formula.TheViews as view
use Rattle.pm_logic.specs.declared.formula.Formula.TheBlock as block
use Rattle.pm_logic.specs.Trees.{both, either, Sep, Wand, And, Or, Imp, All, Ex, Later, Pers, Upd}
use Rattle.pm_logic.specs.Classes.{IsPersistent}
use Rattle.pm_classes.specs.Persistence.{persistence, answer, is_persistent}
use Rattle.pm_classes.specs.Classes.{parts, each_under, of_both, half, into_sep, into_and, into_or, into_exist, into_forall, into_wand, into_pure, from_pure, into_persistent}

pub persistent_is : (f : Formula) → IsPersistent f → is_persistent f ≡ true
persistent_is f h = elim (persistence f) as (λ d. answer d ≡ true) [
  | inl p ↦ refl
  | inr n ↦ absurd (n h)
]

pub persistent_not : (f : Formula) → (IsPersistent f → ⊥) → is_persistent f ≡ false
persistent_not f h = elim (persistence f) as (λ d. answer d ≡ false) [
  | inl p ↦ absurd (h p)
  | inr n ↦ refl
]

pub sep_sep : (a b : Formula) → into_sep (view.Sep a b) ≡ Some (parts a b)
unfolding block.shape-the_row-Formula-0 block.hidden-the_row-Formula-0 carrier.hidden into_sep
sep_sep a b = refl

pub sep_fact : (p q : P.Pure) → into_sep (Fact (pure.And p q)) ≡ Some (parts (Fact p) (Fact q))
unfolding block.shape-the_row-Formula-0 block.hidden-the_row-Formula-0 carrier.hidden pure_block.shape-the_row-Pure-0 pure_block.hidden-the_row-Pure-0 into_sep
sep_fact p q = refl

pub sep_and : (a b : Formula) → into_sep (view.And a b) ≡ cond (is_persistent a || is_persistent b) (Some (parts a b)) None
unfolding block.shape-the_row-Formula-0 block.hidden-the_row-Formula-0 carrier.hidden into_sep
sep_and a b = refl

pub sep_pts : (l : Term) (u : ℕ) (v : Term) → into_sep (Pts l u v) ≡ cond (u % 2 == 0) (Some (parts (half l u v) (half l u v))) None
unfolding block.shape-the_row-Formula-0 block.hidden-the_row-Formula-0 carrier.hidden into_sep
sep_pts l u v = refl

pub sep_later : (a : Formula) → into_sep (view.Later a) ≡ each_under view.Later (into_sep a)
unfolding block.shape-the_row-Formula-0 block.hidden-the_row-Formula-0 carrier.hidden into_sep
sep_later a = refl

pub sep_pers : (a : Formula) → into_sep (view.Pers a) ≡ each_under view.Pers (into_and a)
unfolding block.shape-the_row-Formula-0 block.hidden-the_row-Formula-0 carrier.hidden into_sep
sep_pers a = refl

pub and_sep : (a b : Formula) → into_and (view.Sep a b) ≡ Some (parts a b)
unfolding block.shape-the_row-Formula-0 block.hidden-the_row-Formula-0 carrier.hidden into_and
and_sep a b = refl

pub and_and : (a b : Formula) → into_and (view.And a b) ≡ Some (parts a b)
unfolding block.shape-the_row-Formula-0 block.hidden-the_row-Formula-0 carrier.hidden into_and
and_and a b = refl

pub and_fact : (p q : P.Pure) → into_and (Fact (pure.And p q)) ≡ Some (parts (Fact p) (Fact q))
unfolding block.shape-the_row-Formula-0 block.hidden-the_row-Formula-0 carrier.hidden pure_block.shape-the_row-Pure-0 pure_block.hidden-the_row-Pure-0 into_and
and_fact p q = refl

pub and_later : (a : Formula) → into_and (view.Later a) ≡ each_under view.Later (into_and a)
unfolding block.shape-the_row-Formula-0 block.hidden-the_row-Formula-0 carrier.hidden into_and
and_later a = refl

pub and_pers : (a : Formula) → into_and (view.Pers a) ≡ each_under view.Pers (into_and a)
unfolding block.shape-the_row-Formula-0 block.hidden-the_row-Formula-0 carrier.hidden into_and
and_pers a = refl

pub or_or : (a b : Formula) → into_or (view.Or a b) ≡ Some (parts a b)
unfolding block.shape-the_row-Formula-0 block.hidden-the_row-Formula-0 carrier.hidden into_or
or_or a b = refl

pub or_fact : (p q : P.Pure) → into_or (Fact (pure.Or p q)) ≡ Some (parts (Fact p) (Fact q))
unfolding block.shape-the_row-Formula-0 block.hidden-the_row-Formula-0 carrier.hidden pure_block.shape-the_row-Pure-0 pure_block.hidden-the_row-Pure-0 into_or
or_fact p q = refl

pub or_later : (a : Formula) → into_or (view.Later a) ≡ each_under view.Later (into_or a)
unfolding block.shape-the_row-Formula-0 block.hidden-the_row-Formula-0 carrier.hidden into_or
or_later a = refl

pub or_pers : (a : Formula) → into_or (view.Pers a) ≡ each_under view.Pers (into_or a)
unfolding block.shape-the_row-Formula-0 block.hidden-the_row-Formula-0 carrier.hidden into_or
or_pers a = refl

pub exist_ex : (a : Formula) → into_exist (view.Ex a) ≡ Some a
unfolding block.shape-the_row-Formula-0 block.hidden-the_row-Formula-0 carrier.hidden into_exist
exist_ex a = refl

pub exist_later : (a : Formula) → into_exist (view.Later a) ≡ option_map view.Later (into_exist a)
unfolding block.shape-the_row-Formula-0 block.hidden-the_row-Formula-0 carrier.hidden into_exist
exist_later a = refl

pub exist_pers : (a : Formula) → into_exist (view.Pers a) ≡ option_map view.Pers (into_exist a)
unfolding block.shape-the_row-Formula-0 block.hidden-the_row-Formula-0 carrier.hidden into_exist
exist_pers a = refl

pub forall_all : (a : Formula) → into_forall (view.All a) ≡ Some a
unfolding block.shape-the_row-Formula-0 block.hidden-the_row-Formula-0 carrier.hidden into_forall
forall_all a = refl

pub forall_later : (a : Formula) → into_forall (view.Later a) ≡ option_map view.Later (into_forall a)
unfolding block.shape-the_row-Formula-0 block.hidden-the_row-Formula-0 carrier.hidden into_forall
forall_later a = refl

pub forall_pers : (a : Formula) → into_forall (view.Pers a) ≡ option_map view.Pers (into_forall a)
unfolding block.shape-the_row-Formula-0 block.hidden-the_row-Formula-0 carrier.hidden into_forall
forall_pers a = refl

pub wand_wand : (a b : Formula) → into_wand (view.Wand a b) ≡ Some (parts a b)
unfolding block.shape-the_row-Formula-0 block.hidden-the_row-Formula-0 carrier.hidden into_wand
wand_wand a b = refl

pub wand_imp : (a b : Formula) → into_wand (view.Imp a b) ≡ cond (is_persistent a) (Some (parts a b)) None
unfolding block.shape-the_row-Formula-0 block.hidden-the_row-Formula-0 carrier.hidden into_wand
wand_imp a b = refl

pub wand_later : (a : Formula) → into_wand (view.Later a) ≡ each_under view.Later (into_wand a)
unfolding block.shape-the_row-Formula-0 block.hidden-the_row-Formula-0 carrier.hidden into_wand
wand_later a = refl

pub wand_pers : (a : Formula) → into_wand (view.Pers a) ≡ into_wand a
unfolding block.shape-the_row-Formula-0 block.hidden-the_row-Formula-0 carrier.hidden into_wand
wand_pers a = refl

pub of_fact : (p : P.Pure) → into_pure (Fact p) ≡ Some p
unfolding block.shape-the_row-Formula-0 block.hidden-the_row-Formula-0 carrier.hidden into_pure
of_fact p = refl

pub of_sep : (a b : Formula) → into_pure (view.Sep a b) ≡ of_both pure.And (into_pure a) (into_pure b)
unfolding block.shape-the_row-Formula-0 block.hidden-the_row-Formula-0 carrier.hidden into_pure
of_sep a b = refl

pub of_and : (a b : Formula) → into_pure (view.And a b) ≡ of_both pure.And (into_pure a) (into_pure b)
unfolding block.shape-the_row-Formula-0 block.hidden-the_row-Formula-0 carrier.hidden into_pure
of_and a b = refl

pub of_or : (a b : Formula) → into_pure (view.Or a b) ≡ of_both pure.Or (into_pure a) (into_pure b)
unfolding block.shape-the_row-Formula-0 block.hidden-the_row-Formula-0 carrier.hidden into_pure
of_or a b = refl

pub of_pers : (a : Formula) → into_pure (view.Pers a) ≡ into_pure a
unfolding block.shape-the_row-Formula-0 block.hidden-the_row-Formula-0 carrier.hidden into_pure
of_pers a = refl

pub of_upd : (a : Formula) → into_pure (view.Upd a) ≡ into_pure a
unfolding block.shape-the_row-Formula-0 block.hidden-the_row-Formula-0 carrier.hidden into_pure
of_upd a = refl

pub to_fact : (p : P.Pure) → from_pure (Fact p) ≡ Some p
unfolding block.shape-the_row-Formula-0 block.hidden-the_row-Formula-0 carrier.hidden from_pure
to_fact p = refl

pub to_sep : (a b : Formula) → from_pure (view.Sep a b) ≡ of_both pure.And (from_pure a) (from_pure b)
unfolding block.shape-the_row-Formula-0 block.hidden-the_row-Formula-0 carrier.hidden from_pure
to_sep a b = refl

pub to_and : (a b : Formula) → from_pure (view.And a b) ≡ of_both pure.And (from_pure a) (from_pure b)
unfolding block.shape-the_row-Formula-0 block.hidden-the_row-Formula-0 carrier.hidden from_pure
to_and a b = refl

pub to_or : (a b : Formula) → from_pure (view.Or a b) ≡ of_both pure.Or (from_pure a) (from_pure b)
unfolding block.shape-the_row-Formula-0 block.hidden-the_row-Formula-0 carrier.hidden from_pure
to_or a b = refl

pub to_pers : (a : Formula) → from_pure (view.Pers a) ≡ from_pure a
unfolding block.shape-the_row-Formula-0 block.hidden-the_row-Formula-0 carrier.hidden from_pure
to_pers a = refl

pub to_later : (a : Formula) → from_pure (view.Later a) ≡ from_pure a
unfolding block.shape-the_row-Formula-0 block.hidden-the_row-Formula-0 carrier.hidden from_pure
to_later a = refl

pub to_upd : (a : Formula) → from_pure (view.Upd a) ≡ from_pure a
unfolding block.shape-the_row-Formula-0 block.hidden-the_row-Formula-0 carrier.hidden from_pure
to_upd a = refl

pub persistent_pers : (a : Formula) → into_persistent (view.Pers a) ≡ Some a
unfolding block.shape-the_row-Formula-0 block.hidden-the_row-Formula-0 carrier.hidden into_persistent
persistent_pers a = refl

pub persistent_else : (f : Formula) → ((a : Formula) → f ≡ view.Pers a → ⊥) → into_persistent f ≡ cond (is_persistent f) (Some f) None
unfolding block.shape-the_row-Formula-0 block.hidden-the_row-Formula-0 carrier.hidden into_persistent
persistent_else (Pers a) isnt = absurd (isnt a refl)
persistent_else _ isnt = refl

-- ---- all others

pub sep_none : (f : Formula) → ((a b : Formula) → f ≡ view.Sep a b → ⊥) → ((p : P.Pure) → f ≡ Fact p → ⊥) → ((a b : Formula) → f ≡ view.And a b → ⊥) → ((l : Term) (u : ℕ) (v : Term) → f ≡ Pts l u v → ⊥) → ((a : Formula) → f ≡ view.Later a → ⊥) → ((a : Formula) → f ≡ view.Pers a → ⊥) → into_sep f ≡ None
unfolding block.shape-the_row-Formula-0 block.hidden-the_row-Formula-0 carrier.hidden into_sep
sep_none (Sep a b) no_sep no_fact no_and no_pts no_later no_pers = absurd (no_sep a b refl)
sep_none (Fact p) no_sep no_fact no_and no_pts no_later no_pers = absurd (no_fact p refl)
sep_none (And a b) no_sep no_fact no_and no_pts no_later no_pers = absurd (no_and a b refl)
sep_none (Pts l u v) no_sep no_fact no_and no_pts no_later no_pers = absurd (no_pts l u v refl)
sep_none (Later a) no_sep no_fact no_and no_pts no_later no_pers = absurd (no_later a refl)
sep_none (Pers a) no_sep no_fact no_and no_pts no_later no_pers = absurd (no_pers a refl)
sep_none _ no_sep no_fact no_and no_pts no_later no_pers = refl

pub and_none : (f : Formula) → ((a b : Formula) → f ≡ view.Sep a b → ⊥) → ((a b : Formula) → f ≡ view.And a b → ⊥) → ((p : P.Pure) → f ≡ Fact p → ⊥) → ((a : Formula) → f ≡ view.Later a → ⊥) → ((a : Formula) → f ≡ view.Pers a → ⊥) → into_and f ≡ None
unfolding block.shape-the_row-Formula-0 block.hidden-the_row-Formula-0 carrier.hidden into_and
and_none (Sep a b) no_sep no_and no_fact no_later no_pers = absurd (no_sep a b refl)
and_none (And a b) no_sep no_and no_fact no_later no_pers = absurd (no_and a b refl)
and_none (Fact p) no_sep no_and no_fact no_later no_pers = absurd (no_fact p refl)
and_none (Later a) no_sep no_and no_fact no_later no_pers = absurd (no_later a refl)
and_none (Pers a) no_sep no_and no_fact no_later no_pers = absurd (no_pers a refl)
and_none _ no_sep no_and no_fact no_later no_pers = refl

pub or_none : (f : Formula) → ((a b : Formula) → f ≡ view.Or a b → ⊥) → ((p : P.Pure) → f ≡ Fact p → ⊥) → ((a : Formula) → f ≡ view.Later a → ⊥) → ((a : Formula) → f ≡ view.Pers a → ⊥) → into_or f ≡ None
unfolding block.shape-the_row-Formula-0 block.hidden-the_row-Formula-0 carrier.hidden into_or
or_none (Or a b) no_or no_fact no_later no_pers = absurd (no_or a b refl)
or_none (Fact p) no_or no_fact no_later no_pers = absurd (no_fact p refl)
or_none (Later a) no_or no_fact no_later no_pers = absurd (no_later a refl)
or_none (Pers a) no_or no_fact no_later no_pers = absurd (no_pers a refl)
or_none _ no_or no_fact no_later no_pers = refl

pub exist_none : (f : Formula) → ((a : Formula) → f ≡ view.Ex a → ⊥) → ((a : Formula) → f ≡ view.Later a → ⊥) → ((a : Formula) → f ≡ view.Pers a → ⊥) → into_exist f ≡ None
unfolding block.shape-the_row-Formula-0 block.hidden-the_row-Formula-0 carrier.hidden into_exist
exist_none (Ex a) no_ex no_later no_pers = absurd (no_ex a refl)
exist_none (Later a) no_ex no_later no_pers = absurd (no_later a refl)
exist_none (Pers a) no_ex no_later no_pers = absurd (no_pers a refl)
exist_none _ no_ex no_later no_pers = refl

pub forall_none : (f : Formula) → ((a : Formula) → f ≡ view.All a → ⊥) → ((a : Formula) → f ≡ view.Later a → ⊥) → ((a : Formula) → f ≡ view.Pers a → ⊥) → into_forall f ≡ None
unfolding block.shape-the_row-Formula-0 block.hidden-the_row-Formula-0 carrier.hidden into_forall
forall_none (All a) no_all no_later no_pers = absurd (no_all a refl)
forall_none (Later a) no_all no_later no_pers = absurd (no_later a refl)
forall_none (Pers a) no_all no_later no_pers = absurd (no_pers a refl)
forall_none _ no_all no_later no_pers = refl

pub wand_none : (f : Formula) → ((a b : Formula) → f ≡ view.Wand a b → ⊥) → ((a b : Formula) → f ≡ view.Imp a b → ⊥) → ((a : Formula) → f ≡ view.Later a → ⊥) → ((a : Formula) → f ≡ view.Pers a → ⊥) → into_wand f ≡ None
unfolding block.shape-the_row-Formula-0 block.hidden-the_row-Formula-0 carrier.hidden into_wand
wand_none (Wand a b) no_wand no_imp no_later no_pers = absurd (no_wand a b refl)
wand_none (Imp a b) no_wand no_imp no_later no_pers = absurd (no_imp a b refl)
wand_none (Later a) no_wand no_imp no_later no_pers = absurd (no_later a refl)
wand_none (Pers a) no_wand no_imp no_later no_pers = absurd (no_pers a refl)
wand_none _ no_wand no_imp no_later no_pers = refl

pub of_none : (f : Formula) → ((p : P.Pure) → f ≡ Fact p → ⊥) → ((a b : Formula) → f ≡ view.Sep a b → ⊥) → ((a b : Formula) → f ≡ view.And a b → ⊥) → ((a b : Formula) → f ≡ view.Or a b → ⊥) → ((a : Formula) → f ≡ view.Pers a → ⊥) → ((a : Formula) → f ≡ view.Upd a → ⊥) → into_pure f ≡ None
unfolding block.shape-the_row-Formula-0 block.hidden-the_row-Formula-0 carrier.hidden into_pure
of_none (Fact p) no_fact no_sep no_and no_or no_pers no_upd = absurd (no_fact p refl)
of_none (Sep a b) no_fact no_sep no_and no_or no_pers no_upd = absurd (no_sep a b refl)
of_none (And a b) no_fact no_sep no_and no_or no_pers no_upd = absurd (no_and a b refl)
of_none (Or a b) no_fact no_sep no_and no_or no_pers no_upd = absurd (no_or a b refl)
of_none (Pers a) no_fact no_sep no_and no_or no_pers no_upd = absurd (no_pers a refl)
of_none (Upd a) no_fact no_sep no_and no_or no_pers no_upd = absurd (no_upd a refl)
of_none _ no_fact no_sep no_and no_or no_pers no_upd = refl

pub to_none : (f : Formula) → ((p : P.Pure) → f ≡ Fact p → ⊥) → ((a b : Formula) → f ≡ view.Sep a b → ⊥) → ((a b : Formula) → f ≡ view.And a b → ⊥) → ((a b : Formula) → f ≡ view.Or a b → ⊥) → ((a : Formula) → f ≡ view.Pers a → ⊥) → ((a : Formula) → f ≡ view.Later a → ⊥) → ((a : Formula) → f ≡ view.Upd a → ⊥) → from_pure f ≡ None
unfolding block.shape-the_row-Formula-0 block.hidden-the_row-Formula-0 carrier.hidden from_pure
to_none (Fact p) no_fact no_sep no_and no_or no_pers no_later no_upd = absurd (no_fact p refl)
to_none (Sep a b) no_fact no_sep no_and no_or no_pers no_later no_upd = absurd (no_sep a b refl)
to_none (And a b) no_fact no_sep no_and no_or no_pers no_later no_upd = absurd (no_and a b refl)
to_none (Or a b) no_fact no_sep no_and no_or no_pers no_later no_upd = absurd (no_or a b refl)
to_none (Pers a) no_fact no_sep no_and no_or no_pers no_later no_upd = absurd (no_pers a refl)
to_none (Later a) no_fact no_sep no_and no_or no_pers no_later no_upd = absurd (no_later a refl)
to_none (Upd a) no_fact no_sep no_and no_or no_pers no_later no_upd = absurd (no_upd a refl)
to_none _ no_fact no_sep no_and no_or no_pers no_later no_upd = refl

pub sep_fact_none : (p : P.Pure) → ((x y : P.Pure) → p ≡ pure.And x y → ⊥) → into_sep (Fact p) ≡ None
unfolding block.shape-the_row-Formula-0 block.hidden-the_row-Formula-0 carrier.hidden pure_block.shape-the_row-Pure-0 pure_block.hidden-the_row-Pure-0 into_sep
sep_fact_none (both x y) isnt = absurd (isnt x y refl)
sep_fact_none _ isnt = refl

pub and_fact_none : (p : P.Pure) → ((x y : P.Pure) → p ≡ pure.And x y → ⊥) → into_and (Fact p) ≡ None
unfolding block.shape-the_row-Formula-0 block.hidden-the_row-Formula-0 carrier.hidden pure_block.shape-the_row-Pure-0 pure_block.hidden-the_row-Pure-0 into_and
and_fact_none (both x y) isnt = absurd (isnt x y refl)
and_fact_none _ isnt = refl

pub or_fact_none : (p : P.Pure) → ((x y : P.Pure) → p ≡ pure.Or x y → ⊥) → into_or (Fact p) ≡ None
unfolding block.shape-the_row-Formula-0 block.hidden-the_row-Formula-0 carrier.hidden pure_block.shape-the_row-Pure-0 pure_block.hidden-the_row-Pure-0 into_or
or_fact_none (either x y) isnt = absurd (isnt x y refl)
or_fact_none _ isnt = refl
