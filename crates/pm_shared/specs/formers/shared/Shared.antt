-- How a `Shared` stores its value, so that an enum may lead back to itself through it:
-- it holds exactly one value, the one that contracts see, and beside it a counted pointer.
use mathlib.Core.Path.{refl}
use mathlib.Core.Former.{Former, this, const, pair, via}
use base.Stored.{gnil}
use base.Fml.{ftrue}
use denote.RattleType.{RattleType}
use denote.Memory.{part_of}
use denote.RawPtr.{Ptr}
use denote.Sharing.{nothing}
use denote.HoleLaws.{Alike}
use denote.HolePlaces.{Recodes, struct_places, laid, one_value}
use denote.Hole.Fix.{over}
use denote.Param.Weighed.{Weighed}
use denote.Model.Placed.{view_places}
use Rattle.std.specs.declared.alloc.Global.{Global}
use Rattle.std.specs.declared.rc.Rc.{Rc}
use Rattle.std.specs.contracts.alloc.Global as global
use Rattle.std.specs.contracts.impls.GlobalAllocator.TheImpl.{ghosts}
use Rattle.std.specs.contracts.rc.Rc as counted
use Rattle.pm_shared.specs.declared.shared.Shared.TheInside.{Inside}
use Rattle.pm_shared.specs.declared.shared.Shared.TheView.{view, invariant}
use Rattle.pm_shared.specs.contracts.shared.Shared as shared
use Rattle.pm_shared.specs.contracts.shared.Shared.TheInside as inside

-- contracts see the value alone
abbrev pub the_former : Former {0} → Former {0}
the_former values = values

abbrev pub the_weighed : {values : Former {0}} → Weighed values → Weighed (the_former values)
the_weighed weighed = weighed

-- the counted pointer that points where another does, at another value
abbrev pointing : {A B : Type 0} → Rc A Global → B → Rc B Global
pointing from value = record { ptr = from.ptr; value = value }

-- the field: a pointer, and the value
abbrev the_field : Former {0}
the_field =
    via (pair (const Ptr) this) Inside (λ A held. (held.inner.ptr, held.inner.value))
    (λ A parts. record { inner = record { ptr = parts.0; value = parts.1 } })
    (λ A held. refl) (λ A parts. refl)

abbrev row_of : RattleType → RattleType
row_of R = counted.the_row R global.the_row ghosts

module _ (R S : RattleType) (h : R.Denot → S.Denot) where
  counted_alike : Alike R S h → Alike (row_of R) (row_of S) (λ from. pointing from (h from.value))
  unfolding part_of
  counted_alike same = record {
    mir_same = λ i. (row_of (one_value R (same.mir_same i) (λ _. ftrue) (λ _ _. nothing) gnil)).mir;
    own_same = λ from i. (row_of (one_value R (same.mir_same i) (same.own_same from.value i) (same.shr_same from.value i) gnil)).own_val (pointing from tt);
    shr_same = λ from i. (row_of (one_value R (same.mir_same i) (same.own_same from.value i) (same.shr_same from.value i) gnil)).shr_at (pointing from tt);
  }

  pub the_places : Alike R S h → Alike (shared.the_row R) (shared.the_row S) ((the_former this).map R.Denot S.Denot h)
  the_places same =
      view_places the_field this view (λ A B k held. refl) (λ A held. refl)
      R.Denot S.Denot h (shared.the_row R).coded (shared.the_row S).coded
      (invariant R.Denot) (invariant S.Denot) (λ held p q. refl) (λ held p q. refl)
      (λ held p. tt) (λ held p. tt)
      (over (inside.the_row R)) (over (inside.the_row S))
      (struct_places (inside.the_type R) (inside.the_type S) ((λ from. pointing from (h from.value)), tt) _
      (λ held. refl) refl (laid _ _ _ (counted_alike same), tt))

  pub the_codes_placed : Recodes R S h → Recodes (shared.the_row R) (shared.the_row S) ((the_former this).map R.Denot S.Denot h)
  the_codes_placed recoded value = recoded value
