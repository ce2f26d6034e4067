-- The parts of what is handed in may be handed on.
use Rattle.std.proofs.Common.{ℕ, ◌+◌, ◌≡◌, inl, inr, refl, sym, ap, subst, ◌∙◌, arith}
use Rattle.pm_logic.specs.declared.formula.Formula.{Formula}
use Rattle.pm_logic.specs.declared.formula.Formula.TheViews as view
use Rattle.pm_logic.specs.Classes.{IsPersistent}
use Rattle.pm_logic.proofs.Scopes.{scoped_in_sep, scoped_in_and, scoped_in_or, scoped_in_quantified, scoped_in_modal}
use Rattle.pm_logic.proofs.Forms.{persistent_sep, persistent_and, persistent_or, persistent_part_of_persistent}
use Rattle.pm_classes.specs.Entries.{IsHanded}
use Rattle.pm_classes.proofs.Sizes.{depth_sep, depth_and, depth_or, depth_all, depth_ex, depth_later, depth_pers}

moved : (k : ℕ) (f g : Formula) → f ≡ g → IsHanded k f → IsHanded k g
moved k f g is h = subst (λ (x : Formula). IsHanded k x) is h

kept : (f g : Formula) → f ≡ g → IsPersistent f → IsPersistent g
kept f g is h = subst (λ (x : Formula). IsPersistent x) is h

pub sep_left : (k : ℕ) (f a1 b1 a : Formula) → f ≡ view.Sep a1 b1 → a ≡ a1 → IsHanded k f → IsHanded k a
sep_left k f a1 b1 a is at h =
    let s = moved k f (view.Sep a b1) (is ∙ ap (λ x. view.Sep x b1) (sym at)) h in
    record { scoped = (scoped_in_sep k a b1 s.scoped).0; within = omega (arith, s.within, depth_sep a b1) }

pub sep_left_persists : (f a1 b1 a : Formula) → f ≡ view.Sep a1 b1 → a ≡ a1 → IsPersistent f → IsPersistent a
sep_left_persists f a1 b1 a is at h = (persistent_sep a b1 (kept f (view.Sep a b1) (is ∙ ap (λ x. view.Sep x b1) (sym at)) h)).0

pub sep_right : (k : ℕ) (f a1 b1 b : Formula) → f ≡ view.Sep a1 b1 → b ≡ b1 → IsHanded k f → IsHanded k b
sep_right k f a1 b1 b is at h =
    let s = moved k f (view.Sep a1 b) (is ∙ ap (λ x. view.Sep a1 x) (sym at)) h in
    record { scoped = (scoped_in_sep k a1 b s.scoped).1; within = omega (arith, s.within, depth_sep a1 b) }

pub sep_right_persists : (f a1 b1 b : Formula) → f ≡ view.Sep a1 b1 → b ≡ b1 → IsPersistent f → IsPersistent b
sep_right_persists f a1 b1 b is at h = (persistent_sep a1 b (kept f (view.Sep a1 b) (is ∙ ap (λ x. view.Sep a1 x) (sym at)) h)).1

pub and_left : (k : ℕ) (f a1 b1 a : Formula) → f ≡ view.And a1 b1 → a ≡ a1 → IsHanded k f → IsHanded k a
and_left k f a1 b1 a is at h =
    let s = moved k f (view.And a b1) (is ∙ ap (λ x. view.And x b1) (sym at)) h in
    record { scoped = (scoped_in_and k a b1 s.scoped).0; within = omega (arith, s.within, depth_and a b1) }

pub and_left_persists : (f a1 b1 a : Formula) → f ≡ view.And a1 b1 → a ≡ a1 → IsPersistent f → IsPersistent a
and_left_persists f a1 b1 a is at h = (persistent_and a b1 (kept f (view.And a b1) (is ∙ ap (λ x. view.And x b1) (sym at)) h)).0

pub and_right : (k : ℕ) (f a1 b1 b : Formula) → f ≡ view.And a1 b1 → b ≡ b1 → IsHanded k f → IsHanded k b
and_right k f a1 b1 b is at h =
    let s = moved k f (view.And a1 b) (is ∙ ap (λ x. view.And a1 x) (sym at)) h in
    record { scoped = (scoped_in_and k a1 b s.scoped).1; within = omega (arith, s.within, depth_and a1 b) }

pub and_right_persists : (f a1 b1 b : Formula) → f ≡ view.And a1 b1 → b ≡ b1 → IsPersistent f → IsPersistent b
and_right_persists f a1 b1 b is at h = (persistent_and a1 b (kept f (view.And a1 b) (is ∙ ap (λ x. view.And a1 x) (sym at)) h)).1

pub or_left : (k : ℕ) (f a1 b1 a : Formula) → f ≡ view.Or a1 b1 → a ≡ a1 → IsHanded k f → IsHanded k a
or_left k f a1 b1 a is at h =
    let s = moved k f (view.Or a b1) (is ∙ ap (λ x. view.Or x b1) (sym at)) h in
    record { scoped = (scoped_in_or k a b1 s.scoped).0; within = omega (arith, s.within, depth_or a b1) }

pub or_left_persists : (f a1 b1 a : Formula) → f ≡ view.Or a1 b1 → a ≡ a1 → IsPersistent f → IsPersistent a
or_left_persists f a1 b1 a is at h = (persistent_or a b1 (kept f (view.Or a b1) (is ∙ ap (λ x. view.Or x b1) (sym at)) h)).0

pub or_right : (k : ℕ) (f a1 b1 b : Formula) → f ≡ view.Or a1 b1 → b ≡ b1 → IsHanded k f → IsHanded k b
or_right k f a1 b1 b is at h =
    let s = moved k f (view.Or a1 b) (is ∙ ap (λ x. view.Or a1 x) (sym at)) h in
    record { scoped = (scoped_in_or k a1 b s.scoped).1; within = omega (arith, s.within, depth_or a1 b) }

pub or_right_persists : (f a1 b1 b : Formula) → f ≡ view.Or a1 b1 → b ≡ b1 → IsPersistent f → IsPersistent b
or_right_persists f a1 b1 b is at h = (persistent_or a1 b (kept f (view.Or a1 b) (is ∙ ap (λ x. view.Or a1 x) (sym at)) h)).1

pub all_body : (k : ℕ) (f a1 a : Formula) → f ≡ view.All a1 → a ≡ a1 → IsHanded k f → IsHanded (k + 1) a
all_body k f a1 a is at h =
    let s = moved k f (view.All a) (is ∙ ap view.All (sym at)) h in
    record { scoped = scoped_in_quantified k (view.All a) a (inl refl) s.scoped; within = omega (arith, s.within, depth_all a) }

pub all_body_persists : (f a1 a : Formula) → f ≡ view.All a1 → a ≡ a1 → IsPersistent f → IsPersistent a
all_body_persists f a1 a is at h = persistent_part_of_persistent (view.All a) a (inl refl) (kept f (view.All a) (is ∙ ap view.All (sym at)) h)

pub ex_body : (k : ℕ) (f a1 a : Formula) → f ≡ view.Ex a1 → a ≡ a1 → IsHanded k f → IsHanded (k + 1) a
ex_body k f a1 a is at h =
    let s = moved k f (view.Ex a) (is ∙ ap view.Ex (sym at)) h in
    record { scoped = scoped_in_quantified k (view.Ex a) a (inr refl) s.scoped; within = omega (arith, s.within, depth_ex a) }

pub ex_body_persists : (f a1 a : Formula) → f ≡ view.Ex a1 → a ≡ a1 → IsPersistent f → IsPersistent a
ex_body_persists f a1 a is at h = persistent_part_of_persistent (view.Ex a) a (inr (inl refl)) (kept f (view.Ex a) (is ∙ ap view.Ex (sym at)) h)

pub later_part : (k : ℕ) (f a1 a : Formula) → f ≡ view.Later a1 → a ≡ a1 → IsHanded k f → IsHanded k a
later_part k f a1 a is at h =
    let s = moved k f (view.Later a) (is ∙ ap view.Later (sym at)) h in
    record { scoped = scoped_in_modal k (view.Later a) a (inl refl) s.scoped; within = omega (arith, s.within, depth_later a) }

pub later_part_persists : (f a1 a : Formula) → f ≡ view.Later a1 → a ≡ a1 → IsPersistent f → IsPersistent a
later_part_persists f a1 a is at h = persistent_part_of_persistent (view.Later a) a (inr (inr refl)) (kept f (view.Later a) (is ∙ ap view.Later (sym at)) h)

pub pers_part : (k : ℕ) (f a1 a : Formula) → f ≡ view.Pers a1 → a ≡ a1 → IsHanded k f → IsHanded k a
pers_part k f a1 a is at h =
    let s = moved k f (view.Pers a) (is ∙ ap view.Pers (sym at)) h in
    record { scoped = scoped_in_modal k (view.Pers a) a (inr (inl refl)) s.scoped; within = omega (arith, s.within, depth_pers a) }
