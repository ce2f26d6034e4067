-- Changed trees at the variants as code makes them.
use Rattle.std.proofs.Common.{◌≡◌, ◌⊎◌, inl, inr, ℕ, suc, ◌+◌, ◌<◌, ◌≤◌, min, List, [], ◌∷◌, length, get_or, map, Some, None, slice_get, refl, ap, sym, ◌∙◌, subst, arith}
use Rattle.std.proofs.lemmas.List.{take_all}
use Rattle.pm_logic.specs.declared.formula.Term.{Term}
use Rattle.pm_logic.specs.declared.formula.Pure.{Pure, the_lemmas as pure_lemmas}
use Rattle.pm_logic.specs.declared.formula.Pure.TheVariants.{True, False, Eq, Le, Lt}
use Rattle.pm_logic.specs.declared.formula.Pure.TheViews as pure
use Rattle.pm_logic.specs.declared.formula.Pure.TheBlock as pure_block
use denote.Hole.Carrier as carrier
use Rattle.pm_logic.specs.declared.formula.Formula.{Formula, the_lemmas}
use Rattle.pm_logic.specs.declared.formula.Formula.TheVariants.{Pure as Fact, Pts, Call}
use Rattle.pm_logic.specs.declared.formula.Formula.TheViews as view
use Rattle.pm_logic.specs.declared.formula.Formula.TheBlock as block
use Rattle.pm_logic.specs.declared.formula.TheConstants.{BOUND}
use Rattle.pm_logic.specs.declared.filling.Fill.{Fill}
use Rattle.pm_logic.specs.declared.filling.Fill.TheVariants.{Itself}
use Rattle.pm_logic.specs.declared.change.Change.{Change}
use Rattle.pm_logic.specs.declared.change.Change.TheVariants.{Replace, Abstract}
use Rattle.pm_logic.specs.Abstraction.{abstracted}
use Rattle.pm_logic.specs.Bounds.{IsBounded}
use Rattle.pm_logic.specs.Changes.{changed_pure, changed}
use Rattle.pm_logic.specs.Nodes.{paired, single, compared, joined}
use Rattle.pm_logic.specs.Scope.{PureScoped, ScopedIn}
use Rattle.pm_logic.specs.Substitution.{raised_by}
use Rattle.pm_logic.specs.Walks.{filled, replaced, change_of, TermFits, TermsFit, PureFits, FormulaFits}
use Rattle.pm_logic.proofs.Changed.{changed_same, replaced_itself}
use Rattle.pm_logic.proofs.Connectives.{pair_has_two, quantified_has_one, modal_has_one, is_comparison, is_joined}
use Rattle.pm_logic.proofs.Grows.{term_grows, terms_grow, pure_grows}
use Rattle.pm_logic.proofs.Scopes.{terms_scoped_at}
use Rattle.pm_logic.proofs.Sizes.{depth_quantified, depth_modal, depth_pure, left_within, right_within}

pub changed_comparison : (c : Term → Term) (p : Pure) (s t : Term) → (p ≡ Eq s t) ⊎ ((p ≡ Le s t) ⊎ (p ≡ Lt s t)) → changed_pure c p ≡ compared p (c s) (c t)
unfolding changed_pure compared
changed_comparison c p s t (inl e) = let P : Pure → Type 0 = λ x. changed_pure c x ≡ compared x (c s) (c t) in subst P (sym e) refl
changed_comparison c p s t (inr (inl e)) = let P : Pure → Type 0 = λ x. changed_pure c x ≡ compared x (c s) (c t) in subst P (sym e) refl
changed_comparison c p s t (inr (inr e)) = let P : Pure → Type 0 = λ x. changed_pure c x ≡ compared x (c s) (c t) in subst P (sym e) refl

pub changed_joined : (c : Term → Term) (p : Pure) (a b : Pure) → (p ≡ pure.And a b) ⊎ (p ≡ pure.Or a b) → changed_pure c p ≡ joined p (changed_pure c a) (changed_pure c b)
unfolding pure_block.shape-the_row-Pure-0 pure_block.hidden-the_row-Pure-0 carrier.hidden changed_pure joined
changed_joined c p a b (inl e) = let P : Pure → Type 0 = λ x. changed_pure c x ≡ joined x (changed_pure c a) (changed_pure c b) in subst P (sym e) refl
changed_joined c p a b (inr e) = let P : Pure → Type 0 = λ x. changed_pure c x ≡ joined x (changed_pure c a) (changed_pure c b) in subst P (sym e) refl

pub changed_true : (c : Term → Term) → changed_pure c True ≡ True
unfolding changed_pure
changed_true c = refl

pub changed_false : (c : Term → Term) → changed_pure c False ≡ False
unfolding changed_pure
changed_false c = refl

pub changed_not : (c : Term → Term) (a : Pure) → changed_pure c (pure.Not a) ≡ pure.Not (changed_pure c a)
unfolding pure_block.shape-the_row-Pure-0 pure_block.hidden-the_row-Pure-0 carrier.hidden changed_pure
changed_not c a = refl

fits_eq_at : (c : Change) (d : ℕ) (s t : Term) → PureFits c d (Eq s t) → TermFits c d s × TermFits c d t
unfolding PureFits PureScoped TermFits
fits_eq_at c d s t (inl e) = (inl e, inl e)
fits_eq_at c d s t (inr h) = (inr (h.0, h.1.0), inr (h.0, h.1.1))

fits_le_at : (c : Change) (d : ℕ) (s t : Term) → PureFits c d (Le s t) → TermFits c d s × TermFits c d t
unfolding PureFits PureScoped TermFits
fits_le_at c d s t (inl e) = (inl e, inl e)
fits_le_at c d s t (inr h) = (inr (h.0, h.1.0), inr (h.0, h.1.1))

fits_lt_at : (c : Change) (d : ℕ) (s t : Term) → PureFits c d (Lt s t) → TermFits c d s × TermFits c d t
unfolding PureFits PureScoped TermFits
fits_lt_at c d s t (inl e) = (inl e, inl e)
fits_lt_at c d s t (inr h) = (inr (h.0, h.1.0), inr (h.0, h.1.1))

fits_both_at : (c : Change) (d : ℕ) (a b : Pure) → PureFits c d (pure.And a b) → PureFits c d a × PureFits c d b
unfolding pure_block.shape-the_row-Pure-0 pure_block.hidden-the_row-Pure-0 carrier.hidden PureFits PureScoped
fits_both_at c d a b (inl e) = (inl e, inl e)
fits_both_at c d a b (inr h) = (inr (h.0, h.1.0), inr (h.0, h.1.1))

fits_either_at : (c : Change) (d : ℕ) (a b : Pure) → PureFits c d (pure.Or a b) → PureFits c d a × PureFits c d b
unfolding pure_block.shape-the_row-Pure-0 pure_block.hidden-the_row-Pure-0 carrier.hidden PureFits PureScoped
fits_either_at c d a b (inl e) = (inl e, inl e)
fits_either_at c d a b (inr h) = (inr (h.0, h.1.0), inr (h.0, h.1.1))

pub fits_comparison : (c : Change) (d : ℕ) (p : Pure) (s t : Term) → (p ≡ Eq s t) ⊎ ((p ≡ Le s t) ⊎ (p ≡ Lt s t)) → PureFits c d p → TermFits c d s × TermFits c d t
fits_comparison c d p s t (inl e) h = let P : Pure → Type 0 = λ x. PureFits c d x in fits_eq_at c d s t (subst P e h)
fits_comparison c d p s t (inr (inl e)) h = let P : Pure → Type 0 = λ x. PureFits c d x in fits_le_at c d s t (subst P e h)
fits_comparison c d p s t (inr (inr e)) h = let P : Pure → Type 0 = λ x. PureFits c d x in fits_lt_at c d s t (subst P e h)

pub fits_joined : (c : Change) (d : ℕ) (p : Pure) (a b : Pure) → (p ≡ pure.And a b) ⊎ (p ≡ pure.Or a b) → PureFits c d p → PureFits c d a × PureFits c d b
fits_joined c d p a b (inl e) h = let P : Pure → Type 0 = λ x. PureFits c d x in fits_both_at c d a b (subst P e h)
fits_joined c d p a b (inr e) h = let P : Pure → Type 0 = λ x. PureFits c d x in fits_either_at c d a b (subst P e h)

pub fits_not : (c : Change) (d : ℕ) (a : Pure) → PureFits c d (pure.Not a) → PureFits c d a
unfolding pure_block.shape-the_row-Pure-0 pure_block.hidden-the_row-Pure-0 carrier.hidden PureFits PureScoped
fits_not c d a h = h

pub change_replace : (fill : Fill) (ts : List Term) (d : ℕ) (t : Term) → change_of (Replace fill) ts d t ≡ replaced (filled fill ts) d t
unfolding change_of
change_replace fill ts d t = refl

pub change_abstract : (ts : List Term) (s : Term) (d : ℕ) (t : Term) → Some s ≡ slice_get ts 0 → change_of Abstract ts d t ≡ abstracted d (raised_by d s) t
unfolding change_of
change_abstract [] s d t e = cc e
change_abstract (x ∷ ts) s d t e = let same : x ≡ s = cc e in ap (λ y. abstracted d (raised_by d y) t) same

pub change_nothing : (ts : List Term) (d : ℕ) (t : Term) → None ≡ slice_get ts 0 → change_of Abstract ts d t ≡ replaced (filled Itself ts) d t
unfolding change_of filled
change_nothing [] d t e = refl
change_nothing (x ∷ ts) d t e = cc e

pub fits_itself : (d : ℕ) (t : Term) → TermFits (Replace Itself) d t
unfolding TermFits
fits_itself d t = inl refl

pub fits_at : (c : Change) (d : ℕ) (ts : List Term) (i : ℕ) (t : Term) → i < length ts → TermsFit c d ts → TermFits c d (get_or ts i t)
unfolding TermsFit TermFits
fits_at c d ts i t lt (inl e) = inl e
fits_at c d ts i t lt (inr h) = inr (h.0, terms_scoped_at BOUND ts i t lt h.1)

pub changed_pair : (c : ℕ → Term → Term) (d : ℕ) (f a b : Formula) → (f ≡ view.Sep a b) ⊎ ((f ≡ view.Wand a b) ⊎ ((f ≡ view.And a b) ⊎ ((f ≡ view.Or a b) ⊎ (f ≡ view.Imp a b)))) → changed c d f ≡ paired f (changed c d a) (changed c d b)
unfolding block.shape-the_row-Formula-0 block.hidden-the_row-Formula-0 carrier.hidden changed paired
changed_pair c d f a b (inl e) = let P : Formula → Type 0 = λ x. changed c d x ≡ paired x (changed c d a) (changed c d b) in subst P (sym e) refl
changed_pair c d f a b (inr (inl e)) = let P : Formula → Type 0 = λ x. changed c d x ≡ paired x (changed c d a) (changed c d b) in subst P (sym e) refl
changed_pair c d f a b (inr (inr (inl e))) = let P : Formula → Type 0 = λ x. changed c d x ≡ paired x (changed c d a) (changed c d b) in subst P (sym e) refl
changed_pair c d f a b (inr (inr (inr (inl e)))) = let P : Formula → Type 0 = λ x. changed c d x ≡ paired x (changed c d a) (changed c d b) in subst P (sym e) refl
changed_pair c d f a b (inr (inr (inr (inr e)))) = let P : Formula → Type 0 = λ x. changed c d x ≡ paired x (changed c d a) (changed c d b) in subst P (sym e) refl

pub changed_under : (c : ℕ → Term → Term) (d : ℕ) (f a : Formula) → (f ≡ view.All a) ⊎ (f ≡ view.Ex a) → changed c d f ≡ single f (changed c (suc d) a)
unfolding block.shape-the_row-Formula-0 block.hidden-the_row-Formula-0 carrier.hidden changed single
changed_under c d f a (inl e) = let P : Formula → Type 0 = λ x. changed c d x ≡ single x (changed c (suc d) a) in subst P (sym e) refl
changed_under c d f a (inr e) = let P : Formula → Type 0 = λ x. changed c d x ≡ single x (changed c (suc d) a) in subst P (sym e) refl

pub changed_modal : (c : ℕ → Term → Term) (d : ℕ) (f a : Formula) → (f ≡ view.Later a) ⊎ ((f ≡ view.Pers a) ⊎ (f ≡ view.Upd a)) → changed c d f ≡ single f (changed c d a)
unfolding block.shape-the_row-Formula-0 block.hidden-the_row-Formula-0 carrier.hidden changed single
changed_modal c d f a (inl e) = let P : Formula → Type 0 = λ x. changed c d x ≡ single x (changed c d a) in subst P (sym e) refl
changed_modal c d f a (inr (inl e)) = let P : Formula → Type 0 = λ x. changed c d x ≡ single x (changed c d a) in subst P (sym e) refl
changed_modal c d f a (inr (inr e)) = let P : Formula → Type 0 = λ x. changed c d x ≡ single x (changed c d a) in subst P (sym e) refl

pub changed_fact : (c : ℕ → Term → Term) (d : ℕ) (a : Pure) → changed c d (Fact a) ≡ Fact (changed_pure (c d) a)
unfolding changed
changed_fact c d a = refl

pub changed_pts : (c : ℕ → Term → Term) (d : ℕ) (l : Term) (u : ℕ) (v : Term) → changed c d (Pts l u v) ≡ Pts (c d l) u (c d v)
unfolding changed
changed_pts c d l u v = refl

pub changed_call : (c : ℕ → Term → Term) (d q : ℕ) (args : List Term) → changed c d (Call q args) ≡ Call q (map (c d) args)
unfolding changed
changed_call c d q args = refl

bounded_left : (f a b : Formula) → (f ≡ view.Sep a b) ⊎ ((f ≡ view.Wand a b) ⊎ ((f ≡ view.And a b) ⊎ ((f ≡ view.Or a b) ⊎ (f ≡ view.Imp a b)))) → IsBounded f → IsBounded a
unfolding block.shape-the_row-Formula-0 block.hidden-the_row-Formula-0 carrier.hidden ScopedIn
bounded_left f a b (inl e) h = let P : Formula → Type 0 = λ x. ScopedIn h.vars x in record { vars = h.vars; scoped = (subst P e h.scoped).0; within = left_within h.vars BOUND f a b (inl e) h.within }
bounded_left f a b (inr (inl e)) h = let P : Formula → Type 0 = λ x. ScopedIn h.vars x in record { vars = h.vars; scoped = (subst P e h.scoped).0; within = left_within h.vars BOUND f a b (inr (inl e)) h.within }
bounded_left f a b (inr (inr (inl e))) h = let P : Formula → Type 0 = λ x. ScopedIn h.vars x in record { vars = h.vars; scoped = (subst P e h.scoped).0; within = left_within h.vars BOUND f a b (inr (inr (inl e))) h.within }
bounded_left f a b (inr (inr (inr (inl e)))) h = let P : Formula → Type 0 = λ x. ScopedIn h.vars x in record { vars = h.vars; scoped = (subst P e h.scoped).0; within = left_within h.vars BOUND f a b (inr (inr (inr (inl e)))) h.within }
bounded_left f a b (inr (inr (inr (inr e)))) h = let P : Formula → Type 0 = λ x. ScopedIn h.vars x in record { vars = h.vars; scoped = (subst P e h.scoped).0; within = left_within h.vars BOUND f a b (inr (inr (inr (inr e)))) h.within }

pub fits_left : (c : Change) (d : ℕ) (f a b : Formula) → (f ≡ view.Sep a b) ⊎ ((f ≡ view.Wand a b) ⊎ ((f ≡ view.And a b) ⊎ ((f ≡ view.Or a b) ⊎ (f ≡ view.Imp a b)))) → FormulaFits c d f → FormulaFits c d a
unfolding FormulaFits
fits_left c d f a b is (inl e) = inl e
fits_left c d f a b is (inr h) = inr (left_within d BOUND f a b is h.0, bounded_left f a b is h.1)

bounded_right : (f a b : Formula) → (f ≡ view.Sep a b) ⊎ ((f ≡ view.Wand a b) ⊎ ((f ≡ view.And a b) ⊎ ((f ≡ view.Or a b) ⊎ (f ≡ view.Imp a b)))) → IsBounded f → IsBounded b
unfolding block.shape-the_row-Formula-0 block.hidden-the_row-Formula-0 carrier.hidden ScopedIn
bounded_right f a b (inl e) h = let P : Formula → Type 0 = λ x. ScopedIn h.vars x in record { vars = h.vars; scoped = (subst P e h.scoped).1; within = right_within h.vars BOUND f a b (inl e) h.within }
bounded_right f a b (inr (inl e)) h = let P : Formula → Type 0 = λ x. ScopedIn h.vars x in record { vars = h.vars; scoped = (subst P e h.scoped).1; within = right_within h.vars BOUND f a b (inr (inl e)) h.within }
bounded_right f a b (inr (inr (inl e))) h = let P : Formula → Type 0 = λ x. ScopedIn h.vars x in record { vars = h.vars; scoped = (subst P e h.scoped).1; within = right_within h.vars BOUND f a b (inr (inr (inl e))) h.within }
bounded_right f a b (inr (inr (inr (inl e)))) h = let P : Formula → Type 0 = λ x. ScopedIn h.vars x in record { vars = h.vars; scoped = (subst P e h.scoped).1; within = right_within h.vars BOUND f a b (inr (inr (inr (inl e)))) h.within }
bounded_right f a b (inr (inr (inr (inr e)))) h = let P : Formula → Type 0 = λ x. ScopedIn h.vars x in record { vars = h.vars; scoped = (subst P e h.scoped).1; within = right_within h.vars BOUND f a b (inr (inr (inr (inr e)))) h.within }

pub fits_right : (c : Change) (d : ℕ) (f a b : Formula) → (f ≡ view.Sep a b) ⊎ ((f ≡ view.Wand a b) ⊎ ((f ≡ view.And a b) ⊎ ((f ≡ view.Or a b) ⊎ (f ≡ view.Imp a b)))) → FormulaFits c d f → FormulaFits c d b
unfolding FormulaFits
fits_right c d f a b is (inl e) = inl e
fits_right c d f a b is (inr h) = inr (right_within d BOUND f a b is h.0, bounded_right f a b is h.1)

bounded_quantified : (f a : Formula) → (f ≡ view.All a) ⊎ (f ≡ view.Ex a) → IsBounded f → IsBounded a
unfolding block.shape-the_row-Formula-0 block.hidden-the_row-Formula-0 carrier.hidden ScopedIn
bounded_quantified f a (inl e) h = let P : Formula → Type 0 = λ x. ScopedIn h.vars x in let size = depth_quantified f a (inl e) in let le = h.within in record { vars = suc h.vars; scoped = subst P e h.scoped; within = omega (arith, size, le) }
bounded_quantified f a (inr e) h = let P : Formula → Type 0 = λ x. ScopedIn h.vars x in let size = depth_quantified f a (inr e) in let le = h.within in record { vars = suc h.vars; scoped = subst P e h.scoped; within = omega (arith, size, le) }

bounded_modal : (f a : Formula) → (f ≡ view.Later a) ⊎ ((f ≡ view.Pers a) ⊎ (f ≡ view.Upd a)) → IsBounded f → IsBounded a
unfolding block.shape-the_row-Formula-0 block.hidden-the_row-Formula-0 carrier.hidden ScopedIn
bounded_modal f a (inl e) h = let P : Formula → Type 0 = λ x. ScopedIn h.vars x in let size = depth_modal f a (inl e) in let le = h.within in record { vars = h.vars; scoped = subst P e h.scoped; within = omega (arith, size, le) }
bounded_modal f a (inr (inl e)) h = let P : Formula → Type 0 = λ x. ScopedIn h.vars x in let size = depth_modal f a (inr (inl e)) in let le = h.within in record { vars = h.vars; scoped = subst P e h.scoped; within = omega (arith, size, le) }
bounded_modal f a (inr (inr e)) h = let P : Formula → Type 0 = λ x. ScopedIn h.vars x in let size = depth_modal f a (inr (inr e)) in let le = h.within in record { vars = h.vars; scoped = subst P e h.scoped; within = omega (arith, size, le) }

pub fits_modal : (c : Change) (d : ℕ) (f a : Formula) → (f ≡ view.Later a) ⊎ ((f ≡ view.Pers a) ⊎ (f ≡ view.Upd a)) → FormulaFits c d f → FormulaFits c d a
unfolding FormulaFits
fits_modal c d f a is (inl e) = inl e
fits_modal c d f a is (inr h) = let size = depth_modal f a is in let le = h.0 in inr (omega (arith, size, le), bounded_modal f a is h.1)

-- one binder more: where the number stops at the end of its type, nothing depends on it
pub fits_quantified : (c : Change) (d e : ℕ) (f a : Formula) → (f ≡ view.All a) ⊎ (f ≡ view.Ex a) → e ≡ min (d + 1) 4294967295 → FormulaFits c d f → FormulaFits c e a
unfolding FormulaFits
fits_quantified c d e f a is more (inl k) = inl k
fits_quantified c d e f a is more (inr h) = let size = depth_quantified f a is in let le = h.0 in inr (omega (arith, size, le, more), bounded_quantified f a is h.1)

pub changed_itself : (ts : List Term) (d : ℕ) (f : Formula) → changed (change_of (Replace Itself) ts) d f ≡ f
unfolding change_of filled
changed_itself ts d f = changed_same (change_of (Replace Itself) ts) replaced_itself d f

pub changed_quantified : (c : Change) (ts : List Term) (d e : ℕ) (f a : Formula) → (f ≡ view.All a) ⊎ (f ≡ view.Ex a) → e ≡ min (d + 1) 4294967295 → FormulaFits c d f → changed (change_of c ts) d f ≡ single f (changed (change_of c ts) e a)
unfolding FormulaFits
changed_quantified c ts d e f a is more (inl k) =
    changed_under (change_of c ts) d f a is
    ∙ ap (λ y. single f (changed (change_of y ts) (suc d) a)) k
    ∙ ap (single f) (changed_itself ts (suc d) a ∙ sym (changed_itself ts e a))
    ∙ ap (λ y. single f (changed (change_of y ts) e a)) (sym k)
changed_quantified c ts d e f a is more (inr h) =
    let size = depth_quantified f a is in
    let le = h.0 in
    let same : suc d ≡ e = omega (arith, size, le, more) in
    changed_under (change_of c ts) d f a is ∙ ap (λ n. single f (changed (change_of c ts) n a)) same

pub fits_fact : (c : Change) (d : ℕ) (p : Pure) → FormulaFits c d (Fact p) → PureFits c d p
unfolding FormulaFits PureFits ScopedIn
fits_fact c d p (inl e) = inl e
fits_fact c d p (inr h) = let le = h.1.within in let size = depth_pure p in let here = h.0 in inr (omega (arith, here), pure_grows h.1.vars BOUND p (omega (arith, le, size)) h.1.scoped)

pub fits_pts : (c : Change) (d : ℕ) (l : Term) (u : ℕ) (v : Term) → FormulaFits c d (Pts l u v) → TermFits c d l × TermFits c d v
unfolding FormulaFits TermFits ScopedIn
fits_pts c d l u v (inl e) = (inl e, inl e)
fits_pts c d l u v (inr h) =
    let le = h.1.within in
    let here = h.0 in
    let low : d ≤ BOUND = omega (arith, here) in
    let most : h.1.vars ≤ BOUND = omega (arith, le) in
    (inr (low, term_grows h.1.vars BOUND l most h.1.scoped.0), inr (low, term_grows h.1.vars BOUND v most h.1.scoped.1))

pub fits_call : (c : Change) (d q : ℕ) (args : List Term) → FormulaFits c d (Call q args) → TermsFit c d args
unfolding FormulaFits TermsFit ScopedIn
fits_call c d q args (inl e) = inl e
fits_call c d q args (inr h) = let le = h.1.within in let here = h.0 in inr (omega (arith, here), terms_grow h.1.vars BOUND args (omega (arith, le)) h.1.scoped)

pub ruleset term_changes = (change_replace, change_abstract, change_nothing, fits_itself)

pub ruleset list_changes = (arith, take_all, fits_at)

pub ruleset pure_changes = (pure_lemmas, is_comparison, is_joined, changed_comparison, changed_joined, changed_true, changed_false, changed_not, fits_comparison, fits_joined, fits_not)

pub ruleset changes = (the_lemmas, pair_has_two, quantified_has_one, modal_has_one, changed_pair, changed_modal, changed_fact, changed_pts, changed_call, fits_left, fits_right, fits_modal, fits_quantified, changed_quantified, fits_fact, fits_pts, fits_call)
