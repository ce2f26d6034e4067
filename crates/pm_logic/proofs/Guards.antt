-- Calls below a predicate at the variants as code makes them.
use Rattle.std.proofs.Common.{◌≡◌, ◌⊎◌, inl, inr, ℕ, zero, suc, ◌<◌, List, [], ◌∷◌, length, slice_get, Some, None, ap, sym, subst, arith}
use Rattle.pm_logic.specs.declared.formula.Term.{Term}
use Rattle.pm_logic.specs.declared.formula.Pure.{Pure}
use Rattle.pm_logic.specs.declared.formula.Formula.{Formula, the_lemmas}
use Rattle.pm_logic.specs.declared.formula.Formula.TheVariants.{Pure as Fact, Pts, Call}
use Rattle.pm_logic.specs.declared.formula.Formula.TheViews as view
use Rattle.pm_logic.specs.declared.formula.Formula.TheBlock as block
use denote.Hole.Carrier as carrier
use Rattle.pm_logic.specs.declared.formula.Pred.{Pred}
use Rattle.pm_logic.specs.Scope.{body_of}
use Rattle.pm_logic.specs.Guard.{CallsBelow}

pub body_some : (preds : List Pred) (p : ℕ) (q : Pred) → Some q ≡ slice_get preds p → body_of preds p ≡ q.body
body_some [] p q e = cc e
body_some (x ∷ preds) zero q e = let same : q ≡ x = cc e in ap (λ (y : Pred). y.body) (sym same)
body_some (x ∷ preds) (suc p) q e = body_some preds p q e

pub body_none : (preds : List Pred) (p : ℕ) → None ≡ slice_get preds p → p < length preds → ⊥
body_none [] p e lt = omega arith
body_none (x ∷ preds) zero e lt = cc e
body_none (x ∷ preds) (suc p) e lt = body_none preds p e (omega arith)

pub below_sep : (p : ℕ) (a b : Formula) → CallsBelow p (view.Sep a b) → CallsBelow p a × CallsBelow p b
unfolding block.shape-the_row-Formula-0 block.hidden-the_row-Formula-0 carrier.hidden CallsBelow
below_sep p a b h = h

pub sep_below : (p : ℕ) (a b : Formula) → CallsBelow p a → CallsBelow p b → CallsBelow p (view.Sep a b)
unfolding block.shape-the_row-Formula-0 block.hidden-the_row-Formula-0 carrier.hidden CallsBelow
sep_below p a b h g = (h, g)

pub below_wand : (p : ℕ) (a b : Formula) → CallsBelow p (view.Wand a b) → CallsBelow p a × CallsBelow p b
unfolding block.shape-the_row-Formula-0 block.hidden-the_row-Formula-0 carrier.hidden CallsBelow
below_wand p a b h = h

pub wand_below : (p : ℕ) (a b : Formula) → CallsBelow p a → CallsBelow p b → CallsBelow p (view.Wand a b)
unfolding block.shape-the_row-Formula-0 block.hidden-the_row-Formula-0 carrier.hidden CallsBelow
wand_below p a b h g = (h, g)

pub below_and : (p : ℕ) (a b : Formula) → CallsBelow p (view.And a b) → CallsBelow p a × CallsBelow p b
unfolding block.shape-the_row-Formula-0 block.hidden-the_row-Formula-0 carrier.hidden CallsBelow
below_and p a b h = h

pub and_below : (p : ℕ) (a b : Formula) → CallsBelow p a → CallsBelow p b → CallsBelow p (view.And a b)
unfolding block.shape-the_row-Formula-0 block.hidden-the_row-Formula-0 carrier.hidden CallsBelow
and_below p a b h g = (h, g)

pub below_or : (p : ℕ) (a b : Formula) → CallsBelow p (view.Or a b) → CallsBelow p a × CallsBelow p b
unfolding block.shape-the_row-Formula-0 block.hidden-the_row-Formula-0 carrier.hidden CallsBelow
below_or p a b h = h

pub or_below : (p : ℕ) (a b : Formula) → CallsBelow p a → CallsBelow p b → CallsBelow p (view.Or a b)
unfolding block.shape-the_row-Formula-0 block.hidden-the_row-Formula-0 carrier.hidden CallsBelow
or_below p a b h g = (h, g)

pub below_imp : (p : ℕ) (a b : Formula) → CallsBelow p (view.Imp a b) → CallsBelow p a × CallsBelow p b
unfolding block.shape-the_row-Formula-0 block.hidden-the_row-Formula-0 carrier.hidden CallsBelow
below_imp p a b h = h

pub imp_below : (p : ℕ) (a b : Formula) → CallsBelow p a → CallsBelow p b → CallsBelow p (view.Imp a b)
unfolding block.shape-the_row-Formula-0 block.hidden-the_row-Formula-0 carrier.hidden CallsBelow
imp_below p a b h g = (h, g)

pub below_quantified : (p : ℕ) (f a : Formula) → (f ≡ view.All a) ⊎ (f ≡ view.Ex a) → CallsBelow p f → CallsBelow p a
unfolding block.shape-the_row-Formula-0 block.hidden-the_row-Formula-0 carrier.hidden CallsBelow
below_quantified p f a (inl e) h = let P : Formula → Type 0 = λ x. CallsBelow p x in subst P e h
below_quantified p f a (inr e) h = let P : Formula → Type 0 = λ x. CallsBelow p x in subst P e h

pub quantified_below : (p : ℕ) (f a : Formula) → (f ≡ view.All a) ⊎ (f ≡ view.Ex a) → CallsBelow p a → CallsBelow p f
unfolding block.shape-the_row-Formula-0 block.hidden-the_row-Formula-0 carrier.hidden CallsBelow
quantified_below p f a (inl e) h = let P : Formula → Type 0 = λ x. CallsBelow p x in subst P (sym e) h
quantified_below p f a (inr e) h = let P : Formula → Type 0 = λ x. CallsBelow p x in subst P (sym e) h

pub below_modal : (p : ℕ) (f a : Formula) → (f ≡ view.Pers a) ⊎ (f ≡ view.Upd a) → CallsBelow p f → CallsBelow p a
unfolding block.shape-the_row-Formula-0 block.hidden-the_row-Formula-0 carrier.hidden CallsBelow
below_modal p f a (inl e) h = let P : Formula → Type 0 = λ x. CallsBelow p x in subst P e h
below_modal p f a (inr e) h = let P : Formula → Type 0 = λ x. CallsBelow p x in subst P e h

pub modal_below : (p : ℕ) (f a : Formula) → (f ≡ view.Pers a) ⊎ (f ≡ view.Upd a) → CallsBelow p a → CallsBelow p f
unfolding block.shape-the_row-Formula-0 block.hidden-the_row-Formula-0 carrier.hidden CallsBelow
modal_below p f a (inl e) h = let P : Formula → Type 0 = λ x. CallsBelow p x in subst P (sym e) h
modal_below p f a (inr e) h = let P : Formula → Type 0 = λ x. CallsBelow p x in subst P (sym e) h

pub later_below : (p : ℕ) (a : Formula) → CallsBelow p (view.Later a)
unfolding block.shape-the_row-Formula-0 block.hidden-the_row-Formula-0 carrier.hidden CallsBelow
later_below p a = tt

pub pure_below : (p : ℕ) (a : Pure) → CallsBelow p (Fact a)
unfolding CallsBelow
pure_below p a = tt

pub pts_below : (p : ℕ) (l : Term) (u : ℕ) (v : Term) → CallsBelow p (Pts l u v)
unfolding CallsBelow
pts_below p l u v = tt

pub call_below_to : (p : ℕ) (q : ℕ) (args : List Term) → CallsBelow p (Call q args) → q < p
unfolding CallsBelow
call_below_to p q args h = h

pub call_below_from : (p : ℕ) (q : ℕ) (args : List Term) → q < p → CallsBelow p (Call q args)
unfolding CallsBelow
call_below_from p q args h = h

pub ruleset guards = (the_lemmas, below_sep, sep_below, below_wand, wand_below, below_and, and_below, below_or, or_below, below_imp, imp_below, below_quantified, quantified_below, below_modal, modal_below, later_below, pure_below, pts_below, call_below_to, call_below_from)
