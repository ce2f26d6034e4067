-- Scope at the variants as code makes them.
use Rattle.std.proofs.Common.{◌≡◌, ◌⊎◌, inl, inr, ℕ, zero, suc, ℤ, ◌+◌, ◌<◌, ◌≤◌, List, [], ◌∷◌, length, take, get_or, sym, subst, add-one, arith}
use Rattle.pm_logic.specs.declared.formula.Term.{Term, the_lemmas as term_lemmas}
use Rattle.pm_logic.specs.declared.formula.Term.TheVariants.{Lit, Var}
use Rattle.pm_logic.specs.declared.formula.Term.TheViews as term
use Rattle.pm_logic.specs.declared.formula.Term.TheBlock as term_block
use denote.Hole.Carrier as carrier
use Rattle.pm_logic.specs.declared.formula.Pure.{Pure, the_lemmas as pure_lemmas}
use Rattle.pm_logic.specs.declared.formula.Pure.TheVariants.{True, False, Eq, Le, Lt}
use Rattle.pm_logic.specs.declared.formula.Pure.TheViews as pure
use Rattle.pm_logic.specs.declared.formula.Pure.TheBlock as pure_block
use Rattle.pm_logic.specs.declared.formula.Formula.{Formula, the_lemmas}
use Rattle.pm_logic.specs.declared.formula.Formula.TheVariants.{Pure as Fact, Pts, Call}
use Rattle.pm_logic.specs.declared.formula.Formula.TheViews as view
use Rattle.pm_logic.specs.declared.formula.Formula.TheBlock as block
use Rattle.std.proofs.lemmas.List.{take_all}
use Rattle.pm_logic.specs.declared.formula.Pred.{Pred}
use Rattle.pm_logic.specs.declared.formula.TheConstants.{UNIT}
use Rattle.pm_logic.specs.Scope.{TermScoped, TermsScoped, PureScoped, ScopedIn, CallFits, CallsFit}
use Rattle.pm_logic.proofs.Sizes.{formula_depths, left_within, right_within}

pub terms_scoped_none : (k : ℕ) → TermsScoped k []
unfolding TermsScoped
terms_scoped_none k = tt

pub terms_scoped_more : (k : ℕ) (ts : List Term) (i : ℕ) (d : Term) → i < length ts → TermsScoped k (take i ts) → TermScoped k (get_or ts i d) → TermsScoped k (take (i + 1) ts)
unfolding TermsScoped
terms_scoped_more k [] i d lt h g = absurd (omega arith)
terms_scoped_more k (t ∷ ts) zero d lt h g = (g, tt)
terms_scoped_more k (t ∷ ts) (suc i) d lt h g = rw add-one (h.0, rw add-one at (terms_scoped_more k ts i d (omega arith) h.1 g))

pub terms_scoped_at : (k : ℕ) (ts : List Term) (i : ℕ) (d : Term) → i < length ts → TermsScoped k ts → TermScoped k (get_or ts i d)
unfolding TermsScoped
terms_scoped_at k [] i d lt h = absurd (omega arith)
terms_scoped_at k (t ∷ ts) zero d lt h = h.0
terms_scoped_at k (t ∷ ts) (suc i) d lt h = terms_scoped_at k ts i d (omega arith) h.1

pub scoped_add : (k : ℕ) (a b : Term) → TermScoped k (term.Add a b) → TermScoped k a × TermScoped k b
unfolding term_block.shape-the_row-Term-0 term_block.hidden-the_row-Term-0 carrier.hidden TermScoped
scoped_add k a b h = h

pub add_scoped : (k : ℕ) (a b : Term) → TermScoped k a → TermScoped k b → TermScoped k (term.Add a b)
unfolding term_block.shape-the_row-Term-0 term_block.hidden-the_row-Term-0 carrier.hidden TermScoped
add_scoped k a b h g = (h, g)

pub scoped_sub : (k : ℕ) (a b : Term) → TermScoped k (term.Sub a b) → TermScoped k a × TermScoped k b
unfolding term_block.shape-the_row-Term-0 term_block.hidden-the_row-Term-0 carrier.hidden TermScoped
scoped_sub k a b h = h

pub sub_scoped : (k : ℕ) (a b : Term) → TermScoped k a → TermScoped k b → TermScoped k (term.Sub a b)
unfolding term_block.shape-the_row-Term-0 term_block.hidden-the_row-Term-0 carrier.hidden TermScoped
sub_scoped k a b h g = (h, g)

pub scoped_neg : (k : ℕ) (a : Term) → TermScoped k (term.Neg a) → TermScoped k a
unfolding term_block.shape-the_row-Term-0 term_block.hidden-the_row-Term-0 carrier.hidden TermScoped
scoped_neg k a h = h

pub neg_scoped : (k : ℕ) (a : Term) → TermScoped k a → TermScoped k (term.Neg a)
unfolding term_block.shape-the_row-Term-0 term_block.hidden-the_row-Term-0 carrier.hidden TermScoped
neg_scoped k a h = h

pub scoped_scale : (k : ℕ) (z : ℤ) (a : Term) → TermScoped k (term.Scale z a) → TermScoped k a
unfolding term_block.shape-the_row-Term-0 term_block.hidden-the_row-Term-0 carrier.hidden TermScoped
scoped_scale k z a h = h

pub scale_scoped : (k : ℕ) (z : ℤ) (a : Term) → TermScoped k a → TermScoped k (term.Scale z a)
unfolding term_block.shape-the_row-Term-0 term_block.hidden-the_row-Term-0 carrier.hidden TermScoped
scale_scoped k z a h = h

pub lit_scoped : (k : ℕ) (z : ℤ) → TermScoped k (Lit z)
unfolding TermScoped
lit_scoped k z = tt

pub var_scoped_to : (k : ℕ) (i : ℕ) → TermScoped k (Var i) → i < k
unfolding TermScoped
var_scoped_to k i h = h

pub var_scoped_from : (k : ℕ) (i : ℕ) → i < k → TermScoped k (Var i)
unfolding TermScoped
var_scoped_from k i h = h

pub scoped_eq : (k : ℕ) (s t : Term) → PureScoped k (Eq s t) → TermScoped k s × TermScoped k t
unfolding PureScoped
scoped_eq k s t h = h

pub eq_scoped : (k : ℕ) (s t : Term) → TermScoped k s → TermScoped k t → PureScoped k (Eq s t)
unfolding PureScoped
eq_scoped k s t h g = (h, g)

pub scoped_le : (k : ℕ) (s t : Term) → PureScoped k (Le s t) → TermScoped k s × TermScoped k t
unfolding PureScoped
scoped_le k s t h = h

pub le_scoped : (k : ℕ) (s t : Term) → TermScoped k s → TermScoped k t → PureScoped k (Le s t)
unfolding PureScoped
le_scoped k s t h g = (h, g)

pub scoped_lt : (k : ℕ) (s t : Term) → PureScoped k (Lt s t) → TermScoped k s × TermScoped k t
unfolding PureScoped
scoped_lt k s t h = h

pub lt_scoped : (k : ℕ) (s t : Term) → TermScoped k s → TermScoped k t → PureScoped k (Lt s t)
unfolding PureScoped
lt_scoped k s t h g = (h, g)

pub scoped_both : (k : ℕ) (a b : Pure) → PureScoped k (pure.And a b) → PureScoped k a × PureScoped k b
unfolding pure_block.shape-the_row-Pure-0 pure_block.hidden-the_row-Pure-0 carrier.hidden PureScoped
scoped_both k a b h = h

pub both_scoped : (k : ℕ) (a b : Pure) → PureScoped k a → PureScoped k b → PureScoped k (pure.And a b)
unfolding pure_block.shape-the_row-Pure-0 pure_block.hidden-the_row-Pure-0 carrier.hidden PureScoped
both_scoped k a b h g = (h, g)

pub scoped_either : (k : ℕ) (a b : Pure) → PureScoped k (pure.Or a b) → PureScoped k a × PureScoped k b
unfolding pure_block.shape-the_row-Pure-0 pure_block.hidden-the_row-Pure-0 carrier.hidden PureScoped
scoped_either k a b h = h

pub either_scoped : (k : ℕ) (a b : Pure) → PureScoped k a → PureScoped k b → PureScoped k (pure.Or a b)
unfolding pure_block.shape-the_row-Pure-0 pure_block.hidden-the_row-Pure-0 carrier.hidden PureScoped
either_scoped k a b h g = (h, g)

pub scoped_not : (k : ℕ) (a : Pure) → PureScoped k (pure.Not a) → PureScoped k a
unfolding pure_block.shape-the_row-Pure-0 pure_block.hidden-the_row-Pure-0 carrier.hidden PureScoped
scoped_not k a h = h

pub not_scoped : (k : ℕ) (a : Pure) → PureScoped k a → PureScoped k (pure.Not a)
unfolding pure_block.shape-the_row-Pure-0 pure_block.hidden-the_row-Pure-0 carrier.hidden PureScoped
not_scoped k a h = h

pub true_scoped : (k : ℕ) → PureScoped k True
unfolding PureScoped
true_scoped k = tt

pub false_scoped : (k : ℕ) → PureScoped k False
unfolding PureScoped
false_scoped k = tt

pub scoped_in_sep : (k : ℕ) (a b : Formula) → ScopedIn k (view.Sep a b) → ScopedIn k a × ScopedIn k b
unfolding block.shape-the_row-Formula-0 block.hidden-the_row-Formula-0 carrier.hidden ScopedIn
scoped_in_sep k a b h = h

pub sep_scoped_in : (k : ℕ) (a b : Formula) → ScopedIn k a → ScopedIn k b → ScopedIn k (view.Sep a b)
unfolding block.shape-the_row-Formula-0 block.hidden-the_row-Formula-0 carrier.hidden ScopedIn
sep_scoped_in k a b h g = (h, g)

pub scoped_in_wand : (k : ℕ) (a b : Formula) → ScopedIn k (view.Wand a b) → ScopedIn k a × ScopedIn k b
unfolding block.shape-the_row-Formula-0 block.hidden-the_row-Formula-0 carrier.hidden ScopedIn
scoped_in_wand k a b h = h

pub wand_scoped_in : (k : ℕ) (a b : Formula) → ScopedIn k a → ScopedIn k b → ScopedIn k (view.Wand a b)
unfolding block.shape-the_row-Formula-0 block.hidden-the_row-Formula-0 carrier.hidden ScopedIn
wand_scoped_in k a b h g = (h, g)

pub scoped_in_and : (k : ℕ) (a b : Formula) → ScopedIn k (view.And a b) → ScopedIn k a × ScopedIn k b
unfolding block.shape-the_row-Formula-0 block.hidden-the_row-Formula-0 carrier.hidden ScopedIn
scoped_in_and k a b h = h

pub and_scoped_in : (k : ℕ) (a b : Formula) → ScopedIn k a → ScopedIn k b → ScopedIn k (view.And a b)
unfolding block.shape-the_row-Formula-0 block.hidden-the_row-Formula-0 carrier.hidden ScopedIn
and_scoped_in k a b h g = (h, g)

pub scoped_in_or : (k : ℕ) (a b : Formula) → ScopedIn k (view.Or a b) → ScopedIn k a × ScopedIn k b
unfolding block.shape-the_row-Formula-0 block.hidden-the_row-Formula-0 carrier.hidden ScopedIn
scoped_in_or k a b h = h

pub or_scoped_in : (k : ℕ) (a b : Formula) → ScopedIn k a → ScopedIn k b → ScopedIn k (view.Or a b)
unfolding block.shape-the_row-Formula-0 block.hidden-the_row-Formula-0 carrier.hidden ScopedIn
or_scoped_in k a b h g = (h, g)

pub scoped_in_imp : (k : ℕ) (a b : Formula) → ScopedIn k (view.Imp a b) → ScopedIn k a × ScopedIn k b
unfolding block.shape-the_row-Formula-0 block.hidden-the_row-Formula-0 carrier.hidden ScopedIn
scoped_in_imp k a b h = h

pub imp_scoped_in : (k : ℕ) (a b : Formula) → ScopedIn k a → ScopedIn k b → ScopedIn k (view.Imp a b)
unfolding block.shape-the_row-Formula-0 block.hidden-the_row-Formula-0 carrier.hidden ScopedIn
imp_scoped_in k a b h g = (h, g)

pub scoped_in_quantified : (k : ℕ) (f a : Formula) → (f ≡ view.All a) ⊎ (f ≡ view.Ex a) → ScopedIn k f → ScopedIn (k + 1) a
unfolding block.shape-the_row-Formula-0 block.hidden-the_row-Formula-0 carrier.hidden ScopedIn
scoped_in_quantified k f a (inl e) h = let P : Formula → Type 0 = λ x. ScopedIn k x in rw add-one (subst P e h)
scoped_in_quantified k f a (inr e) h = let P : Formula → Type 0 = λ x. ScopedIn k x in rw add-one (subst P e h)

pub quantified_scoped_in : (k : ℕ) (f a : Formula) → (f ≡ view.All a) ⊎ (f ≡ view.Ex a) → ScopedIn (k + 1) a → ScopedIn k f
unfolding block.shape-the_row-Formula-0 block.hidden-the_row-Formula-0 carrier.hidden ScopedIn
quantified_scoped_in k f a (inl e) h = let P : Formula → Type 0 = λ x. ScopedIn k x in subst P (sym e) (rw add-one at h)
quantified_scoped_in k f a (inr e) h = let P : Formula → Type 0 = λ x. ScopedIn k x in subst P (sym e) (rw add-one at h)

pub scoped_in_modal : (k : ℕ) (f a : Formula) → (f ≡ view.Later a) ⊎ ((f ≡ view.Pers a) ⊎ (f ≡ view.Upd a)) → ScopedIn k f → ScopedIn k a
unfolding block.shape-the_row-Formula-0 block.hidden-the_row-Formula-0 carrier.hidden ScopedIn
scoped_in_modal k f a (inl e) h = let P : Formula → Type 0 = λ x. ScopedIn k x in subst P e h
scoped_in_modal k f a (inr (inl e)) h = let P : Formula → Type 0 = λ x. ScopedIn k x in subst P e h
scoped_in_modal k f a (inr (inr e)) h = let P : Formula → Type 0 = λ x. ScopedIn k x in subst P e h

pub modal_scoped_in : (k : ℕ) (f a : Formula) → (f ≡ view.Later a) ⊎ ((f ≡ view.Pers a) ⊎ (f ≡ view.Upd a)) → ScopedIn k a → ScopedIn k f
unfolding block.shape-the_row-Formula-0 block.hidden-the_row-Formula-0 carrier.hidden ScopedIn
modal_scoped_in k f a (inl e) h = let P : Formula → Type 0 = λ x. ScopedIn k x in subst P (sym e) h
modal_scoped_in k f a (inr (inl e)) h = let P : Formula → Type 0 = λ x. ScopedIn k x in subst P (sym e) h
modal_scoped_in k f a (inr (inr e)) h = let P : Formula → Type 0 = λ x. ScopedIn k x in subst P (sym e) h

pub pure_scoped_in_to : (k : ℕ) (a : Pure) → ScopedIn k (Fact a) → PureScoped k a
unfolding ScopedIn
pure_scoped_in_to k a h = h

pub pure_scoped_in_from : (k : ℕ) (a : Pure) → PureScoped k a → ScopedIn k (Fact a)
unfolding ScopedIn
pure_scoped_in_from k a h = h

pub pts_scoped_in_to : (k : ℕ) (l : Term) (u : ℕ) (v : Term) → ScopedIn k (Pts l u v) → TermScoped k l × TermScoped k v
unfolding ScopedIn
pts_scoped_in_to k l u v h = h

pub pts_scoped_in_from : (k : ℕ) (l : Term) (u : ℕ) (v : Term) → TermScoped k l → TermScoped k v → ScopedIn k (Pts l u v)
unfolding ScopedIn
pts_scoped_in_from k l u v h g = (h, g)

pub call_scoped_in_to : (k : ℕ) (q : ℕ) (args : List Term) → ScopedIn k (Call q args) → TermsScoped k args
unfolding ScopedIn
call_scoped_in_to k q args h = h

pub call_scoped_in_from : (k : ℕ) (q : ℕ) (args : List Term) → TermsScoped k args → ScopedIn k (Call q args)
unfolding ScopedIn
call_scoped_in_from k q args h = h

pub fit_sep : (preds : List Pred) (a b : Formula) → CallsFit preds (view.Sep a b) → CallsFit preds a × CallsFit preds b
unfolding block.shape-the_row-Formula-0 block.hidden-the_row-Formula-0 carrier.hidden CallsFit
fit_sep preds a b h = h

pub sep_fit : (preds : List Pred) (a b : Formula) → CallsFit preds a → CallsFit preds b → CallsFit preds (view.Sep a b)
unfolding block.shape-the_row-Formula-0 block.hidden-the_row-Formula-0 carrier.hidden CallsFit
sep_fit preds a b h g = (h, g)

pub fit_wand : (preds : List Pred) (a b : Formula) → CallsFit preds (view.Wand a b) → CallsFit preds a × CallsFit preds b
unfolding block.shape-the_row-Formula-0 block.hidden-the_row-Formula-0 carrier.hidden CallsFit
fit_wand preds a b h = h

pub wand_fit : (preds : List Pred) (a b : Formula) → CallsFit preds a → CallsFit preds b → CallsFit preds (view.Wand a b)
unfolding block.shape-the_row-Formula-0 block.hidden-the_row-Formula-0 carrier.hidden CallsFit
wand_fit preds a b h g = (h, g)

pub fit_and : (preds : List Pred) (a b : Formula) → CallsFit preds (view.And a b) → CallsFit preds a × CallsFit preds b
unfolding block.shape-the_row-Formula-0 block.hidden-the_row-Formula-0 carrier.hidden CallsFit
fit_and preds a b h = h

pub and_fit : (preds : List Pred) (a b : Formula) → CallsFit preds a → CallsFit preds b → CallsFit preds (view.And a b)
unfolding block.shape-the_row-Formula-0 block.hidden-the_row-Formula-0 carrier.hidden CallsFit
and_fit preds a b h g = (h, g)

pub fit_or : (preds : List Pred) (a b : Formula) → CallsFit preds (view.Or a b) → CallsFit preds a × CallsFit preds b
unfolding block.shape-the_row-Formula-0 block.hidden-the_row-Formula-0 carrier.hidden CallsFit
fit_or preds a b h = h

pub or_fit : (preds : List Pred) (a b : Formula) → CallsFit preds a → CallsFit preds b → CallsFit preds (view.Or a b)
unfolding block.shape-the_row-Formula-0 block.hidden-the_row-Formula-0 carrier.hidden CallsFit
or_fit preds a b h g = (h, g)

pub fit_imp : (preds : List Pred) (a b : Formula) → CallsFit preds (view.Imp a b) → CallsFit preds a × CallsFit preds b
unfolding block.shape-the_row-Formula-0 block.hidden-the_row-Formula-0 carrier.hidden CallsFit
fit_imp preds a b h = h

pub imp_fit : (preds : List Pred) (a b : Formula) → CallsFit preds a → CallsFit preds b → CallsFit preds (view.Imp a b)
unfolding block.shape-the_row-Formula-0 block.hidden-the_row-Formula-0 carrier.hidden CallsFit
imp_fit preds a b h g = (h, g)

pub fit_quantified : (preds : List Pred) (f a : Formula) → (f ≡ view.All a) ⊎ (f ≡ view.Ex a) → CallsFit preds f → CallsFit preds a
unfolding block.shape-the_row-Formula-0 block.hidden-the_row-Formula-0 carrier.hidden CallsFit
fit_quantified preds f a (inl e) h = let P : Formula → Type 0 = λ x. CallsFit preds x in subst P e h
fit_quantified preds f a (inr e) h = let P : Formula → Type 0 = λ x. CallsFit preds x in subst P e h

pub quantified_fit : (preds : List Pred) (f a : Formula) → (f ≡ view.All a) ⊎ (f ≡ view.Ex a) → CallsFit preds a → CallsFit preds f
unfolding block.shape-the_row-Formula-0 block.hidden-the_row-Formula-0 carrier.hidden CallsFit
quantified_fit preds f a (inl e) h = let P : Formula → Type 0 = λ x. CallsFit preds x in subst P (sym e) h
quantified_fit preds f a (inr e) h = let P : Formula → Type 0 = λ x. CallsFit preds x in subst P (sym e) h

pub fit_modal : (preds : List Pred) (f a : Formula) → (f ≡ view.Later a) ⊎ ((f ≡ view.Pers a) ⊎ (f ≡ view.Upd a)) → CallsFit preds f → CallsFit preds a
unfolding block.shape-the_row-Formula-0 block.hidden-the_row-Formula-0 carrier.hidden CallsFit
fit_modal preds f a (inl e) h = let P : Formula → Type 0 = λ x. CallsFit preds x in subst P e h
fit_modal preds f a (inr (inl e)) h = let P : Formula → Type 0 = λ x. CallsFit preds x in subst P e h
fit_modal preds f a (inr (inr e)) h = let P : Formula → Type 0 = λ x. CallsFit preds x in subst P e h

pub modal_fit : (preds : List Pred) (f a : Formula) → (f ≡ view.Later a) ⊎ ((f ≡ view.Pers a) ⊎ (f ≡ view.Upd a)) → CallsFit preds a → CallsFit preds f
unfolding block.shape-the_row-Formula-0 block.hidden-the_row-Formula-0 carrier.hidden CallsFit
modal_fit preds f a (inl e) h = let P : Formula → Type 0 = λ x. CallsFit preds x in subst P (sym e) h
modal_fit preds f a (inr (inl e)) h = let P : Formula → Type 0 = λ x. CallsFit preds x in subst P (sym e) h
modal_fit preds f a (inr (inr e)) h = let P : Formula → Type 0 = λ x. CallsFit preds x in subst P (sym e) h

pub pure_fit : (preds : List Pred) (a : Pure) → CallsFit preds (Fact a)
unfolding CallsFit
pure_fit preds a = tt

pub pts_fit_to : (preds : List Pred) (l : Term) (u : ℕ) (v : Term) → CallsFit preds (Pts l u v) → (1 ≤ u) × (u ≤ UNIT)
unfolding CallsFit
pts_fit_to preds l u v h = h

pub pts_fit_from : (preds : List Pred) (l : Term) (u : ℕ) (v : Term) → 1 ≤ u → u ≤ UNIT → CallsFit preds (Pts l u v)
unfolding CallsFit
pts_fit_from preds l u v h g = (h, g)

pub call_fit_to : (preds : List Pred) (q : ℕ) (args : List Term) → CallsFit preds (Call q args) → CallFits preds q (length args)
unfolding CallsFit
call_fit_to preds q args h = h

pub call_fit_from : (preds : List Pred) (q : ℕ) (args : List Term) → CallFits preds q (length args) → CallsFit preds (Call q args)
unfolding CallsFit
call_fit_from preds q args h = h

pub ruleset term_scopes = (term_lemmas, scoped_add, add_scoped, scoped_sub, sub_scoped, scoped_neg, neg_scoped, scoped_scale, scale_scoped, lit_scoped, var_scoped_to, var_scoped_from)

pub ruleset pure_scopes = (pure_lemmas, scoped_eq, eq_scoped, scoped_le, le_scoped, scoped_lt, lt_scoped, scoped_both, both_scoped, scoped_either, either_scoped, scoped_not, not_scoped, true_scoped, false_scoped)

pub ruleset formula_scopes = (the_lemmas, formula_depths, left_within, right_within, scoped_in_sep, sep_scoped_in, scoped_in_wand, wand_scoped_in, scoped_in_and, and_scoped_in, scoped_in_or, or_scoped_in, scoped_in_imp, imp_scoped_in, scoped_in_quantified, quantified_scoped_in, scoped_in_modal, modal_scoped_in, pure_scoped_in_to, pure_scoped_in_from, pts_scoped_in_to, pts_scoped_in_from, call_scoped_in_to, call_scoped_in_from)

pub ruleset fits = (the_lemmas, fit_sep, sep_fit, fit_wand, wand_fit, fit_and, and_fit, fit_or, or_fit, fit_imp, imp_fit, fit_quantified, quantified_fit, fit_modal, modal_fit, pure_fit, pts_fit_to, pts_fit_from, call_fit_to, call_fit_from)

pub ruleset list_scopes = (arith, take_all, terms_scoped_none, terms_scoped_more, terms_scoped_at)
