-- Scope after changes of terms.
use Rattle.std.proofs.Common.{◌≡◌, ℕ, zero, suc, ◌<◌, Bool, true, false, if◌then◌else◌, List, [], ◌∷◌, length, map, refl, ap, subst, arith}
use Rattle.pm_logic.specs.declared.formula.Term.{Term}
use Rattle.pm_logic.specs.declared.formula.Term.TheVariants.{Lit, Var}
use Rattle.pm_logic.specs.declared.formula.Pure.{Pure}
use Rattle.pm_logic.specs.declared.formula.Pure.TheVariants.{True, False, Eq, Le, Lt}
use Rattle.pm_logic.specs.declared.formula.Formula.{Formula}
use Rattle.pm_logic.specs.declared.formula.Formula.TheVariants.{Pure as Fact, Pts, Call}
use Rattle.pm_logic.specs.declared.formula.Pred.{Pred}
use Rattle.pm_logic.specs.Trees.{add, sub, neg, scale, both, either, nope, Sep, Wand, And, Or, Imp, All, Ex, Later, Pers, Upd}
use Rattle.pm_logic.specs.Scope.{TermScoped, TermsScoped, PureScoped, ScopedIn, CallFits, CallsFit}
use Rattle.pm_logic.specs.Changes.{changed_pure, changed}
use Rattle.pm_logic.specs.Substitution.{Sub, in_term, in_formula, raised, raised_by, under, under_by, entries, first, one_up}
use Rattle.pm_logic.specs.Abstraction.{term_eq, new_index_or, abstracted, abstract_of}
use Rattle.pm_logic.specs.Walks.{replaced}
use Rattle.pm_logic.proofs.Changed.{changed_in}

-- each index below j has a term that is scoped in k
abbrev pub Reaches : ℕ → ℕ → Sub → Type 0
Reaches j k f = (i : ℕ) → i < j → TermScoped k (f i)

raised_scoped : (k : ℕ) (t : Term) → TermScoped k t → TermScoped (suc k) (raised t)
unfolding TermScoped
raised_scoped k (Lit z) h = tt
raised_scoped k (Var i) h = omega arith
raised_scoped k (add s t) h = (raised_scoped k s h.0, raised_scoped k t h.1)
raised_scoped k (sub s t) h = (raised_scoped k s h.0, raised_scoped k t h.1)
raised_scoped k (neg t) h = raised_scoped k t h
raised_scoped k (scale z t) h = raised_scoped k t h

under_reaches : (j k : ℕ) (f : Sub) → Reaches j k f → Reaches (suc j) (suc k) (under f)
unfolding TermScoped
under_reaches j k f h zero lt = omega arith
under_reaches j k f h (suc i) lt = raised_scoped k (f i) (h i (omega arith))

-- k variables and those of d binders
abbrev widened : ℕ → ℕ → ℕ
widened zero k = k
widened (suc d) k = suc (widened d k)

under_widened : (d k : ℕ) → d < widened d (suc k)
under_widened zero k = omega arith
under_widened (suc d) k = let lt = under_widened d k in omega (arith, lt)

under_by_reaches : (d j k : ℕ) (f : Sub) → Reaches j k f → Reaches (widened d j) (widened d k) (under_by d f)
under_by_reaches zero j k f h = h
under_by_reaches (suc d) j k f h = under_reaches (widened d j) (widened d k) (under_by d f) (under_by_reaches d j k f h)

in_term_scoped : (j k : ℕ) (f : Sub) → Reaches j k f → (t : Term) → TermScoped j t → TermScoped k (in_term f t)
unfolding TermScoped in_term
in_term_scoped j k f h (Lit z) g = tt
in_term_scoped j k f h (Var i) g = h i g
in_term_scoped j k f h (add s t) g = (in_term_scoped j k f h s g.0, in_term_scoped j k f h t g.1)
in_term_scoped j k f h (sub s t) g = (in_term_scoped j k f h s g.0, in_term_scoped j k f h t g.1)
in_term_scoped j k f h (neg t) g = in_term_scoped j k f h t g
in_term_scoped j k f h (scale z t) g = in_term_scoped j k f h t g

-- under every number of binders the change takes terms in j free variables to terms in k
abbrev Keeps : ℕ → ℕ → (ℕ → Term → Term) → Type 0
Keeps j k c = (d : ℕ) (t : Term) → TermScoped (widened d j) t → TermScoped (widened d k) (c d t)

map_scoped : (j k : ℕ) (c : Term → Term) → ((t : Term) → TermScoped j t → TermScoped k (c t)) → (ts : List Term) → TermsScoped j ts → TermsScoped k (map c ts)
unfolding TermsScoped
map_scoped j k c h [] g = tt
map_scoped j k c h (t ∷ ts) g = (h t g.0, map_scoped j k c h ts g.1)

changed_pure_scoped : (j k : ℕ) (c : Term → Term) → ((t : Term) → TermScoped j t → TermScoped k (c t)) → (p : Pure) → PureScoped j p → PureScoped k (changed_pure c p)
unfolding PureScoped changed_pure
changed_pure_scoped j k c h True g = tt
changed_pure_scoped j k c h False g = tt
changed_pure_scoped j k c h (Eq s t) g = (h s g.0, h t g.1)
changed_pure_scoped j k c h (Le s t) g = (h s g.0, h t g.1)
changed_pure_scoped j k c h (Lt s t) g = (h s g.0, h t g.1)
changed_pure_scoped j k c h (both a b) g = (changed_pure_scoped j k c h a g.0, changed_pure_scoped j k c h b g.1)
changed_pure_scoped j k c h (either a b) g = (changed_pure_scoped j k c h a g.0, changed_pure_scoped j k c h b g.1)
changed_pure_scoped j k c h (nope a) g = changed_pure_scoped j k c h a g

changed_scoped : (j k : ℕ) (c : ℕ → Term → Term) → Keeps j k c → (d : ℕ) (f : Formula) → ScopedIn (widened d j) f → ScopedIn (widened d k) (changed c d f)
unfolding ScopedIn changed
changed_scoped j k c h d (Fact a) g = changed_pure_scoped (widened d j) (widened d k) (c d) (h d) a g
changed_scoped j k c h d (Sep a b) g = (changed_scoped j k c h d a g.0, changed_scoped j k c h d b g.1)
changed_scoped j k c h d (Wand a b) g = (changed_scoped j k c h d a g.0, changed_scoped j k c h d b g.1)
changed_scoped j k c h d (And a b) g = (changed_scoped j k c h d a g.0, changed_scoped j k c h d b g.1)
changed_scoped j k c h d (Or a b) g = (changed_scoped j k c h d a g.0, changed_scoped j k c h d b g.1)
changed_scoped j k c h d (Imp a b) g = (changed_scoped j k c h d a g.0, changed_scoped j k c h d b g.1)
changed_scoped j k c h d (All a) g = changed_scoped j k c h (suc d) a g
changed_scoped j k c h d (Ex a) g = changed_scoped j k c h (suc d) a g
changed_scoped j k c h d (Later a) g = changed_scoped j k c h d a g
changed_scoped j k c h d (Pers a) g = changed_scoped j k c h d a g
changed_scoped j k c h d (Upd a) g = changed_scoped j k c h d a g
changed_scoped j k c h d (Pts l u v) g = (h d l g.0, h d v g.1)
changed_scoped j k c h d (Call q args) g = map_scoped (widened d j) (widened d k) (c d) (h d) args g

pub in_formula_scoped : (j k : ℕ) (f : Sub) → Reaches j k f → (a : Formula) → ScopedIn j a → ScopedIn k (in_formula f a)
unfolding replaced
in_formula_scoped j k f h a g =
    let keeps : Keeps j k (replaced f) = λ d t. in_term_scoped (widened d j) (widened d k) (under_by d f) (under_by_reaches d j k f h) t in
    let P : Formula → Type 0 = λ x. ScopedIn k x in
    subst P (changed_in f 0 a) (changed_scoped j k (replaced f) keeps 0 a g)

pub entries_reach : (k : ℕ) (sigma : List Term) → TermsScoped k sigma → Reaches (length sigma) k (entries sigma)
unfolding TermsScoped
entries_reach k [] h i lt = absurd (omega arith)
entries_reach k (t ∷ sigma) h zero lt = h.0
entries_reach k (t ∷ sigma) h (suc i) lt = entries_reach k sigma h.1 i (omega arith)

pub first_reaches : (k : ℕ) (t : Term) → TermScoped k t → Reaches (suc k) k (first t)
unfolding TermScoped
first_reaches k t h zero lt = h
first_reaches k t h (suc i) lt = omega arith

pub one_up_reaches : (k : ℕ) → Reaches k (suc k) one_up
unfolding TermScoped
one_up_reaches k i lt = omega arith

new_index_scoped : (n d : ℕ) (s t u : Term) → d < n → TermScoped n u → TermScoped n (new_index_or d s t u)
unfolding new_index_or TermScoped
new_index_scoped n d s t u lt h = chosen (term_eq t s)
  where
    chosen : (b : Bool) → TermScoped n (if b then Var d else u)
    chosen true = lt
    chosen false = h

abstracted_scoped : (d k : ℕ) (s t : Term) → TermScoped (widened d k) t → TermScoped (widened d (suc k)) (abstracted d s t)
unfolding abstracted TermScoped
abstracted_scoped d k s (Lit z) h = new_index_scoped (widened d (suc k)) d s (Lit z) (Lit z) (under_widened d k) tt
abstracted_scoped d k s (Var i) h = new_index_scoped (widened d (suc k)) d s (Var i) (under_by d one_up i) (under_widened d k) (under_by_reaches d k (suc k) one_up (one_up_reaches k) i h)
abstracted_scoped d k s (add a b) h = new_index_scoped (widened d (suc k)) d s (add a b) (add (abstracted d s a) (abstracted d s b)) (under_widened d k) (abstracted_scoped d k s a h.0, abstracted_scoped d k s b h.1)
abstracted_scoped d k s (sub a b) h = new_index_scoped (widened d (suc k)) d s (sub a b) (sub (abstracted d s a) (abstracted d s b)) (under_widened d k) (abstracted_scoped d k s a h.0, abstracted_scoped d k s b h.1)
abstracted_scoped d k s (neg a) h = new_index_scoped (widened d (suc k)) d s (neg a) (neg (abstracted d s a)) (under_widened d k) (abstracted_scoped d k s a h)
abstracted_scoped d k s (scale z a) h = new_index_scoped (widened d (suc k)) d s (scale z a) (scale z (abstracted d s a)) (under_widened d k) (abstracted_scoped d k s a h)

pub abstract_of_scoped : (k : ℕ) (f : Formula) (s : Term) → ScopedIn k f → ScopedIn (suc k) (abstract_of f s)
abstract_of_scoped k f s h =
    let c : ℕ → Term → Term = λ d. abstracted d (raised_by d s) in
    changed_scoped k (suc k) c (λ d t. abstracted_scoped d k (raised_by d s) t) 0 f h

map_length : (c : Term → Term) (ts : List Term) → length ts ≡ length (map c ts)
map_length c [] = refl
map_length c (t ∷ ts) = ap suc (map_length c ts)

pub changed_fits : (preds : List Pred) (c : ℕ → Term → Term) (d : ℕ) (f : Formula) → CallsFit preds f → CallsFit preds (changed c d f)
unfolding CallsFit changed
changed_fits preds c d (Fact a) h = tt
changed_fits preds c d (Sep a b) h = (changed_fits preds c d a h.0, changed_fits preds c d b h.1)
changed_fits preds c d (Wand a b) h = (changed_fits preds c d a h.0, changed_fits preds c d b h.1)
changed_fits preds c d (And a b) h = (changed_fits preds c d a h.0, changed_fits preds c d b h.1)
changed_fits preds c d (Or a b) h = (changed_fits preds c d a h.0, changed_fits preds c d b h.1)
changed_fits preds c d (Imp a b) h = (changed_fits preds c d a h.0, changed_fits preds c d b h.1)
changed_fits preds c d (All a) h = changed_fits preds c (suc d) a h
changed_fits preds c d (Ex a) h = changed_fits preds c (suc d) a h
changed_fits preds c d (Later a) h = changed_fits preds c d a h
changed_fits preds c d (Pers a) h = changed_fits preds c d a h
changed_fits preds c d (Upd a) h = changed_fits preds c d a h
changed_fits preds c d (Pts l u v) h = h
changed_fits preds c d (Call q args) h = let P : ℕ → Type 0 = λ n. CallFits preds q n in subst P (map_length (c d) args) h

pub in_formula_fits : (preds : List Pred) (f : Sub) (a : Formula) → CallsFit preds a → CallsFit preds (in_formula f a)
in_formula_fits preds f a h = let P : Formula → Type 0 = λ x. CallsFit preds x in subst P (changed_in f 0 a) (changed_fits preds (replaced f) 0 a h)
