-- A template is scoped, with one variable more, where what it opens to is.
use Rattle.std.proofs.Common.{ℕ, zero, suc, ◌<◌, ◌≡◌, List, [], ◌∷◌, length, map, refl, ap, subst, arith}
use Rattle.pm_logic.specs.declared.formula.Term.{Term}
use Rattle.pm_logic.specs.declared.formula.Term.TheVariants.{Lit, Var}
use Rattle.pm_logic.specs.declared.formula.Pure.{Pure}
use Rattle.pm_logic.specs.declared.formula.Pure.TheVariants.{True, False, Eq, Le, Lt}
use Rattle.pm_logic.specs.declared.formula.Formula.{Formula}
use Rattle.pm_logic.specs.declared.formula.Formula.TheVariants.{Pure as Fact, Pts, Call}
use Rattle.pm_logic.specs.declared.formula.Pred.{Pred}
use Rattle.pm_logic.specs.declared.formula.Preds.{Preds}
use Rattle.pm_logic.specs.Trees.{add, sub, neg, scale, both, either, nope, Sep, Wand, And, Or, Imp, All, Ex, Later, Pers, Upd}
use Rattle.pm_logic.specs.Scope.{TermScoped, TermsScoped, PureScoped, ScopedIn, CallFits, CallsFit, Scoped}
use Rattle.pm_logic.specs.Substitution.{Sub, in_term, in_pure, in_formula, raised, under, first, opened_of}

-- each index whose term is scoped in k is below j
abbrev Reflects : ℕ → ℕ → Sub → Type 0
Reflects j k f = (i : ℕ) → TermScoped k (f i) → i < j

unraised : (k : ℕ) (t : Term) → TermScoped (suc k) (raised t) → TermScoped k t
unfolding TermScoped
unraised k (Lit z) h = tt
unraised k (Var i) h = omega arith
unraised k (add s t) h = (unraised k s h.0, unraised k t h.1)
unraised k (sub s t) h = (unraised k s h.0, unraised k t h.1)
unraised k (neg t) h = unraised k t h
unraised k (scale z t) h = unraised k t h

under_reflects : (j k : ℕ) (f : Sub) → Reflects j k f → Reflects (suc j) (suc k) (under f)
under_reflects j k f h zero g = omega arith
under_reflects j k f h (suc i) g = let lt = h i (unraised k (f i) g) in omega arith

term_back : (j k : ℕ) (f : Sub) → Reflects j k f → (t : Term) → TermScoped k (in_term f t) → TermScoped j t
unfolding TermScoped in_term
term_back j k f h (Lit z) g = tt
term_back j k f h (Var i) g = h i g
term_back j k f h (add s t) g = (term_back j k f h s g.0, term_back j k f h t g.1)
term_back j k f h (sub s t) g = (term_back j k f h s g.0, term_back j k f h t g.1)
term_back j k f h (neg t) g = term_back j k f h t g
term_back j k f h (scale z t) g = term_back j k f h t g

terms_back : (j k : ℕ) (f : Sub) → Reflects j k f → (ts : List Term) → TermsScoped k (map (in_term f) ts) → TermsScoped j ts
unfolding TermsScoped
terms_back j k f h [] g = tt
terms_back j k f h (t ∷ ts) g = (term_back j k f h t g.0, terms_back j k f h ts g.1)

pure_back : (j k : ℕ) (f : Sub) → Reflects j k f → (p : Pure) → PureScoped k (in_pure f p) → PureScoped j p
unfolding PureScoped in_pure
pure_back j k f h True g = tt
pure_back j k f h False g = tt
pure_back j k f h (Eq s t) g = (term_back j k f h s g.0, term_back j k f h t g.1)
pure_back j k f h (Le s t) g = (term_back j k f h s g.0, term_back j k f h t g.1)
pure_back j k f h (Lt s t) g = (term_back j k f h s g.0, term_back j k f h t g.1)
pure_back j k f h (both a b) g = (pure_back j k f h a g.0, pure_back j k f h b g.1)
pure_back j k f h (either a b) g = (pure_back j k f h a g.0, pure_back j k f h b g.1)
pure_back j k f h (nope a) g = pure_back j k f h a g

formula_back : (j k : ℕ) (f : Sub) → Reflects j k f → (a : Formula) → ScopedIn k (in_formula f a) → ScopedIn j a
unfolding ScopedIn in_formula
formula_back j k f h (Fact a) g = pure_back j k f h a g
formula_back j k f h (Sep a b) g = (formula_back j k f h a g.0, formula_back j k f h b g.1)
formula_back j k f h (Wand a b) g = (formula_back j k f h a g.0, formula_back j k f h b g.1)
formula_back j k f h (And a b) g = (formula_back j k f h a g.0, formula_back j k f h b g.1)
formula_back j k f h (Or a b) g = (formula_back j k f h a g.0, formula_back j k f h b g.1)
formula_back j k f h (Imp a b) g = (formula_back j k f h a g.0, formula_back j k f h b g.1)
formula_back j k f h (All a) g = formula_back (suc j) (suc k) (under f) (under_reflects j k f h) a g
formula_back j k f h (Ex a) g = formula_back (suc j) (suc k) (under f) (under_reflects j k f h) a g
formula_back j k f h (Later a) g = formula_back j k f h a g
formula_back j k f h (Pers a) g = formula_back j k f h a g
formula_back j k f h (Upd a) g = formula_back j k f h a g
formula_back j k f h (Pts l u v) g = (term_back j k f h l g.0, term_back j k f h v g.1)
formula_back j k f h (Call q args) g = terms_back j k f h args g

length_of_map : (c : Term → Term) (ts : List Term) → length (map c ts) ≡ length ts
length_of_map c [] = refl
length_of_map c (t ∷ ts) = ap suc (length_of_map c ts)

calls_back : (preds : List Pred) (f : Sub) (a : Formula) → CallsFit preds (in_formula f a) → CallsFit preds a
unfolding CallsFit in_formula
calls_back preds f (Fact a) g = tt
calls_back preds f (Sep a b) g = (calls_back preds f a g.0, calls_back preds f b g.1)
calls_back preds f (Wand a b) g = (calls_back preds f a g.0, calls_back preds f b g.1)
calls_back preds f (And a b) g = (calls_back preds f a g.0, calls_back preds f b g.1)
calls_back preds f (Or a b) g = (calls_back preds f a g.0, calls_back preds f b g.1)
calls_back preds f (Imp a b) g = (calls_back preds f a g.0, calls_back preds f b g.1)
calls_back preds f (All a) g = calls_back preds (under f) a g
calls_back preds f (Ex a) g = calls_back preds (under f) a g
calls_back preds f (Later a) g = calls_back preds f a g
calls_back preds f (Pers a) g = calls_back preds f a g
calls_back preds f (Upd a) g = calls_back preds f a g
calls_back preds f (Pts l u v) g = g
calls_back preds f (Call q args) g = let P : ℕ → Type 0 = λ n. CallFits preds q n in subst P (length_of_map (in_term f) args) g

first_reflects : (k : ℕ) (t : Term) → Reflects (suc k) k (first t)
unfolding TermScoped
first_reflects k t zero g = omega arith
first_reflects k t (suc i) g = omega arith

pub template_scoped : (preds : Preds) (k : ℕ) (b : Formula) (t : Term) → Scoped preds k (opened_of b t) → Scoped preds (suc k) b
template_scoped preds k b t s = record { indices = formula_back (suc k) k (first t) (first_reflects k t) b s.indices; calls = calls_back preds.list (first t) b s.calls }
