-- Laws of changes of terms.
use Rattle.std.proofs.Common.{◌≡◌, ℕ, suc, List, [], ◌∷◌, map, refl, ap, ap₂, sym}
use Rattle.pm_logic.specs.declared.formula.Term.{Term}
use Rattle.pm_logic.specs.declared.formula.Term.TheVariants.{Lit, Var}
use Rattle.pm_logic.specs.declared.formula.Pure.{Pure}
use Rattle.pm_logic.specs.declared.formula.Pure.TheVariants.{True, False, Eq, Le, Lt}
use Rattle.pm_logic.specs.declared.formula.Formula.{Formula}
use Rattle.pm_logic.specs.declared.formula.Formula.TheVariants.{Pure as Fact, Pts, Call}
use Rattle.pm_logic.specs.Trees.{add, sub, neg, scale, both, either, nope, Sep, Wand, And, Or, Imp, All, Ex, Later, Pers, Upd}
use Rattle.pm_logic.specs.Changes.{changed_pure, changed}
use Rattle.pm_logic.specs.Substitution.{Sub, in_term, in_pure, in_formula, under_by}
use Rattle.pm_logic.specs.Walks.{replaced}
use Rattle.pm_logic.proofs.Under.{under_itself}

map_same : (c : Term → Term) → ((t : Term) → c t ≡ t) → (ts : List Term) → map c ts ≡ ts
map_same c same [] = refl
map_same c same (t ∷ ts) = ap₂ (λ x xs. x ∷ xs) (same t) (map_same c same ts)

pub pure_same : (c : Term → Term) → ((t : Term) → c t ≡ t) → (p : Pure) → changed_pure c p ≡ p
unfolding changed_pure
pure_same c same True = refl
pure_same c same False = refl
pure_same c same (Eq s t) = ap₂ Eq (same s) (same t)
pure_same c same (Le s t) = ap₂ Le (same s) (same t)
pure_same c same (Lt s t) = ap₂ Lt (same s) (same t)
pure_same c same (both a b) = ap₂ both (pure_same c same a) (pure_same c same b)
pure_same c same (either a b) = ap₂ either (pure_same c same a) (pure_same c same b)
pure_same c same (nope a) = ap nope (pure_same c same a)

-- a change that leaves each term leaves the formula
pub changed_same : (c : ℕ → Term → Term) → ((d : ℕ) (t : Term) → c d t ≡ t) → (d : ℕ) (f : Formula) → changed c d f ≡ f
unfolding changed
changed_same c same d (Fact a) = ap Fact (pure_same (c d) (same d) a)
changed_same c same d (Sep a b) = ap₂ Sep (changed_same c same d a) (changed_same c same d b)
changed_same c same d (Wand a b) = ap₂ Wand (changed_same c same d a) (changed_same c same d b)
changed_same c same d (And a b) = ap₂ And (changed_same c same d a) (changed_same c same d b)
changed_same c same d (Or a b) = ap₂ Or (changed_same c same d a) (changed_same c same d b)
changed_same c same d (Imp a b) = ap₂ Imp (changed_same c same d a) (changed_same c same d b)
changed_same c same d (All a) = ap All (changed_same c same (suc d) a)
changed_same c same d (Ex a) = ap Ex (changed_same c same (suc d) a)
changed_same c same d (Later a) = ap Later (changed_same c same d a)
changed_same c same d (Pers a) = ap Pers (changed_same c same d a)
changed_same c same d (Upd a) = ap Upd (changed_same c same d a)
changed_same c same d (Pts l u v) = ap₂ (λ x y. Pts x u y) (same d l) (same d v)
changed_same c same d (Call q args) = ap (Call q) (map_same (c d) (same d) args)

map_back : (c e : Term → Term) → ((t : Term) → c (e t) ≡ t) → (ts : List Term) → map c (map e ts) ≡ ts
map_back c e back [] = refl
map_back c e back (t ∷ ts) = ap₂ (λ x xs. x ∷ xs) (back t) (map_back c e back ts)

pure_back : (c e : Term → Term) → ((t : Term) → c (e t) ≡ t) → (p : Pure) → changed_pure c (changed_pure e p) ≡ p
unfolding changed_pure
pure_back c e back True = refl
pure_back c e back False = refl
pure_back c e back (Eq s t) = ap₂ Eq (back s) (back t)
pure_back c e back (Le s t) = ap₂ Le (back s) (back t)
pure_back c e back (Lt s t) = ap₂ Lt (back s) (back t)
pure_back c e back (both a b) = ap₂ both (pure_back c e back a) (pure_back c e back b)
pure_back c e back (either a b) = ap₂ either (pure_back c e back a) (pure_back c e back b)
pure_back c e back (nope a) = ap nope (pure_back c e back a)

-- a change that takes another one back on terms does so on formulas
pub changed_back : (c e : ℕ → Term → Term) → ((d : ℕ) (t : Term) → c d (e d t) ≡ t) → (d : ℕ) (f : Formula) → changed c d (changed e d f) ≡ f
unfolding changed
changed_back c e back d (Fact a) = ap Fact (pure_back (c d) (e d) (back d) a)
changed_back c e back d (Sep a b) = ap₂ Sep (changed_back c e back d a) (changed_back c e back d b)
changed_back c e back d (Wand a b) = ap₂ Wand (changed_back c e back d a) (changed_back c e back d b)
changed_back c e back d (And a b) = ap₂ And (changed_back c e back d a) (changed_back c e back d b)
changed_back c e back d (Or a b) = ap₂ Or (changed_back c e back d a) (changed_back c e back d b)
changed_back c e back d (Imp a b) = ap₂ Imp (changed_back c e back d a) (changed_back c e back d b)
changed_back c e back d (All a) = ap All (changed_back c e back (suc d) a)
changed_back c e back d (Ex a) = ap Ex (changed_back c e back (suc d) a)
changed_back c e back d (Later a) = ap Later (changed_back c e back d a)
changed_back c e back d (Pers a) = ap Pers (changed_back c e back d a)
changed_back c e back d (Upd a) = ap Upd (changed_back c e back d a)
changed_back c e back d (Pts l u v) = ap₂ (λ x y. Pts x u y) (back d l) (back d v)
changed_back c e back d (Call q args) = ap (Call q) (map_back (c d) (e d) (back d) args)

pub pure_in : (s : Sub) (d : ℕ) (p : Pure) → changed_pure (replaced s d) p ≡ in_pure (under_by d s) p
unfolding changed_pure replaced in_pure
pure_in s d True = refl
pure_in s d False = refl
pure_in s d (Eq x y) = refl
pure_in s d (Le x y) = refl
pure_in s d (Lt x y) = refl
pure_in s d (both a b) = ap₂ both (pure_in s d a) (pure_in s d b)
pure_in s d (either a b) = ap₂ either (pure_in s d a) (pure_in s d b)
pure_in s d (nope a) = ap nope (pure_in s d a)

map_in : (s : Sub) (d : ℕ) (ts : List Term) → map (replaced s d) ts ≡ map (in_term (under_by d s)) ts
unfolding replaced
map_in s d [] = refl
map_in s d (t ∷ ts) = ap (λ xs. in_term (under_by d s) t ∷ xs) (map_in s d ts)

-- the change by a substitution is the substitution
pub changed_in : (s : Sub) (d : ℕ) (f : Formula) → changed (replaced s) d f ≡ in_formula (under_by d s) f
unfolding changed replaced in_formula
changed_in s d (Fact a) = ap Fact (pure_in s d a)
changed_in s d (Sep a b) = ap₂ Sep (changed_in s d a) (changed_in s d b)
changed_in s d (Wand a b) = ap₂ Wand (changed_in s d a) (changed_in s d b)
changed_in s d (And a b) = ap₂ And (changed_in s d a) (changed_in s d b)
changed_in s d (Or a b) = ap₂ Or (changed_in s d a) (changed_in s d b)
changed_in s d (Imp a b) = ap₂ Imp (changed_in s d a) (changed_in s d b)
changed_in s d (All a) = ap All (changed_in s (suc d) a)
changed_in s d (Ex a) = ap Ex (changed_in s (suc d) a)
changed_in s d (Later a) = ap Later (changed_in s d a)
changed_in s d (Pers a) = ap Pers (changed_in s d a)
changed_in s d (Upd a) = ap Upd (changed_in s d a)
changed_in s d (Pts l u v) = refl
changed_in s d (Call q args) = ap (Call q) (map_in s d args)

-- the indices themselves in their own places leave a term
pub replaced_itself : (d : ℕ) (t : Term) → replaced Var d t ≡ t
unfolding replaced in_term
replaced_itself d (Lit z) = refl
replaced_itself d (Var i) = sym (under_itself d i)
replaced_itself d (add s t) = ap₂ add (replaced_itself d s) (replaced_itself d t)
replaced_itself d (sub s t) = ap₂ sub (replaced_itself d s) (replaced_itself d t)
replaced_itself d (neg t) = ap neg (replaced_itself d t)
replaced_itself d (scale z t) = ap (scale z) (replaced_itself d t)
