-- Scope of formulas: connectives and their parts, changes of indices, and more variables.
use Rattle.std.proofs.Common.{◌≡◌, ℕ, zero, suc, ◌<◌, ◌≤◌, ◌||◌, nat_eq, nat_lt, pred, if◌then◌else◌, Bool, true, false, List, [], ◌∷◌, map, refl, ap, arith}
use Rattle.std.proofs.lemmas.Bool.Decides.{nat_tests, Decides-eqb}
use Rattle.pm_logic.specs.declared.formula.Term.{Term}
use Rattle.pm_logic.specs.declared.formula.Term.TheVariants.{Lit, Var}
use Rattle.pm_logic.specs.declared.formula.Pure as P
use Rattle.pm_logic.specs.declared.formula.Pure.TheVariants.{True, False, Eq, Le, Lt}
use Rattle.pm_logic.specs.declared.formula.Formula.{Formula}
use Rattle.pm_logic.specs.declared.formula.Formula.TheVariants.{Pure as Assert, Pts, Call}
use Rattle.pm_logic.specs.declared.formula.Preds.{Preds}
use Rattle.pm_logic.specs.declared.formula.TheConstants.{UNIT}
use Rattle.pm_logic.specs.Trees.{add, sub, neg, scale, both, either, nope, Sep, Wand, And, Or, Imp, All, Ex, Later, Pers, Upd}
use Rattle.pm_logic.specs.Scope.{TermScoped, TermsScoped, PureScoped, ScopedIn, CallsFit, Scoped}
use Rattle.pm_logic.specs.Substitution.{Sub, in_term, in_pure, in_formula, raised, under, first, one_up, shift_of, opened_of}
use Rattle.pm_logic.proofs.Grows.{term_grows, terms_grow, pure_grows}
use Rattle.pm_logic.proofs.Kept.{Reaches, in_formula_scoped, in_formula_fits, first_reaches, one_up_reaches}
use Rattle.pm_table.specs.Occurrences.{in_a_term, in_some_term, in_a_pure, in_a_formula, shifted_pure, without, to_front}

pub newest : (k : ℕ) → TermScoped (suc k) (Var 0)
unfolding TermScoped
newest k = omega arith

pub raised_scoped : (k : ℕ) (t : Term) → TermScoped k t → TermScoped (suc k) (raised t)
unfolding TermScoped
raised_scoped k (Lit z) h = tt
raised_scoped k (Var i) h = omega arith
raised_scoped k (add s t) h = (raised_scoped k s h.0, raised_scoped k t h.1)
raised_scoped k (sub s t) h = (raised_scoped k s h.0, raised_scoped k t h.1)
raised_scoped k (neg t) h = raised_scoped k t h
raised_scoped k (scale z t) h = raised_scoped k t h

module _ (preds : Preds) (k : ℕ) where
  abbrev pub Both : Formula → Formula → Type 0
  Both a b = Scoped preds k a × Scoped preds k b

  -- ---- parts

  pub of_sep : (a b : Formula) → Scoped preds k (Sep a b) → Both a b
  unfolding ScopedIn CallsFit
  of_sep a b s = (record { indices = s.indices.0; calls = s.calls.0 }, record { indices = s.indices.1; calls = s.calls.1 })

  pub of_wand : (a b : Formula) → Scoped preds k (Wand a b) → Both a b
  unfolding ScopedIn CallsFit
  of_wand a b s = (record { indices = s.indices.0; calls = s.calls.0 }, record { indices = s.indices.1; calls = s.calls.1 })

  pub of_and : (a b : Formula) → Scoped preds k (And a b) → Both a b
  unfolding ScopedIn CallsFit
  of_and a b s = (record { indices = s.indices.0; calls = s.calls.0 }, record { indices = s.indices.1; calls = s.calls.1 })

  pub of_or : (a b : Formula) → Scoped preds k (Or a b) → Both a b
  unfolding ScopedIn CallsFit
  of_or a b s = (record { indices = s.indices.0; calls = s.calls.0 }, record { indices = s.indices.1; calls = s.calls.1 })

  pub of_imp : (a b : Formula) → Scoped preds k (Imp a b) → Both a b
  unfolding ScopedIn CallsFit
  of_imp a b s = (record { indices = s.indices.0; calls = s.calls.0 }, record { indices = s.indices.1; calls = s.calls.1 })

  pub of_all : (a : Formula) → Scoped preds k (All a) → Scoped preds (suc k) a
  unfolding ScopedIn CallsFit
  of_all a s = record { indices = s.indices; calls = s.calls }

  pub of_ex : (a : Formula) → Scoped preds k (Ex a) → Scoped preds (suc k) a
  unfolding ScopedIn CallsFit
  of_ex a s = record { indices = s.indices; calls = s.calls }

  pub of_later : (a : Formula) → Scoped preds k (Later a) → Scoped preds k a
  unfolding ScopedIn CallsFit
  of_later a s = record { indices = s.indices; calls = s.calls }

  pub of_pers : (a : Formula) → Scoped preds k (Pers a) → Scoped preds k a
  unfolding ScopedIn CallsFit
  of_pers a s = record { indices = s.indices; calls = s.calls }

  pub of_upd : (a : Formula) → Scoped preds k (Upd a) → Scoped preds k a
  unfolding ScopedIn CallsFit
  of_upd a s = record { indices = s.indices; calls = s.calls }

  pub of_fact : (p : P.Pure) → Scoped preds k (Assert p) → PureScoped k p
  unfolding ScopedIn
  of_fact p s = s.indices

  pub fact : (p : P.Pure) → PureScoped k p → Scoped preds k (Assert p)
  unfolding ScopedIn CallsFit
  fact p s = record { indices = s; calls = tt }

  pub of_facts : (p q : P.Pure) → Scoped preds k (Assert (both p q)) → Both (Assert p) (Assert q)
  unfolding ScopedIn PureScoped
  of_facts p q s = (fact p s.indices.0, fact q s.indices.1)

  pub of_either : (p q : P.Pure) → Scoped preds k (Assert (either p q)) → Both (Assert p) (Assert q)
  unfolding ScopedIn PureScoped
  of_either p q s = (fact p s.indices.0, fact q s.indices.1)

  pub of_location : (l : Term) (u : ℕ) (v : Term) → Scoped preds k (Pts l u v) → TermScoped k l × TermScoped k v
  unfolding ScopedIn
  of_location l u v s = s.indices

  pub of_units : (l : Term) (u : ℕ) (v : Term) → Scoped preds k (Pts l u v) → (1 ≤ u) × (u ≤ UNIT)
  unfolding CallsFit
  of_units l u v s = s.calls

  -- ---- wholes

  pub sep : (a b : Formula) → Scoped preds k a → Scoped preds k b → Scoped preds k (Sep a b)
  unfolding ScopedIn CallsFit
  sep a b s t = record { indices = (s.indices, t.indices); calls = (s.calls, t.calls) }

  pub wand : (a b : Formula) → Scoped preds k a → Scoped preds k b → Scoped preds k (Wand a b)
  unfolding ScopedIn CallsFit
  wand a b s t = record { indices = (s.indices, t.indices); calls = (s.calls, t.calls) }

  pub and_ : (a b : Formula) → Scoped preds k a → Scoped preds k b → Scoped preds k (And a b)
  unfolding ScopedIn CallsFit
  and_ a b s t = record { indices = (s.indices, t.indices); calls = (s.calls, t.calls) }

  pub or_ : (a b : Formula) → Scoped preds k a → Scoped preds k b → Scoped preds k (Or a b)
  unfolding ScopedIn CallsFit
  or_ a b s t = record { indices = (s.indices, t.indices); calls = (s.calls, t.calls) }

  pub all : (a : Formula) → Scoped preds (suc k) a → Scoped preds k (All a)
  unfolding ScopedIn CallsFit
  all a s = record { indices = s.indices; calls = s.calls }

  pub ex : (a : Formula) → Scoped preds (suc k) a → Scoped preds k (Ex a)
  unfolding ScopedIn CallsFit
  ex a s = record { indices = s.indices; calls = s.calls }

  pub later : (a : Formula) → Scoped preds k a → Scoped preds k (Later a)
  unfolding ScopedIn CallsFit
  later a s = record { indices = s.indices; calls = s.calls }

  pub pers : (a : Formula) → Scoped preds k a → Scoped preds k (Pers a)
  unfolding ScopedIn CallsFit
  pers a s = record { indices = s.indices; calls = s.calls }

  pub upd : (a : Formula) → Scoped preds k a → Scoped preds k (Upd a)
  unfolding ScopedIn CallsFit
  upd a s = record { indices = s.indices; calls = s.calls }

  pub points_to : (l : Term) (u : ℕ) (v : Term) → TermScoped k l → TermScoped k v → 1 ≤ u → u ≤ UNIT → Scoped preds k (Pts l u v)
  unfolding ScopedIn CallsFit
  points_to l u v s t some most = record { indices = (s, t); calls = (some, most) }

  pub truth : Scoped preds k (Assert True)
  unfolding ScopedIn PureScoped CallsFit
  truth = record { indices = tt; calls = tt }

  pub falsehood : Scoped preds k (Assert False)
  unfolding ScopedIn PureScoped CallsFit
  falsehood = record { indices = tt; calls = tt }

  pub not_pure : (p : P.Pure) → PureScoped k p → PureScoped k (nope p)
  unfolding PureScoped
  not_pure p s = s

  pub of_equation : (s t : Term) → PureScoped k (Eq s t) → TermScoped k s × TermScoped k t
  unfolding PureScoped
  of_equation s t h = h

  pub equation : (s t : Term) → TermScoped k s → TermScoped k t → PureScoped k (Eq s t)
  unfolding PureScoped
  equation s t g h = (g, h)

-- ---- terms for indices

pub moved : (preds : Preds) (j k : ℕ) (f : Sub) → Reaches j k f → (a : Formula) → Scoped preds j a → Scoped preds k (in_formula f a)
moved preds j k f reaches a s = record { indices = in_formula_scoped j k f reaches a s.indices; calls = in_formula_fits preds.list f a s.calls }

pub pure_moved : (j k : ℕ) (f : Sub) → Reaches j k f → (p : P.Pure) → PureScoped j p → PureScoped k (in_pure f p)
unfolding ScopedIn in_formula
pure_moved j k f reaches p s = in_formula_scoped j k f reaches (Assert p) s

pub shifted : (preds : Preds) (k : ℕ) (a : Formula) → Scoped preds k a → Scoped preds (suc k) (shift_of a)
shifted preds k a s = moved preds k (suc k) one_up (one_up_reaches k) a s

pub pure_shifted : (k : ℕ) (p : P.Pure) → PureScoped k p → PureScoped (suc k) (shifted_pure p)
pure_shifted k p s = pure_moved k (suc k) one_up (one_up_reaches k) p s

pub opened : (preds : Preds) (k : ℕ) (a : Formula) (t : Term) → Scoped preds (suc k) a → TermScoped k t → Scoped preds k (opened_of a t)
opened preds k a t s g = moved preds (suc k) k (first t) (first_reaches k t g) a s

-- ---- more variables

in_more : (k n : ℕ) (f : Formula) → k ≤ n → ScopedIn k f → ScopedIn n f
unfolding ScopedIn
in_more k n (Assert a) le h = pure_grows k n a le h
in_more k n (Sep a b) le h = (in_more k n a le h.0, in_more k n b le h.1)
in_more k n (Wand a b) le h = (in_more k n a le h.0, in_more k n b le h.1)
in_more k n (And a b) le h = (in_more k n a le h.0, in_more k n b le h.1)
in_more k n (Or a b) le h = (in_more k n a le h.0, in_more k n b le h.1)
in_more k n (Imp a b) le h = (in_more k n a le h.0, in_more k n b le h.1)
in_more k n (All a) le h = in_more (suc k) (suc n) a (omega arith) h
in_more k n (Ex a) le h = in_more (suc k) (suc n) a (omega arith) h
in_more k n (Later a) le h = in_more k n a le h
in_more k n (Pers a) le h = in_more k n a le h
in_more k n (Upd a) le h = in_more k n a le h
in_more k n (Pts l u v) le h = (term_grows k n l le h.0, term_grows k n v le h.1)
in_more k n (Call q args) le h = terms_grow k n args le h

pub grown : (preds : Preds) (k n : ℕ) (f : Formula) → k ≤ n → Scoped preds k f → Scoped preds n f
grown preds k n f le s = record { indices = in_more k n f le s.indices; calls = s.calls }

-- ---- without a variable that isn't mentioned

none_of : (a b : Bool) → a || b ≡ false → (a ≡ false) × (b ≡ false)
none_of true b h = absurd cc
none_of false b h = (refl, h)

not_same : (i x : ℕ) → nat_eq i x ≡ false → i ≡ x → ⊥
not_same i x e q = let same : nat_eq i x ≡ true = (Decides-eqb i x).1 q in absurd cc

-- each index below j but i has a term that is scoped in k
abbrev ReachesBut : ℕ → ℕ → ℕ → Sub → Type 0
ReachesBut i j k f = (x : ℕ) → x < j → (i ≡ x → ⊥) → TermScoped k (f x)

under_but : (i j k : ℕ) (f : Sub) → ReachesBut i j k f → ReachesBut (suc i) (suc j) (suc k) (under f)
under_but i j k f h zero lt other = newest k
under_but i j k f h (suc x) lt other = raised_scoped k (f x) (h x (omega arith) (λ q. other (ap suc q)))

term_but : (i j k : ℕ) (f : Sub) → ReachesBut i j k f → (t : Term) → TermScoped j t → in_a_term i t ≡ false → TermScoped k (in_term f t)
unfolding TermScoped in_term in_a_term
term_but i j k f h (Lit z) s e = tt
term_but i j k f h (Var x) s e = h x s (not_same i x e)
term_but i j k f h (add a b) s e = let g = none_of (in_a_term i a) (in_a_term i b) e in (term_but i j k f h a s.0 g.0, term_but i j k f h b s.1 g.1)
term_but i j k f h (sub a b) s e = let g = none_of (in_a_term i a) (in_a_term i b) e in (term_but i j k f h a s.0 g.0, term_but i j k f h b s.1 g.1)
term_but i j k f h (neg a) s e = term_but i j k f h a s e
term_but i j k f h (scale z a) s e = term_but i j k f h a s e

terms_but : (i j k : ℕ) (f : Sub) → ReachesBut i j k f → (ts : List Term) → TermsScoped j ts → in_some_term i ts ≡ false → TermsScoped k (map (in_term f) ts)
unfolding TermsScoped in_some_term
terms_but i j k f h [] s e = tt
terms_but i j k f h (t ∷ ts) s e = let g = none_of (in_a_term i t) (in_some_term i ts) e in (term_but i j k f h t s.0 g.0, terms_but i j k f h ts s.1 g.1)

pure_but : (i j k : ℕ) (f : Sub) → ReachesBut i j k f → (p : P.Pure) → PureScoped j p → in_a_pure i p ≡ false → PureScoped k (in_pure f p)
unfolding PureScoped in_pure in_a_pure
pure_but i j k f h True s e = tt
pure_but i j k f h False s e = tt
pure_but i j k f h (Eq a b) s e = let g = none_of (in_a_term i a) (in_a_term i b) e in (term_but i j k f h a s.0 g.0, term_but i j k f h b s.1 g.1)
pure_but i j k f h (Le a b) s e = let g = none_of (in_a_term i a) (in_a_term i b) e in (term_but i j k f h a s.0 g.0, term_but i j k f h b s.1 g.1)
pure_but i j k f h (Lt a b) s e = let g = none_of (in_a_term i a) (in_a_term i b) e in (term_but i j k f h a s.0 g.0, term_but i j k f h b s.1 g.1)
pure_but i j k f h (both a b) s e = let g = none_of (in_a_pure i a) (in_a_pure i b) e in (pure_but i j k f h a s.0 g.0, pure_but i j k f h b s.1 g.1)
pure_but i j k f h (either a b) s e = let g = none_of (in_a_pure i a) (in_a_pure i b) e in (pure_but i j k f h a s.0 g.0, pure_but i j k f h b s.1 g.1)
pure_but i j k f h (nope a) s e = pure_but i j k f h a s e

formula_but : (i j k : ℕ) (f : Sub) → ReachesBut i j k f → (a : Formula) → ScopedIn j a → in_a_formula i a ≡ false → ScopedIn k (in_formula f a)
unfolding ScopedIn in_formula in_a_formula
formula_but i j k f h (Assert p) s e = pure_but i j k f h p s e
formula_but i j k f h (Sep a b) s e = let g = none_of (in_a_formula i a) (in_a_formula i b) e in (formula_but i j k f h a s.0 g.0, formula_but i j k f h b s.1 g.1)
formula_but i j k f h (Wand a b) s e = let g = none_of (in_a_formula i a) (in_a_formula i b) e in (formula_but i j k f h a s.0 g.0, formula_but i j k f h b s.1 g.1)
formula_but i j k f h (And a b) s e = let g = none_of (in_a_formula i a) (in_a_formula i b) e in (formula_but i j k f h a s.0 g.0, formula_but i j k f h b s.1 g.1)
formula_but i j k f h (Or a b) s e = let g = none_of (in_a_formula i a) (in_a_formula i b) e in (formula_but i j k f h a s.0 g.0, formula_but i j k f h b s.1 g.1)
formula_but i j k f h (Imp a b) s e = let g = none_of (in_a_formula i a) (in_a_formula i b) e in (formula_but i j k f h a s.0 g.0, formula_but i j k f h b s.1 g.1)
formula_but i j k f h (All a) s e = formula_but (suc i) (suc j) (suc k) (under f) (under_but i j k f h) a s e
formula_but i j k f h (Ex a) s e = formula_but (suc i) (suc j) (suc k) (under f) (under_but i j k f h) a s e
formula_but i j k f h (Later a) s e = formula_but i j k f h a s e
formula_but i j k f h (Pers a) s e = formula_but i j k f h a s e
formula_but i j k f h (Upd a) s e = formula_but i j k f h a s e
formula_but i j k f h (Pts l u v) s e = let g = none_of (in_a_term i l) (in_a_term i v) e in (term_but i j k f h l s.0 g.0, term_but i j k f h v s.1 g.1)
formula_but i j k f h (Call q args) s e = terms_but i j k f h args s e

-- which side of the variable that is left out
lowered : (i m x : ℕ) (b : Bool) → nat_lt i x ≡ b → i < suc m → x < suc m → (i ≡ x → ⊥) → (if b then pred x else x) < m
lowered i m x true e low lt other = grind (arith, nat_tests, e, lt)
lowered i m x false e low lt other =
    let upper : x ≤ i = grind (arith, nat_tests, e) in
    let apart : x < i = omega (arith, upper, other) in
    omega (arith, apart, low)

without_reaches : (i m : ℕ) → i < suc m → ReachesBut i (suc m) m (without i)
unfolding TermScoped
without_reaches i m low x lt other = lowered i m x (nat_lt i x) refl low lt other

pub pure_without : (i m : ℕ) (p : P.Pure) → i < suc m → PureScoped (suc m) p → in_a_pure i p ≡ false → PureScoped m (in_pure (without i) p)
pure_without i m p low s e = pure_but i (suc m) m (without i) (without_reaches i m low) p s e

pub formula_without : (preds : Preds) (i m : ℕ) (a : Formula) → i < suc m → Scoped preds (suc m) a → in_a_formula i a ≡ false → Scoped preds m (in_formula (without i) a)
formula_without preds i m a low s e = record { indices = formula_but i (suc m) m (without i) (without_reaches i m low) a s.indices e; calls = in_formula_fits preds.list (without i) a s.calls }

front : (i m x : ℕ) (b c : Bool) → nat_eq i x ≡ b → nat_lt i x ≡ c → i < suc m → x < suc m → (if b then 0 else (if c then x else suc x)) < suc m
front i m x true c e f low lt = omega arith
front i m x false true e f low lt = lt
front i m x false false e f low lt =
    let upper : x ≤ i = grind (arith, nat_tests, f) in
    let other : i ≡ x → ⊥ = not_same i x e in
    let apart : x < i = omega (arith, upper, other) in
    omega (arith, apart, low)

-- the variable that a binder of its own binds
pub to_front_scoped : (preds : Preds) (i m : ℕ) (a : Formula) → i < suc m → Scoped preds (suc m) a → Scoped preds (suc m) (in_formula (to_front i) a)
unfolding TermScoped
to_front_scoped preds i m a low s = moved preds (suc m) (suc m) (to_front i) (λ x lt. front i m x (nat_eq i x) (nat_lt i x) refl refl low lt) a s
