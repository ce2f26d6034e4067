-- A formula that loses a variable which it doesn't mention, or goes under a binder of it, and the variable back in its place.
use Rattle.std.proofs.Common.{◌≡◌, ℕ, zero, suc, pred, ◌<◌, ◌≤◌, Bool, true, false, if◌then◌else◌, refl, sym, ◌∙◌, ap, subst, arith, pos}
use Rattle.std.specs.Prelude.{nat_eq, nat_lt}
use Rattle.std.proofs.lemmas.Bool.Decides.{nat_tests}
use denote.Hole.Carrier as carrier
use Rattle.pm_logic.specs.declared.formula.Term.{Term}
use Rattle.pm_logic.specs.declared.formula.Term.TheVariants.{Lit, Var}
use Rattle.pm_logic.specs.declared.formula.Formula.{Formula}
use Rattle.pm_logic.specs.declared.formula.Formula.TheViews as view
use Rattle.pm_logic.specs.declared.formula.Formula.TheBlock as block
use Rattle.pm_logic.specs.Scope.{TermScoped, ScopedIn}
use Rattle.pm_logic.specs.Substitution.{Sub, in_term, in_formula, raised, under, entries, first, one_up, subst_of, opened_of}
use Rattle.pm_logic.proofs.Agrees.{formula_agrees}
use Rattle.pm_logic.proofs.Kept.{Reaches, in_formula_scoped}
use Rattle.pm_classes.proofs.Undone.{body_opened}
use Rattle.pm_table.specs.Occurrences.{in_a_formula, without, to_front}
use Rattle.pm_basic.specs.Replacements.{around, bound, first_terms}
use Rattle.pm_basic.proofs.Composed.{formula_both, formula_but}
use Rattle.pm_basic.proofs.Replaced.{first_entry}

pub fill_all : (f : Sub) (a : Formula) → in_formula f (view.All a) ≡ view.All (in_formula (under f) a)
unfolding block.shape-the_row-Formula-0 block.hidden-the_row-Formula-0 carrier.hidden in_formula
fill_all f a = refl

-- ---- a formula that doesn't mention the variable

-- the term for the index i, and each other one for itself
abbrev put : ℕ → Term → Sub
put i t j = if nat_eq i j then t else Var j

put_others : (i : ℕ) (t : Term) (x : ℕ) → nat_eq i x ≡ false → put i t x ≡ Var x
put_others i t x e = rw e refl

put_agrees : (i x : ℕ) (f : Sub) (b : Bool) → nat_eq i x ≡ b → (nat_eq i x ≡ false → f x ≡ Var x) → f x ≡ put i (f i) x
put_agrees i x f true e h = let same : i ≡ x = grind (arith, nat_tests, e) in ap f (sym same) ∙ sym (rw e refl)
put_agrees i x f false e h = h e ∙ sym (put_others i (f i) x e)

-- what keeps each index below k but i keeps a formula in which i isn't
kept_below : (k i : ℕ) (f : Sub) (a : Formula) → ((x : ℕ) → x < k → nat_eq i x ≡ false → f x ≡ Var x) → ScopedIn k a → in_a_formula i a ≡ false → in_formula f a ≡ a
kept_below k i f a h s e = formula_agrees k f (put i (f i)) (λ x lt. put_agrees i x f (nat_eq i x) refl (h x lt)) a s ∙ formula_but i (put i (f i)) (put_others i (f i)) a e

-- ---- indices

module _ (i m : ℕ) (low : i < suc m) where
  abbrev back : Sub
  back = entries (first_terms (around i) m)

  entry_at : (j : ℕ) → j < m → back j ≡ around i j
  entry_at j lt = first_entry (around i) m j lt

  around_below : (j : ℕ) (b : Bool) → nat_lt j i ≡ b → j < i → Var (if b then j else suc j) ≡ Var j
  around_below j true e lt = refl
  around_below j false e lt = let le : i ≤ j = grind (arith, nat_tests, e) in absurd (omega (arith, lt, le))

  around_above : (j : ℕ) (b : Bool) → nat_lt j i ≡ b → i ≤ j → Var (if b then j else suc j) ≡ Var (suc j)
  around_above j true e le = let lt : j < i = grind (arith, nat_tests, e) in absurd (omega (arith, lt, le))
  around_above j false e le = refl

  back_below : (j : ℕ) → j < i → back j ≡ Var j
  back_below j lt = entry_at j (omega (arith, lt, low)) ∙ around_below j (nat_lt j i) refl lt

  back_above : (j : ℕ) → i ≤ j → j < m → back j ≡ Var (suc j)
  back_above j le lt = entry_at j lt ∙ around_above j (nat_lt j i) refl le

  other_side : (x : ℕ) → nat_eq i x ≡ false → nat_lt i x ≡ false → x < i
  other_side x e f = grind (arith, nat_tests, e, f)

  above : (x : ℕ) → nat_lt i x ≡ true → i < x
  above x f = grind (arith, nat_tests, f)

  -- an index that loses the variable and gets it back
  regained_step : (x : ℕ) (b : Bool) → x < suc m → nat_eq i x ≡ false → nat_lt i x ≡ b → back (if b then pred x else x) ≡ Var x
  regained_step x true lt e f =
      let over : i < x = above x f in
      let next : suc (pred x) ≡ x = omega (arith, over) in
      back_above (pred x) (omega (arith, over, next)) (omega (arith, lt, next)) ∙ ap Var next
  regained_step x false lt e f = back_below x (other_side x e f)

  regained_index : (x : ℕ) → x < suc m → nat_eq i x ≡ false → in_term back (without i x) ≡ Var x
  unfolding in_term
  regained_index x lt e = regained_step x (nat_lt i x) lt e refl

  -- under the binder that binds it
  rebound_step : (x : ℕ) (b c : Bool) → x < suc m → nat_eq i x ≡ b → nat_lt i x ≡ c → under back (if b then 0 else (if c then x else suc x)) ≡ Var (if b then 0 else suc x)
  rebound_step x true c lt e f = refl
  rebound_step x false true lt e f =
      let over : i < x = above x f in
      let next : suc (pred x) ≡ x = omega (arith, over) in
      subst (λ (n : ℕ). under back n ≡ Var (suc x)) next (ap raised (back_above (pred x) (omega (arith, over, next)) (omega (arith, lt, next))) ∙ ap (λ n. Var (suc n)) next)
  rebound_step x false false lt e f = ap raised (back_below x (other_side x e f))

  rebound_index : (x : ℕ) → x < suc m → in_term (under back) (to_front i x) ≡ bound i x
  unfolding in_term
  rebound_index x lt = rebound_step x (nat_eq i x) (nat_lt i x) lt refl refl

  -- ---- formulas

  pub star_regained : (a : Formula) → ScopedIn (suc m) a → in_a_formula i a ≡ false → subst_of (in_formula (without i) a) (first_terms (around i) m) ≡ a
  star_regained a s e =
      let both : Sub = λ x. in_term back (without i x) in
      formula_both (without i) back both (λ x. refl) a ∙ kept_below (suc m) i both a (λ x lt other. regained_index x lt other) s e

  pub concl_rebound : (c : Formula) → ScopedIn (suc m) c → subst_of (view.All (in_formula (to_front i) c)) (first_terms (around i) m) ≡ view.All (in_formula (bound i) c)
  concl_rebound c s =
      let both : Sub = λ x. in_term (under back) (to_front i x) in
      fill_all back (in_formula (to_front i) c)
      ∙ ap view.All (formula_both (to_front i) (under back) both (λ x. refl) c ∙ formula_agrees (suc m) both (bound i) (λ x lt. rebound_index x lt) c s)

  -- ---- scopes

  without_step : (x : ℕ) (b : Bool) → x < suc m → nat_eq i x ≡ false → nat_lt i x ≡ b → (if b then pred x else x) < m
  without_step x true lt e f =
      let over : i < x = above x f in
      let next : suc (pred x) ≡ x = omega (arith, over) in
      let less : pred x < m = omega (arith, lt, next) in
      less
  without_step x false lt e f = omega (arith, other_side x e f, low)

  lost_reach : (x : ℕ) (b : Bool) → nat_eq i x ≡ b → x < suc m → TermScoped m (in_term (without i) (if b then Lit (pos 0) else Var x))
  unfolding TermScoped in_term
  lost_reach x true e lt = tt
  lost_reach x false e lt = without_step x (nat_lt i x) lt e refl

  pub lost_scoped : (a : Formula) → ScopedIn (suc m) a → in_a_formula i a ≡ false → ScopedIn m (in_formula (without i) a)
  lost_scoped a s e =
      let z : Sub = put i (Lit (pos 0)) in
      let both : Sub = λ x. in_term (without i) (z x) in
      let same : in_formula both a ≡ in_formula (without i) a = sym (formula_both z (without i) both (λ x. refl) a) ∙ ap (in_formula (without i)) (formula_but i z (put_others i (Lit (pos 0))) a e) in
      subst (ScopedIn m) same (in_formula_scoped (suc m) m both (λ x lt. lost_reach x (nat_eq i x) refl lt) a s)

  front_step : (x : ℕ) (b c : Bool) → x < suc m → nat_eq i x ≡ b → nat_lt i x ≡ c → (if b then 0 else (if c then x else suc x)) < suc m
  front_step x true c lt e f = omega arith
  front_step x false true lt e f = lt
  front_step x false false lt e f = omega (arith, other_side x e f, low)

  front_reaches : Reaches (suc m) (suc m) (to_front i)
  unfolding TermScoped
  front_reaches x lt = front_step x (nat_eq i x) (nat_lt i x) lt refl refl

  pub front_scoped : (c : Formula) → ScopedIn (suc m) c → ScopedIn (suc m) (in_formula (to_front i) c)
  front_scoped c s = in_formula_scoped (suc m) (suc m) (to_front i) front_reaches c s

-- ---- the body

bound_step : (k x : ℕ) (b : Bool) → x < k → (if b then 0 else suc x) < suc k
bound_step k x true lt = omega arith
bound_step k x false lt = omega (arith, lt)

bound_reaches : (i k : ℕ) → Reaches k (suc k) (bound i)
unfolding TermScoped
bound_reaches i k x lt = bound_step k x (nat_eq i x) lt

pub body_scoped : (i k : ℕ) (c : Formula) → ScopedIn k c → ScopedIn (suc k) (in_formula (bound i) c)
body_scoped i k c s = in_formula_scoped k (suc k) (bound i) (bound_reaches i k) c s

up_and_back : (x : ℕ) → in_term (first (Var 0)) (under one_up x) ≡ Var x
unfolding in_term
up_and_back zero = refl
up_and_back (suc x) = refl

same_again : (b : Formula) → in_formula Var b ≡ b
same_again b = sym (formula_both (under one_up) (first (Var 0)) Var up_and_back b) ∙ body_opened b

opened_step : (i x : ℕ) (b : Bool) → nat_eq i x ≡ b → first (Var i) (if b then 0 else suc x) ≡ Var x
opened_step i x true e = let same : i ≡ x = grind (arith, nat_tests, e) in ap Var same
opened_step i x false e = refl

opened_index : (i x : ℕ) → in_term (first (Var i)) (bound i x) ≡ Var x
unfolding in_term
opened_index i x = opened_step i x (nat_eq i x) refl

-- the variable in the place of the one that is bound
pub body_for_variable : (i : ℕ) (c : Formula) → opened_of (in_formula (bound i) c) (Var i) ≡ c
body_for_variable i c = formula_both (bound i) (first (Var i)) Var (opened_index i) c ∙ same_again c
