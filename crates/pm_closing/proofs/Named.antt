-- What a name names, by the place at which it is found.
use Rattle.std.proofs.Common.{◌≡◌, ℕ, suc, ◌+◌, Bool, true, false, cond, List, [], ◌∷◌, refl, ap, sym, ◌∙◌, arith, Option, Some, None, bytes_eq}
use Rattle.std.specs.Prelude.{slice_get, option_map, position, is_some}
use Rattle.std.specs.List.{position_from}
use Rattle.std.proofs.lemmas.Iterator.Adapters.{position_from-zero}
use Rattle.pm_logic.specs.declared.formula.Pure.{Pure}
use Rattle.pm_logic.specs.declared.formula.Formula.{Formula}
use Rattle.pm_goal.specs.declared.goal.Hyp.{Hyp}
use Rattle.pm_goal.specs.declared.goal.Fact.{Fact}
use Rattle.pm_table.specs.Works.{Named, hyp_named, fact_named}
use Rattle.pm_table.specs.Basic.{passes}

-- the step of a look-up at one item
none_by : {B : Type 0} (b : Bool) (j : ℕ) (y : B) (o : Option B) (p : Option ℕ) → cond b (Some j) p ≡ None → (p ≡ None → o ≡ None) → cond b (Some y) o ≡ None
none_by true j y o p e f = absurd cc
none_by false j y o p e f = f e

some_by : {A B : Type 0} (part : A → B) (b : Bool) (x : A) (xs : List A) (i j : ℕ) (o : Option B) (p : Option ℕ) → cond b (Some j) p ≡ Some i → (p ≡ Some i → (n : ℕ) × (i ≡ n + (j + 1)) × (o ≡ option_map part (slice_get xs n))) → (n : ℕ) × (i ≡ n + j) × (cond b (Some (part x)) o ≡ option_map part (slice_get (x ∷ xs) n))
some_by part true x xs i j o p e f = let same : j ≡ i = cc in (0, omega (arith, same), refl)
some_by part false x xs i j o p e f = let r = f e in (suc r.0, omega (arith, r.1), r.2)

at_by : {A : Type 0} (b : Bool) (x : A) (xs : List A) (i j : ℕ) (p : Option ℕ) → cond b (Some j) p ≡ Some i → (p ≡ Some i → (y : A) × (n : ℕ) × (i ≡ n + (j + 1)) × (slice_get xs n ≡ Some y)) → (y : A) × (n : ℕ) × (i ≡ n + j) × (slice_get (x ∷ xs) n ≡ Some y)
at_by true x xs i j p e f = let same : j ≡ i = cc in (x, 0, omega (arith, same), refl)
at_by false x xs i j p e f = let r = f e in (r.0, suc r.1, omega (arith, r.2), r.3)

-- a look-up by a test, written by recursion
module _ {A B : Type 0} (test : A → Bool) (part : A → B) (look : List A → Option B) (nil : look [] ≡ None) (more : (x : A) (xs : List A) → look (x ∷ xs) ≡ cond (test x) (Some (part x)) (look xs)) where
  none_from : (xs : List A) (j : ℕ) → position_from test j xs ≡ None → look xs ≡ None
  none_from [] j e = nil
  none_from (x ∷ xs) j e = more x xs ∙ none_by (test x) j (part x) (look xs) (position_from test (j + 1) xs) e (none_from xs (j + 1))

  some_from : (xs : List A) (i j : ℕ) → position_from test j xs ≡ Some i → (n : ℕ) × (i ≡ n + j) × (look xs ≡ option_map part (slice_get xs n))
  some_from [] i j e = absurd cc
  some_from (x ∷ xs) i j e =
      let r = some_by part (test x) x xs i j (look xs) (position_from test (j + 1) xs) e (some_from xs i (j + 1)) in
      (r.0, r.1, more x xs ∙ r.2)

  at_from : (xs : List A) (i j : ℕ) → position_from test j xs ≡ Some i → (y : A) × (n : ℕ) × (i ≡ n + j) × (slice_get xs n ≡ Some y)
  at_from [] i j e = absurd cc
  at_from (x ∷ xs) i j e = at_by (test x) x xs i j (position_from test (j + 1) xs) e (at_from xs i (j + 1))

  look_none : (xs : List A) → None ≡ position test xs → look xs ≡ None
  look_none xs e = none_from xs 0 (sym (e ∙ position_from-zero test xs))

  look_at : (xs : List A) (i : ℕ) → Some i ≡ position test xs → look xs ≡ option_map part (slice_get xs i)
  look_at xs i e =
      let r = some_from xs i 0 (sym (e ∙ position_from-zero test xs)) in
      let same : r.0 ≡ i = omega (arith, r.1) in
      r.2 ∙ ap (λ n. option_map part (slice_get xs n)) same

  -- whether something is found
  look_some : (xs : List A) (o : Option ℕ) → o ≡ position test xs → is_some o ≡ is_some (look xs)
  look_some xs None e = ap is_some (sym (look_none xs e))
  look_some xs (Some i) e =
      let r = at_from xs i 0 (sym (e ∙ position_from-zero test xs)) in
      let same : r.1 ≡ i = omega (arith, r.2) in
      let at : slice_get xs i ≡ Some r.0 = ap (slice_get xs) (sym same) ∙ r.3 in
      sym (ap is_some (look_at xs i e ∙ ap (option_map part) at))

-- ---- hypotheses

module _ (name : Named) where
  abbrev hyp_test : Hyp → Bool
  hyp_test h = bytes_eq name h.name

  abbrev fact_test : Fact → Bool
  fact_test f = bytes_eq name f.name

  pub no_hyp : (hs : List Hyp) → None ≡ position hyp_test hs → hyp_named name hs ≡ None
  no_hyp hs e = look_none hyp_test (λ (h : Hyp). h.formula) (hyp_named name) refl (λ x xs. refl) hs e

  pub hyp_at : (hs : List Hyp) (i : ℕ) (o : Option Formula) → Some i ≡ position hyp_test hs → o ≡ option_map (λ (h : Hyp). h.formula) (slice_get hs i) → hyp_named name hs ≡ o
  hyp_at hs i o e is = look_at hyp_test (λ (h : Hyp). h.formula) (hyp_named name) refl (λ x xs. refl) hs i e ∙ sym is

  pub is_hyp : (hs : List Hyp) (o : Option ℕ) → o ≡ position hyp_test hs → is_some o ≡ is_some (hyp_named name hs)
  is_hyp hs o e = look_some hyp_test (λ (h : Hyp). h.formula) (hyp_named name) refl (λ x xs. refl) hs o e

  pub no_fact : (fs : List Fact) → None ≡ position fact_test fs → fact_named name fs ≡ None
  no_fact fs e = look_none fact_test (λ (f : Fact). f.pure) (fact_named name) refl (λ x xs. refl) fs e

  pub fact_at : (fs : List Fact) (i : ℕ) (o : Option Pure) → Some i ≡ position fact_test fs → o ≡ option_map (λ (f : Fact). f.pure) (slice_get fs i) → fact_named name fs ≡ o
  fact_at fs i o e is = look_at fact_test (λ (f : Fact). f.pure) (fact_named name) refl (λ x xs. refl) fs i e ∙ sym is

  pub is_fact : (fs : List Fact) (o : Option ℕ) → o ≡ position fact_test fs → is_some o ≡ is_some (fact_named name fs)
  is_fact fs o e = look_some fact_test (λ (f : Fact). f.pure) (fact_named name) refl (λ x xs. refl) fs o e

-- ---- what a test of what is named tells

pub passes_none : {A : Type 0} (test : A → Bool) (o : Option A) → o ≡ None → passes test o ≡ false
passes_none test o e = ap (passes test) e

pub passes_some : {A : Type 0} (test : A → Bool) (o : Option A) (x : A) (b : Bool) → o ≡ Some x → test x ≡ b → passes test o ≡ b
passes_some test o x b e is = ap (passes test) e ∙ is
