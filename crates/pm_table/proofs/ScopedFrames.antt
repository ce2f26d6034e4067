-- What framing leaves is scoped where the hypothesis and the conclusion are.
use Rattle.std.proofs.Common.{◌≡◌, ℕ, suc, ◌-◌, ◌<◌, ◌≤◌, Bool, true, false, cond, ◌&&◌, ◌||◌, nat_lt, refl, arith, Option, Some, None, option_and_then}
use Rattle.std.specs.Bool.{then_some}
use Rattle.std.proofs.lemmas.Bool.Decides.{nat_tests}
use Rattle.pm_logic.specs.declared.formula.Term.{Term}
use Rattle.pm_logic.specs.declared.formula.Formula.{Formula}
use Rattle.pm_logic.specs.declared.formula.Formula.TheVariants.{Pure as Fact, Pts, Call}
use Rattle.pm_logic.specs.declared.formula.Preds.{Preds}
use Rattle.pm_logic.specs.declared.formula.TheConstants.{UNIT}
use Rattle.pm_logic.specs.Trees.{Sep, Wand, And, Or, Imp, All, Ex, Later, Pers, Upd}
use Rattle.pm_logic.specs.Abstraction.{term_eq}
use Rattle.pm_logic.specs.Substitution.{shift_of}
use Rattle.pm_logic.specs.Scope.{Scoped}
use Rattle.pm_table.specs.Equality.{formula_eq}
use Rattle.pm_table.specs.Basic.{is_truth}
use Rattle.pm_table.specs.Modalities.{under_later}
use Rattle.pm_table.specs.Framing as framing
use Rattle.pm_table.specs.Framing.{star, conjunction, disjunction, above, whole, fewer_units, frame}
use Rattle.pm_table.proofs.Scopes.{of_sep, of_wand, of_and, of_or, of_all, of_ex, of_later, of_upd, of_location, of_units, sep, wand, and_, or_, all, ex, later, upd, points_to, truth, shifted}
use Rattle.pm_table.proofs.Scoping.{OneIn, one_of_two, either_formula}

module _ (preds : Preds) (k : ℕ) where
  pub some_if : (b : Bool) (f : Formula) → (b ≡ true → Scoped preds k f) → OneIn preds k (then_some b f)
  some_if true f s = s refl
  some_if false f s = tt

  pub and_then_in : (o : Option Formula) (g : Formula → Option Formula) → OneIn preds k o → ((f : Formula) → Scoped preds k f → OneIn preds k (g f)) → OneIn preds k (option_and_then g o)
  and_then_in None g h i = tt
  and_then_in (Some f) g h i = i f h

  pub under_later_in : (f : Formula) → Scoped preds k f → OneIn preds k (under_later f)
  unfolding under_later
  under_later_in (Later a) s = of_later preds k a s
  under_later_in _ s = tt

  star_in : (a b : Formula) (o q : Option Formula) → Scoped preds k a → Scoped preds k b → OneIn preds k o → OneIn preds k q → OneIn preds k (star a b o q)
  unfolding star
  star_in a b (Some l) q s t h g = either_formula preds k (is_truth l) b (Sep l b) t (sep preds k l b h t)
  star_in a b None (Some r) s t h g = either_formula preds k (is_truth r) a (Sep a r) s (sep preds k a r s g)
  star_in a b None None s t h g = tt

  conjunction_in : (a b : Formula) (o q : Option Formula) → Scoped preds k a → Scoped preds k b → OneIn preds k o → OneIn preds k q → OneIn preds k (conjunction a b o q)
  unfolding conjunction
  conjunction_in a b (Some l) (Some r) s t h g = either_formula preds k (is_truth l) r (cond (is_truth r) l (And l r)) g (either_formula preds k (is_truth r) l (And l r) h (and_ preds k l r h g))
  conjunction_in a b (Some l) None s t h g = either_formula preds k (is_truth l) b (And l b) t (and_ preds k l b h t)
  conjunction_in a b None (Some r) s t h g = either_formula preds k (is_truth r) a (And a r) s (and_ preds k a r s g)
  conjunction_in a b None None s t h g = tt

  disjunction_in : (a b : Formula) (o q : Option Formula) → Scoped preds k a → Scoped preds k b → OneIn preds k o → OneIn preds k q → OneIn preds k (disjunction a b o q)
  unfolding disjunction
  disjunction_in a b (Some l) (Some r) s t h g = either_formula preds k (is_truth l || is_truth r) framing.truth (Or l r) (truth preds k) (or_ preds k l r h g)
  disjunction_in a b (Some l) None s t h g = either_formula preds k (is_truth l) framing.truth (Or l b) (truth preds k) (or_ preds k l b h t)
  disjunction_in a b None (Some r) s t h g = either_formula preds k (is_truth r) framing.truth (Or a r) (truth preds k) (or_ preds k a r s g)
  disjunction_in a b None None s t h g = tt

  whole_in : (r q : Formula) → OneIn preds k (whole r q)
  unfolding whole
  whole_in r q = some_if (formula_eq r q) framing.truth (λ e. truth preds k)

above_in : (preds : Preds) (j k : ℕ) (node : Formula → Formula) → ((f : Formula) → Scoped preds j f → Scoped preds k (node f)) → (o : Option Formula) → OneIn preds j o → OneIn preds k (above node o)
unfolding above
above_in preds j k node made None h = tt
above_in preds j k node made (Some a) h = either_formula preds k (is_truth a) framing.truth (node a) (truth preds k) (made a h)

last_true : (a b c : Bool) → a && b && c ≡ true → c ≡ true
last_true true true c e = e
last_true true false c e = absurd cc
last_true false b c e = absurd cc

units_left : (a b : ℕ) → nat_lt a b ≡ true → b ≤ UNIT → (1 ≤ b - a) × (b - a ≤ UNIT)
units_left a b e le = let lt : a < b = grind (arith, nat_tests, e) in (omega (arith, lt), omega (arith, le))

fewer_units_in : (preds : Preds) (k : ℕ) (r : Formula) (l : Term) (b : ℕ) (v : Term) → Scoped preds k (Pts l b v) → OneIn preds k (fewer_units r l b v)
unfolding fewer_units
fewer_units_in preds k (Pts m a w) l b v s = some_if preds k (term_eq m l && term_eq w v && nat_lt a b) (Pts l (b - a) v) (λ e.
    let terms = of_location preds k l b v s in
    let units = of_units preds k l b v s in
    let left = units_left a b (last_true (term_eq m l) (term_eq w v) (nat_lt a b) e) units.1 in
    points_to preds k l (b - a) v terms.0 terms.1 left.0 left.1)
fewer_units_in preds k _ l b v s = tt

pub frame_in : (preds : Preds) (k : ℕ) (r q : Formula) → Scoped preds k r → Scoped preds k q → OneIn preds k (frame r q)
unfolding frame
frame_in preds k r (Pts l b v) s t = one_of_two preds k (whole r (Pts l b v)) (fewer_units r l b v) (whole_in preds k r (Pts l b v)) (fewer_units_in preds k r l b v t)
frame_in preds k r (Sep a b) s t = let h = of_sep preds k a b t in one_of_two preds k (whole r (Sep a b)) (star a b (frame r a) (frame r b)) (whole_in preds k r (Sep a b)) (star_in preds k a b (frame r a) (frame r b) h.0 h.1 (frame_in preds k r a s h.0) (frame_in preds k r b s h.1))
frame_in preds k r (And a b) s t = let h = of_and preds k a b t in one_of_two preds k (whole r (And a b)) (conjunction a b (frame r a) (frame r b)) (whole_in preds k r (And a b)) (conjunction_in preds k a b (frame r a) (frame r b) h.0 h.1 (frame_in preds k r a s h.0) (frame_in preds k r b s h.1))
frame_in preds k r (Or a b) s t = let h = of_or preds k a b t in one_of_two preds k (whole r (Or a b)) (disjunction a b (frame r a) (frame r b)) (whole_in preds k r (Or a b)) (disjunction_in preds k a b (frame r a) (frame r b) h.0 h.1 (frame_in preds k r a s h.0) (frame_in preds k r b s h.1))
frame_in preds k r (Ex a) s t = one_of_two preds k (whole r (Ex a)) (above (λ x. Ex x) (frame (shift_of r) a)) (whole_in preds k r (Ex a)) (above_in preds (suc k) k (λ x. Ex x) (ex preds k) (frame (shift_of r) a) (frame_in preds (suc k) (shift_of r) a (shifted preds k r s) (of_ex preds k a t)))
frame_in preds k r (All a) s t = one_of_two preds k (whole r (All a)) (above (λ x. All x) (frame (shift_of r) a)) (whole_in preds k r (All a)) (above_in preds (suc k) k (λ x. All x) (all preds k) (frame (shift_of r) a) (frame_in preds (suc k) (shift_of r) a (shifted preds k r s) (of_all preds k a t)))
frame_in preds k r (Later a) s t =
    let h = of_later preds k a t in
    let o : Option Formula = option_and_then (λ r0. frame r0 a) (under_later r) in
    one_of_two preds k (whole r (Later a)) (above (λ x. Later x) (framing.◌or◌ o (frame r a))) (whole_in preds k r (Later a)) (above_in preds k k (λ x. Later x) (later preds k) (framing.◌or◌ o (frame r a))
    (one_of_two preds k o (frame r a) (and_then_in preds k (under_later r) (λ r0. frame r0 a) (under_later_in preds k r s) (λ r0 u. frame_in preds k r0 a u h)) (frame_in preds k r a s h)))
frame_in preds k r (Upd a) s t = one_of_two preds k (whole r (Upd a)) (above (λ x. Upd x) (frame r a)) (whole_in preds k r (Upd a)) (above_in preds k k (λ x. Upd x) (upd preds k) (frame r a) (frame_in preds k r a s (of_upd preds k a t)))
frame_in preds k r (Wand a b) s t = let h = of_wand preds k a b t in one_of_two preds k (whole r (Wand a b)) (above (λ x. Wand a x) (frame r b)) (whole_in preds k r (Wand a b)) (above_in preds k k (λ x. Wand a x) (λ x u. wand preds k a x h.0 u) (frame r b) (frame_in preds k r b s h.1))
frame_in preds k r (Fact p) s t = whole_in preds k r (Fact p)
frame_in preds k r (Imp a b) s t = whole_in preds k r (Imp a b)
frame_in preds k r (Pers a) s t = whole_in preds k r (Pers a)
frame_in preds k r (Call p args) s t = whole_in preds k r (Call p args)
