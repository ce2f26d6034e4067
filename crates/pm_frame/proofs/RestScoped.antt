-- What framing leaves has no other indices than the hypothesis and the conclusion.
use Rattle.std.proofs.Common.{ℕ, suc, ◌-◌, ◌≡◌, Bool, true, false, ◌&&◌, ◌||◌, if◌then◌else◌, nat_lt, Option, None, Some, IfSome, refl}
use Rattle.std.specs.Bool.{then_some}
use Rattle.std.specs.Prelude.{option_and_then}
use Rattle.pm_logic.specs.declared.formula.Term.{Term}
use Rattle.pm_logic.specs.declared.formula.Formula.{Formula}
use Rattle.pm_logic.specs.declared.formula.Formula.TheVariants.{Pure as Fact, Pts, Call}
use Rattle.pm_logic.specs.Trees.{Sep, Wand, And, Or, Imp, All, Ex, Later, Pers, Upd}
use Rattle.pm_logic.specs.Abstraction.{term_eq}
use Rattle.pm_logic.specs.Scope.{PureScoped, ScopedIn}
use Rattle.pm_logic.specs.Substitution.{shift_of}
use Rattle.pm_goal.specs.Find.{first_of_two}
use Rattle.pm_classes.proofs.Bound.{shifted_in}
use Rattle.pm_table.specs.Equality.{formula_eq}
use Rattle.pm_table.specs.Basic.{is_truth}
use Rattle.pm_table.specs.Modalities.{under_later}
use Rattle.pm_table.specs.Framing.{truth, star, conjunction, disjunction, above, whole, fewer_units, frame}

abbrev pub OneIn : ℕ → Option Formula → Type 0
OneIn k o = IfSome o (ScopedIn k)

either_in : (k : ℕ) (c : Bool) (f g : Formula) → ScopedIn k f → ScopedIn k g → ScopedIn k (if c then f else g)
either_in k true f g s t = s
either_in k false f g s t = t

first_in : (k : ℕ) (o u : Option Formula) → OneIn k o → OneIn k u → OneIn k (first_of_two o u)
first_in k (Some f) u s t = s
first_in k None u s t = t

some_in : (k : ℕ) (c : Bool) (f : Formula) → ScopedIn k f → OneIn k (then_some c f)
some_in k true f s = s
some_in k false f s = tt

truth_in : (k : ℕ) → ScopedIn k truth
unfolding ScopedIn PureScoped
truth_in k = tt

star_in : (k : ℕ) (a b : Formula) (o u : Option Formula) → ScopedIn k a → ScopedIn k b → OneIn k o → OneIn k u → OneIn k (star a b o u)
unfolding star ScopedIn
star_in k a b (Some l) u s t h g = either_in k (is_truth l) b (Sep l b) t (h, t)
star_in k a b None (Some r) s t h g = either_in k (is_truth r) a (Sep a r) s (s, g)
star_in k a b None None s t h g = tt

conjunction_in : (k : ℕ) (a b : Formula) (o u : Option Formula) → ScopedIn k a → ScopedIn k b → OneIn k o → OneIn k u → OneIn k (conjunction a b o u)
unfolding conjunction ScopedIn
conjunction_in k a b (Some l) (Some r) s t h g = either_in k (is_truth l) r (if is_truth r then l else And l r) g (either_in k (is_truth r) l (And l r) h (h, g))
conjunction_in k a b (Some l) None s t h g = either_in k (is_truth l) b (And l b) t (h, t)
conjunction_in k a b None (Some r) s t h g = either_in k (is_truth r) a (And a r) s (s, g)
conjunction_in k a b None None s t h g = tt

disjunction_in : (k : ℕ) (a b : Formula) (o u : Option Formula) → ScopedIn k a → ScopedIn k b → OneIn k o → OneIn k u → OneIn k (disjunction a b o u)
unfolding disjunction ScopedIn
disjunction_in k a b (Some l) (Some r) s t h g = either_in k (is_truth l || is_truth r) truth (Or l r) (truth_in k) (h, g)
disjunction_in k a b (Some l) None s t h g = either_in k (is_truth l) truth (Or l b) (truth_in k) (h, t)
disjunction_in k a b None (Some r) s t h g = either_in k (is_truth r) truth (Or a r) (truth_in k) (s, g)
disjunction_in k a b None None s t h g = tt

above_in : (j k : ℕ) (node : Formula → Formula) → ((f : Formula) → ScopedIn j f → ScopedIn k (node f)) → (o : Option Formula) → OneIn j o → OneIn k (above node o)
unfolding above
above_in j k node made None h = tt
above_in j k node made (Some a) h = either_in k (is_truth a) truth (node a) (truth_in k) (made a h)

whole_in : (k : ℕ) (r q : Formula) → OneIn k (whole r q)
unfolding whole
whole_in k r q = some_in k (formula_eq r q) truth (truth_in k)

fewer_in : (k : ℕ) (r : Formula) (l : Term) (b : ℕ) (v : Term) → ScopedIn k (Pts l b v) → OneIn k (fewer_units r l b v)
unfolding fewer_units ScopedIn
fewer_in k (Pts m a w) l b v s = some_in k (term_eq m l && term_eq w v && nat_lt a b) (Pts l (b - a) v) s
fewer_in k _ l b v s = tt

-- of what stands under ▷, where the hypothesis is so
stripped_in : (k : ℕ) (r a : Formula) → ScopedIn k r → ((s : Formula) → ScopedIn k s → OneIn k (frame s a)) → OneIn k (option_and_then (λ s. frame s a) (under_later r))
unfolding under_later ScopedIn
stripped_in k (Later s) a h each = each s h
stripped_in k _ a h each = tt

-- under each node there is one entry besides the first
either_entry : (k : ℕ) (r q : Formula) (o : Option Formula) → OneIn k o → OneIn k (first_of_two (whole r q) o)
either_entry k r q o h = first_in k (whole r q) o (whole_in k r q) h

pub frame_in : (k : ℕ) (r q : Formula) → ScopedIn k r → ScopedIn k q → OneIn k (frame r q)
unfolding frame ScopedIn
frame_in k r (Pts l b v) s t = either_entry k r (Pts l b v) (fewer_units r l b v) (fewer_in k r l b v t)
frame_in k r (Sep a b) s t = either_entry k r (Sep a b) (star a b (frame r a) (frame r b)) (star_in k a b (frame r a) (frame r b) t.0 t.1 (frame_in k r a s t.0) (frame_in k r b s t.1))
frame_in k r (And a b) s t = either_entry k r (And a b) (conjunction a b (frame r a) (frame r b)) (conjunction_in k a b (frame r a) (frame r b) t.0 t.1 (frame_in k r a s t.0) (frame_in k r b s t.1))
frame_in k r (Or a b) s t = either_entry k r (Or a b) (disjunction a b (frame r a) (frame r b)) (disjunction_in k a b (frame r a) (frame r b) t.0 t.1 (frame_in k r a s t.0) (frame_in k r b s t.1))
frame_in k r (Ex a) s t = either_entry k r (Ex a) (above (λ x. Ex x) (frame (shift_of r) a)) (above_in (suc k) k (λ x. Ex x) (λ f u. u) (frame (shift_of r) a) (frame_in (suc k) (shift_of r) a (shifted_in k r s) t))
frame_in k r (All a) s t = either_entry k r (All a) (above (λ x. All x) (frame (shift_of r) a)) (above_in (suc k) k (λ x. All x) (λ f u. u) (frame (shift_of r) a) (frame_in (suc k) (shift_of r) a (shifted_in k r s) t))
frame_in k r (Later a) s t =
    let o : Option Formula = option_and_then (λ x. frame x a) (under_later r) in
    either_entry k r (Later a) (above (λ x. Later x) (first_of_two o (frame r a))) (above_in k k (λ x. Later x) (λ f u. u) (first_of_two o (frame r a)) (first_in k o (frame r a) (stripped_in k r a s (λ x u. frame_in k x a u t)) (frame_in k r a s t)))
frame_in k r (Upd a) s t = either_entry k r (Upd a) (above (λ x. Upd x) (frame r a)) (above_in k k (λ x. Upd x) (λ f u. u) (frame r a) (frame_in k r a s t))
frame_in k r (Wand a b) s t = either_entry k r (Wand a b) (above (λ x. Wand a x) (frame r b)) (above_in k k (λ x. Wand a x) (λ f u. (t.0, u)) (frame r b) (frame_in k r b s t.1))
frame_in k r (Fact p) s t = whole_in k r (Fact p)
frame_in k r (Imp a b) s t = whole_in k r (Imp a b)
frame_in k r (Pers a) s t = whole_in k r (Pers a)
frame_in k r (Call p args) s t = whole_in k r (Call p args)
