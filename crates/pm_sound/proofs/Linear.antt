-- A certificate shows its conclusion from its facts.
use Rattle.std.proofs.Common.{◌≡◌, ◌≢◌, ℕ, zero, suc, ⊎_elim, List, [], ◌∷◌, map, ℤ, pos, negsuc, ◌+ℤ◌, ◌-ℤ◌, ◌*ℤ◌, neg_ℤ, ◌≤ℤ◌, ◌<ℤ◌, refl, ap, sym, ◌∙◌, arith}
use Rattle.std.specs.Prelude.{nat_eq, if◌then◌else◌}
use Rattle.std.specs.List.{AllByRecursion}
use Rattle.std.proofs.lemmas.Bool.{eq-eqb}
use Rattle.std.proofs.lemmas.Bool.Decides.{eqb_tells}
use Rattle.std.proofs.lemmas.Int.{ints, by_lt_z}
use lib.IntN.{pos-*ℤ-negsuc}
use Rattle.pm_logic.specs.declared.formula.Pure.{Pure}
use Rattle.pm_logic.specs.declared.formula.Pure.TheBlock as block
use Rattle.pm_logic.specs.declared.formula.Pure.TheVariants.{True, False, Eq, Le, Lt}
use Rattle.pm_logic.specs.declared.formula.Preds.{Preds}
use Rattle.pm_logic.specs.declared.formula.Formula.TheVariants.{Pure as Fact}
use Rattle.pm_logic.specs.declared.formula.Term.{Term}
use Rattle.pm_logic.specs.declared.formula.Term.TheVariants.{Lit, Var}
use denote.Hole.Carrier as carrier
use Rattle.pm_logic.specs.Trees.{add, sub, neg, scale, both, either, nope}
use Rattle.pm_logic.specs.Values.{entry, eval, Holds}
use Rattle.pm_model.specs.Entailment.{IsTrueEntailment}
use Rattle.pm_linform.specs.Values.{dot, entry as form_entry}
use Rattle.pm_linform.proofs.Products.{distributes, times_zero, one_times}
use Rattle.pm_linform.proofs.Dots.{dot_none, dot_one, dot_add, dot_scale, dot_neg}
use Rattle.pm_rules.specs.Equations.{all_of}
use Rattle.pm_rules.specs.Linear.{coefficient_of, constant_of, atom, IsAtom, IsEquation, holds, fails, weighted, HaveSigns, IsShown, HasSecond}

-- ---- the value of a term is that of its form

one_at : (j i : ℕ) → i ≢ j → (if nat_eq j i then pos 1 else pos 0) ≡ pos 0
one_at j i ne = ⊎_elim (λ e. absurd (ne (sym e.1))) (λ n. ap (λ b. if b then pos 1 else pos 0) n.0) (eqb_tells j i)

same_entry : (env : List ℤ) (j : ℕ) → form_entry env j ≡ entry env j
same_entry [] j = refl
same_entry (z ∷ env) zero = refl
same_entry (z ∷ env) (suc j) = same_entry env j

dot_var : (j : ℕ) (env : List ℤ) → dot (λ i. if nat_eq j i then pos 1 else pos 0) env ≡ entry env j
dot_var j env =
    let a = dot_one (λ i. pos 0) (λ i. if nat_eq j i then pos 1 else pos 0) j (pos 1) env (ap (λ b. if b then pos 1 else pos 0) (eq-eqb j j refl)) (one_at j) in
    let b = dot_none (λ i. pos 0) env (λ i. refl) in
    let c = one_times (form_entry env j) in
    let d = same_entry env j in
    omega (arith, ints)

value_is : (env : List ℤ) (t : Term) → dot (coefficient_of t) env +ℤ constant_of t ≡ eval env t
unfolding coefficient_of constant_of
value_is env (Lit z) = let a = dot_none (λ i. pos 0) env (λ i. refl) in omega (arith, ints)
value_is env (Var j) = let a = dot_var j env in omega (arith, ints)
value_is env (add s t) = let a = dot_add (coefficient_of s) (coefficient_of t) env in let b = value_is env s in let c = value_is env t in omega (arith, ints)
value_is env (sub s t) = let a = dot_add (coefficient_of s) (λ i. neg_ℤ (coefficient_of t i)) env in let d = dot_neg (coefficient_of t) env in let b = value_is env s in let c = value_is env t in omega (arith, ints)
value_is env (neg t) = let d = dot_neg (coefficient_of t) env in let c = value_is env t in omega (arith, ints)
value_is env (scale z t) = let d = dot_scale z (coefficient_of t) env in let e = distributes z (dot (coefficient_of t) env) (constant_of t) in ap (λ y. y +ℤ (z *ℤ constant_of t)) d ∙ sym e ∙ ap (λ y. z *ℤ y) (value_is env t)

-- and so for sums of terms with factors
weighted_is : (env : List ℤ) (cs : List ℤ) (ts : List Term) → dot (λ i. weighted (λ t. coefficient_of t i) cs ts) env +ℤ weighted constant_of cs ts ≡ weighted (eval env) cs ts
weighted_is env [] ts = let a = dot_none (λ i. pos 0) env (λ i. refl) in omega (arith, ints)
weighted_is env (c ∷ cs) [] = let a = dot_none (λ i. pos 0) env (λ i. refl) in omega (arith, ints)
weighted_is env (c ∷ cs) (t ∷ ts) =
    let a = dot_add (λ i. c *ℤ coefficient_of t i) (λ i. weighted (λ u. coefficient_of u i) cs ts) env in
    let b = dot_scale c (coefficient_of t) env in
    let d = distributes c (dot (coefficient_of t) env) (constant_of t) in
    let e : c *ℤ (dot (coefficient_of t) env +ℤ constant_of t) ≡ c *ℤ eval env t = ap (λ y. c *ℤ y) (value_is env t) in
    let f = weighted_is env cs ts in
    omega (arith, ints)

-- ---- the forms of atoms

not_le_lt : (x y : ℤ) → ¬ (x ≤ℤ y) → y <ℤ x
not_le_lt x y n = by_lt_z y x (λ h. h) (λ h. absurd (n h))

not_lt_le : (x y : ℤ) → ¬ (x <ℤ y) → y ≤ℤ x
not_lt_le x y n = by_lt_z x y (λ h. absurd (n h)) (λ h. h)

zero_down : pos 0 ≤ℤ pos 0
zero_down = omega (arith, ints)

sub_le : (x y : ℤ) → x ≤ℤ y → (x -ℤ y) ≤ℤ pos 0
sub_le x y h = omega (arith, ints)

sub_lt : (x y : ℤ) → x <ℤ y → ((x -ℤ y) +ℤ pos 1) ≤ℤ pos 0
sub_lt x y h = omega (arith, ints)

sub_eq : (x y : ℤ) → x ≡ y → x -ℤ y ≡ pos 0
sub_eq x y h = omega (arith, ints)

-- at most 0 where the atom holds
holds_down : (env : List ℤ) (f : Pure) → IsAtom f → Holds env f → eval env (holds f) ≤ℤ pos 0
unfolding atom
holds_down env True a h = zero_down
holds_down env False a h = absurd h
holds_down env (Eq s t) a h = let e = sub_eq (eval env s) (eval env t) h in omega (arith, ints)
holds_down env (Le s t) a h = sub_le (eval env s) (eval env t) h
holds_down env (Lt s t) a h = sub_lt (eval env s) (eval env t) h
holds_down env (both x y) a h = absurd cc
holds_down env (either x y) a h = absurd cc
holds_down env (nope (Le s t)) a h = sub_lt (eval env t) (eval env s) (not_le_lt (eval env s) (eval env t) h)
holds_down env (nope (Lt s t)) a h = sub_le (eval env t) (eval env s) (not_lt_le (eval env s) (eval env t) h)
holds_down env (nope True) a h = absurd cc
holds_down env (nope False) a h = absurd cc
holds_down env (nope (Eq s t)) a h = absurd cc
holds_down env (nope (both x y)) a h = absurd cc
holds_down env (nope (either x y)) a h = absurd cc
holds_down env (nope (nope x)) a h = absurd cc

down : (c v : ℤ) → pos 0 ≤ℤ c → v ≤ℤ pos 0 → (c *ℤ v) ≤ℤ pos 0
down (pos n) (pos m) h k =
    let z : m ≡ 0 = omega (arith, ints) in
    let a : pos n *ℤ pos m ≡ pos 0 = ap (λ y. pos n *ℤ pos y) z ∙ times_zero (pos n) in omega (arith, ints)
down (pos n) (negsuc m) h k = let a = pos-*ℤ-negsuc n m in omega (arith, ints)
down (negsuc n) v h k = absurd (omega (arith, ints))

-- any factor times 0
equation_down : (env : List ℤ) (c : ℤ) (f : Pure) → IsEquation f → Holds env f → (c *ℤ eval env (holds f)) ≤ℤ pos 0
unfolding atom IsEquation
equation_down env c (Eq s t) q h =
    let a : c *ℤ (eval env s -ℤ eval env t) ≡ pos 0 = ap (λ y. c *ℤ y) (sub_eq (eval env s) (eval env t) h) ∙ times_zero c in
    omega (arith, ints)
equation_down env c True q h = absurd q
equation_down env c False q h = absurd q
equation_down env c (Le s t) q h = absurd q
equation_down env c (Lt s t) q h = absurd q
equation_down env c (both x y) q h = absurd q
equation_down env c (either x y) q h = absurd q
equation_down env c (nope x) q h = absurd q

facts_down : (env : List ℤ) (cs : List ℤ) (fs : List Pure) → HaveSigns cs fs → AllByRecursion IsAtom fs → Holds env (all_of fs) → weighted (eval env) cs (map holds fs) ≤ℤ pos 0
unfolding block.shape-the_row-Pure-0 block.hidden-the_row-Pure-0 carrier.hidden
facts_down env [] fs s a h = zero_down
facts_down env (c ∷ cs) [] s a h = zero_down
facts_down env (c ∷ cs) (f ∷ fs) s a h =
    let one : (c *ℤ eval env (holds f)) ≤ℤ pos 0 = ⊎_elim (λ p. down c (eval env (holds f)) p (holds_down env f a.0 h.0)) (λ q. equation_down env c f q h.0) s.0 in
    let rest = facts_down env cs fs s.1 a.1 h.1 in
    omega (arith, ints)

-- ---- certificates

-- where the facts hold, the atom doesn't fail by its form
refuted : (env : List ℤ) (cs : List ℤ) (fs : List Pure) (g : Pure) → IsShown cs fs g → Holds env (all_of fs) → eval env (fails g) ≤ℤ pos 0 → ⊥
unfolding IsEquation
refuted env [] fs g s h le = let a = s.constant in absurd (omega (arith, ints))
refuted env (c ∷ cs) fs g s h le =
    let one : (c *ℤ eval env (fails g)) ≤ℤ pos 0 = ⊎_elim (λ p. down c (eval env (fails g)) p le) (λ q. absurd q) s.signs.0 in
    let rest = facts_down env cs fs s.signs.1 s.atoms.1 h in
    let sum = weighted_is env (c ∷ cs) (fails g ∷ map holds fs) in
    let none = dot_none (λ i. weighted (λ t. coefficient_of t i) (c ∷ cs) (fails g ∷ map holds fs)) env s.variables in
    let at_least = s.constant in
    omega (arith, ints)

equal : (x y : ℤ) → (x <ℤ y → ⊥) → (y <ℤ x → ⊥) → x ≡ y
equal x y f g = by_lt_z x y (λ lt. absurd (f lt)) (λ le. by_lt_z y x (λ lt. absurd (g lt)) (λ le'. omega (arith, ints)))

shown : (env : List ℤ) (cs ds : List ℤ) (fs : List Pure) (g : Pure) → IsShown cs fs g → HasSecond ds fs g → Holds env (all_of fs) → Holds env g
unfolding atom HasSecond
shown env cs ds fs True s d h = tt
shown env cs ds fs False s d h = refuted env cs fs False s h zero_down
shown env cs ds fs (Eq x y) s d h = equal (eval env x) (eval env y) (λ lt. refuted env ds fs (Eq y x) d h (sub_lt (eval env x) (eval env y) lt)) (λ lt. refuted env cs fs (Eq x y) s h (sub_lt (eval env y) (eval env x) lt))
shown env cs ds fs (Le x y) s d h = by_lt_z (eval env y) (eval env x) (λ lt. absurd (refuted env cs fs (Le x y) s h (sub_lt (eval env y) (eval env x) lt))) (λ le. le)
shown env cs ds fs (Lt x y) s d h = by_lt_z (eval env x) (eval env y) (λ lt. lt) (λ le. absurd (refuted env cs fs (Lt x y) s h (sub_le (eval env y) (eval env x) le)))
shown env cs ds fs (both a b) s d h = let a = s.atoms.0 in absurd cc
shown env cs ds fs (either a b) s d h = let a = s.atoms.0 in absurd cc
shown env cs ds fs (nope (Le x y)) s d h = λ le. refuted env cs fs (nope (Le x y)) s h (sub_le (eval env x) (eval env y) le)
shown env cs ds fs (nope (Lt x y)) s d h = λ lt. refuted env cs fs (nope (Lt x y)) s h (sub_lt (eval env x) (eval env y) lt)
shown env cs ds fs (nope True) s d h = let a = s.atoms.0 in absurd cc
shown env cs ds fs (nope False) s d h = let a = s.atoms.0 in absurd cc
shown env cs ds fs (nope (Eq x y)) s d h = let a = s.atoms.0 in absurd cc
shown env cs ds fs (nope (both a b)) s d h = let a = s.atoms.0 in absurd cc
shown env cs ds fs (nope (either a b)) s d h = let a = s.atoms.0 in absurd cc
shown env cs ds fs (nope (nope a)) s d h = let a = s.atoms.0 in absurd cc

pub linear_true : (preds : Preds) (k : ℕ) (cs ds : List ℤ) (fs : List Pure) (g : Pure) → IsShown cs fs g → HasSecond ds fs g → IsTrueEntailment preds k (Fact (all_of fs)) (Fact g)
linear_true preds k cs ds fs g s d = record { holds = λ env len n r h. shown env cs ds fs g s d h }
