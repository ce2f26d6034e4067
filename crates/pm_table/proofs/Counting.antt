-- How many times a name stands in a goal, after each change of the goal.
use Rattle.std.proofs.Common.{◌≡◌, ℕ, suc, ◌+◌, ◌-◌, ◌≤◌, Bool, true, false, cond, not, ◌||◌, List, [], ◌∷◌, ◌++◌, map, filter, length, refl, sym, ◌∙◌, ap, subst, arith, Option, Some, None, option_map, is_some, position, bytes_eq, le_refl}
use Rattle.std.proofs.lemmas.Slice.Eq.{bytes_eq-Decides}
use Rattle.std.proofs.lemmas.Iterator.Adapters.{position_from-zero}
use Rattle.std.specs.List.{position_from}
use Rattle.pm_logic.specs.declared.formula.Pure as P
use Rattle.pm_logic.specs.declared.formula.Formula.{Formula}
use Rattle.pm_logic.specs.Substitution.{shift_of}
use Rattle.pm_table.specs.Occurrences.{shifted_pure}
use Rattle.pm_goal.specs.declared.goal.Hyp.{Hyp}
use Rattle.pm_goal.specs.declared.goal.Fact.{Fact}
use Rattle.pm_goal.specs.declared.goal.Goal.{Goal}
use Rattle.pm_goal.specs.declared.finding.Found.{Found}
use Rattle.pm_goal.specs.declared.finding.Found.TheVariants as found
use Rattle.pm_goal.specs.declared.work.Kind.{Kind}
use Rattle.pm_goal.specs.declared.work.Kind.TheVariants.{Int, Spat}
use Rattle.pm_goal.specs.Find.{first_of_two, hyp_of, find_of}
use Rattle.pm_table.specs.Works.{Named, is_numbered, fits, hyp, fact, with_fact, with_int, with_spat, with_hyp, with_var, each_fact, each_hyp}
use Rattle.pm_table.specs.Stepping.{times, names_of, NamesDiffer}

abbrev pub fact_names : List Fact → List Named
fact_names fs = map (λ f. f.name) fs

abbrev pub hyp_names : List Hyp → List Named
hyp_names hs = map (λ h. h.name) hs

-- ---- lists

one_more : (b : Bool) (all n m : ℕ) → all ≡ n + m → cond b (suc all) all ≡ cond b (suc n) n + m
one_more true all n m e = omega (arith, e)
one_more false all n m e = e

pub times_append : (x : Named) (xs ys : List Named) → times x (xs ++ ys) ≡ times x xs + times x ys
times_append x [] ys = omega arith
times_append x (y ∷ xs) ys = one_more (bytes_eq x y) (times x (xs ++ ys)) (times x xs) (times x ys) (times_append x xs ys)

-- no name stands in the one more often than in the other
abbrev pub Fewer : List Named → List Named → Type 0
Fewer xs ys = (x : Named) → times x xs ≤ times x ys

pub same : (xs : List Named) → Fewer xs xs
same xs x = le_refl (times x xs)

pub fewer_from : (xs ys : List Named) → xs ≡ ys → Fewer xs ys
fewer_from xs ys e = subst (Fewer xs) e (same xs)

pub none_are_fewer : (ys : List Named) → Fewer [] ys
none_are_fewer ys x = omega arith

add_hyp_names : (hs : List Hyp) (h : Hyp) → hyp_names (hs ++ (h ∷ [])) ≡ hyp_names hs ++ (h.name ∷ [])
add_hyp_names [] h = refl
add_hyp_names (g ∷ hs) h = ap (λ ns. g.name ∷ ns) (add_hyp_names hs h)

add_fact_names : (fs : List Fact) (f : Fact) → fact_names (fs ++ (f ∷ [])) ≡ fact_names fs ++ (f.name ∷ [])
add_fact_names [] f = refl
add_fact_names (g ∷ fs) f = ap (λ ns. g.name ∷ ns) (add_fact_names fs f)

kept_or_not : (t b : Bool) (n m : ℕ) → n ≤ m → cond t (cond b (suc n) n) n ≤ cond b (suc m) m
kept_or_not true true n m le = omega (arith, le)
kept_or_not true false n m le = le
kept_or_not false true n m le = omega (arith, le)
kept_or_not false false n m le = le

times_kept_hyp : (x : Named) (t : Bool) (h : Hyp) (hs : List Hyp) → times x (hyp_names (cond t (h ∷ hs) hs)) ≡ cond t (cond (bytes_eq x h.name) (suc (times x (hyp_names hs))) (times x (hyp_names hs))) (times x (hyp_names hs))
times_kept_hyp x true h hs = refl
times_kept_hyp x false h hs = refl

times_kept_fact : (x : Named) (t : Bool) (f : Fact) (fs : List Fact) → times x (fact_names (cond t (f ∷ fs) fs)) ≡ cond t (cond (bytes_eq x f.name) (suc (times x (fact_names fs))) (times x (fact_names fs))) (times x (fact_names fs))
times_kept_fact x true f fs = refl
times_kept_fact x false f fs = refl

-- without those that fail a test
pub fewer_hyps : (test : Hyp → Bool) (hs : List Hyp) → Fewer (hyp_names (filter test hs)) (hyp_names hs)
fewer_hyps test [] x = le_refl 0
fewer_hyps test (h ∷ hs) x =
    subst (λ n. n ≤ cond (bytes_eq x h.name) (suc (times x (hyp_names hs))) (times x (hyp_names hs))) (sym (times_kept_hyp x (test h) h (filter test hs)))
    (kept_or_not (test h) (bytes_eq x h.name) (times x (hyp_names (filter test hs))) (times x (hyp_names hs)) (fewer_hyps test hs x))

pub fewer_facts : (test : Fact → Bool) (fs : List Fact) → Fewer (fact_names (filter test fs)) (fact_names fs)
fewer_facts test [] x = le_refl 0
fewer_facts test (f ∷ fs) x =
    subst (λ n. n ≤ cond (bytes_eq x f.name) (suc (times x (fact_names fs))) (times x (fact_names fs))) (sym (times_kept_fact x (test f) f (filter test fs)))
    (kept_or_not (test f) (bytes_eq x f.name) (times x (fact_names (filter test fs))) (times x (fact_names fs)) (fewer_facts test fs x))

pub each_hyp_names : (change : Formula → Formula) (hs : List Hyp) → hyp_names (each_hyp change hs) ≡ hyp_names hs
each_hyp_names change [] = refl
each_hyp_names change (h ∷ hs) = ap (λ ns. h.name ∷ ns) (each_hyp_names change hs)

pub each_fact_names : (change : P.Pure → P.Pure) (fs : List Fact) → fact_names (each_fact change fs) ≡ fact_names fs
each_fact_names change [] = refl
each_fact_names change (f ∷ fs) = ap (λ ns. f.name ∷ ns) (each_fact_names change fs)

-- ---- goals

abbrev pub FewerNames : Goal → Goal → Type 0
FewerNames a b = Fewer (names_of a) (names_of b)

-- how many times a name stands in the four parts of a goal
abbrev pub in_parts : Named → Goal → ℕ
in_parts x g = times x g.vars + (times x (fact_names g.pures) + (times x (hyp_names g.ints) + times x (hyp_names g.spats)))

pub times_in_goal : (x : Named) (g : Goal) → times x (names_of g) ≡ in_parts x g
times_in_goal x g =
    let all = times_append x g.vars (fact_names g.pures ++ (hyp_names g.ints ++ hyp_names g.spats)) in
    let facts = times_append x (fact_names g.pures) (hyp_names g.ints ++ hyp_names g.spats) in
    let hyps = times_append x (hyp_names g.ints) (hyp_names g.spats) in
    omega (arith, all, facts, hyps)

pub fewer_names : (a b : Goal) → Fewer a.vars b.vars → Fewer (fact_names a.pures) (fact_names b.pures) → Fewer (hyp_names a.ints) (hyp_names b.ints) → Fewer (hyp_names a.spats) (hyp_names b.spats) → FewerNames a b
fewer_names a b vars pures ints spats x =
    let here = times_in_goal x a in let there = times_in_goal x b in
    let v = vars x in let p = pures x in let i = ints x in let s = spats x in
    omega (arith, here, there, v, p, i, s)

pub differ_still : (a b : Goal) → FewerNames a b → NamesDiffer b → NamesDiffer a
differ_still a b fewer differ x = let less = fewer x in let most = differ x in omega (arith, less, most)

-- ---- a name that isn't in use

none_of_two : {A : Type 0} (o q : Option A) → first_of_two o q ≡ None → (o ≡ None) × (q ≡ None)
none_of_two (Some x) q e = absurd cc
none_of_two None q e = (refl, e)

none_mapped : {A B : Type 0} (f : A → B) (o : Option A) → option_map f o ≡ None → o ≡ None
none_mapped f (Some x) e = absurd cc
none_mapped f None e = refl

-- where the first is passed over, what is known of the others
passed_over : (b : Bool) (i : ℕ) (o : Option ℕ) (n : ℕ) → cond b (Some i) o ≡ None → (o ≡ None → n ≡ 0) → cond b (suc n) n ≡ 0
passed_over true i o n e rest = absurd cc
passed_over false i o n e rest = rest e

not_found_from : (x : Named) (i : ℕ) (xs : List Named) → position_from (λ n. bytes_eq x n) i xs ≡ None → times x xs ≡ 0
not_found_from x i [] e = refl
not_found_from x i (y ∷ xs) e = passed_over (bytes_eq x y) i (position_from (λ n. bytes_eq x n) (i + 1) xs) (times x xs) e (not_found_from x (i + 1) xs)

hyp_not_found_from : (x : Named) (i : ℕ) (hs : List Hyp) → position_from (λ h. bytes_eq x h.name) i hs ≡ None → times x (hyp_names hs) ≡ 0
hyp_not_found_from x i [] e = refl
hyp_not_found_from x i (h ∷ hs) e = passed_over (bytes_eq x h.name) i (position_from (λ h. bytes_eq x h.name) (i + 1) hs) (times x (hyp_names hs)) e (hyp_not_found_from x (i + 1) hs)

fact_not_found_from : (x : Named) (i : ℕ) (fs : List Fact) → position_from (λ f. bytes_eq x f.name) i fs ≡ None → times x (fact_names fs) ≡ 0
fact_not_found_from x i [] e = refl
fact_not_found_from x i (f ∷ fs) e = passed_over (bytes_eq x f.name) i (position_from (λ f. bytes_eq x f.name) (i + 1) fs) (times x (fact_names fs)) e (fact_not_found_from x (i + 1) fs)

not_found : (goal : Goal) (x : Named) → find_of goal x ≡ None → times x (names_of goal) ≡ 0
not_found goal x e =
    let vars_test : Named → Bool = λ n. bytes_eq x n in
    let facts_test : Fact → Bool = λ f. bytes_eq x f.name in
    let hyps_test : Hyp → Bool = λ h. bytes_eq x h.name in
    let var : Option Found = option_map (λ i. found.Var (length goal.vars - 1 - i)) (position vars_test goal.vars) in
    let pures : Option Found = option_map found.Pure (position facts_test goal.pures) in
    let ints : Option Found = option_map found.Int (position hyps_test goal.ints) in
    let spats : Option Found = option_map found.Spat (position hyps_test goal.spats) in
    let first = none_of_two var (first_of_two pures (hyp_of goal x)) e in
    let second = none_of_two pures (hyp_of goal x) first.1 in
    let third = none_of_two ints spats second.1 in
    let v : times x goal.vars ≡ 0 = not_found_from x 0 goal.vars (sym (position_from-zero vars_test goal.vars) ∙ none_mapped (λ i. found.Var (length goal.vars - 1 - i)) (position vars_test goal.vars) first.0) in
    let p : times x (fact_names goal.pures) ≡ 0 = fact_not_found_from x 0 goal.pures (sym (position_from-zero facts_test goal.pures) ∙ none_mapped found.Pure (position facts_test goal.pures) second.0) in
    let i : times x (hyp_names goal.ints) ≡ 0 = hyp_not_found_from x 0 goal.ints (sym (position_from-zero hyps_test goal.ints) ∙ none_mapped found.Int (position hyps_test goal.ints) third.0) in
    let s : times x (hyp_names goal.spats) ≡ 0 = hyp_not_found_from x 0 goal.spats (sym (position_from-zero hyps_test goal.spats) ∙ none_mapped found.Spat (position hyps_test goal.spats) third.1) in
    let all = times_in_goal x goal in
    omega (arith, all, v, p, i, s)

not_some : {A : Type 0} (o : Option A) (b : Bool) → not (is_some o || b) ≡ true → o ≡ None
not_some (Some x) b e = absurd cc
not_some None b e = refl

-- a name that fits stands nowhere in the goal
pub fitting : (goal : Goal) (x : Named) → fits goal x ≡ true → times x (names_of goal) ≡ 0
fitting goal x e = not_found goal x (not_some (find_of goal x) (is_numbered x) e)

-- ---- one name more

once_only : (x y : Named) → times y (x ∷ []) ≤ 1
once_only x y = by (bytes_eq y x) where
  by : (b : Bool) → cond b 1 0 ≤ 1
  by true = omega arith
  by false = omega arith

-- where the new name is, no other is
apart : (x y : Named) (n : ℕ) (names : List Named) → times x names ≡ 0 → times y names ≤ 1 → times y names + times y (x ∷ []) ≤ 1
apart x y n names free most = by (bytes_eq y x) refl where
  by : (b : Bool) → bytes_eq y x ≡ b → times y names + cond b 1 0 ≤ 1
  by true e = let equal : y ≡ x = (bytes_eq-Decides y x).0 e in let none : times y names ≡ 0 = ap (λ (z : Named). times z names) equal ∙ free in omega (arith, none)
  by false e = omega (arith, most)

-- the names of a goal that has this one more
abbrev pub OneMore : Named → Goal → Goal → Type 0
OneMore x a b = (y : Named) → times y (names_of a) ≤ times y (names_of b) + times y (x ∷ [])

pub differ_with : (x : Named) (a b : Goal) → OneMore x a b → fits b x ≡ true → NamesDiffer b → NamesDiffer a
differ_with x a b more free differ y =
    let counted = more y in let alone = apart x y 0 (names_of b) (fitting b x free) (differ y) in omega (arith, counted, alone)

pub more_spat : (x : Named) (f : Formula) (g : Goal) → OneMore x (with_spat x f g) g
more_spat x f g y =
    let new = times_in_goal y (with_spat x f g) in let old = times_in_goal y g in
    let names : times y (hyp_names (g.spats ++ (hyp x f ∷ []))) ≡ times y (hyp_names g.spats) + times y (x ∷ []) = ap (times y) (add_hyp_names g.spats (hyp x f)) ∙ times_append y (hyp_names g.spats) (x ∷ []) in
    omega (arith, new, old, names)

pub more_int : (x : Named) (f : Formula) (g : Goal) → OneMore x (with_int x f g) g
more_int x f g y =
    let new = times_in_goal y (with_int x f g) in let old = times_in_goal y g in
    let names : times y (hyp_names (g.ints ++ (hyp x f ∷ []))) ≡ times y (hyp_names g.ints) + times y (x ∷ []) = ap (times y) (add_hyp_names g.ints (hyp x f)) ∙ times_append y (hyp_names g.ints) (x ∷ []) in
    omega (arith, new, old, names)

pub more_hyp : (k : Kind) (x : Named) (f : Formula) (g : Goal) → OneMore x (with_hyp k x f g) g
more_hyp Int x f g = more_int x f g
more_hyp Spat x f g = more_spat x f g

pub more_fact : (x : Named) (p : P.Pure) (g : Goal) → OneMore x (with_fact x p g) g
more_fact x p g y =
    let new = times_in_goal y (with_fact x p g) in let old = times_in_goal y g in
    let names : times y (fact_names (g.pures ++ (fact x p ∷ []))) ≡ times y (fact_names g.pures) + times y (x ∷ []) = ap (times y) (add_fact_names g.pures (fact x p)) ∙ times_append y (fact_names g.pures) (x ∷ []) in
    omega (arith, new, old, names)

pub more_var : (x : Named) (c : Formula) (g : Goal) → OneMore x (with_var x c g) g
more_var x c g y =
    let new = times_in_goal y (with_var x c g) in let old = times_in_goal y g in
    let vars = times_append y g.vars (x ∷ []) in
    let pures : times y (fact_names (with_var x c g).pures) ≡ times y (fact_names g.pures) = ap (times y) (each_fact_names shifted_pure g.pures) in
    let ints : times y (hyp_names (with_var x c g).ints) ≡ times y (hyp_names g.ints) = ap (times y) (each_hyp_names shift_of g.ints) in
    let spats : times y (hyp_names (with_var x c g).spats) ≡ times y (hyp_names g.spats) = ap (times y) (each_hyp_names shift_of g.spats) in
    omega (arith, new, old, vars, pures, ints, spats)
