-- Steps keep names apart.
use Rattle.std.proofs.Common.{◌≡◌, ℕ, suc, ◌+◌, ◌≤◌, Bool, true, false, cond, not, find, flat_map, ◌||◌, ◌==◌, length, List, [], ◌∷◌, map, refl, sym, ◌∙◌, ap, ap₂, subst, arith, Option, Some, None, is_some, bytes_eq, le_refl, option_and_then}
use Rattle.std.specs.Bool.{then_some}
use Rattle.std.specs.List.{list_all}
use Rattle.std.proofs.lemmas.Slice.Eq.{bytes_eq-Decides}
use Rattle.pm_logic.specs.declared.formula.Term.{Term}
use Rattle.pm_logic.specs.declared.formula.Pure as P
use Rattle.pm_logic.specs.declared.formula.Formula.{Formula}
use Rattle.pm_logic.specs.declared.formula.Formula.TheVariants.{Pure as Assert, Pts}
use Rattle.pm_logic.specs.declared.formula.Preds.{Preds}
use Rattle.pm_logic.specs.declared.formula.TheConstants.{UNIT}
use Rattle.pm_logic.specs.Trees.{nope, And, Later}
use Rattle.pm_logic.specs.Substitution.{in_pure, in_formula, shift_of}
use Rattle.pm_goal.specs.declared.goal.Hyp.{Hyp}
use Rattle.pm_goal.specs.declared.goal.Fact.{Fact}
use Rattle.pm_goal.specs.declared.goal.Goal.{Goal}
use Rattle.pm_goal.specs.declared.work.Kind.{Kind}
use Rattle.pm_goal.specs.declared.work.Kind.TheVariants.{Int, Spat}
use Rattle.pm_goal.specs.declared.work.Work.{Work}
use Rattle.pm_goal.specs.declared.work.Lemmas.{Lemmas}
use Rattle.pm_patterns.specs.declared.pattern.Pat.{Pat}
use Rattle.pm_patterns.specs.declared.pattern.Cert.{Cert}
use Rattle.pm_patterns.specs.declared.pattern.Spat as S
use Rattle.pm_patterns.specs.declared.pattern.Spat.TheVariants as premise
use Rattle.pm_script.specs.declared.directive.Directive.{Directive}
use Rattle.pm_script.specs.declared.directive.Directive.TheVariants as d
use Rattle.pm_classes.specs.Classes.{Parts, into_or, into_pure, into_forall, into_wand, from_pure, combine}
use Rattle.pm_classes.specs.Persistence.{is_persistent}
use Rattle.pm_table.specs.declared.passage.Passage.{Passage}
use Rattle.pm_table.specs.declared.passage.Passage.TheVariants as passage
use Rattle.pm_table.specs.Outcomes.{Outcome, Action, one}
use Rattle.pm_table.specs.declared.place.Place.TheVariants.{Current as current}
use Rattle.pm_table.specs.Limits.{resting}
use Rattle.pm_table.specs.Works
use Rattle.pm_table.specs.Works.{Named, Hand, hand_of, has_hyp, has_fact, has_hyp_or_fact, hyp_named, fact_named, index_named, is_listed, fits, fresh_name, with_hyp, with_fact, with_int, with_var, with_concl, without_named, without_spat, work_of, hyps_in, hyps_out}
use Rattle.pm_table.specs.Introductions.{sides_of, is_blocked, universal_of, intro_hyp, intro_all, intro_all_fresh}
use Rattle.pm_table.specs.Destructs as destructs
use Rattle.pm_table.specs.Destructs.{var_name, into_parts, with_hand, name_held, name_fresh, drop_held, both_parts, body_held, one_part, fourth_way, third_way, parts_or, is_drop, boxed_part, either, absurd_held, is_falsehood, to_pure, to_pure_fresh, to_int, to_spat}
use Rattle.pm_table.specs.Basic as basic
use Rattle.pm_table.specs.Basic.{on_goal, for, is_truth, split_parts, star_parts, or_parts, body_of_ex, list_given, is_exact, is_hypothesis, is_fact, reverted, mentions, with_spats, split, split_at, sides, side, exists, exfalso, exact, assumption, done, try_done, is_done, clear, rename, renamed, with_renamed, revert, revert_var, without_var, names_but, chosen, unchosen}
use Rattle.pm_table.specs.Patterns.{opening, intro_one, intro_var_or_hyp}
use Rattle.pm_table.specs.Modalities.{under_update, Modality, passed, acted, mod_intro, later, head_intro, next, elim_update, modality_of}
use Rattle.pm_table.specs.Rewriting.{Equation, equation_of, rewritten, rewritten_pure, occurs, occurs_in_pure, subst_held, rewritten_goal, put_fact, put_fact_in, rewrite_at, rewrite, pure_intro, cases}
use Rattle.pm_table.specs.Heap.{full_location, put, put_in, combine_held, write, allocate}
use Rattle.pm_table.specs.Loeb.{wands, body_of_call, formula_named, loeb, unfold_call, fold_call}
use Rattle.pm_table.specs.Linears.{is_atom, linear_conclusion, are_small, in_box, atoms, readings, given_twice, fact_passes, certify, linear, linear_with}
use Rattle.pm_table.specs.Linears.{names_of as names_of_cert}
use Rattle.pm_table.specs.Equality.{formula_eq}
use Rattle.pm_table.specs.Framing.{frame}
use Rattle.pm_table.specs.Occurrences.{without}
use Rattle.pm_table.specs.Terms.{held_as, lemma_named, premises, Step, take, lend, lemma, with_term, with_spat, assert, framed, by_pattern, keeping, leaving, picked, picked_framed, premise_goal, premise_goals, apply, concluding, frame_held, frame_named, frame_member, passing, is_premise}
use Rattle.pm_table.specs.Directives.{run_on, step}
use Rattle.pm_table.specs.Stepping.{EachGoal, times, names_of, NamesDiffer, StepsKeepNamesApart}
use Rattle.pm_table.proofs.Keeping.{Everywhere, InOutcome, Good, rest_good, anything}
use Rattle.pm_table.proofs.Outcomes.{joined_in, good, opening_in, chosen_in, require_in, require_plain_in, require_some_in, require_entry_in, all_spatial_in, with_last_in, refuse_where_in}
use Rattle.pm_table.proofs.Counting.{fact_names, hyp_names, Fewer, same, fewer_from, none_are_fewer, fewer_hyps, fewer_facts, each_hyp_names, each_fact_names, FewerNames, in_parts, times_in_goal, fewer_names, differ_still, fitting, differ_with, more_hyp, more_int, more_fact, more_var}
use Rattle.pm_table.proofs.Acting.{Kept, ActionsKeep, Handed, run_in}
use Rattle.pm_table.proofs.Within.{stepped_in}

abbrev Apart : Work → Type 0
Apart w = NamesDiffer w.goal

abbrev apart : Kept
apart = record { holds = Apart; term = λ t. Unit {0}; pure = λ p. Unit {0}; formula = λ f. Unit {0} }

-- ---- changes of goals that add no name

same_names : (a b : Goal) → a.vars ≡ b.vars → fact_names a.pures ≡ fact_names b.pures → hyp_names a.ints ≡ hyp_names b.ints → hyp_names a.spats ≡ hyp_names b.spats → FewerNames a b
same_names a b v p i s = fewer_names a b (fewer_from a.vars b.vars v) (fewer_from (fact_names a.pures) (fact_names b.pures) p) (fewer_from (hyp_names a.ints) (hyp_names b.ints) i) (fewer_from (hyp_names a.spats) (hyp_names b.spats) s)

concl_names : (c : Formula) (g : Goal) → NamesDiffer g → NamesDiffer (with_concl c g)
concl_names c g h = h

with_spats_names : (hs : List Hyp) (g : Goal) → Fewer (hyp_names hs) (hyp_names g.spats) → NamesDiffer g → NamesDiffer (with_spats hs g)
with_spats_names hs g fewer h = differ_still (with_spats hs g) g (fewer_names (with_spats hs g) g (same g.vars) (same (fact_names g.pures)) (same (hyp_names g.ints)) fewer) h

without_names : (x : Named) (g : Goal) → NamesDiffer g → NamesDiffer (without_named x g)
without_names x g h = differ_still (without_named x g) g (fewer_names (without_named x g) g (same g.vars) (fewer_facts (λ f. not (bytes_eq x f.name)) g.pures) (fewer_hyps (λ f. not (bytes_eq x f.name)) g.ints) (fewer_hyps (λ f. not (bytes_eq x f.name)) g.spats)) h

without_spat_names : (x : Named) (g : Goal) → NamesDiffer g → NamesDiffer (without_spat x g)
without_spat_names x g h = differ_still (without_spat x g) g (fewer_names (without_spat x g) g (same g.vars) (same (fact_names g.pures)) (same (hyp_names g.ints)) (fewer_hyps (λ f. not (bytes_eq x f.name)) g.spats)) h

-- other spatial hypotheses and another conclusion
abbrev with_rest : List Hyp → Formula → Goal → Goal
with_rest hs c g = record { vars = g.vars; pures = g.pures; ints = g.ints; spats = hs; concl = c }

rest_names : (hs : List Hyp) (c : Formula) (g : Goal) → Fewer (hyp_names hs) (hyp_names g.spats) → NamesDiffer g → NamesDiffer (with_rest hs c g)
rest_names hs c g fewer h = differ_still (with_rest hs c g) g (fewer_names (with_rest hs c g) g (same g.vars) (same (fact_names g.pures)) (same (hyp_names g.ints)) fewer) h

put_head : (x : Named) (f : Formula) (h : Hyp) (t : Bool) → bytes_eq x h.name ≡ t → (cond t (Works.hyp x f) h).name ≡ h.name
put_head x f h true e = (bytes_eq-Decides x h.name).0 e
put_head x f h false e = refl

put_names : (x : Named) (f : Formula) (hs : List Hyp) → hyp_names (put_in x f hs) ≡ hyp_names hs
put_names x f [] = refl
put_names x f (h ∷ hs) = ap₂ (λ n ns. n ∷ ns) (put_head x f h (bytes_eq x h.name) refl) (put_names x f hs)

put_fact_head : (x : Named) (p : P.Pure) (f : Fact) (t : Bool) → bytes_eq x f.name ≡ t → (cond t (Works.fact x p) f).name ≡ f.name
put_fact_head x p f true e = (bytes_eq-Decides x f.name).0 e
put_fact_head x p f false e = refl

put_fact_names : (x : Named) (p : P.Pure) (fs : List Fact) → fact_names (put_fact_in x p fs) ≡ fact_names fs
put_fact_names x p [] = refl
put_fact_names x p (f ∷ fs) = ap₂ (λ n ns. n ∷ ns) (put_fact_head x p f (bytes_eq x f.name) refl) (put_fact_names x p fs)

put_keeps : (x : Named) (f : Formula) (g : Goal) → NamesDiffer g → NamesDiffer (put x f g)
put_keeps x f g h = differ_still (put x f g) g (same_names (put x f g) g refl refl (put_names x f g.ints) (put_names x f g.spats)) h

put_fact_keeps : (x : Named) (p : P.Pure) (g : Goal) → NamesDiffer g → NamesDiffer (put_fact x p g)
put_fact_keeps x p g h = differ_still (put_fact x p g) g (same_names (put_fact x p g) g refl (put_fact_names x p g.pures) refl refl) h

rewritten_keeps : (e : Equation) (g : Goal) → NamesDiffer g → NamesDiffer (rewritten_goal e g)
rewritten_keeps e g h = differ_still (rewritten_goal e g) g (same_names (rewritten_goal e g) g refl (each_fact_names (rewritten_pure e) g.pures) (each_hyp_names (rewritten e) g.ints) (each_hyp_names (rewritten e) g.spats)) h

times_of_choice : (y : Named) (t : Bool) (xs : List Named) (z : Named) (zs : List Named) → times y (cond t xs (z ∷ zs)) ≡ cond t (times y xs) (cond (bytes_eq y z) (suc (times y zs)) (times y zs))
times_of_choice y true xs z zs = refl
times_of_choice y false xs z zs = refl

one_fewer : (t b : Bool) (n m : ℕ) → m ≤ n → cond t n (cond b (suc m) m) ≤ cond b (suc n) n
one_fewer true true n m le = omega arith
one_fewer true false n m le = le_refl n
one_fewer false true n m le = omega (arith, le)
one_fewer false false n m le = le

but_fewer : (x : Named) (xs : List Named) → Fewer (names_but x xs) xs
but_fewer x [] y = le_refl 0
but_fewer x (z ∷ xs) y =
    subst (λ n. n ≤ cond (bytes_eq y z) (suc (times y xs)) (times y xs)) (sym (times_of_choice y (bytes_eq x z) xs z (names_but x xs)))
    (one_fewer (bytes_eq x z) (bytes_eq y z) (times y xs) (times y (names_but x xs)) (but_fewer x xs y))

without_var_keeps : (x : Named) (i : ℕ) (g : Goal) → NamesDiffer g → NamesDiffer (without_var x i g)
without_var_keeps x i g h =
    let a : Goal = without_var x i g in
    differ_still a g (fewer_names a g (but_fewer x g.vars) (fewer_from (fact_names a.pures) (fact_names g.pures) (each_fact_names (in_pure (without i)) g.pures)) (fewer_from (hyp_names a.ints) (hyp_names g.ints) (each_hyp_names (in_formula (without i)) g.ints)) (fewer_from (hyp_names a.spats) (hyp_names g.spats) (each_hyp_names (in_formula (without i)) g.spats))) h

-- ---- a new name for an old one

zero_is_least : (n : ℕ) → 0 ≤ 0 + n
zero_is_least n = omega arith

rename_step : (t b c : Bool) (r n m : ℕ) → r ≤ n + cond c m 0 → cond (cond t c b) (suc r) r ≤ cond b (suc n) n + cond c (cond t (suc m) m) 0
rename_step true true true r n m h = omega (arith, h)
rename_step true true false r n m h = omega (arith, h)
rename_step true false true r n m h = omega (arith, h)
rename_step true false false r n m h = omega (arith, h)
rename_step false true true r n m h = omega (arith, h)
rename_step false true false r n m h = omega (arith, h)
rename_step false false true r n m h = omega (arith, h)
rename_step false false false r n m h = omega (arith, h)

test_of_choice : (t : Bool) (x k y : Named) → bytes_eq x (cond t k y) ≡ cond t (bytes_eq x k) (bytes_eq x y)
test_of_choice true x k y = refl
test_of_choice false x k y = refl

-- no name stands more often, but the new one, which stands where it or the old one did
renamed_times : (h k x : Named) (xs : List Named) → times x (map (renamed h k) xs) ≤ times x xs + cond (bytes_eq x k) (times h xs) 0
renamed_times h k x [] = zero_is_least (cond (bytes_eq x k) 0 0)
renamed_times h k x (y ∷ xs) =
    let r : ℕ = times x (map (renamed h k) xs) in
    subst (λ b. cond b (suc r) r ≤ cond (bytes_eq x y) (suc (times x xs)) (times x xs) + cond (bytes_eq x k) (cond (bytes_eq h y) (suc (times h xs)) (times h xs)) 0) (sym (test_of_choice (bytes_eq h y) x k y))
    (rename_step (bytes_eq h y) (bytes_eq x y) (bytes_eq x k) r (times x xs) (times h xs) (renamed_times h k x xs))

renamed_hyp_names : (h k : Named) (hs : List Hyp) → hyp_names (map (λ g. Works.hyp (renamed h k g.name) g.formula) hs) ≡ map (renamed h k) (hyp_names hs)
renamed_hyp_names h k [] = refl
renamed_hyp_names h k (g ∷ hs) = ap (λ ns. renamed h k g.name ∷ ns) (renamed_hyp_names h k hs)

renamed_fact_names : (h k : Named) (fs : List Fact) → fact_names (map (λ f. Works.fact (renamed h k f.name) f.pure) fs) ≡ map (renamed h k) (fact_names fs)
renamed_fact_names h k [] = refl
renamed_fact_names h k (f ∷ fs) = ap (λ ns. renamed h k f.name ∷ ns) (renamed_fact_names h k fs)

-- for the new name nothing else was there, and the old one stood once at most
renamed_sum : (c : Bool) (v p i s hv hp hi hs p2 i2 s2 : ℕ) → p2 ≤ p + cond c hp 0 → i2 ≤ i + cond c hi 0 → s2 ≤ s + cond c hs 0 → v + (p + (i + s)) ≤ 1 → hv + (hp + (hi + hs)) ≤ 1 → (c ≡ true → v + (p + (i + s)) ≡ 0) → v + (p2 + (i2 + s2)) ≤ 1
renamed_sum true v p i s hv hp hi hs p2 i2 s2 a b d all old none = let zero_now = none refl in omega (arith, a, b, d, old, zero_now)
renamed_sum false v p i s hv hp hi hs p2 i2 s2 a b d all old none = omega (arith, a, b, d, all)

rename_names : (h k : Named) (g : Goal) → fits g k ≡ true → NamesDiffer g → NamesDiffer (with_renamed h k g)
rename_names h k g free differ x =
    let pures : times x (fact_names (with_renamed h k g).pures) ≤ times x (fact_names g.pures) + cond (bytes_eq x k) (times h (fact_names g.pures)) 0 = subst (λ ns. times x ns ≤ times x (fact_names g.pures) + cond (bytes_eq x k) (times h (fact_names g.pures)) 0) (sym (renamed_fact_names h k g.pures)) (renamed_times h k x (fact_names g.pures)) in
    let ints : times x (hyp_names (with_renamed h k g).ints) ≤ times x (hyp_names g.ints) + cond (bytes_eq x k) (times h (hyp_names g.ints)) 0 = subst (λ ns. times x ns ≤ times x (hyp_names g.ints) + cond (bytes_eq x k) (times h (hyp_names g.ints)) 0) (sym (renamed_hyp_names h k g.ints)) (renamed_times h k x (hyp_names g.ints)) in
    let spats : times x (hyp_names (with_renamed h k g).spats) ≤ times x (hyp_names g.spats) + cond (bytes_eq x k) (times h (hyp_names g.spats)) 0 = subst (λ ns. times x ns ≤ times x (hyp_names g.spats) + cond (bytes_eq x k) (times h (hyp_names g.spats)) 0) (sym (renamed_hyp_names h k g.spats)) (renamed_times h k x (hyp_names g.spats)) in
    let mine : in_parts x g ≤ 1 = subst (λ n. n ≤ 1) (times_in_goal x g) (differ x) in
    let olds : in_parts h g ≤ 1 = subst (λ n. n ≤ 1) (times_in_goal h g) (differ h) in
    let none : bytes_eq x k ≡ true → in_parts x g ≡ 0 = λ e. sym (times_in_goal x g) ∙ (ap (λ n. times n (names_of g)) ((bytes_eq-Decides x k).0 e) ∙ fitting g k free) in
    subst (λ n. n ≤ 1) (sym (times_in_goal x (with_renamed h k g)))
    (renamed_sum (bytes_eq x k) (times x g.vars) (times x (fact_names g.pures)) (times x (hyp_names g.ints)) (times x (hyp_names g.spats)) (times h g.vars) (times h (fact_names g.pures)) (times h (hyp_names g.ints)) (times h (hyp_names g.spats)) (times x (fact_names (with_renamed h k g).pures)) (times x (hyp_names (with_renamed h k g).ints)) (times x (hyp_names (with_renamed h k g).spats)) pures ints spats mine olds none)

-- ---- actions

one_in : (w : Work) → NamesDiffer w.goal → InOutcome Apart (one w)
one_in w h = (h, tt)

two_in : (a b : Goal) → NamesDiffer a → NamesDiffer b → InOutcome Apart (basic.gives_goals a b)
two_in a b h g = (h, (g, tt))

stay_keeps : (w : Work) → Apart w → InOutcome Apart (one w)
stay_keeps w h = (h, tt)

intro_hyp_keeps : (w : Work) → Apart w → InOutcome Apart (intro_hyp w)
intro_hyp_keeps w h = require_entry_in Apart (sides_of w.goal.concl) _ _ (λ s e. require_plain_in Apart (not (is_blocked s w.goal)) _ _ (λ f. (h, tt)))

intro_all_keeps : (x : Named) (w : Work) → Apart w → InOutcome Apart (intro_all x w)
intro_all_keeps x w h = require_entry_in Apart (universal_of w.goal.concl) _ _ (λ b e. require_in Apart (fits w.goal x) _ _ _ (λ free. (differ_with x (with_var x b w.goal) w.goal (more_var x b w.goal) free h, tt)))

intro_var_or_hyp_keeps : (x : Option Named) (b : Option Formula) (w : Work) → Apart w → InOutcome Apart (intro_var_or_hyp x b w)
intro_var_or_hyp_keeps (Some x) (Some b) w h = opening_in Apart (false ∷ []) (intro_all x w) (intro_all_keeps x w h)
intro_var_or_hyp_keeps (Some x) None w h = opening_in Apart (true ∷ []) (intro_hyp w) (intro_hyp_keeps w h)
intro_var_or_hyp_keeps None b w h = opening_in Apart (true ∷ []) (intro_hyp w) (intro_hyp_keeps w h)

intro_one_keeps : (p : Pat) (w : Work) → Apart w → InOutcome Apart (intro_one p w)
intro_one_keeps p w h = intro_var_or_hyp_keeps (var_name w.goal p) (universal_of w.goal.concl) w h

name_held_keeps : (x : Named) (w : Work) → Apart w → InOutcome Apart (name_held x w)
name_held_keeps x w h = with_last_in Apart w _ h (λ hand e. require_in Apart (fits w.goal x) _ _ _ (λ free. (differ_with x (with_hyp hand.last.kind x hand.last.formula w.goal) w.goal (more_hyp hand.last.kind x hand.last.formula w.goal) free h, tt)))

drop_held_keeps : (w : Work) → Apart w → InOutcome Apart (drop_held w)
drop_held_keeps w h = with_last_in Apart w _ h (λ hand e. (h, tt))

body_held_keeps : (w : Work) (hand : Hand) (x : Named) (b : Formula) → Apart w → InOutcome Apart (body_held w hand x b)
body_held_keeps w hand x b h = require_in Apart (fits w.goal x) _ _ _ (λ free. (differ_with x (with_var x (shift_of w.goal.concl) w.goal) w.goal (more_var x (shift_of w.goal.concl) w.goal) free h, tt))

third_way_keeps : (w : Work) (hand : Hand) (x : Option Named) (b : Option Formula) (o : Outcome) → Apart w → InOutcome Apart o → InOutcome Apart (third_way w hand x b o)
third_way_keeps w hand (Some x) (Some b) o h g = body_held_keeps w hand x b h
third_way_keeps w hand (Some x) None o h g = g
third_way_keeps w hand None b o h g = g

-- of a conjunction one part is held
one_part_keeps : (w : Work) (hand : Hand) (p q : Bool) (f : Formula) → Apart w → InOutcome Apart (one_part w hand p q f)
one_part_keeps w hand true q (And a b) h = (h, tt)
one_part_keeps w hand false true (And a b) h = (h, tt)
one_part_keeps w hand p q _ h = tt

fourth_way_keeps : (w : Work) (hand : Hand) (k : Kind) (p q : Bool) → Apart w → InOutcome Apart (fourth_way w hand k p q)
fourth_way_keeps w hand Spat p q h = one_part_keeps w hand p q hand.last.formula h
fourth_way_keeps w hand Int p q h = tt

parts_or_keeps : (w : Work) (hand : Hand) (x : Option Parts) (o : Outcome) → Apart w → InOutcome Apart o → InOutcome Apart (parts_or w hand x o)
parts_or_keeps w hand (Some p) o h g = (h, tt)
parts_or_keeps w hand None o h g = g

pair_keeps : (p q : Pat) (w : Work) → Apart w → InOutcome Apart (destructs.pair p q w)
pair_keeps p q w h = with_last_in Apart w _ h (λ hand e. parts_or_keeps w hand (into_parts hand.last.kind hand.last.formula) _ h (third_way_keeps w hand (var_name w.goal p) _ _ h (fourth_way_keeps w hand hand.last.kind (is_drop p) (is_drop q) h)))

either_keeps : (w : Work) → Apart w → InOutcome Apart (either w)
either_keeps w h = with_last_in Apart w _ h (λ hand e. require_entry_in Apart (into_or hand.last.formula) _ _ (λ p f. (h, (h, tt))))

absurd_keeps : (w : Work) → Apart w → InOutcome Apart (absurd_held w)
absurd_keeps w h = with_last_in Apart w _ h (λ hand e. require_plain_in Apart (is_falsehood hand.last.formula) _ _ (λ f. tt))

to_pure_keeps : (x : Named) (w : Work) → Apart w → InOutcome Apart (to_pure x w)
to_pure_keeps x w h = with_last_in Apart w _ h (λ hand e. require_entry_in Apart (into_pure hand.last.formula) _ _ (λ p f. require_in Apart (fits w.goal x) _ _ _ (λ free. (differ_with x (with_fact x p w.goal) w.goal (more_fact x p w.goal) free h, tt))))

to_int_keeps : (w : Work) → Apart w → InOutcome Apart (to_int w)
to_int_keeps w h = with_last_in Apart w _ h (λ hand e. require_entry_in Apart (boxed_part hand.last.kind hand.last.formula) _ _ (λ g f. (h, tt)))

to_spat_keeps : (w : Work) → Apart w → InOutcome Apart (to_spat w)
to_spat_keeps w h = with_last_in Apart w _ h (λ hand e. (h, tt))

elim_keeps : (w : Work) → Apart w → InOutcome Apart (elim_update w)
elim_keeps w h = with_last_in Apart w _ h (λ hand e. require_entry_in Apart (under_update hand.last.formula) _ _ (λ b f. require_plain_in Apart (is_some (under_update w.goal.concl)) _ _ (λ g. (h, tt))))

subst_keeps : (back : Bool) (w : Work) → Apart w → InOutcome Apart (subst_held back w)
subst_keeps back w h = with_last_in Apart w _ h (λ hand e. require_entry_in Apart (option_and_then (equation_of back) (into_pure hand.last.formula)) _ _ (λ q f. (rewritten_keeps q w.goal h, tt)))

-- ---- proof terms

take_keeps : (x : Named) (w : Work) → Apart w → InOutcome Apart (take x w)
take_keeps x w h = require_some_in Apart (held_as x w.goal) _ _ _ (λ held e. (without_names x w.goal h, tt))

lend_keeps : (x : Named) (w : Work) → Apart w → InOutcome Apart (lend x w)
lend_keeps x w h = require_some_in Apart (held_as x w.goal) _ _ _ (λ held e. (without_spat_names x w.goal h, tt))

lemma_keeps : (lemmas : Lemmas) (n : Named) (w : Work) → Apart w → InOutcome Apart (lemma lemmas n w)
lemma_keeps lemmas n w h = require_some_in Apart (lemma_named n lemmas.list) _ _ _ (λ f e. (h, tt))

with_term_keeps : (t : Term) (w : Work) → Apart w → InOutcome Apart (with_term t w)
with_term_keeps t w h = with_last_in Apart w _ h (λ hand e. require_entry_in Apart (into_forall hand.last.formula) _ _ (λ b f. (h, tt)))

chosen_names : (list : List Named) (c : Formula) (g : Goal) → NamesDiffer g → NamesDiffer (keeping list c g)
chosen_names list c g h = rest_names (hyps_in list g.spats) c g (fewer_hyps (λ f. is_listed list f.name) g.spats) h

left_names : (list : List Named) (c : Formula) (g : Goal) → NamesDiffer g → NamesDiffer (leaving list c g)
left_names list c g h = rest_names (hyps_out list g.spats) c g (fewer_hyps (λ f. not (is_listed list f.name)) g.spats) h

framed_keeps : (list : List Named) (g : Goal) → NamesDiffer g → InOutcome Apart (framed list g)
framed_keeps [] g h = (h, tt)
framed_keeps (x ∷ xs) g h = require_some_in Apart (hyp_named x g.spats) _ _ _ (λ r e. require_some_in Apart (frame r g.concl) _ _ _ (λ rest f. chosen_in Apart (is_truth rest) _ _ (λ i. tt) (λ i. framed_keeps xs (without_spat x (with_concl rest g)) (without_spat_names x (with_concl rest g) h))))

by_pattern_keeps : (p : S.Spat) (s : Step) → Apart s.work → InOutcome Apart (by_pattern p s)
unfolding by_pattern
by_pattern_keeps (premise.Name x) s h = require_some_in Apart (held_as x s.work.goal) _ _ _ (λ held e. require_in Apart (is_premise held s.premise) _ _ _ (λ f. (without_spat_names x s.work.goal h, tt)))
by_pattern_keeps (premise.Goal picks) s h = all_spatial_in Apart s.work.goal (picked picks) _ (joined_in Apart (framed (picked_framed picks) (keeping (picked picks) s.premise s.work.goal)) _ (framed_keeps (picked_framed picks) (keeping (picked picks) s.premise s.work.goal) (chosen_names (picked picks) s.premise s.work.goal h)) (left_names (picked picks) s.work.goal.concl s.work.goal h, tt))
by_pattern_keeps (premise.Rest list) s h = all_spatial_in Apart s.work.goal list _ (left_names list s.premise s.work.goal h, (chosen_names list s.work.goal.concl s.work.goal h, tt))
by_pattern_keeps premise.Persistent s h = require_plain_in Apart (is_persistent s.premise) _ _ (λ e. (h, (h, tt)))
by_pattern_keeps premise.Pure s h = require_entry_in Apart (from_pure s.premise) _ _ (λ p e. (h, (h, tt)))
by_pattern_keeps premise.Done s h = require_plain_in Apart (is_done (keeping [] s.premise s.work.goal)) _ _ (λ e. (h, tt))

with_spat_keeps : (p : S.Spat) (w : Work) → Apart w → InOutcome Apart (with_spat p w)
with_spat_keeps p w h = with_last_in Apart w _ h (λ hand e. require_entry_in Apart (into_wand hand.last.formula) _ _ (λ parts f. by_pattern_keeps p (record { work = work_of w.goal hand.others; kind = hand.last.kind; premise = parts.first; result = parts.second }) h))

assert_keeps : (f : Formula) (p : S.Spat) (w : Work) → Apart w → InOutcome Apart (assert f p w)
assert_keeps f p w h = by_pattern_keeps p (record { work = w; kind = Int; premise = f; result = f }) h

premise_goal_names : (g : Goal) (qs : List Formula) (p : Formula) → NamesDiffer g → NamesDiffer (premise_goal g qs p)
premise_goal_names g [] p h = h
premise_goal_names g (q ∷ qs) p h = chosen_names [] p g h

premise_goals_keep : (g : Goal) (ps : List Formula) → NamesDiffer g → Everywhere Apart (premise_goals g ps)
premise_goals_keep g [] h = tt
premise_goals_keep g (p ∷ ps) h = (premise_goal_names g ps p h, premise_goals_keep g ps h)

apply_keeps : (w : Work) → Apart w → InOutcome Apart (apply w)
apply_keeps w h = with_last_in Apart w _ h (λ hand e. require_entry_in Apart (premises w.goal.concl hand.last.formula) _ _ (λ ps f. premise_goals_keep w.goal ps h))

-- ---- framing

concluding_keeps : (rest : Formula) (w : Work) → Apart w → InOutcome Apart (concluding rest w)
concluding_keeps rest w h = chosen_in Apart (is_truth rest) _ _ (λ e. tt) (λ e. (h, tt))

frame_held_keeps : (w : Work) → Apart w → InOutcome Apart (frame_held w)
frame_held_keeps w h = with_last_in Apart w _ h (λ hand e. require_entry_in Apart (frame hand.last.formula w.goal.concl) _ _ (λ rest f. concluding_keeps rest (work_of w.goal hand.others) h))

frame_named_keeps : (x : Named) (w : Work) → Apart w → InOutcome Apart (frame_named x w)
frame_named_keeps x w h = require_some_in Apart (held_as x w.goal) _ _ _ (λ held e. require_some_in Apart (frame held.formula w.goal.concl) _ _ _ (λ rest f. concluding_keeps rest (work_of (without_spat x w.goal) w.held) (without_spat_names x w.goal h)))

passing_keeps : (x : Named) (w : Work) (o : Option Formula) → Apart w → InOutcome Apart (passing x w o)
passing_keeps x w (Some rest) h = concluding_keeps rest (work_of (without_spat x w.goal) w.held) (without_spat_names x w.goal h)
passing_keeps x w None h = (h, tt)

frame_member_keeps : (x : Named) (w : Work) → Apart w → InOutcome Apart (frame_member x w)
frame_member_keeps x w h = require_some_in Apart (held_as x w.goal) _ _ _ (λ held e. passing_keeps x w (frame held.formula w.goal.concl) h)

-- ---- goals

split_keeps : (w : Work) → Apart w → InOutcome Apart (split w.goal)
split_keeps w h = require_entry_in Apart (split_parts w.goal.concl) _ _ (λ p e. (h, (h, tt)))

chosen_fewer : (list : Option (List Named)) (hs : List Hyp) → Fewer (hyp_names (chosen list hs)) (hyp_names hs)
chosen_fewer None hs = same (hyp_names hs)
chosen_fewer (Some list) hs = fewer_hyps (λ f. is_listed list f.name) hs

unchosen_fewer : (list : Option (List Named)) (hs : List Hyp) → Fewer (hyp_names (unchosen list hs)) (hyp_names hs)
unchosen_fewer None hs = none_are_fewer (hyp_names hs)
unchosen_fewer (Some list) hs = fewer_hyps (λ f. not (is_listed list f.name)) hs

sides_keep : (left : Bool) (p : Parts) (list : Option (List Named)) (g : Goal) → NamesDiffer g → InOutcome Apart (sides left p list g)
sides_keep true p list g h = (with_spats_names (chosen list g.spats) g (chosen_fewer list g.spats) h, (with_spats_names (unchosen list g.spats) g (unchosen_fewer list g.spats) h, tt))
sides_keep false p list g h = (with_spats_names (unchosen list g.spats) g (unchosen_fewer list g.spats) h, (with_spats_names (chosen list g.spats) g (chosen_fewer list g.spats) h, tt))

split_at_keeps : (left : Bool) (list : Option (List Named)) (w : Work) → Apart w → InOutcome Apart (split_at left list w.goal)
split_at_keeps left list w h = require_entry_in Apart (star_parts w.goal.concl) _ _ (λ p e. all_spatial_in Apart w.goal (list_given list) _ (sides_keep left p list w.goal h))

side_keeps : (left : Bool) (w : Work) → Apart w → InOutcome Apart (side left w.goal)
side_keeps left w h = require_entry_in Apart (or_parts w.goal.concl) _ _ (λ p e. (h, tt))

exists_keeps : (t : Term) (w : Work) → Apart w → InOutcome Apart (exists t w.goal)
exists_keeps t w h = require_entry_in Apart (body_of_ex w.goal.concl) _ _ (λ b e. (h, tt))

exfalso_keeps : (w : Work) → Apart w → InOutcome Apart (exfalso w.goal)
exfalso_keeps w h = (h, tt)

exact_keeps : (x : Named) (w : Work) → Apart w → InOutcome Apart (exact x w.goal)
exact_keeps x w h = require_in Apart (has_hyp_or_fact w.goal x) _ _ _ (λ e. require_plain_in Apart (is_exact x w.goal) _ _ (λ f. tt))

assumption_keeps : (w : Work) → Apart w → InOutcome Apart (assumption w.goal)
assumption_keeps w h = require_plain_in Apart (is_hypothesis w.goal || is_fact w.goal) _ _ (λ e. tt)

done_keeps : (w : Work) → Apart w → InOutcome Apart (done w.goal)
done_keeps w h = require_plain_in Apart (is_done w.goal) _ _ (λ e. tt)

try_done_keeps : (w : Work) → Apart w → InOutcome Apart (try_done w.goal)
try_done_keeps w h = chosen_in Apart (is_done w.goal) _ _ (λ e. tt) (λ e. (h, tt))

clear_keeps : (x : Named) (w : Work) → Apart w → InOutcome Apart (clear x w.goal)
clear_keeps x w h = require_in Apart (has_hyp_or_fact w.goal x) _ _ _ (λ e. (without_names x w.goal h, tt))

rename_keeps : (x y : Named) (w : Work) → Apart w → InOutcome Apart (rename x y w.goal)
rename_keeps x y w h = require_in Apart (has_hyp_or_fact w.goal x) _ _ _ (λ e. require_in Apart (fits w.goal y) _ _ _ (λ free. (rename_names x y w.goal free h, tt)))

revert_keeps : (x : Named) (w : Work) → Apart w → InOutcome Apart (revert x w.goal)
revert_keeps x w h = require_some_in Apart (reverted x w.goal) _ _ _ (λ a e. (without_names x w.goal h, tt))

revert_var_keeps : (x : Named) (w : Work) → Apart w → InOutcome Apart (revert_var x w.goal)
revert_var_keeps x w h = require_some_in Apart (index_named x w.goal.vars) _ _ _ (λ i e. require_plain_in Apart (not (mentions i w.goal)) _ _ (λ f. (without_var_keeps x i w.goal h, tt)))

-- ---- modalities

some_is : {A : Type 0} (x y : A) → Some y ≡ Some x → x ≡ y
some_is x y e = cc

then_some_is : {A : Type 0} (b : Bool) (x y : A) → then_some b x ≡ Some y → y ≡ x
then_some_is true x y e = cc
then_some_is false x y e = absurd cc

passed_names : (m : Modality) (p : Passage) (hs gs : List Hyp) → passed m p hs ≡ Some gs → Fewer (hyp_names gs) (hyp_names hs)
unfolding passed
passed_names m passage.Empty [] gs e = fewer_from (hyp_names gs) [] (ap hyp_names (some_is gs [] e))
passed_names m passage.Empty (h ∷ hs) gs e = absurd cc
passed_names m passage.All hs gs e = fewer_from (hyp_names gs) (hyp_names hs) (ap hyp_names (then_some_is _ hs gs e))
passed_names m passage.Transform hs gs e = fewer_from (hyp_names gs) (hyp_names hs) (ap hyp_names (some_is gs (Works.each_hyp m.act hs) e) ∙ each_hyp_names m.act hs)
passed_names m passage.Clear hs gs e = subst (λ fs. Fewer (hyp_names fs) (hyp_names hs)) (sym (some_is gs [] e)) (none_are_fewer (hyp_names hs))
passed_names m passage.Identity hs gs e = fewer_from (hyp_names gs) (hyp_names hs) (ap hyp_names (some_is gs hs e))

mod_intro_keeps : (m : Modality) (g : Goal) → NamesDiffer g → InOutcome Apart (mod_intro m g)
mod_intro_keeps m g h = require_entry_in Apart (m.strip g.concl) _ _ (λ c e. require_entry_in Apart (passed m m.intuitionistic g.ints) _ _ (λ ints f. require_entry_in Apart (passed m m.spatial g.spats) _ _ (λ spats i.
    (differ_still (acted g ints spats c) g (fewer_names (acted g ints spats c) g (same g.vars) (same (fact_names g.pures)) (passed_names m m.intuitionistic g.ints ints f) (passed_names m m.spatial g.spats spats i)) h, tt))))

head_intro_keeps : (w : Work) → Apart w → InOutcome Apart (head_intro w.goal)
head_intro_keeps w h = require_entry_in Apart (modality_of w.goal.concl) _ _ (λ m e. mod_intro_keeps m w.goal h)

next_keeps : (w : Work) → Apart w → InOutcome Apart (next w.goal)
next_keeps w h = mod_intro_keeps later w.goal h

-- ---- points-to, induction, equations

combine_keeps : (x y : Named) (w : Work) → Apart w → InOutcome Apart (combine_held x y w.goal)
combine_keeps x y w h = all_spatial_in Apart w.goal (x ∷ y ∷ []) _ (require_some_in Apart (hyp_named x w.goal.spats) _ _ _ (λ f e. require_some_in Apart (hyp_named y w.goal.spats) _ _ _ (λ g i. chosen_in Apart (is_falsehood (combine f g)) _ _ (λ j. tt) (λ j. (with_spats_names (hyps_out (x ∷ y ∷ []) w.goal.spats) w.goal (fewer_hyps (λ f. not (is_listed (x ∷ y ∷ []) f.name)) w.goal.spats) h, tt)))))

write_keeps : (x : Named) (t : Term) (w : Work) → Apart w → InOutcome Apart (write x t w.goal)
write_keeps x t w h = require_in Apart (has_hyp w.goal x) _ _ _ (λ e. require_some_in Apart (hyp_named x w.goal.spats) _ _ _ (λ f i. require_entry_in Apart (full_location f) _ _ (λ l j. require_plain_in Apart (is_some (under_update w.goal.concl)) _ _ (λ k. (put_keeps x (Pts l UNIT t) w.goal h, tt)))))

allocate_keeps : (t : Term) (l : Named) (w : Work) → Apart w → InOutcome Apart (allocate t l w.goal)
allocate_keeps t l w h = require_plain_in Apart (is_some (under_update w.goal.concl)) _ _ (λ e. require_in Apart (fits w.goal l) _ _ _ (λ free. (differ_with l (with_var l (shift_of w.goal.concl) w.goal) w.goal (more_var l (shift_of w.goal.concl) w.goal) free h, tt)))

loeb_keeps : (x : Named) (w : Work) → Apart w → InOutcome Apart (loeb x w.goal)
loeb_keeps x w h = require_in Apart (fits w.goal x) _ _ _ (λ free. (differ_with x (with_int x (Later (wands w.goal.spats w.goal.concl)) w.goal) w.goal (more_int x (Later (wands w.goal.spats w.goal.concl)) w.goal) free h, tt))

unfold_keeps : (preds : Preds) (x : Option Named) (w : Work) → Apart w → InOutcome Apart (unfold_call preds x w.goal)
unfold_keeps preds None w h = require_entry_in Apart (body_of_call preds w.goal.concl) _ _ (λ b e. (h, tt))
unfold_keeps preds (Some x) w h = require_some_in Apart (formula_named x w.goal) _ _ _ (λ f e. require_entry_in Apart (body_of_call preds f) _ _ (λ b i. (put_keeps x b w.goal h, tt)))

fold_keeps : (preds : Preds) (f : Formula) (x : Named) (w : Work) → Apart w → InOutcome Apart (fold_call preds f x w.goal)
fold_keeps preds f x w h = require_entry_in Apart (body_of_call preds f) _ _ (λ b e. require_some_in Apart (formula_named x w.goal) _ _ _ (λ g i. require_plain_in Apart (formula_eq g b) _ _ (λ j. (put_keeps x f w.goal h, tt))))

pure_intro_keeps : (w : Work) → Apart w → InOutcome Apart (pure_intro w.goal)
pure_intro_keeps w h = require_entry_in Apart (from_pure w.goal.concl) _ _ (λ p e. (differ_still (record w.goal { ints = []; spats = []; concl = Assert p }) w.goal (fewer_names (record w.goal { ints = []; spats = []; concl = Assert p }) w.goal (same w.goal.vars) (same (fact_names w.goal.pures)) (none_are_fewer (hyp_names w.goal.ints)) (none_are_fewer (hyp_names w.goal.spats))) h, tt))

rewrite_at_keeps : (e : Equation) (target : Option Named) (g : Goal) → NamesDiffer g → InOutcome Apart (rewrite_at e target g)
rewrite_at_keeps e None g h = require_plain_in Apart (occurs e g.concl) _ _ (λ i. (h, tt))
rewrite_at_keeps e (Some x) g h = chosen_in Apart (has_fact g x) _ _
    (λ i. require_some_in Apart (fact_named x g.pures) _ _ _ (λ p j. require_plain_in Apart (occurs_in_pure e p) _ _ (λ k. (put_fact_keeps x (rewritten_pure e p) g h, tt))))
    (λ i. require_some_in Apart (formula_named x g) _ _ _ (λ f j. require_plain_in Apart (occurs e f) _ _ (λ k. (put_keeps x (rewritten e f) g h, tt))))

rewrite_keeps : (back : Bool) (x : Named) (target : Option Named) (w : Work) → Apart w → InOutcome Apart (rewrite back x target w.goal)
rewrite_keeps back x target w h = require_some_in Apart (fact_named x w.goal.pures) _ _ _ (λ p e. require_entry_in Apart (equation_of back p) _ _ (λ q i. rewrite_at_keeps q target w.goal h))

cases_keeps : (p : P.Pure) (x : Named) (w : Work) → Apart w → InOutcome Apart (cases p x w.goal)
cases_keeps p x w h = require_in Apart (fits w.goal x) _ _ _ (λ free. (differ_with x (with_fact x p w.goal) w.goal (more_fact x p w.goal) free h, (differ_with x (with_fact x (nope p) w.goal) w.goal (more_fact x (nope p) w.goal) free h, tt)))

linear_keeps : (w : Work) → Apart w → InOutcome Apart (linear w.goal)
linear_keeps w h = require_entry_in Apart (linear_conclusion w.goal.concl) _ _ (λ g e. require_plain_in Apart (are_small g) _ _ (λ i. require_plain_in Apart (in_box (atoms w.goal.pures) g) _ _ (λ j. tt)))

linear_with_keeps : (certs : List Cert) (w : Work) → Apart w → InOutcome Apart (linear_with certs w.goal)
linear_with_keeps certs w h = require_entry_in Apart (linear_conclusion w.goal.concl) _ _ (λ g e. require_plain_in Apart (are_small g) _ _ (λ i. require_plain_in Apart (length certs == length (readings g)) _ _ (λ j. refuse_where_in Apart (find (λ n. not (has_fact w.goal n)) (flat_map names_of_cert certs)) _ _ (refuse_where_in Apart (given_twice certs) _ _ (refuse_where_in Apart (find (λ n. not (fact_passes is_atom w.goal n)) (flat_map names_of_cert certs)) _ _ (require_plain_in Apart (list_all (fact_passes are_small w.goal) (flat_map names_of_cert certs)) _ _ (λ k. require_plain_in Apart (certify w.goal certs (readings g)) _ _ (λ l. tt))))))))

-- ---- steps

module _ (preds : Preds) (lemmas : Lemmas) where
  fine : (action : Action) → ((w : Work) → Apart w → InOutcome Apart (action w)) → Good Apart action
  fine action keeps w h = good Apart action keeps w h

  opening_fine : (action : Action) → ((w : Work) → Apart w → InOutcome Apart (action w)) → Good Apart (opening (true ∷ []) action)
  opening_fine action keeps w h = good Apart (opening (true ∷ []) action) (λ v i. opening_in Apart (true ∷ []) (action v) (keeps v i)) w h

  goal_fine : (action : Goal → Outcome) → ((w : Work) → Apart w → InOutcome Apart (action w.goal)) → Good Apart (on_goal action)
  goal_fine action keeps w h = rest_good Apart (λ v. action v.goal) (fine (λ v. action v.goal) keeps) (fine one (λ v i. (i, tt))) w h

  pub actions : ActionsKeep apart preds lemmas
  actions = record {
    stay = fine one stay_keeps;
    intro_one = λ p. fine (intro_one p) (intro_one_keeps p);
    intro_hyp = fine intro_hyp intro_hyp_keeps;
    intro_all_fresh = fine intro_all_fresh (λ w h. intro_all_keeps (fresh_name w.goal) w h);
    name_held = λ x. fine (name_held x) (name_held_keeps x);
    name_fresh = fine name_fresh (λ w h. name_held_keeps (fresh_name w.goal) w h);
    drop_held = fine drop_held drop_held_keeps;
    frame_held = fine frame_held frame_held_keeps;
    pair = λ p q. fine (destructs.pair p q) (pair_keeps p q);
    either = fine either either_keeps;
    absurd_held = fine absurd_held absurd_keeps;
    to_pure = λ x. fine (to_pure x) (to_pure_keeps x);
    to_pure_fresh = fine to_pure_fresh (λ w h. to_pure_keeps (fresh_name w.goal) w h);
    to_int = opening_fine to_int to_int_keeps;
    to_spat = opening_fine to_spat to_spat_keeps;
    elim_update = opening_fine elim_update elim_keeps;
    subst_held = λ b. fine (subst_held b) (subst_keeps b);
    take = λ x. fine (take x) (take_keeps x);
    lend = λ x. fine (lend x) (lend_keeps x);
    lemma = λ n. fine (lemma lemmas n) (lemma_keeps lemmas n);
    with_term = λ t i. fine (with_term t) (with_term_keeps t);
    with_spat = λ s. fine (with_spat s) (with_spat_keeps s);
    assert = λ f s i. fine (assert f s) (assert_keeps f s);
    apply = fine apply apply_keeps;
    frame_named = λ x. fine (frame_named x) (frame_named_keeps x);
    frame_member = λ x. fine (frame_member x) (frame_member_keeps x);
    split = goal_fine split split_keeps;
    split_at = λ left list. goal_fine (split_at left list) (split_at_keeps left list);
    side = λ left. goal_fine (side left) (side_keeps left);
    exists = λ t i. goal_fine (exists t) (exists_keeps t);
    exfalso = goal_fine exfalso exfalso_keeps;
    exact = λ x. goal_fine (exact x) (exact_keeps x);
    assumption = goal_fine assumption assumption_keeps;
    done = goal_fine done done_keeps;
    try_done = goal_fine try_done try_done_keeps;
    clear = λ x. goal_fine (clear x) (clear_keeps x);
    rename = λ x y. goal_fine (rename x y) (rename_keeps x y);
    revert = λ x. goal_fine (revert x) (revert_keeps x);
    head_intro = goal_fine head_intro head_intro_keeps;
    next = goal_fine next next_keeps;
    combine_held = λ x y. goal_fine (combine_held x y) (combine_keeps x y);
    write = λ x t i. goal_fine (write x t) (write_keeps x t);
    allocate = λ t l i. goal_fine (allocate t l) (allocate_keeps t l);
    loeb = λ x. goal_fine (loeb x) (loeb_keeps x);
    unfold_call = λ x. goal_fine (unfold_call preds x) (unfold_keeps preds x);
    fold_call = λ f x i. goal_fine (fold_call preds f x) (fold_keeps preds f x);
    pure_intro = goal_fine pure_intro pure_intro_keeps;
    rewrite = λ back x target. goal_fine (rewrite back x target) (rewrite_keeps back x target);
    cases = λ p x i. goal_fine (cases p x) (cases_keeps p x);
    linear = goal_fine linear linear_keeps;
    linear_with = λ certs. goal_fine (linear_with certs) (linear_with_keeps certs);
  }

  handed : (directive : Directive) → Handed apart directive
  unfolding Handed
  handed (d.Destruct t p) = anything t.terms
  handed (d.PoseProof t p) = anything t.terms
  handed (d.Specialize t) = anything t.terms
  handed (d.Apply t) = anything t.terms
  handed (d.Exists ts) = anything ts
  handed (d.Revert xs sels) = λ x. goal_fine (revert_var x) (revert_var_keeps x)
  handed (d.Mod t p) = anything t.terms
  handed _ = tt

  pub kept_apart : (goal : Goal) (directive : Directive) → NamesDiffer goal → EachGoal NamesDiffer (step preds lemmas goal directive)
  kept_apart goal directive h = stepped_in Apart NamesDiffer (λ w i. i) (run_on preds lemmas goal directive) (run_in apart preds lemmas actions directive (handed directive) (current [] (resting goal) ∷ []) (h, tt))

pub steps_keep_names_apart : StepsKeepNamesApart
steps_keep_names_apart preds lemmas goal directive h = kept_apart preds lemmas goal directive h
