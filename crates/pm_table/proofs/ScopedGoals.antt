-- Goals that are split, chosen, closed, cleared, renamed and reverted stay scoped.
use Rattle.std.proofs.Common.{◌≡◌, ℕ, suc, ◌<◌, ◌≤◌, Bool, true, false, cond, not, ◌||◌, List, [], ◌∷◌, length, refl, ap, subst, arith, Option, Some, None, option_map, bytes_eq}
use Rattle.std.specs.List.{AllByRecursion, list_any}
use Rattle.pm_logic.specs.declared.formula.Term.{Term}
use Rattle.pm_logic.specs.declared.formula.Pure.TheVariants.{False}
use Rattle.pm_logic.specs.declared.formula.Formula.{Formula}
use Rattle.pm_logic.specs.declared.formula.Formula.TheVariants.{Pure as Assert}
use Rattle.pm_logic.specs.declared.formula.Preds.{Preds}
use Rattle.pm_logic.specs.Trees.{both, either, Sep, Wand, And, Or, Ex, Pers}
use Rattle.pm_logic.specs.Substitution.{in_pure, in_formula, opened_of}
use Rattle.pm_logic.specs.Scope.{TermScoped, PureScoped, Scoped}
use Rattle.pm_logic.proofs.Grows.{term_grows}
use Rattle.pm_goal.specs.declared.goal.Hyp.{Hyp}
use Rattle.pm_goal.specs.declared.goal.Fact.{Fact}
use Rattle.pm_goal.specs.declared.goal.Goal.{Goal}
use Rattle.pm_goal.specs.declared.work.Work.{Work}
use Rattle.pm_goal.specs.Find.{first_of_two}
use Rattle.pm_classes.specs.Classes.{Parts, parts}
use Rattle.pm_classes.specs.Persistence.{is_persistent}
use Rattle.pm_table.specs.Limits.{resting}
use Rattle.pm_table.specs.Occurrences.{in_a_pure, in_a_formula, without, to_front}
use Rattle.pm_table.specs.Works
use Rattle.pm_table.specs.Works.{Named, hyp_named, fact_named, index_named, has_hyp_or_fact, fits, is_listed, hyps_in, hyps_out, without_named}
use Rattle.pm_table.specs.Basic.{for, with_spats, split_parts, star_parts, or_parts, body_of_ex, list_given, is_exact, is_hypothesis, is_fact, reverted, mentions, names_but, without_var, split, split_at, sides, side, exists, exfalso, exact, assumption, done, try_done, is_done, clear, rename, renamed, with_renamed, revert, revert_var, chosen, unchosen}
use Rattle.pm_table.specs.Scopes.{GoalScopedIn, IsGoalScoped}
use Rattle.pm_table.proofs.Keeping.{InOutcome}
use Rattle.pm_table.proofs.Outcomes.{chosen_in, require_in, require_plain_in, require_some_in, all_spatial_in}
use Rattle.pm_table.proofs.Scopes.{of_sep, of_and, of_or, of_ex, of_facts, of_either, falsehood, wand, pers, all, opened, pure_without, formula_without, to_front_scoped}
use Rattle.pm_table.proofs.Scoping.{HypsIn, OneIn, PartsIn, Inside, all_filter, all_map, one_of_two, either_formula, hyp_named_in, fact_named_in, as_formula, parts_chosen, concl_in, without_named_in, entry_in, named_in, parts_in}

-- ---- parts

split_parts_in : (preds : Preds) (k : ℕ) (f : Formula) → Scoped preds k f → PartsIn preds k (split_parts f)
split_parts_in preds k (And a b) s = of_and preds k a b s
split_parts_in preds k (Assert (both p q)) s = of_facts preds k p q s
split_parts_in preds k (Sep a b) s = parts_chosen preds k (is_persistent a || is_persistent b) (Some (parts a b)) None (of_sep preds k a b s) tt
split_parts_in preds k _ s = tt

star_parts_in : (preds : Preds) (k : ℕ) (f : Formula) → Scoped preds k f → PartsIn preds k (star_parts f)
star_parts_in preds k (Sep a b) s = of_sep preds k a b s
star_parts_in preds k _ s = tt

or_parts_in : (preds : Preds) (k : ℕ) (f : Formula) → Scoped preds k f → PartsIn preds k (or_parts f)
or_parts_in preds k (Or a b) s = of_or preds k a b s
or_parts_in preds k (Assert (either p q)) s = of_either preds k p q s
or_parts_in preds k _ s = tt

body_in : (preds : Preds) (k : ℕ) (f : Formula) → Scoped preds k f → OneIn preds (suc k) (body_of_ex f)
body_in preds k (Ex b) s = of_ex preds k b s
body_in preds k _ s = tt

chosen_hyps_in : (preds : Preds) (k : ℕ) (list : Option (List Named)) (hs : List Hyp) → HypsIn preds k hs → HypsIn preds k (chosen list hs)
chosen_hyps_in preds k None hs h = h
chosen_hyps_in preds k (Some list) hs h = all_filter (λ i. Scoped preds k i.formula) (λ i. is_listed list i.name) hs h

unchosen_hyps_in : (preds : Preds) (k : ℕ) (list : Option (List Named)) (hs : List Hyp) → HypsIn preds k hs → HypsIn preds k (unchosen list hs)
unchosen_hyps_in preds k None hs h = tt
unchosen_hyps_in preds k (Some list) hs h = all_filter (λ i. Scoped preds k i.formula) (λ i. not (is_listed list i.name)) hs h

boxed_one : (preds : Preds) (k : ℕ) (o : Option Formula) → OneIn preds k o → OneIn preds k (option_map (λ f. Pers f) o)
boxed_one preds k None h = tt
boxed_one preds k (Some f) h = pers preds k f h

reverted_in : (preds : Preds) (k : ℕ) (x : Named) (g : Goal) → GoalScopedIn preds k g → OneIn preds k (reverted x g)
reverted_in preds k x g h =
    one_of_two preds k (hyp_named x g.spats) (first_of_two (option_map (λ f. Pers f) (hyp_named x g.ints)) (option_map Assert (fact_named x g.pures))) (hyp_named_in preds k x g.spats h.spats)
    (one_of_two preds k (option_map (λ f. Pers f) (hyp_named x g.ints)) (option_map Assert (fact_named x g.pures)) (boxed_one preds k (hyp_named x g.ints) (hyp_named_in preds k x g.ints h.ints)) (as_formula preds k (fact_named x g.pures) (fact_named_in preds k x g.pures h.pures)))

-- ---- the variable that is left out

record IsVar (i : ℕ) (xs ys : List Named) : Type 0 where
  fewer : length xs ≡ suc (length ys)
  low : i < length xs

abbrev IsVarOf : List Named → List Named → Option ℕ → Type 0
IsVarOf xs ys None = Unit {0}
IsVarOf xs ys (Some i) = IsVar i xs ys

left_out : (b : Bool) (y : Named) (xs ys : List Named) (o : Option ℕ) → IsVarOf xs ys o → IsVarOf (y ∷ xs) (cond b xs (y ∷ ys)) (cond b (Some (length xs)) o)
left_out true y xs ys o h = record { fewer = refl; low = omega arith }
left_out false y xs ys None h = tt
left_out false y xs ys (Some i) h = let low = h.low in record { fewer = ap suc h.fewer; low = omega (arith, low) }

var_in : (x : Named) (xs : List Named) → IsVarOf xs (names_but x xs) (index_named x xs)
var_in x [] = tt
var_in x (y ∷ xs) = left_out (bytes_eq x y) y xs (names_but x xs) (index_named x xs) (var_in x xs)

neither : (a b : Bool) → a || b ≡ false → (a ≡ false) × (b ≡ false)
neither true b h = absurd cc
neither false b h = (refl, h)

is_not : (b : Bool) → not b ≡ true → b ≡ false
is_not true e = absurd cc
is_not false e = refl

facts_without : (i m : ℕ) (fs : List Fact) → i < suc m → list_any (λ f. in_a_pure i f.pure) fs ≡ false → AllByRecursion (λ f. PureScoped (suc m) f.pure) fs → AllByRecursion (λ f. PureScoped m f.pure) (Works.each_fact (in_pure (without i)) fs)
facts_without i m [] low e h = tt
facts_without i m (f ∷ fs) low e h = let g = neither (in_a_pure i f.pure) (list_any (λ f. in_a_pure i f.pure) fs) e in (pure_without i m f.pure low h.0 g.0, facts_without i m fs low g.1 h.1)

hyps_without : (preds : Preds) (i m : ℕ) (hs : List Hyp) → i < suc m → list_any (λ h. in_a_formula i h.formula) hs ≡ false → HypsIn preds (suc m) hs → HypsIn preds m (Works.each_hyp (in_formula (without i)) hs)
hyps_without preds i m [] low e h = tt
hyps_without preds i m (f ∷ hs) low e h = let g = neither (in_a_formula i f.formula) (list_any (λ h. in_a_formula i h.formula) hs) e in (formula_without preds i m f.formula low h.0 g.0, hyps_without preds i m hs low g.1 h.1)

without_var_in : (preds : Preds) (x : Named) (i m : ℕ) (g : Goal) → i < suc m → mentions i g ≡ false → GoalScopedIn preds (suc m) g → GoalScopedIn preds m (without_var x i g)
without_var_in preds x i m g low e h =
    let pures : Bool = list_any (λ (f : Fact). in_a_pure i f.pure) g.pures in
    let ints : Bool = list_any (λ (h : Hyp). in_a_formula i h.formula) g.ints in
    let spats : Bool = list_any (λ (h : Hyp). in_a_formula i h.formula) g.spats in
    let first = neither (pures || ints) spats e in
    let second = neither pures ints first.0 in
    record {
      pures = facts_without i m g.pures low second.0 h.pures;
      ints = hyps_without preds i m g.ints low second.1 h.ints;
      spats = hyps_without preds i m g.spats low first.1 h.spats;
      concl = all preds m (in_formula (to_front i) g.concl) (to_front_scoped preds i m g.concl low h.concl);
    }

module _ (preds : Preds) (n : ℕ) where
  abbrev In : Work → Type 0
  In w = Inside preds n w

  -- ---- a goal with nothing in hand

  pub rest_in : (g : Goal) → n ≤ length g.vars → IsGoalScoped preds g → In (resting g)
  rest_in g le h = record { scoped = record { goal = h; held = tt }; least = le }

  pub concluded : (c : Formula) (w : Work) → In w → Scoped preds (length w.goal.vars) c → In (resting (for c w.goal))
  concluded c w h s = rest_in (for c w.goal) h.least (concl_in preds (length w.goal.vars) c w.goal h.scoped.goal s)

  pub with_spats_in : (hs : List Hyp) (c : Formula) (w : Work) → In w → HypsIn preds (length w.goal.vars) hs → Scoped preds (length w.goal.vars) c → In (resting (for c (with_spats hs w.goal)))
  with_spats_in hs c w h s t = rest_in (for c (with_spats hs w.goal)) h.least (record { pures = h.scoped.goal.pures; ints = h.scoped.goal.ints; spats = s; concl = t })

  -- ---- splitting and choosing

  pub split_in : (w : Work) → In w → InOutcome In (split w.goal)
  split_in w h = parts_in preds n (length w.goal.vars) (split_parts w.goal.concl) _ _ (split_parts_in preds (length w.goal.vars) w.goal.concl h.scoped.goal.concl) (λ p s t. (concluded p.first w h s, (concluded p.second w h t, tt)))

  sides_in : (left : Bool) (p : Parts) (list : Option (List Named)) (w : Work) → In w → Scoped preds (length w.goal.vars) p.first → Scoped preds (length w.goal.vars) p.second → InOutcome In (sides left p list w.goal)
  sides_in true p list w h s t = let k : ℕ = length w.goal.vars in
      (with_spats_in (chosen list w.goal.spats) p.first w h (chosen_hyps_in preds k list w.goal.spats h.scoped.goal.spats) s, (with_spats_in (unchosen list w.goal.spats) p.second w h (unchosen_hyps_in preds k list w.goal.spats h.scoped.goal.spats) t, tt))
  sides_in false p list w h s t = let k : ℕ = length w.goal.vars in
      (with_spats_in (unchosen list w.goal.spats) p.first w h (unchosen_hyps_in preds k list w.goal.spats h.scoped.goal.spats) s, (with_spats_in (chosen list w.goal.spats) p.second w h (chosen_hyps_in preds k list w.goal.spats h.scoped.goal.spats) t, tt))

  pub split_at_in : (left : Bool) (list : Option (List Named)) (w : Work) → In w → InOutcome In (split_at left list w.goal)
  split_at_in left list w h = parts_in preds n (length w.goal.vars) (star_parts w.goal.concl) _ _ (star_parts_in preds (length w.goal.vars) w.goal.concl h.scoped.goal.concl) (λ p s t. all_spatial_in In w.goal (list_given list) _ (sides_in left p list w h s t))

  pub side_in : (left : Bool) (w : Work) → In w → InOutcome In (side left w.goal)
  side_in left w h = let k : ℕ = length w.goal.vars in
      parts_in preds n k (or_parts w.goal.concl) _ _ (or_parts_in preds k w.goal.concl h.scoped.goal.concl) (λ p s t. (concluded (cond left p.first p.second) w h (either_formula preds k left p.first p.second s t), tt))

  pub exists_in : (t : Term) (w : Work) → TermScoped n t → In w → InOutcome In (exists t w.goal)
  exists_in t w given h = let k : ℕ = length w.goal.vars in
      entry_in preds n (suc k) (body_of_ex w.goal.concl) _ _ (body_in preds k w.goal.concl h.scoped.goal.concl) (λ b s. (concluded (opened_of b t) w h (opened preds k b t s (term_grows n k t h.least given)), tt))

  pub exfalso_in : (w : Work) → In w → InOutcome In (exfalso w.goal)
  exfalso_in w h = (concluded (Assert False) w h (falsehood preds (length w.goal.vars)), tt)

  -- ---- closing

  pub exact_in : (x : Named) (w : Work) → In w → InOutcome In (exact x w.goal)
  exact_in x w h = require_in In (has_hyp_or_fact w.goal x) _ _ _ (λ e. require_plain_in In (is_exact x w.goal) _ _ (λ f. tt))

  pub assumption_in : (w : Work) → In w → InOutcome In (assumption w.goal)
  assumption_in w h = require_plain_in In (is_hypothesis w.goal || is_fact w.goal) _ _ (λ e. tt)

  pub done_in : (w : Work) → In w → InOutcome In (done w.goal)
  done_in w h = require_plain_in In (is_done w.goal) _ _ (λ e. tt)

  pub try_done_in : (w : Work) → In w → InOutcome In (try_done w.goal)
  try_done_in w h = chosen_in In (is_done w.goal) _ _ (λ e. tt) (λ e. (rest_in w.goal h.least h.scoped.goal, tt))

  -- ---- names

  pub clear_in : (x : Named) (w : Work) → In w → InOutcome In (clear x w.goal)
  clear_in x w h = require_in In (has_hyp_or_fact w.goal x) _ _ _ (λ e. (rest_in (without_named x w.goal) h.least (without_named_in preds (length w.goal.vars) x w.goal h.scoped.goal), tt))

  renamed_in : (k : ℕ) (x y : Named) (g : Goal) → GoalScopedIn preds k g → GoalScopedIn preds k (with_renamed x y g)
  renamed_in k x y g h = record {
    pures = all_map (λ f. PureScoped k f.pure) (λ f. PureScoped k f.pure) (λ f. Works.fact (renamed x y f.name) f.pure) (λ f s. s) g.pures h.pures;
    ints = all_map (λ i. Scoped preds k i.formula) (λ i. Scoped preds k i.formula) (λ i. Works.hyp (renamed x y i.name) i.formula) (λ i s. s) g.ints h.ints;
    spats = all_map (λ i. Scoped preds k i.formula) (λ i. Scoped preds k i.formula) (λ i. Works.hyp (renamed x y i.name) i.formula) (λ i s. s) g.spats h.spats;
    concl = h.concl;
  }

  pub rename_in : (x y : Named) (w : Work) → In w → InOutcome In (rename x y w.goal)
  rename_in x y w h = require_in In (has_hyp_or_fact w.goal x) _ _ _ (λ e. require_in In (fits w.goal y) _ _ _ (λ free. (rest_in (with_renamed x y w.goal) h.least (renamed_in (length w.goal.vars) x y w.goal h.scoped.goal), tt)))

  pub revert_in : (x : Named) (w : Work) → In w → InOutcome In (revert x w.goal)
  revert_in x w h = let k : ℕ = length w.goal.vars in
      named_in preds n k (reverted x w.goal) _ _ _ (reverted_in preds k x w.goal h.scoped.goal) (λ a s.
      (rest_in (for (Wand a w.goal.concl) (without_named x w.goal)) h.least (concl_in preds k (Wand a w.goal.concl) (without_named x w.goal) (without_named_in preds k x w.goal h.scoped.goal) (wand preds k a w.goal.concl s h.scoped.goal.concl)), tt))

-- the goal has a variable less
pub revert_var_in : (preds : Preds) (x : Named) (w : Work) → Inside preds 0 w → InOutcome (Inside preds 0) (revert_var x w.goal)
revert_var_in preds x w h = require_some_in (Inside preds 0) (index_named x w.goal.vars) _ _ _ (λ i e. require_plain_in (Inside preds 0) (not (mentions i w.goal)) _ _ (λ f.
    let m : ℕ = length (names_but x w.goal.vars) in
    let is : IsVar i w.goal.vars (names_but x w.goal.vars) = subst (IsVarOf w.goal.vars (names_but x w.goal.vars)) e (var_in x w.goal.vars) in
    let fewer = is.fewer in
    let low = is.low in
    let s : GoalScopedIn preds (suc m) w.goal = subst (λ (k : ℕ). GoalScopedIn preds k w.goal) fewer h.scoped.goal in
    (rest_in preds 0 (without_var x i w.goal) (omega arith) (without_var_in preds x i m w.goal (omega (arith, fewer, low)) (is_not (mentions i w.goal) f) s), tt)))
