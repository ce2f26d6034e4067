-- What a name names in a goal, from its place in a context.
use Rattle.std.proofs.Common.{◌≡◌, ℕ, suc, ◌+◌, ◌<◌, ◌≤◌, Bool, true, false, cond, List, [], ◌∷◌, length, refl, sym, ◌∙◌, ap, arith, Option, Some, None, position, bytes_eq, slice_get}
use Rattle.std.specs.Prelude.{option_map}
use Rattle.pm_logic.specs.declared.formula.Pure.{Pure}
use Rattle.pm_logic.specs.declared.formula.Formula.{Formula}
use Rattle.pm_logic.specs.declared.formula.Formula.TheVariants.{Pure as Assert}
use Rattle.pm_logic.specs.declared.formula.Formula.TheViews as view
use Rattle.pm_goal.specs.declared.goal.Hyp.{Hyp}
use Rattle.pm_goal.specs.declared.goal.Fact.{Fact}
use Rattle.pm_goal.specs.declared.goal.Goal.{Goal}
use Rattle.pm_goal.specs.declared.work.Kind.TheVariants as kind
use Rattle.pm_star.specs.Stars.{parts, shared, part_at, without}
use Rattle.pm_star.proofs.Places.{goal_loses_fact, goal_loses_int, goal_loses_spat, fact_at, int_at, spat_at}
use Rattle.pm_table.specs.Works.{Named, hyp_named, fact_named, hyps_but, facts_but, without_named, without_spat}
use Rattle.pm_table.specs.Stepping.{times, NamesDiffer}
use Rattle.pm_table.proofs.Counting.{hyp_names, fact_names, times_in_goal}
use Rattle.pm_action.specs.Naming.{HypsDiffer, FactsDiffer}
use Rattle.pm_hand.specs.Looking.{IsNamed, IsHypAt, IsFactAt}
use Rattle.pm_hand.proofs.Lists.{first_named, zero_named, zero_others, IsFound, found_at, none_at, within}
use Rattle.pm_hand.proofs.Lasts.{shared_count, goal_count}

abbrev of_hyp : Hyp → Named
of_hyp h = h.name

abbrev of_fact : Fact → Named
of_fact f = f.name

-- ---- what a context has under the name

hyp_first : (name : Named) (hs : List Hyp) → hyp_named name hs ≡ option_map (λ (h : Hyp). h.formula) (first_named of_hyp name hs)
hyp_first name [] = refl
hyp_first name (h ∷ hs) = by (bytes_eq name h.name) (hyp_first name hs)
  where
    by : (b : Bool) → hyp_named name hs ≡ option_map (λ (g : Hyp). g.formula) (first_named of_hyp name hs) → cond b (Some h.formula) (hyp_named name hs) ≡ option_map (λ (g : Hyp). g.formula) (cond b (Some h) (first_named of_hyp name hs))
    by true rest = refl
    by false rest = rest

fact_first : (name : Named) (fs : List Fact) → fact_named name fs ≡ option_map (λ (f : Fact). f.pure) (first_named of_fact name fs)
fact_first name [] = refl
fact_first name (f ∷ fs) = by (bytes_eq name f.name) (fact_first name fs)
  where
    by : (b : Bool) → fact_named name fs ≡ option_map (λ (g : Fact). g.pure) (first_named of_fact name fs) → cond b (Some f.pure) (fact_named name fs) ≡ option_map (λ (g : Fact). g.pure) (cond b (Some f) (first_named of_fact name fs))
    by true rest = refl
    by false rest = rest

no_hyp : (name : Named) (hs : List Hyp) → times name (hyp_names hs) ≡ 0 → hyp_named name hs ≡ None
no_hyp name hs e = hyp_first name hs ∙ ap (option_map (λ (h : Hyp). h.formula)) (zero_named of_hyp name hs e)

no_fact : (name : Named) (fs : List Fact) → times name (fact_names fs) ≡ 0 → fact_named name fs ≡ None
no_fact name fs e = fact_first name fs ∙ ap (option_map (λ (f : Fact). f.pure)) (zero_named of_fact name fs e)

hyp_here : (name : Named) (hs : List Hyp) (h : Hyp) → first_named of_hyp name hs ≡ Some h → hyp_named name hs ≡ Some h.formula
hyp_here name hs h e = hyp_first name hs ∙ ap (option_map (λ (g : Hyp). g.formula)) e

fact_here : (name : Named) (fs : List Fact) (f : Fact) → first_named of_fact name fs ≡ Some f → fact_named name fs ≡ Some f.pure
fact_here name fs f e = fact_first name fs ∙ ap (option_map (λ (g : Fact). g.pure)) e

same_formula : (f : Formula) (h : Hyp) (o : Option Hyp) → o ≡ Some h → Some f ≡ option_map (λ (g : Hyp). g.formula) o → h.formula ≡ f
same_formula f h o is e = let at : Some f ≡ Some h.formula = e ∙ ap (option_map (λ (g : Hyp). g.formula)) is in cc

same_pure : (p : Pure) (f : Fact) (o : Option Fact) → o ≡ Some f → Some p ≡ option_map (λ (g : Fact). g.pure) o → f.pure ≡ p
same_pure p f o is e = let at : Some p ≡ Some f.pure = e ∙ ap (option_map (λ (g : Fact). g.pure)) is in cc

-- ---- where it is

module _ (goal : Goal) (name : Named) (apart : NamesDiffer goal) where
  at_most : times name (fact_names goal.pures) + (times name (hyp_names goal.ints) + times name (hyp_names goal.spats)) ≤ 1
  at_most = let all = times_in_goal name goal in let most = apart name in omega (arith, all, most)

  pub spat_looked : (i : ℕ) (f : Formula) (place : ℕ) → position (λ (h : Hyp). bytes_eq name h.name) goal.spats ≡ Some i → Some f ≡ option_map (λ (h : Hyp). h.formula) (slice_get goal.spats i) → place ≡ length goal.pures + length goal.ints + i → IsHypAt goal name place kind.Spat f
  spat_looked i f place e formed at =
      let found = found_at of_hyp name goal.spats i e in
      let h : Hyp = found.0 in
      let known : IsFound of_hyp name goal.spats i h = found.1 in
      let no_ints : times name (hyp_names goal.ints) ≡ 0 = omega (arith, at_most, known.counted) in
      let no_pures : times name (fact_names goal.pures) ≡ 0 = omega (arith, at_most, known.counted) in
      let once : times name (hyp_names goal.spats) ≤ 1 = omega (arith, at_most) in
      let f_is : h.formula ≡ f = same_formula f h (slice_get goal.spats i) known.get formed in
      let place_is : length (shared goal) + i ≡ place = omega (arith, at, shared_count goal) in
      record {
        named = record { spats = hyp_here name goal.spats h known.first ∙ ap Some f_is; ints = no_hyp name goal.ints no_ints; pures = no_fact name goal.pures no_pures };
        before = tt;
        at = record {
          within = omega (arith, at, goal_count goal, within of_hyp name goal.spats i h known.get);
          is = ap (part_at (parts goal)) (sym place_is) ∙ spat_at goal i h known.get ∙ f_is;
          rest = goal_loses_spat goal (without_named name goal) i (zero_others of_fact name goal.pures no_pures) (zero_others of_hyp name goal.ints no_ints) (known.rest once) ∙ ap (without (parts goal)) place_is;
        };
      }

  pub int_looked : (i : ℕ) (f : Formula) (place : ℕ) → position (λ (h : Hyp). bytes_eq name h.name) goal.ints ≡ Some i → Some f ≡ option_map (λ (h : Hyp). h.formula) (slice_get goal.ints i) → place ≡ length goal.pures + i → IsHypAt goal name place kind.Int f
  int_looked i f place e formed at =
      let found = found_at of_hyp name goal.ints i e in
      let h : Hyp = found.0 in
      let known : IsFound of_hyp name goal.ints i h = found.1 in
      let no_spats : times name (hyp_names goal.spats) ≡ 0 = omega (arith, at_most, known.counted) in
      let no_pures : times name (fact_names goal.pures) ≡ 0 = omega (arith, at_most, known.counted) in
      let once : times name (hyp_names goal.ints) ≤ 1 = omega (arith, at_most) in
      let f_is : h.formula ≡ f = same_formula f h (slice_get goal.ints i) known.get formed in
      let inside : i < length goal.ints = within of_hyp name goal.ints i h known.get in
      record {
        named = record { spats = no_hyp name goal.spats no_spats; ints = hyp_here name goal.ints h known.first ∙ ap Some f_is; pures = no_fact name goal.pures no_pures };
        before = omega (arith, at, shared_count goal, inside);
        at = record {
          within = omega (arith, at, goal_count goal, inside);
          is = ap (part_at (parts goal)) at ∙ int_at goal i h known.get ∙ ap view.Pers f_is;
          rest = goal_loses_int goal (without_named name goal) i inside (zero_others of_fact name goal.pures no_pures) (known.rest once) (zero_others of_hyp name goal.spats no_spats) ∙ ap (without (parts goal)) (sym at);
        };
      }

  pub fact_looked : (i : ℕ) (p : Pure) (place : ℕ) → position (λ (f : Fact). bytes_eq name f.name) goal.pures ≡ Some i → Some p ≡ option_map (λ (f : Fact). f.pure) (slice_get goal.pures i) → place ≡ i → IsFactAt goal name place p
  fact_looked i p place e formed at =
      let found = found_at of_fact name goal.pures i e in
      let f : Fact = found.0 in
      let known : IsFound of_fact name goal.pures i f = found.1 in
      let no_spats : times name (hyp_names goal.spats) ≡ 0 = omega (arith, at_most, known.counted) in
      let no_ints : times name (hyp_names goal.ints) ≡ 0 = omega (arith, at_most, known.counted) in
      let once : times name (fact_names goal.pures) ≤ 1 = omega (arith, at_most) in
      let p_is : f.pure ≡ p = same_pure p f (slice_get goal.pures i) known.get formed in
      let inside : i < length goal.pures = within of_fact name goal.pures i f known.get in
      record {
        named = record { spats = no_hyp name goal.spats no_spats; ints = no_hyp name goal.ints no_ints; pures = fact_here name goal.pures f known.first ∙ ap Some p_is };
        before = omega (arith, at, shared_count goal, inside);
        at = record {
          within = omega (arith, at, goal_count goal, inside);
          is = ap (part_at (parts goal)) at ∙ fact_at goal i f known.get ∙ ap Assert p_is;
          rest = goal_loses_fact goal (without_named name goal) i inside (known.rest once) (zero_others of_hyp name goal.ints no_ints) (zero_others of_hyp name goal.spats no_spats) ∙ ap (without (parts goal)) (sym at);
        };
      }

  pub none_looked : position (λ (h : Hyp). bytes_eq name h.name) goal.spats ≡ None → position (λ (h : Hyp). bytes_eq name h.name) goal.ints ≡ None → position (λ (f : Fact). bytes_eq name f.name) goal.pures ≡ None → IsNamed goal name None None None
  none_looked s i p = record {
    spats = no_hyp name goal.spats (none_at of_hyp name goal.spats s);
    ints = no_hyp name goal.ints (none_at of_hyp name goal.ints i);
    pures = no_fact name goal.pures (none_at of_fact name goal.pures p);
  }

-- ---- names that differ in each context

pub spats_differ : (goal : Goal) → NamesDiffer goal → HypsDiffer goal.spats
spats_differ goal apart name = let all = times_in_goal name goal in let most = apart name in omega (arith, all, most)

pub ints_differ : (goal : Goal) → NamesDiffer goal → HypsDiffer goal.ints
ints_differ goal apart name = let all = times_in_goal name goal in let most = apart name in omega (arith, all, most)

pub pures_differ : (goal : Goal) → NamesDiffer goal → FactsDiffer goal.pures
pures_differ goal apart name = let all = times_in_goal name goal in let most = apart name in omega (arith, all, most)

-- ---- contexts that keep all

named_counted : (name : Named) (hs : List Hyp) → hyp_named name hs ≡ None → times name (hyp_names hs) ≡ 0
named_counted name [] e = refl
named_counted name (h ∷ hs) e = by (bytes_eq name h.name) e (named_counted name hs)
  where
    by : (b : Bool) → cond b (Some h.formula) (hyp_named name hs) ≡ None → (hyp_named name hs ≡ None → times name (hyp_names hs) ≡ 0) → cond b (suc (times name (hyp_names hs))) (times name (hyp_names hs)) ≡ 0
    by true bad rest = absurd cc
    by false none rest = rest none

-- without a spatial one of the name, where there is none
pub no_spat : (goal : Goal) (name : Named) → hyp_named name goal.spats ≡ None → without_spat name goal ≡ goal
no_spat goal name e = ap (λ hs. record goal { spats = hs }) (zero_others of_hyp name goal.spats (named_counted name goal.spats e))

fact_counted : (name : Named) (fs : List Fact) → fact_named name fs ≡ None → times name (fact_names fs) ≡ 0
fact_counted name [] e = refl
fact_counted name (f ∷ fs) e = by (bytes_eq name f.name) e (fact_counted name fs)
  where
    by : (b : Bool) → cond b (Some f.pure) (fact_named name fs) ≡ None → (fact_named name fs ≡ None → times name (fact_names fs) ≡ 0) → cond b (suc (times name (fact_names fs))) (times name (fact_names fs)) ≡ 0
    by true bad rest = absurd cc
    by false none rest = rest none

-- without the spatial one
pub only_spat : (goal : Goal) (name : Named) → hyp_named name goal.ints ≡ None → fact_named name goal.pures ≡ None → without_spat name goal ≡ without_named name goal
only_spat goal name i p =
    sym (ap (λ hs. record goal { ints = hs; spats = hyps_but name goal.spats; pures = facts_but name goal.pures }) (zero_others of_hyp name goal.ints (named_counted name goal.ints i))
    ∙ ap (λ fs. record goal { spats = hyps_but name goal.spats; pures = fs }) (zero_others of_fact name goal.pures (fact_counted name goal.pures p)))
