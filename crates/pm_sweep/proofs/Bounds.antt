-- Works within the limits: how deep and wide a proof about them may be, and what an action asks of them.
use Rattle.std.proofs.Common.{◌≡◌, ℕ, ◌+◌, ◌≤◌, nat_lt, Bool, true, false, List, [], ◌∷◌, ◌++◌, length, map, refl, arith, Option, None}
use Rattle.std.specs.List.{AllByRecursion}
use Rattle.std.proofs.lemmas.Bool.Decides.{nat_tests}
use Rattle.pm_logic.specs.declared.limits.TheConstants.{MAX_HYPOTHESES, MAX_LEVELS, MAX_LINE_LEVELS, MAX_NODES, MAX_VARIABLES}
use Rattle.pm_logic.specs.Size.{depth_of}
use Rattle.pm_logic.specs.declared.formula.Formula.{Formula}
use Rattle.pm_logic.specs.declared.formula.Formula.TheVariants.{Pure as Assert}
use Rattle.pm_logic.specs.declared.formula.Preds.{Preds}
use Rattle.pm_logic.specs.Scope.{PureScoped, ScopedIn, Scoped}
use Rattle.pm_goal.specs.declared.goal.Fact.{Fact}
use Rattle.pm_goal.specs.declared.goal.Hyp.{Hyp}
use Rattle.pm_goal.specs.declared.work.Held.{Held}
use Rattle.pm_goal.specs.declared.work.Work.{Work}
use Rattle.pm_goal.specs.declared.refusal.Row.{Row}
use Rattle.pm_goal.specs.declared.refusal.Row.TheVariants.{TooManyVariables, TooManyHypotheses, TooManyNodes, TooDeep}
use Rattle.pm_goal.specs.Left.{facts, hyps}
use Rattle.pm_table.specs.declared.place.Place.{Place}
use Rattle.pm_table.specs.Limits.{formulas, work_formulas, all_nodes, greatest_depth, hypotheses, row_where, limit_row, work_at}
use Rattle.pm_table.specs.Scopes.{IsWorkScoped}
use Rattle.pm_table.proofs.Keeping.{Everywhere}
use Rattle.pm_table.proofs.Scopes.{fact}
use Rattle.pm_table.proofs.Scoping.{all_append, all_map}
use Rattle.pm_action.specs.Meanings.{height, greatest_height, room, width}
use Rattle.pm_action.specs.Acting.{IsHanded}
use Rattle.pm_action.proofs.Heights.{concl_depth}
use Rattle.pm_sweep.specs.Standing.{IsFit, IsSoundWork, DEEPEST, WIDEST}

row_none : (b : Bool) (r : Row) (o : Option Row) → row_where b r o ≡ None → (b ≡ false) × (o ≡ None)
row_none true r o e = absurd cc
row_none false r o e = (refl, e)

at_most : (m n : ℕ) → nat_lt m n ≡ false → n ≤ m
at_most m n e = grind (arith, nat_tests, e)

-- a work that passes no limit
pub record IsSmall (w : Work) : Type 0 where
  pub vars : length w.goal.vars ≤ MAX_VARIABLES
  pub hyps : hypotheses w ≤ MAX_HYPOTHESES
  pub levels : greatest_depth (work_formulas w) ≤ MAX_LEVELS

pub small : (w : Work) → limit_row w ≡ None → IsSmall w
small w h =
    let deep : Option Row = row_where (nat_lt MAX_LEVELS (greatest_depth (work_formulas w))) TooDeep None in
    let large : Option Row = row_where (nat_lt MAX_NODES (all_nodes (work_formulas w))) TooManyNodes deep in
    let many : Option Row = row_where (nat_lt MAX_HYPOTHESES (hypotheses w)) TooManyHypotheses large in
    let vars = row_none (nat_lt MAX_VARIABLES (length w.goal.vars)) TooManyVariables many h in
    let hyps = row_none (nat_lt MAX_HYPOTHESES (hypotheses w)) TooManyHypotheses large vars.1 in
    let nodes = row_none (nat_lt MAX_NODES (all_nodes (work_formulas w))) TooManyNodes deep hyps.1 in
    let levels = row_none (nat_lt MAX_LEVELS (greatest_depth (work_formulas w))) TooDeep None nodes.1 in
    record {
      vars = at_most MAX_VARIABLES (length w.goal.vars) vars.0;
      hyps = at_most MAX_HYPOTHESES (hypotheses w) hyps.0;
      levels = at_most MAX_LEVELS (greatest_depth (work_formulas w)) levels.0;
    }

pub low : (w : Work) → IsFit w → height w + 16 ≤ DEEPEST
low w h = let s = small w h.within in omega (arith, s.hyps, s.levels)

all_low : (ps : List Place) → Everywhere IsFit ps → greatest_height ps + 16 ≤ DEEPEST
all_low [] h = omega arith
all_low (p ∷ ps) h = omega (arith, low (work_at p) h.0, all_low ps h.1)

pub enough_room : (w : Work) (ps : List Place) → IsFit w → Everywhere IsFit ps → room w ps ≤ DEEPEST
enough_room w ps h g = omega (arith, low w h, all_low ps g)

pub narrow_enough : (w : Work) → IsFit w → width w ≤ WIDEST
narrow_enough w h = let s = small w h.within in omega (arith, s.vars, s.levels)

-- ---- what is handed to an action

module _ (preds : Preds) (k : ℕ) where
  abbrev In : Formula → Type 0
  In f = ScopedIn k f

  fact_in : (f : Fact) → PureScoped k f.pure → In (Assert f.pure)
  fact_in f h = (fact preds k f.pure h).indices

  hyp_in : (h : Hyp) → Scoped preds k h.formula → In h.formula
  hyp_in h s = s.indices

  held_in : (h : Held) → Scoped preds k h.formula → In h.formula
  held_in h s = s.indices

formulas_in : (preds : Preds) (w : Work) → IsWorkScoped preds w → AllByRecursion (ScopedIn (length w.goal.vars)) (work_formulas w)
formulas_in preds w s =
    let k = length w.goal.vars in
    let pures = all_map (λ (f : Fact). PureScoped k f.pure) (ScopedIn k) (λ (f : Fact). Assert f.pure) (fact_in preds k) w.goal.pures s.goal.pures in
    let ints = all_map (λ (h : Hyp). Scoped preds k h.formula) (ScopedIn k) (λ (h : Hyp). h.formula) (hyp_in preds k) w.goal.ints s.goal.ints in
    let spats = all_map (λ (h : Hyp). Scoped preds k h.formula) (ScopedIn k) (λ (h : Hyp). h.formula) (hyp_in preds k) w.goal.spats s.goal.spats in
    let held = all_map (λ (h : Held). Scoped preds k h.formula) (ScopedIn k) (λ (h : Held). h.formula) (held_in preds k) w.held s.held in
    let owned = all_append (ScopedIn k) (hyps w.goal.spats) (w.goal.concl ∷ []) spats (s.goal.concl.indices, tt) in
    let behind = all_append (ScopedIn k) (hyps w.goal.ints) (hyps w.goal.spats ++ (w.goal.concl ∷ [])) ints owned in
    all_append (ScopedIn k) (formulas w.goal) (map (λ (h : Held). h.formula) w.held) (all_append (ScopedIn k) (facts w.goal.pures) (hyps w.goal.ints ++ (hyps w.goal.spats ++ (w.goal.concl ∷ []))) pures behind) held

pub is_handed : (w : Work) → IsSoundWork w → IsHanded w
is_handed w sound =
    let s = small w sound.fit.within in
    record {
      few = omega (arith, s.vars, s.hyps);
      shallow = omega (arith, s.vars, s.levels);
      scoped = formulas_in sound.over w sound.scoped;
      apart = sound.fit.apart;
    }

pub low_conclusion : (w : Work) → IsSoundWork w → depth_of w.goal.concl ≤ MAX_LINE_LEVELS
low_conclusion w sound = let s = small w sound.fit.within in omega (arith, s.levels, concl_depth w)
