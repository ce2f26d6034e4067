-- Goals within the limits, and what their meanings are scoped over.
use Rattle.std.proofs.Common.{◌≡◌, ℕ, ◌<◌, ◌≤◌, nat_lt, Bool, true, false, List, [], ◌∷◌, length, refl, sym, ap, subst, arith, Option, Some, None}
use Rattle.std.proofs.lemmas.Bool.Decides.{nat_tests}
use Rattle.std.proofs.lemmas.List.{append-nil}
use Rattle.std.specs.List.{AllByRecursion}
use Rattle.pm_logic.specs.declared.limits.TheConstants.{MAX_HYPOTHESES, MAX_LEVELS, MAX_NODES, MAX_VARIABLES}
use Rattle.pm_logic.specs.declared.formula.Formula.{Formula}
use Rattle.pm_logic.specs.declared.formula.Preds.{Preds}
use Rattle.pm_goal.specs.declared.goal.Goal.{Goal}
use Rattle.pm_goal.specs.declared.refusal.Row.{Row}
use Rattle.pm_goal.specs.declared.refusal.Row.TheVariants.{TooManyVariables, TooManyHypotheses, TooManyNodes, TooDeep}
use Rattle.pm_proof.specs.Valid.{EntailScoped}
use Rattle.pm_proof.specs.Known.{Tables, IsAmong}
use Rattle.pm_star.proofs.Scoping.{work_scoped}
use Rattle.pm_dtext.specs.Ranges.{InRange}
use Rattle.pm_dtext.specs.Texts.{arities_of}
use Rattle.pm_table.specs.Limits.{formulas, work_formulas, all_nodes, greatest_depth, hypotheses, row_where, limit_row, resting}
use Rattle.pm_table.specs.Scopes.{IsWorkScoped}
use Rattle.pm_sweep.specs.Standing.{IsFit, IsSoundWork}
use Rattle.pm_run.specs.Rows.{when_large, no_row}
use Rattle.pm_run.specs.Within.{meaning, IsWithin}
use Rattle.pm_run.specs.Runs.{State, table, opening}
use Rattle.pm_run.specs.Keeping.{tables, IsLeft, AreSound, AreWithin}
use Rattle.pm_run.proofs.Growing.{scoped_longer}
use Rattle.pm_run.proofs.Sounds.{none_when}

-- what a scoped goal means is scoped
pub meaning_scoped : (preds : Preds) (g : Goal) → IsWorkScoped preds (resting g) → EntailScoped preds (meaning g)
meaning_scoped preds g s = ((work_scoped preds (length g.vars) (resting g)).1 (record { goal = record { pures = s.goal.pures; ints = s.goal.ints; spats = s.goal.spats }; held = s.held }), s.goal.concl)

-- ---- rows of limits

row_none : (b : Bool) (row : Row) (others : Option Row) → row_where b row others ≡ None → (b ≡ false) × (others ≡ None)
row_none true row others e = absurd cc
row_none false row others e = (refl, e)

none_where : (b : Bool) (row : Row) (others : Option Row) → b ≡ false → others ≡ None → row_where b row others ≡ None
none_where true row others e rest = absurd cc
none_where false row others e rest = rest

not_above : (limit n : ℕ) → ¬ (limit < n) → nat_lt limit n ≡ false
not_above limit n never = go (nat_lt limit n) refl
  where
    go : (b : Bool) → nat_lt limit n ≡ b → nat_lt limit n ≡ false
    go true e = absurd (never (grind (arith, nat_tests, e)))
    go false e = e

at_most : (limit n : ℕ) → nat_lt limit n ≡ false → n ≤ limit
at_most limit n e = grind (arith, nat_tests, e)

-- what the limits say of a goal
pub record Limited (g : Goal) : Type 0 where
  pub vars : length g.vars ≤ MAX_VARIABLES
  pub few : hypotheses (resting g) ≤ MAX_HYPOTHESES
  pub shallow : greatest_depth (formulas g) ≤ MAX_LEVELS

pub limits_of : (g : Goal) → limit_row (resting g) ≡ None → Limited g
limits_of g e =
    let deep : Option Row = row_where (nat_lt MAX_LEVELS (greatest_depth (work_formulas (resting g)))) TooDeep None in
    let large : Option Row = row_where (nat_lt MAX_NODES (all_nodes (work_formulas (resting g)))) TooManyNodes deep in
    let many : Option Row = row_where (nat_lt MAX_HYPOTHESES (hypotheses (resting g))) TooManyHypotheses large in
    let vars = row_none (nat_lt MAX_VARIABLES (length g.vars)) TooManyVariables many e in
    let hyps = row_none (nat_lt MAX_HYPOTHESES (hypotheses (resting g))) TooManyHypotheses large vars.1 in
    let nodes = row_none (nat_lt MAX_NODES (all_nodes (work_formulas (resting g)))) TooManyNodes deep hyps.1 in
    let levels = row_none (nat_lt MAX_LEVELS (greatest_depth (work_formulas (resting g)))) TooDeep None nodes.1 in
    record {
      vars = at_most MAX_VARIABLES (length g.vars) vars.0;
      few = at_most MAX_HYPOTHESES (hypotheses (resting g)) hyps.0;
      shallow = subst (λ (fs : List Formula). greatest_depth fs ≤ MAX_LEVELS) (append-nil (formulas g)) (at_most MAX_LEVELS (greatest_depth (work_formulas (resting g))) levels.0);
    }

within : (g : Goal) (preds : Preds) → IsFit (resting g) → IsWorkScoped preds (resting g) → IsWithin g
within g preds fit scoped =
    let l = limits_of g fit.within in
    record {
      vars = l.vars;
      few = omega (arith, l.few);
      shallow = l.shallow;
      preds = preds;
      scoped = meaning_scoped preds g scoped;
    }

-- ---- goals that are left

at_table : (s : State) → IsAmong (tables s) (table s)
at_table s = ([], sym (append-nil s.preds))

pub all_within : (s : State) (goals : List Goal) → AllByRecursion (IsLeft (tables s)) goals → AreWithin goals
all_within s [] all = tt
all_within s (g ∷ gs) all = (within g (table s) all.0.fit (all.0.scoped (table s) (at_table s)), all_within s gs all.1)

pub all_sound : (s : State) (goals : List Goal) → AllByRecursion (IsLeft (tables s)) goals → AreSound goals
all_sound s [] all = tt
all_sound s (g ∷ gs) all = (record { fit = all.0.fit; over = table s; scoped = all.0.scoped (table s) (at_table s) }, all_sound s gs all.1)

-- ---- the goal that a lemma opens with

pub opening_fit : (f : Formula) → when_large (opening f) no_row None → IsFit (resting (opening f))
opening_fit f rows =
    let vars = none_when rows in
    let hyps = none_when vars.1 in
    let nodes = none_when hyps.1 in
    let levels = none_when nodes.1 in
    let large : row_where (nat_lt MAX_NODES (all_nodes (f ∷ []))) TooManyNodes (row_where (nat_lt MAX_LEVELS (greatest_depth (f ∷ []))) TooDeep None) ≡ None =
    none_where (nat_lt MAX_NODES (all_nodes (f ∷ []))) TooManyNodes _ (not_above MAX_NODES (all_nodes (f ∷ [])) nodes.0)
    (none_where (nat_lt MAX_LEVELS (greatest_depth (f ∷ []))) TooDeep None (not_above MAX_LEVELS (greatest_depth (f ∷ [])) levels.0) refl) in
    record { within = large; apart = λ name. omega arith }

-- scoped in each table that comes
opening_scoped : (s : State) (f : Formula) (preds : Preds) → InRange (arities_of s.preds) 0 f → IsAmong (tables s) preds → IsWorkScoped preds (resting (opening f))
opening_scoped s f preds over among = record { goal = record { pures = tt; ints = tt; spats = tt; concl = scoped_longer (table s) preds 0 f among over }; held = tt }

pub opening_left : (s : State) (f : Formula) → when_large (opening f) no_row None → InRange (arities_of s.preds) 0 f → IsLeft (tables s) (opening f)
opening_left s f rows over = record { fit = opening_fit f rows; scoped = λ preds among. opening_scoped s f preds over among }
