-- Equations, pure conclusions and cases.
use Rattle.std.specs.Prelude.{Bool, List, [], ◌∷◌, Option, Some, None, option_and_then, if◌then◌else◌}
use Rattle.std.specs.Str.{bytes_eq}
use Rattle.pm_logic.specs.declared.formula.Term.{Term}
use Rattle.pm_logic.specs.declared.formula.Pure.{Pure}
use Rattle.pm_logic.specs.declared.formula.Pure.TheVariants.{Eq}
use Rattle.pm_logic.specs.declared.formula.Formula.{Formula}
use Rattle.pm_logic.specs.declared.formula.Formula.TheVariants.{Pure as Assert}
use Rattle.pm_logic.specs.Trees.{nope}
use Rattle.pm_logic.specs.Changes.{changed_pure}
use Rattle.pm_logic.specs.Substitution.{first, in_pure, opened_of}
use Rattle.pm_logic.specs.Abstraction.{abstracted, abstract_of}
use Rattle.pm_goal.specs.declared.goal.Fact.{Fact}
use Rattle.pm_goal.specs.declared.goal.Goal.{Goal}
use Rattle.pm_goal.specs.declared.refusal.Row.TheVariants.{NoSuchHypothesis, NameInUse, NotEquation, ConclusionNotPure, FactNotEquation, TermNotFound}
use Rattle.pm_classes.specs.Classes.{into_pure, from_pure}
use Rattle.pm_table.specs.Outcomes.{Action, Outcome, one, require, require_plain, require_some, require_entry}
use Rattle.pm_table.specs.Works.{Named, fact_named, has_fact, fits, fact, with_fact, each_fact, each_hyp, each_held, with_last, work_of}
use Rattle.pm_table.specs.Occurrences.{in_a_pure, in_a_formula}
use Rattle.pm_table.specs.Basic.{for, gives_goal, gives_goals}
use Rattle.pm_table.specs.Heap.{put}
use Rattle.pm_table.specs.Loeb.{formula_named}

-- ---- equations

pub record Equation : Type 0 where
  -- what is replaced, and what stands for it
  pub old : Term
  pub new : Term

abbrev pub equation : Term → Term → Equation
equation s t = record { old = s; new = t }

-- s = t read forwards or backwards
unfoldable pub equation_of : Bool → Pure → Option Equation
equation_of back (Eq s t) = Some (if back then equation t s else equation s t)
equation_of back _ = None

-- a new index 0 in place of what is replaced
abbrev pub opening_pure : Equation → Pure → Pure
opening_pure e p = changed_pure (abstracted 0 e.old) p

abbrev pub rewritten_pure : Equation → Pure → Pure
rewritten_pure e p = in_pure (first e.new) (opening_pure e p)

-- every old term becomes the new one
abbrev pub rewritten : Equation → Formula → Formula
rewritten e f = opened_of (abstract_of f e.old) e.new

-- whether the old term occurs
abbrev pub occurs_in_pure : Equation → Pure → Bool
occurs_in_pure e p = in_a_pure 0 (opening_pure e p)

abbrev pub occurs : Equation → Formula → Bool
occurs e f = in_a_formula 0 (abstract_of f e.old)

-- in all facts, hypotheses, held ones and the conclusion
abbrev pub rewritten_goal : Equation → Goal → Goal
rewritten_goal e goal = record { vars = goal.vars; pures = each_fact (rewritten_pure e) goal.pures; ints = each_hyp (rewritten e) goal.ints; spats = each_hyp (rewritten e) goal.spats; concl = rewritten e goal.concl }

-- what is in hand is the equation, by which all else is rewritten; it is dropped
abbrev pub subst_held : Bool → Action
subst_held back work =
    with_last work (λ hand.
    require_entry (option_and_then (equation_of back) (into_pure hand.last.formula)) NotEquation (λ e.
    one (work_of (rewritten_goal e work.goal) (each_held (rewritten e) hand.others))))

-- ---- rewriting by a fact

-- the fact of this name is another, in its place
abbrev pub put_fact_in : Named → Pure → List Fact → List Fact
put_fact_in name p [] = []
put_fact_in name p (f ∷ fs) = (if bytes_eq name f.name then fact name p else f) ∷ put_fact_in name p fs

abbrev pub put_fact : Named → Pure → Goal → Goal
put_fact name p goal = record goal { pures = put_fact_in name p goal.pures }

abbrev pub rewrite_concl : Equation → Goal → Outcome
rewrite_concl e goal =
    require_plain (occurs e goal.concl) TermNotFound (
    gives_goal (for (rewritten e goal.concl) goal))

abbrev pub rewrite_hyp : Equation → Named → Goal → Outcome
rewrite_hyp e h goal =
    require_some (formula_named h goal) NoSuchHypothesis h (λ f.
    require_plain (occurs e f) TermNotFound (
    gives_goal (put h (rewritten e f) goal)))

abbrev pub rewrite_fact : Equation → Named → Goal → Outcome
rewrite_fact e h goal =
    require_some (fact_named h goal.pures) NoSuchHypothesis h (λ p.
    require_plain (occurs_in_pure e p) TermNotFound (
    gives_goal (put_fact h (rewritten_pure e p) goal)))

-- in the conclusion, or in the fact or hypothesis that is the target
abbrev pub rewrite_at : Equation → Option Named → Goal → Outcome
rewrite_at e None goal = rewrite_concl e goal
rewrite_at e (Some h) goal = if has_fact goal h then rewrite_fact e h goal else rewrite_hyp e h goal

-- by the fact s = t every s becomes t; read backwards, every t becomes s
abbrev pub rewrite : (back : Bool) → Named → Option Named → Goal → Outcome
rewrite back name target goal =
    require_some (fact_named name goal.pures) NoSuchHypothesis name (λ p.
    require_entry (equation_of back p) FactNotEquation (λ e.
    rewrite_at e target goal))

-- ---- pure conclusions and cases

-- the conclusion is ⌜φ⌝, and there are no hypotheses
abbrev pub pure_intro : Goal → Outcome
pure_intro goal =
    require_entry (from_pure goal.concl) ConclusionNotPure (λ p.
    gives_goal (record goal { ints = []; spats = []; concl = Assert p }))

-- two goals, with the fact φ and with ¬φ
abbrev pub cases : Pure → Named → Goal → Outcome
cases p h goal =
    require (fits goal h) NameInUse h (
    gives_goals (with_fact h p goal) (with_fact h (nope p) goal))
