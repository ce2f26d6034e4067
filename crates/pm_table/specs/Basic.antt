-- Directives on a goal with nothing in hand: splitting, choosing, closing, and moving what has a name. In each row the conditions
-- stand in the order in which they are tested.
use Rattle.std.specs.Prelude.{ℕ, Bool, true, false, ◌||◌, not, List, [], ◌∷◌, map, find, Option, Some, None, option_map, if◌then◌else◌}
use Rattle.std.specs.List.{list_any}
use Rattle.std.specs.Str.{bytes_eq}
use Rattle.pm_logic.specs.declared.formula.Term.{Term}
use Rattle.pm_logic.specs.declared.formula.Pure.{Pure}
use Rattle.pm_logic.specs.declared.formula.Pure.TheVariants.{True, False, Eq}
use Rattle.pm_logic.specs.declared.formula.Formula.{Formula}
use Rattle.pm_logic.specs.declared.formula.Formula.TheVariants.{Pure as Assert}
use Rattle.pm_logic.specs.Trees.{both, either, nope, Sep, Wand, And, Or, All, Ex, Pers}
use Rattle.pm_logic.specs.Abstraction.{term_eq}
use Rattle.pm_logic.specs.Substitution.{in_pure, in_formula, opened_of}
use Rattle.pm_goal.specs.declared.goal.Hyp.{Hyp}
use Rattle.pm_goal.specs.declared.goal.Fact.{Fact}
use Rattle.pm_goal.specs.declared.goal.Goal.{Goal}
use Rattle.pm_goal.specs.declared.refusal.Row.{Row}
use Rattle.pm_goal.specs.declared.refusal.Row.TheVariants.{NoSuchHypothesis, NameInUse, NotSpatial, NameGivenTwice, NoSuchVariable, ConclusionNotSplit, ConclusionNotStar, ConclusionNotDisjunction, ConclusionNotExistential, NotTheConclusion, NoAssumption, NotDone, VariableMentioned}
use Rattle.pm_goal.specs.Find.{first_of_two}
use Rattle.pm_classes.specs.Persistence.{is_persistent}
use Rattle.pm_classes.specs.Classes.{Parts, parts}
use Rattle.pm_table.specs.Outcomes.{Outcome, Action, refuse, require, require_plain, require_some, require_entry, closed, one, two}
use Rattle.pm_table.specs.Limits.{resting}
use Rattle.pm_table.specs.Equality.{pure_eq, formula_eq}
use Rattle.pm_table.specs.Occurrences.{in_a_pure, in_a_formula, without, to_front}
use Rattle.pm_table.specs.Destructs.{is_falsehood}
use Rattle.pm_table.specs.Works.{Named, hyp_named, fact_named, index_named, has_hyp, has_spat, has_hyp_or_fact, fits, is_listed, hyps_in, hyps_out, hyp, fact, each_fact, each_hyp, with_concl, without_named, at_rest}

-- the goal with this conclusion, and with these spatial hypotheses
abbrev pub for : Formula → Goal → Goal
for c goal = with_concl c goal

abbrev pub with_spats : List Hyp → Goal → Goal
with_spats hs goal = record goal { spats = hs }

-- an action on the goal of a work with nothing in hand
abbrev pub on_goal : (Goal → Outcome) → Action
on_goal action = at_rest (λ work. action work.goal)

abbrev pub gives_goal : Goal → Outcome
gives_goal goal = one (resting goal)

abbrev pub gives_goals : (first second : Goal) → Outcome
gives_goals first second = two (resting first) (resting second)

-- ---- iSplit, iSplitL, iSplitR

-- the two goals of a conjunction, or of a star with a persistent part
abbrev pub split_parts : Formula → Option Parts
split_parts (And a b) = Some (parts a b)
split_parts (Assert (both p q)) = Some (parts (Assert p) (Assert q))
split_parts (Sep a b) = if is_persistent a || is_persistent b then Some (parts a b) else None
split_parts _ = None

abbrev pub split : Goal → Outcome
split goal =
    require_entry (split_parts goal.concl) ConclusionNotSplit (λ p.
    gives_goals (for p.first goal) (for p.second goal))

abbrev pub star_parts : Formula → Option Parts
star_parts (Sep a b) = Some (parts a b)
star_parts _ = None

-- the first of the list that has been there before
abbrev pub repeated_after : List Named → List Named → Option Named
repeated_after before [] = None
repeated_after before (x ∷ xs) = if is_listed before x then Some x else repeated_after (x ∷ before) xs

abbrev pub repeated : List Named → Option Named
repeated list = repeated_after [] list

-- the row, about the thing of this name, where there is one
abbrev pub refuse_where : Option Named → Row → Outcome → Outcome
refuse_where (Some name) row follows = refuse row name
refuse_where None row follows = follows

-- each is a hypothesis, each is spatial, and none is named twice
abbrev pub all_spatial : Goal → List Named → Outcome → Outcome
all_spatial goal list follows =
    refuse_where (find (λ x. not (has_hyp goal x)) list) NoSuchHypothesis
    (refuse_where (find (λ x. not (has_spat goal x)) list) NotSpatial
    (refuse_where (repeated list) NameGivenTwice
    follows))

-- what is named goes to one side, and the others to the other; where no list is given, all are named
abbrev pub chosen : Option (List Named) → List Hyp → List Hyp
chosen None hs = hs
chosen (Some list) hs = hyps_in list hs

abbrev pub unchosen : Option (List Named) → List Hyp → List Hyp
unchosen None hs = []
unchosen (Some list) hs = hyps_out list hs

abbrev pub list_given : Option (List Named) → List Named
list_given None = []
list_given (Some list) = list

abbrev pub sides : Bool → Parts → Option (List Named) → Goal → Outcome
sides true p list goal = gives_goals (for p.first (with_spats (chosen list goal.spats) goal)) (for p.second (with_spats (unchosen list goal.spats) goal))
sides false p list goal = gives_goals (for p.first (with_spats (unchosen list goal.spats) goal)) (for p.second (with_spats (chosen list goal.spats) goal))

abbrev pub split_at : (left : Bool) → Option (List Named) → Goal → Outcome
split_at left list goal =
    require_entry (star_parts goal.concl) ConclusionNotStar (λ p.
    all_spatial goal (list_given list)
    (sides left p list goal))

-- ---- iLeft, iRight, iExists, iExFalso

abbrev pub or_parts : Formula → Option Parts
or_parts (Or a b) = Some (parts a b)
or_parts (Assert (either p q)) = Some (parts (Assert p) (Assert q))
or_parts _ = None

abbrev pub side : (left : Bool) → Goal → Outcome
side left goal =
    require_entry (or_parts goal.concl) ConclusionNotDisjunction (λ p.
    gives_goal (for (if left then p.first else p.second) goal))

abbrev pub body_of_ex : Formula → Option Formula
body_of_ex (Ex b) = Some b
body_of_ex _ = None

abbrev pub exists : Term → Goal → Outcome
exists t goal =
    require_entry (body_of_ex goal.concl) ConclusionNotExistential (λ b.
    gives_goal (for (opened_of b t) goal))

abbrev pub exfalso : Goal → Outcome
exfalso goal = gives_goal (for (Assert False) goal)

-- ---- iExact, iAssumption, done

-- whether the conclusion is what a spatial hypothesis, an intuitionistic one or a fact says
abbrev pub by_spat : Formula → Formula → Bool
by_spat c f = formula_eq c f

abbrev pub by_int : Formula → Formula → Bool
by_int c f = formula_eq c f || formula_eq c (Pers f)

abbrev pub by_fact : Formula → Pure → Bool
by_fact c p = formula_eq c (Assert p)

abbrev pub passes : {A : Type 0} → (A → Bool) → Option A → Bool
passes test (Some x) = test x
passes test None = false

abbrev pub is_exact : Named → Goal → Bool
is_exact h goal =
    passes (by_spat goal.concl) (hyp_named h goal.spats)
    || passes (by_int goal.concl) (hyp_named h goal.ints)
    || passes (by_fact goal.concl) (fact_named h goal.pures)

abbrev pub exact : Named → Goal → Outcome
exact h goal =
    require (has_hyp_or_fact goal h) NoSuchHypothesis h
    (require_plain (is_exact h goal) NotTheConclusion
    closed)

abbrev pub is_hypothesis : Goal → Bool
is_hypothesis goal = list_any (λ h. by_spat goal.concl h.formula) goal.spats || list_any (λ h. by_int goal.concl h.formula) goal.ints

abbrev pub is_fact : Goal → Bool
is_fact goal = list_any (λ f. by_fact goal.concl f.pure) goal.pures

abbrev pub assumption : Goal → Outcome
assumption goal = require_plain (is_hypothesis goal || is_fact goal) NoAssumption closed

abbrev pub is_truth : Formula → Bool
is_truth (Assert True) = true
is_truth _ = false

abbrev pub is_false : Pure → Bool
is_false False = true
is_false _ = false

abbrev pub has_falsehood : Goal → Bool
has_falsehood goal =
    list_any (λ f. is_false f.pure) goal.pures
    || list_any (λ h. is_falsehood h.formula) goal.ints
    || list_any (λ h. is_falsehood h.formula) goal.spats

abbrev pub is_reflexive : Formula → Bool
is_reflexive (Assert (Eq s t)) = term_eq s t
is_reflexive _ = false

-- a fact and its negation
abbrev pub is_contradictory : List Fact → Bool
is_contradictory fs = list_any (λ f. list_any (λ g. pure_eq g.pure (nope f.pure)) fs) fs

-- whether `//` closes the goal
abbrev pub is_done : Goal → Bool
is_done goal =
    is_truth goal.concl
    || has_falsehood goal
    || is_hypothesis goal
    || is_fact goal
    || is_reflexive goal.concl
    || is_contradictory goal.pures

abbrev pub done : Goal → Outcome
done goal = require_plain (is_done goal) NotDone closed

-- `//` in a pattern: where it can't close the goal it changes nothing
abbrev pub try_done : Goal → Outcome
try_done goal = if is_done goal then closed else gives_goal goal

-- ---- iClear, iRename

abbrev pub clear : Named → Goal → Outcome
clear h goal =
    require (has_hyp_or_fact goal h) NoSuchHypothesis h
    (gives_goal (without_named h goal))

-- the other name in the place of this one
abbrev pub renamed : (h k name : Named) → Named
renamed h k name = if bytes_eq h name then k else name

abbrev pub with_renamed : (h k : Named) → Goal → Goal
with_renamed h k goal = record goal {
  pures = map (λ f. fact (renamed h k f.name) f.pure) goal.pures;
  ints = map (λ g. hyp (renamed h k g.name) g.formula) goal.ints;
  spats = map (λ g. hyp (renamed h k g.name) g.formula) goal.spats;
}

abbrev pub rename : (h k : Named) → Goal → Outcome
rename h k goal =
    require (has_hyp_or_fact goal h) NoSuchHypothesis h
    (require (fits goal k) NameInUse k
    (gives_goal (with_renamed h k goal)))

-- ---- iRevert

-- what stands before the conclusion for the hypothesis or fact of this name
abbrev pub reverted : Named → Goal → Option Formula
reverted h goal =
    first_of_two (hyp_named h goal.spats)
    (first_of_two (option_map (λ f. Pers f) (hyp_named h goal.ints))
    (option_map Assert (fact_named h goal.pures)))

abbrev pub revert : Named → Goal → Outcome
revert h goal =
    require_some (reverted h goal) NoSuchHypothesis h (λ a.
    gives_goal (for (Wand a goal.concl) (without_named h goal)))

abbrev pub mentions : ℕ → Goal → Bool
mentions i goal =
    list_any (λ f. in_a_pure i f.pure) goal.pures
    || list_any (λ h. in_a_formula i h.formula) goal.ints
    || list_any (λ h. in_a_formula i h.formula) goal.spats

abbrev pub names_but : Named → List Named → List Named
names_but x [] = []
names_but x (y ∷ ys) = if bytes_eq x y then ys else y ∷ names_but x ys

-- without the variable of index i, which a binder of the conclusion binds
abbrev pub without_var : Named → ℕ → Goal → Goal
without_var x i goal = record {
  vars = names_but x goal.vars;
  pures = each_fact (in_pure (without i)) goal.pures;
  ints = each_hyp (in_formula (without i)) goal.ints;
  spats = each_hyp (in_formula (without i)) goal.spats;
  concl = All (in_formula (to_front i) goal.concl);
}

abbrev pub revert_var : Named → Goal → Outcome
revert_var x goal =
    require_some (index_named x goal.vars) NoSuchVariable x (λ i.
    require_plain (not (mentions i goal)) VariableMentioned
    (gives_goal (without_var x i goal)))
