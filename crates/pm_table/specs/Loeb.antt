-- Induction over steps, and predicates' bodies.
use Rattle.std.specs.Prelude.{List, [], ◌∷◌, Option, Some, None}
use Rattle.pm_logic.specs.declared.formula.Formula.{Formula}
use Rattle.pm_logic.specs.declared.formula.Formula.TheVariants.{Call}
use Rattle.pm_logic.specs.declared.formula.Preds.{Preds}
use Rattle.pm_logic.specs.Trees.{Wand, Later}
use Rattle.pm_logic.specs.Scope.{body_of}
use Rattle.pm_logic.specs.Substitution.{subst_of}
use Rattle.pm_goal.specs.declared.goal.Hyp.{Hyp}
use Rattle.pm_goal.specs.declared.goal.Goal.{Goal}
use Rattle.pm_goal.specs.declared.refusal.Row.TheVariants.{NoSuchHypothesis, NameInUse, NotPredicateCall, NotPredicateBody}
use Rattle.pm_goal.specs.Find.{first_of_two}
use Rattle.pm_table.specs.Outcomes.{Outcome, require, require_plain, require_some, require_entry}
use Rattle.pm_table.specs.Works.{Named, hyp_named, fits, with_int}
use Rattle.pm_table.specs.Basic.{for, gives_goal}
use Rattle.pm_table.specs.Equality.{formula_eq}
use Rattle.pm_table.specs.Heap.{put}

-- ---- induction

-- S1 -∗ … Sn -∗ C
abbrev pub wands : List Hyp → Formula → Formula
wands [] c = c
wands (h ∷ hs) c = Wand h.formula (wands hs c)

-- ▷(S1 -∗ … Sn -∗ C), over the spatial hypotheses in order, is an intuitionistic hypothesis; nothing else changes
abbrev pub loeb : Named → Goal → Outcome
loeb name goal =
    require (fits goal name) NameInUse name (
    gives_goal (with_int name (Later (wands goal.spats goal.concl)) goal))

-- ---- predicates

-- the body with the arguments, where the formula is a call
unfoldable pub body_of_call : Preds → Formula → Option Formula
body_of_call preds (Call p args) = Some (subst_of (body_of preds.list p) args)
body_of_call preds _ = None

-- the formula of the hypothesis, of whichever kind
abbrev pub formula_named : Named → Goal → Option Formula
formula_named h goal = first_of_two (hyp_named h goal.ints) (hyp_named h goal.spats)

-- the call in the conclusion, or in the hypothesis, becomes its body, in place
abbrev pub unfold_call : Preds → Option Named → Goal → Outcome
unfold_call preds None goal =
    require_entry (body_of_call preds goal.concl) NotPredicateCall (λ body.
    gives_goal (for body goal))
unfold_call preds (Some h) goal =
    require_some (formula_named h goal) NoSuchHypothesis h (λ f.
    require_entry (body_of_call preds f) NotPredicateCall (λ body.
    gives_goal (put h body goal)))

-- the hypothesis is the body of the call f and becomes f, in place
abbrev pub fold_call : Preds → Formula → Named → Goal → Outcome
fold_call preds f h goal =
    require_entry (body_of_call preds f) NotPredicateCall (λ body.
    require_some (formula_named h goal) NoSuchHypothesis h (λ g.
    require_plain (formula_eq g body) NotPredicateBody (
    gives_goal (put h f goal))))
