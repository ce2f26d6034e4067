-- What taking and lending answer.
use Rattle.std.proofs.Common.{◌≡◌, sym, ◌∙◌, ap, ap₂, subst, Option, Some, None}
use Rattle.std.specs.Prelude.{Result, Err, option_map}
use Rattle.pm_logic.specs.declared.formula.Pure.{Pure}
use Rattle.pm_logic.specs.declared.formula.Formula.{Formula}
use Rattle.pm_logic.specs.declared.formula.Formula.TheVariants.{Pure as Assert}
use Rattle.pm_goal.specs.declared.goal.Goal.{Goal}
use Rattle.pm_goal.specs.declared.work.Kind.{Kind}
use Rattle.pm_goal.specs.declared.work.Kind.TheVariants as kind
use Rattle.pm_goal.specs.declared.work.Held.{Held}
use Rattle.pm_goal.specs.declared.work.Work.{Work}
use Rattle.pm_goal.specs.declared.refusal.Row.TheVariants.{NoSuchHypothesis}
use Rattle.pm_goal.specs.declared.refusal.StepFault.{StepFault}
use Rattle.pm_goal.specs.Find.{first_of_two}
use Rattle.pm_proof.specs.declared.proof.Parts.{Parts}
use Rattle.pm_table.specs.declared.place.Place.{Place}
use Rattle.pm_table.specs.Outcomes.{Outcome, one, require_some}
use Rattle.pm_table.specs.Limits.{limited, all_nodes, work_formulas}
use Rattle.pm_table.specs.Works.{Named, hyp_named, fact_named, hold, holding, work_of, without_spat}
use Rattle.pm_table.specs.Terms as table
use Rattle.pm_action.specs.Acting.{Answers, Refuses}
use Rattle.pm_hand.specs.Changed.{less, GivesOne}
use Rattle.pm_hand.specs.Looking.{IsNamed, HypNamed}
use Rattle.pm_hand.proofs.Answered.{refuses}
use Rattle.pm_hand.proofs.Lookups.{no_spat, only_spat}

held_as_named : (goal : Goal) (name : Named) (s i : Option Formula) (p : Option Pure) → IsNamed goal name s i p
    → table.held_as name goal ≡ first_of_two (option_map (holding kind.Spat) s) (first_of_two (option_map (holding kind.Int) i) (option_map (λ q. holding kind.Int (Assert q)) p))
held_as_named goal name s i p n =
    ap (λ x. first_of_two (option_map (holding kind.Spat) x) (first_of_two (option_map (holding kind.Int) (hyp_named name goal.ints)) (option_map (λ q. holding kind.Int (Assert q)) (fact_named name goal.pures)))) n.spats
    ∙ ap₂ (λ x y. first_of_two (option_map (holding kind.Spat) s) (first_of_two (option_map (holding kind.Int) x) (option_map (λ q. holding kind.Int (Assert q)) y))) n.ints n.pures

hyp_held : (goal : Goal) (name : Named) (k : Kind) (f : Formula) → HypNamed goal name k f → table.held_as name goal ≡ Some (holding k f)
hyp_held goal name kind.Spat f n = held_as_named goal name (Some f) None None n
hyp_held goal name kind.Int f n = held_as_named goal name None (Some f) None n

fact_held : (goal : Goal) (name : Named) (p : Pure) → IsNamed goal name None None (Some p) → table.held_as name goal ≡ Some (holding kind.Int (Assert p))
fact_held goal name p n = held_as_named goal name None None (Some p) n

none_held : (goal : Goal) (name : Named) → IsNamed goal name None None None → table.held_as name goal ≡ None
none_held goal name n = held_as_named goal name None None None n

-- ---- taking

abbrev take_row : Named → Work → Option Held → Outcome
take_row name w o = require_some o NoSuchHypothesis name (λ held. one (hold held.kind held.formula (less w name)))

pub hyp_taken : (w : Work) (name : Named) (k : Kind) (f : Formula) (r : Result (Parts Place) StepFault) → HypNamed w.goal name k f → GivesOne w (hold k f (less w name)) r → Answers (all_nodes (work_formulas w)) w (limited (table.take name w)) r
hyp_taken w name k f r n g = subst (λ o. Answers (all_nodes (work_formulas w)) w (limited (take_row name w o)) r) (sym (hyp_held w.goal name k f n)) g

pub fact_is_taken : (w : Work) (name : Named) (p : Pure) (r : Result (Parts Place) StepFault) → IsNamed w.goal name None None (Some p) → GivesOne w (hold kind.Int (Assert p) (less w name)) r → Answers (all_nodes (work_formulas w)) w (limited (table.take name w)) r
fact_is_taken w name p r n g = subst (λ o. Answers (all_nodes (work_formulas w)) w (limited (take_row name w o)) r) (sym (fact_held w.goal name p n)) g

pub none_taken : (w : Work) (name : Named) (f : StepFault) → IsNamed w.goal name None None None → Refuses NoSuchHypothesis name f → Answers (all_nodes (work_formulas w)) w (limited (table.take name w)) (Err f)
none_taken w name f n e = subst (λ o. Answers (all_nodes (work_formulas w)) w (limited (take_row name w o)) (Err f)) (sym (none_held w.goal name n)) (refuses (all_nodes (work_formulas w)) w NoSuchHypothesis name f e)

-- ---- lending

abbrev lend_row : Named → Work → Option Held → Outcome
lend_row name w o = require_some o NoSuchHypothesis name (λ held. one (hold held.kind held.formula (work_of (without_spat name w.goal) w.held)))

pub spat_lent : (w : Work) (name : Named) (f : Formula) (r : Result (Parts Place) StepFault) → HypNamed w.goal name kind.Spat f → GivesOne w (hold kind.Spat f (less w name)) r → Answers (all_nodes (work_formulas w)) w (limited (table.lend name w)) r
spat_lent w name f r n g =
    subst (λ o. Answers (all_nodes (work_formulas w)) w (limited (lend_row name w o)) r) (sym (hyp_held w.goal name kind.Spat f n))
    (subst (λ x. GivesOne w (hold kind.Spat f (work_of x w.held)) r) (sym (only_spat w.goal name n.ints n.pures)) g)

pub int_lent : (w : Work) (name : Named) (f : Formula) (r : Result (Parts Place) StepFault) → HypNamed w.goal name kind.Int f → GivesOne w (hold kind.Int f w) r → Answers (all_nodes (work_formulas w)) w (limited (table.lend name w)) r
int_lent w name f r n g =
    subst (λ o. Answers (all_nodes (work_formulas w)) w (limited (lend_row name w o)) r) (sym (hyp_held w.goal name kind.Int f n))
    (subst (λ x. GivesOne w (hold kind.Int f (work_of x w.held)) r) (sym (no_spat w.goal name n.spats)) g)

pub fact_is_lent : (w : Work) (name : Named) (p : Pure) (r : Result (Parts Place) StepFault) → IsNamed w.goal name None None (Some p) → GivesOne w (hold kind.Int (Assert p) w) r → Answers (all_nodes (work_formulas w)) w (limited (table.lend name w)) r
fact_is_lent w name p r n g =
    subst (λ o. Answers (all_nodes (work_formulas w)) w (limited (lend_row name w o)) r) (sym (fact_held w.goal name p n))
    (subst (λ x. GivesOne w (hold kind.Int (Assert p) (work_of x w.held)) r) (sym (no_spat w.goal name n.spats)) g)

pub none_lent : (w : Work) (name : Named) (f : StepFault) → IsNamed w.goal name None None None → Refuses NoSuchHypothesis name f → Answers (all_nodes (work_formulas w)) w (limited (table.lend name w)) (Err f)
none_lent w name f n e = subst (λ o. Answers (all_nodes (work_formulas w)) w (limited (lend_row name w o)) (Err f)) (sym (none_held w.goal name n)) (refuses (all_nodes (work_formulas w)) w NoSuchHypothesis name f e)
