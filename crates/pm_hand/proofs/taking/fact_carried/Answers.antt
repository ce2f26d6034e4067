use Rattle.std.proofs.Common.{◌+◌, ◌*◌, ◌^◌, [], length, subst}
use Rattle.pm_logic.specs.declared.formula.Formula.TheVariants.{Pure as Assert}
use Rattle.pm_goal.specs.declared.work.Kind.TheVariants as kind
use Rattle.pm_goal.specs.Left.{left_of_work}
use Rattle.pm_proof.specs.Trees.{entail}
use Rattle.pm_proof.specs.Known.{Proves, Every}
use Rattle.pm_star.specs.Stars.{work_parts, Moves}
use Rattle.pm_table.specs.Works.{hold}
use Rattle.pm_action.specs.Meanings.{height}
use Rattle.pm_hand.specs.Changed.{less}
use Rattle.pm_hand.proofs.Sizes.{few_hypotheses}
use Rattle.pm_hand.proofs.Handing.{less_few, fact_taken}
use Rattle.pm_hand.proofs.taking.fact_carried.Goals as goal

pub boxed_last-requires-clause-few : goal.boxed_last-requires-clause-few
boxed_last-requires-clause-few c =
    less_few c.args.work.now c.in_ok-rest.rest c.args.name.now c.args.place (2 ^ 32) (Assert c.args.pure.now) c.requires.at c.in_ok-rest.ensures (few_hypotheses c.args.work.now c.requires.handed)

pub returns : goal.returns
returns c =
    let w = c.args.work.now in
    let p = c.args.pure.now in
    fact_taken w c.args.name.now p c.args.place c.in_ok-first.first c.in_ok-second.second c.in_ok-proof.proof c.requires.at
    (subst (λ q. Moves (length w.goal.vars) (length (work_parts w)) (left_of_work w) (left_of_work (hold kind.Spat (Assert q) (less w c.args.name.now))) c.in_ok-first.first) c.in_ok-copy_pure.ensures c.in_ok-first.ensures)
    (subst (λ x. Proves Every (entail (length x.goal.vars) (left_of_work (hold kind.Spat (Assert p) x)) (left_of_work (hold kind.Int (Assert p) x))) [] (100 * length (work_parts x) + 201) (height (hold kind.Int (Assert p) x) + 16) (length x.goal.vars) c.in_ok-second.second) c.in_ok-rest.ensures c.in_ok-second.ensures)
    c.in_ok-proof.ensures.proves
