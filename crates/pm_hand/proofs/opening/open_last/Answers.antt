use Rattle.std.proofs.Common.{◌≡◌, ◌+◌, ◌<◌, sym, ap, subst, arith, length}
use Rattle.pm_logic.specs.declared.formula.Formula.TheViews as view
use Rattle.pm_logic.specs.declared.formula.TheConstants.{BOUND}
use Rattle.pm_logic.specs.Scope.{ScopedIn}
use Rattle.pm_logic.specs.Size.{depth_of}
use Rattle.pm_proof.specs.Trees.{entail, conclusion}
use Rattle.pm_proof.specs.Valid.{TermFits}
use Rattle.pm_hand.specs.Changed.{last_says, IsOpened}
use Rattle.pm_hand.proofs.Openings.{bounded, placed, body_handed_over, entry_says, opened_says, given_open}
use Rattle.pm_hand.proofs.opening.open_last.Goals as goal

pub instance-requires-clause-scoped : goal.instance-requires-clause-scoped
instance-requires-clause-scoped c = subst (λ v. ScopedIn (v + 1) c.args.entry.formula) (sym c.len-vars.ensures) (body_handed_over c.args.work.now c.args.held.now c.args.entry c.requires.handed c.requires.last c.requires.entry).scoped

pub instance-requires-clause-small : goal.instance-requires-clause-small
instance-requires-clause-small c = subst (λ v. v + 1 + depth_of c.args.entry.formula < BOUND) (sym c.len-vars.ensures) (body_handed_over c.args.work.now c.args.held.now c.args.entry c.requires.handed c.requires.last c.requires.entry).within

pub instance-requires-clause-term : goal.instance-requires-clause-term
instance-requires-clause-term c = subst (λ v. TermFits v c.args.t.now) (sym c.len-vars.ensures) c.requires.fits

pub instance-requires-clause-says : goal.instance-requires-clause-says
instance-requires-clause-says c = subst (λ v. conclusion c.args.entry.proof ≡ entail v c.args.held.now.formula (view.All c.args.entry.formula)) (sym c.len-vars.ensures) (entry_says c.args.work.now c.args.held.now c.args.entry c.requires.entry)

pub opened-requires-clause-body : goal.opened-requires-clause-body
opened-requires-clause-body c = let h = body_handed_over c.args.work.now c.args.held.now c.args.entry c.requires.handed c.requires.last c.requires.entry in bounded (length c.args.work.now.goal.vars) c.args.entry.formula h.scoped h.within

pub opened-requires-clause-term : goal.opened-requires-clause-term
opened-requires-clause-term c = placed (length c.args.work.now.goal.vars) c.args.t.now (omega (arith, c.requires.handed.few)) c.requires.fits

pub become_one-requires-clause-says : goal.become_one-requires-clause-says
become_one-requires-clause-says c =
    let by : IsOpened (length c.args.work.now.goal.vars) c.args.held.now.kind c.args.held.now.formula c.args.entry.formula c.args.t.now c.args.entry.proof c.in_ok-by.by = subst (λ v. IsOpened v c.args.held.now.kind c.args.held.now.formula c.args.entry.formula c.args.t.now c.args.entry.proof c.in_ok-by.by) c.len-vars.ensures c.in_ok-by.ensures in
    opened_says c.args.work.now c.args.held.now c.args.t.now c.args.entry c.in_ok-formula.formula c.in_ok-by.by c.in_ok-formula.ensures by

pub returns : goal.returns
returns c =
    let by : IsOpened (length c.args.work.now.goal.vars) c.args.held.now.kind c.args.held.now.formula c.args.entry.formula c.args.t.now c.args.entry.proof c.in_ok-by.by = subst (λ v. IsOpened v c.args.held.now.kind c.args.held.now.formula c.args.entry.formula c.args.t.now c.args.entry.proof c.in_ok-by.by) c.len-vars.ensures c.in_ok-by.ensures in
    given_open c.args.work.now c.args.held.now c.args.t.now c.args.entry c.in_ok-formula.formula c.in_ok-by.by c.become_one.result c.requires.last c.in_ok-formula.ensures by c.requires.entry c.become_one.ensures
