use Rattle.std.proofs.Common.{sym, subst}
use Rattle.pm_goal.specs.declared.work.Kind.{Kind}
use Rattle.pm_loeb.specs.Spots.{IsKinded}
use Rattle.pm_loeb.proofs.Exchanged.{kind_int}
use Rattle.pm_loeb.proofs.putting.kinded.Goals as goal

pub returns-in_ok-step-in-Int : goal.returns-in_ok-step-in-Int
returns-in_ok-step-in-Int c =
    subst (λ (z : Kind). IsKinded z c.args.by c.fill.result) (sym c.in-Int.is)
    (kind_int c.args.by c.in_ok-step-in-Int.step c.fill.result c.conclusion-e.result.now c.conclusion-e.ensures c.in_ok-step-in-Int.ensures c.fill.ensures.tree c.fill.ensures.proves)
