use Rattle.std.proofs.Common.{◌≡◌, subst, sym}
use Rattle.pm_run.specs.declared.halted.Halted.{Halted}
use Rattle.pm_run.specs.Halting.{halted, HaltsAs}
use Rattle.pm_run.proofs.Doings.{on_ok}
use Rattle.pm_run.proofs.Endings.{halts_as}
use Rattle.pm_run.proofs.halted.halt_script.Goals as goal

pub returns : goal.returns
returns c = on_ok (λ (h : Halted). h ≡ halted c.halt_cut.new.running c.in_ok-stop.stop) (HaltsAs c.args.bytes.now) c.end_of.result
    (λ h e. subst (HaltsAs c.args.bytes.now) (sym e) (halts_as c.args.bytes.now c.halt_cut.new.running c.in_ok-stop.stop c.in_ok-stop.ensures))
    c.end_of.ensures
