use Rattle.pm_run.specs.Keeping.{Directs, DirectsIf}
use Rattle.pm_run.proofs.Doings.{on_ok, directs_if, directs_nothing}
use Rattle.pm_run.proofs.running.Running.any_directive.Goals as goal

pub returns-then-is_built : goal.returns-then-is_built
returns-then-is_built c = on_ok (Directs c.args.self.now c.args.directive.now c.directive.new.self) (DirectsIf c.args.self.now c.args.directive.now c.directive.new.self) c.directive.result
    (λ d h. λ s k. directs_if c.is_built.result c.args.directive.now s c.args.self.now c.directive.new.self d c.is_built.ensures c.if-is_built.true (h s k))
    c.directive.ensures

pub returns-else-is_built : goal.returns-else-is_built
returns-else-is_built c = λ s k. directs_nothing c.is_built.result c.args.directive.now s c.args.self.now c.is_built.ensures c.if-is_built.false
