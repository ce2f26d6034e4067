use Rattle.std.proofs.Common.{◌≡◌, ◌++◌, take}
use Rattle.std.specs.List.{flat_map}
use Rattle.pm_print.specs.Lines.{predicate_line}
use Rattle.pm_top.proofs.printed.add_predicates.Given as goal

abbrev pub invariant-loop-pred : goal.invariant-loop-pred
invariant-loop-pred l = l.text ≡ l.fn.text ++ flat_map (predicate_line l.preds.list) (take l.pred-index l.list)
