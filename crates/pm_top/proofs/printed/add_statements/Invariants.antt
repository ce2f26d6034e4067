use Rattle.std.proofs.Common.{◌≡◌, ◌++◌, take}
use Rattle.std.specs.List.{flat_map}
use Rattle.pm_print.specs.Lines.{lemma_line}
use Rattle.pm_top.proofs.printed.add_statements.Given as goal

abbrev pub invariant-loop-statement : goal.invariant-loop-statement
invariant-loop-statement l = l.text ≡ l.fn.text ++ flat_map (λ s. lemma_line l.preds.list s.name s.formula) (take l.statement-index l.statements)
