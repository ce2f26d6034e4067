use Rattle.std.proofs.Common.{◌≡◌, ℕ, suc, ◌-◌, Err, sym, ap, arith}
use Rattle.pm_tokens.specs.Tokens.{places}
use Rattle.pm_text.specs.FormulaReading.{formula_in}
use Rattle.pm_text.specs.Parts.{scope, table}
use Rattle.pm_text.proofs.formulas.+formulas.Goals as goal

pub formula_in-returns-then-room-eq0-clause-reads : goal.formula_in-returns-then-room-eq0-clause-reads
unfolding formula_in
formula_in-returns-then-room-eq0-clause-reads t c =
    let none : c.args.room ≡ 0 = omega arith in
    let fault = rw c.as_slice.ensures at c.deep_formula.ensures in
    rw none (λ _. ap Err (sym fault))

pub formula_in-returns-else-room-eq0-clause-reads : goal.formula_in-returns-else-room-eq0-clause-reads
unfolding formula_in
formula_in-returns-else-room-eq0-clause-reads t c =
    let f = λ (n : ℕ). formula_in c.args.context.now.stop (table c.args.context.now) n c.args.level (scope c.args.context.now c.args.bound.now.items) (places c.args.tokens.now) in
    let deeper : c.args.room ≡ suc (c.args.room - 1) = omega arith in
    rw (ap f deeper) c.formula_at.ensures.reads
