use Rattle.std.proofs.Common.{sym}
use Rattle.pm_directives.specs.Built.{is_built_pattern}
use Rattle.pm_directives.proofs.Allowed.{not_built, pair_test, either_test, int_test, spat_test, and_true, and_false}
use Rattle.pm_directives.proofs.accepting.+is_built_pattern.Goals as goal

pub returns-then-first : goal.returns-then-first
returns-then-first t c = and_true c.is_built_pattern-first.result c.is_built_pattern-second.result (is_built_pattern c.args.pat.now) c.if-first.true (pair_test c.args.pat.now c.in-Pair.a c.in-Pair.b c.get-p.result.now c.get-q.result.now c.is_built_pattern-first.result c.is_built_pattern-second.result c.in-Pair.is c.get-p.ensures c.get-q.ensures c.is_built_pattern-first.ensures c.is_built_pattern-second.ensures)

pub returns-else-first : goal.returns-else-first
returns-else-first t c = and_false c.is_built_pattern-first.result c.is_built_pattern-second.result (is_built_pattern c.args.pat.now) c.if-first.false (pair_test c.args.pat.now c.in-Pair.a c.in-Pair.b c.get-p.result.now c.get-q.result.now c.is_built_pattern-first.result c.is_built_pattern-second.result c.in-Pair.is c.get-p.ensures c.get-q.ensures c.is_built_pattern-first.ensures c.is_built_pattern-second.ensures)

pub returns-then-left : goal.returns-then-left
returns-then-left t c = and_true c.is_built_pattern-left.result c.is_built_pattern-right.result (is_built_pattern c.args.pat.now) c.if-left.true (either_test c.args.pat.now c.in-Either.a c.in-Either.b c.get-p-in-Either.result.now c.get-q-in-Either.result.now c.is_built_pattern-left.result c.is_built_pattern-right.result c.in-Either.is c.get-p-in-Either.ensures c.get-q-in-Either.ensures c.is_built_pattern-left.ensures c.is_built_pattern-right.ensures)

pub returns-else-left : goal.returns-else-left
returns-else-left t c = and_false c.is_built_pattern-left.result c.is_built_pattern-right.result (is_built_pattern c.args.pat.now) c.if-left.false (either_test c.args.pat.now c.in-Either.a c.in-Either.b c.get-p-in-Either.result.now c.get-q-in-Either.result.now c.is_built_pattern-left.result c.is_built_pattern-right.result c.in-Either.is c.get-p-in-Either.ensures c.get-q-in-Either.ensures c.is_built_pattern-left.ensures c.is_built_pattern-right.ensures)

pub returns-in-Int : goal.returns-in-Int
returns-in-Int t c = int_test c.args.pat.now c.in-Int.a c.get-boxed.result.now c.is_built_pattern.result c.in-Int.is c.get-boxed.ensures c.is_built_pattern.ensures

pub returns-in-Spat : goal.returns-in-Spat
returns-in-Spat t c = spat_test c.args.pat.now c.in-Spat.a c.get-spatial.result.now c.is_built_pattern-in-Spat.result c.in-Spat.is c.get-spatial.ensures c.is_built_pattern-in-Spat.ensures

pub returns-in_default : goal.returns-in_default
returns-in_default t c = sym (not_built c.args.pat.now c.in_default.not-Name c.in_default.not-Fresh c.in_default.not-Drop c.in_default.not-Frame c.in_default.not-Pair c.in_default.not-Either c.in_default.not-Absurd c.in_default.not-PureName c.in_default.not-PureFresh c.in_default.not-Int c.in_default.not-Spat)
