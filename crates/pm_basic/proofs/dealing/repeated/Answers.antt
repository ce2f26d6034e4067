use Rattle.std.proofs.Common.{◌+◌, refl, sym, ◌∙◌}
use Rattle.pm_basic.proofs.Listing.{apart_none, apart_more, apart_found, apart_all}
use Rattle.pm_basic.proofs.dealing.repeated.Goals as goal

pub loop-i-init : goal.loop-i-init
loop-i-init c = apart_none c.args.names.now

pub returns-then-is_listed : goal.returns-then-is_listed
returns-then-is_listed c = apart_found c.args.names.now c.loop-i.i c.index-names-i.result c.loop-i-test.true c.index-names-i.is (sym c.is_listed.ensures ∙ c.if-is_listed.true) c.loop-i.invariant

pub loop-i-preserved : goal.loop-i-preserved
loop-i-preserved c = apart_more c.args.names.now c.loop-i.i (c.loop-i.i + 1) c.index-names-i.result refl c.loop-i-test.true c.index-names-i.is (sym c.is_listed.ensures ∙ c.if-is_listed.false) c.loop-i.invariant

pub returns : goal.returns
returns c = apart_all c.args.names.now c.loop-i.i c.loop-i-test.false c.loop-i.invariant
