use Rattle.std.proofs.Common.{◌+◌, refl, rules}
use Rattle.pm_table.specs.Running.{in_place}
use Rattle.pm_directives.specs.Groups.{alone_run}
use Rattle.pm_directives.proofs.Begun.{fills_here, goes_on_here, refused_here, ends_here}
use Rattle.pm_directives.proofs.groups.each_alone.Goals as goal

pub returns-in_err-ended : goal.returns-in_err-ended
returns-in_err-ended c = refused_here (in_place (alone_run c.args.alone)) c.args.standing c.as_slice-place-items.result.now c.as_slice-place-items.ensures c.requires c.loop-place.place-index c.place-item.result c.loop-place.new c.loop-place.proof c.loop-place-test.true c.place-item.is c.loop-place.invariant c.from_residual.result c.in_err-ended.field-0.0 (search rules) c.in_err-ended.ensures

pub fill-proof-requires : goal.fill-proof-requires
fill-proof-requires c = fills_here (in_place (alone_run c.args.alone)) c.args.standing c.as_slice-place-items.result.now c.as_slice-place-items.ensures c.requires c.loop-place.place-index c.place-item.result c.loop-place.new c.loop-place.proof c.loop-place-test.true c.place-item.is c.loop-place.invariant c.len-count.result c.in_ok-ended.ended c.len-count.ensures c.in_ok-ended.ensures

pub loop-place-preserved : goal.loop-place-preserved
loop-place-preserved c = goes_on_here (in_place (alone_run c.args.alone)) c.args.standing c.as_slice-place-items.result.now c.as_slice-place-items.ensures c.requires c.loop-place.place-index c.place-item.result c.loop-place.new c.loop-place.proof c.loop-place-test.true c.place-item.is c.loop-place.invariant (c.loop-place.place-index + 1) c.len-count.result c.in_ok-ended.ended c.append.new.out c.fill-proof.result refl c.len-count.ensures c.in_ok-ended.ensures c.fill-proof.ensures.proves c.in_ok-append.ensures

pub returns : goal.returns
returns c = ends_here (in_place (alone_run c.args.alone)) c.args.standing c.as_slice-place-items.result.now c.as_slice-place-items.ensures c.requires c.loop-place.place-index c.loop-place.new c.loop-place.proof c.loop-place-test.false c.loop-place.invariant
