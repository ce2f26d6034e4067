use Rattle.std.proofs.Common.{◌∙◌}
use Rattle.pm_directives.proofs.Begun.{cleared, framed, reverted}
use Rattle.pm_directives.proofs.groups.run_alone.Goals as goal

pub returns-in_ok-start-in-Clear : goal.returns-in_ok-start-in-Clear
returns-in_ok-start-in-Clear c = cleared c.args.alone c.in-Clear.group c.args.work.now c.as_slice.result.now c.in_ok-start-in-Clear.start c.for_each.result c.in-Clear.is (c.as_slice.ensures ∙ c.in_ok-names-in-Clear.ensures) c.in_ok-start-in-Clear.ensures c.for_each.ensures

pub returns-in_ok-start-in-Revert : goal.returns-in_ok-start-in-Revert
returns-in_ok-start-in-Revert c = reverted c.args.alone c.in-Revert.group c.args.work.now c.as_slice-in-Revert.result.now c.in_ok-start-in-Revert.start c.for_each_back.result c.in-Revert.is (c.as_slice-in-Revert.ensures ∙ c.in_ok-names-in-Revert.ensures) c.in_ok-start-in-Revert.ensures c.for_each_back.ensures

pub returns-in_ok-start-in-Frame : goal.returns-in_ok-start-in-Frame
returns-in_ok-start-in-Frame c = framed c.args.alone c.in-Frame.group c.args.work.now c.as_slice-in-Frame.result.now c.in_ok-start-in-Frame.start c.for_each-in-Frame.result c.in-Frame.is (c.as_slice-in-Frame.ensures ∙ c.in_ok-names-in-Frame.ensures) c.in_ok-start-in-Frame.ensures c.for_each-in-Frame.ensures
