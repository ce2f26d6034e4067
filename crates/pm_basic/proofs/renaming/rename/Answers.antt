use Rattle.std.proofs.Common.{sym, ◌∙◌, ap, arith}
use Rattle.pm_table.specs.Limits.{work_formulas, all_nodes, resting}
use Rattle.pm_basic.proofs.Renamed.{renamed_means, rename_missing, rename_taken, rename_done, findable}
use Rattle.pm_basic.proofs.renaming.rename.Goals as goal

pub is_named-requires-clause-few : goal.is_named-requires-clause-few
is_named-requires-clause-few c = omega (arith, c.requires.handed.few)

pub returns-then-not-is_named : goal.returns-then-not-is_named
returns-then-not-is_named c =
    rename_missing c.args.old.now c.args.new.now (all_nodes (work_formulas c.args.work.now)) c.args.work.now c.requires.nothing c.refuse.result (sym c.is_named.ensures ∙ c.if-not-is_named.true) c.refuse.ensures

pub is_free-requires : goal.is_free-requires
is_free-requires c = findable c.args.work.now c.requires.handed

pub returns-then-not-is_free : goal.returns-then-not-is_free
returns-then-not-is_free c =
    rename_taken c.args.old.now c.args.new.now (all_nodes (work_formulas c.args.work.now)) c.args.work.now c.requires.nothing c.refuse-then-not-is_free.result
    (sym c.is_named.ensures ∙ c.if-not-is_named.false) (sym c.is_free.ensures ∙ c.if-not-is_free.true) c.refuse-then-not-is_free.ensures

pub with_renamed-requires-clause-free : goal.with_renamed-requires-clause-free
with_renamed-requires-clause-free c = sym c.is_free.ensures ∙ c.if-not-is_free.false

pub unmoved-requires-clause-few : goal.unmoved-requires-clause-few
unmoved-requires-clause-few c = omega (arith, c.requires.handed.few)

pub unmoved-requires-clause-same : goal.unmoved-requires-clause-same
unmoved-requires-clause-same c = renamed_means c.args.old.now c.args.new.now c.args.work.now c.at_rest-rested.result c.requires.nothing (c.at_rest-rested.ensures ∙ ap resting c.in_ok-goal.ensures)

pub returns : goal.returns
returns c =
    rename_done c.args.old.now c.args.new.now (all_nodes (work_formulas c.args.work.now)) c.args.work.now c.requires.nothing c.at_rest-rested.result c.unmoved.result
    (sym c.is_named.ensures ∙ c.if-not-is_named.false) (sym c.is_free.ensures ∙ c.if-not-is_free.false) (c.at_rest-rested.ensures ∙ ap resting c.in_ok-goal.ensures) c.unmoved.ensures
