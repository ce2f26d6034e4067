use Rattle.std.proofs.Common.{sym, ◌∙◌, ap}
use Rattle.pm_table.specs.Limits.{work_formulas, all_nodes, resting}
use Rattle.pm_basic.proofs.Generals.{var_mentioned, var_reverted}
use Rattle.pm_basic.proofs.generalizing.by_index.Goals as goal

pub returns-then-mentioned : goal.returns-then-mentioned
returns-then-mentioned c =
    var_mentioned (all_nodes (work_formulas c.args.work.now)) c.args.name.now c.args.work.now c.requires.nothing c.args.index c.refuse_plain.result c.requires.index
    (sym c.in_ok-mentioned.ensures ∙ c.if-mentioned.true) c.refuse_plain.ensures

pub end-requires-clause-loses : goal.end-requires-clause-loses
end-requires-clause-loses c = record {
  nothing = c.requires.nothing;
  name = c.args.name.now;
  index = c.requires.index;
  loose = sym c.in_ok-mentioned.ensures ∙ c.if-mentioned.false;
  new_is = c.at_rest-new.ensures ∙ ap resting c.in_ok-goal.ensures;
}

pub returns : goal.returns
returns c =
    var_reverted (all_nodes (work_formulas c.args.work.now)) c.args.name.now c.args.work.now c.requires.nothing c.args.index c.at_rest-new.result c.end.result c.requires.index
    (sym c.in_ok-mentioned.ensures ∙ c.if-mentioned.false) (c.at_rest-new.ensures ∙ ap resting c.in_ok-goal.ensures) c.end.ensures
