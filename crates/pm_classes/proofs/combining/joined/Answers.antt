use Rattle.pm_classes.proofs.Calls.{both_ways}
use Rattle.pm_classes.proofs.Combined.{over_done, join_done, agreed_done}
use Rattle.std.proofs.Common.{rules, ◌≡◌, ◌<◌, ◌≤◌, ◌+◌}
use Rattle.pm_logic.specs.declared.formula.Formula.TheViews as view
use Rattle.pm_logic.specs.declared.formula.Formula.TheVariants.{Pure as Fact, Pts}
use Rattle.pm_logic.specs.declared.formula.Pure.TheVariants.{Eq}
use Rattle.pm_logic.specs.declared.formula.TheConstants.{UNIT}
use Rattle.pm_classes.proofs.combining.joined.Goals as goal

pub returns-then-from : goal.returns-then-from
returns-then-from c = let over : UNIT < c.args.units + c.args.more = search rules in over_done c.args.vars c.args.loc.now c.args.units c.args.val.now c.args.more c.args.new.now c.in_ok-proof.proof over c.in_ok-proof.ensures

pub returns-then-same_term : goal.returns-then-same_term
returns-then-same_term c =
    let le : c.args.units + c.args.more ≤ UNIT = search rules in
    let same : c.args.val.now ≡ c.args.new.now = c.same_term.ensures.0 c.if-same_term.true in
    let is : c.in_ok-sum.sum ≡ Pts c.args.loc.now (c.args.units + c.args.more) c.args.val.now = search rules in
    join_done c.args.vars c.args.loc.now c.args.units c.args.val.now c.args.more c.args.new.now c.in_ok-sum.sum c.in_ok-proof-2.proof le same is c.in_ok-proof-2.ensures

pub returns : goal.returns
returns c =
    let le : c.args.units + c.args.more ≤ UNIT = search rules in
    let other : c.args.val.now ≡ c.args.new.now → ⊥ = λ h. both_ways c.same_term.result (c.same_term.ensures.1 h) c.if-same_term.false in
    let is : c.in_ok-formula.formula ≡ view.Sep (Fact (Eq c.args.val.now c.args.new.now)) (Pts c.args.loc.now (c.args.units + c.args.more) c.args.val.now) = search rules in
    agreed_done c.args.vars c.args.loc.now c.args.units c.args.val.now c.args.more c.args.new.now c.in_ok-formula.formula c.in_ok-proof-3.proof le other is c.in_ok-proof-3.ensures
