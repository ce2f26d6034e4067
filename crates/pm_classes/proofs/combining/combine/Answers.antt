use Rattle.pm_classes.proofs.Calls.{both_ways}
use Rattle.std.proofs.lemmas.Result.{IfOk-weaker}
use Rattle.std.proofs.Common.{◌≡◌, ap, ◌∙◌, sym}
use Rattle.pm_logic.specs.declared.formula.Formula.TheViews as view
use Rattle.pm_logic.specs.declared.formula.Formula.TheVariants.{Pts}
use Rattle.pm_classes.specs.Classes.{combine, together}
use Rattle.pm_classes.specs.Entries.{CombinesTo, Combines}
use Rattle.pm_classes.proofs.Combined.{combined, combine_other, combine_pts_other, combine_apart, joined_at}
use Rattle.pm_classes.proofs.combining.combine.Goals as goal

pub returns-in_default-b : goal.returns-in_default-b
returns-in_default-b c =
    let row : combine c.args.a.now c.args.b.now ≡ view.Sep c.args.a.now c.args.b.now = ap (λ x. combine x c.args.b.now) c.in-Pts.is ∙ combine_pts_other c.in-Pts.loc c.in-Pts.units c.in-Pts.val c.args.b.now c.in_default-b.not-Pts ∙ ap (λ x. view.Sep x c.args.b.now) (sym c.in-Pts.is) in
    IfOk-weaker c.apart.result (λ r. CombinesTo c.args.vars c.args.a.now c.args.b.now (view.Sep c.args.a.now c.args.b.now) r) (λ r. Combines c.args.vars c.args.a.now c.args.b.now r) (λ r h. combined c.args.vars c.args.a.now c.args.b.now (view.Sep c.args.a.now c.args.b.now) r row h) c.apart.ensures

pub returns-then-same_term : goal.returns-then-same_term
returns-then-same_term c =
    let same : c.in-Pts.loc ≡ c.in-Pts-b.other = c.same_term.ensures.0 c.if-same_term.true in
    IfOk-weaker c.joined.result (λ r. CombinesTo c.args.vars (Pts c.in-Pts.loc c.in-Pts.units c.in-Pts.val) (Pts c.in-Pts.loc c.in-Pts-b.more c.in-Pts-b.new) (together c.in-Pts.loc c.in-Pts.units c.in-Pts.val c.in-Pts-b.more c.in-Pts-b.new) r) (λ r. Combines c.args.vars c.args.a.now c.args.b.now r) (λ r h. joined_at c.args.vars c.args.a.now c.args.b.now c.in-Pts.loc c.in-Pts.units c.in-Pts.val c.in-Pts-b.other c.in-Pts-b.more c.in-Pts-b.new r c.in-Pts.is c.in-Pts-b.is same h) c.joined.ensures

pub returns-else-same_term : goal.returns-else-same_term
returns-else-same_term c =
    let other : c.in-Pts.loc ≡ c.in-Pts-b.other → ⊥ = λ h. both_ways c.same_term.result (c.same_term.ensures.1 h) c.if-same_term.false in
    let row : combine c.args.a.now c.args.b.now ≡ view.Sep c.args.a.now c.args.b.now = ap (λ x. combine x c.args.b.now) c.in-Pts.is ∙ ap (combine (Pts c.in-Pts.loc c.in-Pts.units c.in-Pts.val)) c.in-Pts-b.is ∙ combine_apart c.in-Pts.loc c.in-Pts-b.other c.in-Pts.units c.in-Pts-b.more c.in-Pts.val c.in-Pts-b.new other ∙ ap (λ x. view.Sep x (Pts c.in-Pts-b.other c.in-Pts-b.more c.in-Pts-b.new)) (sym c.in-Pts.is) ∙ ap (view.Sep c.args.a.now) (sym c.in-Pts-b.is) in
    IfOk-weaker c.apart-else-same_term.result (λ r. CombinesTo c.args.vars c.args.a.now c.args.b.now (view.Sep c.args.a.now c.args.b.now) r) (λ r. Combines c.args.vars c.args.a.now c.args.b.now r) (λ r h. combined c.args.vars c.args.a.now c.args.b.now (view.Sep c.args.a.now c.args.b.now) r row h) c.apart-else-same_term.ensures

pub returns-in_default : goal.returns-in_default
returns-in_default c =
    let row : combine c.args.a.now c.args.b.now ≡ view.Sep c.args.a.now c.args.b.now = combine_other c.args.a.now c.args.b.now c.in_default.not-Pts in
    IfOk-weaker c.apart-in_default.result (λ r. CombinesTo c.args.vars c.args.a.now c.args.b.now (view.Sep c.args.a.now c.args.b.now) r) (λ r. Combines c.args.vars c.args.a.now c.args.b.now r) (λ r h. combined c.args.vars c.args.a.now c.args.b.now (view.Sep c.args.a.now c.args.b.now) r row h) c.apart-in_default.ensures
