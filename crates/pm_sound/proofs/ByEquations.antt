-- The rules whose rows are equations or have a bracket.
use Rattle.std.proofs.Common.{ℕ, ◌<◌, ◌+◌, List, [], ◌∷◌, length, ℤ, refl, sym, ap, ◌∙◌, subst, subst₂}
use Rattle.pm_logic.specs.declared.formula.Formula.{Formula}
use Rattle.pm_logic.specs.declared.formula.Formula.TheBlock as block
use Rattle.pm_logic.specs.declared.formula.Formula.TheVariants.{Pts}
use Rattle.pm_logic.specs.declared.formula.Formula.TheViews as view
use Rattle.pm_logic.specs.declared.formula.Term.{Term}
use Rattle.pm_logic.specs.declared.formula.TheConstants.{UNIT}
use denote.Hole.Carrier as carrier
use Rattle.pm_logic.specs.Classes.{IsTimeless}
use Rattle.pm_logic.specs.Scope.{CallsFit}
use Rattle.pm_logic.specs.Trees.{Sep, Later}
use Rattle.pm_rules.specs.declared.rules.Rule.TheVariants as rule
use Rattle.pm_rules.specs.Rows.{HasArguments, HasBracket}
use Rattle.pm_sound.specs.Truth.{IsSound}
use Rattle.pm_sound.proofs.Connectives.{inst_true, all_e_true, ex_i_true}
use Rattle.pm_sound.proofs.Facts.{rewrite_true}
use Rattle.pm_sound.proofs.Linear.{linear_true}
use Rattle.pm_sound.proofs.PointsTo.{pts_split_true, pts_join_true, pts_agree_true, pts_over_true, pts_write_true, pts_new_true}
use Rattle.pm_sound.proofs.Recursion.{call_named, fold_true, unfold_true, timeless_true}
use Rattle.pm_sound.proofs.Rows.{along}

pub inst : (sigma : List Term) → IsSound (rule.Inst sigma)
unfolding HasArguments
inst sigma preds [] e table given scoped t ok = absurd ok.shape
inst sigma preds (p ∷ []) e table given scoped t ok =
    along ok.shape.left_is ok.shape.right_is (inst_true preds e.vars p.vars sigma p.left p.right (sym ok.arguments.0) t.0)
inst sigma preds (p ∷ q ∷ ps) e table given scoped t ok = absurd ok.shape

pub all_e : (u : Term) → IsSound (rule.AllE u)
unfolding block.shape-the_row-Formula-0 block.hidden-the_row-Formula-0 carrier.hidden
all_e u preds ps e table given scoped t ok = let s = ok.shape in along s.left_is s.right_is (all_e_true preds e.vars s.b u)

pub ex_i : (u : Term) → IsSound (rule.ExI u)
unfolding block.shape-the_row-Formula-0 block.hidden-the_row-Formula-0 carrier.hidden
ex_i u preds ps e table given scoped t ok = let s = ok.shape in along s.left_is s.right_is (ex_i_true preds e.vars s.b u)

pub linear : (c d : List ℤ) → IsSound (rule.Linear c d)
unfolding HasBracket
linear c d preds ps e table given scoped t ok = let s = ok.bracket in along s.left_is s.right_is (linear_true preds e.vars c d s.fs s.g s.first s.second)

pub rewrite : (b : Formula) → IsSound (rule.Rewrite b)
unfolding block.shape-the_row-Formula-0 block.hidden-the_row-Formula-0 carrier.hidden
rewrite b preds ps e table given scoped t ok = let s = ok.shape in along s.left_is s.right_is (rewrite_true preds e.vars b s.s s.t)

-- ---- points-to

pub pts_split : IsSound rule.PtsSplit
unfolding block.shape-the_row-Formula-0 block.hidden-the_row-Formula-0 carrier.hidden CallsFit
pts_split preds ps e table given scoped t ok =
    let s = ok.shape in
    let units = subst (λ x. CallsFit preds.list x) s.parts_are scoped.right.calls in
    along s.whole_is s.parts_are (pts_split_true preds e.vars s.l s.v s.a s.b units.0.0 units.1.0)

pub pts_join : IsSound rule.PtsJoin
unfolding block.shape-the_row-Formula-0 block.hidden-the_row-Formula-0 carrier.hidden
pts_join preds ps e table given scoped t ok = let s = ok.shape in along s.parts_are s.whole_is (pts_join_true preds e.vars s.l s.v s.a s.b)

pub pts_agree : IsSound rule.PtsAgree
unfolding block.shape-the_row-Formula-0 block.hidden-the_row-Formula-0 carrier.hidden
pts_agree preds ps e table given scoped t ok = let s = ok.shape in along s.left_is s.right_is (pts_agree_true preds e.vars s.l s.v s.w s.a s.b)

units_of : Formula → ℕ
units_of (Pts l u v) = u
units_of _ = 0

first_units : Formula → ℕ
first_units (Sep x y) = units_of x
first_units _ = 0

second_units : Formula → ℕ
second_units (Sep x y) = units_of y
second_units _ = 0

pub pts_over : IsSound rule.PtsOver
unfolding block.shape-the_row-Formula-0 block.hidden-the_row-Formula-0 carrier.hidden HasBracket units_of first_units second_units
pts_over preds ps e table given scoped t ok =
    let s = ok.shape in
    let o = ok.bracket in
    let same = sym o.left_is ∙ s.left_is in
    let over = subst₂ (λ x y. UNIT < x + y) (ap first_units same) (ap second_units same) o.over in
    along s.left_is s.right_is (pts_over_true preds e.vars s.l s.v s.w s.a s.b over)

pub pts_write : IsSound rule.PtsWrite
unfolding block.shape-the_row-Formula-0 block.hidden-the_row-Formula-0 carrier.hidden
pts_write preds ps e table given scoped t ok = let s = ok.shape in along s.left_is s.right_is (pts_write_true preds e.vars s.l s.v s.w)

pub pts_new : IsSound rule.PtsNew
unfolding block.shape-the_row-Formula-0 block.hidden-the_row-Formula-0 carrier.hidden
pts_new preds ps e table given scoped t ok =
    let s = ok.shape in
    along refl (s.right_is ∙ ap (λ x. view.Upd (view.Ex x)) s.fresh.is) (pts_new_true preds e.vars e.left s.fresh.v)

-- ---- calls and timeless formulas

pub fold_call : IsSound rule.Fold
unfolding CallsFit
fold_call preds ps e table given scoped t ok =
    let s = ok.shape in
    let fits = subst (λ x. CallsFit preds.list x) s.call_is scoped.right.calls in
    along s.body_is s.call_is (fold_true preds e.vars s.p s.args table.guarded (call_named preds.list s.p (length s.args) fits))

pub unfold_call : IsSound rule.Unfold
unfold_call preds ps e table given scoped t ok = let s = ok.shape in along s.call_is s.body_is (unfold_true preds e.vars s.p s.args table.guarded)

part_of : Formula → Formula
part_of (Later x) = x
part_of x = x

pub timeless : IsSound rule.Timeless
unfolding block.shape-the_row-Formula-0 block.hidden-the_row-Formula-0 carrier.hidden HasBracket part_of
timeless preds ps e table given scoped t ok =
    let c = ok.shape.conclusion in
    let o = ok.bracket in
    let p = ok.shape.letters.formula 0 in
    let is_timeless = subst (λ x. IsTimeless x) (ap part_of (sym o.left_is ∙ c.left_is)) o.timeless in
    along c.left_is c.right_is (timeless_true preds e.vars p is_timeless)
