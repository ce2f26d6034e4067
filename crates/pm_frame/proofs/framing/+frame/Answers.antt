use Rattle.pm_logic.specs.declared.formula.Formula.{the_lemmas}
use Rattle.std.proofs.Common.{rules, Some, None}
use Rattle.std.proofs.lemmas.Result.{IfOk-weaker}
use Rattle.pm_logic.specs.declared.formula.Formula.TheVariants.{Pts}
use Rattle.pm_logic.specs.declared.formula.Formula.TheViews as view
use Rattle.pm_logic.specs.Substitution.{shift_of}
use Rattle.pm_table.specs.Framing.{star, conjunction, disjunction, above, fewer_units, frame}
use Rattle.pm_frame.specs.Frames.{FrameAnswer, FrameAnswers}
use Rattle.pm_frame.proofs.Parts.{at}
use Rattle.pm_frame.proofs.Arms.{two_is, one_is, sep_first, sep_second, and_first, and_second, or_first, or_second, wand_second, later_part, upd_part, stripped_part, all_part, ex_part, not_same, whole_arm, pts_arm, sep_arm, and_arm, or_arm, ex_arm, all_arm, upd_arm, wand_arm, later_arm, stripped_not_arm, stripped_arm, rest_arm}
use Rattle.pm_frame.proofs.framing.+frame.Goals as goal

pub returns-then-same : goal.returns-then-same
returns-then-same t c = whole_arm c.args.vars c.args.r.now c.args.q.now c.in_ok-framed.framed (c.same.ensures.0 c.if-same.true) c.in_ok-framed.ensures

pub frame-requires : goal.frame-requires
frame-requires t c = (search (rules, the_lemmas), sep_first c.args.vars c.args.r.now c.args.q.now c.get-a.result.now c.get-b.result.now (two_is view.Sep c.args.q.now c.in-Sep.a c.in-Sep.b c.get-a.result.now c.get-b.result.now c.in-Sep.is c.get-a.ensures c.get-b.ensures) c.requires)

pub frame-requires-in_default-2 : goal.frame-requires-in_default-2
frame-requires-in_default-2 t c = (search (rules, the_lemmas), sep_second c.args.vars c.args.r.now c.args.q.now c.get-a.result.now c.get-b.result.now (two_is view.Sep c.args.q.now c.in-Sep.a c.in-Sep.b c.get-a.result.now c.get-b.result.now c.in-Sep.is c.get-a.ensures c.get-b.ensures) c.requires)

pub returns-in_default-2 : goal.returns-in_default-2
returns-in_default-2 t c = IfOk-weaker c.on_right.result (λ f. FrameAnswers c.args.vars c.args.r.now (view.Sep c.get-a.result.now c.get-b.result.now) (star c.get-a.result.now c.get-b.result.now (frame c.args.r.now c.get-a.result.now) (frame c.args.r.now c.get-b.result.now)) f) (λ f. FrameAnswer c.args.vars c.args.r.now c.args.q.now f) (λ f h. sep_arm c.args.vars c.args.r.now c.args.q.now c.get-a.result.now c.get-b.result.now f (two_is view.Sep c.args.q.now c.in-Sep.a c.in-Sep.b c.get-a.result.now c.get-b.result.now c.in-Sep.is c.get-a.ensures c.get-b.ensures) (not_same c.same.result c.args.r.now c.args.q.now c.same.ensures c.if-same.false) h) c.on_right.ensures

pub returns-in-Some : goal.returns-in-Some
returns-in-Some t c = IfOk-weaker c.on_left.result (λ f. FrameAnswers c.args.vars c.args.r.now (view.Sep c.get-a.result.now c.get-b.result.now) (star c.get-a.result.now c.get-b.result.now (frame c.args.r.now c.get-a.result.now) (frame c.args.r.now c.get-b.result.now)) f) (λ f. FrameAnswer c.args.vars c.args.r.now c.args.q.now f) (λ f h. sep_arm c.args.vars c.args.r.now c.args.q.now c.get-a.result.now c.get-b.result.now f (two_is view.Sep c.args.q.now c.in-Sep.a c.in-Sep.b c.get-a.result.now c.get-b.result.now c.in-Sep.is c.get-a.ensures c.get-b.ensures) (not_same c.same.result c.args.r.now c.args.q.now c.same.ensures c.if-same.false) h) c.on_left.ensures

pub frame-requires-in-And : goal.frame-requires-in-And
frame-requires-in-And t c = (search (rules, the_lemmas), and_first c.args.vars c.args.r.now c.args.q.now c.get-a-in-And.result.now c.get-b-in-And.result.now (two_is view.And c.args.q.now c.in-And.a c.in-And.b c.get-a-in-And.result.now c.get-b-in-And.result.now c.in-And.is c.get-a-in-And.ensures c.get-b-in-And.ensures) c.requires)

pub frame-requires-in-And-2 : goal.frame-requires-in-And-2
frame-requires-in-And-2 t c = (search (rules, the_lemmas), and_second c.args.vars c.args.r.now c.args.q.now c.get-a-in-And.result.now c.get-b-in-And.result.now (two_is view.And c.args.q.now c.in-And.a c.in-And.b c.get-a-in-And.result.now c.get-b-in-And.result.now c.in-And.is c.get-a-in-And.ensures c.get-b-in-And.ensures) c.requires)

pub returns-in_ok-y-in-And : goal.returns-in_ok-y-in-And
returns-in_ok-y-in-And t c = IfOk-weaker c.in_conjunction.result (λ f. FrameAnswers c.args.vars c.args.r.now (view.And c.get-a-in-And.result.now c.get-b-in-And.result.now) (conjunction c.get-a-in-And.result.now c.get-b-in-And.result.now (frame c.args.r.now c.get-a-in-And.result.now) (frame c.args.r.now c.get-b-in-And.result.now)) f) (λ f. FrameAnswer c.args.vars c.args.r.now c.args.q.now f) (λ f h. and_arm c.args.vars c.args.r.now c.args.q.now c.get-a-in-And.result.now c.get-b-in-And.result.now f (two_is view.And c.args.q.now c.in-And.a c.in-And.b c.get-a-in-And.result.now c.get-b-in-And.result.now c.in-And.is c.get-a-in-And.ensures c.get-b-in-And.ensures) (not_same c.same.result c.args.r.now c.args.q.now c.same.ensures c.if-same.false) h) c.in_conjunction.ensures

pub frame-requires-in-Or : goal.frame-requires-in-Or
frame-requires-in-Or t c = (search (rules, the_lemmas), or_first c.args.vars c.args.r.now c.args.q.now c.get-a-in-Or.result.now c.get-b-in-Or.result.now (two_is view.Or c.args.q.now c.in-Or.a c.in-Or.b c.get-a-in-Or.result.now c.get-b-in-Or.result.now c.in-Or.is c.get-a-in-Or.ensures c.get-b-in-Or.ensures) c.requires)

pub frame-requires-in-Or-2 : goal.frame-requires-in-Or-2
frame-requires-in-Or-2 t c = (search (rules, the_lemmas), or_second c.args.vars c.args.r.now c.args.q.now c.get-a-in-Or.result.now c.get-b-in-Or.result.now (two_is view.Or c.args.q.now c.in-Or.a c.in-Or.b c.get-a-in-Or.result.now c.get-b-in-Or.result.now c.in-Or.is c.get-a-in-Or.ensures c.get-b-in-Or.ensures) c.requires)

pub returns-in_ok-y-in-Or : goal.returns-in_ok-y-in-Or
returns-in_ok-y-in-Or t c = IfOk-weaker c.in_disjunction.result (λ f. FrameAnswers c.args.vars c.args.r.now (view.Or c.get-a-in-Or.result.now c.get-b-in-Or.result.now) (disjunction c.get-a-in-Or.result.now c.get-b-in-Or.result.now (frame c.args.r.now c.get-a-in-Or.result.now) (frame c.args.r.now c.get-b-in-Or.result.now)) f) (λ f. FrameAnswer c.args.vars c.args.r.now c.args.q.now f) (λ f h. or_arm c.args.vars c.args.r.now c.args.q.now c.get-a-in-Or.result.now c.get-b-in-Or.result.now f (two_is view.Or c.args.q.now c.in-Or.a c.in-Or.b c.get-a-in-Or.result.now c.get-b-in-Or.result.now c.in-Or.is c.get-a-in-Or.ensures c.get-b-in-Or.ensures) (not_same c.same.result c.args.r.now c.args.q.now c.same.ensures c.if-same.false) h) c.in_disjunction.ensures

pub frame-requires-in-Ex : goal.frame-requires-in-Ex
frame-requires-in-Ex t c = (search (rules, the_lemmas), ex_part c.args.vars c.args.r.now c.in_ok-s-in-Ex.s c.args.q.now c.get-a-in-Ex.result.now c.in_ok-s-in-Ex.ensures (one_is view.Ex c.args.q.now c.in-Ex.a c.get-a-in-Ex.result.now c.in-Ex.is c.get-a-in-Ex.ensures) c.requires)

pub returns-in_ok-x-in-Ex : goal.returns-in_ok-x-in-Ex
returns-in_ok-x-in-Ex t c = IfOk-weaker c.in_existential.result (λ f. FrameAnswers c.args.vars c.args.r.now (view.Ex c.get-a-in-Ex.result.now) (above view.Ex (frame (shift_of c.args.r.now) c.get-a-in-Ex.result.now)) f) (λ f. FrameAnswer c.args.vars c.args.r.now c.args.q.now f) (λ f h. ex_arm c.args.vars c.args.r.now c.args.q.now c.get-a-in-Ex.result.now f (one_is view.Ex c.args.q.now c.in-Ex.a c.get-a-in-Ex.result.now c.in-Ex.is c.get-a-in-Ex.ensures) (not_same c.same.result c.args.r.now c.args.q.now c.same.ensures c.if-same.false) h) c.in_existential.ensures

pub frame-requires-in-All : goal.frame-requires-in-All
frame-requires-in-All t c = (search (rules, the_lemmas), all_part c.args.vars c.args.r.now c.in_ok-s-in-All.s c.args.q.now c.get-a-in-All.result.now c.in_ok-s-in-All.ensures (one_is view.All c.args.q.now c.in-All.a c.get-a-in-All.result.now c.in-All.is c.get-a-in-All.ensures) c.requires)

pub returns-in_ok-x-in-All : goal.returns-in_ok-x-in-All
returns-in_ok-x-in-All t c = IfOk-weaker c.in_universal.result (λ f. FrameAnswers c.args.vars c.args.r.now (view.All c.get-a-in-All.result.now) (above view.All (frame (shift_of c.args.r.now) c.get-a-in-All.result.now)) f) (λ f. FrameAnswer c.args.vars c.args.r.now c.args.q.now f) (λ f h. all_arm c.args.vars c.args.r.now c.args.q.now c.get-a-in-All.result.now f (one_is view.All c.args.q.now c.in-All.a c.get-a-in-All.result.now c.in-All.is c.get-a-in-All.ensures) (not_same c.same.result c.args.r.now c.args.q.now c.same.ensures c.if-same.false) h) c.in_universal.ensures

pub frame-requires-in_default-r : goal.frame-requires-in_default-r
frame-requires-in_default-r t c = (search (rules, the_lemmas), later_part c.args.vars c.args.r.now c.args.q.now c.get-a-in-Later.result.now (one_is view.Later c.args.q.now c.in-Later.a c.get-a-in-Later.result.now c.in-Later.is c.get-a-in-Later.ensures) c.requires)

pub returns-in_default-r : goal.returns-in_default-r
returns-in_default-r t c = IfOk-weaker c.in_later.result (λ f. FrameAnswers c.args.vars c.args.r.now (view.Later c.get-a-in-Later.result.now) (above view.Later (frame c.args.r.now c.get-a-in-Later.result.now)) f) (λ f. FrameAnswer c.args.vars c.args.r.now c.args.q.now f) (λ f h. later_arm c.args.vars c.args.r.now c.args.q.now c.get-a-in-Later.result.now f (one_is view.Later c.args.q.now c.in-Later.a c.get-a-in-Later.result.now c.in-Later.is c.get-a-in-Later.ensures) (not_same c.same.result c.args.r.now c.args.q.now c.same.ensures c.if-same.false) c.in_default-r.not-Later h) c.in_later.ensures

pub frame-requires-in-Later : goal.frame-requires-in-Later
frame-requires-in-Later t c = (search (rules, the_lemmas), stripped_part c.args.vars c.args.r.now c.get-r0.result.now c.args.q.now c.get-a-in-Later.result.now (one_is view.Later c.args.r.now c.in-Later-r.r0 c.get-r0.result.now c.in-Later-r.is c.get-r0.ensures) (one_is view.Later c.args.q.now c.in-Later.a c.get-a-in-Later.result.now c.in-Later.is c.get-a-in-Later.ensures) c.requires)

pub frame-requires-in_default-3 : goal.frame-requires-in_default-3
frame-requires-in_default-3 t c = (search (rules, the_lemmas), later_part c.args.vars c.args.r.now c.args.q.now c.get-a-in-Later.result.now (one_is view.Later c.args.q.now c.in-Later.a c.get-a-in-Later.result.now c.in-Later.is c.get-a-in-Later.ensures) c.requires)

pub returns-in_default-3 : goal.returns-in_default-3
returns-in_default-3 t c = IfOk-weaker c.in_later-in_default-3.result (λ f. FrameAnswers c.args.vars c.args.r.now (view.Later c.get-a-in-Later.result.now) (above view.Later (frame c.args.r.now c.get-a-in-Later.result.now)) f) (λ f. FrameAnswer c.args.vars c.args.r.now c.args.q.now f) (λ f h. stripped_not_arm c.args.vars c.args.r.now c.get-r0.result.now c.args.q.now c.get-a-in-Later.result.now f (one_is view.Later c.args.r.now c.in-Later-r.r0 c.get-r0.result.now c.in-Later-r.is c.get-r0.ensures) (one_is view.Later c.args.q.now c.in-Later.a c.get-a-in-Later.result.now c.in-Later.is c.get-a-in-Later.ensures) (not_same c.same.result c.args.r.now c.args.q.now c.same.ensures c.if-same.false) (at c.args.vars c.get-r0.result.now c.get-a-in-Later.result.now c.in_ok-x-in-Later-2.field-0 None c.in_default-3.is c.in_ok-x-in-Later-2.ensures) h) c.in_later-in_default-3.ensures

pub returns-in-Some-2 : goal.returns-in-Some-2
returns-in-Some-2 t c = IfOk-weaker c.in_both_later.result (λ f. FrameAnswers c.args.vars (view.Later c.get-r0.result.now) (view.Later c.get-a-in-Later.result.now) (above view.Later (frame c.get-r0.result.now c.get-a-in-Later.result.now)) f) (λ f. FrameAnswer c.args.vars c.args.r.now c.args.q.now f) (λ f h. stripped_arm c.args.vars c.args.r.now c.get-r0.result.now c.args.q.now c.get-a-in-Later.result.now c.in-Some-2.x f (one_is view.Later c.args.r.now c.in-Later-r.r0 c.get-r0.result.now c.in-Later-r.is c.get-r0.ensures) (one_is view.Later c.args.q.now c.in-Later.a c.get-a-in-Later.result.now c.in-Later.is c.get-a-in-Later.ensures) (not_same c.same.result c.args.r.now c.args.q.now c.same.ensures c.if-same.false) (at c.args.vars c.get-r0.result.now c.get-a-in-Later.result.now c.in_ok-x-in-Later-2.field-0 (Some c.in-Some-2.x) c.in-Some-2.is c.in_ok-x-in-Later-2.ensures) h) c.in_both_later.ensures

pub frame-requires-in-Upd : goal.frame-requires-in-Upd
frame-requires-in-Upd t c = (search (rules, the_lemmas), upd_part c.args.vars c.args.r.now c.args.q.now c.get-a-in-Upd.result.now (one_is view.Upd c.args.q.now c.in-Upd.a c.get-a-in-Upd.result.now c.in-Upd.is c.get-a-in-Upd.ensures) c.requires)

pub returns-in_ok-x-in-Upd : goal.returns-in_ok-x-in-Upd
returns-in_ok-x-in-Upd t c = IfOk-weaker c.in_update.result (λ f. FrameAnswers c.args.vars c.args.r.now (view.Upd c.get-a-in-Upd.result.now) (above view.Upd (frame c.args.r.now c.get-a-in-Upd.result.now)) f) (λ f. FrameAnswer c.args.vars c.args.r.now c.args.q.now f) (λ f h. upd_arm c.args.vars c.args.r.now c.args.q.now c.get-a-in-Upd.result.now f (one_is view.Upd c.args.q.now c.in-Upd.a c.get-a-in-Upd.result.now c.in-Upd.is c.get-a-in-Upd.ensures) (not_same c.same.result c.args.r.now c.args.q.now c.same.ensures c.if-same.false) h) c.in_update.ensures

pub frame-requires-in-Wand : goal.frame-requires-in-Wand
frame-requires-in-Wand t c = (search (rules, the_lemmas), wand_second c.args.vars c.args.r.now c.args.q.now c.in-Wand.a c.in-Wand.b c.get-b-in-Wand.result.now c.in-Wand.is c.get-b-in-Wand.ensures c.requires)

pub returns-in_ok-x-in-Wand : goal.returns-in_ok-x-in-Wand
returns-in_ok-x-in-Wand t c = IfOk-weaker c.in_wand.result (λ f. FrameAnswers c.args.vars c.args.r.now (view.Wand c.get.result.now c.get-b-in-Wand.result.now) (above (view.Wand c.get.result.now) (frame c.args.r.now c.get-b-in-Wand.result.now)) f) (λ f. FrameAnswer c.args.vars c.args.r.now c.args.q.now f) (λ f h. wand_arm c.args.vars c.args.r.now c.args.q.now c.get.result.now c.get-b-in-Wand.result.now f (two_is view.Wand c.args.q.now c.in-Wand.a c.in-Wand.b c.get.result.now c.get-b-in-Wand.result.now c.in-Wand.is c.get.ensures c.get-b-in-Wand.ensures) (not_same c.same.result c.args.r.now c.args.q.now c.same.ensures c.if-same.false) h) c.in_wand.ensures

pub returns-in-Pts : goal.returns-in-Pts
returns-in-Pts t c = IfOk-weaker c.fewer_units.result (λ f. FrameAnswers c.args.vars c.args.r.now (Pts c.in-Pts.loc c.in-Pts.units c.in-Pts.val) (fewer_units c.args.r.now c.in-Pts.loc c.in-Pts.units c.in-Pts.val) f) (λ f. FrameAnswer c.args.vars c.args.r.now c.args.q.now f) (λ f h. pts_arm c.args.vars c.args.r.now c.args.q.now c.in-Pts.loc c.in-Pts.units c.in-Pts.val f c.in-Pts.is (not_same c.same.result c.args.r.now c.args.q.now c.same.ensures c.if-same.false) h) c.fewer_units.ensures

pub returns-in_default : goal.returns-in_default
returns-in_default t c = rest_arm c.args.vars c.args.r.now c.args.q.now (not_same c.same.result c.args.r.now c.args.q.now c.same.ensures c.if-same.false) c.in_default.not-Pts c.in_default.not-Sep c.in_default.not-And c.in_default.not-Or c.in_default.not-Ex c.in_default.not-All c.in_default.not-Later c.in_default.not-Upd c.in_default.not-Wand
