use Rattle.std.proofs.Common.{subst, length, [], ◌∷◌, ◌+◌}
use Rattle.pm_goal.specs.Left.{of_kind, left_of_work}
use Rattle.pm_proof.specs.Trees.{entail}
use Rattle.pm_proof.specs.Known.{Proves, Every}
use Rattle.pm_schemes.specs.Sketches.{deepest}
use Rattle.pm_hand.specs.Changed.{dropped}
use Rattle.pm_modal.specs.Updates.{IsTail, IsStep}
use Rattle.pm_modal.proofs.Elims.{hole_second, hole_first, eliminates}
use Rattle.pm_modal.proofs.eliminating.joined.Goals as goal

pub fill-requires-2 : goal.fill-requires-2
fill-requires-2 c =
    let w = c.args.work.now in
    let l = c.args.held.now in
    let k = length w.goal.vars in
    let step : IsStep k (of_kind l.kind l.formula) (left_of_work w) c.args.b.now (left_of_work (dropped w)) c.args.c.now c.in_ok-step.step = subst (λ x. IsStep k (of_kind l.kind l.formula) (left_of_work w) c.args.b.now (left_of_work x) c.args.c.now c.in_ok-step.step) c.requires.rest c.in_ok-step.ensures in
    let tail : IsTail (dropped w) c.args.b.now c.args.tail = subst (λ x. IsTail x c.args.b.now c.args.tail) c.requires.rest c.requires.tail in
    let opened : Proves Every (entail k (of_kind l.kind l.formula) l.formula) [] 1 (deepest (l.formula ∷ []) [] + 1) k c.in_ok-opened.opened = subst (λ v. Proves Every (entail v (of_kind l.kind l.formula) l.formula) [] 1 (deepest (l.formula ∷ []) [] + 1) v c.in_ok-opened.opened) c.len.ensures c.in_ok-opened.ensures in
    hole_second w l c.args.b.now c.args.c.now c.requires.last c.requires.update c.requires.concl c.in_ok-step.step c.in_ok-front.front c.in_ok-opened.opened c.args.tail c.fill.result c.fill.result c.fill.result step c.in_ok-front.ensures opened tail c.fill.ensures.proves

pub fill-requires-3 : goal.fill-requires-3
fill-requires-3 c =
    let w = c.args.work.now in
    let l = c.args.held.now in
    let k = length w.goal.vars in
    let step : IsStep k (of_kind l.kind l.formula) (left_of_work w) c.args.b.now (left_of_work (dropped w)) c.args.c.now c.in_ok-step.step = subst (λ x. IsStep k (of_kind l.kind l.formula) (left_of_work w) c.args.b.now (left_of_work x) c.args.c.now c.in_ok-step.step) c.requires.rest c.in_ok-step.ensures in
    let tail : IsTail (dropped w) c.args.b.now c.args.tail = subst (λ x. IsTail x c.args.b.now c.args.tail) c.requires.rest c.requires.tail in
    let opened : Proves Every (entail k (of_kind l.kind l.formula) l.formula) [] 1 (deepest (l.formula ∷ []) [] + 1) k c.in_ok-opened.opened = subst (λ v. Proves Every (entail v (of_kind l.kind l.formula) l.formula) [] 1 (deepest (l.formula ∷ []) [] + 1) v c.in_ok-opened.opened) c.len.ensures c.in_ok-opened.ensures in
    hole_first w l c.args.b.now c.args.c.now c.requires.last c.requires.update c.requires.concl c.in_ok-step.step c.in_ok-front.front c.in_ok-opened.opened c.args.tail c.fill.result c.fill-2.result c.fill-2.result step c.in_ok-front.ensures opened tail c.fill.ensures.proves
    c.fill-2.ensures.proves

pub returns : goal.returns
returns c =
    let w = c.args.work.now in
    let l = c.args.held.now in
    let k = length w.goal.vars in
    let step : IsStep k (of_kind l.kind l.formula) (left_of_work w) c.args.b.now (left_of_work (dropped w)) c.args.c.now c.in_ok-step.step = subst (λ x. IsStep k (of_kind l.kind l.formula) (left_of_work w) c.args.b.now (left_of_work x) c.args.c.now c.in_ok-step.step) c.requires.rest c.in_ok-step.ensures in
    let tail : IsTail (dropped w) c.args.b.now c.args.tail = subst (λ x. IsTail x c.args.b.now c.args.tail) c.requires.rest c.requires.tail in
    let opened : Proves Every (entail k (of_kind l.kind l.formula) l.formula) [] 1 (deepest (l.formula ∷ []) [] + 1) k c.in_ok-opened.opened = subst (λ v. Proves Every (entail v (of_kind l.kind l.formula) l.formula) [] 1 (deepest (l.formula ∷ []) [] + 1) v c.in_ok-opened.opened) c.len.ensures c.in_ok-opened.ensures in
    eliminates w l c.args.b.now c.args.c.now c.requires.last c.requires.update c.requires.concl c.in_ok-step.step c.in_ok-front.front c.in_ok-opened.opened c.args.tail c.fill.result c.fill-2.result c.fill-3.result step c.in_ok-front.ensures opened tail c.fill.ensures.proves
    c.fill-2.ensures.proves c.fill-3.ensures.proves
