use Rattle.std.proofs.Common.{◌≡◌, ◌++◌, Less, Greater, Equal, pos, sym, subst, inl, inr, ap, ◌∙◌, rules}
use Rattle.std.proofs.lemmas.Cmp.{int_ranked}
use Rattle.pm_model.specs.declared.heap.Cell.{Cell}
use Rattle.pm_model.specs.Heap.{AreTogether}
use Rattle.pm_model.proofs.Merge.{Remains, others, step_left, step_right, step_both, step_clash, is_empty, ended}
use Rattle.pm_model.proofs.heap.merge.Goals as goal
use Rattle.pm_model.proofs.heap.merge.Goals.{in_default, in_default-2}

-- what code reads past the end of a list
none : Cell
none = record { loc = pos 0; units = 0; val = pos 0 }

pub returns-in-None-clause-no : goal.returns-in-None-clause-no
unfolding none
returns-in-None-clause-no c =
    step_clash none _ _ _ c.loop-left.left.now c.loop-left.right.now (search rules) (search rules) (int_ranked _ _ Equal c.in-Equal.ensures) c.in-None.ensures.apart c.loop-left.invariant

pub loop-left-preserved-in_ok-push-in-Less : goal.loop-left-preserved-in_ok-push-in-Less
unfolding none
loop-left-preserved-in_ok-push-in-Less c =
    subst (λ done. Remains c.args.a.now c.args.b.now done (others c.loop-left.left.now) c.loop-left.right.now) (sym c.in_ok-push-in-Less.ensures.ok) (step_left none _ _ _ c.loop-left.left.now c.loop-left.right.now (search rules) (search rules) (int_ranked _ _ Less c.in-Less.ensures) c.loop-left.invariant)

pub loop-left-preserved-in_ok-push-in-Greater : goal.loop-left-preserved-in_ok-push-in-Greater
unfolding none
loop-left-preserved-in_ok-push-in-Greater c =
    subst (λ done. Remains c.args.a.now c.args.b.now done c.loop-left.left.now (others c.loop-left.right.now)) (sym c.in_ok-push-in-Greater.ensures.ok) (step_right none _ _ _ c.loop-left.left.now c.loop-left.right.now (search rules) (search rules) (int_ranked _ _ Greater c.in-Greater.ensures) c.loop-left.invariant)

pub loop-left-preserved : goal.loop-left-preserved
unfolding none
loop-left-preserved c =
    let new = c.in-Some.ensures in
    subst (λ done. Remains c.args.a.now c.args.b.now done (others c.loop-left.left.now) (others c.loop-left.right.now)) (sym c.in_ok-push-in-Some.ensures.ok) (step_both none c.in-Some.cell _ _ _ c.loop-left.left.now c.loop-left.right.now (search rules) (search rules) (int_ranked _ _ Equal c.in-Equal.ensures) new.loc new.fits new.sum c.loop-left.invariant)

pub returns-clause-yes : goal.returns-clause-yes
returns-clause-yes c =
    let all : c.push_all-2.new.cells ≡ (c.loop-left.cells ++ c.loop-left.left.now) ++ c.loop-left.right.now = c.in_ok-push_all-2.ensures ∙ ap (λ xs. xs ++ c.loop-left.right.now) c.in_ok-push_all.ensures in
    subst (λ xs. AreTogether c.args.a.now c.args.b.now xs) (sym all) (ended _ _ c.loop-left.cells c.loop-left.left.now c.loop-left.right.now (elim c.if-left-lt1.branch [ in_default w ↦ inl (is_empty _ (search rules)) | in_default-2 w ↦ inr (is_empty _ (search rules)) ]) c.loop-left.invariant)
