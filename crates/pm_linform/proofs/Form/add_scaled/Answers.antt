use Rattle.std.proofs.Common.{rules, ◌≡◌, ℤ, pos, ◌+ℤ◌, ◌*ℤ◌, slice_index_or, w64, FitsSigned, to_z, of_z, subst, sym, ap, ap₂, ◌∙◌}
use Rattle.std.proofs.lemmas.Int.{to_z-of_z}
use mir.Syntax.{w128}
use Rattle.pm_linform.specs.Entries as entries
use Rattle.pm_linform.proofs.Entries.{room_seen, product_seen, summed_step, summed_all}
use Rattle.pm_linform.proofs.Form.add_scaled.Goals as goal

pub plus_scaled-requires-clause-room : goal.plus_scaled-requires-clause-room
plus_scaled-requires-clause-room c =
    let P : ℤ → Type 0 = λ z. entries.IsAtMost entries.room z in
    room_seen (slice_index_or c.loop-i.self.coefficients c.loop-i.i (pos 0)) (subst P (sym (c.loop-i.invariant.0.left c.loop-i.i (search rules))) (c.requires.room.coefficients c.loop-i.i))

pub plus_scaled-requires-clause-scaled : goal.plus_scaled-requires-clause-scaled
plus_scaled-requires-clause-scaled c =
    let P : ℤ → Type 0 = λ z. entries.IsAtMost entries.room z in
    let f : FitsSigned w128 (slice_index_or c.args.other.now.coefficients c.loop-i.i (pos 0)) = search rules in
    subst P (sym (product_seen c.args.c (slice_index_or c.args.other.now.coefficients c.loop-i.i (pos 0)) c.ranges.c f)) (c.requires.scaled.coefficients c.loop-i.i)

pub loop-i-preserved : goal.loop-i-preserved
loop-i-preserved c =
    let P : ℤ → Type 0 = λ z. entries.IsAtMost entries.room z in
    let now = slice_index_or c.loop-i.self.coefficients c.loop-i.i (pos 0) in
    let added = slice_index_or c.args.other.now.coefficients c.loop-i.i (pos 0) in
    let f : FitsSigned w128 added = search rules in
    let g : FitsSigned w128 now = search rules in
    let r : FitsSigned w128 c.plus_scaled.result = search rules in
    let e = to_z-of_z w128 c.plus_scaled.result r ∙ c.plus_scaled.ensures ∙ ap₂ (λ x y. x +ℤ to_z w64 (of_z w64 c.args.c) *ℤ y) (to_z-of_z w128 now g) (to_z-of_z w128 added f) in (
      summed_step c.loop-i.i (to_z w64 (of_z w64 c.args.c)) c.args.self.now.coefficients c.loop-i.self.coefficients c.args.other.now.coefficients (to_z w128 (of_z w128 c.plus_scaled.result)) (search rules) c.loop-i.invariant.0 e,
      c.loop-i.invariant.1,
    )

pub returns : goal.returns
returns c =
    let k = c.loop-i.self.constant in
    let m = c.args.other.now.constant in
    let z = c.args.c in
    let f : FitsSigned w128 m = search rules in
    let g : FitsSigned w128 k = search rules in
    let r : FitsSigned w128 c.plus_scaled-self.result = search rules in
    let s : to_z w64 (of_z w64 z) ≡ z = to_z-of_z w64 z c.ranges.c in
    let all = summed_all c.loop-i.i (to_z w64 (of_z w64 z)) c.args.self.now.coefficients c.loop-i.self.coefficients c.args.other.now.coefficients (search rules) c.loop-i.invariant.0 in
    record {
      coefficients = λ i. all i ∙ ap (λ y. slice_index_or c.args.self.now.coefficients i (pos 0) +ℤ y *ℤ slice_index_or c.args.other.now.coefficients i (pos 0)) s;
      constant = to_z-of_z w128 c.plus_scaled-self.result r ∙ c.plus_scaled-self.ensures ∙ ap₂ (λ x y. x +ℤ y) (to_z-of_z w128 k g ∙ c.loop-i.invariant.1) (product_seen z m c.ranges.c f);
    }
