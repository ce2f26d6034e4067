use Rattle.std.proofs.Common.{◌≡◌, ◌+◌, ◌-◌, ℕ, List, drop, ◌∙◌, ap, arith, cond, Some}
use Rattle.std.specs.HashMap.{get_by}
use Rattle.std.specs.Str.{bytes_eq}
use Rattle.std.specs.List.{position_from}
use Rattle.pm_name_sets.proofs.Places.{in_front}
use Rattle.pm_name_sets.proofs.index.places_of.Goals as goal

pub loop-i-preserved : goal.loop-i-preserved
loop-i-preserved c =
    let i : ℕ = c.loop-i.i - 1 in
    let up : c.loop-i.i ≡ i + 1 = omega arith in
    record {
      within = omega arith;
      found = λ name.
          in_front c.args.names.now i c.index-names-i.result name _ _ (omega arith)
          (c.loop-i.invariant.found name ∙ ap (λ n. position_from (bytes_eq name) n (drop n c.args.names.now)) up)
          (c.in_ok-insert.ensures.updates.0 (record c.bytes.result { now = name })
          ∙ ap (λ (n : List ℕ). cond (bytes_eq n name) (Some i) (get_by (λ key. bytes_eq name key.now) c.loop-i.places)) (c.bytes.ensures ∙ c.index-names-i.is));
    }
