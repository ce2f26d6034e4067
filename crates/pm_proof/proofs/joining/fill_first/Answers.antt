use Rattle.std.proofs.Common.{arith, ◌≡◌, ◌++◌, [], ◌∷◌, length, map, ap, sym, ◌∙◌}
use Rattle.pm_proof.specs.Trees.{conclusion, holes_of}
use Rattle.pm_proof.specs.Joins.{filled_from}
use Rattle.pm_proof.proofs.Joins.{last_filled}
use Rattle.pm_proof.proofs.joining.fill_first.Goals as goal

pub loop-last-preserved : goal.loop-last-preserved
loop-last-preserved c =
    let t = c.loop-last.proof in
    let rest = c.pop.new.self.items in
    let x = c.in-Some.last in
    let others = c.loop-last.invariant.first.0 in
    let items : c.loop-last.inner.items ≡ rest ++ x ∷ [] = c.in-Some.ensures.items in
    let place : c.len.result ≡ length rest = omega (arith, c.pop.new.self.ok.0, c.len.ensures) in
    let holes : holes_of t ≡ map conclusion (rest ++ x ∷ []) ++ others = c.loop-last.invariant.first.1 ∙ ap (λ l. map conclusion l ++ others) items in
    let k = last_filled t c.len.result rest x others place holes in
    record {
      first = (holes_of x ++ others, ap holes_of c.fill-proof.ensures.tree ∙ k.holes);
      tree = ap (λ u. filled_from u 0 rest) c.fill-proof.ensures.tree ∙ k.tree ∙ ap (filled_from t 0) (sym items) ∙ c.loop-last.invariant.tree;
    }
