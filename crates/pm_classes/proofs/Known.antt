-- Bounds of what is built.
use Rattle.std.proofs.Common.{ℕ, suc, ◌+◌, ◌*◌, ◌≡◌, ◌≤◌, ◌<◌, max, [], ◌∷◌, sym, subst, arith}
use Rattle.pm_logic.specs.declared.formula.Formula.{Formula}
use Rattle.pm_logic.specs.Size.{depth_of, nodes_of}
use Rattle.pm_rules.specs.declared.rules.Entail.{Entail}
use Rattle.pm_proof.specs.Trees.{Tree, entail, conclusion}
use Rattle.pm_proof.specs.Known.{Proves, Every}
use Rattle.pm_proof.proofs.Fills.{weaker}
use Rattle.pm_schemes.specs.Sketches.{deepest}
use Rattle.pm_classes.specs.Closing.{Closes, ClosesBoth}
use Rattle.pm_classes.specs.Entries.{HasProof}
use Rattle.pm_classes.proofs.Sizes.{has_nodes}

pub has : (k n d : ℕ) (f : Formula) (e : Entail) (t : Tree) → n ≤ 200 → d ≤ depth_of f + 8 → Proves Every e [] n d k t → HasProof k f e t
has k n d f e t hn hd p = weaker Every e [] n d k (200 * nodes_of f) (depth_of f + 8) (k + depth_of f) t (omega (arith, has_nodes f)) hd (omega arith) p

pub same_has : (k : ℕ) (f : Formula) (t : Tree) → Proves Every (entail k f f) [] 1 (deepest (f ∷ []) []) k t → HasProof k f (entail k f f) t
same_has k f t p = has k 1 (deepest (f ∷ []) []) f (entail k f f) t (omega arith) (omega arith) p

-- the inner proof proves what it concludes
pub own : (k n d : ℕ) (h : Entail) (x : Tree) → Proves Every h [] n d k x → Proves Every (conclusion x) [] n d k x
own k n d h x p = subst (λ (y : Entail). Proves Every y [] n d k x) (sym p.concludes) p

pub closed_has : (k n d w : ℕ) (f g : Formula) (e h : Entail) (x t : Tree) → Closes x e n d w t → HasProof k g h x → n ≤ 200 → d ≤ depth_of f + 8 → w ≤ k + depth_of f → nodes_of g < nodes_of f → depth_of g ≤ depth_of f → HasProof k f e t
closed_has k n d w f g e h x t c p hn hd hw less no_deeper =
    let q = weaker Every (conclusion x) [] (200 * nodes_of g) (depth_of g + 8) (k + depth_of g) (200 * nodes_of g) (depth_of f + 8) (k + depth_of f) x (omega arith) (omega (arith, no_deeper)) (omega (arith, no_deeper)) (own (k + depth_of g) (200 * nodes_of g) (depth_of g + 8) h x p) in
    weaker Every e [] (n + 200 * nodes_of g) (max (depth_of f + 8) d) (k + depth_of f) (200 * nodes_of f) (depth_of f + 8) (k + depth_of f) t (omega (arith, less, hn)) (omega (arith, hd)) (omega arith) (c (200 * nodes_of g) (depth_of f + 8) (k + depth_of f) hw q)

pub closed_both_has : (k n d w : ℕ) (f a b : Formula) (e h g : Entail) (x y t : Tree) → ClosesBoth x y e n d w t → HasProof k a h x → HasProof k b g y → n ≤ 200 → d ≤ depth_of f + 8 → w ≤ k + depth_of f → nodes_of f ≡ suc (nodes_of a + nodes_of b) → depth_of a ≤ depth_of f → depth_of b ≤ depth_of f → HasProof k f e t
closed_both_has k n d w f a b e h g x y t c p q hn hd hw nodes da db =
    let p1 = weaker Every (conclusion x) [] (200 * nodes_of a) (depth_of a + 8) (k + depth_of a) (200 * nodes_of a) (depth_of f + 8) (k + depth_of f) x (omega arith) (omega (arith, da)) (omega (arith, da)) (own (k + depth_of a) (200 * nodes_of a) (depth_of a + 8) h x p) in
    let q1 = weaker Every (conclusion y) [] (200 * nodes_of b) (depth_of b + 8) (k + depth_of b) (200 * nodes_of b) (depth_of f + 8) (k + depth_of f) y (omega arith) (omega (arith, db)) (omega (arith, db)) (own (k + depth_of b) (200 * nodes_of b) (depth_of b + 8) g y q) in
    weaker Every e [] (n + 200 * nodes_of a + 200 * nodes_of b) (max (depth_of f + 8) d) (k + depth_of f) (200 * nodes_of f) (depth_of f + 8) (k + depth_of f) t (omega (arith, nodes, hn)) (omega (arith, hd)) (omega arith) (c (200 * nodes_of a) (200 * nodes_of b) (depth_of f + 8) (k + depth_of f) hw p1 q1)
