-- Framing of a formula in itself, and of a points-to in one of more units.
use Rattle.std.proofs.Common.{ℕ, ◌+◌, ◌-◌, ◌*◌, ◌≡◌, ◌≤◌, ◌<◌, ◌&&◌, max, Bool, true, false, [], ◌∷◌, Option, None, Some, refl, sym, ap, subst, ◌∙◌, arith, nat_lt}
use Rattle.std.specs.Bool.{then_some}
use Rattle.std.proofs.lemmas.Bool.Decides.{nat_tests}
use Rattle.pm_logic.specs.declared.formula.Term.{Term}
use Rattle.pm_logic.specs.declared.formula.Formula.{Formula}
use Rattle.pm_logic.specs.declared.formula.Formula.TheVariants.{Pts}
use Rattle.pm_logic.specs.declared.formula.Formula.TheViews as view
use Rattle.pm_logic.specs.declared.formula.Preds.{Preds}
use Rattle.pm_logic.specs.Abstraction.{term_eq}
use Rattle.pm_logic.specs.Size.{depth_of, nodes_of}
use Rattle.pm_logic.proofs.Equals.{term_eq_decides}
use Rattle.pm_logic.proofs.Sizes.{depth_pts}
use Rattle.pm_rules.specs.declared.rules.Rule.TheVariants.{PtsJoin}
use Rattle.pm_rules.specs.Rules.{RuleOk}
use Rattle.pm_rules.specs.Rows.{HasArguments, HasBracket}
use Rattle.pm_proof.specs.Trees.{Tree, Axiom, entail, side_depth}
use Rattle.pm_proof.specs.Valid.{ArgumentsFit}
use Rattle.pm_proof.specs.Known.{Every, Proves}
use Rattle.pm_proof.proofs.Fills.{weaker}
use Rattle.pm_schemes.specs.Sketches.{deepest}
use Rattle.pm_schemes.proofs.Leaves.{leaf}
use Rattle.pm_classes.proofs.Sizes.{depth_sep, has_nodes, has_levels}
use Rattle.pm_table.specs.Framing.{truth, fewer_units}
use Rattle.pm_frame.specs.declared.framed.Framed.{Framed}
use Rattle.pm_frame.specs.Frames.{FrameProof, FrameAnswers, IsFramed}
use Rattle.pm_frame.proofs.Parts.{frame_none, frame_done}

pub itself_done : (k : ℕ) (r : Formula) (t : Tree) → Proves Every (entail k (view.Sep r truth) r) [] 1 (deepest (r ∷ []) [] + 3) k t → FrameProof k r r truth t
itself_done k r t p = weaker Every (entail k (view.Sep r truth) r) [] 1 (deepest (r ∷ []) [] + 3) k (200 * nodes_of r) (max (depth_of r) (depth_of r) + 8) (k + depth_of r) t (omega (arith, has_nodes r)) (omega (arith, has_levels r)) (omega arith) p

-- l ↦{a} v ∗ l ↦{b-a} v
abbrev halves : Term → ℕ → ℕ → Term → Formula
halves l a b v = view.Sep (Pts l a v) (Pts l (b - a) v)

join_ok : (preds : Preds) (k : ℕ) (l : Term) (a b : ℕ) (v : Term) → a < b → RuleOk preds PtsJoin [] (entail k (halves l a b v) (Pts l b v))
unfolding HasArguments HasBracket
join_ok preds k l a b v less =
    let e : b ≡ a + (b - a) = omega (arith, less) in
    record { premises = refl; variables = tt; arguments = tt; shape = record { l = l; v = v; a = a; b = b - a; whole_is = ap (λ n. Pts l n v) e; parts_are = refl }; bracket = tt }

joined : (k : ℕ) (l : Term) (a b : ℕ) (v : Term) (t : Tree) → a < b → t ≡ Axiom PtsJoin (entail k (halves l a b v) (Pts l b v)) → Proves Every (entail k (halves l a b v) (Pts l b v)) [] 1 (side_depth (entail k (halves l a b v) (Pts l b v))) k t
unfolding ArgumentsFit
joined k l a b v t less is = leaf Every PtsJoin (entail k (halves l a b v) (Pts l b v)) t is (λ preds among. join_ok preds k l a b v less) (λ preds s. tt)

pub joined_done : (k : ℕ) (l : Term) (a b : ℕ) (v : Term) (f : Framed) → a < b → f.rest ≡ Pts l (b - a) v → f.proof ≡ Axiom PtsJoin (entail k (halves l a b v) (Pts l b v)) → IsFramed k (Pts l a v) (Pts l b v) (Pts l (b - a) v) f
joined_done k l a b v f less rest is = record {
  rest = rest;
  proof = weaker Every (entail k (halves l a b v) (Pts l b v)) [] 1 (side_depth (entail k (halves l a b v) (Pts l b v))) k (200 * nodes_of (Pts l b v)) (max (depth_of (Pts l a v)) (depth_of (Pts l b v)) + 8) (k + depth_of (Pts l b v)) f.proof (omega (arith, has_nodes (Pts l b v))) (omega (arith, depth_sep (Pts l a v) (Pts l (b - a) v), depth_pts l a v, depth_pts l b v, depth_pts l (b - a) v)) (omega arith) (joined k l a b v f.proof less is);
}

-- ---- the row

pub fewer_other : (k : ℕ) (r : Formula) (l : Term) (b : ℕ) (v : Term) → ((m : Term) (a : ℕ) (w : Term) → r ≡ Pts m a w → ⊥) → FrameAnswers k r (Pts l b v) (fewer_units r l b v) None
unfolding fewer_units
fewer_other k (Pts m a w) l b v isnt = absurd (isnt m a w refl)
fewer_other k _ l b v isnt = tt

row : (r : Formula) (m : Term) (a : ℕ) (w l : Term) (b : ℕ) (v : Term) (c : Bool) → r ≡ Pts m a w → c ≡ (term_eq m l && term_eq w v && nat_lt a b) → fewer_units r l b v ≡ then_some c (Pts l (b - a) v)
unfolding fewer_units
row r m a w l b v c is test = ap (λ x. fewer_units x l b v) is ∙ ap (λ x. then_some x (Pts l (b - a) v)) (sym test)

pub fewer_none : (k : ℕ) (r : Formula) (m : Term) (a : ℕ) (w l : Term) (b : ℕ) (v : Term) (c : Bool) → r ≡ Pts m a w → c ≡ (term_eq m l && term_eq w v && nat_lt a b) → c ≡ false → FrameAnswers k r (Pts l b v) (fewer_units r l b v) None
fewer_none k r m a w l b v c is test fails = frame_none k r (Pts l b v) (fewer_units r l b v) (row r m a w l b v c is test ∙ ap (λ x. then_some x (Pts l (b - a) v)) fails)

-- what the test says
pub record Passes (m : Term) (a : ℕ) (w l : Term) (b : ℕ) (v : Term) : Type 0 where
  pub location : m ≡ l
  pub value : w ≡ v
  pub less : a < b

three_true : (x y z : Bool) → (x && y && z) ≡ true → (x ≡ true) × ((y ≡ true) × (z ≡ true))
three_true true true z e = (refl, (refl, e))
three_true true false z e = absurd cc
three_true false y z e = absurd cc

pub passes : (m : Term) (a : ℕ) (w l : Term) (b : ℕ) (v : Term) (c : Bool) → c ≡ (term_eq m l && term_eq w v && nat_lt a b) → c ≡ true → Passes m a w l b v
passes m a w l b v c test holds =
    let e = three_true (term_eq m l) (term_eq w v) (nat_lt a b) (sym test ∙ holds) in
    let lt : nat_lt a b ≡ true = e.1.1 in
    record { location = (term_eq_decides m l).0 e.0; value = (term_eq_decides w v).0 e.1.0; less = grind (arith, nat_tests, lt) }

pub fewer_done : (k : ℕ) (r : Formula) (m : Term) (a : ℕ) (w l : Term) (b : ℕ) (v : Term) (c : Bool) (f : Framed) → r ≡ Pts m a w → c ≡ (term_eq m l && term_eq w v && nat_lt a b) → c ≡ true → IsFramed k (Pts l a v) (Pts l b v) (Pts l (b - a) v) f → FrameAnswers k r (Pts l b v) (fewer_units r l b v) (Some f)
fewer_done k r m a w l b v c f is test holds framed =
    let p = passes m a w l b v c test holds in
    let e : Pts l a v ≡ r = ap (λ x. Pts x a v) (sym p.location) ∙ ap (λ x. Pts m a x) (sym p.value) ∙ sym is in
    let proof : FrameProof k r (Pts l b v) (Pts l (b - a) v) f.proof = subst (λ (x : Formula). FrameProof k x (Pts l b v) (Pts l (b - a) v) f.proof) e framed.proof in
    frame_done k r (Pts l b v) (Pts l (b - a) v) (fewer_units r l b v) f (row r m a w l b v c is test ∙ ap (λ x. then_some x (Pts l (b - a) v)) holds) framed.rest proof
