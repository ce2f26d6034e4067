-- One proof after another.
use Rattle.std.proofs.Common.{◌≡◌, ℕ, ◌≤◌, [], ◌∷◌, ◌++◌, slice_index_or, refl, sym, ap, subst, ◌∙◌, arith}
use Rattle.std.proofs.lemmas.List.{append-nil}
use Rattle.pm_logic.specs.declared.formula.Formula.{Formula}
use Rattle.pm_logic.specs.declared.formula.Pure.TheVariants.{True as Truth}
use Rattle.pm_logic.specs.declared.formula.Preds.{Preds}
use Rattle.pm_logic.specs.Scope.{Scoped}
use Rattle.pm_rules.specs.declared.rules.Entail.{Entail}
use Rattle.pm_rules.specs.declared.rules.Rule.TheVariants.{Trans}
use Rattle.pm_rules.specs.Shapes.{Letters}
use Rattle.pm_rules.specs.Rules.{RuleOk}
use Rattle.pm_rules.specs.Rows.{HasArguments, HasBracket}
use Rattle.pm_proof.specs.Trees.{Tree, Hole, Axiom, First, Second, Both, entail, conclusion, holes_of, side_depth, depth, variables}
use Rattle.pm_proof.specs.Valid.{ArgumentsFit, EntailScoped}
use Rattle.pm_proof.proofs.Scoping.{scoped_root}
use Rattle.pm_proof.proofs.Fills.{all_parts}
use Rattle.pm_star.specs.Levels.{left_side, right_side}
use Rattle.pm_star.specs.Chains.{across, Follows, ChainProves, ChainExtends, ChainContinues}

-- P, Q and R
letters : Formula → Formula → Formula → Letters
letters p q r = record { formula = λ i. slice_index_or (p ∷ q ∷ r ∷ []) i p; pure = λ i. Truth }

trans_ok : (preds : Preds) (x y : Entail) → y.vars ≡ x.vars → y.left ≡ x.right → RuleOk preds Trans (x ∷ y ∷ []) (entail x.vars x.left y.right)
unfolding HasArguments HasBracket letters
trans_ok preds x y same meet = record {
  premises = refl;
  variables = (omega arith, (omega (arith, same), tt));
  arguments = tt;
  shape = record {
    letters = letters x.left y.right x.right;
    premises = (record { left_is = refl; right_is = refl }, (record { left_is = meet; right_is = refl }, tt));
    conclusion = record { left_is = refl; right_is = refl };
  };
  bracket = tt;
}

root_deep : (t : Tree) → side_depth (conclusion t) ≤ depth t
root_deep (Hole e) = omega arith
root_deep (Axiom r e) = omega arith
root_deep (First r e a) = omega arith
root_deep (Second r e b) = omega arith
root_deep (Both r e a b) = omega arith

root_wide : (t : Tree) → (conclusion t).vars ≤ variables t
root_wide (Hole e) = omega arith
root_wide (Axiom r e) = omega arith
root_wide (First r e a) = omega arith
root_wide (Second r e b) = omega arith
root_wide (Both r e a b) = omega arith

both_follow : (a b : Tree) → (conclusion b).vars ≡ (conclusion a).vars → left_side b ≡ right_side a → Follows a b (Both Trans (across a b) a b)
unfolding ArgumentsFit
both_follow a b same meet = record {
  concludes = refl;
  holes = refl;
  valid = λ preds v w. (trans_ok preds (conclusion a) (conclusion b) same meet, v, w);
  scoped = λ preds v w. ((((scoped_root preds a v).0, subst (λ (j : ℕ). Scoped preds j (right_side b)) same (scoped_root preds b w).1), tt), v, w);
  size = refl;
  shallow = omega (arith, root_deep a, root_deep b);
  narrow = omega (arith, root_wide a);
}

-- as the code has it
pub follows : (a b t : Tree) (x y : Entail) (l r : Formula) → x ≡ conclusion a → y ≡ conclusion b → l ≡ x.left → r ≡ y.right → t ≡ Both Trans (entail x.vars l r) a b → (conclusion b).vars ≡ (conclusion a).vars → left_side b ≡ right_side a → Follows a b t
follows a b t x y l r xis yis lis ris is same meet =
    let e : entail x.vars l r ≡ across a b = ap (λ z. entail x.vars z r) lis ∙ ap (entail x.vars x.left) ris ∙ ap (λ (z : Entail). entail z.vars z.left y.right) xis ∙ ap (λ (z : Entail). entail (conclusion a).vars (left_side a) z.right) yis in
    subst (Follows a b) (ap (λ (z : Entail). Both Trans z a b) (sym e) ∙ sym is) (both_follow a b same meet)

-- the second is scoped where the first is
second_scoped : (preds : Preds) (a b : Tree) → (conclusion b).vars ≡ (conclusion a).vars → left_side b ≡ right_side a → EntailScoped preds (across a b) → EntailScoped preds (conclusion a) → EntailScoped preds (conclusion b)
second_scoped preds a b same meet e s =
    (subst (λ (j : ℕ). Scoped preds j (left_side b)) (sym same) (subst (Scoped preds (conclusion a).vars) (sym meet) s.1), subst (λ (j : ℕ). Scoped preds j (right_side b)) (sym same) e.1)

-- and the first where the second is
first_scoped : (preds : Preds) (a b : Tree) → (conclusion b).vars ≡ (conclusion a).vars → left_side b ≡ right_side a → EntailScoped preds (across a b) → EntailScoped preds (conclusion b) → EntailScoped preds (conclusion a)
first_scoped preds a b same meet e s = (e.0, subst (Scoped preds (conclusion a).vars) meet (subst (λ (j : ℕ). Scoped preds j (left_side b)) same s.0))

pub chain_proves : (a b t : Tree) → (conclusion b).vars ≡ (conclusion a).vars → left_side b ≡ right_side a → Follows a b t → ChainProves a b t
chain_proves a b t same meet f on hs gs n m d k p q wants = record {
  concludes = f.concludes;
  holes = f.holes ∙ ap (λ l. l ++ holes_of b) p.holes ∙ ap (λ l. hs ++ l) q.holes;
  valid = λ preds among. f.valid preds (p.valid preds among) (q.valid preds among);
  scoped = λ preds e all.
      let s = all_parts (EntailScoped preds) hs gs all in
      let c = wants preds e all in
      f.scoped preds (p.scoped preds c s.0) (q.scoped preds (second_scoped preds a b same meet e c) s.1);
  size = omega (arith, f.size, p.size, q.size);
  shallow = omega (arith, f.shallow, p.shallow, q.shallow);
  narrow = omega (arith, f.narrow, p.narrow, q.narrow);
}

pub chain_extends : (a b t : Tree) → (conclusion b).vars ≡ (conclusion a).vars → left_side b ≡ right_side a → Follows a b t → ChainExtends a b t
chain_extends a b t same meet f n d k p = record {
  concludes = f.concludes;
  holes = f.holes ∙ ap (λ l. l ++ holes_of b) p.holes;
  valid = λ preds v. f.valid preds (p.valid preds tt) v;
  scoped = λ preds e v. f.scoped preds (p.scoped preds (first_scoped preds a b same meet e (scoped_root preds b v)) tt) v;
  size = omega (arith, f.size, p.size);
  shallow = omega (arith, f.shallow, p.shallow);
  narrow = omega (arith, f.narrow, p.narrow);
}

pub chain_continues : (a b t : Tree) → (conclusion b).vars ≡ (conclusion a).vars → left_side b ≡ right_side a → Follows a b t → ChainContinues a b t
chain_continues a b t same meet f n d k q = record {
  concludes = f.concludes;
  holes = f.holes ∙ ap (λ l. holes_of a ++ l) q.holes ∙ append-nil (holes_of a);
  valid = λ preds v. f.valid preds v (q.valid preds tt);
  scoped = λ preds e v. f.scoped preds v (q.scoped preds (second_scoped preds a b same meet e (scoped_root preds a v)) tt);
  size = omega (arith, f.size, q.size);
  shallow = omega (arith, f.shallow, q.shallow);
  narrow = omega (arith, f.narrow, q.narrow);
}
