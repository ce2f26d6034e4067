-- A proof with three holes, of which each is filled.
use Rattle.std.proofs.Common.{◌≡◌, ℕ, ◌+◌, List, [], ◌∷◌, ◌++◌, sym, ◌∙◌, ap, subst, Some, slice_get}
use Rattle.std.specs.List.{AllByRecursion}
use Rattle.std.proofs.lemmas.List.{append-nil}
use Rattle.pm_logic.specs.declared.formula.Preds.{Preds}
use Rattle.pm_rules.specs.declared.rules.Entail.{Entail}
use Rattle.pm_proof.specs.Trees.{Tree, conclusion, holes_of}
use Rattle.pm_proof.specs.Valid.{EntailScoped}
use Rattle.pm_proof.specs.Known.{Proves, Every, ScopedWhere, FillProves}

-- what is proved is what its conclusion says
pub says : (e : Entail) (hs : List Entail) (n d k : ℕ) (t : Tree) → Proves Every e hs n d k t → Proves Every (conclusion t) hs n d k t
says e hs n d k t p = subst (λ x. Proves Every x hs n d k t) (sym p.concludes) p

-- the last hole is filled with a proof of the holes gs, the others with proofs that have none
module _ (e h0 h1 h2 : Entail) (gs : List Entail) (n n0 n1 n2 d k : ℕ) (s t0 t1 t2 p1 p2 p3 : Tree)
    (known : Proves Every e (h0 ∷ h1 ∷ h2 ∷ []) n d k s) (first : Proves Every h0 [] n0 d k t0) (second : Proves Every h1 [] n1 d k t1) (third : Proves Every h2 gs n2 d k t2)
    (scope0 : ScopedWhere e gs h0) (scope1 : ScopedWhere e gs h1) (scope2 : ScopedWhere e gs h2) where
  abbrev behind : List Entail
  behind = gs ++ []

  given : (preds : Preds) → AllByRecursion (EntailScoped preds) behind → AllByRecursion (EntailScoped preds) gs
  given preds a = subst (AllByRecursion (EntailScoped preds)) (append-nil gs) a

  pub third_hole : slice_get (holes_of s) 2 ≡ Some (conclusion t2)
  third_hole = ap (λ es. slice_get es 2) known.holes ∙ ap Some (sym third.concludes)

  then : FillProves s 2 t2 p1 → Proves Every e (h0 ∷ h1 ∷ behind) (n + n2) d k p1
  then fill = fill Every e (h0 ∷ h1 ∷ h2 ∷ []) gs n n2 d k known (says h2 gs n2 d k t2 third) (λ preds x hs. subst (EntailScoped preds) (sym third.concludes) (scope2 preds x (given preds hs.1.1)))

  pub second_hole : FillProves s 2 t2 p1 → slice_get (holes_of p1) 1 ≡ Some (conclusion t1)
  second_hole fill = ap (λ es. slice_get es 1) (then fill).holes ∙ ap Some (sym second.concludes)

  then_again : FillProves s 2 t2 p1 → FillProves p1 1 t1 p2 → Proves Every e (h0 ∷ behind) (n + n2 + n1) d k p2
  then_again fill more = more Every e (h0 ∷ h1 ∷ behind) [] (n + n2) n1 d k (then fill) (says h1 [] n1 d k t1 second) (λ preds x hs. subst (EntailScoped preds) (sym second.concludes) (scope1 preds x (given preds hs.1)))

  pub first_hole : FillProves s 2 t2 p1 → FillProves p1 1 t1 p2 → slice_get (holes_of p2) 0 ≡ Some (conclusion t0)
  first_hole fill more = ap (λ es. slice_get es 0) (then_again fill more).holes ∙ ap Some (sym first.concludes)

  pub all_filled : FillProves s 2 t2 p1 → FillProves p1 1 t1 p2 → FillProves p2 0 t0 p3 → Proves Every e gs (n + n2 + n1 + n0) d k p3
  all_filled fill more last =
      subst (λ es. Proves Every e es (n + n2 + n1 + n0) d k p3) (append-nil gs)
      (last Every e (h0 ∷ behind) [] (n + n2 + n1) n0 d k (then_again fill more) (says h0 [] n0 d k t0 first) (λ preds x hs. subst (EntailScoped preds) (sym first.concludes) (scope0 preds x (given preds hs))))
