-- What is known of a scheme's proof with two others at its gaps, where these are scoped though the scheme doesn't say so.
use Rattle.std.proofs.Common.{ℕ, ◌+◌, ◌≡◌, max, List, [], ◌∷◌, map, subst, arith}
use Rattle.std.specs.List.{AllByRecursion}
use Rattle.pm_logic.specs.declared.formula.Preds.{Preds}
use Rattle.pm_rules.specs.declared.rules.Entail.{Entail}
use Rattle.pm_proof.specs.Trees.{Tree, conclusion}
use Rattle.pm_proof.specs.Valid.{EntailScoped}
use Rattle.pm_proof.specs.Known.{Proves, Every, ScopedWhere, FillProves}
use Rattle.pm_proof.proofs.Fills.{weaker}
use Rattle.pm_classes.specs.Closing.{ClosesBoth}

pub closed_where : (k n d : ℕ) (e : Entail) (hs : List Entail) (step a b mid out : Tree) → ((preds : Preds) → EntailScoped preds e → AllByRecursion (EntailScoped preds) (conclusion a ∷ conclusion b ∷ [])) → hs ≡ conclusion a ∷ conclusion b ∷ [] → Proves Every e hs n d k step → FillProves step 1 b mid → FillProves mid 0 a out → ClosesBoth a b e n d k out
closed_where k n d e hs step a b mid out all is p f g = λ m r u j le q t.
    let two : List Entail = conclusion a ∷ conclusion b ∷ [] in
    let p1 = weaker Every e hs n d k n (max u d) j step (omega arith) (omega arith) le p in
    let p2 : Proves Every e two n (max u d) j step = subst (λ (l : List Entail). Proves Every e l n (max u d) j step) is p1 in
    let q1 = weaker Every (conclusion a) [] m u j m (max u d) j a (omega arith) (omega arith) (omega arith) q in
    let t1 = weaker Every (conclusion b) [] r u j r (max u d) j b (omega arith) (omega arith) (omega arith) t in
    let first : ScopedWhere e [] (conclusion a) = λ preds h none. (all preds h).0 in
    let second : ScopedWhere e (conclusion a ∷ []) (conclusion b) = λ preds h rest. (all preds h).1.0 in
    let y : Proves Every e (conclusion a ∷ []) (n + r) (max u d) j mid = f Every e two [] n r (max u d) j p2 t1 second in
    weaker Every e [] (n + r + m) (max u d) j (n + m + r) (max u d) j out (omega arith) (omega arith) (omega arith) (g Every e (conclusion a ∷ []) [] (n + r) m (max u d) j y q1 first)
