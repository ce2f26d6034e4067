-- What is known of a scheme's proof with others at its gaps.
use Rattle.std.proofs.Common.{ℕ, ◌+◌, ◌≡◌, true, List, [], ◌∷◌, ◌++◌, map, subst, arith}
use Rattle.std.proofs.lemmas.List.{append-nil}
use Rattle.std.specs.List.{AllByRecursion}
use Rattle.pm_logic.specs.declared.formula.Preds.{Preds}
use Rattle.pm_rules.specs.declared.rules.Entail.{Entail}
use Rattle.pm_rules.specs.Shapes.{Letters, Sequent}
use Rattle.pm_proof.specs.Trees.{Tree, conclusion}
use Rattle.pm_proof.specs.Valid.{EntailScoped}
use Rattle.pm_proof.specs.Known.{Proves, Every, ScopedWhere, FillProves}
use Rattle.pm_proof.proofs.Fills.{weaker}
use Rattle.pm_schemes.specs.Sketches.{Sketch, claim, gaps, entail_of}
use Rattle.pm_schemes.specs.Tests.{sides_uses, uses_of_all}
use Rattle.pm_schemes.proofs.Scopes.{AreScoped, scoped_join, scoped_sides_uses, sides_uses_scoped, all_among_scoped}
use Rattle.pm_classes.specs.Closing.{is_stated}
use Rattle.pm_intro.specs.Closing.{Closes, ClosesBoth}

scoped_all : (preds : Preds) (k : ℕ) (s : Letters) (cs : List Sequent) → AreScoped preds k s (uses_of_all cs) → AllByRecursion (EntailScoped preds) (map (entail_of k s) cs)
scoped_all preds k s [] h = tt
scoped_all preds k s (c ∷ cs) h =
    let r = scoped_join preds k s (sides_uses c) (uses_of_all cs) h in
    (scoped_sides_uses preds k s c r.0, scoped_all preds k s cs r.1)

-- what the gaps say is scoped where what is derived is
gaps_scoped : (preds : Preds) (k : ℕ) (s : Letters) (x : Sketch) → is_stated x ≡ true → EntailScoped preds (entail_of k s (claim x)) → AllByRecursion (EntailScoped preds) (map (entail_of k s) (gaps x))
gaps_scoped preds k s x h e = scoped_all preds k s (gaps x) (all_among_scoped preds k s (uses_of_all (gaps x)) (sides_uses (claim x)) h (sides_uses_scoped preds k s (claim x) e))

-- a proof at the only hole
pub closed : (k n d : ℕ) (s : Letters) (x : Sketch) (step inner out : Tree) → is_stated x ≡ true → map (entail_of k s) (gaps x) ≡ conclusion inner ∷ [] → Proves Every (entail_of k s (claim x)) (map (entail_of k s) (gaps x)) n d k step → FillProves step 0 inner out → Closes inner (entail_of k s (claim x)) n d k out
closed k n d s x step inner out stated is p f hs m b j deep le q =
    let e : Entail = entail_of k s (claim x) in
    let wants : ScopedWhere e (hs ++ []) (conclusion inner) = λ preds h none. (subst (AllByRecursion (EntailScoped preds)) is (gaps_scoped preds k s x stated h)).0 in
    let p1 = weaker Every e (map (entail_of k s) (gaps x)) n d k n b j step (omega arith) deep le p in
    let p2 : Proves Every e (conclusion inner ∷ []) n b j step = subst (λ (l : List Entail). Proves Every e l n b j step) is p1 in
    subst (λ (l : List Entail). Proves Every e l (n + m) b j out) (append-nil hs) (f Every e (conclusion inner ∷ []) hs n m b j p2 q wants)

pub closed_both : (k n d : ℕ) (s : Letters) (x : Sketch) (step a b mid out : Tree) → is_stated x ≡ true → map (entail_of k s) (gaps x) ≡ conclusion a ∷ conclusion b ∷ [] → Proves Every (entail_of k s (claim x)) (map (entail_of k s) (gaps x)) n d k step → FillProves step 1 b mid → FillProves mid 0 a out → ClosesBoth a b (entail_of k s (claim x)) n d k out
closed_both k n d s x step a b mid out stated is p f g hs gs m r u j deep le q t =
    let e : Entail = entail_of k s (claim x) in
    let two : List Entail = conclusion a ∷ conclusion b ∷ [] in
    let p1 = weaker Every e (map (entail_of k s) (gaps x)) n d k n u j step (omega arith) deep le p in
    let p2 : Proves Every e two n u j step = subst (λ (l : List Entail). Proves Every e l n u j step) is p1 in
    let all = λ (preds : Preds) (h : EntailScoped preds e). subst (AllByRecursion (EntailScoped preds)) is (gaps_scoped preds k s x stated h) in
    let first : ScopedWhere e (hs ++ gs) (conclusion a) = λ preds h none. (all preds h).0 in
    let second : ScopedWhere e (conclusion a ∷ (gs ++ [])) (conclusion b) = λ preds h rest. (all preds h).1.0 in
    let y0 : Proves Every e (conclusion a ∷ (gs ++ [])) (n + r) u j mid = f Every e two gs n r u j p2 t second in
    let y : Proves Every e (conclusion a ∷ gs) (n + r) u j mid = subst (λ (l : List Entail). Proves Every e (conclusion a ∷ l) (n + r) u j mid) (append-nil gs) y0 in
    weaker Every e (hs ++ gs) (n + r + m) u j (n + m + r) u j out (omega arith) (omega arith) (omega arith) (g Every e (conclusion a ∷ gs) hs (n + r) m u j y q first)
