-- What is known of a scheme's proof with others at its gaps.
use Rattle.std.proofs.Common.{ℕ, ◌+◌, ◌≡◌, max, true, List, [], ◌∷◌, map, refl, ap, subst, ◌∙◌, arith, Some, slice_get}
use Rattle.std.specs.List.{AllByRecursion}
use Rattle.pm_logic.specs.declared.formula.Preds.{Preds}
use Rattle.pm_rules.specs.declared.rules.Entail.{Entail}
use Rattle.pm_rules.specs.Shapes.{Letters, Sequent}
use Rattle.pm_proof.specs.Trees.{Tree, conclusion, holes_of, filled, splice}
use Rattle.pm_proof.specs.Valid.{EntailScoped}
use Rattle.pm_proof.specs.Known.{Proves, Every, ScopedWhere, FillProves}
use Rattle.pm_proof.proofs.Fills.{fills, weaker}
use Rattle.pm_schemes.specs.Sketches.{Sketch, claim, gaps, entail_of}
use Rattle.pm_schemes.specs.Tests.{sides_uses, uses_of_all}
use Rattle.pm_schemes.proofs.Scopes.{AreScoped, scoped_join, scoped_sides_uses, sides_uses_scoped, all_among_scoped}
use Rattle.pm_classes.specs.Closing.{is_stated, Closes, ClosesBoth}

scoped_all : (preds : Preds) (k : ℕ) (s : Letters) (cs : List Sequent) → AreScoped preds k s (uses_of_all cs) → AllByRecursion (EntailScoped preds) (map (entail_of k s) cs)
scoped_all preds k s [] h = tt
scoped_all preds k s (c ∷ cs) h =
    let r = scoped_join preds k s (sides_uses c) (uses_of_all cs) h in
    (scoped_sides_uses preds k s c r.0, scoped_all preds k s cs r.1)

-- what the gaps say is scoped where what is derived is
gaps_scoped : (preds : Preds) (k : ℕ) (s : Letters) (x : Sketch) → is_stated x ≡ true → EntailScoped preds (entail_of k s (claim x)) → AllByRecursion (EntailScoped preds) (map (entail_of k s) (gaps x))
gaps_scoped preds k s x h e = scoped_all preds k s (gaps x) (all_among_scoped preds k s (uses_of_all (gaps x)) (sides_uses (claim x)) h (sides_uses_scoped preds k s (claim x) e))

-- the first of the holes
pub hole_is : (e c : Entail) (cs hs : List Entail) (n d k : ℕ) (step : Tree) → Proves Every e hs n d k step → hs ≡ c ∷ cs → slice_get (holes_of step) 0 ≡ Some c
hole_is e c cs hs n d k step p is = rw (p.holes, is) refl

-- a proof at the only hole
pub closes_where : (k n d : ℕ) (e c : Entail) (hs : List Entail) (step inner out : Tree) → hs ≡ conclusion inner ∷ [] → ScopedWhere e [] (conclusion inner) → Proves Every e hs n d k step → FillProves step 0 inner out → Closes inner e n d k out
closes_where k n d e c hs step inner out is wants p f = λ m b j le q.
    let p1 = weaker Every e hs n d k n (max b d) j step (omega arith) (omega arith) le p in
    let p2 : Proves Every e (conclusion inner ∷ []) n (max b d) j step = subst (λ (l : List Entail). Proves Every e l n (max b d) j step) is p1 in
    let q1 = weaker Every (conclusion inner) [] m b j m (max b d) j inner (omega arith) (omega arith) (omega arith) q in
    f Every e (conclusion inner ∷ []) [] n m (max b d) j p2 q1 wants

pub closed : (k n d : ℕ) (s : Letters) (x : Sketch) (step inner out : Tree) → is_stated x ≡ true → map (entail_of k s) (gaps x) ≡ conclusion inner ∷ [] → Proves Every (entail_of k s (claim x)) (map (entail_of k s) (gaps x)) n d k step → FillProves step 0 inner out → Closes inner (entail_of k s (claim x)) n d k out
closed k n d s x step inner out stated is p f =
    let wants : ScopedWhere (entail_of k s (claim x)) [] (conclusion inner) = λ preds e none. (subst (AllByRecursion (EntailScoped preds)) is (gaps_scoped preds k s x stated e)).0 in
    closes_where k n d (entail_of k s (claim x)) (conclusion inner) (map (entail_of k s) (gaps x)) step inner out is wants p f

-- the second of the holes, and the first once that is filled
pub second_hole : (e c g : Entail) (hs : List Entail) (n d k : ℕ) (step : Tree) → Proves Every e hs n d k step → hs ≡ c ∷ g ∷ [] → slice_get (holes_of step) 1 ≡ Some g
second_hole e c g hs n d k step p is = rw (p.holes, is) refl

pub first_left : (e c g : Entail) (hs : List Entail) (n d k : ℕ) (step b mid : Tree) → Proves Every e hs n d k step → hs ≡ c ∷ g ∷ [] → g ≡ conclusion b → mid ≡ filled step 1 b → slice_get (holes_of mid) 0 ≡ Some c
first_left e c g hs n d k step b mid p is at made =
    let get : slice_get (holes_of step) 1 ≡ Some (conclusion b) = second_hole e c g hs n d k step p is ∙ ap Some at in
    let left : holes_of mid ≡ splice (c ∷ g ∷ []) 1 (holes_of b) = ap holes_of made ∙ (fills step 1 b get).holes ∙ ap (λ l. splice l 1 (holes_of b)) (p.holes ∙ is) in
    rw left refl

pub closed_both : (k n d : ℕ) (s : Letters) (x : Sketch) (step a b mid out : Tree) → is_stated x ≡ true → map (entail_of k s) (gaps x) ≡ conclusion a ∷ conclusion b ∷ [] → Proves Every (entail_of k s (claim x)) (map (entail_of k s) (gaps x)) n d k step → FillProves step 1 b mid → FillProves mid 0 a out → ClosesBoth a b (entail_of k s (claim x)) n d k out
closed_both k n d s x step a b mid out stated is p f g = λ m r u j le q t.
    let e : Entail = entail_of k s (claim x) in
    let hs : List Entail = map (entail_of k s) (gaps x) in
    let two : List Entail = conclusion a ∷ conclusion b ∷ [] in
    let p1 = weaker Every e hs n d k n (max u d) j step (omega arith) (omega arith) le p in
    let p2 : Proves Every e two n (max u d) j step = subst (λ (l : List Entail). Proves Every e l n (max u d) j step) is p1 in
    let q1 = weaker Every (conclusion a) [] m u j m (max u d) j a (omega arith) (omega arith) (omega arith) q in
    let t1 = weaker Every (conclusion b) [] r u j r (max u d) j b (omega arith) (omega arith) (omega arith) t in
    let all = λ (preds : Preds) (h : EntailScoped preds e). subst (AllByRecursion (EntailScoped preds)) is (gaps_scoped preds k s x stated h) in
    let first : ScopedWhere e [] (conclusion a) = λ preds h none. (all preds h).0 in
    let second : ScopedWhere e (conclusion a ∷ []) (conclusion b) = λ preds h rest. (all preds h).1.0 in
    let y : Proves Every e (conclusion a ∷ []) (n + r) (max u d) j mid = f Every e two [] n r (max u d) j p2 t1 second in
    weaker Every e [] (n + r + m) (max u d) j (n + m + r) (max u d) j out (omega arith) (omega arith) (omega arith) (g Every e (conclusion a ∷ []) [] (n + r) m (max u d) j y q1 first)
