-- Universal quantifiers under signs.
use Rattle.std.proofs.Common.{ℕ, suc, ◌+◌, ◌≡◌, ◌<◌, max, [], ◌∷◌, Option, None, Some, refl, sym, subst, arith}
use Rattle.std.specs.Prelude.{option_map}
use Rattle.pm_logic.specs.declared.formula.Formula.{Formula}
use Rattle.pm_logic.specs.declared.formula.Formula.TheViews as view
use Rattle.pm_logic.specs.Trees.{All, Later, Pers}
use Rattle.pm_logic.specs.Scope.{ScopedIn}
use Rattle.pm_logic.specs.Size.{depth_of}
use Rattle.pm_rules.specs.declared.rules.Entail.{Entail}
use Rattle.pm_proof.specs.Trees.{Tree, conclusion}
use Rattle.pm_proof.specs.Known.{Proves, Every}
use Rattle.pm_proof.proofs.Fills.{weaker}
use Rattle.pm_schemes.specs.Sketches.{deepest}
use Rattle.pm_classes.specs.declared.entry.One.{One}
use Rattle.pm_classes.specs.Classes.{into_forall}
use Rattle.pm_classes.specs.Closing.{Closes, ClosesBoth}
use Rattle.pm_classes.specs.Entries.{IsHanded, OneAnswers, ForallAnswer, forall_says}
use Rattle.pm_classes.proofs.Sizes.{depth_later, depth_pers}
use Rattle.pm_classes.proofs.Bound.{later_in, pers_in}
use Rattle.pm_classes.proofs.Known.{own}

-- the body is scoped in one variable more, and has fewer levels
abbrev IsBody : ℕ → Formula → Option Formula → Type 0
IsBody k f None = Unit {0}
IsBody k f (Some g) = ScopedIn (suc k) g × (depth_of g < depth_of f)

later_body : (k : ℕ) (a : Formula) (o : Option Formula) → IsBody k a o → IsBody k (Later a) (option_map view.Later o)
unfolding depth_of
later_body k a None s = tt
later_body k a (Some g) s = (later_in (suc k) g s.0, omega (arith, s.1, depth_later g))

pers_body : (k : ℕ) (a : Formula) (o : Option Formula) → IsBody k a o → IsBody k (Pers a) (option_map view.Pers o)
unfolding depth_of
pers_body k a None s = tt
pers_body k a (Some g) s = (pers_in (suc k) g s.0, omega (arith, s.1, depth_pers g))

body_of : (k : ℕ) (f : Formula) → ScopedIn k f → IsBody k f (into_forall f)
unfolding into_forall ScopedIn depth_of
body_of k (All a) s = (s, omega arith)
body_of k (Later a) s = later_body k a (into_forall a) (body_of k a s)
body_of k (Pers a) s = pers_body k a (into_forall a) (body_of k a s)
body_of k _ s = tt

pub body_handed : (k : ℕ) (a : Formula) (entry : One) → IsHanded k a → ForallAnswer k a (Some entry) → IsHanded (k + 1) entry.formula
body_handed k a entry h answer = go (into_forall a) refl answer
  where
    go : (o : Option Formula) → into_forall a ≡ o → OneAnswers (forall_says k a) k a o (Some entry) → IsHanded (k + 1) entry.formula
    go None is r = absurd r
    go (Some g) is r =
        let s : IsBody k a (Some g) = subst (IsBody k a) is (body_of k a h.scoped) in
        let made : IsHanded (k + 1) g = record { scoped = let e : suc k ≡ k + 1 = omega arith in subst (λ (n : ℕ). ScopedIn n g) e s.0; within = omega (arith, s.1, h.within) } in
        subst (IsHanded (k + 1)) (sym r.formula) made

pub forall_step : (k : ℕ) (a g : Formula) (e h : Entail) (x y t : Tree) → ClosesBoth x y e 2 (deepest (a ∷ g ∷ []) [] + 2) k t → Proves Every h [] 3 (depth_of g + 4) (k + 1) y → Closes x e 5 (deepest (a ∷ g ∷ []) [] + 4) (k + 1) t
forall_step k a g e h x y t c p = λ m b j le q.
    let d : ℕ = max b (depth_of g + 4) in
    let q1 = weaker Every (conclusion x) [] m b j m d j x (omega arith) (omega arith) (omega arith) q in
    let p1 = weaker Every (conclusion y) [] 3 (depth_of g + 4) (k + 1) 3 d j y (omega arith) (omega arith) le (own (k + 1) 3 (depth_of g + 4) h y p) in
    weaker Every e [] (2 + m + 3) (max d (deepest (a ∷ g ∷ []) [] + 2)) j (5 + m) (max b (deepest (a ∷ g ∷ []) [] + 4)) j t (omega arith) (omega arith) (omega arith) (c m 3 d j (omega (arith, le)) q1 p1)
