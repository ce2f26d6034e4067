-- What is known of proofs that go under a binder.
use Rattle.std.proofs.Common.{ℕ, suc, ◌+◌, ◌-◌, ◌*◌, ◌≡◌, ◌≤◌, ◌<◌, max, [], ◌∷◌, inl, inr, refl, sym, ap, subst, ◌∙◌, arith, add-one, Some, slice_get}
use denote.Hole.Carrier as carrier
use Rattle.pm_logic.specs.declared.formula.Term.TheVariants.{Var}
use Rattle.pm_logic.specs.declared.formula.Formula.{Formula}
use Rattle.pm_logic.specs.declared.formula.Formula.TheViews as view
use Rattle.pm_logic.specs.declared.formula.Formula.TheBlock as block
use Rattle.pm_logic.specs.declared.formula.Preds.{Preds}
use Rattle.pm_logic.specs.Trees.{All, Ex}
use Rattle.pm_logic.specs.Bounds.{IsBounded}
use Rattle.pm_logic.specs.Scope.{ScopedIn, Scoped}
use Rattle.pm_logic.specs.Size.{depth_of, nodes_of}
use Rattle.pm_logic.specs.Substitution.{one_up, shift_of, opened_of}
use Rattle.pm_logic.proofs.Scopes.{scoped_in_quantified, quantified_scoped_in, modal_scoped_in, fit_quantified, var_scoped_from}
use Rattle.pm_logic.proofs.Sizes.{depth_var}
use Rattle.pm_logic.proofs.Kept.{in_formula_scoped, one_up_reaches, in_formula_fits}
use Rattle.pm_rules.specs.Shapes as shape
use Rattle.pm_rules.specs.declared.rules.Entail.{Entail}
use Rattle.pm_proof.specs.Trees.{Tree, entail, conclusion, holes_of, side_depth}
use Rattle.pm_proof.specs.Valid.{TermFits}
use Rattle.pm_proof.specs.Known.{Proves, Every, ScopedWhere, FillProves}
use Rattle.pm_proof.proofs.Fills.{weaker}
use Rattle.pm_schemes.specs.Sketches.{deepest}
use Rattle.pm_schemes.proofs.Depths.{instance_depth}
use Rattle.pm_classes.specs.Closing.{Closes, ClosesBoth}
use Rattle.pm_classes.specs.Entries.{HasProof, IsHanded}
use Rattle.pm_classes.proofs.Sizes.{has_levels, depth_all, depth_ex, depth_pers, nodes_all, nodes_ex}
use Rattle.pm_classes.proofs.Closed.{closes_where, hole_is}
use Rattle.pm_classes.proofs.Known.{own}
use Rattle.pm_classes.proofs.Undone.{shifted_body, body_opened, shift_all, shift_ex, shift_pers}

-- a shifted formula is no deeper
pub shift_deep : (f : Formula) → depth_of (shift_of f) ≤ max (depth_of f) 2
shift_deep f = omega (arith, instance_depth (f ∷ []) [] (shape.Shifted 0))

bound_part : Formula → Formula
bound_part (All a) = a
bound_part (Ex a) = a
bound_part f = f

pub all_same : (a b : Formula) → view.All a ≡ view.All b → a ≡ b
unfolding block.shape-the_row-Formula-0 block.hidden-the_row-Formula-0 carrier.hidden bound_part
all_same a b e = ap bound_part e

pub ex_same : (a b : Formula) → view.Ex a ≡ view.Ex b → a ≡ b
unfolding block.shape-the_row-Formula-0 block.hidden-the_row-Formula-0 carrier.hidden bound_part
ex_same a b e = ap bound_part e

-- ---- scope under binders

one_less : (k : ℕ) (b : Formula) → 0 < k → ScopedIn k b → ScopedIn (k - 1 + 1) b
one_less k b some s = let e : k ≡ k - 1 + 1 = omega (arith, some) in subst (λ (n : ℕ). ScopedIn n b) e s

all_in : (k : ℕ) (b : Formula) → 0 < k → ScopedIn k b → ScopedIn (k - 1) (view.All b)
all_in k b some s = quantified_scoped_in (k - 1) (view.All b) b (inl refl) (one_less k b some s)

ex_in : (k : ℕ) (b : Formula) → 0 < k → ScopedIn k b → ScopedIn (k - 1) (view.Ex b)
ex_in k b some s = quantified_scoped_in (k - 1) (view.Ex b) b (inr refl) (one_less k b some s)

pub all_bounded : (k : ℕ) (b : Formula) → 0 < k → IsHanded k b → IsBounded (view.All b)
all_bounded k b some h = record { vars = k - 1; scoped = all_in k b some h.scoped; within = omega (arith, h.within, depth_all b, some) }

pub ex_bounded : (k : ℕ) (b : Formula) → 0 < k → IsHanded k b → IsBounded (view.Ex b)
ex_bounded k b some h = record { vars = k - 1; scoped = ex_in k b some h.scoped; within = omega (arith, h.within, depth_ex b, some) }

pub shifted_in : (k : ℕ) (f : Formula) → ScopedIn k f → ScopedIn (suc k) (shift_of f)
shifted_in k f s = in_formula_scoped k (suc k) one_up (one_up_reaches k) f s

body_in : (k : ℕ) (b : Formula) → 0 < k → ScopedIn k b → ScopedIn (k + 1) (shifted_body b)
body_in k b some s =
    let e : suc (k - 1) ≡ k = omega (arith, some) in
    let t : ScopedIn k (view.All (shifted_body b)) = subst (λ (z : Formula). ScopedIn k z) (shift_all b) (subst (λ (n : ℕ). ScopedIn n (shift_of (view.All b))) e (shifted_in (k - 1) (view.All b) (all_in k b some s))) in
    scoped_in_quantified k (view.All (shifted_body b)) (shifted_body b) (inl refl) t

body_deep : (b : Formula) → depth_of (shifted_body b) ≤ depth_of b
body_deep b = omega (arith, shift_deep (view.All b), ap depth_of (shift_all b), depth_all b, depth_all (shifted_body b), has_levels b)

body_bounded : (k : ℕ) (b : Formula) → 0 < k → IsHanded k b → IsBounded (shifted_body b)
body_bounded k b some h = record { vars = k + 1; scoped = body_in k b some h.scoped; within = omega (arith, h.within, body_deep b) }

pub all_body : (k : ℕ) (b body formula : Formula) → 0 < k → IsHanded k b → formula ≡ shift_of (view.All b) → formula ≡ view.All body → IsBounded body
all_body k b body formula some h made is = subst IsBounded (sym (all_same body (shifted_body b) (sym is ∙ made ∙ shift_all b))) (body_bounded k b some h)

pub ex_body : (k : ℕ) (b body formula : Formula) → 0 < k → IsHanded k b → formula ≡ shift_of (view.Ex b) → formula ≡ view.Ex body → IsBounded body
ex_body k b body formula some h made is = subst IsBounded (sym (ex_same body (shifted_body b) (sym is ∙ made ∙ shift_ex b))) (body_bounded k b some h)

pub var_fits : (k : ℕ) → 0 < k → TermFits k (Var 0)
var_fits k some = record { scoped = var_scoped_from k 0 some; levels = omega (arith, depth_var 0) }

-- ---- opened with the bound variable

pub all_opened : (k : ℕ) (b body formula : Formula) (t : Tree) → formula ≡ shift_of (view.All b) → formula ≡ view.All body → Proves Every (entail k (view.All body) (opened_of body (Var 0))) [] 1 (side_depth (entail k (view.All body) (opened_of body (Var 0)))) k t → Proves Every (entail k (shift_of (view.All b)) b) [] 1 (depth_of b + 1) k t
all_opened k b body formula t made is p =
    let same : body ≡ shifted_body b = all_same body (shifted_body b) (sym is ∙ made ∙ shift_all b) in
    let right : opened_of body (Var 0) ≡ b = ap (λ x. opened_of x (Var 0)) same ∙ body_opened b in
    let e : entail k (view.All body) (opened_of body (Var 0)) ≡ entail k (shift_of (view.All b)) b = ap (λ x. entail k x (opened_of body (Var 0))) (sym is ∙ made) ∙ ap (entail k (shift_of (view.All b))) right in
    let q : Proves Every (entail k (shift_of (view.All b)) b) [] 1 (side_depth (entail k (shift_of (view.All b)) b)) k t = subst (λ (x : Entail). Proves Every x [] 1 (side_depth x) k t) e p in
    weaker Every (entail k (shift_of (view.All b)) b) [] 1 (side_depth (entail k (shift_of (view.All b)) b)) k 1 (depth_of b + 1) k t (omega arith) (omega (arith, shift_deep (view.All b), depth_all b, has_levels b)) (omega arith) q

pub ex_opened : (k : ℕ) (b body formula : Formula) (t : Tree) → formula ≡ shift_of (view.Ex b) → formula ≡ view.Ex body → Proves Every (entail k (opened_of body (Var 0)) (view.Ex body)) [] 1 (side_depth (entail k (opened_of body (Var 0)) (view.Ex body))) k t → Proves Every (entail k b (shift_of (view.Ex b))) [] 1 (depth_of b + 1) k t
ex_opened k b body formula t made is p =
    let same : body ≡ shifted_body b = ex_same body (shifted_body b) (sym is ∙ made ∙ shift_ex b) in
    let left : opened_of body (Var 0) ≡ b = ap (λ x. opened_of x (Var 0)) same ∙ body_opened b in
    let e : entail k (opened_of body (Var 0)) (view.Ex body) ≡ entail k b (shift_of (view.Ex b)) = ap (λ x. entail k x (view.Ex body)) left ∙ ap (entail k b) (sym is ∙ made) in
    let q : Proves Every (entail k b (shift_of (view.Ex b))) [] 1 (side_depth (entail k b (shift_of (view.Ex b)))) k t = subst (λ (x : Entail). Proves Every x [] 1 (side_depth x) k t) e p in
    weaker Every (entail k b (shift_of (view.Ex b))) [] 1 (side_depth (entail k b (shift_of (view.Ex b)))) k 1 (depth_of b + 1) k t (omega arith) (omega (arith, shift_deep (view.Ex b), depth_ex b, has_levels b)) (omega arith) q

-- ---- the premise of a quantifier's rule is scoped where its conclusion is

shifted : (preds : Preds) (k : ℕ) (f : Formula) → Scoped preds k f → Scoped preds (k + 1) (shift_of f)
shifted preds k f s = record { indices = rw add-one (shifted_in k f s.indices); calls = in_formula_fits preds.list one_up f s.calls }

generalized_scoped : (k : ℕ) (p b : Formula) → ScopedWhere (entail k p (view.All b)) [] (entail (k + 1) (shift_of p) b)
generalized_scoped k p b = λ preds s none. (shifted preds k p s.0, record { indices = scoped_in_quantified k (view.All b) b (inl refl) s.1.indices; calls = fit_quantified preds.list (view.All b) b (inl refl) s.1.calls })

eliminated_scoped : (k : ℕ) (b q : Formula) → ScopedWhere (entail k (view.Ex b) q) [] (entail (k + 1) b (shift_of q))
eliminated_scoped k b q = λ preds s none. (record { indices = scoped_in_quantified k (view.Ex b) b (inr refl) s.0.indices; calls = fit_quantified preds.list (view.Ex b) b (inr refl) s.0.calls }, shifted preds k q s.1)

-- the entailment that is proved takes the place of the hole
filled_in : (k n d m b j : ℕ) (e h : Entail) (step inner out : Tree) → ScopedWhere e [] h → Proves Every e (h ∷ []) n d k step → Proves Every h [] m b j inner → k ≤ j → FillProves step 0 inner out → Proves Every e [] (n + m) (max b d) j out
filled_in k n d m b j e h step inner out wants p q le f =
    let at : h ∷ [] ≡ conclusion inner ∷ [] = ap (λ x. x ∷ []) (sym q.concludes) in
    let w : ScopedWhere e [] (conclusion inner) = subst (λ (x : Entail). ScopedWhere e [] x) (sym q.concludes) wants in
    closes_where k n d e h (h ∷ []) step inner out at w p f m b j le (own j m b h inner q)

-- ---- a sign moved inward

pub inward_under : (sign : Formula → Formula) (k : ℕ) (b o : Formula) (opened under : Tree) → ((x : Formula) → shift_of (sign x) ≡ sign (shift_of x)) → o ≡ shift_of (view.All b) → Proves Every (entail (k + 1) (shift_of (view.All b)) b) [] 1 (depth_of b + 1) (k + 1) opened → Closes opened (entail (k + 1) (sign o) (sign b)) 1 (deepest (o ∷ b ∷ []) [] + 1) (k + 1) under → Proves Every (entail (k + 1) (shift_of (sign (view.All b))) (sign b)) [] 2 (depth_of b + 3) (k + 1) under
inward_under sign k b o opened under row made p c =
    let e : entail (k + 1) (sign o) (sign b) ≡ entail (k + 1) (shift_of (sign (view.All b))) (sign b) = ap (λ x. entail (k + 1) x (sign b)) (ap sign made ∙ sym (row (view.All b))) in
    let q = c 1 (depth_of b + 1) (k + 1) (omega arith) (own (k + 1) 1 (depth_of b + 1) (entail (k + 1) (shift_of (view.All b)) b) opened p) in
    let deep : depth_of o ≡ depth_of (shift_of (view.All b)) = ap depth_of made in
    weaker Every (entail (k + 1) (shift_of (sign (view.All b))) (sign b)) [] 2 (max (depth_of b + 1) (deepest (o ∷ b ∷ []) [] + 1)) (k + 1) 2 (depth_of b + 3) (k + 1) under (omega arith) (omega (arith, deep, shift_deep (view.All b), depth_all b, has_levels b)) (omega arith) (subst (λ (x : Entail). Proves Every x [] 2 (max (depth_of b + 1) (deepest (o ∷ b ∷ []) [] + 1)) (k + 1) under) e q)

pub inward_bounded : (sign : Formula → Formula) (k : ℕ) (b : Formula) → ((x : Formula) → depth_of (sign x) ≡ suc (depth_of x)) → ((n : ℕ) (x : Formula) → ScopedIn n x → ScopedIn n (sign x)) → IsHanded (k + 1) b → IsBounded (sign (view.All b))
inward_bounded sign k b deep scoped h = record { vars = k; scoped = scoped k (view.All b) (quantified_scoped_in k (view.All b) b (inl refl) h.scoped); within = omega (arith, h.within, deep (view.All b), depth_all b) }

pub inward_done : (sign : Formula → Formula) (k : ℕ) (b : Formula) (outer under out : Tree) → ((x : Formula) → depth_of (sign x) ≡ suc (depth_of x)) → Proves Every (entail k (sign (view.All b)) (view.All (sign b))) (entail (k + 1) (shift_of (sign (view.All b))) (sign b) ∷ []) 1 (max (side_depth (entail k (sign (view.All b)) (view.All (sign b)))) (side_depth (entail (k + 1) (shift_of (sign (view.All b))) (sign b)))) (k + 1) outer → Proves Every (entail (k + 1) (shift_of (sign (view.All b))) (sign b)) [] 2 (depth_of b + 3) (k + 1) under → FillProves outer 0 under out → Proves Every (entail k (sign (view.All b)) (view.All (sign b))) [] 3 (depth_of b + 4) (k + 1) out
inward_done sign k b outer under out deep p q f =
    let e : Entail = entail k (sign (view.All b)) (view.All (sign b)) in
    let h : Entail = entail (k + 1) (shift_of (sign (view.All b))) (sign b) in
    let r = filled_in (k + 1) 1 (max (side_depth e) (side_depth h)) 2 (depth_of b + 3) (k + 1) e h outer under out (generalized_scoped k (sign (view.All b)) (sign b)) p q (omega arith) f in
    weaker Every e [] 3 (max (depth_of b + 3) (max (side_depth e) (side_depth h))) (k + 1) 3 (depth_of b + 4) (k + 1) out (omega arith) (omega (arith, deep (view.All b), deep b, depth_all b, depth_all (sign b), shift_deep (sign (view.All b)))) (omega arith) r

pub later_in : (n : ℕ) (x : Formula) → ScopedIn n x → ScopedIn n (view.Later x)
later_in n x s = modal_scoped_in n (view.Later x) x (inl refl) s

pub pers_in : (n : ℕ) (x : Formula) → ScopedIn n x → ScopedIn n (view.Pers x)
pers_in n x s = modal_scoped_in n (view.Pers x) x (inr (inl refl)) s

-- ---- quantifiers of what persists

pub through_known : (k : ℕ) (b o : Formula) (opened inner under : Tree) → o ≡ shift_of (view.All b) → Proves Every (entail (k + 1) (shift_of (view.All b)) b) [] 1 (depth_of b + 1) (k + 1) opened → HasProof (k + 1) b (entail (k + 1) b (view.Pers b)) inner → ClosesBoth opened inner (entail (k + 1) o (view.Pers b)) 1 (deepest (o ∷ b ∷ []) [] + 1) (k + 1) under → Proves Every (entail (k + 1) (shift_of (view.All b)) (view.Pers b)) [] (2 + 200 * nodes_of b) (depth_of b + 8) (k + 1 + depth_of b) under
through_known k b o opened inner under made p q c =
    let j : ℕ = k + 1 + depth_of b in
    let e : entail (k + 1) o (view.Pers b) ≡ entail (k + 1) (shift_of (view.All b)) (view.Pers b) = ap (λ x. entail (k + 1) x (view.Pers b)) made in
    let p1 = weaker Every (conclusion opened) [] 1 (depth_of b + 1) (k + 1) 1 (depth_of b + 8) j opened (omega arith) (omega arith) (omega arith) (own (k + 1) 1 (depth_of b + 1) (entail (k + 1) (shift_of (view.All b)) b) opened p) in
    let r = c 1 (200 * nodes_of b) (depth_of b + 8) j (omega arith) p1 (own j (200 * nodes_of b) (depth_of b + 8) (entail (k + 1) b (view.Pers b)) inner q) in
    let deep : depth_of o ≡ depth_of (shift_of (view.All b)) = ap depth_of made in
    weaker Every (entail (k + 1) (shift_of (view.All b)) (view.Pers b)) [] (1 + 1 + 200 * nodes_of b) (max (depth_of b + 8) (deepest (o ∷ b ∷ []) [] + 1)) j (2 + 200 * nodes_of b) (depth_of b + 8) j under (omega arith) (omega (arith, deep, shift_deep (view.All b), depth_all b, has_levels b)) (omega arith) (subst (λ (x : Entail). Proves Every x [] (1 + 1 + 200 * nodes_of b) (max (depth_of b + 8) (deepest (o ∷ b ∷ []) [] + 1)) j under) e r)

pub inside_known : (k : ℕ) (b : Formula) (outer under inside : Tree) → Proves Every (entail k (view.All b) (view.All (view.Pers b))) (entail (k + 1) (shift_of (view.All b)) (view.Pers b) ∷ []) 1 (max (side_depth (entail k (view.All b) (view.All (view.Pers b)))) (side_depth (entail (k + 1) (shift_of (view.All b)) (view.Pers b)))) (k + 1) outer → Proves Every (entail (k + 1) (shift_of (view.All b)) (view.Pers b)) [] (2 + 200 * nodes_of b) (depth_of b + 8) (k + 1 + depth_of b) under → FillProves outer 0 under inside → Proves Every (entail k (view.All b) (view.All (view.Pers b))) [] (3 + 200 * nodes_of b) (depth_of b + 8) (k + 1 + depth_of b) inside
inside_known k b outer under inside p q f =
    let j : ℕ = k + 1 + depth_of b in
    let e : Entail = entail k (view.All b) (view.All (view.Pers b)) in
    let h : Entail = entail (k + 1) (shift_of (view.All b)) (view.Pers b) in
    let d : ℕ = max (side_depth e) (side_depth h) in
    let r = filled_in (k + 1) 1 d (2 + 200 * nodes_of b) (depth_of b + 8) j e h outer under inside (generalized_scoped k (view.All b) (view.Pers b)) p q (omega arith) f in
    weaker Every e [] (1 + (2 + 200 * nodes_of b)) (max (depth_of b + 8) d) j (3 + 200 * nodes_of b) (depth_of b + 8) j inside (omega arith) (omega (arith, depth_all b, depth_pers b, depth_all (view.Pers b), shift_deep (view.All b))) (omega arith) r

pub boxed_all_done : (k : ℕ) (b : Formula) (inside out : Tree) → Proves Every (entail k (view.All b) (view.All (view.Pers b))) [] (3 + 200 * nodes_of b) (depth_of b + 8) (k + 1 + depth_of b) inside → Closes inside (entail k (view.All b) (view.Pers (view.All b))) 2 (deepest (b ∷ []) [] + 2) k out → HasProof k (view.All b) (entail k (view.All b) (view.Pers (view.All b))) out
boxed_all_done k b inside out p c =
    let j : ℕ = k + 1 + depth_of b in
    let e : Entail = entail k (view.All b) (view.Pers (view.All b)) in
    let r = c (3 + 200 * nodes_of b) (depth_of b + 8) j (omega arith) (own j (3 + 200 * nodes_of b) (depth_of b + 8) (entail k (view.All b) (view.All (view.Pers b))) inside p) in
    weaker Every e [] (2 + (3 + 200 * nodes_of b)) (max (depth_of b + 8) (deepest (b ∷ []) [] + 2)) j (200 * nodes_of (view.All b)) (depth_of (view.All b) + 8) (k + depth_of (view.All b)) out (omega (arith, nodes_all b)) (omega (arith, depth_all b, has_levels b)) (omega (arith, depth_all b)) r

pub onward_known : (k : ℕ) (b o : Formula) (opened inner under : Tree) → o ≡ shift_of (view.Ex b) → Proves Every (entail (k + 1) b (shift_of (view.Ex b))) [] 1 (depth_of b + 1) (k + 1) opened → HasProof (k + 1) b (entail (k + 1) b (view.Pers b)) inner → ClosesBoth inner opened (entail (k + 1) b (view.Pers o)) 2 (deepest (o ∷ b ∷ []) [] + 1) (k + 1) under → Proves Every (entail (k + 1) b (shift_of (view.Pers (view.Ex b)))) [] (3 + 200 * nodes_of b) (depth_of b + 8) (k + 1 + depth_of b) under
onward_known k b o opened inner under made p q c =
    let j : ℕ = k + 1 + depth_of b in
    let e : entail (k + 1) b (view.Pers o) ≡ entail (k + 1) b (shift_of (view.Pers (view.Ex b))) = ap (entail (k + 1) b) (ap view.Pers made ∙ sym (shift_pers (view.Ex b))) in
    let p1 = weaker Every (conclusion opened) [] 1 (depth_of b + 1) (k + 1) 1 (depth_of b + 8) j opened (omega arith) (omega arith) (omega arith) (own (k + 1) 1 (depth_of b + 1) (entail (k + 1) b (shift_of (view.Ex b))) opened p) in
    let r = c (200 * nodes_of b) 1 (depth_of b + 8) j (omega arith) (own j (200 * nodes_of b) (depth_of b + 8) (entail (k + 1) b (view.Pers b)) inner q) p1 in
    let deep : depth_of o ≡ depth_of (shift_of (view.Ex b)) = ap depth_of made in
    weaker Every (entail (k + 1) b (shift_of (view.Pers (view.Ex b)))) [] (2 + 200 * nodes_of b + 1) (max (depth_of b + 8) (deepest (o ∷ b ∷ []) [] + 1)) j (3 + 200 * nodes_of b) (depth_of b + 8) j under (omega arith) (omega (arith, deep, shift_deep (view.Ex b), depth_ex b, has_levels b)) (omega arith) (subst (λ (x : Entail). Proves Every x [] (2 + 200 * nodes_of b + 1) (max (depth_of b + 8) (deepest (o ∷ b ∷ []) [] + 1)) j under) e r)

pub boxed_ex_done : (k : ℕ) (b : Formula) (outer under out : Tree) → Proves Every (entail k (view.Ex b) (view.Pers (view.Ex b))) (entail (k + 1) b (shift_of (view.Pers (view.Ex b))) ∷ []) 1 (max (side_depth (entail k (view.Ex b) (view.Pers (view.Ex b)))) (side_depth (entail (k + 1) b (shift_of (view.Pers (view.Ex b)))))) (k + 1) outer → Proves Every (entail (k + 1) b (shift_of (view.Pers (view.Ex b)))) [] (3 + 200 * nodes_of b) (depth_of b + 8) (k + 1 + depth_of b) under → FillProves outer 0 under out → HasProof k (view.Ex b) (entail k (view.Ex b) (view.Pers (view.Ex b))) out
boxed_ex_done k b outer under out p q f =
    let j : ℕ = k + 1 + depth_of b in
    let e : Entail = entail k (view.Ex b) (view.Pers (view.Ex b)) in
    let h : Entail = entail (k + 1) b (shift_of (view.Pers (view.Ex b))) in
    let d : ℕ = max (side_depth e) (side_depth h) in
    let r = filled_in (k + 1) 1 d (3 + 200 * nodes_of b) (depth_of b + 8) j e h outer under out (eliminated_scoped k b (view.Pers (view.Ex b))) p q (omega arith) f in
    weaker Every e [] (1 + (3 + 200 * nodes_of b)) (max (depth_of b + 8) d) j (200 * nodes_of (view.Ex b)) (depth_of (view.Ex b) + 8) (k + depth_of (view.Ex b)) out (omega (arith, nodes_ex b)) (omega (arith, depth_ex b, depth_pers (view.Ex b), shift_deep (view.Pers (view.Ex b)), has_levels b)) (omega (arith, depth_ex b)) r

pub ex_boxed_bounded : (k : ℕ) (b : Formula) → IsHanded (k + 1) b → IsBounded (view.Pers (view.Ex b))
ex_boxed_bounded k b h = record { vars = k; scoped = pers_in k (view.Ex b) (quantified_scoped_in k (view.Ex b) b (inr refl) h.scoped); within = omega (arith, h.within, depth_pers (view.Ex b), depth_ex b) }

-- ---- the outer rule, and its hole

abbrev pub Inward : (Formula → Formula) → ℕ → Formula → Tree → Type 0
Inward sign k b t = Proves Every (entail k (sign (view.All b)) (view.All (sign b))) (entail (k + 1) (shift_of (sign (view.All b))) (sign b) ∷ []) 1 (max (side_depth (entail k (sign (view.All b)) (view.All (sign b)))) (side_depth (entail (k + 1) (shift_of (sign (view.All b))) (sign b)))) (k + 1) t

-- p ⊢ ∀ b, with what it wants as its hole
abbrev pub Generalized : ℕ → Formula → Formula → Tree → Type 0
Generalized k p b t = Proves Every (entail k p (view.All b)) (entail (k + 1) (shift_of p) b ∷ []) 1 (max (side_depth (entail k p (view.All b))) (side_depth (entail (k + 1) (shift_of p) b))) (k + 1) t

generalized_at : (k : ℕ) (p q b d : Formula) (t : Tree) → p ≡ q → b ≡ d → Generalized k p b t → Generalized k q d t
generalized_at k p q b d t l r h = subst (λ (x : Formula). Generalized k q x t) r (subst (λ (x : Formula). Generalized k x b t) l h)

pub inward_outer : (sign : Formula → Formula) (k : ℕ) (b left body : Formula) (t : Tree) → left ≡ sign (view.All b) → body ≡ sign b → Generalized k left body t → Inward sign k b t
inward_outer sign k b left body t l r h = generalized_at k left (sign (view.All b)) body (sign b) t l r h

-- the only hole is what the proof concludes
only_hole : (e h : Entail) (n d k m c j : ℕ) (outer under : Tree) → Proves Every e (h ∷ []) n d k outer → Proves Every h [] m c j under → slice_get (holes_of outer) 0 ≡ Some (conclusion under)
only_hole e h n d k m c j outer under p q = hole_is e (conclusion under) [] (h ∷ []) n d k outer p (ap (λ x. x ∷ []) (sym q.concludes))

pub inward_hole : (sign : Formula → Formula) (k : ℕ) (b : Formula) (outer under : Tree) → Inward sign k b outer → Proves Every (entail (k + 1) (shift_of (sign (view.All b))) (sign b)) [] 2 (depth_of b + 3) (k + 1) under → slice_get (holes_of outer) 0 ≡ Some (conclusion under)
inward_hole sign k b outer under p q = only_hole (entail k (sign (view.All b)) (view.All (sign b))) (entail (k + 1) (shift_of (sign (view.All b))) (sign b)) 1 (max (side_depth (entail k (sign (view.All b)) (view.All (sign b)))) (side_depth (entail (k + 1) (shift_of (sign (view.All b))) (sign b)))) (k + 1) 2 (depth_of b + 3) (k + 1) outer under p q

pub boxed_outer : (k : ℕ) (b left body : Formula) (t : Tree) → left ≡ view.All b → body ≡ view.Pers b → Generalized k left body t → Generalized k (view.All b) (view.Pers b) t
boxed_outer k b left body t l r h = generalized_at k left (view.All b) body (view.Pers b) t l r h

pub boxed_hole : (k : ℕ) (b : Formula) (outer under : Tree) → Generalized k (view.All b) (view.Pers b) outer → Proves Every (entail (k + 1) (shift_of (view.All b)) (view.Pers b)) [] (2 + 200 * nodes_of b) (depth_of b + 8) (k + 1 + depth_of b) under → slice_get (holes_of outer) 0 ≡ Some (conclusion under)
boxed_hole k b outer under p q = only_hole (entail k (view.All b) (view.All (view.Pers b))) (entail (k + 1) (shift_of (view.All b)) (view.Pers b)) 1 (max (side_depth (entail k (view.All b) (view.All (view.Pers b)))) (side_depth (entail (k + 1) (shift_of (view.All b)) (view.Pers b)))) (k + 1) (2 + 200 * nodes_of b) (depth_of b + 8) (k + 1 + depth_of b) outer under p q

-- ∃ b ⊢ q, with what it wants as its hole
abbrev pub Eliminated : ℕ → Formula → Formula → Tree → Type 0
Eliminated k b q t = Proves Every (entail k (view.Ex b) q) (entail (k + 1) b (shift_of q) ∷ []) 1 (max (side_depth (entail k (view.Ex b) q)) (side_depth (entail (k + 1) b (shift_of q)))) (k + 1) t

pub ex_outer : (k : ℕ) (b right : Formula) (t : Tree) → right ≡ view.Pers (view.Ex b) → Eliminated k b right t → Eliminated k b (view.Pers (view.Ex b)) t
ex_outer k b right t r h = subst (λ (x : Formula). Eliminated k b x t) r h

pub ex_hole : (k : ℕ) (b : Formula) (outer under : Tree) → Eliminated k b (view.Pers (view.Ex b)) outer → Proves Every (entail (k + 1) b (shift_of (view.Pers (view.Ex b)))) [] (3 + 200 * nodes_of b) (depth_of b + 8) (k + 1 + depth_of b) under → slice_get (holes_of outer) 0 ≡ Some (conclusion under)
ex_hole k b outer under p q = only_hole (entail k (view.Ex b) (view.Pers (view.Ex b))) (entail (k + 1) b (shift_of (view.Pers (view.Ex b)))) 1 (max (side_depth (entail k (view.Ex b) (view.Pers (view.Ex b)))) (side_depth (entail (k + 1) b (shift_of (view.Pers (view.Ex b)))))) (k + 1) (3 + 200 * nodes_of b) (depth_of b + 8) (k + 1 + depth_of b) outer under p q

pub all_handed_bounded : (k : ℕ) (b : Formula) → IsHanded (k + 1) b → IsBounded (view.All b)
all_handed_bounded k b h = record { vars = k; scoped = quantified_scoped_in k (view.All b) b (inl refl) h.scoped; within = omega (arith, h.within, depth_all b) }
