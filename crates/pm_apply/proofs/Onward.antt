-- The proofs of application, wand by wand.
use Rattle.std.proofs.Common.{◌≡◌, ℕ, zero, suc, ◌+◌, ◌*◌, ◌<◌, ◌≤◌, List, [], ◌∷◌, ◌++◌, reverse, length, Option, Some, None, refl, ap, ap₂, sym, ◌∙◌, subst, arith, slice_get, append-nil}
use Rattle.std.specs.Prelude.{option_map}
use Rattle.std.proofs.lemmas.List.{reverse-append}
use Rattle.pm_logic.specs.declared.formula.Formula.{Formula}
use Rattle.pm_logic.specs.declared.formula.Formula.TheViews as view
use Rattle.pm_logic.specs.declared.formula.Preds.{Preds}
use Rattle.pm_logic.specs.Scope.{Scoped}
use Rattle.pm_logic.specs.Size.{depth_of, nodes_of}
use Rattle.pm_rules.specs.declared.rules.Entail.{Entail}
use Rattle.pm_rules.specs.declared.pattern.Binary.TheVariants as binary
use Rattle.pm_proof.specs.Trees.{Tree, entail, conclusion, holes_of, splice}
use Rattle.pm_proof.specs.Known.{Proves, Every, ScopedWhere, FillProves}
use Rattle.pm_proof.proofs.Fills.{weaker}
use Rattle.pm_schemes.specs.Sketches.{deepest}
use Rattle.pm_schemes.proofs.Scopes.{two_scoped}
use Rattle.pm_star.proofs.Scoping.{sep_scoped, scoped_sep}
use Rattle.pm_classes.specs.Classes.{Parts, parts, into_wand}
use Rattle.pm_classes.specs.Entries.{WandAnswer, PairAnswers, wand_says, IsPair, HasProof}
use Rattle.pm_classes.specs.declared.entry.Pair.{Pair}
use Rattle.pm_classes.proofs.Sizes.{has_nodes, has_levels}
use Rattle.pm_classes.proofs.Smaller.{no_larger}
use Rattle.pm_classes.proofs.Scoped as entries
use Rattle.pm_table.specs.Terms.{premises}
use Rattle.pm_apply.specs.declared.reaching.Reached.{Reached}
use Rattle.pm_apply.specs.Reaching.{ground, left_for, wanted, steps_for, Reaches, IsReached, IsOneMore, ReachAnswers, ReachAnswer}
use Rattle.pm_apply.proofs.Wands.{second_smaller, premises_none, premises_stop, premises_more, some_premise, steps_more}

-- ---- at once

abbrev AtOnce : ℕ → (l s r : Formula) → Tree → Type 0
AtOnce k l s r t = Proves Every (entail k (ground l s r) r) [] 3 (deepest (l ∷ s ∷ r ∷ []) [] + 3) k t

pub at_once_done : (k : ℕ) (l s r : Formula) (none : List Formula) (t : Tree) → none ≡ [] → AtOnce k l s r t → IsReached k l s r r [] (record { premises = none; proof = t })
at_once_done k l s r none t e p = record {
  premises = ap reverse e;
  proof = weaker Every (entail k (ground l s r) r) [] 3 (deepest (l ∷ s ∷ r ∷ []) [] + 3) k (steps_for (nodes_of r)) (deepest (l ∷ s ∷ r ∷ r ∷ []) [] + 8) (k + depth_of r) t (omega (arith, steps_more 0 (nodes_of r) (has_nodes r))) (omega arith) (omega arith) p;
}

-- ---- what the entry says

pub record HasWand (k : ℕ) (r : Formula) (x : Pair) : Type 0 where
  pub row : into_wand r ≡ Some (parts x.first x.second)
  pub proof : HasProof k r (entail k r (view.Wand x.first x.second)) x.proof

entry_answered : (k : ℕ) (r : Formula) (x : Pair) (o : Option Parts) → into_wand r ≡ o → PairAnswers (wand_says k r) k r o (Some x) → HasWand k r x
entry_answered k r x None e a = absurd a
entry_answered k r x (Some p) e a = record {
  row = e ∙ ap₂ (λ f g. Some (parts f g)) (sym a.first) (sym a.second);
  proof = subst (λ f. HasProof k r (entail k r (view.Wand f x.second)) x.proof) (sym a.first) (subst (λ g. HasProof k r (entail k r (view.Wand p.first g)) x.proof) (sym a.second) a.proof);
}

pub has_wand : (k : ℕ) (r : Formula) (x : Pair) → WandAnswer k r (Some x) → HasWand k r x
has_wand k r x a = entry_answered k r x (into_wand r) refl a

no_entry : (k : ℕ) (r : Formula) (o : Option Parts) → into_wand r ≡ o → PairAnswers (wand_says k r) k r o None → into_wand r ≡ None
no_entry k r None e a = e
no_entry k r (Some p) e a = absurd a

pub has_no_wand : (k : ℕ) (r : Formula) → WandAnswer k r None → into_wand r ≡ None
has_no_wand k r a = no_entry k r (into_wand r) refl a

-- the wand is scoped where the formula is
wand_scoped : (preds : Preds) (k : ℕ) (r : Formula) (x : Pair) → HasWand k r x → Scoped preds k r → Scoped preds k (view.Wand x.first x.second)
wand_scoped preds k r x h s = let ps = entries.scoped.wand preds k r (parts x.first x.second) h.row s in two_scoped preds k binary.Wand x.first x.second ps.0 ps.1

-- ---- the last wand

abbrev LastStep : ℕ → (l s r p c : Formula) → Tree → Type 0
LastStep k l s r p c t = Proves Every (entail k (ground l s r) c) (entail k l p ∷ entail k r (view.Wand p c) ∷ []) 8 (deepest (l ∷ s ∷ r ∷ c ∷ p ∷ []) [] + 3) k t

pub last_hole : (k : ℕ) (l s r : Formula) (x : Pair) (step : Tree) → WandAnswer k r (Some x) → LastStep k l s r x.first x.second step → slice_get (holes_of step) 1 ≡ Some (conclusion x.proof)
last_hole k l s r x step a p = ap (λ hs. slice_get hs 1) p.holes ∙ ap Some (sym (has_wand k r x a).proof.concludes)

pub last_done : (k : ℕ) (l s r : Formula) (x : Pair) (step t : Tree) (premises : List Formula) → WandAnswer k r (Some x) → LastStep k l s r x.first x.second step → FillProves step 1 x.proof t → premises ≡ x.first ∷ []
    → IsReached k l s x.second r (x.first ∷ []) (record { premises = premises; proof = t })
last_done k l s r x step t premises a p0 fills is =
    let h = has_wand k r x a in
    let e = entail k (ground l s r) x.second in
    let w = entail k r (view.Wand x.first x.second) in
    let hs = entail k l x.first ∷ w ∷ [] in
    let n = 200 * nodes_of r in
    let d = deepest (l ∷ s ∷ r ∷ x.second ∷ []) [] + 8 in
    let v = k + depth_of r in
    let low = no_larger.wand r (parts x.first x.second) h.row in
    let s1 : Proves Every e hs 8 d v step = weaker Every e hs 8 (deepest (l ∷ s ∷ r ∷ x.second ∷ x.first ∷ []) [] + 3) k 8 d v step (omega arith) (omega (arith, low.0.levels)) (omega arith) p0 in
    let f1 : Proves Every (conclusion x.proof) [] n d v x.proof = subst (λ c. Proves Every c [] n d v x.proof) (sym h.proof.concludes) (weaker Every w [] n (depth_of r + 8) v n d v x.proof (omega arith) (omega arith) (omega arith) h.proof) in
    let scope : ScopedWhere e (splice hs 1 []) w = λ preds es gs. let z = (scoped_sep preds k (view.Sep l (view.Pers s)) r es.0).1 in (z, wand_scoped preds k r x h z) in
    let all : Proves Every e (entail k l x.first ∷ []) (8 + n) d v t = fills Every e hs [] 8 n d v s1 f1 (subst (λ c. ScopedWhere e (splice hs 1 []) c) (sym h.proof.concludes) scope) in
    record {
      premises = ap reverse is;
      proof = weaker Every e (entail k l x.first ∷ []) (8 + n) d v (steps_for (nodes_of r)) d v t (omega (arith, steps_more 0 (nodes_of r) (has_nodes r))) (omega arith) (omega arith) all;
    }

-- ---- one more wand

abbrev MoreStep : ℕ → (l s r p q c : Formula) → Tree → Type 0
MoreStep k l s r p q c t = Proves Every (entail k (ground l s r) c) (entail k s p ∷ entail k r (view.Wand p q) ∷ entail k (ground l s q) c ∷ []) 21 (deepest (l ∷ s ∷ r ∷ c ∷ p ∷ q ∷ []) [] + 4) k t

-- the same, when the wand is proved
abbrev MoreFilled : ℕ → (l s r p q c : Formula) → Tree → Type 0
MoreFilled k l s r p q c t = Proves Every (entail k (ground l s r) c) (entail k s p ∷ entail k (ground l s q) c ∷ []) (21 + 200 * nodes_of r) (deepest (l ∷ s ∷ r ∷ c ∷ []) [] + 8) (k + depth_of r) t

pub wand_hole : (k : ℕ) (l s r c : Formula) (x : Pair) (step : Tree) → WandAnswer k r (Some x) → MoreStep k l s r x.first x.second c step → slice_get (holes_of step) 1 ≡ Some (conclusion x.proof)
wand_hole k l s r c x step a p = ap (λ hs. slice_get hs 1) p.holes ∙ ap Some (sym (has_wand k r x a).proof.concludes)

more_filled : (k : ℕ) (l s r c : Formula) (x : Pair) (step t : Tree) → WandAnswer k r (Some x) → MoreStep k l s r x.first x.second c step → FillProves step 1 x.proof t → MoreFilled k l s r x.first x.second c t
more_filled k l s r c x step t a p0 fills =
    let h = has_wand k r x a in
    let e = entail k (ground l s r) c in
    let w = entail k r (view.Wand x.first x.second) in
    let hs = entail k s x.first ∷ w ∷ entail k (ground l s x.second) c ∷ [] in
    let n = 200 * nodes_of r in
    let d = deepest (l ∷ s ∷ r ∷ c ∷ []) [] + 8 in
    let v = k + depth_of r in
    let low = no_larger.wand r (parts x.first x.second) h.row in
    let s1 : Proves Every e hs 21 d v step = weaker Every e hs 21 (deepest (l ∷ s ∷ r ∷ c ∷ x.first ∷ x.second ∷ []) [] + 4) k 21 d v step (omega arith) (omega (arith, low.0.levels, low.1.levels)) (omega arith) p0 in
    let f1 : Proves Every (conclusion x.proof) [] n d v x.proof = subst (λ z. Proves Every z [] n d v x.proof) (sym h.proof.concludes) (weaker Every w [] n (depth_of r + 8) v n d v x.proof (omega arith) (omega arith) (omega arith) h.proof) in
    let scope : ScopedWhere e (splice hs 1 []) w = λ preds es gs. let z = (scoped_sep preds k (view.Sep l (view.Pers s)) r es.0).1 in (z, wand_scoped preds k r x h z) in
    fills Every e hs [] 21 n d v s1 f1 (subst (λ z. ScopedWhere e (splice hs 1 []) z) (sym h.proof.concludes) scope)

pub behind_hole : (k : ℕ) (l s r c : Formula) (x : Pair) (inner : Reached) (step t : Tree) → WandAnswer k r (Some x) → conclusion inner.proof ≡ entail k (ground l s x.second) c → MoreStep k l s r x.first x.second c step → FillProves step 1 x.proof t → slice_get (holes_of t) 1 ≡ Some (conclusion inner.proof)
behind_hole k l s r c x inner step t a e p fills = ap (λ hs. slice_get hs 1) (more_filled k l s r c x step t a p fills).holes ∙ ap Some (sym e)

pub more_done : (k : ℕ) (l s r c : Formula) (x : Pair) (inner : Reached) (step t u : Tree) (premises : List Formula) → WandAnswer k r (Some x) → MoreStep k l s r x.first x.second c step → FillProves step 1 x.proof t → FillProves t 1 inner.proof u
    → premises ≡ inner.premises ++ x.first ∷ [] → IsOneMore k l s c r x inner (record { premises = premises; proof = u })
more_done k l s r c x inner step t u premises a p0 fills fills1 is p ps reached =
    let h = has_wand k r x a in
    let q = x.second in
    let e = entail k (ground l s r) c in
    let b = entail k (ground l s q) c in
    let hs = entail k s x.first ∷ b ∷ [] in
    let gs = wanted k l s (p ∷ ps) in
    let n = 21 + 200 * nodes_of r in
    let m = steps_for (nodes_of q) in
    let d = deepest (l ∷ s ∷ r ∷ c ∷ []) [] + 8 in
    let v = k + depth_of r in
    let low = no_larger.wand r (parts x.first x.second) h.row in
    let made = more_filled k l s r c x step t a p0 fills in
    let by1 : Proves Every (conclusion inner.proof) gs m d v inner.proof = subst (λ z. Proves Every z gs m d v inner.proof) (sym reached.proof.concludes) (weaker Every b gs m (deepest (l ∷ s ∷ q ∷ c ∷ []) [] + 8) (k + depth_of q) m d v inner.proof (omega arith) (omega (arith, low.1.levels)) (omega (arith, low.1.levels)) reached.proof) in
    let scope : ScopedWhere e (splice hs 1 gs) b = λ preds es all.
    let z = scoped_sep preds k (view.Sep l (view.Pers s)) r es.0 in
    (sep_scoped preds k (view.Sep l (view.Pers s)) q z.0 (entries.scoped.wand preds k r (parts x.first x.second) h.row z.1).1, es.1) in
    let all : Proves Every e (splice hs 1 gs) (n + m) d v u = fills1 Every e hs gs n m d v made by1 (subst (λ z. ScopedWhere e (splice hs 1 gs) z) (sym reached.proof.concludes) scope) in
    let exact : Proves Every e (wanted k l s (x.first ∷ p ∷ ps)) (n + m) d v u = subst (λ zs. Proves Every e (entail k s x.first ∷ zs) (n + m) d v u) (append-nil gs) all in
    record {
      premises = ap reverse is ∙ reverse-append inner.premises (x.first ∷ []) ∙ ap (λ zs. x.first ∷ zs) reached.premises;
      proof = weaker Every e (wanted k l s (x.first ∷ p ∷ ps)) (n + m) d v (steps_for (nodes_of r)) d v u (omega (arith, steps_more (nodes_of q) (nodes_of r) (second_smaller r (parts x.first x.second) h.row))) (omega arith) (omega arith) exact;
    }

-- ---- what is answered

pub answers_none : (k : ℕ) (l s c r : Formula) → premises c r ≡ None → ReachAnswer k l s c r None
answers_none k l s c r e = subst (λ o. ReachAnswers k l s c r o None) (sym e) tt

pub answers_some : (k : ℕ) (l s c r : Formula) (ps : List Formula) (x : Reached) → premises c r ≡ Some ps → IsReached k l s c r ps x → ReachAnswer k l s c r (Some x)
answers_some k l s c r ps x e reached = subst (λ o. ReachAnswers k l s c r o (Some x)) (sym e) reached

reached_of : (k : ℕ) (l s c r : Formula) (x : Reached) (o : Option (List Formula)) → premises c r ≡ o → ReachAnswers k l s c r o (Some x) → (ps : List Formula) × (premises c r ≡ Some ps) × IsReached k l s c r ps x
reached_of k l s c r x None e a = absurd a
reached_of k l s c r x (Some ps) e a = (ps, e, a)

pub is_reached : (k : ℕ) (l s c r : Formula) (x : Reached) → ReachAnswer k l s c r (Some x) → (ps : List Formula) × (premises c r ≡ Some ps) × IsReached k l s c r ps x
is_reached k l s c r x a = reached_of k l s c r x (premises c r) refl a

none_of : (k : ℕ) (l s c r : Formula) (o : Option (List Formula)) → premises c r ≡ o → ReachAnswers k l s c r o None → premises c r ≡ None
none_of k l s c r None e a = e
none_of k l s c r (Some ps) e a = absurd a

pub not_reached : (k : ℕ) (l s c r : Formula) → ReachAnswer k l s c r None → premises c r ≡ None
not_reached k l s c r a = none_of k l s c r (premises c r) refl a

pub at_once_answers : (k : ℕ) (l s c r : Formula) (x : Reached) → r ≡ c → IsReached k l s r r [] x → ReachAnswer k l s c r (Some x)
at_once_answers k l s c r x e reached = answers_some k l s c r [] x (premises_none c r e) (subst (λ z. IsReached k l s z r [] x) e reached)

pub no_wand_answers : (k : ℕ) (l s c r : Formula) → (r ≡ c → ⊥) → WandAnswer k r None → ReachAnswer k l s c r None
no_wand_answers k l s c r differs a = answers_none k l s c r (premises_stop c r differs (has_no_wand k r a))

pub last_answers : (k : ℕ) (l s c r : Formula) (x : Pair) (y : Reached) → (r ≡ c → ⊥) → WandAnswer k r (Some x) → x.second ≡ c → IsReached k l s x.second r (x.first ∷ []) y → ReachAnswer k l s c r (Some y)
last_answers k l s c r x y differs a e reached =
    let h = has_wand k r x a in
    answers_some k l s c r (x.first ∷ []) y (premises_more c r differs (parts x.first x.second) h.row ∙ ap (option_map (λ ps. x.first ∷ ps)) (premises_none c x.second e)) (subst (λ z. IsReached k l s z r (x.first ∷ []) y) e reached)

pub none_behind_answers : (k : ℕ) (l s c r : Formula) (x : Pair) → (r ≡ c → ⊥) → WandAnswer k r (Some x) → ReachAnswer k l s c x.second None → ReachAnswer k l s c r None
none_behind_answers k l s c r x differs a none =
    let h = has_wand k r x a in
    answers_none k l s c r (premises_more c r differs (parts x.first x.second) h.row ∙ ap (option_map (λ ps. x.first ∷ ps)) (not_reached k l s c x.second none))

pub behind_says : (k : ℕ) (l s c r : Formula) (x : Reached) → ReachAnswer k l s c r (Some x) → conclusion x.proof ≡ entail k (ground l s r) c
behind_says k l s c r x a = (is_reached k l s c r x a).2.proof.concludes

pub more_answers : (k : ℕ) (l s c r : Formula) (x : Pair) (inner y : Reached) → (r ≡ c → ⊥) → (x.second ≡ c → ⊥) → WandAnswer k r (Some x) → ReachAnswer k l s c x.second (Some inner) → IsOneMore k l s c r x inner y → ReachAnswer k l s c r (Some y)
more_answers k l s c r x inner y differs differs1 a behind more =
    let h = has_wand k r x a in
    let found = is_reached k l s c x.second inner behind in
    let some = some_premise c x.second differs1 found.0 found.1 in
    let reached : IsReached k l s c x.second (some.0 ∷ some.1) inner = subst (λ ps. IsReached k l s c x.second ps inner) some.2 found.2 in
    answers_some k l s c r (x.first ∷ some.0 ∷ some.1) y
    (premises_more c r differs (parts x.first x.second) h.row ∙ ap (option_map (λ ps. x.first ∷ ps)) (found.1 ∙ ap Some some.2))
    (more some.0 some.1 reached)
