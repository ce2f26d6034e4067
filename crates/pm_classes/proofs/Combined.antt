-- What two formulas are as one, and its proof.
use Rattle.std.proofs.Common.{ℕ, suc, ◌+◌, ◌*◌, ◌≡◌, ◌≤◌, ◌<◌, max, cond, Bool, true, false, List, [], ◌∷◌, refl, sym, ap, subst, ◌∙◌, arith, nat_lt, Some, slice_get}
use Rattle.std.proofs.lemmas.Bool.{lt-ltb, ltb-true}
use Rattle.pm_logic.specs.declared.formula.Term.{Term}
use Rattle.pm_logic.specs.declared.formula.Term.TheVariants.{Lit, Var}
use Rattle.pm_logic.specs.Trees.{add, sub, neg, scale}
use Rattle.pm_logic.specs.declared.formula.Pure as P
use Rattle.pm_logic.specs.declared.formula.Pure.TheVariants.{False, Eq}
use Rattle.pm_logic.specs.declared.formula.Formula.{Formula}
use Rattle.pm_logic.specs.declared.formula.Formula.TheVariants.{Pure as Fact, Pts}
use Rattle.pm_logic.specs.declared.formula.Formula.TheViews as view
use Rattle.pm_logic.specs.declared.formula.Preds.{Preds}
use Rattle.pm_logic.specs.declared.formula.TheConstants.{UNIT}
use Rattle.pm_logic.specs.declared.limits.TheConstants.{MAX_LINE_LEVELS}
use Rattle.pm_logic.specs.Abstraction.{term_eq}
use Rattle.pm_logic.specs.Bounds.{IsBounded, past_indices}
use Rattle.pm_logic.specs.Scope.{TermScoped, ScopedIn, Scoped}
use Rattle.pm_logic.specs.Size.{term_depth, depth_of, nodes_of}
use Rattle.pm_logic.specs.Substitution.{in_term, one_up, in_formula, shift_of, opened_of}
use Rattle.pm_logic.proofs.Equals.{term_eq_decides}
use Rattle.pm_logic.proofs.Grows.{term_grows}
use Rattle.pm_logic.proofs.Scopes.{pts_scoped_in_to, pts_scoped_in_from, pts_fit_to, pts_fit_from, pure_scoped_in_from, pure_fit, eq_scoped, var_scoped_from}
use Rattle.pm_logic.proofs.Sizes.{depth_pts, depth_pure, depth_eq, depth_var, depth_false}
use Rattle.pm_rules.specs.declared.pattern.Binary.TheVariants as binary
use Rattle.pm_rules.specs.declared.rules.Entail.{Entail}
use Rattle.pm_proof.specs.Trees.{Tree, entail, conclusion, holes_of, side_depth}
use Rattle.pm_proof.specs.Valid.{EntailScoped}
use Rattle.pm_proof.specs.Known.{Proves, Every, ScopedWhere, FillProves}
use Rattle.pm_proof.proofs.Fills.{weaker}
use Rattle.pm_schemes.specs.Sketches.{deepest}
use Rattle.pm_schemes.proofs.Scopes.{two_scoped, scoped_two}
use Rattle.pm_classes.specs.declared.entry.One.{One}
use Rattle.pm_classes.specs.Classes.{together, combine}
use Rattle.pm_classes.specs.Entries.{IsHanded, CombinesTo, Combines}
use Rattle.pm_classes.proofs.Known.{own}
use Rattle.pm_classes.proofs.Closed.{hole_is}
use Rattle.pm_classes.proofs.Sizes.{has_nodes, has_levels, depth_sep, depth_and}
use Rattle.pm_classes.proofs.Undone.{term_opened}
use Rattle.pm_classes.proofs.Bound.{shift_deep, shifted_in}

-- ---- the rows

pub combine_other : (a b : Formula) → ((l : Term) (u : ℕ) (v : Term) → a ≡ Pts l u v → ⊥) → combine a b ≡ view.Sep a b
unfolding combine
combine_other (Pts l u v) b isnt = absurd (isnt l u v refl)
combine_other _ b isnt = refl

pub combine_pts_other : (l : Term) (u : ℕ) (v : Term) (b : Formula) → ((m : Term) (w : ℕ) (x : Term) → b ≡ Pts m w x → ⊥) → combine (Pts l u v) b ≡ view.Sep (Pts l u v) b
unfolding combine
combine_pts_other l u v (Pts m w x) isnt = absurd (isnt m w x refl)
combine_pts_other l u v _ isnt = refl

cond_true : (b : Bool) (x y : Formula) → b ≡ true → cond b x y ≡ x
cond_true true x y h = refl
cond_true false x y h = absurd (cc)

cond_false : (b : Bool) (x y : Formula) → (b ≡ true → ⊥) → cond b x y ≡ y
cond_false true x y h = absurd (h refl)
cond_false false x y h = refl

pub combine_same : (l m : Term) (a b : ℕ) (v w : Term) → l ≡ m → combine (Pts l a v) (Pts m b w) ≡ together l a v b w
unfolding combine
combine_same l m a b v w is = cond_true (term_eq l m) (together l a v b w) (view.Sep (Pts l a v) (Pts m b w)) ((term_eq_decides l m).1 is)

pub combine_apart : (l m : Term) (a b : ℕ) (v w : Term) → (l ≡ m → ⊥) → combine (Pts l a v) (Pts m b w) ≡ view.Sep (Pts l a v) (Pts m b w)
unfolding combine
combine_apart l m a b v w isnt = cond_false (term_eq l m) (together l a v b w) (view.Sep (Pts l a v) (Pts m b w)) (λ h. isnt ((term_eq_decides l m).0 h))

-- ---- one formula for two

pub combines_to : (k n d : ℕ) (a b g : Formula) (r : One) → n ≤ 200 → d ≤ max (depth_of a) (depth_of b) + 8 → r.formula ≡ g → Proves Every (entail k (view.Sep a b) g) [] n d k r.proof → CombinesTo k a b g r
combines_to k n d a b g r hn hd is p = record {
  formula = is;
  proof = weaker Every (entail k (view.Sep a b) g) [] n d k (200 * (nodes_of a + nodes_of b)) (max (depth_of a) (depth_of b) + 8) (k + max (depth_of a) (depth_of b)) r.proof (omega (arith, has_nodes a, hn)) hd (omega arith) p;
}

pub apart_done : (k : ℕ) (a b f : Formula) (t : Tree) → f ≡ view.Sep a b → Proves Every (entail k f f) [] 1 (deepest (f ∷ []) []) k t → CombinesTo k a b (view.Sep a b) (record { formula = f; proof = t })
apart_done k a b f t is p =
    let q : Proves Every (entail k (view.Sep a b) (view.Sep a b)) [] 1 (deepest (view.Sep a b ∷ []) []) k t = subst (λ (x : Formula). Proves Every (entail k x x) [] 1 (deepest (x ∷ []) []) k t) is p in
    combines_to k 1 (deepest (view.Sep a b ∷ []) []) a b (view.Sep a b) (record { formula = f; proof = t }) (omega arith) (omega (arith, depth_sep a b)) is q

pub combined : (k : ℕ) (a b g : Formula) (r : One) → combine a b ≡ g → CombinesTo k a b g r → Combines k a b r
combined k a b g r is h = subst (λ (x : Formula). CombinesTo k a b x r) (sym is) h

abbrev pub one_of : Formula → Tree → One
one_of f t = record { formula = f; proof = t }

over_row : (l : Term) (a : ℕ) (v : Term) (b : ℕ) (w : Term) → UNIT < a + b → together l a v b w ≡ Fact False
over_row l a v b w h = cond_true (nat_lt UNIT (a + b)) (Fact False) (cond (term_eq v w) (Pts l (a + b) v) (view.Sep (Fact (Eq v w)) (Pts l (a + b) v))) (lt-ltb UNIT (a + b) h)

within_row : (l : Term) (a : ℕ) (v : Term) (b : ℕ) (w : Term) → a + b ≤ UNIT → together l a v b w ≡ cond (term_eq v w) (Pts l (a + b) v) (view.Sep (Fact (Eq v w)) (Pts l (a + b) v))
within_row l a v b w h = cond_false (nat_lt UNIT (a + b)) (Fact False) (cond (term_eq v w) (Pts l (a + b) v) (view.Sep (Fact (Eq v w)) (Pts l (a + b) v))) (λ less. omega (arith, h, ltb-true UNIT (a + b) less))

pub over_done : (k : ℕ) (l : Term) (a : ℕ) (v : Term) (b : ℕ) (w : Term) (t : Tree) → UNIT < a + b → Proves Every (entail k (view.Sep (Pts l a v) (Pts l b w)) (Fact False)) [] 1 (side_depth (entail k (view.Sep (Pts l a v) (Pts l b w)) (Fact False))) k t → CombinesTo k (Pts l a v) (Pts l b w) (together l a v b w) (one_of (Fact False) t)
over_done k l a v b w t over p =
    let e : Entail = entail k (view.Sep (Pts l a v) (Pts l b w)) (Fact False) in
    let r = combines_to k 1 (side_depth e) (Pts l a v) (Pts l b w) (Fact False) (one_of (Fact False) t) (omega arith) (omega (arith, depth_sep (Pts l a v) (Pts l b w), depth_pure False, depth_false, depth_pts l a v)) refl p in
    subst (λ (x : Formula). CombinesTo k (Pts l a v) (Pts l b w) x (one_of (Fact False) t)) (sym (over_row l a v b w over)) r

pub join_done : (k : ℕ) (l : Term) (a : ℕ) (v : Term) (b : ℕ) (w : Term) (f : Formula) (t : Tree) → a + b ≤ UNIT → v ≡ w → f ≡ Pts l (a + b) v → Proves Every (entail k (view.Sep (Pts l a v) (Pts l b v)) (Pts l (a + b) v)) [] 1 (side_depth (entail k (view.Sep (Pts l a v) (Pts l b v)) (Pts l (a + b) v))) k t → CombinesTo k (Pts l a v) (Pts l b w) (together l a v b w) (one_of f t)
join_done k l a v b w f t le same is p =
    let row : together l a v b w ≡ Pts l (a + b) v = within_row l a v b w le ∙ cond_true (term_eq v w) (Pts l (a + b) v) (view.Sep (Fact (Eq v w)) (Pts l (a + b) v)) ((term_eq_decides v w).1 same) in
    let e : Entail = entail k (view.Sep (Pts l a v) (Pts l b v)) (Pts l (a + b) v) in
    let r : CombinesTo k (Pts l a v) (Pts l b v) (Pts l (a + b) v) (one_of f t) = combines_to k 1 (side_depth e) (Pts l a v) (Pts l b v) (Pts l (a + b) v) (one_of f t) (omega arith) (omega (arith, depth_sep (Pts l a v) (Pts l b v), depth_pts l a v, depth_pts l (a + b) v)) is p in
    let s : CombinesTo k (Pts l a v) (Pts l b w) (Pts l (a + b) v) (one_of f t) = subst (λ (x : Term). CombinesTo k (Pts l a v) (Pts l b x) (Pts l (a + b) v) (one_of f t)) same r in
    subst (λ (x : Formula). CombinesTo k (Pts l a v) (Pts l b w) x (one_of f t)) (sym row) s

pub agreed_done : (k : ℕ) (l : Term) (a : ℕ) (v : Term) (b : ℕ) (w : Term) (f : Formula) (t : Tree) → a + b ≤ UNIT → (v ≡ w → ⊥) → f ≡ view.Sep (Fact (Eq v w)) (Pts l (a + b) v) → Proves Every (entail k (view.Sep (Pts l a v) (Pts l b w)) (view.Sep (Fact (Eq v w)) (Pts l (a + b) v))) [] 37 (deepest (Pts l a v ∷ Pts l b w ∷ []) [] + 4) k t → CombinesTo k (Pts l a v) (Pts l b w) (together l a v b w) (one_of f t)
agreed_done k l a v b w f t le other is p =
    let g : Formula = view.Sep (Fact (Eq v w)) (Pts l (a + b) v) in
    let row : together l a v b w ≡ g = within_row l a v b w le ∙ cond_false (term_eq v w) (Pts l (a + b) v) g (λ h. other ((term_eq_decides v w).0 h)) in
    let r = combines_to k 37 (deepest (Pts l a v ∷ Pts l b w ∷ []) [] + 4) (Pts l a v) (Pts l b w) g (one_of f t) (omega arith) (omega (arith, has_levels (Pts l a v))) is p in
    subst (λ (x : Formula). CombinesTo k (Pts l a v) (Pts l b w) x (one_of f t)) (sym row) r

-- ---- the four premises of the agreement

pub next : (k n m d : ℕ) (e g : Entail) (gs : List Entail) (step x out : Tree) → ScopedWhere e gs g → Proves Every e (g ∷ gs) n d k step → Proves Every g [] m d k x → FillProves step 0 x out → Proves Every e gs (n + m) d k out
next k n m d e g gs step x out wants p q f =
    let at : g ∷ gs ≡ conclusion x ∷ gs = ap (λ z. z ∷ gs) (sym q.concludes) in
    let w : ScopedWhere e gs (conclusion x) = subst (λ (z : Entail). ScopedWhere e gs z) (sym q.concludes) wants in
    f Every e (conclusion x ∷ gs) [] n m d k (subst (λ (z : List Entail). Proves Every e z n d k step) at p) (own k m d g x q) w

record Spoken (preds : Preds) (k : ℕ) (l : Term) (a : ℕ) (v : Term) (b : ℕ) (w : Term) : Type 0 where
  first : Scoped preds k (Pts l a v)
  second : Scoped preds k (Pts l b w)
  changed : Scoped preds k (Pts l b v)
  sum : Scoped preds k (Pts l (a + b) v)
  equal : Scoped preds k (Fact (Eq v w))
  back : Scoped preds k (Fact (Eq w v))

fact_eq : (preds : Preds) (k : ℕ) (v w : Term) → TermScoped k v → TermScoped k w → Scoped preds k (Fact (Eq v w))
fact_eq preds k v w s r = record { indices = pure_scoped_in_from k (Eq v w) (eq_scoped k v w s r); calls = pure_fit preds.list (Eq v w) }

spoken : (preds : Preds) (k : ℕ) (l : Term) (a : ℕ) (v : Term) (b : ℕ) (w : Term) → EntailScoped preds (entail k (view.Sep (Pts l a v) (Pts l b w)) (view.Sep (Fact (Eq v w)) (Pts l (a + b) v))) → Spoken preds k l a v b w
spoken preds k l a v b w s =
    let left = scoped_two preds k binary.Sep (Pts l a v) (Pts l b w) s.0 in
    let right = scoped_two preds k binary.Sep (Fact (Eq v w)) (Pts l (a + b) v) s.1 in
    let lv = pts_scoped_in_to k l a v left.0.indices in
    let lw = pts_scoped_in_to k l b w left.1.indices in
    let fit = pts_fit_to preds.list l b w left.1.calls in
    record {
      first = left.0;
      second = left.1;
      changed = record { indices = pts_scoped_in_from k l b v lv.0 lv.1; calls = pts_fit_from preds.list l b v fit.0 fit.1 };
      sum = right.1;
      equal = right.0;
      back = fact_eq preds k w v lw.1 lv.1;
    }

abbrev Claim : ℕ → Term → ℕ → Term → ℕ → Term → Entail
Claim k l a v b w = entail k (view.Sep (Pts l a v) (Pts l b w)) (view.Sep (Fact (Eq v w)) (Pts l (a + b) v))

abbrev First : ℕ → Term → ℕ → Term → ℕ → Term → Entail
First k l a v b w = entail k (view.Sep (Pts l a v) (Pts l b w)) (Fact (Eq v w))

abbrev Second : ℕ → Term → ℕ → Term → ℕ → Term → Entail
Second k l a v b w = entail k (view.Sep (Pts l b w) (Pts l a v)) (Fact (Eq w v))

abbrev Third : ℕ → Term → ℕ → Term → ℕ → Term → Entail
Third k l a v b w = entail k (view.And (Fact (Eq w v)) (Pts l b w)) (Pts l b v)

abbrev Fourth : ℕ → Term → ℕ → Term → ℕ → Term → Entail
Fourth k l a v b w = entail k (view.Sep (Pts l a v) (Pts l b v)) (Pts l (a + b) v)

abbrev Room : Term → ℕ → Term → ℕ → Term → ℕ
Room l a v b w = deepest (Pts l a v ∷ Pts l b w ∷ []) [] + 4

-- the claim, with these of the four left as holes
abbrev Left : ℕ → Term → ℕ → Term → ℕ → Term → ℕ → List Entail → Tree → Type 0
Left k l a v b w n hs t = Proves Every (Claim k l a v b w) hs n (Room l a v b w) k t

pub agreement_proves : (k : ℕ) (l : Term) (a : ℕ) (v : Term) (b : ℕ) (w : Term) (x y z s : Formula) (p q : P.Pure) (t : Tree) → x ≡ Pts l a v → y ≡ Pts l b w → z ≡ Pts l b v → s ≡ Pts l (a + b) v → p ≡ Eq v w → q ≡ Eq w v →
    Proves Every (entail k (view.Sep x y) (view.Sep (Fact p) s)) (entail k (view.Sep x y) (Fact p) ∷ entail k (view.Sep y x) (Fact q) ∷ entail k (view.And (Fact q) y) z ∷ entail k (view.Sep x z) s ∷ []) 33 (deepest (x ∷ y ∷ z ∷ s ∷ []) (p ∷ q ∷ []) + 4) k t →
    Left k l a v b w 33 (First k l a v b w ∷ Second k l a v b w ∷ Third k l a v b w ∷ Fourth k l a v b w ∷ []) t
agreement_proves k l a v b w x y z s p q t ex ey ez es ep eq h =
    let d : ℕ = deepest (Pts l a v ∷ Pts l b w ∷ Pts l b v ∷ Pts l (a + b) v ∷ []) (Eq v w ∷ Eq w v ∷ []) + 4 in
    let at = rw (ex, ey, ez, es, ep, eq) at h in
    weaker Every (Claim k l a v b w) (First k l a v b w ∷ Second k l a v b w ∷ Third k l a v b w ∷ Fourth k l a v b w ∷ []) 33 d k 33 (Room l a v b w) k t (omega arith) (omega (arith, depth_pts l a v, depth_pts l b w, depth_pts l b v, depth_pts l (a + b) v, depth_eq v w, depth_eq w v)) (omega arith) at

pub agreed_first : (k : ℕ) (l : Term) (a : ℕ) (v : Term) (b : ℕ) (w : Term) (step out x : Tree) → Left k l a v b w 33 (First k l a v b w ∷ Second k l a v b w ∷ Third k l a v b w ∷ Fourth k l a v b w ∷ []) step → Proves Every (First k l a v b w) [] 1 (side_depth (First k l a v b w)) k x → FillProves step 0 x out → Left k l a v b w 34 (Second k l a v b w ∷ Third k l a v b w ∷ Fourth k l a v b w ∷ []) out
agreed_first k l a v b w step out x p q f =
    let wants : ScopedWhere (Claim k l a v b w) (Second k l a v b w ∷ Third k l a v b w ∷ Fourth k l a v b w ∷ []) (First k l a v b w) = λ preds s all. let h = spoken preds k l a v b w s in (two_scoped preds k binary.Sep (Pts l a v) (Pts l b w) h.first h.second, h.equal) in
    let y = weaker Every (First k l a v b w) [] 1 (side_depth (First k l a v b w)) k 1 (Room l a v b w) k x (omega arith) (omega (arith, depth_sep (Pts l a v) (Pts l b w), depth_pts l a v, depth_pts l b w, depth_pure (Eq v w), depth_eq v w)) (omega arith) q in
    next k 33 1 (Room l a v b w) (Claim k l a v b w) (First k l a v b w) (Second k l a v b w ∷ Third k l a v b w ∷ Fourth k l a v b w ∷ []) step x out wants p y f

pub agreed_second : (k : ℕ) (l : Term) (a : ℕ) (v : Term) (b : ℕ) (w : Term) (step out x : Tree) → Left k l a v b w 34 (Second k l a v b w ∷ Third k l a v b w ∷ Fourth k l a v b w ∷ []) step → Proves Every (Second k l a v b w) [] 1 (side_depth (Second k l a v b w)) k x → FillProves step 0 x out → Left k l a v b w 35 (Third k l a v b w ∷ Fourth k l a v b w ∷ []) out
agreed_second k l a v b w step out x p q f =
    let wants : ScopedWhere (Claim k l a v b w) (Third k l a v b w ∷ Fourth k l a v b w ∷ []) (Second k l a v b w) = λ preds s all. let h = spoken preds k l a v b w s in (two_scoped preds k binary.Sep (Pts l b w) (Pts l a v) h.second h.first, h.back) in
    let y = weaker Every (Second k l a v b w) [] 1 (side_depth (Second k l a v b w)) k 1 (Room l a v b w) k x (omega arith) (omega (arith, depth_sep (Pts l b w) (Pts l a v), depth_pts l a v, depth_pts l b w, depth_pure (Eq w v), depth_eq w v)) (omega arith) q in
    next k 34 1 (Room l a v b w) (Claim k l a v b w) (Second k l a v b w) (Third k l a v b w ∷ Fourth k l a v b w ∷ []) step x out wants p y f

pub agreed_third : (k : ℕ) (l : Term) (a : ℕ) (v : Term) (b : ℕ) (w : Term) (step out x : Tree) → Left k l a v b w 35 (Third k l a v b w ∷ Fourth k l a v b w ∷ []) step → Proves Every (Third k l a v b w) [] 1 (deepest (Pts l b w ∷ Pts l b v ∷ []) [] + 4) k x → FillProves step 0 x out → Left k l a v b w 36 (Fourth k l a v b w ∷ []) out
agreed_third k l a v b w step out x p q f =
    let wants : ScopedWhere (Claim k l a v b w) (Fourth k l a v b w ∷ []) (Third k l a v b w) = λ preds s all. let h = spoken preds k l a v b w s in (two_scoped preds k binary.And (Fact (Eq w v)) (Pts l b w) h.back h.second, h.changed) in
    let y = weaker Every (Third k l a v b w) [] 1 (deepest (Pts l b w ∷ Pts l b v ∷ []) [] + 4) k 1 (Room l a v b w) k x (omega arith) (omega (arith, depth_pts l a v, depth_pts l b w, depth_pts l b v)) (omega arith) q in
    next k 35 1 (Room l a v b w) (Claim k l a v b w) (Third k l a v b w) (Fourth k l a v b w ∷ []) step x out wants p y f

pub agreed_proves : (k : ℕ) (l : Term) (a : ℕ) (v : Term) (b : ℕ) (w : Term) (step out x : Tree) → Left k l a v b w 36 (Fourth k l a v b w ∷ []) step → Proves Every (Fourth k l a v b w) [] 1 (side_depth (Fourth k l a v b w)) k x → FillProves step 0 x out → Left k l a v b w 37 [] out
agreed_proves k l a v b w step out x p q f =
    let wants : ScopedWhere (Claim k l a v b w) [] (Fourth k l a v b w) = λ preds s all. let h = spoken preds k l a v b w s in (two_scoped preds k binary.Sep (Pts l a v) (Pts l b v) h.first h.changed, h.sum) in
    let y = weaker Every (Fourth k l a v b w) [] 1 (side_depth (Fourth k l a v b w)) k 1 (Room l a v b w) k x (omega arith) (omega (arith, depth_sep (Pts l a v) (Pts l b v), depth_pts l a v, depth_pts l b w, depth_pts l b v, depth_pts l (a + b) v)) (omega arith) q in
    next k 36 1 (Room l a v b w) (Claim k l a v b w) (Fourth k l a v b w) [] step x out wants p y f

next_hole : (k n d m c j : ℕ) (e g : Entail) (gs : List Entail) (step x : Tree) → Proves Every e (g ∷ gs) n d k step → Proves Every g [] m c j x → slice_get (holes_of step) 0 ≡ Some (conclusion x)
next_hole k n d m c j e g gs step x p q = hole_is e (conclusion x) gs (g ∷ gs) n d k step p (ap (λ z. z ∷ gs) (sym q.concludes))

pub second_hole : (k : ℕ) (l : Term) (a : ℕ) (v : Term) (b : ℕ) (w : Term) (step x : Tree) → Left k l a v b w 34 (Second k l a v b w ∷ Third k l a v b w ∷ Fourth k l a v b w ∷ []) step → Proves Every (Second k l a v b w) [] 1 (side_depth (Second k l a v b w)) k x → slice_get (holes_of step) 0 ≡ Some (conclusion x)
second_hole k l a v b w step x p q = next_hole k 34 (Room l a v b w) 1 (side_depth (Second k l a v b w)) k (Claim k l a v b w) (Second k l a v b w) (Third k l a v b w ∷ Fourth k l a v b w ∷ []) step x p q

pub third_hole : (k : ℕ) (l : Term) (a : ℕ) (v : Term) (b : ℕ) (w : Term) (step x : Tree) → Left k l a v b w 35 (Third k l a v b w ∷ Fourth k l a v b w ∷ []) step → Proves Every (Third k l a v b w) [] 1 (deepest (Pts l b w ∷ Pts l b v ∷ []) [] + 4) k x → slice_get (holes_of step) 0 ≡ Some (conclusion x)
third_hole k l a v b w step x p q = next_hole k 35 (Room l a v b w) 1 (deepest (Pts l b w ∷ Pts l b v ∷ []) [] + 4) k (Claim k l a v b w) (Third k l a v b w) (Fourth k l a v b w ∷ []) step x p q

pub fourth_hole : (k : ℕ) (l : Term) (a : ℕ) (v : Term) (b : ℕ) (w : Term) (step x : Tree) → Left k l a v b w 36 (Fourth k l a v b w ∷ []) step → Proves Every (Fourth k l a v b w) [] 1 (side_depth (Fourth k l a v b w)) k x → slice_get (holes_of step) 0 ≡ Some (conclusion x)
fourth_hole k l a v b w step x p q = next_hole k 36 (Room l a v b w) 1 (side_depth (Fourth k l a v b w)) k (Claim k l a v b w) (Fourth k l a v b w) [] step x p q

pub joined_at : (k : ℕ) (a b : Formula) (l : Term) (u : ℕ) (v m : Term) (n : ℕ) (w : Term) (r : One) → a ≡ Pts l u v → b ≡ Pts m n w → l ≡ m → CombinesTo k (Pts l u v) (Pts l n w) (together l u v n w) r → Combines k a b r
joined_at k a b l u v m n w r ea eb same h =
    let eb1 : b ≡ Pts l n w = eb ∙ ap (λ x. Pts x n w) (sym same) in
    let made : Combines k (Pts l u v) (Pts l n w) r = combined k (Pts l u v) (Pts l n w) (together l u v n w) r (combine_same l l u n v w refl) h in
    subst (λ (x : Formula). Combines k a x r) (sym eb1) (subst (λ (x : Formula). Combines k x (Pts l n w) r) (sym ea) made)

loc_of : Formula → Term
loc_of (Pts l u v) = l
loc_of _ = Var 0

pub pts_same_loc : (l m : Term) (a b : ℕ) (v w : Term) → Pts l a v ≡ Pts m b w → l ≡ m
unfolding loc_of
pts_same_loc l m a b v w e = ap loc_of e

-- ---- the template of the replacement

pub template_opened : (l : Term) (u : ℕ) (x : Term) → opened_of (Pts (in_term one_up l) u (Var 0)) x ≡ Pts l u x
unfolding in_formula in_term
template_opened l u x = ap (λ z. Pts z u x) (term_opened x l)

pub shift_pts : (l : Term) (u : ℕ) (v : Term) → shift_of (Pts l u v) ≡ Pts (in_term one_up l) u (in_term one_up v)
unfolding in_formula
shift_pts l u v = refl

pub replaced_proves : (k : ℕ) (l : Term) (u : ℕ) (w v : Term) (f : Formula) (t : Tree) → f ≡ Pts (in_term one_up l) u (Var 0) → Proves Every (entail k (view.And (Fact (Eq w v)) (opened_of f w)) (opened_of f v)) [] 1 (side_depth (entail k (view.And (Fact (Eq w v)) (opened_of f w)) (opened_of f v))) k t → Proves Every (entail k (view.And (Fact (Eq w v)) (Pts l u w)) (Pts l u v)) [] 1 (deepest (Pts l u w ∷ Pts l u v ∷ []) [] + 4) k t
replaced_proves k l u w v f t is p =
    let left : opened_of f w ≡ Pts l u w = ap (λ z. opened_of z w) is ∙ template_opened l u w in
    let right : opened_of f v ≡ Pts l u v = ap (λ z. opened_of z v) is ∙ template_opened l u v in
    let e : Entail = entail k (view.And (Fact (Eq w v)) (Pts l u w)) (Pts l u v) in
    let same : entail k (view.And (Fact (Eq w v)) (opened_of f w)) (opened_of f v) ≡ e = ap (λ z. entail k (view.And (Fact (Eq w v)) z) (opened_of f v)) left ∙ ap (entail k (view.And (Fact (Eq w v)) (Pts l u w))) right in
    let q : Proves Every e [] 1 (side_depth e) k t = subst (λ (x : Entail). Proves Every x [] 1 (side_depth x) k t) same p in
    weaker Every e [] 1 (side_depth e) k 1 (deepest (Pts l u w ∷ Pts l u v ∷ []) [] + 4) k t (omega arith) (omega (arith, depth_and (Fact (Eq w v)) (Pts l u w), depth_pure (Eq w v), depth_eq w v, depth_pts l u w, depth_pts l u v)) (omega arith) q

pub pts_bounded : (k : ℕ) (l : Term) (u : ℕ) (v : Term) → IsHanded k (Pts l u v) → IsBounded (Pts l u v)
pts_bounded k l u v h = record { vars = k; scoped = h.scoped; within = omega (arith, h.within) }

pub twice_handed : (k : ℕ) (l : Term) (u : ℕ) (v : Term) → IsHanded k (Pts l u v) → IsHanded k (Pts l u l)
twice_handed k l u v h =
    let s = pts_scoped_in_to k l u v h.scoped in
    record { scoped = pts_scoped_in_from k l u l s.0 s.0; within = omega (arith, h.within, depth_pts l u v, depth_pts l u l) }

term_levels : (x : Term) → 1 ≤ term_depth x
unfolding term_depth
term_levels (Lit z) = omega arith
term_levels (Var i) = omega arith
term_levels (add a b) = omega arith
term_levels (sub a b) = omega arith
term_levels (neg a) = omega arith
term_levels (scale z a) = omega arith

template_deep : (l : Term) (u : ℕ) (v : Term) → depth_of (Pts (in_term one_up l) u (Var 0)) ≤ depth_of (Pts l u v)
template_deep l u v = omega (arith, shift_deep (Pts l u l), ap depth_of (shift_pts l u l), depth_pts l u l, depth_pts l u v, depth_pts (in_term one_up l) u (in_term one_up l), depth_pts (in_term one_up l) u (Var 0), depth_var 0, term_levels l, term_levels v)

pub template_bounded : (k : ℕ) (l : Term) (u : ℕ) (v : Term) (f : Formula) → f ≡ Pts (in_term one_up l) u (Var 0) → IsHanded k (Pts l u v) → IsBounded f
template_bounded k l u v f is h =
    let twice = twice_handed k l u v h in
    let s : ScopedIn (suc k) (Pts (in_term one_up l) u (in_term one_up l)) = subst (λ (z : Formula). ScopedIn (suc k) z) (shift_pts l u l) (shifted_in k (Pts l u l) twice.scoped) in
    let made : IsBounded (Pts (in_term one_up l) u (Var 0)) = record {
      vars = suc k;
      scoped = pts_scoped_in_from (suc k) (in_term one_up l) u (Var 0) (pts_scoped_in_to (suc k) (in_term one_up l) u (in_term one_up l) s).0 (var_scoped_from (suc k) 0 (omega arith));
      within = omega (arith, h.within, template_deep l u v);
    } in
    subst IsBounded (sym is) made

pub template_levels : (l : Term) (u : ℕ) (v : Term) (f : Formula) → f ≡ Pts (in_term one_up l) u (Var 0) → depth_of (Pts l u v) ≤ MAX_LINE_LEVELS → depth_of f ≤ MAX_LINE_LEVELS
template_levels l u v f is h = omega (arith, ap depth_of is, template_deep l u v, h)

pub val_past : (k : ℕ) (l : Term) (u : ℕ) (v : Term) → IsHanded k (Pts l u v) → TermScoped past_indices v
unfolding past_indices
val_past k l u v h = term_grows k past_indices v (omega (arith, h.within)) (pts_scoped_in_to k l u v h.scoped).1

-- another points-to at the same location, with the value of this one
pub val_levels : (l : Term) (a b : ℕ) (v : Term) → depth_of (Pts l a v) ≤ MAX_LINE_LEVELS → depth_of (Pts l b v) ≤ MAX_LINE_LEVELS
val_levels l a b v h = omega (arith, depth_pts l a v, depth_pts l b v, h)

pub other_units : (k : ℕ) (l : Term) (a b : ℕ) (v : Term) → IsHanded k (Pts l a v) → IsHanded k (Pts l b v)
other_units k l a b v h =
    let s = pts_scoped_in_to k l a v h.scoped in
    record { scoped = pts_scoped_in_from k l b v s.0 s.1; within = omega (arith, h.within, depth_pts l a v, depth_pts l b v) }
