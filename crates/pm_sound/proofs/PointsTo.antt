-- Points-to.
use Rattle.std.proofs.Common.{◌≡◌, ℕ, ◌≤◌, ◌<◌, ◌+◌, ◌-◌, ◌∷◌, ℤ, pos, refl, sym, ap, ◌∙◌, arith, subst, le_refl, lit≤}
use Rattle.pm_logic.specs.declared.formula.Formula.{Formula}
use Rattle.pm_logic.specs.declared.formula.Formula.TheVariants.{Pure as Fact, Pts}
use Rattle.pm_logic.specs.declared.formula.Preds.{Preds}
use Rattle.pm_logic.specs.declared.formula.Pure.TheVariants.{False, Eq}
use Rattle.pm_logic.specs.declared.formula.Term.{Term}
use Rattle.pm_logic.specs.declared.formula.Term.TheVariants.{Var}
use Rattle.pm_logic.specs.declared.formula.TheConstants.{UNIT}
use Rattle.pm_logic.specs.Trees.{Sep, Ex, Upd}
use Rattle.pm_logic.specs.Substitution.{raised}
use Rattle.pm_logic.specs.Values.{eval}
use Rattle.pm_model.specs.Resource.{Content, Empty, Has, plus, IsValid, Compatible}
use Rattle.pm_model.specs.Forcing.{HasAtLeast}
use Rattle.pm_model.specs.Entailment.{IsTrueEntailment}
use Rattle.pm_model.proofs.Values.{raised_value}
use Rattle.pm_model.proofs.Single.{single, single_at, single_joins, fresh_at, put, put_at, split_at}

-- ---- one location

has_both : (c d : Content) (a b : ℕ) (v : ℤ) → Compatible c d → HasAtLeast c a v → HasAtLeast d b v → HasAtLeast (plus c d) (a + b) v
has_both Empty d a b v f h k = absurd h
has_both (Has u x) Empty a b v f h k = absurd k
has_both (Has u x) (Has w y) a b v f h k = (omega arith, h.1)

has_agree : (c d : Content) (a b : ℕ) (v w : ℤ) → Compatible c d → HasAtLeast c a v → HasAtLeast d b w → (v ≡ w) × (a + b ≤ UNIT)
has_agree Empty d a b v w f h k = absurd h
has_agree (Has u x) Empty a b v w f h k = absurd k
has_agree (Has u x) (Has w y) a b v w' f h k = (sym h.1 ∙ f.0 ∙ k.1, omega arith)

-- what is compatible with a whole is empty
whole_alone : (c d : Content) (v : ℤ) → IsValid c → Compatible c d → HasAtLeast d UNIT v → c ≡ Empty
whole_alone Empty d v w f h = refl
whole_alone (Has u x) Empty v w f h = absurd h
whole_alone (Has u x) (Has y z) v w f h = absurd (omega arith)

-- some units, of which a and b can be taken
abbrev Splits : Content → ℕ → ℕ → ℤ → Type 0
Splits c a b v = (w : ℕ) × (a + b ≤ w) × (w ≤ UNIT) × (c ≡ Has w v)

splits : (c : Content) (a b : ℕ) (v : ℤ) → IsValid c → HasAtLeast c (a + b) v → Splits c a b v
splits Empty a b v w h = absurd h
splits (Has u x) a b v w h = (u, h.0, w.1, ap (λ y. Has u y) h.1)

whole_valid : (1 ≤ UNIT) × (UNIT ≤ UNIT)
whole_valid = (lit≤ tt, le_refl UNIT)

has_whole : (v w : ℤ) (c : Content) → c ≡ Has UNIT v → v ≡ w → HasAtLeast c UNIT w
has_whole v w c e d = subst (λ x. HasAtLeast x UNIT w) (sym e) (le_refl UNIT, d)

-- ---- the rules

pub pts_split_true : (preds : Preds) (k : ℕ) (l v : Term) (a b : ℕ) → 1 ≤ a → 1 ≤ b → IsTrueEntailment preds k (Pts l (a + b) v) (Sep (Pts l a v) (Pts l b v))
pts_split_true preds k l v a b la lb = record {
  holds = λ env len n r h.
      let z = eval env l in
      let x = eval env v in
      let (w, le, top, e) = splits (r.at z) a b x (r.valid z) h in
      let va : IsValid (Has a x) = (la, omega arith) in
      let vb : IsValid (Has (w - a) x) = (omega arith, omega arith) in
      let fit : Compatible (Has a x) (Has (w - a) x) = (refl, omega arith) in
      let sum : w ≡ a + (w - a) = omega arith in
      let j = split_at r z (Has a x) (Has (w - a) x) va vb fit (e ∙ ap (λ u. Has u x) sum) in
      let ha = subst (λ c. HasAtLeast c a x) (sym (single_at z (Has a x) va)) (le_refl a, refl) in
      let hb = subst (λ c. HasAtLeast c b x) (sym (put_at r z (Has (w - a) x) vb)) (omega arith, refl) in
      (single z (Has a x) va, put r z (Has (w - a) x) vb, j, ha, hb);
}

pub pts_join_true : (preds : Preds) (k : ℕ) (l v : Term) (a b : ℕ) → IsTrueEntailment preds k (Sep (Pts l a v) (Pts l b v)) (Pts l (a + b) v)
pts_join_true preds k l v a b = record {
  holds = λ env len n r h.
      let (r1, r2, j, ha, hb) = h in
      let z = eval env l in
      subst (λ c. HasAtLeast c (a + b) (eval env v)) (sym (j.sums z)) (has_both (r1.at z) (r2.at z) a b (eval env v) (j.fits z) ha hb);
}

pub pts_agree_true : (preds : Preds) (k : ℕ) (l v w : Term) (a b : ℕ) → IsTrueEntailment preds k (Sep (Pts l a v) (Pts l b w)) (Fact (Eq v w))
pts_agree_true preds k l v w a b = record {
  holds = λ env len n r h.
      let (r1, r2, j, ha, hb) = h in
      let z = eval env l in
      (has_agree (r1.at z) (r2.at z) a b (eval env v) (eval env w) (j.fits z) ha hb).0;
}

pub pts_over_true : (preds : Preds) (k : ℕ) (l v w : Term) (a b : ℕ) → UNIT < a + b → IsTrueEntailment preds k (Sep (Pts l a v) (Pts l b w)) (Fact False)
pts_over_true preds k l v w a b lt = record {
  holds = λ env len n r h.
      let (r1, r2, j, ha, hb) = h in
      let z = eval env l in
      let le = (has_agree (r1.at z) (r2.at z) a b (eval env v) (eval env w) (j.fits z) ha hb).1 in
      absurd (omega arith);
}

pub pts_write_true : (preds : Preds) (k : ℕ) (l v w : Term) → IsTrueEntailment preds k (Pts l UNIT v) (Upd (Pts l UNIT w))
pts_write_true preds k l v w = record {
  holds = λ env len n r h g c i.
      let z = eval env l in
      let x = eval env w in
      let cell = Has UNIT x in
      let (d, j) = single_joins g z cell whole_valid (whole_alone (g.at z) (r.at z) (eval env v) (g.valid z) (i.fits z) h) in
      (single z cell whole_valid, d, j, has_whole x x ((single z cell whole_valid).at z) (single_at z cell whole_valid) refl);
}

-- at a location that the frame lacks
pub pts_new_true : (preds : Preds) (k : ℕ) (x : Formula) (v : Term) → IsTrueEntailment preds k x (Upd (Ex (Pts (Var 0) UNIT (raised v))))
pts_new_true preds k x v = record {
  holds = λ env len n r h f c i.
      let l = pos f.bound in
      let y = eval env v in
      let cell = Has UNIT y in
      let (d, j) = single_joins f l cell whole_valid (fresh_at f) in
      (single l cell whole_valid, d, j, (l, has_whole y (eval (l ∷ env) (raised v)) ((single l cell whole_valid).at l) (single_at l cell whole_valid) (sym (raised_value l env v))));
}
