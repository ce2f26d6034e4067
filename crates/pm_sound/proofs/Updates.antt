-- Updates.
use Rattle.std.proofs.Common.{ℕ}
use Rattle.pm_logic.specs.declared.formula.Formula.{Formula}
use Rattle.pm_logic.specs.declared.formula.Formula.TheVariants.{Pure as Fact}
use Rattle.pm_logic.specs.declared.formula.Preds.{Preds}
use Rattle.pm_logic.specs.declared.formula.Pure.{Pure}
use Rattle.pm_logic.specs.Trees.{Sep, Upd}
use Rattle.pm_model.specs.Resource.{core}
use Rattle.pm_model.specs.Entailment.{IsTrueEntailment}
use Rattle.pm_model.proofs.Joins.{joins_assoc, joins_assoc_left}
use Rattle.pm_model.proofs.Core.{core_joins}

pub upd_mono_true : (preds : Preds) (k : ℕ) (x y : Formula) → IsTrueEntailment preds k x y → IsTrueEntailment preds k (Upd x) (Upd y)
upd_mono_true preds k x y f = record {
  holds = λ env len n r h g c j.
      let (s, d, i, a) = h g c j in
      (s, d, i, f.holds env len n s a);
}

pub upd_intro_true : (preds : Preds) (k : ℕ) (x : Formula) → IsTrueEntailment preds k x (Upd x)
upd_intro_true preds k x = record { holds = λ env len n r h g c j. (r, c, j, h) }

pub upd_trans_true : (preds : Preds) (k : ℕ) (x : Formula) → IsTrueEntailment preds k (Upd (Upd x)) (Upd x)
upd_trans_true preds k x = record {
  holds = λ env len n r h g c j.
      let (s, d, i, a) = h g c j in
      a g d i;
}

-- the framed part joins the frame while the other part is updated
pub upd_frame_true : (preds : Preds) (k : ℕ) (x y : Formula) → IsTrueEntailment preds k (Sep y (Upd x)) (Upd (Sep y x))
upd_frame_true preds k x y = record {
  holds = λ env len n r h f c i.
      let (r1, r2, j, hy, hu) = h in
      let (fr, p, q) = joins_assoc_left j i in
      let (s, d, o, hx) = hu fr c q in
      let (rs, u, v) = joins_assoc p o in
      (rs, d, v, (r1, s, u, hy, hx));
}

pub upd_pure_true : (preds : Preds) (k : ℕ) (a : Pure) → IsTrueEntailment preds k (Upd (Fact a)) (Fact a)
upd_pure_true preds k a = record { holds = λ env len n r h. (h (core r) r (core_joins r)).3 }
