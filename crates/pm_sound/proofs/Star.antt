-- Star and wand.
use Rattle.std.proofs.Common.{ℕ, length, le_refl}
use Rattle.pm_logic.specs.declared.formula.Formula.{Formula}
use Rattle.pm_logic.specs.declared.formula.Formula.TheVariants.{Pure as Fact}
use Rattle.pm_logic.specs.declared.formula.Pure.TheVariants.{True}
use Rattle.pm_logic.specs.declared.formula.Preds.{Preds}
use Rattle.pm_logic.specs.Trees.{Sep, Wand}
use Rattle.pm_model.specs.Resource.{core}
use Rattle.pm_model.specs.Entailment.{IsTrueEntailment}
use Rattle.pm_model.proofs.Joins.{joins_comm, joins_assoc, joins_assoc_left, extends_refl, extends_left}
use Rattle.pm_model.proofs.Core.{core_joins}
use Rattle.pm_sound.proofs.Connectives.{grown}

pub sep_mono_true : (preds : Preds) (k : ℕ) (x y x1 y1 : Formula) → IsTrueEntailment preds k x x1 → IsTrueEntailment preds k y y1 → IsTrueEntailment preds k (Sep x y) (Sep x1 y1)
sep_mono_true preds k x y x1 y1 f g = record {
  holds = λ env len n r h.
      let (r1, r2, j, hx, hy) = h in
      (r1, r2, j, f.holds env len n r1 hx, g.holds env len n r2 hy);
}

pub sep_comm_true : (preds : Preds) (k : ℕ) (x y : Formula) → IsTrueEntailment preds k (Sep x y) (Sep y x)
sep_comm_true preds k x y = record {
  holds = λ env len n r h.
      let (r1, r2, j, hx, hy) = h in
      (r2, r1, joins_comm j, hy, hx);
}

pub sep_assoc_r_true : (preds : Preds) (k : ℕ) (x y z : Formula) → IsTrueEntailment preds k (Sep (Sep x y) z) (Sep x (Sep y z))
sep_assoc_r_true preds k x y z = record {
  holds = λ env len n r h.
      let (r12, r3, j, hxy, hz) = h in
      let (r1, r2, i, hx, hy) = hxy in
      let (r23, p, q) = joins_assoc i j in
      (r1, r23, q, hx, (r2, r3, p, hy, hz));
}

pub sep_assoc_l_true : (preds : Preds) (k : ℕ) (x y z : Formula) → IsTrueEntailment preds k (Sep x (Sep y z)) (Sep (Sep x y) z)
sep_assoc_l_true preds k x y z = record {
  holds = λ env len n r h.
      let (r1, r23, j, hx, hyz) = h in
      let (r2, r3, i, hy, hz) = hyz in
      let (r12, p, q) = joins_assoc_left i j in
      (r12, r3, q, (r1, r2, p, hx, hy), hz);
}

pub sep_unit_true : (preds : Preds) (k : ℕ) (x : Formula) → IsTrueEntailment preds k x (Sep (Fact True) x)
sep_unit_true preds k x = record { holds = λ env len n r h. (core r, r, core_joins r, tt, h) }

pub sep_weaken_true : (preds : Preds) (k : ℕ) (x y : Formula) → IsTrueEntailment preds k (Sep x y) x
sep_weaken_true preds k x y = record {
  holds = λ env len n r h.
      let (r1, r2, j, hx, hy) = h in
      grown preds x env n n (length preds.list) r1 r (le_refl n) (extends_left j) hx;
}

pub wand_i_true : (preds : Preds) (k : ℕ) (x y z : Formula) → IsTrueEntailment preds k (Sep x y) z → IsTrueEntailment preds k x (Wand y z)
wand_i_true preds k x y z f = record {
  holds = λ env len n r h m le s c j hy.
      f.holds env len m c (r, s, j, grown preds x env n m (length preds.list) r r le (extends_refl r) h, hy);
}

pub wand_e_true : (preds : Preds) (k : ℕ) (x y z : Formula) → IsTrueEntailment preds k x (Wand y z) → IsTrueEntailment preds k (Sep x y) z
wand_e_true preds k x y z f = record {
  holds = λ env len n r h.
      let (r1, r2, j, hx, hy) = h in
      f.holds env len n r1 hx n (le_refl n) r2 r j hy;
}
