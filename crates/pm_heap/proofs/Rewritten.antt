-- Contexts and stars with another formula in the place of a hypothesis.
use Rattle.std.proofs.Common.{◌≡◌, ℕ, zero, suc, ◌+◌, ◌<◌, ◌≤◌, Bool, true, false, cond, List, [], ◌∷◌, ◌++◌, length, map, insert, remove, refl, sym, ◌∙◌, ap, ap₂, subst, arith, Option, Some, None, option_map, position, bytes_eq, slice_get}
use Rattle.pm_logic.specs.declared.formula.Formula.{Formula}
use Rattle.pm_goal.specs.declared.goal.Hyp.{Hyp}
use Rattle.pm_goal.specs.declared.goal.Goal.{Goal}
use Rattle.pm_goal.specs.declared.work.Kind.TheVariants as kind
use Rattle.pm_goal.specs.Left.{facts, hyps_as, hyps}
use Rattle.pm_star.specs.Stars.{shared, parts, without}
use Rattle.pm_table.specs.Works.{Named, hyp}
use Rattle.pm_table.specs.Heap.{put_in, put}
use Rattle.pm_table.specs.Stepping.{times, NamesDiffer}
use Rattle.pm_table.proofs.Counting.{hyp_names, fact_names, times_in_goal}
use Rattle.pm_hand.proofs.Lookups.{spat_looked}
use Rattle.pm_hand.proofs.Lasts.{shared_count}
use Rattle.pm_basic.proofs.Building.{counted, get_mapped, name_is}
use Rattle.pm_basic.proofs.Naming.{hyp_found}
use Rattle.pm_heap.specs.Found.{IsSpatialAt, placed}

abbrev name_of : Hyp → Named
name_of h = h.name

-- ---- the table's recursion, item by item

pub put_is : (name : Named) (f : Formula) (hs : List Hyp) → map (placed name f) hs ≡ put_in name f hs
put_is name f [] = refl
put_is name f (h ∷ hs) = ap₂ (λ x xs. x ∷ xs) (by (bytes_eq name h.name) refl) (put_is name f hs)
  where
    by : (b : Bool) → bytes_eq name h.name ≡ b → hyp h.name (cond b f h.formula) ≡ cond b (hyp name f) h
    by true e = ap (λ n. hyp n f) (sym (name_is name h.name e))
    by false e = refl

-- ---- where it is

module _ (name : Named) (f : Formula) where
  put_none : (hs : List Hyp) → times name (hyp_names hs) ≡ 0 → put_in name f hs ≡ hs
  put_none [] e = refl
  put_none (h ∷ hs) e = by (bytes_eq name h.name) e (put_none hs)
    where
      by : (b : Bool) → cond b (suc (times name (hyp_names hs))) (times name (hyp_names hs)) ≡ 0 → (times name (hyp_names hs) ≡ 0 → put_in name f hs ≡ hs) → cond b (hyp name f) h ∷ put_in name f hs ≡ h ∷ hs
      by true n rest = absurd (omega (arith, n))
      by false n rest = ap (λ l. h ∷ l) (rest n)

  pub there : (hs : List Hyp) (i : ℕ) (x : Hyp) → slice_get hs i ≡ Some x → bytes_eq name x.name ≡ true → 1 ≤ times name (hyp_names hs)
  there hs i x get is = counted name (hyp_names hs) i (get_mapped name_of hs i x get ∙ ap Some (sym (name_is name x.name is)))

  put_at : (hs : List Hyp) (i : ℕ) (x : Hyp) → slice_get hs i ≡ Some x → bytes_eq name x.name ≡ true → times name (hyp_names hs) ≤ 1 → hyps (put_in name f hs) ≡ insert (remove (hyps hs) i) i f
  put_at [] i x get is most = absurd cc
  put_at (y ∷ ys) zero x get is most = by (bytes_eq name y.name) (let same : y ≡ x = cc in ap (λ (h : Hyp). bytes_eq name h.name) same ∙ is) most
    where
      by : (b : Bool) → b ≡ true → cond b (suc (times name (hyp_names ys))) (times name (hyp_names ys)) ≤ 1 → hyps (cond b (hyp name f) y ∷ put_in name f ys) ≡ f ∷ hyps ys
      by true e m = ap (λ zs. f ∷ hyps zs) (put_none ys (omega (arith, m)))
      by false e m = absurd cc
  put_at (y ∷ ys) (suc i) x get is most = by (bytes_eq name y.name) most (put_at ys i x get is)
    where
      by : (b : Bool) → cond b (suc (times name (hyp_names ys))) (times name (hyp_names ys)) ≤ 1 → (times name (hyp_names ys) ≤ 1 → hyps (put_in name f ys) ≡ insert (remove (hyps ys) i) i f) → hyps (cond b (hyp name f) y ∷ put_in name f ys) ≡ y.formula ∷ insert (remove (hyps ys) i) i f
      by true m rest = absurd (let least = there ys i x get is in omega (arith, m, least))
      by false m rest = ap (λ l. y.formula ∷ l) (rest m)

behind : (fs gs : List Formula) (i n : ℕ) (x : Formula) → n ≡ length fs + i → fs ++ insert (remove gs i) i x ≡ insert (remove (fs ++ gs) n) n x
behind [] gs i n x e = let same : i ≡ n = omega (arith, e) in ap (λ j. insert (remove gs j) j x) same
behind (f ∷ fs) gs i zero x e = absurd (omega (arith, e))
behind (f ∷ fs) gs i (suc n) x e = ap (λ l. f ∷ l) (behind fs gs i n x (omega (arith, e)))

module _ (goal : Goal) (name : Named) (apart : NamesDiffer goal) where
  at_most : times name (fact_names goal.pures) + (times name (hyp_names goal.ints) + times name (hyp_names goal.spats)) ≤ 1
  at_most = let all = times_in_goal name goal in let most = apart name in omega (arith, all, most)

  pub spatial_is : (i : ℕ) (f : Formula) (place : ℕ) → position (λ (h : Hyp). bytes_eq name h.name) goal.spats ≡ Some i → Some f ≡ option_map (λ (h : Hyp). h.formula) (slice_get goal.spats i) → place ≡ length goal.pures + length goal.ints + i → IsSpatialAt goal name place f
  spatial_is i f place e formed here =
      let found = hyp_found name goal.spats i e in
      let least : 1 ≤ times name (hyp_names goal.spats) = there name f goal.spats i found.at.item found.at.get found.at.named in
      let no_ints : times name (hyp_names goal.ints) ≡ 0 = omega (arith, at_most, least) in
      let once : times name (hyp_names goal.spats) ≤ 1 = omega (arith, at_most) in
      record {
        at = spat_looked goal name apart i f place e formed here;
        puts = λ g.
            ap (λ is. (facts goal.pures ++ hyps_as kind.Int is) ++ hyps (put_in name g goal.spats)) (put_none name g goal.ints no_ints)
            ∙ ap (λ l. shared goal ++ l) (put_at name g goal.spats i found.at.item found.at.get found.at.named once)
            ∙ behind (shared goal) (hyps goal.spats) i place g (omega (arith, here, shared_count goal));
      }
