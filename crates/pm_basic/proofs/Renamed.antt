-- Contexts in which a name becomes another one, which is free.
use Rattle.std.proofs.Common.{◌≡◌, ℕ, zero, suc, ◌≤◌, Bool, true, false, cond, List, [], ◌∷◌, length, take, map, refl, sym, ◌∙◌, ap, subst, arith, Some, None, bytes_eq, position, slice_get}
use Rattle.std.specs.Prelude.{Result, Err}
use Rattle.pm_logic.specs.declared.formula.Formula.{Formula}
use Rattle.pm_logic.specs.declared.formula.Formula.TheVariants.{Pure as Assert}
use Rattle.pm_goal.specs.declared.goal.Hyp.{Hyp}
use Rattle.pm_goal.specs.declared.goal.Fact.{Fact}
use Rattle.pm_goal.specs.declared.goal.Goal.{Goal}
use Rattle.pm_goal.specs.declared.work.Kind.{Kind}
use Rattle.pm_goal.specs.declared.work.Work.{Work}
use Rattle.pm_goal.specs.declared.refusal.Row.TheVariants.{NoSuchHypothesis, NameInUse}
use Rattle.pm_goal.specs.declared.refusal.StepFault.{StepFault}
use Rattle.pm_goal.specs.Left.{facts, hyps, hyps_as, of_kind, star_onto}
use Rattle.pm_goal.specs.declared.work.Kind.TheVariants as kind
use Rattle.pm_logic.specs.declared.formula.Pure.TheVariants as pure
use Rattle.pm_proof.specs.Trees.{entail}
use Rattle.pm_proof.specs.declared.proof.Parts.{Parts}
use Rattle.pm_table.specs.declared.place.Place.{Place}
use Rattle.pm_table.specs.Limits.{limited, resting}
use Rattle.pm_table.specs.Outcomes.{require}
use Rattle.pm_table.specs.Works.{Named, has_hyp_or_fact, fits}
use Rattle.pm_table.specs.Stepping.{times}
use Rattle.pm_table.specs.Basic.{on_goal, rename, renamed, with_renamed, gives_goal}
use Rattle.pm_table.proofs.Counting.{hyp_names, fact_names, times_in_goal, fitting}
use Rattle.pm_action.specs.Meanings.{meaning}
use Rattle.pm_action.specs.Acting.{Answers, Refuses, StaysAs, IsHanded}
use Rattle.pm_action.specs.Naming.{HypsDiffer, FactsDiffer, IsFindable}
use Rattle.pm_action.proofs.Filtered.{zero_position}
use Rattle.pm_basic.specs.Renamings.{renamed_hyp, renamed_fact, NoHyp, NoFact}
use Rattle.pm_basic.proofs.Building.{each, IsBuilt, each_one, built_all, name_is, get_mapped, take_mapped, counted, not_before}
use Rattle.pm_basic.proofs.Ending.{on_rest, required, not_required, rested}

module _ (h k : Named) where
  abbrev ren : Named → Named
  ren x = renamed h k x

  -- ---- names that don't occur among the new ones

  new_step : (b c : Bool) (y : Named) (n m p : ℕ) → bytes_eq h y ≡ b → bytes_eq k y ≡ c → cond b (suc n) n ≡ 0 → cond c (suc m) m ≡ 0 → (n ≡ 0 → m ≡ 0 → p ≡ 0) → cond (bytes_eq k (cond b k y)) (suc p) p ≡ 0
  new_step true c y n m p eb ec nh nk rest = absurd (omega (arith, nh))
  new_step false true y n m p eb ec nh nk rest = absurd (omega (arith, nk))
  new_step false false y n m p eb ec nh nk rest = rw ec (rest nh nk)

  -- the new name, where neither occurred
  new_absent : (xs : List Named) → times h xs ≡ 0 → times k xs ≡ 0 → times k (map ren xs) ≡ 0
  new_absent [] nh nk = refl
  new_absent (y ∷ xs) nh nk = new_step (bytes_eq h y) (bytes_eq k y) y (times h xs) (times k xs) (times k (map ren xs)) refl refl nh nk (new_absent xs)

  old_step : (x : Named) (b c : Bool) (y : Named) (n p : ℕ) → bytes_eq x k ≡ false → bytes_eq x y ≡ c → cond c (suc n) n ≡ 0 → (n ≡ 0 → p ≡ 0) → cond (bytes_eq x (cond b k y)) (suc p) p ≡ 0
  old_step x b true y n p other ec nx rest = absurd (omega (arith, nx))
  old_step x true false y n p other ec nx rest = rw other (rest nx)
  old_step x false false y n p other ec nx rest = rw ec (rest nx)

  -- another one, where it didn't occur
  old_absent : (x : Named) (xs : List Named) → bytes_eq x k ≡ false → times x xs ≡ 0 → times x (map ren xs) ≡ 0
  old_absent x [] other nx = refl
  old_absent x (y ∷ xs) other nx = old_step x (bytes_eq h y) (bytes_eq x y) y (times x xs) (times x (map ren xs)) other refl nx (old_absent x xs other)

  fewer_step : (b : Bool) (n m : ℕ) → cond b (suc n) n ≡ 0 → (n ≡ 0 → m ≡ 0) → cond b (suc m) m ≡ 0
  fewer_step true n m e rest = absurd (omega (arith, e))
  fewer_step false n m e rest = rest e

  absent_before : (x : Named) (xs : List Named) (i : ℕ) → times x xs ≡ 0 → times x (take i xs) ≡ 0
  absent_before x [] zero e = refl
  absent_before x [] (suc i) e = refl
  absent_before x (y ∷ xs) zero e = refl
  absent_before x (y ∷ xs) (suc i) e = fewer_step (bytes_eq x y) (times x xs) (times x (take i xs)) e (absent_before x xs i)

  -- the name that an item gets isn't that of one before
  fresh_name : (xs : List Named) (i : ℕ) (x : Named) → slice_get xs i ≡ Some x → ((n : Named) → times n xs ≤ 1) → times k xs ≡ 0 → times (ren x) (map ren (take i xs)) ≡ 0
  fresh_name xs i x at apart free = by (bytes_eq h x) refl
    where
      other_name : (c : Bool) → bytes_eq x k ≡ c → bytes_eq x k ≡ false
      other_name true e = absurd (omega (arith, ap (λ (y : Named). times y xs) (name_is x k e), counted x xs i at, free))
      other_name false e = e

      by : (b : Bool) → bytes_eq h x ≡ b → times (cond b k x) (map ren (take i xs)) ≡ 0
      by true e =
          let same : h ≡ x = name_is h x e in
          new_absent (take i xs) (ap (λ (y : Named). times y (take i xs)) same ∙ not_before x xs i at (apart x)) (absent_before k xs i free)
      by false e = old_absent x (take i xs) (other_name (bytes_eq x k) refl) (not_before x xs i at (apart x))

  -- ---- contexts

  names_of_hyps : (hs : List Hyp) → hyp_names (each (λ (g : Hyp). renamed_hyp h k g ∷ []) hs) ≡ map ren (hyp_names hs)
  names_of_hyps [] = refl
  names_of_hyps (g ∷ hs) = ap (λ ns. ren g.name ∷ ns) (names_of_hyps hs)

  names_of_facts : (fs : List Fact) → fact_names (each (λ (f : Fact). renamed_fact h k f ∷ []) fs) ≡ map ren (fact_names fs)
  names_of_facts [] = refl
  names_of_facts (f ∷ fs) = ap (λ ns. ren f.name ∷ ns) (names_of_facts fs)

  pub hyp_fresh : (hs : List Hyp) (i : ℕ) (x : Hyp) (out : List Hyp) → slice_get hs i ≡ Some x → HypsDiffer hs → NoHyp k hs → IsBuilt (λ (g : Hyp). renamed_hyp h k g ∷ []) hs i out → position (λ g. bytes_eq (renamed h k x.name) g.name) out ≡ None
  hyp_fresh hs i x out at apart free b =
      zero_position (λ (g : Hyp). g.name) h (ren x.name) out
      (ap (λ (ys : List Hyp). times (ren x.name) (hyp_names ys)) b.is ∙ ap (times (ren x.name)) (names_of_hyps (take i hs) ∙ ap (map ren) (take_mapped (λ (g : Hyp). g.name) hs i))
      ∙ fresh_name (hyp_names hs) i x.name (get_mapped (λ (g : Hyp). g.name) hs i x at) apart free)

  pub fact_fresh : (fs : List Fact) (i : ℕ) (x : Fact) (out : List Fact) → slice_get fs i ≡ Some x → FactsDiffer fs → NoFact k fs → IsBuilt (λ (f : Fact). renamed_fact h k f ∷ []) fs i out → position (λ f. bytes_eq (renamed h k x.name) f.name) out ≡ None
  fact_fresh fs i x out at apart free b =
      zero_position (λ (f : Fact). f.name) h (ren x.name) out
      (ap (λ (ys : List Fact). times (ren x.name) (fact_names ys)) b.is ∙ ap (times (ren x.name)) (names_of_facts (take i fs) ∙ ap (map ren) (take_mapped (λ (f : Fact). f.name) fs i))
      ∙ fresh_name (fact_names fs) i x.name (get_mapped (λ (f : Fact). f.name) fs i x at) apart free)

  pub hyps_done : (hs : List Hyp) (i : ℕ) (out : List Hyp) → length hs ≤ i → IsBuilt (λ (g : Hyp). renamed_hyp h k g ∷ []) hs i out → out ≡ map (renamed_hyp h k) hs
  hyps_done hs i out le b = built_all (λ (g : Hyp). renamed_hyp h k g ∷ []) hs i out le b ∙ each_one (renamed_hyp h k) hs

  pub facts_done : (fs : List Fact) (i : ℕ) (out : List Fact) → length fs ≤ i → IsBuilt (λ (f : Fact). renamed_fact h k f ∷ []) fs i out → out ≡ map (renamed_fact h k) fs
  facts_done fs i out le b = built_all (λ (f : Fact). renamed_fact h k f ∷ []) fs i out le b ∙ each_one (renamed_fact h k) fs

  -- ---- the meaning is the same

  hyps_same : (z : Kind) (hs : List Hyp) → hyps_as z (map (renamed_hyp h k) hs) ≡ hyps_as z hs
  hyps_same z [] = refl
  hyps_same z (g ∷ hs) = ap (λ fs. of_kind z g.formula ∷ fs) (hyps_same z hs)

  facts_same : (fs : List Fact) → facts (map (renamed_fact h k) fs) ≡ facts fs
  facts_same [] = refl
  facts_same (f ∷ fs) = ap (λ gs. Assert f.pure ∷ gs) (facts_same fs)

  means_same : (g : Goal) → meaning (resting (with_renamed h k g)) ≡ meaning (resting g)
  means_same g =
      let end : Formula = star_onto [] (Assert pure.True) in
      let n : ℕ = length g.vars in
      let p : List Formula = facts (map (renamed_fact h k) g.pures) in
      let i : List Formula = hyps_as kind.Int (map (renamed_hyp h k) g.ints) in
      ap (λ (fs : List Formula). entail n (star_onto p (star_onto i (star_onto fs end))) g.concl) (hyps_same kind.Spat g.spats)
      ∙ ap (λ (fs : List Formula). entail n (star_onto p (star_onto fs (star_onto (hyps g.spats) end))) g.concl) (hyps_same kind.Int g.ints)
      ∙ ap (λ (fs : List Formula). entail n (star_onto fs (star_onto (hyps_as kind.Int g.ints) (star_onto (hyps g.spats) end))) g.concl) (facts_same g.pures)

  pub renamed_means : (w new : Work) → w.held ≡ [] → new ≡ resting (with_renamed h k w.goal) → meaning new ≡ meaning w
  renamed_means w new nothing is = ap meaning is ∙ means_same w.goal ∙ sym (ap meaning (rested w nothing))

  -- ---- what is free

  pub free_facts : (g : Goal) → fits g k ≡ true → NoFact k g.pures
  free_facts g e = omega (arith, times_in_goal k g, fitting g k e)

  pub free_ints : (g : Goal) → fits g k ≡ true → NoHyp k g.ints
  free_ints g e = omega (arith, times_in_goal k g, fitting g k e)

  pub free_spats : (g : Goal) → fits g k ≡ true → NoHyp k g.spats
  free_spats g e = omega (arith, times_in_goal k g, fitting g k e)

  -- ---- the row

  module _ (s : ℕ) (w : Work) (nothing : w.held ≡ []) where
    pub rename_missing : (f : StepFault) → has_hyp_or_fact w.goal h ≡ false → Refuses NoSuchHypothesis h f → Answers s w (limited (on_goal (rename h k) w)) (Err f)
    rename_missing f none r =
        on_rest s w (rename h k) (Err f) nothing (not_required s w (has_hyp_or_fact w.goal h) NoSuchHypothesis h (require (fits w.goal k) NameInUse k (gives_goal (with_renamed h k w.goal))) f none r)

    pub rename_taken : (f : StepFault) → has_hyp_or_fact w.goal h ≡ true → fits w.goal k ≡ false → Refuses NameInUse k f → Answers s w (limited (on_goal (rename h k) w)) (Err f)
    rename_taken f there taken r =
        on_rest s w (rename h k) (Err f) nothing
        (required s w (has_hyp_or_fact w.goal h) NoSuchHypothesis h (require (fits w.goal k) NameInUse k (gives_goal (with_renamed h k w.goal))) (Err f) there
        (not_required s w (fits w.goal k) NameInUse k (gives_goal (with_renamed h k w.goal)) f taken r))

    pub rename_done : (new : Work) (r : Result (Parts Place) StepFault) → has_hyp_or_fact w.goal h ≡ true → fits w.goal k ≡ true → new ≡ resting (with_renamed h k w.goal) → StaysAs w new r → Answers s w (limited (on_goal (rename h k) w)) r
    rename_done new r there free is stays =
        let stays1 : StaysAs w (resting (with_renamed h k w.goal)) r = subst (λ (x : Work). StaysAs w x r) is stays in
        on_rest s w (rename h k) r nothing
        (required s w (has_hyp_or_fact w.goal h) NoSuchHypothesis h (require (fits w.goal k) NameInUse k (gives_goal (with_renamed h k w.goal))) r there
        (required s w (fits w.goal k) NameInUse k (gives_goal (with_renamed h k w.goal)) r free (stays1 s)))

pub findable : (w : Work) → IsHanded w → IsFindable w.goal
findable w h = record { vars = omega (arith, h.few); pures = omega (arith, h.few); ints = omega (arith, h.few); spats = omega (arith, h.few) }
