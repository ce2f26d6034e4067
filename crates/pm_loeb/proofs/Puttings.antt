-- Contexts in which the hypothesis of a name is another.
use Rattle.std.proofs.Common.{◌≡◌, ℕ, zero, suc, ◌+◌, ◌-◌, ◌<◌, ◌≤◌, Bool, true, false, cond, List, [], ◌∷◌, ◌++◌, length, length-append, take, set, refl, sym, ◌∙◌, ap, ap₂, arith, Option, Some, None, position, bytes_eq, slice_get}
use Rattle.std.specs.Prelude.{option_map}
use Rattle.std.specs.List.{position_from}
use Rattle.std.proofs.lemmas.Iterator.Adapters.{position_from-zero}
use Rattle.std.proofs.lemmas.List.{length-map, set-append_left, set-append_right}
use Rattle.pm_logic.specs.declared.formula.Formula.{Formula}
use Rattle.pm_goal.specs.declared.goal.Hyp.{Hyp}
use Rattle.pm_goal.specs.declared.goal.Fact.{Fact}
use Rattle.pm_goal.specs.declared.goal.Goal.{Goal}
use Rattle.pm_goal.specs.declared.work.Kind.{Kind}
use Rattle.pm_goal.specs.declared.work.Kind.TheVariants as kind
use Rattle.pm_goal.specs.Left.{of_kind, facts, hyps, hyps_as}
use Rattle.pm_goal.specs.Find.{first_of_two}
use Rattle.pm_logic.specs.declared.formula.Formula.TheVariants.{Pure as Assert}
use Rattle.pm_star.specs.Stars.{parts, shared}
use Rattle.pm_table.specs.Works.{Named, hyp, hyp_named}
use Rattle.pm_table.specs.Heap.{put_in, put}
use Rattle.pm_table.specs.Loeb.{formula_named}
use Rattle.pm_table.specs.Stepping.{times, NamesDiffer}
use Rattle.pm_table.proofs.Counting.{hyp_names, fact_names, times_in_goal}
use Rattle.pm_action.specs.Naming.{HypsDiffer}
use Rattle.pm_action.proofs.Filtered.{zero_position}
use Rattle.pm_basic.proofs.Building.{each, IsBuilt, built_all, name_is, get_mapped, take_mapped, not_before}
use Rattle.pm_hand.specs.Looking.{IsHypAt}
use Rattle.pm_hand.proofs.Lists.{IsFound, found_at, within as found_within}
use Rattle.pm_hand.proofs.Lookups.{spat_looked, int_looked}
use Rattle.pm_loeb.specs.Spots.{IsThere}

module _ (name : Named) where
  abbrev test : Hyp → Bool
  test h = bytes_eq name h.name

  least : (hs : List Hyp) (j i : ℕ) → position_from test j hs ≡ Some i → j ≤ i
  least [] j i e = absurd cc
  least (h ∷ hs) j i e = by (test h) e (least hs (j + 1) i)
    where
      by : (b : Bool) → cond b (Some j) (position_from test (j + 1) hs) ≡ Some i → (position_from test (j + 1) hs ≡ Some i → j + 1 ≤ i) → j ≤ i
      by true e rest = let same : j ≡ i = cc in omega (arith, same)
      by false e rest = omega (arith, rest e)

  none_from : (hs : List Hyp) (j : ℕ) → position_from test j hs ≡ None → hyp_named name hs ≡ None
  none_from [] j e = refl
  none_from (h ∷ hs) j e = by (test h) e (none_from hs (j + 1))
    where
      by : (b : Bool) → cond b (Some j) (position_from test (j + 1) hs) ≡ None → (position_from test (j + 1) hs ≡ None → hyp_named name hs ≡ None) → cond b (Some h.formula) (hyp_named name hs) ≡ None
      by true bad rest = absurd cc
      by false e rest = rest e

  pub none_named : (hs : List Hyp) → position test hs ≡ None → hyp_named name hs ≡ None
  none_named hs e = none_from hs 0 (sym (position_from-zero test hs) ∙ e)

  pub none_found : (goal : Goal) → position test goal.ints ≡ None → position test goal.spats ≡ None → formula_named name goal ≡ None
  none_found goal i s = ap₂ (λ (a b : Option Formula). first_of_two a b) (none_named goal.ints i) (none_named goal.spats s)

  module _ (f : Formula) where
    put_none : (hs : List Hyp) → times name (hyp_names hs) ≡ 0 → put_in name f hs ≡ hs
    put_none [] e = refl
    put_none (h ∷ hs) e = by (test h) e (put_none hs)
      where
        by : (b : Bool) → cond b (suc (times name (hyp_names hs))) (times name (hyp_names hs)) ≡ 0 → (times name (hyp_names hs) ≡ 0 → put_in name f hs ≡ hs) → (cond b (hyp name f) h ∷ put_in name f hs) ≡ h ∷ hs
        by true bad rest = absurd (omega (arith, bad))
        by false none rest = ap (λ l. h ∷ l) (rest none)

    put_here : (z : Kind) (h : Hyp) (hs : List Hyp) (j i : ℕ) (b : Bool) → i ≡ j + 0 → cond b (Some j) (position_from test (j + 1) hs) ≡ Some i → cond b (suc (times name (hyp_names hs))) (times name (hyp_names hs)) ≤ 1
        → hyps_as z (cond b (hyp name f) h ∷ put_in name f hs) ≡ of_kind z f ∷ hyps_as z hs
    put_here z h hs j i true at e most = ap (λ l. of_kind z f ∷ hyps_as z l) (put_none hs (omega (arith, most)))
    put_here z h hs j i false at e most = absurd (omega (arith, at, least hs (j + 1) i e))

    put_later : (z : Kind) (h : Hyp) (hs : List Hyp) (j i n : ℕ) (b : Bool) → i ≡ j + suc n → cond b (Some j) (position_from test (j + 1) hs) ≡ Some i → cond b (suc (times name (hyp_names hs))) (times name (hyp_names hs)) ≤ 1
        → (position_from test (j + 1) hs ≡ Some i → times name (hyp_names hs) ≤ 1 → hyps_as z (put_in name f hs) ≡ set (hyps_as z hs) n (of_kind z f))
        → hyps_as z (cond b (hyp name f) h ∷ put_in name f hs) ≡ of_kind z h.formula ∷ set (hyps_as z hs) n (of_kind z f)
    put_later z h hs j i n true at e most rest = absurd (let same : j ≡ i = cc in omega (arith, at, same))
    put_later z h hs j i n false at e most rest = ap (λ l. of_kind z h.formula ∷ l) (rest e most)

    put_from : (z : Kind) (hs : List Hyp) (j i n : ℕ) → i ≡ j + n → position_from test j hs ≡ Some i → times name (hyp_names hs) ≤ 1 → hyps_as z (put_in name f hs) ≡ set (hyps_as z hs) n (of_kind z f)
    put_from z [] j i n at e most = absurd cc
    put_from z (h ∷ hs) j i zero at e most = put_here z h hs j i (test h) at e most
    put_from z (h ∷ hs) j i (suc n) at e most = put_later z h hs j i n (test h) at e most (put_from z hs (j + 1) i n (omega (arith, at)))

    put_at : (z : Kind) (hs : List Hyp) (i : ℕ) → position test hs ≡ Some i → times name (hyp_names hs) ≤ 1 → hyps_as z (put_in name f hs) ≡ set (hyps_as z hs) i (of_kind z f)
    put_at z hs i e most = put_from z hs 0 i i (omega arith) (sym (position_from-zero test hs) ∙ e) most

    -- ---- built one by one

    abbrev pub put_one : Hyp → List Hyp
    put_one h = put_in name f (h ∷ [])

    put_each : (hs : List Hyp) → each put_one hs ≡ put_in name f hs
    put_each [] = refl
    put_each (h ∷ hs) = ap (λ l. cond (test h) (hyp name f) h ∷ l) (put_each hs)

    names_kept : (hs : List Hyp) → hyp_names (put_in name f hs) ≡ hyp_names hs
    names_kept [] = refl
    names_kept (h ∷ hs) = by (test h) refl (names_kept hs)
      where
        by : (b : Bool) → test h ≡ b → hyp_names (put_in name f hs) ≡ hyp_names hs → hyp_names (cond b (hyp name f) h ∷ put_in name f hs) ≡ h.name ∷ hyp_names hs
        by true is rest = ap₂ (λ n ns. n ∷ ns) (name_is name h.name is) rest
        by false is rest = ap (λ ns. h.name ∷ ns) rest

    pub put_fresh : (hs : List Hyp) (i : ℕ) (x : Hyp) (out : List Hyp) → slice_get hs i ≡ Some x → HypsDiffer hs → IsBuilt put_one hs i out → position (λ g. bytes_eq x.name g.name) out ≡ None
    put_fresh hs i x out at apart b =
        zero_position (λ (g : Hyp). g.name) name x.name out
        (ap (λ (ys : List Hyp). times x.name (hyp_names ys)) (b.is ∙ put_each (take i hs)) ∙ ap (times x.name) (names_kept (take i hs) ∙ take_mapped (λ (g : Hyp). g.name) hs i)
        ∙ not_before x.name (hyp_names hs) i (get_mapped (λ (g : Hyp). g.name) hs i x at) (apart x.name))

    pub put_done : (hs : List Hyp) (i : ℕ) (out : List Hyp) → length hs ≤ i → IsBuilt put_one hs i out → out ≡ put_in name f hs
    put_done hs i out le b = built_all put_one hs i out le b ∙ put_each hs

  -- ---- in the star

  abbrev of_hyp : Hyp → Named
  of_hyp h = h.name

  module _ (goal : Goal) (apart : NamesDiffer goal) (f : Formula) where
    at_most : times name (fact_names goal.pures) + (times name (hyp_names goal.ints) + times name (hyp_names goal.spats)) ≤ 1
    at_most = let all = times_in_goal name goal in let most = apart name in omega (arith, all, most)

    shared_count : length (shared goal) ≡ length goal.pures + length goal.ints
    shared_count = omega (arith, length-append (facts goal.pures) (hyps_as kind.Int goal.ints), length-map goal.pures (λ (x : Fact). Assert x.pure), length-map goal.ints (λ (h : Hyp). of_kind kind.Int h.formula))

    spat_put : (i place : ℕ) → position test goal.spats ≡ Some i → place ≡ length goal.pures + length goal.ints + i → parts (put name f goal) ≡ set (parts goal) place f
    spat_put i place e at =
        let found : (x : Hyp) × IsFound of_hyp name goal.spats i x = found_at of_hyp name goal.spats i e in
        let none : put_in name f goal.ints ≡ goal.ints = put_none f goal.ints (omega (arith, at_most, found.1.counted)) in
        let here : hyps (put_in name f goal.spats) ≡ set (hyps goal.spats) i f = put_at f kind.Spat goal.spats i e (omega (arith, at_most)) in
        let back : place - length (shared goal) ≡ i = omega (arith, at, shared_count) in
        ap (λ hs. (facts goal.pures ++ hyps_as kind.Int hs) ++ hyps (put_in name f goal.spats)) none
        ∙ ap (λ fs. shared goal ++ fs) (here ∙ ap (λ n. set (hyps goal.spats) n f) (sym back))
        ∙ sym (set-append_right (shared goal) (hyps goal.spats) (length (shared goal)) place f refl (omega (arith, at, shared_count)))

    int_put : (i place : ℕ) → position test goal.ints ≡ Some i → i < length goal.ints → place ≡ length goal.pures + i → parts (put name f goal) ≡ set (parts goal) place (of_kind kind.Int f)
    int_put i place e lt at =
        let fs : List Formula = facts goal.pures in
        let is : List Formula = hyps_as kind.Int goal.ints in
        let ss : List Formula = hyps goal.spats in
        let x : Formula = of_kind kind.Int f in
        let n : length fs ≡ length goal.pures = length-map goal.pures (λ (y : Fact). Assert y.pure) in
        let found : (y : Hyp) × IsFound of_hyp name goal.ints i y = found_at of_hyp name goal.ints i e in
        let none : put_in name f goal.spats ≡ goal.spats = put_none f goal.spats (omega (arith, at_most, found.1.counted)) in
        let here : hyps_as kind.Int (put_in name f goal.ints) ≡ set is i x = put_at f kind.Int goal.ints i e (omega (arith, at_most)) in
        let back : place - length fs ≡ i = omega (arith, at, n) in
        ap (λ hs. (fs ++ hyps_as kind.Int (put_in name f goal.ints)) ++ hyps hs) none
        ∙ ap (λ gs. (fs ++ gs) ++ ss) (here ∙ ap (λ m. set is m x) (sym back))
        ∙ ap (λ gs. gs ++ ss) (sym (set-append_right fs is (length fs) place x refl (omega (arith, at, n))))
        ∙ sym (set-append_left (fs ++ is) ss place x (omega (arith, at, lt, shared_count)))

  module _ (goal : Goal) (apart : NamesDiffer goal) where
    pub spat_there : (i : ℕ) (f : Formula) (place : ℕ) → position test goal.spats ≡ Some i → Some f ≡ option_map (λ (h : Hyp). h.formula) (slice_get goal.spats i) → place ≡ length goal.pures + length goal.ints + i → IsThere goal name (record { place = place; kind = kind.Spat; formula = f })
    spat_there i f place e formed at =
        let h : IsHypAt goal name place kind.Spat f = spat_looked goal name apart i f place e formed at in
        record {
          within = h.at.within;
          named = ap₂ (λ (a b : Option Formula). first_of_two a b) h.named.ints h.named.spats;
          part = h.at.is;
          becomes = λ g. spat_put goal apart g i place e at;
        }

    pub int_there : (i : ℕ) (f : Formula) (place : ℕ) → position test goal.ints ≡ Some i → Some f ≡ option_map (λ (h : Hyp). h.formula) (slice_get goal.ints i) → place ≡ length goal.pures + i → IsThere goal name (record { place = place; kind = kind.Int; formula = f })
    int_there i f place e formed at =
        let h : IsHypAt goal name place kind.Int f = int_looked goal name apart i f place e formed at in
        record {
          within = h.at.within;
          named = ap₂ (λ (a b : Option Formula). first_of_two a b) h.named.ints h.named.spats;
          part = h.at.is;
          becomes = λ g. int_put goal apart g i place e (found_within of_hyp name goal.ints i (found_at of_hyp name goal.ints i e).0 (found_at of_hyp name goal.ints i e).1.get) at;
        }

pub ints_apart : (g : Goal) → NamesDiffer g → HypsDiffer g.ints
ints_apart g apart name = omega (arith, times_in_goal name g, apart name)

pub spats_apart : (g : Goal) → NamesDiffer g → HypsDiffer g.spats
spats_apart g apart name = omega (arith, times_in_goal name g, apart name)
