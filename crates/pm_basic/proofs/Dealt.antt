-- The spatial hypotheses dealt to two goals.
use Rattle.std.proofs.Common.{◌≡◌, ℕ, zero, suc, ◌+◌, ◌<◌, ◌≤◌, Bool, true, false, not, cond, ◌==◌, List, [], ◌∷◌, ◌++◌, length, length-append, take, filter, refl, sym, ◌∙◌, ap, ap₂, subst, arith, Option, Some, None, option_map, bytes_eq, position, slice_get, eq-eqb, append-nil}
use Rattle.std.specs.Prelude.{Result, Ok, Err, nat_lt}
use Rattle.std.specs.List.{list_any}
use Rattle.std.proofs.lemmas.Bool.{ne_eqb}
use Rattle.std.proofs.lemmas.List.{length-map}
use Rattle.pm_logic.specs.declared.formula.Formula.{Formula}
use Rattle.pm_logic.specs.declared.formula.Formula.TheVariants.{Pure as Assert, Pts, Call}
use Rattle.pm_logic.specs.declared.formula.Formula.TheViews as view
use Rattle.pm_logic.specs.Trees.{Sep, Wand, And, Or, Imp, All, Ex, Later, Pers, Upd}
use Rattle.pm_logic.proofs.Views.{view_sep}
use Rattle.pm_goal.specs.declared.goal.Hyp.{Hyp}
use Rattle.pm_goal.specs.declared.goal.Fact.{Fact}
use Rattle.pm_goal.specs.declared.goal.Goal.{Goal}
use Rattle.pm_goal.specs.declared.work.Work.{Work}
use Rattle.pm_goal.specs.declared.work.Kind.TheVariants as kind
use Rattle.pm_goal.specs.declared.refusal.Row.TheVariants.{ConclusionNotStar}
use Rattle.pm_goal.specs.declared.refusal.StepFault.{StepFault}
use Rattle.pm_goal.specs.declared.refusal.StepFault.TheVariants as fault
use Rattle.pm_goal.specs.Left.{facts, hyps, hyps_as, of_kind, left_of_work}
use Rattle.pm_rules.specs.declared.rules.Entail.{Entail}
use Rattle.pm_proof.specs.Trees.{Tree, entail, conclusion}
use Rattle.pm_proof.specs.Known.{Proves, Every}
use Rattle.pm_proof.specs.declared.proof.Parts.{Parts}
use Rattle.pm_proof.proofs.Fills.{weaker}
use Rattle.pm_schemes.specs.Sketches.{deepest}
use Rattle.pm_star.specs.declared.side.Side.{Side}
use Rattle.pm_star.specs.declared.side.Side.TheVariants as side
use Rattle.pm_star.specs.Stars.{star, shared, parts, work_parts, side_at, left_more, right_more, lefts, rights, dealt, Moves}
use Rattle.pm_star.specs.Chains.{ChainProves}
use Rattle.pm_star.proofs.Contexts.{work_star}
use Rattle.pm_star.proofs.Scoping.{sep_scoped, depth_sep}
use Rattle.pm_classes.specs.Classes as classes
use Rattle.pm_table.specs.declared.place.Place.{Place}
use Rattle.pm_table.specs.declared.place.Place.TheVariants.{Current as current}
use Rattle.pm_table.specs.Outcomes.{Outcome, require_entry}
use Rattle.pm_table.specs.Limits.{limited, resting, work_formulas, all_nodes}
use Rattle.pm_table.specs.Works.{Named}
use Rattle.pm_table.specs.Stepping.{times}
use Rattle.pm_table.specs.Basic.{with_spats, list_given, all_spatial, sides, split_at, star_parts, on_goal, gives_goals}
use Rattle.pm_table.proofs.Counting.{hyp_names, fewer_hyps}
use Rattle.pm_action.specs.Meanings.{meanings, room, width}
use Rattle.pm_action.specs.Acting.{Answers, Ends, plainly}
use Rattle.pm_action.specs.Naming.{HypsDiffer}
use Rattle.pm_action.proofs.Filtered.{zero_position}
use Rattle.pm_action.proofs.Heights.{concl_height, star_height}
use Rattle.pm_basic.specs.Deals.{is_named, goes, side_of, dealt_goal, dealt_star, places_where, where_place, where_goes, BothSay, AreSpatial}
use Rattle.pm_basic.proofs.Building.{each, IsBuilt, built_all, get_mapped, take_mapped, not_before}
use Rattle.pm_basic.proofs.Ending.{on_rest, rest_parts, refused_plainly, IsStep, stepped}

-- ---- the hypotheses of a side

not_twice : (b : Bool) → not (not b) ≡ b
not_twice true = refl
not_twice false = refl

goes_other : (named : Bool) (o : Option (List Named)) (x : Named) → goes (not named) o x ≡ not (goes named o x)
goes_other true o x = refl
goes_other false o x = sym (not_twice (is_named o x))

kept_all : (hs : List Hyp) → filter (λ (h : Hyp). true) hs ≡ hs
kept_all [] = refl
kept_all (h ∷ hs) = ap (λ gs. h ∷ gs) (kept_all hs)

kept_none : (hs : List Hyp) → filter (λ (h : Hyp). false) hs ≡ []
kept_none [] = refl
kept_none (h ∷ hs) = kept_none hs

pub side_is : (named : Bool) (o : Option (List Named)) (hs : List Hyp) → filter (λ (h : Hyp). goes named o h.name) hs ≡ side_of named o hs
side_is true None hs = kept_all hs
side_is true (Some list) hs = refl
side_is false None hs = kept_none hs
side_is false (Some list) hs = refl

same_tests : (p q : Hyp → Bool) → ((h : Hyp) → p h ≡ q h) → (hs : List Hyp) → filter p hs ≡ filter q hs
same_tests p q e [] = refl
same_tests p q e (h ∷ hs) = ap₂ (λ b gs. cond b (h ∷ gs) gs) (e h) (same_tests p q e hs)

other_side : (named : Bool) (o : Option (List Named)) (hs : List Hyp) → filter (λ (h : Hyp). not (goes named o h.name)) hs ≡ side_of (not named) o hs
other_side named o hs = same_tests (λ (h : Hyp). not (goes named o h.name)) (λ (h : Hyp). goes (not named) o h.name) (λ h. sym (goes_other named o h.name)) hs ∙ side_is (not named) o hs

-- ---- built item by item

module _ (named : Bool) (o : Option (List Named)) where
  abbrev pub goes_step : Hyp → List Hyp
  goes_step h = where_goes (goes named o h.name) h

  passing : (b : Bool) (h : Hyp) (hs : List Hyp) → where_goes b h ++ hs ≡ cond b (h ∷ hs) hs
  passing true h hs = refl
  passing false h hs = refl

  each_filter : (hs : List Hyp) → each goes_step hs ≡ filter (λ (h : Hyp). goes named o h.name) hs
  each_filter [] = refl
  each_filter (h ∷ hs) = ap (λ gs. goes_step h ++ gs) (each_filter hs) ∙ passing (goes named o h.name) h (filter (λ (g : Hyp). goes named o g.name) hs)

  pub side_done : (hs : List Hyp) (i : ℕ) (out : List Hyp) → length hs ≤ i → IsBuilt goes_step hs i out → out ≡ side_of named o hs
  side_done hs i out le b = built_all goes_step hs i out le b ∙ each_filter hs ∙ side_is named o hs

  -- the name of an item isn't that of one before
  pub side_fresh : (hs : List Hyp) (i : ℕ) (x : Hyp) (out : List Hyp) → slice_get hs i ≡ Some x → HypsDiffer hs → IsBuilt goes_step hs i out → position (λ g. bytes_eq x.name g.name) out ≡ None
  side_fresh hs i x out at apart b =
      let out_is : out ≡ filter (λ (h : Hyp). goes named o h.name) (take i hs) = b.is ∙ each_filter (take i hs) in
      let before : times x.name (hyp_names (take i hs)) ≡ 0 = ap (times x.name) (take_mapped (λ (g : Hyp). g.name) hs i) ∙ not_before x.name (hyp_names hs) i (get_mapped (λ (g : Hyp). g.name) hs i x at) (apart x.name) in
      let fewer : times x.name (hyp_names (filter (λ (h : Hyp). goes named o h.name) (take i hs))) ≤ times x.name (hyp_names (take i hs)) = fewer_hyps (λ (h : Hyp). goes named o h.name) (take i hs) x.name in
      zero_position (λ (g : Hyp). g.name) x.name x.name out (ap (λ (ys : List Hyp). times x.name (hyp_names ys)) out_is ∙ none_of fewer before)
    where
      none_of : {n m : ℕ} → n ≤ m → m ≡ 0 → n ≡ 0
      none_of le e = omega (arith, le, e)

-- ---- places

module _ (test : Named → Bool) (n : ℕ) where
  -- the places of the first i
  pub record ArePlaced (hs : List Hyp) (i : ℕ) (out : List ℕ) : Type 0 where
    pub within : i ≤ length hs
    pub is : out ≡ places_where test n (take i hs)

same_name : (x y : Named) → Some x ≡ Some y → x ≡ y
same_name x y e = cc

place_inside : (hs : List Hyp) (i : ℕ) (x : Named) → Some x ≡ option_map (λ (h : Hyp). h.name) (slice_get hs i) → i < length hs
place_inside [] i x at = absurd cc
place_inside (g ∷ hs) zero x at = omega arith
place_inside (g ∷ hs) (suc i) x at = omega (arith, place_inside hs i x at)

cond_append : (b : Bool) (n : ℕ) (xs ys : List ℕ) → cond b (n ∷ (xs ++ ys)) (xs ++ ys) ≡ cond b (n ∷ xs) xs ++ ys
cond_append true n xs ys = refl
cond_append false n xs ys = refl

one_place : (b : Bool) (n m : ℕ) → m ≡ n → cond b (n ∷ []) [] ≡ where_place b m
one_place true n m e = ap (λ x. x ∷ []) (sym e)
one_place false n m e = refl

more_places : (test : Named → Bool) (n m : ℕ) (hs : List Hyp) (i : ℕ) (x : Named) → m ≡ n + i → Some x ≡ option_map (λ (h : Hyp). h.name) (slice_get hs i) → places_where test n (take (suc i) hs) ≡ places_where test n (take i hs) ++ where_place (test x) m
more_places test n m [] i x e at = absurd cc
more_places test n m (g ∷ hs) zero x e at = ap (λ (y : Named). cond (test y) (n ∷ []) []) (sym (same_name x g.name at)) ∙ one_place (test x) n m (omega (arith, e))
more_places test n m (g ∷ hs) (suc i) x e at =
    ap (λ ps. cond (test g.name) (n ∷ ps) ps) (more_places test (suc n) m hs i x (omega (arith, e)) at)
    ∙ cond_append (test g.name) n (places_where test (suc n) (take i hs)) (where_place (test x) m)

pub placed_more : (test : Named → Bool) (n m : ℕ) (hs : List Hyp) (i j : ℕ) (x : Named) (here : Bool) (out now : List ℕ) → j ≡ i + 1 → m ≡ n + i → Some x ≡ option_map (λ (h : Hyp). h.name) (slice_get hs i) → here ≡ test x → ArePlaced test n hs i out → now ≡ out ++ where_place here m → ArePlaced test n hs j now
placed_more test n m hs i j x here out now next at_m at is p e =
    let j_is : suc i ≡ j = omega (arith, next) in
    subst (λ k. ArePlaced test n hs k now) j_is
    (record { within = omega (arith, place_inside hs i x at); is = e ∙ ap (λ b. out ++ where_place b m) is ∙ (ap (λ ps. ps ++ where_place (test x) m) p.is ∙ sym (more_places test n m hs i x at_m at)) })

taken_all : {A : Type 0} (xs : List A) (i : ℕ) → length xs ≤ i → take i xs ≡ xs
taken_all [] zero le = refl
taken_all [] (suc i) le = refl
taken_all (x ∷ xs) zero le = absurd (omega (arith, le))
taken_all (x ∷ xs) (suc i) le = ap (λ ys. x ∷ ys) (taken_all xs i (omega (arith, le)))

pub placed_all : (test : Named → Bool) (n : ℕ) (hs : List Hyp) (i : ℕ) (out : List ℕ) → length hs ≤ i → ArePlaced test n hs i out → out ≡ places_where test n hs
placed_all test n hs i out le p = p.is ∙ ap (places_where test n) (taken_all hs i le)

-- ---- the two stars

-- what is shared goes to both
shared_left : (s : ℕ → Side) (i n : ℕ) (fs gs : List Formula) → ((j : ℕ) → j < n → s j ≡ side.Both) → i + length fs ≤ n → lefts s i (fs ++ gs) ≡ fs ++ lefts s (i + length fs) gs
shared_left s i n [] gs both le = let same : i ≡ i + 0 = omega arith in ap (λ j. lefts s j gs) same
shared_left s i n (f ∷ fs) gs both le =
    let same : suc i + length fs ≡ i + suc (length fs) = omega arith in
    ap (λ z. left_more z f (lefts s (suc i) (fs ++ gs))) (both i (omega (arith, le)))
    ∙ ap (λ hs. f ∷ hs) (shared_left s (suc i) n fs gs both (omega (arith, le)) ∙ ap (λ j. fs ++ lefts s j gs) same)

shared_right : (s : ℕ → Side) (i n : ℕ) (fs gs : List Formula) → ((j : ℕ) → j < n → s j ≡ side.Both) → i + length fs ≤ n → rights s i (fs ++ gs) ≡ fs ++ rights s (i + length fs) gs
shared_right s i n [] gs both le = let same : i ≡ i + 0 = omega arith in ap (λ j. rights s j gs) same
shared_right s i n (f ∷ fs) gs both le =
    let same : suc i + length fs ≡ i + suc (length fs) = omega arith in
    ap (λ z. right_more z f (rights s (suc i) (fs ++ gs))) (both i (omega (arith, le)))
    ∙ ap (λ hs. f ∷ hs) (shared_right s (suc i) n fs gs both (omega (arith, le)) ∙ ap (λ j. fs ++ rights s j gs) same)

module _ (test : Named → Bool) where
  abbrev placed : ℕ → ℕ → List Hyp → Bool
  placed m n hs = list_any (λ j. j == m) (places_where test n hs)

  unequal : (j m : ℕ) → m < j → (j == m) ≡ false
  unequal j m lt = ne_eqb j m (λ e. omega (arith, lt, e))

  none_step : (b : Bool) (n m : ℕ) (ps : List ℕ) → m < n → list_any (λ j. j == m) ps ≡ false → list_any (λ j. j == m) (cond b (n ∷ ps) ps) ≡ false
  none_step true n m ps lt e = rw (unequal n m lt) e
  none_step false n m ps lt e = e

  -- no place is before the first
  none_before : (m n : ℕ) (hs : List Hyp) → m < n → list_any (λ j. j == m) (places_where test n hs) ≡ false
  none_before m n [] lt = refl
  none_before m n (h ∷ hs) lt = none_step (test h.name) n m (places_where test (suc n) hs) lt (none_before m (suc n) hs (omega (arith, lt)))

  here_step : (b : Bool) (n : ℕ) (ps : List ℕ) → list_any (λ j. j == n) ps ≡ false → list_any (λ j. j == n) (cond b (n ∷ ps) ps) ≡ b
  here_step true n ps e = rw (eq-eqb n n refl) refl
  here_step false n ps e = e

  here : (n : ℕ) (h : Hyp) (hs : List Hyp) → list_any (λ j. j == n) (places_where test n (h ∷ hs)) ≡ test h.name
  here n h hs = here_step (test h.name) n (places_where test (suc n) hs) (none_before n (suc n) hs (omega arith))

  later_step : (b : Bool) (n m : ℕ) (ps : List ℕ) → n < m → list_any (λ j. j == m) (cond b (n ∷ ps) ps) ≡ list_any (λ j. j == m) ps
  later_step true n m ps lt = rw (ne_eqb n m (λ e. omega (arith, lt, e))) refl
  later_step false n m ps lt = refl

  -- the side of each place from n on, by the places of those from n on
  abbrev BySide : (ℕ → Side) → ℕ → List Hyp → Type 0
  BySide s n hs = (m : ℕ) → n ≤ m → s m ≡ cond (list_any (λ j. j == m) (places_where test n hs)) side.Left side.Right

  by_side_more : (s : ℕ → Side) (n : ℕ) (h : Hyp) (hs : List Hyp) → BySide s n (h ∷ hs) → BySide s (suc n) hs
  by_side_more s n h hs b m le = b m (omega (arith, le)) ∙ ap (λ t. cond t side.Left side.Right) (later_step (test h.name) n m (places_where test (suc n) hs) (omega (arith, le)))

  left_step : (b : Bool) (h : Hyp) (fs : List Formula) (hs : List Hyp) → fs ≡ hyps hs → left_more (cond b side.Left side.Right) h.formula fs ≡ hyps (cond b (h ∷ hs) hs)
  left_step true h fs hs e = ap (λ gs. h.formula ∷ gs) e
  left_step false h fs hs e = e

  right_step : (b : Bool) (h : Hyp) (fs : List Formula) (hs : List Hyp) → fs ≡ hyps hs → right_more (cond b side.Left side.Right) h.formula fs ≡ hyps (cond (not b) (h ∷ hs) hs)
  right_step true h fs hs e = e
  right_step false h fs hs e = ap (λ gs. h.formula ∷ gs) e

  side_here : (s : ℕ → Side) (n : ℕ) (h : Hyp) (hs : List Hyp) → BySide s n (h ∷ hs) → s n ≡ cond (test h.name) side.Left side.Right
  side_here s n h hs b = b n (omega arith) ∙ ap (λ t. cond t side.Left side.Right) (here n h hs)

  pub dealt_left : (s : ℕ → Side) (n : ℕ) (hs : List Hyp) → BySide s n hs → lefts s n (hyps hs) ≡ hyps (filter (λ (h : Hyp). test h.name) hs)
  dealt_left s n [] b = refl
  dealt_left s n (h ∷ hs) b =
      ap (λ z. left_more z h.formula (lefts s (suc n) (hyps hs))) (side_here s n h hs b)
      ∙ left_step (test h.name) h (lefts s (suc n) (hyps hs)) (filter (λ (g : Hyp). test g.name) hs) (dealt_left s (suc n) hs (by_side_more s n h hs b))

  pub dealt_right : (s : ℕ → Side) (n : ℕ) (hs : List Hyp) → BySide s n hs → rights s n (hyps hs) ≡ hyps (filter (λ (h : Hyp). not (test h.name)) hs)
  dealt_right s n [] b = refl
  dealt_right s n (h ∷ hs) b =
      ap (λ z. right_more z h.formula (rights s (suc n) (hyps hs))) (side_here s n h hs b)
      ∙ right_step (test h.name) h (rights s (suc n) (hyps hs)) (filter (λ (g : Hyp). not (test g.name)) hs) (dealt_right s (suc n) hs (by_side_more s n h hs b))

lower : (n m : ℕ) → m < n → nat_lt m n ≡ true
lower n m lt = grind (arith, lt)

not_lower : (n m : ℕ) → n ≤ m → nat_lt m n ≡ false
not_lower n m le = grind (arith, le)

-- the parts of both goals
module _ (named : Bool) (o : Option (List Named)) (goal : Goal) where
  abbrev test : Named → Bool
  test = goes named o

  abbrev listed : ℕ → List ℕ
  listed n = places_where (goes named o) n goal.spats

  to_both : (n j : ℕ) → j < n → side_at n (listed n) j ≡ side.Both
  to_both n j lt = ap (λ b. cond b side.Both (cond (list_any (λ i. i == j) (listed n)) side.Left side.Right)) (lower n j lt)

  to_one : (n : ℕ) → BySide (goes named o) (side_at n (listed n)) n goal.spats
  to_one n m le = ap (λ b. cond b side.Both (cond (list_any (λ i. i == m) (listed n)) side.Left side.Right)) (not_lower n m le)

  left_parts : (n : ℕ) → n ≡ length (shared goal) → lefts (side_at n (listed n)) 0 (parts goal) ≡ parts (with_spats (side_of named o goal.spats) goal)
  left_parts n e =
      let s : ℕ → Side = side_at n (listed n) in
      let at : 0 + length (shared goal) ≡ n = omega (arith, e) in
      shared_left s 0 n (shared goal) (hyps goal.spats) (to_both n) (omega (arith, e))
      ∙ ap (λ j. shared goal ++ lefts s j (hyps goal.spats)) at
      ∙ ap (λ fs. shared goal ++ fs) (dealt_left (goes named o) s n goal.spats (to_one n) ∙ ap hyps (side_is named o goal.spats))

  right_parts : (n : ℕ) → n ≡ length (shared goal) → rights (side_at n (listed n)) 0 (parts goal) ≡ parts (with_spats (side_of (not named) o goal.spats) goal)
  right_parts n e =
      let s : ℕ → Side = side_at n (listed n) in
      let at : 0 + length (shared goal) ≡ n = omega (arith, e) in
      shared_right s 0 n (shared goal) (hyps goal.spats) (to_both n) (omega (arith, e))
      ∙ ap (λ j. shared goal ++ rights s j (hyps goal.spats)) at
      ∙ ap (λ fs. shared goal ++ fs) (dealt_right (goes named o) s n goal.spats (to_one n) ∙ ap hyps (other_side named o goal.spats))

  rest_star : (g : Goal) → star (parts g) ≡ left_of_work (resting g)
  rest_star g = ap star (sym (append-nil (parts g))) ∙ work_star (resting g)

  shared_is : length (shared goal) ≡ length goal.pures + length goal.ints
  shared_is = omega (arith, length-append (facts goal.pures) (hyps_as kind.Int goal.ints), length-map goal.pures (λ (f : Fact). Assert f.pure), length-map goal.ints (λ (h : Hyp). of_kind kind.Int h.formula))

  stars_are : (ps : List ℕ) → ps ≡ places_where (goes named o) (length goal.pures + length goal.ints) goal.spats → dealt (length (shared goal)) ps (parts goal) ≡ dealt_star named o goal
  stars_are ps e =
      let n : ℕ = length (shared goal) in
      let listed_is : ps ≡ listed n = e ∙ ap listed (sym shared_is) in
      ap (λ qs. dealt n qs (parts goal)) listed_is
      ∙ ap₂ view.Sep (ap star (left_parts n refl) ∙ rest_star (with_spats (side_of named o goal.spats) goal)) (ap star (right_parts n refl) ∙ rest_star (with_spats (side_of (not named) o goal.spats) goal))

pub dealt_to : (w : Work) (named : Bool) (o : Option (List Named)) (ps : List ℕ) (t : Tree) → w.held ≡ [] → ps ≡ places_where (goes named o) (length w.goal.pures + length w.goal.ints) w.goal.spats
    → Moves (length w.goal.vars) (length (work_parts w)) (left_of_work w) (dealt (length (shared w.goal)) ps (work_parts w)) t
    → Moves (length w.goal.vars) (length (work_parts w)) (left_of_work w) (dealt_star named o w.goal) t
dealt_to w named o ps t nothing e m =
    let same : dealt (length (shared w.goal)) ps (work_parts w) ≡ dealt_star named o w.goal = ap (dealt (length (shared w.goal)) ps) (rest_parts w nothing) ∙ stars_are named o w.goal ps e in
    subst (λ (y : Formula). Moves (length w.goal.vars) (length (work_parts w)) (left_of_work w) y t) same m

-- ---- the proof

-- from what both works mean
pub both_done : (first second : Work) (k : ℕ) (l r : Formula) (t : Tree) → k ≡ length first.goal.vars → length second.goal.vars ≡ length first.goal.vars → l ≡ left_of_work first → r ≡ left_of_work second
    → Proves Every (entail k (view.Sep l r) (view.Sep first.goal.concl second.goal.concl)) (entail k l first.goal.concl ∷ entail k r second.goal.concl ∷ []) 1 (deepest (l ∷ r ∷ first.goal.concl ∷ second.goal.concl ∷ []) [] + 1) k t
    → BothSay first second t
both_done first second k l r t vars same left right p =
    let c : Formula = first.goal.concl in
    let d : Formula = second.goal.concl in
    let n : ℕ = length first.goal.vars in
    let Q : ℕ → ℕ → Formula → Formula → Type 0 = λ j i x y. Proves Every (entail j (view.Sep x y) (view.Sep c d)) (entail j x c ∷ entail i y d ∷ []) 1 (deepest (x ∷ y ∷ c ∷ d ∷ []) [] + 1) j t in
    let p1 : Q n n l r = subst (λ (j : ℕ). Q j j l r) vars p in
    let p2 : Q n n (left_of_work first) r = subst (λ (x : Formula). Q n n x r) left p1 in
    let p3 : Q n n (left_of_work first) (left_of_work second) = subst (λ (y : Formula). Q n n (left_of_work first) y) right p2 in
    subst (λ (i : ℕ). Q n i (left_of_work first) (left_of_work second)) (sym same) p3

module _ (w : Work) (a b : Formula) (named : Bool) (o : Option (List Named)) where
  abbrev left_goal : Goal
  left_goal = dealt_goal named o a w.goal

  abbrev right_goal : Goal
  right_goal = dealt_goal (not named) o b w.goal

  abbrev stars : Formula
  stars = dealt_star named o w.goal

  deal_step : (moved step : Tree) → w.goal.concl ≡ view.Sep a b → Moves (length w.goal.vars) (length (work_parts w)) (left_of_work w) stars moved → BothSay (resting left_goal) (resting right_goal) step
      → IsStep w (current [] (resting left_goal) ∷ current [] (resting right_goal) ∷ []) stars moved step
  deal_step moved step concl m p =
      let k : ℕ = length w.goal.vars in
      let l : Formula = left_of_work (resting left_goal) in
      let r : Formula = left_of_work (resting right_goal) in
      let ps : List Place = current [] (resting left_goal) ∷ current [] (resting right_goal) ∷ [] in
      let p1 : Proves Every (entail k (view.Sep l r) w.goal.concl) (meanings ps) 1 (deepest (l ∷ r ∷ a ∷ b ∷ []) [] + 1) k step = subst (λ (c : Formula). Proves Every (entail k (view.Sep l r) c) (meanings ps) 1 (deepest (l ∷ r ∷ a ∷ b ∷ []) [] + 1) k step) (sym concl) p in
      record {
        moves = m;
        steps = weaker Every (entail k (view.Sep l r) w.goal.concl) (meanings ps) 1 (deepest (l ∷ r ∷ a ∷ b ∷ []) [] + 1) k 10 (room w ps) (width w) step (omega arith) (omega (arith, concl_height (resting left_goal), concl_height (resting right_goal), star_height (resting left_goal), star_height (resting right_goal))) (omega arith) p1;
        near = omega (arith, depth_sep l r, star_height (resting left_goal), star_height (resting right_goal));
        scoped = λ preds hs. sep_scoped preds k l r hs.0.0 hs.1.0.0;
      }

  rows_are : (s : ℕ) (r : Result (Parts Place) StepFault) → Answers s w (limited (gives_goals left_goal right_goal)) r → Answers s w (limited (sides named (classes.parts a b) o w.goal)) r
  rows_are s r h = subst (λ (x : Outcome). Answers s w (limited x) r) (sym (by named)) h
    where
      by : (n : Bool) → sides n (classes.parts a b) o w.goal ≡ gives_goals (dealt_goal n o a w.goal) (dealt_goal (not n) o b w.goal)
      by true = refl
      by false = refl

  module _ (first second : Work) (is1 : first ≡ resting left_goal) (is2 : second ≡ resting right_goal) where
    pub deal_few : length second.goal.vars ≡ length first.goal.vars
    deal_few = ap (λ (x : Work). length x.goal.vars) is2 ∙ sym (ap (λ (x : Work). length x.goal.vars) is1)

    pub deal_vars : (moved step : Tree) → conclusion moved ≡ entail (length w.goal.vars) (left_of_work w) stars → BothSay first second step → (conclusion step).vars ≡ (conclusion moved).vars
    deal_vars moved step m p = ap (λ (e : Entail). e.vars) p.concludes ∙ ap (λ (x : Work). length x.goal.vars) is1 ∙ sym (ap (λ (e : Entail). e.vars) m)

    pub deal_meet : (moved step : Tree) → conclusion moved ≡ entail (length w.goal.vars) (left_of_work w) stars → BothSay first second step → (conclusion step).left ≡ (conclusion moved).right
    deal_meet moved step m p = ap (λ (e : Entail). e.left) p.concludes ∙ ap₂ view.Sep (ap left_of_work is1) (ap left_of_work is2) ∙ sym (ap (λ (e : Entail). e.right) m)

    pub deal_ends : (moved step p : Tree) (r : Result (Parts Place) StepFault) → w.goal.concl ≡ view.Sep a b → Moves (length w.goal.vars) (length (work_parts w)) (left_of_work w) stars moved → BothSay first second step
        → ChainProves moved step p → Ends (current [] first ∷ current [] second ∷ []) p r → Answers (all_nodes (work_formulas w)) w (limited (sides named (classes.parts a b) o w.goal)) r
    deal_ends moved step p r concl m q chain ends =
        let s : ℕ = all_nodes (work_formulas w) in
        let ps : List Place = current [] (resting left_goal) ∷ current [] (resting right_goal) ∷ [] in
        let q1 : BothSay (resting left_goal) (resting right_goal) step = subst (λ (y : Work). BothSay (resting left_goal) y step) is2 (subst (λ (x : Work). BothSay x second step) is1 q) in
        let ends1 : Ends ps p r = subst (λ (y : Work). Ends (current [] (resting left_goal) ∷ current [] y ∷ []) p r) is2 (subst (λ (x : Work). Ends (current [] x ∷ current [] second ∷ []) p r) is1 ends) in
        rows_are s r (ends1 s w (stepped s w ps stars moved step p (omega arith) (deal_step moved step concl m q1) chain))

-- ---- the row

star_is_sep : (a b : Formula) → star_parts (view.Sep a b) ≡ Some (classes.parts a b)
star_is_sep a b = ap star_parts (view_sep a b)

no_star : (c : Formula) → ((a b : Formula) → ¬ (c ≡ view.Sep a b)) → star_parts c ≡ None
no_star (Sep a b) never = absurd (never a b (sym (view_sep a b)))
no_star (Assert p) never = refl
no_star (And a b) never = refl
no_star (Or a b) never = refl
no_star (Wand a b) never = refl
no_star (Imp a b) never = refl
no_star (All a) never = refl
no_star (Ex a) never = refl
no_star (Later a) never = refl
no_star (Pers a) never = refl
no_star (Upd a) never = refl
no_star (Pts l u v) never = refl
no_star (Call q args) never = refl

module _ (s : ℕ) (w : Work) (left : Bool) (o : Option (List Named)) (nothing : w.held ≡ []) where
  abbrev follows : classes.Parts → Outcome
  follows p = all_spatial w.goal (list_given o) (sides left p o w.goal)

  pub not_a_star : (f : StepFault) → ((a b : Formula) → ¬ (w.goal.concl ≡ view.Sep a b)) → f ≡ fault.Refused (plainly ConclusionNotStar) → Answers s w (limited (on_goal (split_at left o) w)) (Err f)
  not_a_star f never e =
      on_rest s w (split_at left o) (Err f) nothing
      (subst (λ (x : Option classes.Parts). Answers s w (limited (require_entry x ConclusionNotStar follows)) (Err f)) (sym (no_star w.goal.concl never)) (refused_plainly s w ConclusionNotStar f e))

  a_star : (a b : Formula) (r : Result (Parts Place) StepFault) → w.goal.concl ≡ view.Sep a b → Answers s w (limited (follows (classes.parts a b))) r → Answers s w (limited (on_goal (split_at left o) w)) r
  a_star a b r e h =
      on_rest s w (split_at left o) r nothing
      (subst (λ (x : Option classes.Parts). Answers s w (limited (require_entry x ConclusionNotStar follows)) r) (sym (ap star_parts e ∙ star_is_sep a b)) h)

  pub all_dealt : (a b : Formula) (r : Result (Parts Place) StepFault) → w.goal.concl ≡ view.Sep a b → AreSpatial w.goal (list_given o) (Ok tt) → Answers s w (limited (sides left (classes.parts a b) o w.goal)) r → Answers s w (limited (on_goal (split_at left o) w)) r
  all_dealt a b r e spatial h = a_star a b r e (subst (λ (x : Outcome). Answers s w (limited x) r) (sym (spatial (sides left (classes.parts a b) o w.goal))) h)

  pub not_dealt : (a b : Formula) (f : StepFault) → w.goal.concl ≡ view.Sep a b → AreSpatial w.goal (list_given o) (Err f) → Answers s w (limited (on_goal (split_at left o) w)) (Err f)
  not_dealt a b f e spatial = a_star a b (Err f) e (spatial s w (sides left (classes.parts a b) o w.goal))
