-- What a name names: its place, and the others.
use Rattle.std.proofs.Common.{◌≡◌, ℕ, zero, suc, ◌+◌, ◌<◌, ◌≤◌, Bool, true, false, not, cond, ◌||◌, List, [], ◌∷◌, length, length-append, map, filter, refl, sym, ◌∙◌, ap, subst, arith, Option, Some, None, option_map, is_some, position, bytes_eq, slice_get, remove}
use Rattle.std.specs.List.{position_from}
use Rattle.std.proofs.lemmas.Iterator.Adapters.{position_from-zero}
use Rattle.std.proofs.lemmas.List.{length-map}
use Rattle.pm_logic.specs.declared.formula.Formula.TheVariants.{Pure as Assert}
use Rattle.pm_logic.proofs.Views.{view_pers}
use Rattle.pm_goal.specs.declared.goal.Hyp.{Hyp}
use Rattle.pm_goal.specs.declared.goal.Fact.{Fact}
use Rattle.pm_goal.specs.declared.goal.Goal.{Goal}
use Rattle.pm_goal.specs.declared.work.Kind.TheVariants as kind
use Rattle.pm_goal.specs.Find.{first_of_two}
use Rattle.pm_goal.specs.Left.{of_kind, facts, hyps_as, hyps}
use Rattle.pm_star.specs.Stars.{shared, parts, part_at, without}
use Rattle.pm_star.proofs.Places.{goal_loses_fact, goal_loses_int, goal_loses_spat, fact_at, int_at, spat_at}
use Rattle.pm_table.specs.Works.{Named, hyp_named, fact_named, has_hyp_or_fact, without_named, hyps_but, facts_but}
use Rattle.pm_table.specs.Stepping.{times, NamesDiffer}
use Rattle.pm_table.specs.Basic.{reverted}
use Rattle.pm_table.proofs.Counting.{hyp_names, fact_names, times_in_goal}
use Rattle.pm_basic.specs.Named.{hyp_place, fact_place, place_named, IsPart}

-- ---- a list of named things

first_counted : (b : Bool) (n : ℕ) → b ≡ true → 1 ≤ cond b (suc n) n
first_counted true n e = omega arith
first_counted false n e = absurd cc

later_counted : (b : Bool) (n : ℕ) → 1 ≤ n → 1 ≤ cond b (suc n) n
later_counted true n le = omega arith
later_counted false n le = le

module _ {A B : Type 0} (name_of : A → Named) (value : A → B) (name : Named) where
  abbrev test : A → Bool
  test x = bytes_eq name (name_of x)

  abbrev others : List A → List A
  others xs = filter (λ x. not (bytes_eq name (name_of x))) xs

  abbrev count : List A → ℕ
  count xs = times name (map name_of xs)

  kept_step : (b : Bool) (y : A) (ys zs : List A) (n : ℕ) → cond b (suc n) n ≡ 0 → (n ≡ 0 → zs ≡ ys) → cond (not b) (y ∷ zs) zs ≡ y ∷ ys
  kept_step true y ys zs n e rest = absurd (omega (arith, e))
  kept_step false y ys zs n e rest = ap (λ l. y ∷ l) (rest e)

  pub kept : (xs : List A) → count xs ≡ 0 → others xs ≡ xs
  kept [] e = refl
  kept (y ∷ ys) e = kept_step (test y) y ys (others ys) (count ys) e (kept ys)

  -- what has the name stands at the place
  pub record IsAt (xs : List A) (i : ℕ) : Type 0 where
    pub item : A
    pub get : slice_get xs i ≡ Some item
    pub named : test item ≡ true

  same_item : (y x : A) → Some y ≡ Some x → y ≡ x
  same_item y x e = cc

  counted : (xs : List A) (i : ℕ) (x : A) → slice_get xs i ≡ Some x → test x ≡ true → 1 ≤ count xs
  counted [] i x get named = absurd cc
  counted (y ∷ ys) zero x get named = first_counted (test y) (count ys) (ap test (same_item y x get) ∙ named)
  counted (y ∷ ys) (suc i) x get named = later_counted (test y) (count ys) (counted ys i x get named)

  pub is_counted : (xs : List A) (i : ℕ) → IsAt xs i → 1 ≤ count xs
  is_counted xs i at = counted xs i at.item at.get at.named

  here_removed : (b : Bool) (y : A) (ys zs : List A) (n : ℕ) → b ≡ true → cond b (suc n) n ≤ 1 → (n ≡ 0 → zs ≡ ys) → cond (not b) (y ∷ zs) zs ≡ ys
  here_removed true y ys zs n e most rest = rest (omega (arith, most))
  here_removed false y ys zs n e most rest = absurd cc

  later_removed : (b : Bool) (y : A) (zs rs : List A) (n : ℕ) → 1 ≤ n → cond b (suc n) n ≤ 1 → (n ≤ 1 → zs ≡ rs) → cond (not b) (y ∷ zs) zs ≡ y ∷ rs
  later_removed true y zs rs n some most rest = absurd (omega (arith, some, most))
  later_removed false y zs rs n some most rest = ap (λ l. y ∷ l) (rest most)

  removed : (xs : List A) (i : ℕ) (x : A) → slice_get xs i ≡ Some x → test x ≡ true → count xs ≤ 1 → others xs ≡ remove xs i
  removed [] i x get named most = absurd cc
  removed (y ∷ ys) zero x get named most = here_removed (test y) y ys (others ys) (count ys) (ap test (same_item y x get) ∙ named) most (kept ys)
  removed (y ∷ ys) (suc i) x get named most = later_removed (test y) y (others ys) (remove ys i) (count ys) (counted ys i x get named) most (removed ys i x get named)

  pub is_removed : (xs : List A) (i : ℕ) → IsAt xs i → count xs ≤ 1 → others xs ≡ remove xs i
  is_removed xs i at most = removed xs i at.item at.get at.named most

  within : (xs : List A) (i : ℕ) (x : A) → slice_get xs i ≡ Some x → i < length xs
  within [] i x get = absurd cc
  within (y ∷ ys) zero x get = omega arith
  within (y ∷ ys) (suc i) x get = omega (arith, within ys i x get)

  pub is_within : (xs : List A) (i : ℕ) → IsAt xs i → i < length xs
  is_within xs i at = within xs i at.item at.get

  -- ---- by its place, and by the list

  abbrev look : List A → Option B
  look [] = None
  look (y ∷ ys) = cond (test y) (Some (value y)) (look ys)

  record IsFound (j : ℕ) (xs : List A) (n : ℕ) : Type 0 where
    place : ℕ
    from : n ≡ j + place
    at : IsAt xs place
    looked : look xs ≡ Some (value at.item)

  same_place : (i n : ℕ) → Some i ≡ Some n → i ≡ n
  same_place i n e = cc

  found_step : (b : Bool) (j : ℕ) (y : A) (ys : List A) (o : Option ℕ) (n : ℕ) → test y ≡ b → cond b (Some j) o ≡ Some n → (o ≡ Some n → IsFound (j + 1) ys n) → IsFound j (y ∷ ys) n
  found_step true j y ys o n is e rest = record {
    place = 0;
    from = let same : j ≡ n = same_place j n e in omega (arith, same);
    at = record { item = y; get = refl; named = is };
    looked = rw is refl;
  }
  found_step false j y ys o n is e rest =
      let f = rest e in
      record {
        place = suc f.place;
        from = omega (arith, f.from);
        at = record { item = f.at.item; get = f.at.get; named = f.at.named };
        looked = rw is f.looked;
      }

  found_from : (j : ℕ) (xs : List A) (n : ℕ) → position_from test j xs ≡ Some n → IsFound j xs n
  found_from j [] n e = absurd cc
  found_from j (y ∷ ys) n e = found_step (test y) j y ys (position_from test (j + 1) ys) n refl e (found_from (j + 1) ys n)

  pub record IsNamed (xs : List A) (i : ℕ) : Type 0 where
    pub at : IsAt xs i
    pub looked : look xs ≡ Some (value at.item)

  pub found : (xs : List A) (i : ℕ) → position test xs ≡ Some i → IsNamed xs i
  found xs i e =
      let f = found_from 0 xs i (sym (position_from-zero test xs) ∙ e) in
      let same : f.place ≡ i = omega (arith, f.from) in
      subst (IsNamed xs) same (record { at = f.at; looked = f.looked })

  missing_step : (b : Bool) (j : ℕ) (o : Option ℕ) (v : B) (q : Option B) → cond b (Some j) o ≡ None → (o ≡ None → q ≡ None) → cond b (Some v) q ≡ None
  missing_step true j o v q e rest = absurd cc
  missing_step false j o v q e rest = rest e

  missing_from : (j : ℕ) (xs : List A) → position_from test j xs ≡ None → look xs ≡ None
  missing_from j [] e = refl
  missing_from j (y ∷ ys) e = missing_step (test y) j (position_from test (j + 1) ys) (value y) (look ys) e (missing_from (j + 1) ys)

  pub missing : (xs : List A) → position test xs ≡ None → look xs ≡ None
  missing xs e = missing_from 0 xs (sym (position_from-zero test xs) ∙ e)

-- ---- contexts

hyp_look : (name : Named) (hs : List Hyp) → hyp_named name hs ≡ look (λ (h : Hyp). h.name) (λ (h : Hyp). h.formula) name hs
hyp_look name [] = refl
hyp_look name (h ∷ hs) = ap (λ o. cond (bytes_eq name h.name) (Some h.formula) o) (hyp_look name hs)

fact_look : (name : Named) (fs : List Fact) → fact_named name fs ≡ look (λ (f : Fact). f.name) (λ (f : Fact). f.pure) name fs
fact_look name [] = refl
fact_look name (f ∷ fs) = ap (λ o. cond (bytes_eq name f.name) (Some f.pure) o) (fact_look name fs)

abbrev pub IsHyp : Named → List Hyp → ℕ → Type 0
IsHyp name hs i = IsNamed (λ (h : Hyp). h.name) (λ (h : Hyp). h.formula) name hs i

abbrev pub IsFact : Named → List Fact → ℕ → Type 0
IsFact name fs i = IsNamed (λ (f : Fact). f.name) (λ (f : Fact). f.pure) name fs i

pub hyp_found : (name : Named) (hs : List Hyp) (i : ℕ) → hyp_place name hs ≡ Some i → IsHyp name hs i
hyp_found name hs i e = found (λ (h : Hyp). h.name) (λ (h : Hyp). h.formula) name hs i e

pub fact_found : (name : Named) (fs : List Fact) (i : ℕ) → fact_place name fs ≡ Some i → IsFact name fs i
fact_found name fs i e = found (λ (f : Fact). f.name) (λ (f : Fact). f.pure) name fs i e

pub hyp_is : (name : Named) (hs : List Hyp) (i : ℕ) (h : IsHyp name hs i) → hyp_named name hs ≡ Some h.at.item.formula
hyp_is name hs i h = hyp_look name hs ∙ h.looked

pub fact_is : (name : Named) (fs : List Fact) (i : ℕ) (f : IsFact name fs i) → fact_named name fs ≡ Some f.at.item.pure
fact_is name fs i f = fact_look name fs ∙ f.looked

pub hyp_missing : (name : Named) (hs : List Hyp) → hyp_place name hs ≡ None → hyp_named name hs ≡ None
hyp_missing name hs e = hyp_look name hs ∙ missing (λ (h : Hyp). h.name) (λ (h : Hyp). h.formula) name hs e

pub fact_missing : (name : Named) (fs : List Fact) → fact_place name fs ≡ None → fact_named name fs ≡ None
fact_missing name fs e = fact_look name fs ∙ missing (λ (f : Fact). f.name) (λ (f : Fact). f.pure) name fs e

-- whether there is one
pub hyp_there : (name : Named) (hs : List Hyp) → is_some (hyp_named name hs) ≡ is_some (hyp_place name hs)
hyp_there name hs = by (hyp_place name hs) refl
  where
    by : (o : Option ℕ) → hyp_place name hs ≡ o → is_some (hyp_named name hs) ≡ is_some o
    by None e = ap is_some (hyp_missing name hs e)
    by (Some i) e = ap is_some (hyp_is name hs i (hyp_found name hs i e))

-- ---- goals

other_hyps : (name : Named) (hs : List Hyp) → times name (hyp_names hs) ≡ 0 → hyps_but name hs ≡ hs
other_hyps name hs e = kept (λ (h : Hyp). h.name) (λ (h : Hyp). h.formula) name hs e

other_facts : (name : Named) (fs : List Fact) → times name (fact_names fs) ≡ 0 → facts_but name fs ≡ fs
other_facts name fs e = kept (λ (f : Fact). f.name) (λ (f : Fact). f.pure) name fs e

module _ (name : Named) (goal : Goal) (apart : NamesDiffer goal) where
  abbrev of_facts : ℕ
  of_facts = times name (fact_names goal.pures)

  abbrev of_ints : ℕ
  of_ints = times name (hyp_names goal.ints)

  abbrev of_spats : ℕ
  of_spats = times name (hyp_names goal.spats)

  once : of_facts + (of_ints + of_spats) ≤ 1
  once = omega (arith, times_in_goal name goal, apart name)

  shared_length : length (shared goal) ≡ length goal.pures + length goal.ints
  shared_length = omega (arith, length-append (facts goal.pures) (hyps_as kind.Int goal.ints), length-map goal.pures (λ (f : Fact). Assert f.pure), length-map goal.ints (λ (h : Hyp). of_kind kind.Int h.formula))

  parts_length : length (parts goal) ≡ length goal.pures + length goal.ints + length goal.spats
  parts_length = omega (arith, shared_length, length-append (shared goal) (hyps goal.spats), length-map goal.spats (λ (h : Hyp). of_kind kind.Spat h.formula))

  spat_part : (i : ℕ) → hyp_place name goal.spats ≡ Some i → IsPart name goal (length goal.pures + length goal.ints + i)
  spat_part i e =
      let h = hyp_found name goal.spats i e in
      let some : 1 ≤ of_spats = is_counted (λ (h : Hyp). h.name) (λ (h : Hyp). h.formula) name goal.spats i h.at in
      let named : hyp_named name goal.spats ≡ Some h.at.item.formula = hyp_is name goal.spats i h in
      let place : length (shared goal) + i ≡ length goal.pures + length goal.ints + i = omega (arith, shared_length) in
      record {
        within = omega (arith, parts_length, is_within (λ (h : Hyp). h.name) (λ (h : Hyp). h.formula) name goal.spats i h.at);
        has = rw named (either_there (is_some (hyp_named name goal.ints)) (is_some (fact_named name goal.pures)));
        reverted = rw named (ap Some (sym (ap (part_at (parts goal)) (sym place) ∙ spat_at goal i h.at.item h.at.get)));
        others =
            goal_loses_spat goal (without_named name goal) i (other_facts name goal.pures (omega (arith, some, once))) (other_hyps name goal.ints (omega (arith, some, once)))
            (is_removed (λ (h : Hyp). h.name) (λ (h : Hyp). h.formula) name goal.spats i h.at (omega (arith, once)))
            ∙ ap (without (parts goal)) place;
      }
    where
      either_there : (a b : Bool) → ((a || true) || b) ≡ true
      either_there true b = refl
      either_there false b = refl

  int_part : (i : ℕ) → hyp_place name goal.spats ≡ None → hyp_place name goal.ints ≡ Some i → IsPart name goal (length goal.pures + i)
  int_part i none e =
      let h = hyp_found name goal.ints i e in
      let some : 1 ≤ of_ints = is_counted (λ (h : Hyp). h.name) (λ (h : Hyp). h.formula) name goal.ints i h.at in
      let named : hyp_named name goal.ints ≡ Some h.at.item.formula = hyp_is name goal.ints i h in
      let unnamed : hyp_named name goal.spats ≡ None = hyp_missing name goal.spats none in
      let lt : i < length goal.ints = is_within (λ (h : Hyp). h.name) (λ (h : Hyp). h.formula) name goal.ints i h.at in
      record {
        within = omega (arith, parts_length, lt);
        has = rw named refl;
        reverted = rw (unnamed, named) (ap Some (sym (int_at goal i h.at.item h.at.get ∙ view_pers h.at.item.formula)));
        others =
            goal_loses_int goal (without_named name goal) i lt (other_facts name goal.pures (omega (arith, some, once)))
            (is_removed (λ (h : Hyp). h.name) (λ (h : Hyp). h.formula) name goal.ints i h.at (omega (arith, once)))
            (other_hyps name goal.spats (omega (arith, some, once)));
      }

  fact_part : (i : ℕ) → hyp_place name goal.spats ≡ None → hyp_place name goal.ints ≡ None → fact_place name goal.pures ≡ Some i → IsPart name goal i
  fact_part i no_spat no_int e =
      let f = fact_found name goal.pures i e in
      let some : 1 ≤ of_facts = is_counted (λ (f : Fact). f.name) (λ (f : Fact). f.pure) name goal.pures i f.at in
      let named : fact_named name goal.pures ≡ Some f.at.item.pure = fact_is name goal.pures i f in
      let no_spat1 : hyp_named name goal.spats ≡ None = hyp_missing name goal.spats no_spat in
      let no_int1 : hyp_named name goal.ints ≡ None = hyp_missing name goal.ints no_int in
      let lt : i < length goal.pures = is_within (λ (f : Fact). f.name) (λ (f : Fact). f.pure) name goal.pures i f.at in
      record {
        within = omega (arith, parts_length, lt);
        has = rw (no_int1, no_spat1, named) refl;
        reverted = rw (no_spat1, no_int1, named) (ap Some (sym (fact_at goal i f.at.item f.at.get)));
        others =
            goal_loses_fact goal (without_named name goal) i lt
            (is_removed (λ (f : Fact). f.name) (λ (f : Fact). f.pure) name goal.pures i f.at (omega (arith, once)))
            (other_hyps name goal.ints (omega (arith, some, once))) (other_hyps name goal.spats (omega (arith, some, once)));
      }

  same_number : (i n : ℕ) → Some i ≡ Some n → i ≡ n
  same_number i n e = cc

  pub part_named : (n : ℕ) → place_named name goal ≡ Some n → IsPart name goal n
  part_named n e = by (hyp_place name goal.spats) (hyp_place name goal.ints) (fact_place name goal.pures) refl refl refl e
    where
      by : (a b c : Option ℕ) → hyp_place name goal.spats ≡ a → hyp_place name goal.ints ≡ b → fact_place name goal.pures ≡ c
          → first_of_two (option_map (λ i. length goal.pures + length goal.ints + i) a) (first_of_two (option_map (λ i. length goal.pures + i) b) c) ≡ Some n
          → IsPart name goal n
      by (Some i) b c ea eb ec is = subst (IsPart name goal) (same_number (length goal.pures + length goal.ints + i) n is) (spat_part i ea)
      by None (Some i) c ea eb ec is = subst (IsPart name goal) (same_number (length goal.pures + i) n is) (int_part i ea eb)
      by None None (Some i) ea eb ec is = subst (IsPart name goal) (same_number i n is) (fact_part i ea eb ec)
      by None None None ea eb ec is = absurd cc

pub record IsNone (name : Named) (goal : Goal) : Type 0 where
  pub has : has_hyp_or_fact goal name ≡ false
  pub reverted : reverted name goal ≡ None

pub no_part : (name : Named) (goal : Goal) → place_named name goal ≡ None → IsNone name goal
no_part name goal e = by (hyp_place name goal.spats) (hyp_place name goal.ints) (fact_place name goal.pures) refl refl refl e
  where
    by : (a b c : Option ℕ) → hyp_place name goal.spats ≡ a → hyp_place name goal.ints ≡ b → fact_place name goal.pures ≡ c
        → first_of_two (option_map (λ i. length goal.pures + length goal.ints + i) a) (first_of_two (option_map (λ i. length goal.pures + i) b) c) ≡ None
        → IsNone name goal
    by (Some i) b c ea eb ec is = absurd cc
    by None (Some i) c ea eb ec is = absurd cc
    by None None (Some i) ea eb ec is = absurd cc
    by None None None ea eb ec is =
        let no_spat : hyp_named name goal.spats ≡ None = hyp_missing name goal.spats ea in
        let no_int : hyp_named name goal.ints ≡ None = hyp_missing name goal.ints eb in
        let no_fact : fact_named name goal.pures ≡ None = fact_missing name goal.pures ec in
        record {
          has = rw (no_int, no_spat, no_fact) refl;
          reverted = rw (no_spat, no_int, no_fact) refl;
        }

pub named_is : (goal : Goal) (name : Named) (o : Option ℕ) → NamesDiffer goal → o ≡ place_named name goal → is_some o ≡ has_hyp_or_fact goal name
named_is goal name None apart e = sym (no_part name goal (sym e)).has
named_is goal name (Some n) apart e = sym (part_named name goal apart n (sym e)).has
