-- Each spatial hypothesis goes to exactly one goal, or is framed.
use Rattle.std.proofs.Common.{◌≡◌, Bool, true, false, cond, not, find, ◌||◌, List, [], ◌∷◌, filter, refl, ◌∙◌, ap, subst, Option, Some, None, bytes_eq}
use Rattle.std.proofs.lemmas.Slice.Eq.{bytes_eq-Decides}
use Rattle.pm_goal.specs.declared.goal.Hyp.{Hyp}
use Rattle.pm_goal.specs.declared.goal.Goal.{Goal}
use Rattle.pm_goal.specs.declared.refusal.Refusal.{Refusal}
use Rattle.pm_goal.specs.declared.refusal.Row.{Row}
use Rattle.pm_classes.specs.Classes.{Parts}
use Rattle.pm_table.specs.Outcomes.{Outcome, gives, refused, joined, closed, require_entry, require_some}
use Rattle.pm_table.specs.declared.place.Place.{Place}
use Rattle.pm_table.specs.Works.{Named, has_hyp, has_spat, is_listed, hyps_out, hyps_but, hyp_named, without_spat, with_concl}
use Rattle.pm_table.specs.Basic.{chosen, unchosen, sides, star_parts, all_spatial, refuse_where, repeated, list_given, is_truth}
use Rattle.pm_table.specs.Framing.{frame}
use Rattle.pm_table.specs.Terms.{picked, picked_framed, framed, keeping, by_pattern}
use Rattle.pm_table.specs.Stepping.{Each}
use Rattle.pm_table.specs.Dealing.{Dealt, none, to_first, to_second, is_framed, spats_at, DealtToTwo, DealtAndFramed, SplitsDeal, PremisesDeal}

-- ---- lists

to_one : (listed : List Named) (t : Bool) (h : Hyp) (xs ys zs : List Hyp) → Dealt listed xs ys zs → Dealt listed (cond t (h ∷ xs) xs) (cond (not t) (h ∷ ys) ys) (h ∷ zs)
to_one listed true h xs ys zs d = to_first d
to_one listed false h xs ys zs d = to_second d

pub parted : (listed : List Named) (test : Hyp → Bool) (hs : List Hyp) → Dealt listed (filter test hs) (filter (λ h. not (test h)) hs) hs
parted listed test [] = none
parted listed test (h ∷ hs) = to_one listed (test h) h (filter test hs) (filter (λ h. not (test h)) hs) hs (parted listed test hs)

pub swapped : {listed : List Named} {xs ys zs : List Hyp} → Dealt listed xs ys zs → Dealt listed ys xs zs
swapped none = none
swapped (to_first d) = to_second (swapped d)
swapped (to_second d) = to_first (swapped d)
swapped (is_framed e d) = is_framed e (swapped d)

all_first : (listed : List Named) (hs : List Hyp) → Dealt listed hs [] hs
all_first listed [] = none
all_first listed (h ∷ hs) = to_first (all_first listed hs)

choice_deals : (list : Option (List Named)) (hs : List Hyp) → Dealt [] (chosen list hs) (unchosen list hs) hs
choice_deals None hs = all_first [] hs
choice_deals (Some list) hs = parted [] (λ h. is_listed list h.name) hs

-- ---- where rows may refuse

module _ (Q : Outcome → Type 0) (refusing : (r : Refusal) → Q (refused r)) where
  entry_or : {A : Type 0} (x : Option A) (row : Row) (follows : A → Outcome) → ((a : A) → Q (follows a)) → Q (require_entry x row follows)
  entry_or (Some a) row follows h = h a
  entry_or None row follows h = refusing _

  some_or : {A : Type 0} (x : Option A) (row : Row) (name : Named) (follows : A → Outcome) → ((a : A) → Q (follows a)) → Q (require_some x row name follows)
  some_or (Some a) row name follows h = h a
  some_or None row name follows h = refusing _

  none_named_or : (x : Option Named) (row : Row) (o : Outcome) → Q o → Q (refuse_where x row o)
  none_named_or (Some n) row o h = refusing _
  none_named_or None row o h = h

  spatial_or : (goal : Goal) (list : List Named) (o : Outcome) → Q o → Q (all_spatial goal list o)
  spatial_or goal list o h = none_named_or (find (λ x. not (has_hyp goal x)) list) _ _ (none_named_or (find (λ x. not (has_spat goal x)) list) _ _ (none_named_or (repeated list) _ o h))

  choice_or : (b : Bool) (o q : Outcome) → Q o → Q q → Q (cond b o q)
  choice_or true o q h g = h
  choice_or false o q h g = g

-- ---- splitting

sides_deal : (left : Bool) (p : Parts) (list : Option (List Named)) (goal : Goal) → DealtToTwo goal.spats (sides left p list goal)
sides_deal true p list goal = choice_deals list goal.spats
sides_deal false p list goal = swapped (choice_deals list goal.spats)

pub splits_deal : SplitsDeal
splits_deal left list goal = entry_or (DealtToTwo goal.spats) (λ r. tt) (star_parts goal.concl) _ _ (λ p. spatial_or (DealtToTwo goal.spats) (λ r. tt) goal (list_given list) _ (sides_deal left p list goal))

-- ---- premises

leaves_or_stays : (listed : List Named) (x : Named) (h : Hyp) → is_listed listed x ≡ true → (t : Bool) → bytes_eq x h.name ≡ t → (xs ys zs : List Hyp) → Dealt listed xs ys zs → Dealt listed (cond (not t) (h ∷ xs) xs) ys (h ∷ zs)
leaves_or_stays listed x h e true f xs ys zs d = is_framed (subst (λ n. is_listed listed n ≡ true) ((bytes_eq-Decides x h.name).0 f) e) d
leaves_or_stays listed x h e false f xs ys zs d = to_first d

-- what is framed leaves the first
framed_leaves : (listed : List Named) (x : Named) → is_listed listed x ≡ true → {xs ys zs : List Hyp} → Dealt listed xs ys zs → Dealt listed (hyps_but x xs) ys zs
framed_leaves listed x e none = none
framed_leaves listed x e (to_first {h = h} {xs = xs} {ys = ys} {zs = zs} d) = leaves_or_stays listed x h e (bytes_eq x h.name) refl (hyps_but x xs) ys zs (framed_leaves listed x e d)
framed_leaves listed x e (to_second d) = to_second (framed_leaves listed x e d)
framed_leaves listed x e (is_framed f d) = is_framed f (framed_leaves listed x e d)

-- what framing gives of the premise: the goal, with what it has left, or nothing
abbrev PremiseOf : List Named → List Hyp → List Hyp → Outcome → Type 0
PremiseOf listed bs cs (gives []) = (left : List Hyp) × Dealt listed left bs cs
PremiseOf listed bs cs (gives (p ∷ [])) = Dealt listed (spats_at p) bs cs
PremiseOf listed bs cs (gives (p ∷ q ∷ ps)) = ⊥
PremiseOf listed bs cs (refused r) = Unit {0}

framed_deals : (listed : List Named) (bs cs : List Hyp) (xs : List Named) → Each (λ x. is_listed listed x ≡ true) xs → (g : Goal) → Dealt listed g.spats bs cs → PremiseOf listed bs cs (framed xs g)
framed_deals listed bs cs [] given g d = d
framed_deals listed bs cs (x ∷ xs) given g d =
    some_or (PremiseOf listed bs cs) (λ r. tt) (hyp_named x g.spats) _ _ _ (λ r. some_or (PremiseOf listed bs cs) (λ r. tt) (frame r g.concl) _ _ _ (λ rest.
    choice_or (PremiseOf listed bs cs) (λ r. tt) (is_truth rest) closed (framed xs (without_spat x (with_concl rest g))) (g.spats, d)
    (framed_deals listed bs cs xs given.1 (without_spat x (with_concl rest g)) (framed_leaves listed x given.0 d))))

-- with the main work behind it
with_main : (listed : List Named) (cs : List Hyp) (o : Outcome) (q : Place) → PremiseOf listed (spats_at q) cs o → DealtAndFramed listed cs (joined o (gives (q ∷ [])))
with_main listed cs (gives []) q h = h
with_main listed cs (gives (p ∷ [])) q h = h
with_main listed cs (gives (p ∷ r ∷ ps)) q h = absurd h
with_main listed cs (refused r) q h = tt

-- a list names what is in it

or_true : (b : Bool) → (b || true) ≡ true
or_true true = refl
or_true false = refl

names_itself : (xs ys : List Named) → ((x : Named) → is_listed xs x ≡ true → is_listed ys x ≡ true) → Each (λ x. is_listed ys x ≡ true) xs
names_itself [] ys given = tt
names_itself (x ∷ xs) ys given =
    let here : is_listed (x ∷ xs) x ≡ true = ap (λ b. b || is_listed xs x) ((bytes_eq-Decides x x).1 refl) in
    (given x here, names_itself xs ys (λ y e. given y (ap (λ b. bytes_eq y x || b) e ∙ or_true (bytes_eq y x))))

pub premises_deal : PremisesDeal
unfolding by_pattern
premises_deal = record {
  these = λ picks s.
      let listed : List Named = picked_framed picks in let cs : List Hyp = s.work.goal.spats in
      spatial_or (DealtAndFramed listed cs) (λ r. tt) s.work.goal (picked picks) _
      (with_main listed cs (framed listed (keeping (picked picks) s.premise s.work.goal)) _
      (framed_deals listed (hyps_out (picked picks) cs) cs listed (names_itself listed listed (λ x e. e)) (keeping (picked picks) s.premise s.work.goal) (parted listed (λ h. is_listed (picked picks) h.name) cs)));
  others = λ list s. spatial_or (DealtToTwo s.work.goal.spats) (λ r. tt) s.work.goal list _ (swapped (parted [] (λ h. is_listed list h.name) s.work.goal.spats));
}
