-- How many hypotheses are in hand after each action, and how many patterns are to come.
use Rattle.std.proofs.Common.{◌≡◌, ℕ, zero, suc, ◌+◌, Bool, true, false, not, length, length-append, List, [], ◌∷◌, ◌++◌, replicate, refl, ap, subst, arith, Option, Some, None, is_some, option_and_then}
use Rattle.pm_logic.specs.declared.formula.Term.{Term}
use Rattle.pm_logic.specs.declared.formula.Formula.{Formula}
use Rattle.pm_logic.specs.Trees.{And}
use Rattle.pm_logic.specs.Substitution.{shift_of}
use Rattle.pm_goal.specs.declared.goal.Goal.{Goal}
use Rattle.pm_goal.specs.declared.work.Kind.{Kind}
use Rattle.pm_goal.specs.declared.work.Kind.TheVariants.{Int, Spat}
use Rattle.pm_goal.specs.declared.work.Held.{Held}
use Rattle.pm_goal.specs.declared.work.Work.{Work}
use Rattle.pm_goal.specs.declared.work.Lemmas.{Lemmas}
use Rattle.pm_patterns.specs.declared.pattern.Pat.{Pat}
use Rattle.pm_patterns.specs.declared.pattern.Spat as S
use Rattle.pm_patterns.specs.declared.pattern.Spat.TheVariants as premise
use Rattle.pm_classes.specs.Classes.{Parts, into_or, into_pure, into_forall, into_wand, from_pure}
use Rattle.pm_classes.specs.Persistence.{is_persistent}
use Rattle.pm_table.specs.Outcomes.{Outcome, Action, gives, refused, one}
use Rattle.pm_table.specs.declared.place.Place.{Place}
use Rattle.pm_table.specs.declared.place.Place.TheVariants.{Finished as finished, Current as current}
use Rattle.pm_table.specs.Works.{Named, Hand, hand_or, hand_of, acting_on, with_last, where_none, at_rest, hyp_named, fits, fresh_name, with_concl, without_spat, holding, hold, each_held, work_of}
use Rattle.pm_table.specs.Introductions.{sides_of, is_blocked, universal_of, intro_hyp, intro_all, intro_all_fresh}
use Rattle.pm_table.specs.Destructs as destructs
use Rattle.pm_table.specs.Destructs.{var_name, into_parts, with_hand, name_held, name_fresh, drop_held, body_held, one_part, fourth_way, third_way, parts_or, is_drop, boxed_part, either, absurd_held, is_falsehood, to_pure, to_pure_fresh, to_int, to_spat}
use Rattle.pm_table.specs.Basic.{on_goal, is_truth, is_done}
use Rattle.pm_table.specs.Patterns.{opening, outcome_with, intro_one, intro_var_or_hyp}
use Rattle.pm_table.specs.Modalities.{under_update, elim_update}
use Rattle.pm_table.specs.Rewriting.{equation_of, rewritten, subst_held}
use Rattle.pm_table.specs.Framing.{frame}
use Rattle.pm_table.specs.Terms.{held_as, lemma_named, premises, Step, take, lend, lemma, with_term, with_spat, assert, framed, by_pattern, keeping, picked, picked_framed, premise_goals, apply, concluding, frame_held, frame_named, frame_member, passing, is_premise}
use Rattle.pm_table.specs.Running.{turns_behind, with_turn}
use Rattle.pm_table.specs.Stepping.{Each}
use Rattle.pm_table.proofs.Placing.{Gives, joined_gives, choice_gives, require_gives, require_plain_gives, require_some_gives, require_entry_gives, all_spatial_gives, each_map}

-- ---- turns

-- how many of the patterns to come are for a work
abbrev pub count : List Bool → ℕ
count [] = zero
count (true ∷ turns) = suc (count turns)
count (false ∷ turns) = count turns

pub count-append : (ts us : List Bool) → count (ts ++ us) ≡ count ts + count us
count-append [] us = omega arith
count-append (true ∷ ts) us = let more = count-append ts us in omega (arith, more)
count-append (false ∷ ts) us = count-append ts us

pub count_no_more : (n : ℕ) (turns : List Bool) → count (replicate n false ++ turns) ≡ count turns
count_no_more zero turns = refl
count_no_more (suc n) turns = count_no_more n turns

-- So many patterns are to come; so many more hypotheses are in hand than there are patterns for them.
abbrev pub Stands : (turns more : ℕ) → Place → Type 0
Stands n k (finished goal) = Unit {0}
Stands n k (current turns work) = (length turns ≡ n) × (length work.held ≡ count turns + k)

pub stands_behind : (n k t j : ℕ) (turns : List Bool) (p : Place) → n + length turns ≡ t → count turns + j ≡ k → Stands n k p → Stands t j (turns_behind turns p)
stands_behind n k t j turns (finished goal) e f h = tt
stands_behind n k t j turns (current new w) e f h =
    (let l = length-append new turns in let i = h.0 in omega (arith, l, e, i), let c = count-append new turns in let i = h.1 in omega (arith, c, f, i))

pub stands_before : (n k : ℕ) (p : Place) → Stands n (suc k) p → Stands (suc n) k (with_turn p)
stands_before n k (finished goal) h = tt
stands_before n k (current turns w) h = (let i = h.0 in omega (arith, i), let i = h.1 in omega (arith, i))

-- ---- actions

-- where so many are in hand, the action leads to so many patterns and hypotheses
abbrev pub Takes : (held turns more : ℕ) → Action → Type 0
Takes a n k action = (w : Work) → length w.held ≡ a → Gives (Stands n k) (action w)

-- it is for the last in hand, whatever stands behind
abbrev pub Deals : (turns more : ℕ) → Action → Type 0
Deals n k action = (m : ℕ) → Takes (suc m) n (k + m) action

one_stands : (w : Work) (m : ℕ) → length w.held ≡ m → Gives (Stands 0 m) (one w)
one_stands w m e = ((refl, omega (arith, e)), tt)

one_more : (hs : List Held) (x : Held) (m : ℕ) → length hs ≡ m → length (hs ++ (x ∷ [])) ≡ suc m
one_more hs x m e = let l = length-append hs (x ∷ []) in omega (arith, l, e)

two_more : (hs : List Held) (x y : Held) (m : ℕ) → length hs ≡ m → length (hs ++ (x ∷ y ∷ [])) ≡ suc (suc m)
two_more hs x y m e = let l = length-append hs (x ∷ y ∷ []) in omega (arith, l, e)

hold_stands : (k : Kind) (f : Formula) (w : Work) (m : ℕ) → length w.held ≡ m → Gives (Stands 0 (suc m)) (one (hold k f w))
hold_stands k f w m e = one_stands (hold k f w) (suc m) (one_more w.held (holding k f) m e)

rest_stands : (P : Place → Type 0) (hs : List Held) (o q : Outcome) → length hs ≡ 0 → Gives P o → Gives P (where_none hs o q)
rest_stands P [] o q e h = h
rest_stands P (x ∷ hs) o q e h = absurd (omega (arith, e))

pub rest_takes : (n k : ℕ) (action : Action) → Takes 0 n k action → Takes 0 n k (at_rest action)
rest_takes n k action takes w e = rest_stands (Stands n k) w.held (action w) (one w) e (takes w e)

pub goal_takes : (k : ℕ) (action : Goal → Outcome) → ((goal : Goal) → Gives (Stands 0 k) (action goal)) → Takes 0 0 k (on_goal action)
goal_takes k action stands w e = rest_stands (Stands 0 k) w.held (action w.goal) (one w) e (stands w.goal)

-- the patterns to come are for what the action leaves in hand
opening_stands : (turns : List Bool) (k j : ℕ) (o : Outcome) → count turns + j ≡ k → Gives (Stands 0 k) o → Gives (Stands (length turns) j) (outcome_with turns o)
opening_stands turns k j (gives ps) e h = each_map (Stands 0 k) (Stands (length turns) j) (turns_behind turns) (λ p i. stands_behind 0 k (length turns) j turns p (omega arith) e i) ps h
opening_stands turns k j (refused r) e h = tt

-- ---- what is last in hand

abbrev OthersOf : ℕ → Option Hand → Type 0
OthersOf m None = ⊥
OthersOf m (Some hand) = length hand.others ≡ m

behind_others : (h : Held) (m : ℕ) (o : Option Hand) → OthersOf m o → OthersOf (suc m) (hand_or h o)
behind_others h m None e = absurd e
behind_others h m (Some hand) e = ap suc e

hand_others : (h : Held) (hs : List Held) → OthersOf (length hs) (hand_of (h ∷ hs))
hand_others h [] = refl
hand_others h (g ∷ hs) = behind_others h (length hs) (hand_of (g ∷ hs)) (hand_others g hs)

others_of : (m : ℕ) (hs : List Held) → length hs ≡ suc m → OthersOf m (hand_of hs)
others_of m [] e = absurd (omega (arith, e))
others_of m (h ∷ hs) e = let same : length hs ≡ m = omega (arith, e) in subst (λ n. OthersOf n (hand_of (h ∷ hs))) same (hand_others h hs)

acting_stands : (P : Place → Type 0) (w : Work) (act : Hand → Outcome) (m : ℕ) (o : Option Hand) → OthersOf m o → ((hand : Hand) → length hand.others ≡ m → Gives P (act hand)) → Gives P (acting_on w act o)
acting_stands P w act m None e h = absurd e
acting_stands P w act m (Some hand) e h = h hand e

last_stands : (P : Place → Type 0) (w : Work) (act : Hand → Outcome) (m : ℕ) → length w.held ≡ suc m → ((hand : Hand) → length hand.others ≡ m → Gives P (act hand)) → Gives P (with_last w act)
last_stands P w act m e h = acting_stands P w act m (hand_of w.held) (others_of m w.held e) h

-- ---- introductions

intro_hyp_stands : (w : Work) → length w.held ≡ 0 → Gives (Stands 0 1) (intro_hyp w)
intro_hyp_stands w e = require_entry_gives (Stands 0 1) (sides_of w.goal.concl) _ _ (λ s. require_plain_gives (Stands 0 1) (not (is_blocked s w.goal)) _ _ (hold_stands Spat s.left (work_of (with_concl s.right w.goal) w.held) 0 e))

pub intro_hyp_takes : Takes 0 0 1 intro_hyp
intro_hyp_takes w e = intro_hyp_stands w e

intro_all_stands : (x : Named) (w : Work) → Gives (Stands 0 0) (intro_all x w)
intro_all_stands x w = require_entry_gives (Stands 0 0) (universal_of w.goal.concl) _ _ (λ b. require_gives (Stands 0 0) (fits w.goal x) _ _ _ ((refl, refl), tt))

pub intro_all_takes : Takes 0 0 0 intro_all_fresh
intro_all_takes w e = intro_all_stands (fresh_name w.goal) w

intro_either_stands : (x : Option Named) (b : Option Formula) (w : Work) → length w.held ≡ 0 → Gives (Stands 1 0) (intro_var_or_hyp x b w)
intro_either_stands (Some x) (Some b) w e = opening_stands (false ∷ []) 0 0 (intro_all x w) refl (intro_all_stands x w)
intro_either_stands (Some x) None w e = opening_stands (true ∷ []) 1 0 (intro_hyp w) refl (intro_hyp_stands w e)
intro_either_stands None b w e = opening_stands (true ∷ []) 1 0 (intro_hyp w) refl (intro_hyp_stands w e)

pub intro_one_takes : (p : Pat) → Takes 0 1 0 (intro_one p)
intro_one_takes p w e = intro_either_stands (var_name w.goal p) (universal_of w.goal.concl) w e

-- ---- patterns

pub name_held_deals : (x : Named) → Deals 0 0 (name_held x)
name_held_deals x m w e = last_stands (Stands 0 (0 + m)) w _ m e (λ hand i. require_gives (Stands 0 (0 + m)) (fits w.goal x) _ _ _ ((refl, omega (arith, i)), tt))

pub name_fresh_deals : Deals 0 0 name_fresh
name_fresh_deals m w e = name_held_deals (fresh_name w.goal) m w e

none_more : (hs : List Held) → length (hs ++ []) ≡ length hs
none_more hs = let l = length-append hs [] in omega (arith, l)

pub drop_held_deals : Deals 0 0 drop_held
drop_held_deals m w e = last_stands (Stands 0 (0 + m)) w _ m e (λ hand i. let l = none_more hand.others in ((refl, omega (arith, i, l)), tt))

-- one in the place of the last
last_in_hand : (hand : Hand) (x : Held) (m c k : ℕ) → length hand.others ≡ m → c + k ≡ suc m → length (hand.others ++ (x ∷ [])) ≡ c + k
last_in_hand hand x m c k e f = let l = one_more hand.others x m e in omega (arith, l, f)

each_length : (change : Formula → Formula) (hs : List Held) → length (each_held change hs) ≡ length hs
each_length change [] = refl
each_length change (h ∷ hs) = ap suc (each_length change hs)

body_stands : (w : Work) (hand : Hand) (x : Named) (b : Formula) (m : ℕ) → length hand.others ≡ m → Gives (Stands 2 (0 + m)) (body_held w hand x b)
body_stands w hand x b m e =
    let same = each_length shift_of hand.others in
    let l = one_more (each_held shift_of hand.others) (holding hand.last.kind b) (length (each_held shift_of hand.others)) refl in
    require_gives (Stands 2 (0 + m)) (fits w.goal x) _ _ _ ((refl, omega (arith, e, same, l)), tt)

third_way_stands : (w : Work) (hand : Hand) (x : Option Named) (b : Option Formula) (o : Outcome) (m : ℕ) → length hand.others ≡ m → Gives (Stands 2 (0 + m)) o → Gives (Stands 2 (0 + m)) (third_way w hand x b o)
third_way_stands w hand (Some x) (Some b) o m e h = body_stands w hand x b m e
third_way_stands w hand (Some x) None o m e h = h
third_way_stands w hand None b o m e h = h

one_part_stands : (w : Work) (hand : Hand) (p q : Bool) (f : Formula) (m : ℕ) → length hand.others ≡ m → Gives (Stands 2 (0 + m)) (one_part w hand p q f)
one_part_stands w hand true q (And a b) m e = ((refl, last_in_hand hand (holding Spat b) m 1 (0 + m) e (omega arith)), tt)
one_part_stands w hand false true (And a b) m e = ((refl, last_in_hand hand (holding Spat a) m 1 (0 + m) e (omega arith)), tt)
one_part_stands w hand p q _ m e = tt

fourth_way_stands : (w : Work) (hand : Hand) (k : Kind) (p q : Bool) (m : ℕ) → length hand.others ≡ m → Gives (Stands 2 (0 + m)) (fourth_way w hand k p q)
fourth_way_stands w hand Spat p q m e = one_part_stands w hand p q hand.last.formula m e
fourth_way_stands w hand Int p q m e = tt

parts_or_stands : (w : Work) (hand : Hand) (x : Option Parts) (o : Outcome) (m : ℕ) → length hand.others ≡ m → Gives (Stands 2 (0 + m)) o → Gives (Stands 2 (0 + m)) (parts_or w hand x o)
parts_or_stands w hand (Some p) o m e h = let l = two_more hand.others (holding hand.last.kind p.second) (holding hand.last.kind p.first) m e in ((refl, omega (arith, l)), tt)
parts_or_stands w hand None o m e h = h

pub pair_deals : (p q : Pat) → Deals 2 0 (destructs.pair p q)
pair_deals p q m w e = last_stands (Stands 2 (0 + m)) w _ m e (λ hand i. parts_or_stands w hand (into_parts hand.last.kind hand.last.formula) _ m i (third_way_stands w hand (var_name w.goal p) _ _ m i (fourth_way_stands w hand hand.last.kind (is_drop p) (is_drop q) m i)))

pub either_deals : Deals 2 0 either
either_deals m w e = last_stands (Stands 2 (0 + m)) w _ m e (λ hand i. require_entry_gives (Stands 2 (0 + m)) (into_or hand.last.formula) _ _ (λ p.
    ((refl, last_in_hand hand (holding hand.last.kind p.first) m 1 (0 + m) i (omega arith)), ((refl, last_in_hand hand (holding hand.last.kind p.second) m 1 (0 + m) i (omega arith)), tt))))

pub absurd_deals : Deals 0 0 absurd_held
absurd_deals m w e = last_stands (Stands 0 (0 + m)) w _ m e (λ hand i. require_plain_gives (Stands 0 (0 + m)) (is_falsehood hand.last.formula) _ _ tt)

pub to_pure_deals : (x : Named) → Deals 0 0 (to_pure x)
to_pure_deals x m w e = last_stands (Stands 0 (0 + m)) w _ m e (λ hand i. require_entry_gives (Stands 0 (0 + m)) (into_pure hand.last.formula) _ _ (λ p. require_gives (Stands 0 (0 + m)) (fits w.goal x) _ _ _ ((refl, omega (arith, i)), tt)))

pub to_pure_fresh_deals : Deals 0 0 to_pure_fresh
to_pure_fresh_deals m w e = to_pure_deals (fresh_name w.goal) m w e

-- where the action puts one in the place of the last, on which the pattern acts
opening_deals : (action : Action) → Deals 0 1 action → Deals 1 0 (opening (true ∷ []) action)
opening_deals action deals m w e = opening_stands (true ∷ []) (1 + m) (0 + m) (action w) (omega arith) (deals m w e)

pub to_int_deals : Deals 1 0 (opening (true ∷ []) to_int)
to_int_deals = opening_deals to_int (λ m w e. last_stands (Stands 0 (1 + m)) w _ m e (λ hand i. require_entry_gives (Stands 0 (1 + m)) (boxed_part hand.last.kind hand.last.formula) _ _ (λ g. ((refl, last_in_hand hand (holding Int g) m 0 (1 + m) i (omega arith)), tt))))

pub to_spat_deals : Deals 1 0 (opening (true ∷ []) to_spat)
to_spat_deals = opening_deals to_spat (λ m w e. last_stands (Stands 0 (1 + m)) w _ m e (λ hand i. ((refl, last_in_hand hand (holding Spat hand.last.formula) m 0 (1 + m) i (omega arith)), tt)))

pub elim_deals : Deals 1 0 (opening (true ∷ []) elim_update)
elim_deals = opening_deals elim_update (λ m w e. last_stands (Stands 0 (1 + m)) w _ m e (λ hand i. require_entry_gives (Stands 0 (1 + m)) (under_update hand.last.formula) _ _ (λ b. require_plain_gives (Stands 0 (1 + m)) (is_some (under_update w.goal.concl)) _ _ ((refl, last_in_hand hand (holding Spat b) m 0 (1 + m) i (omega arith)), tt))))

pub subst_deals : (back : Bool) → Deals 0 0 (subst_held back)
subst_deals back m w e = last_stands (Stands 0 (0 + m)) w _ m e (λ hand i. require_entry_gives (Stands 0 (0 + m)) (option_and_then (equation_of back) (into_pure hand.last.formula)) _ _ (λ q.
    let same = each_length (rewritten q) hand.others in ((refl, omega (arith, i, same)), tt)))

concluding_stands : (rest : Formula) (w : Work) (m : ℕ) → length w.held ≡ m → Gives (Stands 0 m) (concluding rest w)
concluding_stands rest w m e = choice_gives (Stands 0 m) (is_truth rest) _ _ tt ((refl, omega (arith, e)), tt)

pub frame_held_deals : Deals 0 0 frame_held
frame_held_deals m w e = last_stands (Stands 0 (0 + m)) w _ m e (λ hand i. require_entry_gives (Stands 0 (0 + m)) (frame hand.last.formula w.goal.concl) _ _ (λ rest. concluding_stands rest (work_of w.goal hand.others) (0 + m) (omega (arith, i))))

-- ---- proof terms

pub take_takes : (x : Named) → Takes 0 0 1 (take x)
take_takes x w e = require_some_gives (Stands 0 1) (held_as x w.goal) _ _ _ (λ held. ((refl, one_more w.held (holding held.kind held.formula) 0 e), tt))

pub lend_takes : (x : Named) → Takes 0 0 1 (lend x)
lend_takes x w e = require_some_gives (Stands 0 1) (held_as x w.goal) _ _ _ (λ held. ((refl, one_more w.held (holding held.kind held.formula) 0 e), tt))

pub lemma_takes : (lemmas : Lemmas) (n : Named) → Takes 0 0 1 (lemma lemmas n)
lemma_takes lemmas n w e = require_some_gives (Stands 0 1) (lemma_named n lemmas.list) _ _ _ (λ f. ((refl, one_more w.held (holding Int f) 0 e), tt))

pub with_term_takes : (t : Term) → Takes 1 0 1 (with_term t)
with_term_takes t w e = last_stands (Stands 0 1) w _ 0 e (λ hand i. require_entry_gives (Stands 0 1) (into_forall hand.last.formula) _ _ (λ b. ((refl, one_more hand.others _ 0 i), tt)))

framed_stands : (n k : ℕ) (list : List Named) (g : Goal) → Gives (Stands n k) (framed list g)
framed_stands n k [] g = (tt, tt)
framed_stands n k (x ∷ xs) g = require_some_gives (Stands n k) (hyp_named x g.spats) _ _ _ (λ r. require_some_gives (Stands n k) (frame r g.concl) _ _ _ (λ rest. choice_gives (Stands n k) (is_truth rest) _ _ tt (framed_stands n k xs (without_spat x (with_concl rest g)))))

by_pattern_stands : (p : S.Spat) (s : Step) → length s.work.held ≡ 0 → Gives (Stands 0 1) (by_pattern p s)
unfolding by_pattern
by_pattern_stands (premise.Name x) s e = require_some_gives (Stands 0 1) (held_as x s.work.goal) _ _ _ (λ held. require_gives (Stands 0 1) (is_premise held s.premise) _ _ _ ((refl, one_more s.work.held _ 0 e), tt))
by_pattern_stands (premise.Goal picks) s e = all_spatial_gives (Stands 0 1) s.work.goal (picked picks) _ (joined_gives (Stands 0 1) (framed (picked_framed picks) (keeping (picked picks) s.premise s.work.goal)) _ (framed_stands 0 1 (picked_framed picks) (keeping (picked picks) s.premise s.work.goal)) ((refl, one_more s.work.held _ 0 e), tt))
by_pattern_stands (premise.Rest list) s e = all_spatial_gives (Stands 0 1) s.work.goal list _ (tt, ((refl, one_more s.work.held _ 0 e), tt))
by_pattern_stands premise.Persistent s e = require_plain_gives (Stands 0 1) (is_persistent s.premise) _ _ (tt, ((refl, one_more s.work.held _ 0 e), tt))
by_pattern_stands premise.Pure s e = require_entry_gives (Stands 0 1) (from_pure s.premise) _ _ (λ p. (tt, ((refl, one_more s.work.held _ 0 e), tt)))
by_pattern_stands premise.Done s e = require_plain_gives (Stands 0 1) (is_done (keeping [] s.premise s.work.goal)) _ _ ((refl, one_more s.work.held _ 0 e), tt)

pub with_spat_takes : (p : S.Spat) → Takes 1 0 1 (with_spat p)
with_spat_takes p w e = last_stands (Stands 0 1) w _ 0 e (λ hand i. require_entry_gives (Stands 0 1) (into_wand hand.last.formula) _ _ (λ parts. by_pattern_stands p (record { work = work_of w.goal hand.others; kind = hand.last.kind; premise = parts.first; result = parts.second }) i))

pub assert_takes : (f : Formula) (p : S.Spat) → Takes 0 0 1 (assert f p)
assert_takes f p w e = by_pattern_stands p (record { work = w; kind = Int; premise = f; result = f }) e

premise_goals_stand : (n k : ℕ) (g : Goal) (ps : List Formula) → Each (Stands n k) (premise_goals g ps)
premise_goals_stand n k g [] = tt
premise_goals_stand n k g (p ∷ ps) = (tt, premise_goals_stand n k g ps)

pub apply_takes : Takes 1 0 0 apply
apply_takes w e = last_stands (Stands 0 0) w _ 0 e (λ hand i. require_entry_gives (Stands 0 0) (premises w.goal.concl hand.last.formula) _ _ (λ ps. premise_goals_stand 0 0 w.goal ps))

-- ---- framing

pub frame_named_takes : (x : Named) → Takes 0 0 0 (frame_named x)
frame_named_takes x w e = require_some_gives (Stands 0 0) (held_as x w.goal) _ _ _ (λ held. require_some_gives (Stands 0 0) (frame held.formula w.goal.concl) _ _ _ (λ rest. concluding_stands rest (work_of (without_spat x w.goal) w.held) 0 e))

passing_stands : (x : Named) (w : Work) (o : Option Formula) → length w.held ≡ 0 → Gives (Stands 0 0) (passing x w o)
passing_stands x w (Some rest) e = concluding_stands rest (work_of (without_spat x w.goal) w.held) 0 e
passing_stands x w None e = ((refl, e), tt)

pub frame_member_takes : (x : Named) → Takes 0 0 0 (frame_member x)
frame_member_takes x w e = require_some_gives (Stands 0 0) (held_as x w.goal) _ _ _ (λ held. passing_stands x w (frame held.formula w.goal.concl) e)
