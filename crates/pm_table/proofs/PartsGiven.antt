-- What moving, naming, dropping, choosing and taking apart give are parts of what was there.
use Rattle.std.proofs.Common.{◌≡◌, Bool, true, false, cond, not, ◌||◌, List, [], ◌∷◌, ◌++◌, map, subst, inl, inr, Option, Some, None, option_map, bytes_eq, is_some}
use Rattle.std.specs.List.{AllByRecursion}
use Rattle.pm_logic.specs.declared.formula.Pure as P
use Rattle.pm_logic.specs.declared.formula.Formula.{Formula}
use Rattle.pm_logic.specs.declared.formula.Formula.TheVariants.{Pure as Assert}
use Rattle.pm_logic.specs.Trees.{both, either as either_pure, Sep, Wand, And, Or, Imp, All, Upd}
use Rattle.pm_logic.specs.Substitution.{in_formula, shift_of}
use Rattle.pm_goal.specs.declared.goal.Hyp.{Hyp}
use Rattle.pm_goal.specs.declared.goal.Fact.{Fact}
use Rattle.pm_goal.specs.declared.goal.Goal.{Goal}
use Rattle.pm_goal.specs.declared.work.Kind.{Kind}
use Rattle.pm_goal.specs.declared.work.Kind.TheVariants.{Int, Spat}
use Rattle.pm_goal.specs.declared.work.Held.{Held}
use Rattle.pm_goal.specs.declared.work.Work.{Work}
use Rattle.pm_goal.specs.Find.{first_of_two}
use Rattle.pm_goal.specs.Left.{facts, hyps}
use Rattle.pm_patterns.specs.declared.pattern.Pat.{Pat}
use Rattle.pm_classes.specs.Classes.{Parts, parts, into_or, into_exist}
use Rattle.pm_classes.specs.Persistence.{is_persistent}
use Rattle.pm_table.specs.Outcomes.{Outcome, gives, refused, Action, one}
use Rattle.pm_table.specs.declared.place.Place.{Place}
use Rattle.pm_table.specs.Limits.{work_formulas, work_at, resting}
use Rattle.pm_table.specs.Occurrences.{shifted_pure}
use Rattle.pm_table.specs.Works
use Rattle.pm_table.specs.Works.{Named, Hand, hand_or, hand_of, hyp_named, fact_named, has_hyp_or_fact, fits, is_listed, with_hyp, with_var, with_concl, without_named, without_spat, each_held, holding, hold, work_of, with_last}
use Rattle.pm_table.specs.Introductions.{Sides, sides_of, is_blocked, universal_of, intro_hyp, intro_all}
use Rattle.pm_table.specs.Destructs as destructs
use Rattle.pm_table.specs.Destructs.{var_name, into_parts, name_held, drop_held, body_held, one_part, fourth_way, third_way, parts_or, is_drop, boxed_part, either, absurd_held, is_falsehood, to_int, to_spat}
use Rattle.pm_table.specs.Basic.{on_goal, for, with_spats, split_parts, star_parts, or_parts, list_given, is_exact, is_hypothesis, is_fact, split, split_at, sides, side, exact, assumption, done, try_done, is_done, clear, rename, renamed, with_renamed, chosen, unchosen}
use Rattle.pm_table.specs.Modalities.{under_update, elim_update}
use Rattle.pm_table.specs.Terms.{held_as, take, lend}
use Rattle.pm_table.specs.Parts as part
use Rattle.pm_table.specs.Parts.{IsPart, IsPartOfOne, EachWork, GivesParts, OnlyPartsAreGiven}
use Rattle.pm_table.proofs.Keeping.{InOutcome, Everywhere, rests_in}
use Rattle.pm_table.proofs.Outcomes.{chosen_in, require_in, require_plain_in, require_some_in, require_entry_in, all_spatial_in, with_last_in}
use Rattle.pm_table.proofs.Scoping.{all_append, all_filter, all_map}
use Rattle.pm_table.proofs.PartsOfClasses as class
use Rattle.pm_table.proofs.PartsOfClasses.{PartsOf, PartOf, parts_if}

-- ---- parts that directives look for

abbrev SidesOf : Formula → Option Sides → Type 0
SidesOf f None = Unit {0}
SidesOf f (Some s) = IsPart s.left f × IsPart s.right f

sides_are : (f : Formula) → SidesOf f (sides_of f)
sides_are (Wand a b) = (part.wand_left a b, part.wand_right a b)
sides_are (Imp a b) = (part.imp_left a b, part.imp_right a b)
sides_are _ = tt

universal_is : (f : Formula) → PartOf f (universal_of f)
universal_is (All b) = part.all_body b
universal_is _ = tt

update_is : (f : Formula) → PartOf f (under_update f)
unfolding under_update
update_is (Upd a) = part.updated a
update_is _ = tt

split_are : (f : Formula) → PartsOf f (split_parts f)
split_are (And a b) = (part.and_left a b, part.and_right a b)
split_are (Assert (both p q)) = (part.both_left p q, part.both_right p q)
split_are (Sep a b) = parts_if (Sep a b) (is_persistent a || is_persistent b) (parts a b) (part.sep_left a b) (part.sep_right a b)
split_are _ = tt

star_are : (f : Formula) → PartsOf f (star_parts f)
star_are (Sep a b) = (part.sep_left a b, part.sep_right a b)
star_are _ = tt

or_are : (f : Formula) → PartsOf f (or_parts f)
or_are (Or a b) = (part.or_left a b, part.or_right a b)
or_are (Assert (either_pure p q)) = (part.either_left p q, part.either_right p q)
or_are _ = tt

into_are : (kind : Kind) (f : Formula) → PartsOf f (into_parts kind f)
into_are Spat f = class.of_sep f
into_are Int f = class.of_and f

boxed_is : (kind : Kind) (f : Formula) → PartOf f (boxed_part kind f)
boxed_is Int f = part.itself f
boxed_is Spat f = class.of_persistent f

shifted_fact : (p : P.Pure) → IsPart (Assert (shifted_pure p)) (Assert p)
unfolding in_formula
shifted_fact p = part.shifted (Assert p)

-- ---- a property that passes to parts

module _ (S : Formula → Type 0) (down : (f g : Formula) → IsPart g f → S f → S g) where
  abbrev Hyps : List Hyp → Type 0
  Hyps hs = AllByRecursion (λ h. S h.formula) hs

  abbrev Helds : List Held → Type 0
  Helds hs = AllByRecursion (λ h. S h.formula) hs

  record GoalHas (g : Goal) : Type 0 where
    pures : AllByRecursion (λ f. S (Assert f.pure)) g.pures
    ints : Hyps g.ints
    spats : Hyps g.spats
    concl : S g.concl

  record WorkHas (w : Work) : Type 0 where
    goal : GoalHas w.goal
    held : Helds w.held

  record HandHas (hand : Hand) : Type 0 where
    others : Helds hand.others
    last : S hand.last.formula

  abbrev OptionHas : Option Formula → Type 0
  OptionHas None = Unit {0}
  OptionHas (Some f) = S f

  abbrev HeldOptionHas : Option Held → Type 0
  HeldOptionHas None = Unit {0}
  HeldOptionHas (Some h) = S h.formula

  abbrev PureOptionHas : Option P.Pure → Type 0
  PureOptionHas None = Unit {0}
  PureOptionHas (Some p) = S (Assert p)

  abbrev HandOptionHas : Option Hand → Type 0
  HandOptionHas None = Unit {0}
  HandOptionHas (Some hand) = HandHas hand

  part_has : (f : Formula) (o : Option Formula) (g : Formula) → PartOf f o → o ≡ Some g → S f → S g
  part_has f o g p e s = down f g (subst (PartOf f) e p) s

  parts_have : (f : Formula) (o : Option Parts) (g : Parts) → PartsOf f o → o ≡ Some g → S f → S g.first × S g.second
  parts_have f o g p e s = let both : PartsOf f (Some g) = subst (PartsOf f) e p in (down f g.first both.0 s, down f g.second both.1 s)

  -- ---- what is found

  one_chosen : (b : Bool) (o q : Option Formula) → OptionHas o → OptionHas q → OptionHas (cond b o q)
  one_chosen true o q h g = h
  one_chosen false o q h g = g

  pure_chosen : (b : Bool) (o q : Option P.Pure) → PureOptionHas o → PureOptionHas q → PureOptionHas (cond b o q)
  pure_chosen true o q h g = h
  pure_chosen false o q h g = g

  side_chosen : (b : Bool) (f g : Formula) → S f → S g → S (cond b f g)
  side_chosen true f g h i = h
  side_chosen false f g h i = i

  hyp_named_has : (x : Named) (hs : List Hyp) → Hyps hs → OptionHas (hyp_named x hs)
  hyp_named_has x [] h = tt
  hyp_named_has x (g ∷ hs) h = one_chosen (bytes_eq x g.name) (Some g.formula) (hyp_named x hs) h.0 (hyp_named_has x hs h.1)

  fact_named_has : (x : Named) (fs : List Fact) → AllByRecursion (λ f. S (Assert f.pure)) fs → PureOptionHas (fact_named x fs)
  fact_named_has x [] h = tt
  fact_named_has x (f ∷ fs) h = pure_chosen (bytes_eq x f.name) (Some f.pure) (fact_named x fs) h.0 (fact_named_has x fs h.1)

  of_kind : (kind : Kind) (o : Option Formula) → OptionHas o → HeldOptionHas (option_map (holding kind) o)
  of_kind kind None h = tt
  of_kind kind (Some f) h = h

  of_pure : (o : Option P.Pure) → PureOptionHas o → HeldOptionHas (option_map (λ p. holding Int (Assert p)) o)
  of_pure None h = tt
  of_pure (Some p) h = h

  first_held : (o q : Option Held) → HeldOptionHas o → HeldOptionHas q → HeldOptionHas (first_of_two o q)
  first_held (Some h) q s t = s
  first_held None q s t = t

  held_as_has : (x : Named) (g : Goal) → GoalHas g → HeldOptionHas (held_as x g)
  held_as_has x g h =
      let spats : Option Held = option_map (holding Spat) (hyp_named x g.spats) in
      let ints : Option Held = option_map (holding Int) (hyp_named x g.ints) in
      let pures : Option Held = option_map (λ p. holding Int (Assert p)) (fact_named x g.pures) in
      first_held spats (first_of_two ints pures) (of_kind Spat (hyp_named x g.spats) (hyp_named_has x g.spats h.spats))
      (first_held ints pures (of_kind Int (hyp_named x g.ints) (hyp_named_has x g.ints h.ints)) (of_pure (fact_named x g.pures) (fact_named_has x g.pures h.pures)))

  hand_or_has : (h : Held) (o : Option Hand) → S h.formula → HandOptionHas o → HandOptionHas (hand_or h o)
  hand_or_has h None s g = record { others = tt; last = s }
  hand_or_has h (Some hand) s g = record { others = (s, g.others); last = g.last }

  hand_has : (hs : List Held) → Helds hs → HandOptionHas (hand_of hs)
  hand_has [] h = tt
  hand_has (g ∷ hs) h = hand_or_has g (hand_of hs) h.0 (hand_has hs h.1)

  in_hand : (w : Work) (act : Hand → Outcome) → WorkHas w → ((hand : Hand) → HandHas hand → InOutcome WorkHas (act hand)) → InOutcome WorkHas (with_last w act)
  in_hand w act h g = with_last_in WorkHas w act h (λ hand e. g hand (subst HandOptionHas e (hand_has w.held h.held)))

  -- ---- goals

  concl_has : (c : Formula) (g : Goal) → GoalHas g → S c → GoalHas (with_concl c g)
  concl_has c g h s = record { pures = h.pures; ints = h.ints; spats = h.spats; concl = s }

  without_named_has : (x : Named) (g : Goal) → GoalHas g → GoalHas (without_named x g)
  without_named_has x g h = record {
    pures = all_filter (λ f. S (Assert f.pure)) (λ f. not (bytes_eq x f.name)) g.pures h.pures;
    ints = all_filter (λ i. S i.formula) (λ i. not (bytes_eq x i.name)) g.ints h.ints;
    spats = all_filter (λ i. S i.formula) (λ i. not (bytes_eq x i.name)) g.spats h.spats;
    concl = h.concl;
  }

  without_spat_has : (x : Named) (g : Goal) → GoalHas g → GoalHas (without_spat x g)
  without_spat_has x g h = record { pures = h.pures; ints = h.ints; spats = all_filter (λ i. S i.formula) (λ i. not (bytes_eq x i.name)) g.spats h.spats; concl = h.concl }

  with_spats_has : (hs : List Hyp) (c : Formula) (g : Goal) → GoalHas g → Hyps hs → S c → GoalHas (for c (with_spats hs g))
  with_spats_has hs c g h s t = record { pures = h.pures; ints = h.ints; spats = s; concl = t }

  with_hyp_has : (kind : Kind) (x : Named) (f : Formula) (g : Goal) → GoalHas g → S f → GoalHas (with_hyp kind x f g)
  with_hyp_has Int x f g h s = record { pures = h.pures; ints = all_append (λ i. S i.formula) g.ints (Works.hyp x f ∷ []) h.ints (s, tt); spats = h.spats; concl = h.concl }
  with_hyp_has Spat x f g h s = record { pures = h.pures; ints = h.ints; spats = all_append (λ i. S i.formula) g.spats (Works.hyp x f ∷ []) h.spats (s, tt); concl = h.concl }

  with_var_has : (x : Named) (c : Formula) (g : Goal) → GoalHas g → S c → GoalHas (with_var x c g)
  with_var_has x c g h s = record {
    pures = all_map (λ f. S (Assert f.pure)) (λ f. S (Assert f.pure)) (λ f. Works.fact f.name (shifted_pure f.pure)) (λ f t. down (Assert f.pure) (Assert (shifted_pure f.pure)) (shifted_fact f.pure) t) g.pures h.pures;
    ints = all_map (λ i. S i.formula) (λ i. S i.formula) (λ i. Works.hyp i.name (shift_of i.formula)) (λ i t. down i.formula (shift_of i.formula) (part.shifted i.formula) t) g.ints h.ints;
    spats = all_map (λ i. S i.formula) (λ i. S i.formula) (λ i. Works.hyp i.name (shift_of i.formula)) (λ i t. down i.formula (shift_of i.formula) (part.shifted i.formula) t) g.spats h.spats;
    concl = s;
  }

  renamed_has : (x y : Named) (g : Goal) → GoalHas g → GoalHas (with_renamed x y g)
  renamed_has x y g h = record {
    pures = all_map (λ f. S (Assert f.pure)) (λ f. S (Assert f.pure)) (λ f. Works.fact (renamed x y f.name) f.pure) (λ f s. s) g.pures h.pures;
    ints = all_map (λ i. S i.formula) (λ i. S i.formula) (λ i. Works.hyp (renamed x y i.name) i.formula) (λ i s. s) g.ints h.ints;
    spats = all_map (λ i. S i.formula) (λ i. S i.formula) (λ i. Works.hyp (renamed x y i.name) i.formula) (λ i s. s) g.spats h.spats;
    concl = h.concl;
  }

  rests : (g : Goal) → GoalHas g → WorkHas (resting g)
  rests g h = record { goal = h; held = tt }

  held_then : (kind : Kind) (f : Formula) (g : Goal) (hs : List Held) → GoalHas g → Helds hs → S f → WorkHas (hold kind f (work_of g hs))
  held_then kind f g hs h s t = record { goal = h; held = all_append (λ i. S i.formula) hs (holding kind f ∷ []) s (t, tt) }

  rehanded : (w : Work) (hand : Hand) (new : List Held) → WorkHas w → HandHas hand → Helds new → WorkHas (destructs.with_hand w hand new)
  rehanded w hand new h g s = record { goal = h.goal; held = all_append (λ i. S i.formula) hand.others new g.others s }

  -- ---- actions

  intro_hyp_has : (w : Work) → WorkHas w → InOutcome WorkHas (intro_hyp w)
  intro_hyp_has w h = require_entry_in WorkHas (sides_of w.goal.concl) _ _ (λ s e. require_plain_in WorkHas (not (is_blocked s w.goal)) _ _ (λ f.
      let are : SidesOf w.goal.concl (Some s) = subst (SidesOf w.goal.concl) e (sides_are w.goal.concl) in
      (held_then Spat s.left (with_concl s.right w.goal) w.held (concl_has s.right w.goal h.goal (down w.goal.concl s.right are.1 h.goal.concl)) h.held (down w.goal.concl s.left are.0 h.goal.concl), tt)))

  intro_all_has : (x : Named) (w : Work) → WorkHas w → InOutcome WorkHas (intro_all x w)
  intro_all_has x w h = require_entry_in WorkHas (universal_of w.goal.concl) _ _ (λ b e. require_in WorkHas (fits w.goal x) _ _ _ (λ free.
      (record { goal = with_var_has x b w.goal h.goal (part_has w.goal.concl (universal_of w.goal.concl) b (universal_is w.goal.concl) e h.goal.concl); held = tt }, tt)))

  name_held_has : (x : Named) (w : Work) → WorkHas w → InOutcome WorkHas (name_held x w)
  name_held_has x w h = in_hand w _ h (λ hand g. require_in WorkHas (fits w.goal x) _ _ _ (λ free. (record { goal = with_hyp_has hand.last.kind x hand.last.formula w.goal h.goal g.last; held = g.others }, tt)))

  drop_held_has : (w : Work) → WorkHas w → InOutcome WorkHas (drop_held w)
  drop_held_has w h = in_hand w _ h (λ hand g. (rehanded w hand [] h g tt, tt))

  parts_or_has : (w : Work) (hand : Hand) (o : Option Parts) (q : Outcome) → WorkHas w → HandHas hand → PartsOf hand.last.formula o → InOutcome WorkHas q → InOutcome WorkHas (parts_or w hand o q)
  parts_or_has w hand (Some p) q h g are i = (rehanded w hand (holding hand.last.kind p.second ∷ holding hand.last.kind p.first ∷ []) h g (down hand.last.formula p.second are.1 g.last, (down hand.last.formula p.first are.0 g.last, tt)), tt)
  parts_or_has w hand None q h g are i = i

  held_shifted : (hs : List Held) → Helds hs → Helds (each_held shift_of hs)
  held_shifted hs h = all_map (λ i. S i.formula) (λ i. S i.formula) (λ i. holding i.kind (shift_of i.formula)) (λ i t. down i.formula (shift_of i.formula) (part.shifted i.formula) t) hs h

  body_held_has : (w : Work) (hand : Hand) (x : Named) (b : Formula) → WorkHas w → HandHas hand → S b → InOutcome WorkHas (body_held w hand x b)
  body_held_has w hand x b h g s = require_in WorkHas (fits w.goal x) _ _ _ (λ free.
      (held_then hand.last.kind b (with_var x (shift_of w.goal.concl) w.goal) (each_held shift_of hand.others) (with_var_has x (shift_of w.goal.concl) w.goal h.goal (down w.goal.concl (shift_of w.goal.concl) (part.shifted w.goal.concl) h.goal.concl)) (held_shifted hand.others g.others) s, tt))

  third_way_has : (w : Work) (hand : Hand) (x : Option Named) (b : Option Formula) (q : Outcome) → WorkHas w → HandHas hand → PartOf hand.last.formula b → InOutcome WorkHas q → InOutcome WorkHas (third_way w hand x b q)
  third_way_has w hand (Some x) (Some b) q h g is i = body_held_has w hand x b h g (down hand.last.formula b is g.last)
  third_way_has w hand (Some x) None q h g is i = i
  third_way_has w hand None b q h g is i = i

  one_part_has : (w : Work) (hand : Hand) (p q : Bool) (f : Formula) → WorkHas w → HandHas hand → S f → InOutcome WorkHas (one_part w hand p q f)
  one_part_has w hand true q (And a b) h g s = (rehanded w hand (holding Spat b ∷ []) h g (down (And a b) b (part.and_right a b) s, tt), tt)
  one_part_has w hand false true (And a b) h g s = (rehanded w hand (holding Spat a ∷ []) h g (down (And a b) a (part.and_left a b) s, tt), tt)
  one_part_has w hand p q _ h g s = tt

  fourth_way_has : (w : Work) (hand : Hand) (kind : Kind) (p q : Bool) → WorkHas w → HandHas hand → InOutcome WorkHas (fourth_way w hand kind p q)
  fourth_way_has w hand Spat p q h g = one_part_has w hand p q hand.last.formula h g g.last
  fourth_way_has w hand Int p q h g = tt

  pair_has : (p q : Pat) (w : Work) → WorkHas w → InOutcome WorkHas (destructs.pair p q w)
  pair_has p q w h = in_hand w _ h (λ hand g.
      parts_or_has w hand (into_parts hand.last.kind hand.last.formula) _ h g (into_are hand.last.kind hand.last.formula)
      (third_way_has w hand (var_name w.goal p) (into_exist hand.last.formula) _ h g (class.of_exist hand.last.formula)
      (fourth_way_has w hand hand.last.kind (is_drop p) (is_drop q) h g)))

  either_has : (w : Work) → WorkHas w → InOutcome WorkHas (either w)
  either_has w h = in_hand w _ h (λ hand g. require_entry_in WorkHas (into_or hand.last.formula) _ _ (λ p e.
      let two = parts_have hand.last.formula (into_or hand.last.formula) p (class.of_or hand.last.formula) e g.last in
      (rehanded w hand (holding hand.last.kind p.first ∷ []) h g (two.0, tt), (rehanded w hand (holding hand.last.kind p.second ∷ []) h g (two.1, tt), tt))))

  absurd_has : (w : Work) → WorkHas w → InOutcome WorkHas (absurd_held w)
  absurd_has w h = in_hand w _ h (λ hand g. require_plain_in WorkHas (is_falsehood hand.last.formula) _ _ (λ e. tt))

  to_int_has : (w : Work) → WorkHas w → InOutcome WorkHas (to_int w)
  to_int_has w h = in_hand w _ h (λ hand g. require_entry_in WorkHas (boxed_part hand.last.kind hand.last.formula) _ _ (λ f e.
      (rehanded w hand (holding Int f ∷ []) h g (part_has hand.last.formula (boxed_part hand.last.kind hand.last.formula) f (boxed_is hand.last.kind hand.last.formula) e g.last, tt), tt)))

  to_spat_has : (w : Work) → WorkHas w → InOutcome WorkHas (to_spat w)
  to_spat_has w h = in_hand w _ h (λ hand g. (rehanded w hand (holding Spat hand.last.formula ∷ []) h g (g.last, tt), tt))

  elim_update_has : (w : Work) → WorkHas w → InOutcome WorkHas (elim_update w)
  elim_update_has w h = in_hand w _ h (λ hand g. require_entry_in WorkHas (under_update hand.last.formula) _ _ (λ b e. require_plain_in WorkHas (is_some (under_update w.goal.concl)) _ _ (λ i.
      (held_then Spat b w.goal hand.others h.goal g.others (part_has hand.last.formula (under_update hand.last.formula) b (update_is hand.last.formula) e g.last), tt))))

  take_has : (x : Named) (w : Work) → WorkHas w → InOutcome WorkHas (take x w)
  take_has x w h = require_some_in WorkHas (held_as x w.goal) _ _ _ (λ held e.
      (held_then held.kind held.formula (without_named x w.goal) w.held (without_named_has x w.goal h.goal) h.held (subst HeldOptionHas e (held_as_has x w.goal h.goal)), tt))

  lend_has : (x : Named) (w : Work) → WorkHas w → InOutcome WorkHas (lend x w)
  lend_has x w h = require_some_in WorkHas (held_as x w.goal) _ _ _ (λ held e.
      (held_then held.kind held.formula (without_spat x w.goal) w.held (without_spat_has x w.goal h.goal) h.held (subst HeldOptionHas e (held_as_has x w.goal h.goal)), tt))

  concluded : (c : Formula) (w : Work) → WorkHas w → S c → WorkHas (resting (for c w.goal))
  concluded c w h s = rests (for c w.goal) (concl_has c w.goal h.goal s)

  split_has : (w : Work) → WorkHas w → InOutcome WorkHas (split w.goal)
  split_has w h = require_entry_in WorkHas (split_parts w.goal.concl) _ _ (λ p e.
      let two = parts_have w.goal.concl (split_parts w.goal.concl) p (split_are w.goal.concl) e h.goal.concl in
      (concluded p.first w h two.0, (concluded p.second w h two.1, tt)))

  chosen_has : (list : Option (List Named)) (hs : List Hyp) → Hyps hs → Hyps (chosen list hs)
  chosen_has None hs h = h
  chosen_has (Some list) hs h = all_filter (λ i. S i.formula) (λ i. is_listed list i.name) hs h

  unchosen_has : (list : Option (List Named)) (hs : List Hyp) → Hyps hs → Hyps (unchosen list hs)
  unchosen_has None hs h = tt
  unchosen_has (Some list) hs h = all_filter (λ i. S i.formula) (λ i. not (is_listed list i.name)) hs h

  sides_have : (left : Bool) (p : Parts) (list : Option (List Named)) (g : Goal) → GoalHas g → S p.first → S p.second → InOutcome WorkHas (sides left p list g)
  sides_have true p list g h s t = (rests (for p.first (with_spats (chosen list g.spats) g)) (with_spats_has (chosen list g.spats) p.first g h (chosen_has list g.spats h.spats) s), (rests (for p.second (with_spats (unchosen list g.spats) g)) (with_spats_has (unchosen list g.spats) p.second g h (unchosen_has list g.spats h.spats) t), tt))
  sides_have false p list g h s t = (rests (for p.first (with_spats (unchosen list g.spats) g)) (with_spats_has (unchosen list g.spats) p.first g h (unchosen_has list g.spats h.spats) s), (rests (for p.second (with_spats (chosen list g.spats) g)) (with_spats_has (chosen list g.spats) p.second g h (chosen_has list g.spats h.spats) t), tt))

  split_at_has : (left : Bool) (list : Option (List Named)) (w : Work) → WorkHas w → InOutcome WorkHas (split_at left list w.goal)
  split_at_has left list w h = require_entry_in WorkHas (star_parts w.goal.concl) _ _ (λ p e.
      let two = parts_have w.goal.concl (star_parts w.goal.concl) p (star_are w.goal.concl) e h.goal.concl in
      all_spatial_in WorkHas w.goal (list_given list) _ (sides_have left p list w.goal h.goal two.0 two.1))

  side_has : (left : Bool) (w : Work) → WorkHas w → InOutcome WorkHas (side left w.goal)
  side_has left w h = require_entry_in WorkHas (or_parts w.goal.concl) _ _ (λ p e.
      let two = parts_have w.goal.concl (or_parts w.goal.concl) p (or_are w.goal.concl) e h.goal.concl in
      (concluded (cond left p.first p.second) w h (side_chosen left p.first p.second two.0 two.1), tt))

  exact_has : (x : Named) (w : Work) → WorkHas w → InOutcome WorkHas (exact x w.goal)
  exact_has x w h = require_in WorkHas (has_hyp_or_fact w.goal x) _ _ _ (λ e. require_plain_in WorkHas (is_exact x w.goal) _ _ (λ f. tt))

  assumption_has : (w : Work) → WorkHas w → InOutcome WorkHas (assumption w.goal)
  assumption_has w h = require_plain_in WorkHas (is_hypothesis w.goal || is_fact w.goal) _ _ (λ e. tt)

  done_has : (w : Work) → WorkHas w → InOutcome WorkHas (done w.goal)
  done_has w h = require_plain_in WorkHas (is_done w.goal) _ _ (λ e. tt)

  try_done_has : (w : Work) → WorkHas w → InOutcome WorkHas (try_done w.goal)
  try_done_has w h = chosen_in WorkHas (is_done w.goal) _ _ (λ e. tt) (λ e. (rests w.goal h.goal, tt))

  clear_has : (x : Named) (w : Work) → WorkHas w → InOutcome WorkHas (clear x w.goal)
  clear_has x w h = require_in WorkHas (has_hyp_or_fact w.goal x) _ _ _ (λ e. (rests (without_named x w.goal) (without_named_has x w.goal h.goal), tt))

  rename_has : (x y : Named) (w : Work) → WorkHas w → InOutcome WorkHas (rename x y w.goal)
  rename_has x y w h = require_in WorkHas (has_hyp_or_fact w.goal x) _ _ _ (λ e. require_in WorkHas (fits w.goal y) _ _ _ (λ free. (rests (with_renamed x y w.goal) (renamed_has x y w.goal h.goal), tt)))

  -- ---- all formulas of a work

  left_of : (fs gs : List Formula) → AllByRecursion S (fs ++ gs) → AllByRecursion S fs
  left_of [] gs h = tt
  left_of (f ∷ fs) gs h = (h.0, left_of fs gs h.1)

  right_of : (fs gs : List Formula) → AllByRecursion S (fs ++ gs) → AllByRecursion S gs
  right_of [] gs h = h
  right_of (f ∷ fs) gs h = right_of fs gs h.1

  of_facts : (fs : List Fact) → AllByRecursion S (facts fs) → AllByRecursion (λ f. S (Assert f.pure)) fs
  of_facts [] h = tt
  of_facts (f ∷ fs) h = (h.0, of_facts fs h.1)

  of_hyps : (hs : List Hyp) → AllByRecursion S (hyps hs) → Hyps hs
  of_hyps [] h = tt
  of_hyps (f ∷ hs) h = (h.0, of_hyps hs h.1)

  of_held : (hs : List Held) → AllByRecursion S (map (λ h. h.formula) hs) → Helds hs
  of_held [] h = tt
  of_held (f ∷ hs) h = (h.0, of_held hs h.1)

  to_facts : (fs : List Fact) → AllByRecursion (λ f. S (Assert f.pure)) fs → AllByRecursion S (facts fs)
  to_facts [] h = tt
  to_facts (f ∷ fs) h = (h.0, to_facts fs h.1)

  to_hyps : (hs : List Hyp) → Hyps hs → AllByRecursion S (hyps hs)
  to_hyps [] h = tt
  to_hyps (f ∷ hs) h = (h.0, to_hyps hs h.1)

  to_held : (hs : List Held) → Helds hs → AllByRecursion S (map (λ h. h.formula) hs)
  to_held [] h = tt
  to_held (f ∷ hs) h = (h.0, to_held hs h.1)

  work_has : (w : Work) → AllByRecursion S (work_formulas w) → WorkHas w
  work_has w h =
      let helds : List Formula = map (λ (i : Held). i.formula) w.held in
      let concl : List Formula = w.goal.concl ∷ [] in
      let spats : List Formula = hyps w.goal.spats ++ concl in
      let ints : List Formula = hyps w.goal.ints ++ spats in
      let goal = left_of (facts w.goal.pures ++ ints) helds h in
      let rest = right_of (facts w.goal.pures) ints goal in
      let last = right_of (hyps w.goal.ints) spats rest in
      record {
        goal = record {
          pures = of_facts w.goal.pures (left_of (facts w.goal.pures) ints goal);
          ints = of_hyps w.goal.ints (left_of (hyps w.goal.ints) spats rest);
          spats = of_hyps w.goal.spats (left_of (hyps w.goal.spats) concl last);
          concl = (right_of (hyps w.goal.spats) concl last).0;
        };
        held = of_held w.held (right_of (facts w.goal.pures ++ ints) helds h);
      }

  all_formulas : (w : Work) → WorkHas w → AllByRecursion S (work_formulas w)
  all_formulas w h =
      let helds : List Formula = map (λ (i : Held). i.formula) w.held in
      let concl : List Formula = w.goal.concl ∷ [] in
      let spats : List Formula = hyps w.goal.spats ++ concl in
      let ints : List Formula = hyps w.goal.ints ++ spats in
      all_append S (facts w.goal.pures ++ ints) helds
      (all_append S (facts w.goal.pures) ints (to_facts w.goal.pures h.goal.pures)
      (all_append S (hyps w.goal.ints) spats (to_hyps w.goal.ints h.goal.ints)
      (all_append S (hyps w.goal.spats) concl (to_hyps w.goal.spats h.goal.spats) (h.goal.concl, tt))))
      (to_held w.held h.held)

  places_have : (ps : List Place) → Everywhere WorkHas ps → AllByRecursion (λ p. AllByRecursion S (work_formulas (work_at p))) ps
  places_have [] h = tt
  places_have (p ∷ ps) h = (all_formulas (work_at p) h.0, places_have ps h.1)

  each_has : (o : Outcome) → InOutcome WorkHas o → EachWork (λ v. AllByRecursion S (work_formulas v)) o
  each_has (gives ps) h = places_have ps h
  each_has (refused r) h = tt

-- ---- the law

of_one : (fs : List Formula) (f g : Formula) → IsPart g f → IsPartOfOne fs f → IsPartOfOne fs g
of_one [] f g p h = absurd h
of_one (x ∷ fs) f g p (inl h) = inl (part.part_of_part p h)
of_one (x ∷ fs) f g p (inr h) = inr (of_one fs f g p h)

among_more : (x : Formula) (fs gs : List Formula) → AllByRecursion (IsPartOfOne fs) gs → AllByRecursion (IsPartOfOne (x ∷ fs)) gs
among_more x fs [] h = tt
among_more x fs (g ∷ gs) h = (inr h.0, among_more x fs gs h.1)

themselves : (fs : List Formula) → AllByRecursion (IsPartOfOne fs) fs
themselves [] = tt
themselves (f ∷ fs) = (inl (part.itself f), among_more f fs fs (themselves fs))

-- what passes from a work to those that the action gives, whatever passes to parts
abbrev Passes : Action → Type 1
Passes action = (S : Formula → Type 0) (down : (f g : Formula) → IsPart g f → S f → S g) (w : Work) → WorkHas S down w → InOutcome (WorkHas S down) (action w)

given : (action : Action) → Passes action → GivesParts action
given action passes w =
    let S : Formula → Type 0 = IsPartOfOne (work_formulas w) in
    let down : (f g : Formula) → IsPart g f → S f → S g = of_one (work_formulas w) in
    each_has S down (action w) (passes S down w (work_has S down w (themselves (work_formulas w))))

abbrev PassesGoal : (Goal → Outcome) → Type 1
PassesGoal action = (S : Formula → Type 0) (down : (f g : Formula) → IsPart g f → S f → S g) (w : Work) → WorkHas S down w → InOutcome (WorkHas S down) (action w.goal)

given_goal : (action : Goal → Outcome) → PassesGoal action → GivesParts (on_goal action)
given_goal action passes = given (on_goal action) (λ S down w h. rests_in (WorkHas S down) w.held (action w.goal) (one w) (passes S down w h) (h, tt))

pub only_parts_are_given : OnlyPartsAreGiven
only_parts_are_given = record {
  intro_hyp = given intro_hyp intro_hyp_has;
  intro_all = λ x. given (intro_all x) (λ S down. intro_all_has S down x);
  name_held = λ x. given (name_held x) (λ S down. name_held_has S down x);
  drop_held = given drop_held drop_held_has;
  pair = λ p q. given (destructs.pair p q) (λ S down. pair_has S down p q);
  either = given either either_has;
  absurd_held = given absurd_held absurd_has;
  to_int = given to_int to_int_has;
  to_spat = given to_spat to_spat_has;
  elim_update = given elim_update elim_update_has;
  take = λ x. given (take x) (λ S down. take_has S down x);
  lend = λ x. given (lend x) (λ S down. lend_has S down x);
  split = given_goal split split_has;
  split_at = λ left list. given_goal (split_at left list) (λ S down. split_at_has S down left list);
  side = λ left. given_goal (side left) (λ S down. side_has S down left);
  exact = λ x. given_goal (exact x) (λ S down. exact_has S down x);
  assumption = given_goal assumption assumption_has;
  done = given_goal done done_has;
  try_done = given_goal try_done try_done_has;
  clear = λ x. given_goal (clear x) (λ S down. clear_has S down x);
  rename = λ x y. given_goal (rename x y) (λ S down. rename_has S down x y);
}
