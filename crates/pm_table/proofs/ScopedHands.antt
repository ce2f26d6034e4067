-- What is introduced, taken in hand, named and taken apart stays scoped.
use Rattle.std.proofs.Common.{◌≡◌, ℕ, suc, Bool, true, false, not, List, [], ◌∷◌, ◌++◌, length, refl, subst, Option, Some, None, option_map}
use Rattle.pm_logic.specs.declared.formula.Pure as P
use Rattle.pm_logic.specs.declared.formula.Formula.{Formula}
use Rattle.pm_logic.specs.declared.formula.Formula.TheVariants.{Pure as Assert}
use Rattle.pm_logic.specs.declared.formula.Preds.{Preds}
use Rattle.pm_logic.specs.Trees.{Wand, And, Imp, All}
use Rattle.pm_logic.specs.Substitution.{shift_of}
use Rattle.pm_logic.specs.Scope.{Scoped}
use Rattle.pm_goal.specs.declared.work.Kind.{Kind}
use Rattle.pm_goal.specs.declared.work.Kind.TheVariants.{Int, Spat}
use Rattle.pm_goal.specs.declared.work.Held.{Held}
use Rattle.pm_goal.specs.declared.work.Work.{Work}
use Rattle.pm_goal.specs.Find.{first_of_two}
use Rattle.pm_patterns.specs.declared.pattern.Pat.{Pat}
use Rattle.pm_classes.specs.Classes.{Parts, into_sep, into_and, into_or, into_exist, into_pure, into_persistent}
use Rattle.pm_classes.proofs.Scoped as entries
use Rattle.pm_table.specs.Outcomes.{Outcome, one}
use Rattle.pm_table.specs.Works.{Named, Hand, hyp_named, fact_named, fits, fresh_name, with_hyp, with_concl, without_named, without_spat, each_held, holding, work_of}
use Rattle.pm_table.specs.Introductions.{Sides, sides_of, is_blocked, universal_of, intro_hyp, intro_all, intro_all_fresh}
use Rattle.pm_table.specs.Destructs as destructs
use Rattle.pm_table.specs.Destructs.{var_name, into_parts, with_hand, name_held, name_fresh, drop_held, body_held, one_part, fourth_way, third_way, parts_or, is_drop, boxed_part, either, absurd_held, is_falsehood, to_pure, to_pure_fresh, to_int, to_spat}
use Rattle.pm_table.specs.Patterns.{intro_one, intro_var_or_hyp}
use Rattle.pm_table.specs.Terms.{held_as, take, lend}
use Rattle.pm_table.specs.Scopes.{IsWorkScoped}
use Rattle.pm_table.proofs.Keeping.{InOutcome}
use Rattle.pm_table.proofs.Outcomes.{opening_in, require_in, require_plain_in, require_some_in, require_entry_in}
use Rattle.pm_table.proofs.Scopes.{of_wand, of_and, of_imp, of_all, of_fact, shifted, fact}
use Rattle.pm_table.proofs.Scoping.{HeldIn, OneIn, PureIn, PartsIn, HandScoped, Inside, all_append, hyp_named_in, fact_named_in, held_more, concl_in, without_named_in, without_spat_in, with_fact_in, with_hyp_in, held_shifted, wider, held_then, with_hand_in, entry_in}

-- ---- what is there

pub parts_where : (preds : Preds) (k : ℕ) (o : Option Parts) → ((p : Parts) → o ≡ Some p → Scoped preds k p.first × Scoped preds k p.second) → PartsIn preds k o
parts_where preds k None g = tt
parts_where preds k (Some p) g = g p refl

pub one_where : (preds : Preds) (k : ℕ) (o : Option Formula) → ((f : Formula) → o ≡ Some f → Scoped preds k f) → OneIn preds k o
one_where preds k None g = tt
one_where preds k (Some f) g = g f refl

abbrev SidesIn : Preds → ℕ → Option Sides → Type 0
SidesIn preds k None = Unit {0}
SidesIn preds k (Some s) = Scoped preds k s.left × Scoped preds k s.right

sides_in : (preds : Preds) (k : ℕ) (f : Formula) → Scoped preds k f → SidesIn preds k (sides_of f)
sides_in preds k (Wand a b) s = of_wand preds k a b s
sides_in preds k (Imp a b) s = of_imp preds k a b s
sides_in preds k _ s = tt

universal_in : (preds : Preds) (k : ℕ) (f : Formula) → Scoped preds k f → OneIn preds (suc k) (universal_of f)
universal_in preds k (All b) s = of_all preds k b s
universal_in preds k _ s = tt

abbrev pub HeldAsIn : Preds → ℕ → Option Held → Type 0
HeldAsIn preds k None = Unit {0}
HeldAsIn preds k (Some h) = Scoped preds k h.formula

of_kind : (preds : Preds) (k : ℕ) (kind : Kind) (o : Option Formula) → OneIn preds k o → HeldAsIn preds k (option_map (holding kind) o)
of_kind preds k kind None h = tt
of_kind preds k kind (Some f) h = h

of_pure : (preds : Preds) (k : ℕ) (o : Option P.Pure) → PureIn preds k o → HeldAsIn preds k (option_map (λ p. holding Int (Assert p)) o)
of_pure preds k None h = tt
of_pure preds k (Some p) h = fact preds k p h

first_held : (preds : Preds) (k : ℕ) (o q : Option Held) → HeldAsIn preds k o → HeldAsIn preds k q → HeldAsIn preds k (first_of_two o q)
first_held preds k (Some h) q s t = s
first_held preds k None q s t = t

pub held_as_in : (preds : Preds) (x : Named) (w : Work) → IsWorkScoped preds w → HeldAsIn preds (length w.goal.vars) (held_as x w.goal)
held_as_in preds x w h =
    let k : ℕ = length w.goal.vars in
    let spats : Option Held = option_map (holding Spat) (hyp_named x w.goal.spats) in
    let ints : Option Held = option_map (holding Int) (hyp_named x w.goal.ints) in
    let pures : Option Held = option_map (λ p. holding Int (Assert p)) (fact_named x w.goal.pures) in
    first_held preds k spats (first_of_two ints pures) (of_kind preds k Spat (hyp_named x w.goal.spats) (hyp_named_in preds k x w.goal.spats h.goal.spats))
    (first_held preds k ints pures (of_kind preds k Int (hyp_named x w.goal.ints) (hyp_named_in preds k x w.goal.ints h.goal.ints)) (of_pure preds k (fact_named x w.goal.pures) (fact_named_in preds k x w.goal.pures h.goal.pures)))

module _ (preds : Preds) (n : ℕ) where
  abbrev In : Work → Type 0
  In w = Inside preds n w

  pub stay_in : (w : Work) → In w → InOutcome In (one w)
  stay_in w h = (h, tt)

  -- ---- introductions

  pub intro_hyp_in : (w : Work) → In w → InOutcome In (intro_hyp w)
  intro_hyp_in w h = require_entry_in In (sides_of w.goal.concl) _ _ (λ s e. require_plain_in In (not (is_blocked s w.goal)) _ _ (λ f.
      let k : ℕ = length w.goal.vars in
      let both : SidesIn preds k (Some s) = subst (SidesIn preds k) e (sides_in preds k w.goal.concl h.scoped.goal.concl) in
      let v : Work = work_of (with_concl s.right w.goal) w.held in
      (held_then preds n Spat s.left v (record { scoped = record { goal = concl_in preds k s.right w.goal h.scoped.goal both.1; held = h.scoped.held }; least = h.least }) both.0, tt)))

  pub intro_all_in : (x : Named) (w : Work) → In w → InOutcome In (intro_all x w)
  intro_all_in x w h =
      let k : ℕ = length w.goal.vars in
      entry_in preds n (suc k) (universal_of w.goal.concl) _ _ (universal_in preds k w.goal.concl h.scoped.goal.concl) (λ b s. require_in In (fits w.goal x) _ _ _ (λ free.
      (wider preds n x b [] w.goal h.least h.scoped.goal s tt, tt)))

  pub intro_all_fresh_in : (w : Work) → In w → InOutcome In (intro_all_fresh w)
  intro_all_fresh_in w h = intro_all_in (fresh_name w.goal) w h

  intro_var_or_hyp_in : (x : Option Named) (b : Option Formula) (w : Work) → In w → InOutcome In (intro_var_or_hyp x b w)
  intro_var_or_hyp_in (Some x) (Some b) w h = opening_in In (false ∷ []) (intro_all x w) (intro_all_in x w h)
  intro_var_or_hyp_in (Some x) None w h = opening_in In (true ∷ []) (intro_hyp w) (intro_hyp_in w h)
  intro_var_or_hyp_in None b w h = opening_in In (true ∷ []) (intro_hyp w) (intro_hyp_in w h)

  pub intro_one_in : (p : Pat) (w : Work) → In w → InOutcome In (intro_one p w)
  intro_one_in p w h = intro_var_or_hyp_in (var_name w.goal p) (universal_of w.goal.concl) w h

  -- ---- what is in hand

  -- others in the place of what is last in hand
  rehanded : (w : Work) (hand : Hand) (new : List Held) → In w → HandScoped preds (length w.goal.vars) hand → HeldIn preds (length w.goal.vars) new → In (with_hand w hand new)
  rehanded w hand new h g s = record { scoped = record { goal = h.scoped.goal; held = all_append (λ i. Scoped preds (length w.goal.vars) i.formula) hand.others new g.others s }; least = h.least }

  pub name_held_in : (x : Named) (w : Work) → In w → InOutcome In (name_held x w)
  name_held_in x w h = with_hand_in preds n w _ h (λ hand g. require_in In (fits w.goal x) _ _ _ (λ free. by hand.last.kind hand g))
    where
      by : (kind : Kind) (hand : Hand) → HandScoped preds (length w.goal.vars) hand → InOutcome In (one (work_of (with_hyp kind x hand.last.formula w.goal) hand.others))
      by Int hand g = (record { scoped = record { goal = with_hyp_in preds (length w.goal.vars) Int x hand.last.formula w.goal h.scoped.goal g.last; held = g.others }; least = h.least }, tt)
      by Spat hand g = (record { scoped = record { goal = with_hyp_in preds (length w.goal.vars) Spat x hand.last.formula w.goal h.scoped.goal g.last; held = g.others }; least = h.least }, tt)

  pub name_fresh_in : (w : Work) → In w → InOutcome In (name_fresh w)
  name_fresh_in w h = name_held_in (fresh_name w.goal) w h

  pub drop_held_in : (w : Work) → In w → InOutcome In (drop_held w)
  drop_held_in w h = with_hand_in preds n w _ h (λ hand g. (rehanded w hand [] h g tt, tt))

  parts_or_in : (w : Work) (hand : Hand) (x : Option Parts) (o : Outcome) → In w → HandScoped preds (length w.goal.vars) hand → PartsIn preds (length w.goal.vars) x → InOutcome In o → InOutcome In (parts_or w hand x o)
  parts_or_in w hand (Some p) o h g s i = (rehanded w hand (holding hand.last.kind p.second ∷ holding hand.last.kind p.first ∷ []) h g (s.1, (s.0, tt)), tt)
  parts_or_in w hand None o h g s i = i

  body_held_in : (w : Work) (hand : Hand) (x : Named) (b : Formula) → In w → HandScoped preds (length w.goal.vars) hand → Scoped preds (suc (length w.goal.vars)) b → InOutcome In (body_held w hand x b)
  body_held_in w hand x b h g s = require_in In (fits w.goal x) _ _ _ (λ free.
      let k : ℕ = length w.goal.vars in (
        wider preds n x (shift_of w.goal.concl) (each_held shift_of hand.others ++ (holding hand.last.kind b ∷ [])) w.goal h.least h.scoped.goal (shifted preds k w.goal.concl h.scoped.goal.concl)
            (held_more preds (suc k) hand.last.kind b (each_held shift_of hand.others) (held_shifted preds k hand.others g.others) s),
        tt,
      ))

  third_way_in : (w : Work) (hand : Hand) (x : Option Named) (b : Option Formula) (o : Outcome) → In w → HandScoped preds (length w.goal.vars) hand → OneIn preds (suc (length w.goal.vars)) b → InOutcome In o → InOutcome In (third_way w hand x b o)
  third_way_in w hand (Some x) (Some b) o h g s i = body_held_in w hand x b h g s
  third_way_in w hand (Some x) None o h g s i = i
  third_way_in w hand None b o h g s i = i

  one_part_in : (w : Work) (hand : Hand) (p q : Bool) (f : Formula) → In w → HandScoped preds (length w.goal.vars) hand → Scoped preds (length w.goal.vars) f → InOutcome In (one_part w hand p q f)
  one_part_in w hand true q (And a b) h g s = (rehanded w hand (holding Spat b ∷ []) h g ((of_and preds (length w.goal.vars) a b s).1, tt), tt)
  one_part_in w hand false true (And a b) h g s = (rehanded w hand (holding Spat a ∷ []) h g ((of_and preds (length w.goal.vars) a b s).0, tt), tt)
  one_part_in w hand p q _ h g s = tt

  fourth_way_in : (w : Work) (hand : Hand) (kind : Kind) (p q : Bool) → In w → HandScoped preds (length w.goal.vars) hand → InOutcome In (fourth_way w hand kind p q)
  fourth_way_in w hand Spat p q h g = one_part_in w hand p q hand.last.formula h g g.last
  fourth_way_in w hand Int p q h g = tt

  into_parts_in : (k : ℕ) (kind : Kind) (f : Formula) → Scoped preds k f → PartsIn preds k (into_parts kind f)
  into_parts_in k Spat f s = parts_where preds k (into_sep f) (λ p e. entries.scoped.sep preds k f p e s)
  into_parts_in k Int f s = parts_where preds k (into_and f) (λ p e. entries.scoped.and_ preds k f p e s)

  pub pair_in : (p q : Pat) (w : Work) → In w → InOutcome In (destructs.pair p q w)
  pair_in p q w h = with_hand_in preds n w _ h (λ hand g.
      let k : ℕ = length w.goal.vars in
      parts_or_in w hand (into_parts hand.last.kind hand.last.formula) _ h g (into_parts_in k hand.last.kind hand.last.formula g.last)
      (third_way_in w hand (var_name w.goal p) (into_exist hand.last.formula) _ h g (one_where preds (suc k) (into_exist hand.last.formula) (λ b e. entries.scoped.exist preds k hand.last.formula b e g.last))
      (fourth_way_in w hand hand.last.kind (is_drop p) (is_drop q) h g)))

  pub either_in : (w : Work) → In w → InOutcome In (either w)
  either_in w h = with_hand_in preds n w _ h (λ hand g. require_entry_in In (into_or hand.last.formula) _ _ (λ p e.
      let both = entries.scoped.or_ preds (length w.goal.vars) hand.last.formula p e g.last in
      (rehanded w hand (holding hand.last.kind p.first ∷ []) h g (both.0, tt), (rehanded w hand (holding hand.last.kind p.second ∷ []) h g (both.1, tt), tt))))

  pub absurd_held_in : (w : Work) → In w → InOutcome In (absurd_held w)
  absurd_held_in w h = with_hand_in preds n w _ h (λ hand g. require_plain_in In (is_falsehood hand.last.formula) _ _ (λ e. tt))

  pub to_pure_in : (x : Named) (w : Work) → In w → InOutcome In (to_pure x w)
  to_pure_in x w h = with_hand_in preds n w _ h (λ hand g. require_entry_in In (into_pure hand.last.formula) _ _ (λ p e. require_in In (fits w.goal x) _ _ _ (λ free.
      let k : ℕ = length w.goal.vars in
      (record { scoped = record { goal = with_fact_in preds k x p w.goal h.scoped.goal (of_fact preds k p (entries.scoped.pure_of preds k hand.last.formula p e g.last)); held = g.others }; least = h.least }, tt))))

  pub to_pure_fresh_in : (w : Work) → In w → InOutcome In (to_pure_fresh w)
  to_pure_fresh_in w h = to_pure_in (fresh_name w.goal) w h

  boxed_part_in : (k : ℕ) (kind : Kind) (f : Formula) → Scoped preds k f → OneIn preds k (boxed_part kind f)
  boxed_part_in k Int f s = s
  boxed_part_in k Spat f s = one_where preds k (into_persistent f) (λ g e. entries.scoped.persistent preds k f g e s)

  pub to_int_in : (w : Work) → In w → InOutcome In (to_int w)
  to_int_in w h = with_hand_in preds n w _ h (λ hand g. entry_in preds n (length w.goal.vars) (boxed_part hand.last.kind hand.last.formula) _ _ (boxed_part_in (length w.goal.vars) hand.last.kind hand.last.formula g.last) (λ f s. (rehanded w hand (holding Int f ∷ []) h g (s, tt), tt)))

  pub to_spat_in : (w : Work) → In w → InOutcome In (to_spat w)
  to_spat_in w h = with_hand_in preds n w _ h (λ hand g. (rehanded w hand (holding Spat hand.last.formula ∷ []) h g (g.last, tt), tt))

  -- ---- heads of proof terms

  pub take_in : (x : Named) (w : Work) → In w → InOutcome In (take x w)
  take_in x w h = require_some_in In (held_as x w.goal) _ _ _ (λ held e.
      let k : ℕ = length w.goal.vars in
      let s : HeldAsIn preds k (Some held) = subst (HeldAsIn preds k) e (held_as_in preds x w h.scoped) in
      (held_then preds n held.kind held.formula (work_of (without_named x w.goal) w.held) (record { scoped = record { goal = without_named_in preds k x w.goal h.scoped.goal; held = h.scoped.held }; least = h.least }) s, tt))

  pub lend_in : (x : Named) (w : Work) → In w → InOutcome In (lend x w)
  lend_in x w h = require_some_in In (held_as x w.goal) _ _ _ (λ held e.
      let k : ℕ = length w.goal.vars in
      let s : HeldAsIn preds k (Some held) = subst (HeldAsIn preds k) e (held_as_in preds x w h.scoped) in
      (held_then preds n held.kind held.formula (work_of (without_spat x w.goal) w.held) (record { scoped = record { goal = without_spat_in preds k x w.goal h.scoped.goal; held = h.scoped.held }; least = h.least }) s, tt))
