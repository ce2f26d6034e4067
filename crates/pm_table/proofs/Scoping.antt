-- Scope of goals and works, and of what is found in them.
use Rattle.std.proofs.Common.{◌≡◌, ℕ, suc, ◌≤◌, Bool, true, false, cond, not, List, [], ◌∷◌, ◌++◌, map, filter, length, refl, ap, subst, arith, Option, Some, None, option_map, bytes_eq, le_refl}
use Rattle.std.specs.List.{AllByRecursion}
use Rattle.pm_logic.specs.declared.formula.Pure as P
use Rattle.pm_logic.specs.declared.formula.Formula.{Formula}
use Rattle.pm_logic.specs.declared.formula.Formula.TheVariants.{Pure as Assert}
use Rattle.pm_logic.specs.declared.formula.Preds.{Preds}
use Rattle.pm_logic.specs.Substitution.{shift_of}
use Rattle.pm_logic.specs.Scope.{PureScoped, Scoped}
use Rattle.pm_goal.specs.declared.goal.Hyp.{Hyp}
use Rattle.pm_goal.specs.declared.goal.Fact.{Fact}
use Rattle.pm_goal.specs.declared.goal.Goal.{Goal}
use Rattle.pm_goal.specs.declared.work.Kind.{Kind}
use Rattle.pm_goal.specs.declared.work.Kind.TheVariants.{Int, Spat}
use Rattle.pm_goal.specs.declared.work.Held.{Held}
use Rattle.pm_goal.specs.declared.work.Work.{Work}
use Rattle.pm_goal.specs.declared.refusal.Row.{Row}
use Rattle.pm_goal.specs.Find.{first_of_two}
use Rattle.pm_classes.specs.Classes.{Parts}
use Rattle.pm_table.specs.Outcomes.{Outcome, gives, refused, Action, require_entry, require_some}
use Rattle.pm_table.specs.declared.place.Place.{Place}
use Rattle.pm_table.specs.Occurrences.{shifted_pure}
use Rattle.pm_table.specs.Works
use Rattle.pm_table.specs.Works.{Named, Hand, hand_or, hand_of, hyp_named, fact_named, with_fact, with_int, with_spat, with_hyp, with_var, with_concl, without_named, without_spat, each_fact, each_hyp, each_held, holding, hold, work_of, with_last}
use Rattle.pm_table.specs.Scopes.{GoalScopedIn, WorkScopedIn, IsWorkScoped}
use Rattle.pm_table.proofs.Keeping.{Everywhere, InOutcome, Good}
use Rattle.pm_table.proofs.Outcomes.{good, with_last_in, require_entry_in, require_some_in}
use Rattle.pm_table.proofs.Scopes.{shifted, pure_shifted, fact}

-- ---- lists

pub all_append : {X : Type 0} (Q : X → Type 0) (xs ys : List X) → AllByRecursion Q xs → AllByRecursion Q ys → AllByRecursion Q (xs ++ ys)
all_append Q [] ys h g = g
all_append Q (x ∷ xs) ys h g = (h.0, all_append Q xs ys h.1 g)

kept_or_not : {X : Type 0} (Q : X → Type 0) (b : Bool) (x : X) (xs : List X) → Q x → AllByRecursion Q xs → AllByRecursion Q (cond b (x ∷ xs) xs)
kept_or_not Q true x xs h g = (h, g)
kept_or_not Q false x xs h g = g

pub all_filter : {X : Type 0} (Q : X → Type 0) (test : X → Bool) (xs : List X) → AllByRecursion Q xs → AllByRecursion Q (filter test xs)
all_filter Q test [] h = tt
all_filter Q test (x ∷ xs) h = kept_or_not Q (test x) x (filter test xs) h.0 (all_filter Q test xs h.1)

pub all_map : {X Y : Type 0} (Q : X → Type 0) (R : Y → Type 0) (f : X → Y) → ((x : X) → Q x → R (f x)) → (xs : List X) → AllByRecursion Q xs → AllByRecursion R (map f xs)
all_map Q R f each [] h = tt
all_map Q R f each (x ∷ xs) h = (each x h.0, all_map Q R f each xs h.1)

one_more : {X : Type 0} (xs : List X) (x : X) → suc (length xs) ≡ length (xs ++ (x ∷ []))
one_more [] x = refl
one_more (y ∷ xs) x = ap suc (one_more xs x)

-- ---- in k variables

module _ (preds : Preds) (k : ℕ) where
  abbrev pub HypsIn : List Hyp → Type 0
  HypsIn hs = AllByRecursion (λ h. Scoped preds k h.formula) hs

  abbrev pub HeldIn : List Held → Type 0
  HeldIn hs = AllByRecursion (λ h. Scoped preds k h.formula) hs

  abbrev pub FactsIn : List Fact → Type 0
  FactsIn fs = AllByRecursion (λ f. PureScoped k f.pure) fs

  -- what is there is scoped
  abbrev pub OneIn : Option Formula → Type 0
  OneIn None = Unit {0}
  OneIn (Some f) = Scoped preds k f

  abbrev pub PureIn : Option P.Pure → Type 0
  PureIn None = Unit {0}
  PureIn (Some p) = PureScoped k p

  abbrev pub PartsIn : Option Parts → Type 0
  PartsIn None = Unit {0}
  PartsIn (Some p) = Scoped preds k p.first × Scoped preds k p.second

  pub one_chosen : (b : Bool) (o q : Option Formula) → OneIn o → OneIn q → OneIn (cond b o q)
  one_chosen true o q h g = h
  one_chosen false o q h g = g

  pub pure_chosen : (b : Bool) (o q : Option P.Pure) → PureIn o → PureIn q → PureIn (cond b o q)
  pure_chosen true o q h g = h
  pure_chosen false o q h g = g

  pub parts_chosen : (b : Bool) (o q : Option Parts) → PartsIn o → PartsIn q → PartsIn (cond b o q)
  parts_chosen true o q h g = h
  parts_chosen false o q h g = g

  pub one_of_two : (o q : Option Formula) → OneIn o → OneIn q → OneIn (first_of_two o q)
  one_of_two (Some f) q h g = h
  one_of_two None q h g = g

  pub either_formula : (b : Bool) (f g : Formula) → Scoped preds k f → Scoped preds k g → Scoped preds k (cond b f g)
  either_formula true f g h i = h
  either_formula false f g h i = i

  pub hyp_named_in : (x : Named) (hs : List Hyp) → HypsIn hs → OneIn (hyp_named x hs)
  hyp_named_in x [] h = tt
  hyp_named_in x (g ∷ hs) h = one_chosen (bytes_eq x g.name) (Some g.formula) (hyp_named x hs) h.0 (hyp_named_in x hs h.1)

  pub fact_named_in : (x : Named) (fs : List Fact) → FactsIn fs → PureIn (fact_named x fs)
  fact_named_in x [] h = tt
  fact_named_in x (f ∷ fs) h = pure_chosen (bytes_eq x f.name) (Some f.pure) (fact_named x fs) h.0 (fact_named_in x fs h.1)

  pub as_formula : (o : Option P.Pure) → PureIn o → OneIn (option_map Assert o)
  as_formula None h = tt
  as_formula (Some p) h = fact preds k p h

  -- ---- what is last in hand, and the others

  pub record HandScoped (hand : Hand) : Type 0 where
    pub others : HeldIn hand.others
    pub last : Scoped preds k hand.last.formula

  abbrev pub HandIn : Option Hand → Type 0
  HandIn None = Unit {0}
  HandIn (Some hand) = HandScoped hand

  hand_or_in : (h : Held) (o : Option Hand) → Scoped preds k h.formula → HandIn o → HandIn (hand_or h o)
  hand_or_in h None s g = record { others = tt; last = s }
  hand_or_in h (Some hand) s g = record { others = (s, g.others); last = g.last }

  pub hand_in : (hs : List Held) → HeldIn hs → HandIn (hand_of hs)
  hand_in [] h = tt
  hand_in (g ∷ hs) h = hand_or_in g (hand_of hs) h.0 (hand_in hs h.1)

  pub held_more : (kind : Kind) (f : Formula) (hs : List Held) → HeldIn hs → Scoped preds k f → HeldIn (hs ++ (holding kind f ∷ []))
  held_more kind f hs h s = all_append (λ h. Scoped preds k h.formula) hs (holding kind f ∷ []) h (s, tt)

  -- ---- goals

  pub concl_in : (c : Formula) (g : Goal) → GoalScopedIn preds k g → Scoped preds k c → GoalScopedIn preds k (with_concl c g)
  concl_in c g h s = record { pures = h.pures; ints = h.ints; spats = h.spats; concl = s }

  pub without_named_in : (x : Named) (g : Goal) → GoalScopedIn preds k g → GoalScopedIn preds k (without_named x g)
  without_named_in x g h = record {
    pures = all_filter (λ f. PureScoped k f.pure) (λ f. not (bytes_eq x f.name)) g.pures h.pures;
    ints = all_filter (λ i. Scoped preds k i.formula) (λ i. not (bytes_eq x i.name)) g.ints h.ints;
    spats = all_filter (λ i. Scoped preds k i.formula) (λ i. not (bytes_eq x i.name)) g.spats h.spats;
    concl = h.concl;
  }

  pub without_spat_in : (x : Named) (g : Goal) → GoalScopedIn preds k g → GoalScopedIn preds k (without_spat x g)
  without_spat_in x g h = record { pures = h.pures; ints = h.ints; spats = all_filter (λ i. Scoped preds k i.formula) (λ i. not (bytes_eq x i.name)) g.spats h.spats; concl = h.concl }

  pub with_fact_in : (x : Named) (p : P.Pure) (g : Goal) → GoalScopedIn preds k g → PureScoped k p → GoalScopedIn preds k (with_fact x p g)
  with_fact_in x p g h s = record { pures = all_append (λ f. PureScoped k f.pure) g.pures (Works.fact x p ∷ []) h.pures (s, tt); ints = h.ints; spats = h.spats; concl = h.concl }

  pub with_int_in : (x : Named) (f : Formula) (g : Goal) → GoalScopedIn preds k g → Scoped preds k f → GoalScopedIn preds k (with_int x f g)
  with_int_in x f g h s = record { pures = h.pures; ints = all_append (λ i. Scoped preds k i.formula) g.ints (Works.hyp x f ∷ []) h.ints (s, tt); spats = h.spats; concl = h.concl }

  with_spat_in : (x : Named) (f : Formula) (g : Goal) → GoalScopedIn preds k g → Scoped preds k f → GoalScopedIn preds k (with_spat x f g)
  with_spat_in x f g h s = record { pures = h.pures; ints = h.ints; spats = all_append (λ i. Scoped preds k i.formula) g.spats (Works.hyp x f ∷ []) h.spats (s, tt); concl = h.concl }

  pub with_hyp_in : (kind : Kind) (x : Named) (f : Formula) (g : Goal) → GoalScopedIn preds k g → Scoped preds k f → GoalScopedIn preds k (with_hyp kind x f g)
  with_hyp_in Int x f g h s = with_int_in x f g h s
  with_hyp_in Spat x f g h s = with_spat_in x f g h s

-- ---- one variable more

pub hyps_changed : (preds : Preds) (j k : ℕ) (change : Formula → Formula) → ((f : Formula) → Scoped preds j f → Scoped preds k (change f)) → (hs : List Hyp) → HypsIn preds j hs → HypsIn preds k (each_hyp change hs)
hyps_changed preds j k change each hs h = all_map (λ i. Scoped preds j i.formula) (λ i. Scoped preds k i.formula) (λ i. Works.hyp i.name (change i.formula)) (λ i s. each i.formula s) hs h

pub facts_changed : (j k : ℕ) (change : P.Pure → P.Pure) → ((p : P.Pure) → PureScoped j p → PureScoped k (change p)) → (fs : List Fact) → AllByRecursion (λ f. PureScoped j f.pure) fs → AllByRecursion (λ f. PureScoped k f.pure) (each_fact change fs)
facts_changed j k change each fs h = all_map (λ f. PureScoped j f.pure) (λ f. PureScoped k f.pure) (λ f. Works.fact f.name (change f.pure)) (λ f s. each f.pure s) fs h

pub held_changed : (preds : Preds) (j k : ℕ) (change : Formula → Formula) → ((f : Formula) → Scoped preds j f → Scoped preds k (change f)) → (hs : List Held) → HeldIn preds j hs → HeldIn preds k (each_held change hs)
held_changed preds j k change each hs h = all_map (λ i. Scoped preds j i.formula) (λ i. Scoped preds k i.formula) (λ i. holding i.kind (change i.formula)) (λ i s. each i.formula s) hs h

pub with_var_in : (preds : Preds) (k : ℕ) (x : Named) (c : Formula) (g : Goal) → GoalScopedIn preds k g → Scoped preds (suc k) c → GoalScopedIn preds (suc k) (with_var x c g)
with_var_in preds k x c g h s = record {
  pures = facts_changed k (suc k) shifted_pure (λ p t. pure_shifted k p t) g.pures h.pures;
  ints = hyps_changed preds k (suc k) shift_of (λ f t. shifted preds k f t) g.ints h.ints;
  spats = hyps_changed preds k (suc k) shift_of (λ f t. shifted preds k f t) g.spats h.spats;
  concl = s;
}

pub held_shifted : (preds : Preds) (k : ℕ) (hs : List Held) → HeldIn preds k hs → HeldIn preds (suc k) (each_held shift_of hs)
held_shifted preds k hs h = held_changed preds k (suc k) shift_of (λ f t. shifted preds k f t) hs h

-- ---- works

-- scoped, and with at least n variables, so that what is scoped in n variables is scoped there
pub record Inside (preds : Preds) (n : ℕ) (w : Work) : Type 0 where
  pub scoped : IsWorkScoped preds w
  pub least : n ≤ length w.goal.vars

pub itself : (preds : Preds) (w : Work) → IsWorkScoped preds w → Inside preds (length w.goal.vars) w
itself preds w h = record { scoped = h; least = le_refl (length w.goal.vars) }

everywhere_scoped : (preds : Preds) (n : ℕ) (ps : List Place) → Everywhere (Inside preds n) ps → Everywhere (IsWorkScoped preds) ps
everywhere_scoped preds n [] h = tt
everywhere_scoped preds n (p ∷ ps) h = (h.0.scoped, everywhere_scoped preds n ps h.1)

pub all_scoped : (preds : Preds) (n : ℕ) (o : Outcome) → InOutcome (Inside preds n) o → InOutcome (IsWorkScoped preds) o
all_scoped preds n (gives ps) h = everywhere_scoped preds n ps h
all_scoped preds n (refused r) h = tt

-- an action that keeps scoped works with as many variables keeps scoped works
pub good_scoped : (preds : Preds) (action : Action) → ((n : ℕ) (w : Work) → Inside preds n w → InOutcome (Inside preds n) (action w)) → Good (IsWorkScoped preds) action
good_scoped preds action keeps w h = good (IsWorkScoped preds) action (λ v i. all_scoped preds (length v.goal.vars) (action v) (keeps (length v.goal.vars) v (itself preds v i))) w h

module _ (preds : Preds) (n : ℕ) where
  -- the work that gains the variable
  pub wider : (x : Named) (c : Formula) (held : List Held) (g : Goal) → n ≤ length g.vars → GoalScopedIn preds (length g.vars) g → Scoped preds (suc (length g.vars)) c → HeldIn preds (suc (length g.vars)) held → Inside preds n (work_of (with_var x c g) held)
  wider x c held g le h s t =
      let v : Work = work_of (with_var x c g) held in
      let more : suc (length g.vars) ≡ length (g.vars ++ (x ∷ [])) = one_more g.vars x in
      record {
        scoped = subst (λ (k : ℕ). WorkScopedIn preds k v) more (record { goal = with_var_in preds (length g.vars) x c g h s; held = t });
        least = omega (arith, more, le);
      }

  -- the goal is another with the same variables, and something is held
  pub held_then : (kind : Kind) (f : Formula) (w : Work) → Inside preds n w → Scoped preds (length w.goal.vars) f → Inside preds n (hold kind f w)
  held_then kind f w h s = record { scoped = record { goal = h.scoped.goal; held = held_more preds (length w.goal.vars) kind f w.held h.scoped.held s }; least = h.least }

  pub with_hand_in : (w : Work) (act : Hand → Outcome) → Inside preds n w → ((hand : Hand) → HandScoped preds (length w.goal.vars) hand → InOutcome (Inside preds n) (act hand)) → InOutcome (Inside preds n) (with_last w act)
  with_hand_in w act h g = with_last_in (Inside preds n) w act h (λ hand e. g hand (subst (HandIn preds (length w.goal.vars)) e (hand_in preds (length w.goal.vars) w.held h.scoped.held)))

  pub entry_in : (k : ℕ) (o : Option Formula) (row : Row) (follows : Formula → Outcome) → OneIn preds k o → ((f : Formula) → Scoped preds k f → InOutcome (Inside preds n) (follows f)) → InOutcome (Inside preds n) (require_entry o row follows)
  entry_in k o row follows h g = require_entry_in (Inside preds n) o row follows (λ f e. g f (subst (OneIn preds k) e h))

  pub named_in : (k : ℕ) (o : Option Formula) (row : Row) (name : Named) (follows : Formula → Outcome) → OneIn preds k o → ((f : Formula) → Scoped preds k f → InOutcome (Inside preds n) (follows f)) → InOutcome (Inside preds n) (require_some o row name follows)
  named_in k o row name follows h g = require_some_in (Inside preds n) o row name follows (λ f e. g f (subst (OneIn preds k) e h))

  pub parts_in : (k : ℕ) (o : Option Parts) (row : Row) (follows : Parts → Outcome) → PartsIn preds k o → ((p : Parts) → Scoped preds k p.first → Scoped preds k p.second → InOutcome (Inside preds n) (follows p)) → InOutcome (Inside preds n) (require_entry o row follows)
  parts_in k o row follows h g = require_entry_in (Inside preds n) o row follows (λ p e. let both : PartsIn preds k (Some p) = subst (PartsIn preds k) e h in g p both.0 both.1)
