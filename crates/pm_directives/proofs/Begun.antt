-- Runs on one work alone.
use Rattle.std.proofs.Common.{◌≡◌, ℕ, ◌+◌, ◌<◌, ◌≤◌, Bool, List, [], ◌∷◌, ◌++◌, length, map, reverse, get_or, refl, sym, ◌∙◌, ap, ap₂, subst, arith, Some}
use Rattle.std.specs.Prelude.{Result, Ok, Err, slice_get}
use Rattle.pm_goal.specs.declared.work.Work.{Work}
use Rattle.pm_goal.specs.declared.refusal.StepFault.{StepFault}
use Rattle.pm_goal.specs.declared.refusal.StepFault.TheVariants as fault
use Rattle.pm_proof.specs.Trees.{Tree, conclusion, holes_of}
use Rattle.pm_proof.specs.Known.{Proves, Every, FillProves}
use Rattle.pm_proof.specs.declared.proof.Parts.{Parts}
use Rattle.pm_table.specs.declared.place.Place.{Place}
use Rattle.pm_table.specs.declared.place.Place.TheVariants.{Finished as finished, Current as current}
use Rattle.pm_table.specs.Limits.{work_at}
use Rattle.pm_table.specs.Works.{Named}
use Rattle.pm_table.specs.Running.{Run, ran, stopped, on_all, in_place, keeping_turns, turns_behind, with_turn, act, in_order, for_each}
use Rattle.pm_table.specs.Scopes.{IsWorkScoped}
use Rattle.pm_table.proofs.Keeping.{everywhere_turns, everywhere_with_turn}
use Rattle.pm_action.specs.Meanings.{meaning, meaning_at, meanings}
use Rattle.pm_sweep.specs.Standing.{IsFit, AreFit, AreScoped, Stands, IsStanding, IsSound, IsSoundWork, Follows, Replaces, ReplacesWork, DEEPEST, WIDEST}
use Rattle.pm_sweep.proofs.Swept.{IsSwept, next_sound, next_hole, goes_on, refuses_at, ends}
use Rattle.pm_directives.specs.declared.groups.Group.{Group}
use Rattle.pm_directives.specs.declared.groups.Each.TheVariants as each
use Rattle.pm_directives.specs.declared.groups.Alone.{Alone}
use Rattle.pm_directives.specs.declared.groups.Alone.TheVariants as alone
use Rattle.pm_directives.specs.Groups.{group_names, each_action, alone_run}

-- ---- from the start

abbrev pub Begins : Work → Parts Place → Type 0
Begins w s = (s.goals ≡ current [] w ∷ []) × Stands w 0 s

replaced : (w : Work) (s : Parts Place) (r : Run) (result : Result (Parts Place) StepFault) → Stands w 0 s → Follows s r result → ReplacesWork w r result
replaced w s (ran n ps) (Ok new) st f = (f.0, λ over scoped. subst (λ k. Stands w k new) (none n) (f.1 w 0 st))
  where
    none : (n : ℕ) → 0 + n ≡ n
    none n = omega arith
replaced w s (ran n ps) (Err (fault.Refused x)) st f = f
replaced w s (ran n ps) (Err fault.Memory) st f = tt
replaced w s (stopped r) (Ok new) st f = f
replaced w s (stopped r) (Err (fault.Refused x)) st f = f
replaced w s (stopped r) (Err fault.Memory) st f = tt

pub from_start : (w : Work) (s : Parts Place) (f : List Place → Run) (result : Result (Parts Place) StepFault) → Begins w s → Follows s (f s.goals) result → ReplacesWork w (f (current [] w ∷ [])) result
from_start w s f result b h = replaced w s (f (current [] w ∷ [])) result b.1 (subst (λ ps. Follows s (f ps) result) b.0 h)

-- each member of a group, in order or last first
pub cleared : (what : Alone) (g : Group) (w : Work) (names : List Named) (s : Parts Place) (result : Result (Parts Place) StepFault) → what ≡ alone.Clear g → names ≡ group_names g w.goal → Begins w s → Follows s (in_order (λ h. act (each_action each.Clear h)) names s.goals) result → ReplacesWork w (alone_run what w) result
cleared what g w names s result is named b f =
    subst (λ x. ReplacesWork w (alone_run x w) result) (sym is)
    (subst (λ xs. ReplacesWork w (for_each (each_action each.Clear) xs w) result) named
    (from_start w s (in_order (λ h. act (each_action each.Clear h)) names) result b f))

pub framed : (what : Alone) (g : Group) (w : Work) (names : List Named) (s : Parts Place) (result : Result (Parts Place) StepFault) → what ≡ alone.Frame g → names ≡ group_names g w.goal → Begins w s → Follows s (in_order (λ h. act (each_action each.Frame h)) names s.goals) result → ReplacesWork w (alone_run what w) result
framed what g w names s result is named b f =
    subst (λ x. ReplacesWork w (alone_run x w) result) (sym is)
    (subst (λ xs. ReplacesWork w (for_each (each_action each.Frame) xs w) result) named
    (from_start w s (in_order (λ h. act (each_action each.Frame h)) names) result b f))

pub reverted : (what : Alone) (g : Group) (w : Work) (names : List Named) (s : Parts Place) (result : Result (Parts Place) StepFault) → what ≡ alone.Revert g → names ≡ group_names g w.goal → Begins w s → Follows s (in_order (λ h. act (each_action each.Revert h)) (reverse names) s.goals) result → ReplacesWork w (alone_run what w) result
reverted what g w names s result is named b f =
    subst (λ x. ReplacesWork w (alone_run x w) result) (sym is)
    (subst (λ xs. ReplacesWork w (for_each (each_action each.Revert) (reverse xs) w) result) named
    (from_start w s (in_order (λ h. act (each_action each.Revert h)) (reverse names)) result b f))

-- ---- turns that are still to come

module _ (turns : List Bool) where
  same_meaning : (p : Place) → meaning_at (turns_behind turns p) ≡ meaning_at p
  same_meaning (finished goal) = refl
  same_meaning (current new w) = refl

  same_meanings : (ps : List Place) → meanings (map (turns_behind turns) ps) ≡ meanings ps
  same_meanings [] = refl
  same_meanings (p ∷ ps) = ap₂ (λ e es. e ∷ es) (same_meaning p) (same_meanings ps)

  turns_stand : (w : Work) (n : ℕ) (old new : Parts Place) → Stands w n old → new.goals ≡ map (turns_behind turns) old.goals → new.proof ≡ old.proof → Stands w n new
  turns_stand w n old new st goals is = record {
    proves = subst (λ es. Proves Every (meaning w) es n DEEPEST WIDEST new.proof) (sym (ap meanings goals ∙ same_meanings old.goals)) (subst (λ t. Proves Every (meaning w) (meanings old.goals) n DEEPEST WIDEST t) (sym is) st.proves);
    fit = subst (λ ps. AreFit ps) (sym goals) (everywhere_turns IsFit turns old.goals st.fit);
    scoped = λ preds s. subst (λ ps. AreScoped preds ps) (sym goals) (everywhere_turns (IsWorkScoped preds) turns old.goals (st.scoped preds s));
    over = st.over;
    based = st.based;
  }

  pub turns_kept : (w : Work) (r : Run) (old new : Parts Place) → ReplacesWork w r (Ok old) → new.goals ≡ map (turns_behind turns) old.goals → new.proof ≡ old.proof → ReplacesWork w (keeping_turns turns r) (Ok new)
  turns_kept w (stopped x) old new h goals is = absurd h
  turns_kept w (ran n ps) old new h goals is = (goals ∙ ap (λ qs. map (turns_behind turns) qs) h.0, λ over scoped. turns_stand w n old new (h.1 over scoped) goals is)

pub place_kept : (whole : Work → Run) (p : Place) (turns ts : List Bool) (w : Work) (old new : Parts Place) → p ≡ current turns w → ts ≡ turns → ReplacesWork w (whole w) (Ok old) → new.goals ≡ map (turns_behind ts) old.goals → new.proof ≡ old.proof → Replaces p (in_place whole p) (Ok new)
place_kept whole p turns ts w old new is same h goals proof =
    subst (λ q. Replaces q (in_place whole q) (Ok new)) (sym is)
    (turns_kept turns w (whole w) old new h (goals ∙ ap (λ xs. map (turns_behind xs) old.goals) same) proof)

-- ---- a turn more

same_turned : (p : Place) → meaning_at (with_turn p) ≡ meaning_at p
same_turned (finished goal) = refl
same_turned (current turns w) = refl

all_turned : (ps : List Place) → meanings (map with_turn ps) ≡ meanings ps
all_turned [] = refl
all_turned (p ∷ ps) = ap₂ (λ e es. e ∷ es) (same_turned p) (all_turned ps)

module _ (old new : Parts Place) (goals : new.goals ≡ map with_turn old.goals) (is : new.proof ≡ old.proof) where
  turned_stands : (w : Work) (n : ℕ) → Stands w n old → Stands w n new
  turned_stands w n st = record {
    proves = subst (λ es. Proves Every (meaning w) es n DEEPEST WIDEST new.proof) (sym (ap meanings goals ∙ all_turned old.goals)) (subst (λ t. Proves Every (meaning w) (meanings old.goals) n DEEPEST WIDEST t) (sym is) st.proves);
    fit = subst (λ ps. AreFit ps) (sym goals) (everywhere_with_turn IsFit old.goals st.fit);
    scoped = λ preds s. subst (λ ps. AreScoped preds ps) (sym goals) (everywhere_with_turn (IsWorkScoped preds) old.goals (st.scoped preds s));
    over = st.over;
    based = st.based;
  }

  pub turned_standing : IsStanding old → IsStanding new
  turned_standing s = record { work = s.work; rules = s.rules; stands = turned_stands s.work s.rules s.stands }

  turned_run : (r : Run) (result : Result (Parts Place) StepFault) → Follows new r result → Follows old r result
  turned_run (ran n ps) (Ok end) f = (f.0, λ w m st. f.1 w m (turned_stands w m st))
  turned_run (ran n ps) (Err (fault.Refused x)) f = f
  turned_run (ran n ps) (Err fault.Memory) f = tt
  turned_run (stopped r) (Ok end) f = f
  turned_run (stopped r) (Err (fault.Refused x)) f = f
  turned_run (stopped r) (Err fault.Memory) f = tt

  pub turned_follows : (run : List Place → Run) (result : Result (Parts Place) StepFault) → Follows new (run new.goals) result → Follows old (run (map with_turn old.goals)) result
  turned_follows run result f = turned_run (run (map with_turn old.goals)) result (subst (λ ps. Follows new (run ps) result) goals f)

-- ---- each place in its turn

concluded : (w : Work) (r : Run) (s : Parts Place) → IsSoundWork w → ReplacesWork w r (Ok s) → conclusion s.proof ≡ meaning w
concluded w (ran n ps) s sound h = let st : Stands w n s = h.1 sound.over sound.scoped in st.proves.concludes
concluded w (stopped x) s sound h = absurd h

module _ (f : Place → Run) (old : Parts Place) (items : List Place) (same : items ≡ old.goals) (standing : IsStanding old) where
  abbrev listed : Parts Place
  listed = record { goals = items; proof = old.proof }

  stands : IsStanding listed
  stands = subst (λ ps. let s : Parts Place = record { goals = ps; proof = old.proof } in IsStanding s) (sym same) standing

  module _ (i : ℕ) (p : Place) (new : List Place) (t : Tree) (lt : i < length items) (at : p ≡ get_or items i p) (s : IsSwept f listed i new t) where
    pub sound_here : IsSound p
    sound_here = next_sound f listed i p new t stands lt at s

    pub fills_here : (count : ℕ) (inner : Parts Place) → count ≡ length new → Replaces p (f p) (Ok inner) → slice_get (holes_of t) count ≡ Some (conclusion inner.proof)
    fills_here count inner counted one = ap (slice_get (holes_of t)) counted ∙ next_hole f listed i p new t stands lt at s ∙ sym (ap Some (concluded (work_at p) (f p) inner sound_here one))

    pub goes_on_here : (j count : ℕ) (inner : Parts Place) (now : List Place) (u : Tree) → j ≡ i + 1 → count ≡ length new → Replaces p (f p) (Ok inner) → FillProves t count inner.proof u → now ≡ new ++ inner.goals → IsSwept f listed j now u
    goes_on_here j count inner now u next counted one fill e = goes_on f listed i j p inner new now t u next stands lt at s one (subst (λ n. FillProves t n inner.proof u) counted fill) e

    pub refused_here : (result : Result (Parts Place) StepFault) (e : StepFault) → result ≡ Err e → Replaces p (f p) (Err e) → Follows old (on_all f old.goals) result
    refused_here result e is one = subst (λ ps. let v : Parts Place = record { goals = ps; proof = old.proof } in Follows v (on_all f ps) result) same (subst (λ x. Follows listed (on_all f items) x) (sym is) (refuses_at f listed i p new t e lt at s one))

  pub ends_here : (i : ℕ) (new : List Place) (t : Tree) → length items ≤ i → IsSwept f listed i new t → Follows old (on_all f old.goals) (Ok (record { goals = new; proof = t }))
  ends_here i new t le s = subst (λ ps. let v : Parts Place = record { goals = ps; proof = old.proof } in Follows v (on_all f ps) (Ok (record { goals = new; proof = t }))) same (ends f listed i new t le s)
