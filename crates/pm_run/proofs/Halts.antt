-- Where runs end.
use Rattle.std.proofs.Common.{◌≡◌, ℕ, ◌+◌, Bool, true, false, List, [], ◌∷◌, refl, Option, Some, None, Ok, Err}
use Rattle.pm_terms.specs.declared.fault.TextFault.{TextFault}
use Rattle.pm_terms.specs.declared.fault.TextFault.TheVariants.{Unexpected}
use Rattle.pm_cutter.specs.Cutting.{Part}
use Rattle.pm_script.specs.declared.sentence.Sentence.{Sentence}
use Rattle.pm_script.specs.SentenceReading.{read_sentence}
use Rattle.pm_goal.specs.declared.refusal.Refusal.{Refusal}
use Rattle.pm_goal.specs.declared.refusal.Row.TheVariants.{GoalsRemain}
use Rattle.pm_goal.specs.Refusals.{refusal}
use Rattle.pm_run.specs.declared.stop.Stop.{Stop}
use Rattle.pm_run.specs.declared.stop.Stop.TheVariants as stop
use Rattle.pm_run.specs.Runs.{State, scope, is_open, moves, refuses, unbuilt, Does, accepted, refused, unreadable, does_not_read, is_unbuilt, is_refused, goes_on, is_cut_off, ends_inside, ends}
use Rattle.pm_run.specs.Halting.{last_state, stop_in, HaltsFrom}

pub halts_unread : (size : ℕ) (left : Option ℕ) (n : ℕ) (s : State) (p : Part) (ps : List Part) (f : TextFault) → read_sentence p.offset s.preds (scope s) p.text ≡ Err f → HaltsFrom size left n s (p ∷ ps) s (Some (stop.Unreadable f))
unfolding last_state stop_in
halts_unread size left n s p ps f e = record { outcome = unreadable f; run = does_not_read p e; last_is = refl; stop_is = refl }

pub halts_unbuilt : (size : ℕ) (left : Option ℕ) (n : ℕ) (s : State) (p : Part) (ps : List Part) (x : Sentence) → read_sentence p.offset s.preds (scope s) p.text ≡ Ok x → Does s x unbuilt → HaltsFrom size left n s (p ∷ ps) s (Some (stop.Unreadable (Unexpected p.offset)))
unfolding last_state stop_in
halts_unbuilt size left n s p ps x e does = record { outcome = unreadable (Unexpected p.offset); run = is_unbuilt p x e does; last_is = refl; stop_is = refl }

pub halts_refused : (size : ℕ) (left : Option ℕ) (n : ℕ) (s : State) (p : Part) (ps : List Part) (x : Sentence) (r : Refusal) → read_sentence p.offset s.preds (scope s) p.text ≡ Ok x → Does s x (refuses r) → HaltsFrom size left n s (p ∷ ps) s (Some (stop.Refused n p.offset r))
unfolding last_state stop_in
halts_refused size left n s p ps x r e does = record { outcome = refused n p.offset r; run = is_refused p x e does; last_is = refl; stop_is = refl }

-- one sentence more, which is done
pub halts_on : (size : ℕ) (left : Option ℕ) (n : ℕ) (s : State) (p : Part) (ps : List Part) (x : Sentence) (t last : State) (by : Option Stop) → read_sentence p.offset s.preds (scope s) p.text ≡ Ok x → Does s x (moves t) → HaltsFrom size left (n + 1) t ps last by → HaltsFrom size left n s (p ∷ ps) last by
unfolding last_state stop_in
halts_on size left n s p ps x t last by e does h = record { outcome = h.outcome; run = goes_on p x t e does h.run; last_is = h.last_is; stop_is = h.stop_is }

pub halts_cut_off : (size at n : ℕ) (s : State) → HaltsFrom size (Some at) n s [] s (Some (stop.Unreadable (Unexpected at)))
unfolding last_state stop_in
halts_cut_off size at n s = record { outcome = unreadable (Unexpected at); run = is_cut_off at refl; last_is = refl; stop_is = refl }

pub halts_done : (size n : ℕ) (s : State) → HaltsFrom size None n s [] s None
unfolding last_state stop_in
halts_done size n s = go (is_open s) refl
  where
    go : (b : Bool) → is_open s ≡ b → HaltsFrom size None n s [] s None
    go true e = record { outcome = refused n size (refusal GoalsRemain []); run = ends_inside refl e; last_is = refl; stop_is = refl }
    go false e = record { outcome = accepted s.preds s.lemmas; run = ends refl e; last_is = refl; stop_is = refl }
