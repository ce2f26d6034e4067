-- Where a run ends: in which state, and what stops it there.
use Rattle.std.specs.Prelude.{◌≡◌, ℕ, ◌+◌, List, length, reverse, Option, Some, None, option_map}
use Rattle.pm_cutter.specs.Cutting.{Part, cut, rest_of}
use Rattle.pm_terms.specs.declared.fault.TextFault.TheVariants.{Unexpected}
use Rattle.pm_goal.specs.declared.goal.Goal.{Goal}
use Rattle.pm_run.specs.declared.stop.Stop.{Stop}
use Rattle.pm_run.specs.declared.stop.Stop.TheVariants as stop
use Rattle.pm_run.specs.declared.halted.Halted.{Halted}
use Rattle.pm_run.specs.declared.running.Running.{Running}
use Rattle.pm_run.specs.Runs.{OpenProof, State, start, Outcome, RunsFrom, does_not_read, is_unbuilt, is_refused, goes_on, is_cut_off, ends_inside, ends}
use Rattle.pm_run.specs.Keeping.{AreWithin}

-- the state behind the last sentence that is done
unfoldable pub last_state : (size : ℕ) (rest : Option ℕ) (n : ℕ) (s : State) (ps : List Part) (o : Outcome) → RunsFrom size rest n s ps o → State
last_state size rest n s _ _ (does_not_read p {f = f} e) = s
last_state size rest n s _ _ (is_unbuilt p x e does) = s
last_state size rest n s _ _ (is_refused p x e does) = s
last_state size rest n s _ _ (goes_on p x new e does run) = last_state size rest (n + 1) new _ _ run
last_state size rest n s _ _ (is_cut_off at e) = s
last_state size rest n s _ _ (ends_inside e is_open) = s
last_state size rest n s _ _ (ends e is_closed) = s

-- what stops the run there; nothing does where every sentence is done, be a proof open or not
unfoldable pub stop_in : (size : ℕ) (rest : Option ℕ) (n : ℕ) (s : State) (ps : List Part) (o : Outcome) → RunsFrom size rest n s ps o → Option Stop
stop_in size rest n s _ _ (does_not_read p {f = f} e) = Some (stop.Unreadable f)
stop_in size rest n s _ _ (is_unbuilt p x e does) = Some (stop.Unreadable (Unexpected p.offset))
stop_in size rest n s _ _ (is_refused p x {r = r} e does) = Some (stop.Refused n p.offset r)
stop_in size rest n s _ _ (goes_on p x new e does run) = stop_in size rest (n + 1) new _ _ run
stop_in size rest n s _ _ (is_cut_off at e) = Some (stop.Unreadable (Unexpected at))
stop_in size rest n s _ _ (ends_inside e is_open) = None
stop_in size rest n s _ _ (ends e is_closed) = None

-- a run of sentences ends in this state, and this stops it there, or nothing
pub record HaltsFrom (size : ℕ) (rest : Option ℕ) (n : ℕ) (s : State) (ps : List Part) (last : State) (by : Option Stop) : Type 0 where
  pub outcome : Outcome
  pub run : RunsFrom size rest n s ps outcome
  pub last_is : last_state size rest n s ps outcome run ≡ last
  pub stop_is : stop_in size rest n s ps outcome run ≡ by

-- the run of a script ends in this state, and this stops it there, or nothing
abbrev pub Halts : List ℕ → State → Option Stop → Type 0
Halts bytes last by = HaltsFrom (length bytes) (rest_of bytes) 1 start (cut bytes) last by

-- the goals that are left, where a proof is open
abbrev pub goals_of : Option OpenProof → Option (List Goal)
goals_of None = None
goals_of (Some p) = Some p.goals

abbrev pub EachWithin : Option (List Goal) → Type 0
EachWithin None = Unit {0}
EachWithin (Some goals) = AreWithin goals

-- of a script of which this is kept
abbrev pub halted : Running → Option Stop → Halted
halted r by = record { preds = r.preds; goals = option_map (λ p. reverse p.goals) r.proof; stop = by }

-- what is known of a script's last state and of what stops it
pub record HaltsAs (bytes : List ℕ) (h : Halted) : Type 0 where
  pub last : State
  pub halts : Halts bytes last h.stop
  pub preds_are : h.preds.list ≡ last.preds
  pub goals_are : h.goals ≡ goals_of last.proof
  pub within : EachWithin h.goals

-- a script ends in one state, stopped by one thing
abbrev pub HaltsAreOne : Type 0
HaltsAreOne = (bytes : List ℕ) (s t : State) (a b : Option Stop) → Halts bytes s a → Halts bytes t b → (s ≡ t) × (a ≡ b)
