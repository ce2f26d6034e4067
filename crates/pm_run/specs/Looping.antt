-- What the code of a whole script keeps from sentence to sentence.
use Rattle.std.specs.Prelude.{◌≡◌, ℕ, ◌+◌, ◌≤◌, List, [], ◌∷◌, ◌++◌, length, Option, Some, None}
use Rattle.std.specs.List.{AllByRecursion}
use Rattle.pm_logic.specs.declared.formula.Preds.{Preds}
use Rattle.pm_check.specs.declared.checked.Statement.{Statement}
use Rattle.pm_check.specs.Derivation.{IsDerivation}
use Rattle.pm_cutter.specs.declared.span.Span.{Span}
use Rattle.pm_cutter.specs.declared.span.Ended.{Ended}
use Rattle.pm_cutter.specs.declared.span.Ended.TheVariants as ended
use Rattle.pm_cutter.specs.Cutting.{Part, End, clean, last, rest, finished, end_of}
use Rattle.pm_cutter.specs.Spans.{part_of, parts_of, end_from}
use Rattle.pm_run.specs.declared.running.Running.{Running}
use Rattle.pm_run.specs.declared.running.Done.{Done}
use Rattle.pm_run.specs.declared.running.Done.TheVariants as done
use Rattle.pm_terms.specs.declared.fault.TextFault.TheVariants.{Unexpected}
use Rattle.pm_run.specs.declared.ran.Ran.{Ran}
use Rattle.pm_run.specs.declared.ran.Ran.TheVariants as ran
use Rattle.pm_run.specs.declared.stop.Stop.{Stop}
use Rattle.pm_run.specs.declared.stop.Stop.TheVariants as stop
use Rattle.pm_run.specs.Runs.{State, Outcome, accepted, refused, unreadable, RunsFrom}
use Rattle.pm_run.specs.Keeping.{Keeps}
use Rattle.pm_run.specs.Coming.{limit}
use Rattle.pm_run.specs.Halting.{HaltsFrom, Halts}

-- ---- where a run stops

abbrev pub outcome : Stop → Outcome
outcome (stop.Refused number offset refusal) = refused number offset refusal
outcome (stop.Unreadable fault) = unreadable fault

abbrev pub stopped : Stop → Ran
stopped (stop.Refused number offset refusal) = ran.Refused number offset refusal
stopped (stop.Unreadable fault) = ran.Unreadable fault

-- at a sentence, by what has become of it
abbrev pub stop_of : ℕ → Part → Done → Option Stop
stop_of n p done.Moved = None
stop_of n p (done.Refused r) = Some (stop.Refused n p.offset r)
stop_of n p done.Unbuilt = Some (stop.Unreadable (Unexpected p.offset))

-- ---- sentence by sentence

-- A state is kept from which on, with the second parts left and their first at its number, comes what comes of the first parts from the state s on.
pub record Leads (n : ℕ) (s : State) (ps : List Part) (r : Running) (m : ℕ) (qs : List Part) : Type 0 where
  pub state : State
  pub kept : Keeps r state
  pub leads : (size : ℕ) (left : Option ℕ) (more : List Part) (o : Outcome) → RunsFrom size left m state (qs ++ more) o → RunsFrom size left n s (ps ++ more) o
  pub halts : (size : ℕ) (left : Option ℕ) (more : List Part) (last : State) (by : Option Stop) → HaltsFrom size left m state (qs ++ more) last by → HaltsFrom size left n s (ps ++ more) last by

-- a state is kept in which the run stops in these parts, whatever follows
pub record Stops (n : ℕ) (s : State) (ps : List Part) (r : Running) (at : Stop) : Type 0 where
  pub state : State
  pub kept : Keeps r state
  pub stops : (size : ℕ) (left : Option ℕ) (more : List Part) → RunsFrom size left n s (ps ++ more) (outcome at)
  pub halts : (size : ℕ) (left : Option ℕ) (more : List Part) → HaltsFrom size left n s (ps ++ more) state (Some at)

abbrev pub Goes : ℕ → State → List Part → Running → ℕ → Option Stop → Type 0
Goes n s ps r m None = Leads n s ps r m []
Goes n s ps r m (Some at) = Stops n s ps r at

abbrev pub AtSpan : Running → ℕ → Span → Running → Option Stop → Type 0
AtSpan old n span new at = (s : State) → Keeps old s → Goes n s (part_of span ∷ []) new (n + 1) at

abbrev pub AtSpans : Running → ℕ → List Span → Running → ℕ → Option Stop → Type 0
AtSpans old n spans new m at = (s : State) → Keeps old s → Goes n s (parts_of spans) new m at

-- before the sentences of a slice that are left
abbrev pub LeadsTo : Running → ℕ → List Span → Running → ℕ → List Span → Type 0
LeadsTo old n spans new m left = (s : State) → Keeps old s → Leads n s (parts_of spans) new m (parts_of left)

abbrev pub IsShort : Span → Type 0
IsShort span = (length span.text ≤ limit) × (span.offset ≤ limit)

abbrev pub AreShort : List Span → Type 0
AreShort spans = AllByRecursion IsShort spans

-- ---- the end

-- what comes of sentences from a state on, with what is written for it
pub record ProvesFrom (size : ℕ) (left : Option ℕ) (n : ℕ) (s : State) (ps : List Part) (text : List ℕ) : Type 0 where
  pub preds : Preds
  pub lemmas : List Statement
  pub runs : RunsFrom size left n s ps (accepted preds.list lemmas)
  pub derivation : IsDerivation text preds lemmas

abbrev pub ComesFrom : ℕ → Option ℕ → ℕ → State → List Part → Ran → Type 0
ComesFrom size left n s ps (ran.Accepted text) = ProvesFrom size left n s ps text
ComesFrom size left n s ps (ran.Refused number offset refusal) = RunsFrom size left n s ps (refused number offset refusal)
ComesFrom size left n s ps (ran.Unreadable fault) = RunsFrom size left n s ps (unreadable fault)

-- the sentence that the end finishes
abbrev pub end_parts : End → List Part
end_parts clean = []
end_parts (last p) = p ∷ []
end_parts (rest at) = []

-- the offset of the fault of what is left
abbrev pub end_rest : End → Option ℕ
end_rest clean = None
end_rest (last p) = None
end_rest (rest at) = Some at

abbrev pub Ends : Running → ℕ → ℕ → End → Ran → Type 0
Ends r n size end result = (s : State) → Keeps r s → ComesFrom size (end_rest end) n s (end_parts end) result

-- the same where the end finishes this one
abbrev pub EndsWith : Running → ℕ → ℕ → Span → Ran → Type 0
EndsWith r n size span result = (s : State) → Keeps r s → ComesFrom size None n s (part_of span ∷ []) result

abbrev pub EndIsShort : Ended → Type 0
EndIsShort ended.Clean = Unit {0}
EndIsShort (ended.Last span) = IsShort span
EndIsShort (ended.Rest at) = Unit {0}

-- ---- where a run ends

-- a state is kept in which these sentences end, and this stops them there, or nothing
pub record HaltsWith (left : Option ℕ) (n : ℕ) (s : State) (ps : List Part) (r : Running) (by : Option Stop) : Type 0 where
  pub state : State
  pub kept : Keeps r state
  pub halts : (size : ℕ) → HaltsFrom size left n s ps state by

abbrev pub HaltsAtEnd : Running → ℕ → End → Running → Option Stop → Type 0
HaltsAtEnd old n end new by = (s : State) → Keeps old s → HaltsWith (end_rest end) n s (end_parts end) new by

-- a state is kept in which a script ends, and this stops it there, or nothing
pub record HaltsKept (bytes : List ℕ) (r : Running) (by : Option Stop) : Type 0 where
  pub state : State
  pub kept : Keeps r state
  pub halts : Halts bytes state by

-- ---- scripts that are cut

pub record IsCut (bytes : List ℕ) (spans : List Span) (end : Ended) : Type 0 where
  pub spans_are : parts_of spans ≡ finished bytes
  pub end_is : end_from end ≡ end_of bytes
