-- What the calls that read one line answer.
use Rattle.std.specs.Prelude.{◌≡◌, ℕ, suc, ◌+◌, ◌-◌, List, [], ◌∷◌, ◌++◌, codes, map, length, Result, Ok, Err}
use denote.Ref.{Bor}
use Rattle.pm_logic.specs.declared.formula.Pred.{Pred}
use Rattle.pm_dtext.specs.declared.fault.Fault.{Fault}
use Rattle.pm_dtext.specs.declared.fault.Fault.TheVariants.{Syntax, NoLine, Deep}
use Rattle.pm_dtext.specs.declared.fault.LineFault.{LineFault}
use Rattle.pm_dtext.specs.declared.fault.LineFault.TheVariants as faults
use Rattle.pm_dtext.specs.declared.fault.ReadFault.{ReadFault}
use Rattle.pm_dtext.specs.declared.fault.ReadFault.TheVariants as read_faults
use Rattle.pm_dtext.specs.declared.arities.Arities.{Arities}
use Rattle.pm_dtext.specs.declared.arities.Arities.TheVariants as arities
use Rattle.pm_dtext.specs.Reading.{◌>>=◌, rule_signs}

-- ---- readers of a front, which answer by how many bytes are left

abbrev pub Fails : {Y : Type 0} → ReadFault → Result Y Fault → Type 0
Fails read_faults.Memory read = Unit {0}
Fails (read_faults.Fault f) read = read ≡ Err f

-- what a function returned, seen by view, is what reading gives, unless memory ran out
abbrev pub Gives : {X Y : Type 0} → (X → Y) → Result X ReadFault → Result Y Fault → Type 0
Gives view (Ok x) read = read ≡ Ok (view x)
Gives view (Err e) read = Fails e read

-- a part of the front, and the bytes that are left
abbrev pub ReadsAs : {A : Type 0} → Result (A × Bor (List ℕ)) ReadFault → Result (A × List ℕ) Fault → Type 0
ReadsAs result read = Gives (λ x. (x.0, x.1.now)) result read

-- two parts
abbrev pub ReadsTwoAs : {A B : Type 0} → Result (A × B × Bor (List ℕ)) ReadFault → Result (A × B × List ℕ) Fault → Type 0
ReadsTwoAs result read = Gives (λ x. (x.0, x.1, x.2.now)) result read

-- ---- the same of a function that takes no memory

abbrev pub Reads : {X Y : Type 0} → (X → Y) → Result X Fault → Result Y Fault → Type 0
Reads view (Ok x) read = read ≡ Ok (view x)
Reads view (Err f) read = read ≡ Err f

abbrev pub ReadsExactly : {A : Type 0} → Result (A × Bor (List ℕ)) Fault → Result (A × List ℕ) Fault → Type 0
ReadsExactly result read = Reads (λ x. (x.0, x.1.now)) result read

abbrev pub ReadsTwoExactly : {A B : Type 0} → Result (A × B × Bor (List ℕ)) Fault → Result (A × B × List ℕ) Fault → Type 0
ReadsTwoExactly result read = Reads (λ x. (x.0, x.1, x.2.now)) result read

-- bytes of the text, and those that are left
abbrev pub ReadsWord : Result (Bor (List ℕ) × Bor (List ℕ)) Fault → Result (List ℕ × List ℕ) Fault → Type 0
ReadsWord result read = Reads (λ x. (x.0.now, x.1.now)) result read

-- the bytes that are left alone
abbrev pub LeavesExactly : Result (Bor (List ℕ)) Fault → Result (List ℕ) Fault → Type 0
LeavesExactly result read = Reads (λ x. x.now) result read

-- ---- calls that read a whole text, which answer by offsets

-- what was read, where nothing is left
abbrev pub if_end : {A : Type 0} → A → List ℕ → Result A Fault
if_end x [] = Ok x
if_end x (b ∷ rest) = Err (Syntax (suc (length rest)))

abbrev pub nothing_left : {A : Type 0} → A × List ℕ → Result A Fault
nothing_left x = if_end x.0 x.1

-- the offset behind the base of a place where so many bytes of the text are left
abbrev pub offset : ℕ → List ℕ → ℕ → ℕ
offset base text left = base + (length text - left)

abbrev pub placed_fault : ℕ → List ℕ → ReadFault → LineFault
placed_fault base text read_faults.Memory = faults.Memory
placed_fault base text (read_faults.Fault (Syntax left)) = faults.Syntax (offset base text left)
placed_fault base text (read_faults.Fault (NoLine n)) = faults.NoLine n
placed_fault base text (read_faults.Fault (Deep left)) = faults.Deep (offset base text left)

abbrev pub placed : {A : Type 0} → ℕ → List ℕ → Result A Fault → Result A LineFault
placed base text (Ok x) = Ok x
placed base text (Err f) = Err (placed_fault base text (read_faults.Fault f))

-- the text, which begins at the base, read as a whole
abbrev pub whole : {A : Type 0} → ℕ → List ℕ → Result (A × List ℕ) Fault → Result A LineFault
whole base text read = placed base text (read >>= nothing_left)

-- what was read, where only what follows it matters
abbrev pub only_rest : Result (List ℕ) Fault → Result (Unit {0} × List ℕ) Fault
only_rest read = read >>= λ rest. Ok (tt, rest)

-- what a call returned is this, unless memory ran out
abbrev pub Answers : {A : Type 0} → Result A LineFault → Result A LineFault → Type 0
Answers (Ok x) read = read ≡ Ok x
Answers (Err (faults.Syntax at)) read = read ≡ Err (faults.Syntax at)
Answers (Err (faults.NoLine n)) read = read ≡ Err (faults.NoLine n)
Answers (Err (faults.Deep at)) read = read ≡ Err (faults.Deep at)
Answers (Err faults.Memory) read = Unit {0}

-- ---- names of rules

-- the names as they are printed, in the table's order, and the one of a statement's line
abbrev pub printed_names : List (List ℕ)
printed_names = map (λ e. e.0) rule_signs ++ (codes "qed" ∷ [])

-- ---- what a table of predicates tells the readers

abbrev pub arities_of : List Pred → List ℕ
arities_of preds = map (λ q. q.arity) preds

abbrev pub names_of : List Pred → List (List ℕ)
names_of preds = map (λ q. q.name) preds

abbrev pub told : Arities → List ℕ
told (arities.Listed list) = list.now
told (arities.Table preds) = arities_of preds.now
