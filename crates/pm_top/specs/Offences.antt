-- What the checker's faults name, and which are told.
use Rattle.std.specs.Prelude.{◌≡◌, ◌⊎◌, ℕ, ◌≤◌, List, Result, Ok, Err}
use Rattle.pm_check.specs.declared.fault.CheckFault.{CheckFault}
use Rattle.pm_check.specs.declared.fault.CheckFault.TheVariants.{Syntax, Refused, NoLine, Unguarded, Deep, Long, Read, Memory}
use Rattle.pm_check.specs.Lines.{failed_rule}
use Rattle.pm_top.specs.declared.status.Status.{Status}
use Rattle.pm_top.specs.declared.status.Status.TheVariants as status
use Rattle.pm_top.specs.Answers.{offence_line, offence_status}

-- the number of a rule, or that of `qed`
pub record IsNamed (rule : ℕ) : Type 0 where
  pub some : 1 ≤ rule
  pub within : rule ≤ 68

-- a rule that is named has a name
unfoldable pub NamesRule : CheckFault → Type 0
NamesRule (Syntax at) = Unit {0}
NamesRule (Refused n failed) = IsNamed (failed_rule failed)
NamesRule (NoLine n cited) = Unit {0}
NamesRule (Unguarded p) = Unit {0}
NamesRule (Deep at) = Unit {0}
NamesRule Long = Unit {0}
NamesRule Read = Unit {0}
NamesRule Memory = Unit {0}

-- a fault for which a line is written
unfoldable pub IsTold : CheckFault → Type 0
IsTold (Syntax at) = Unit {0}
IsTold (Refused n failed) = Unit {0}
IsTold (NoLine n cited) = Unit {0}
IsTold (Unguarded p) = Unit {0}
IsTold (Deep at) = Unit {0}
IsTold Long = Unit {0}
IsTold Read = ⊥
IsTold Memory = ⊥

-- the status and the line of a fault that is told, or the status where nothing is written
abbrev pub Tells : CheckFault → Result (Status × List ℕ) Status → Type 0
Tells f (Ok x) = IsTold f × (x.0 ≡ offence_status f) × (x.1 ≡ offence_line f)
Tells f (Err s) = (s ≡ status.Memory) ⊎ ((s ≡ status.ReadFault) × (f ≡ Read))
