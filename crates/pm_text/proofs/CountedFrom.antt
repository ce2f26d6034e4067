-- Faults whose offsets are counted from another place.
use Rattle.std.proofs.Common.{◌≡◌, ◌≢◌, ℕ, Result, Err, ap, sym, ◌∙◌}
use Rattle.pm_terms.specs.declared.fault.TextFault.{TextFault}
use Rattle.pm_terms.specs.declared.fault.TextFault.TheVariants.{Memory}
use Rattle.pm_terms.specs.Steps.{moved, counted_from}

pub from_base : {A : Type 0} (base : ℕ) (read : Result A TextFault) (fault new : TextFault) → (fault ≢ Memory → read ≡ Err fault) → (new ≢ Memory → new ≡ moved base fault)
    → new ≢ Memory → counted_from base read ≡ Err new
unfolding moved
from_base base read fault new gives known some =
    let same : new ≡ moved base fault = known some in
    let real : fault ≢ Memory = λ memory. some (same ∙ ap (moved base) memory) in
    rw (gives real) (ap Err (sym same))
