-- Of several faults the first is reported.
use Rattle.std.specs.Prelude.{List, [], ◌∷◌, Option, Some, None, Result, Ok, Err}
use Rattle.mothra_job.specs.declared.job.JobFault.{JobFault}

-- the fault, where there is no value
abbrev pub absent : {A : Type 0} → JobFault → Option A → List JobFault
absent fault None = fault ∷ []
absent fault (Some x) = []

-- the first fault, or this value where there is none
abbrev pub fault_or : {A : Type 0} → List JobFault → A → Result A JobFault
fault_or [] value = Ok value
fault_or (fault ∷ others) value = Err fault
