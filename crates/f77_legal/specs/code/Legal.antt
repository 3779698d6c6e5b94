-- What a call reports for a list of faults for which no memory is taken.
-- Private functions and proofs alone cite what stands here.
use Rattle.std.specs.Prelude.{◌≡◌}
use Rattle.std.specs.Prelude.{List, [], Some, Result, Ok, Err}
use Rattle.std.specs.List.{slice_get}
use Rattle.f77_legal.specs.declared.fault.CheckFault.{CheckFault}

-- the call finds no fault where there is none; else it reports the first, and never that memory ran out
abbrev pub ReportsFirst : Result (Unit {0}) CheckFault → List CheckFault → Type 0
ReportsFirst (Ok unit) faults = faults ≡ []
ReportsFirst (Err fault) faults = slice_get faults 0 ≡ Some fault
