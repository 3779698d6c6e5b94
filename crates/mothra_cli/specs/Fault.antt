-- Whether a read or a write failed.
use Rattle.std.specs.Prelude.{Bool, true, false, Result, Ok, Err}
use Rattle.mothra_cli.specs.declared.fault.AppFault.{AppFault}
use Rattle.mothra_cli.specs.declared.fault.AppFault.TheVariants.{Memory, Read, Write}

-- Rule: what is read and written, A2, A3
-- whether a read failed (A2)
abbrev pub is_read_fault : {A : Type 0} → Result A AppFault → Bool
is_read_fault (Ok status) = false
is_read_fault (Err Memory) = false
is_read_fault (Err Read) = true
is_read_fault (Err Write) = false

-- Rule: what is read and written, A2, A3
-- whether a write failed or took no byte (A3)
abbrev pub is_write_fault : {A : Type 0} → Result A AppFault → Bool
is_write_fault (Ok status) = false
is_write_fault (Err Memory) = false
is_write_fault (Err Read) = false
is_write_fault (Err Write) = true
