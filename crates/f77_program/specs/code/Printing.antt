-- A program printed in fixed form.
-- Private functions and proofs alone cite what stands here.
use Rattle.std.specs.Prelude.{Option, Some, None}
use Rattle.f77_source.specs.declared.fault.FormFault.{FormFault}
use Rattle.f77_source.specs.declared.fault.FormFault.TheVariants.{Memory as FormMemory, TooLarge, NotAscii, Tab}
use Rattle.f77_source.specs.declared.fault.FormFault.TheVariants.{BadLabel, LooseContinuation, TooManyContinuations}
use Rattle.f77_program.specs.declared.fault.SyntaxFault.{SyntaxFault}
use Rattle.f77_program.specs.declared.fault.SyntaxFault.TheVariants.{Memory, BadConstant, TooLong}

-- the fault of a program for a fault of a card; faults that no card with a printable text has give none
abbrev pub reported_fault : FormFault → Option SyntaxFault
reported_fault (BadLabel line) = Some (BadConstant line)
reported_fault (TooManyContinuations line) = Some (TooLong line)
reported_fault FormMemory = Some Memory
reported_fault TooLarge = None
reported_fault (NotAscii line) = None
reported_fault (Tab line) = None
reported_fault (LooseContinuation line) = None
