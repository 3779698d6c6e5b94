-- What words mean to the command line of a program.
-- Only private functions and proofs cite these definitions.
use Rattle.std.specs.Prelude.{◌≡◌, Option, Some, None, Result, Ok, Err}
use Rattle.clap.specs.Words.{kind_of}
use Rattle.clap.specs.declared.error.kind.ErrorKind.TheVariants as kind
use Rattle.mothra_cli.specs.Asking.{Meaning, refused, bad_operators, request}
use Rattle.mothra_cli.specs.declared.request.WordsFault.{WordsFault}
use Rattle.mothra_cli.specs.declared.request.WordsFault.TheVariants as fault

-- the result is the request of this meaning, or says why it is none, or that memory ran out
abbrev pub ReadsRequest : {Q : Type 0} → Meaning Q → Result (Option Q) WordsFault → Type 0
ReadsRequest meaning (Ok (Some r)) = meaning ≡ request r
ReadsRequest meaning (Ok None) = meaning ≡ refused
ReadsRequest meaning (Err fault.BadOperatorList) = meaning ≡ bad_operators
ReadsRequest meaning (Err (fault.Refused error)) = kind_of error ≡ kind.OutOfMemory
