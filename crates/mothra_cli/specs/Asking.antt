-- What words mean to the command line of a program.
use Rattle.std.specs.Prelude.{◌≡◌, List, Option, Some, None, if◌then◌else◌}
use Rattle.clap.specs.Words.{App, HasKind, Text, fault_of, kind_of}
use Rattle.clap.specs.Walk.{is_empty}
use Rattle.clap.specs.declared.error.kind.ErrorKind.TheVariants as kind
use Rattle.mothra_cli.specs.declared.request.WordsFault.{WordsFault}
use Rattle.mothra_cli.specs.declared.request.WordsFault.TheVariants as fault

-- the three meanings of a list of words
pub data Meaning (Q : Type 0) : Type 0 where
  -- the command line refuses the words, or they ask for help or the version
  refused : Meaning Q
  -- the value of `--ops` is no list of operators' codes
  bad_operators : Meaning Q
  request : Q → Meaning Q

-- a command line, what the words mean that it takes, and the requests
-- whose numbers are within the bounds of their options
pub record CommandLine (Q : Type 0) : Type 1 where
  pub app : App
  pub meaning : List Text → Meaning Q
  pub IsBounded : Q → Type 0

-- the meaning of the words
unfoldable pub meaning_of : {Q : Type 0} → CommandLine Q → List Text → Meaning Q
meaning_of line words =
    if is_empty (fault_of line.app words) then line.meaning words else refused

abbrev pub request_in : {Q : Type 0} → Meaning Q → Option Q
request_in (request r) = Some r
request_in _ = None

-- Rule: the words
-- the words are this request, with numbers within the bounds of their options
pub record AsksFor {Q : Type 0} (line : CommandLine Q) (words : List Text)
    (request : Q) : Type 0 where
  pub is : request_in (meaning_of line words) ≡ Some request
  pub bounded : line.IsBounded request

-- Rule: the words
-- the command line takes the words, and their value of `--ops` is no list of operators' codes
abbrev pub HasBadOperators : {Q : Type 0} → CommandLine Q → List Text → Type 0
HasBadOperators line words = meaning_of line words ≡ bad_operators

-- Rule: the words
-- the fault says why the words are no request: the error is one by which the command line refuses
-- them, or answers a call for help or the version; or that memory ran out
abbrev pub IsFaultOf : {Q : Type 0} → CommandLine Q → List Text → WordsFault → Type 0
IsFaultOf line words (fault.Refused error) = HasKind (fault_of line.app words) error
IsFaultOf line words fault.BadOperatorList = HasBadOperators line words

-- the fault says that memory ran out
abbrev pub IsMemory : WordsFault → Type 0
IsMemory (fault.Refused error) = kind_of error ≡ kind.OutOfMemory
IsMemory fault.BadOperatorList = ⊥
