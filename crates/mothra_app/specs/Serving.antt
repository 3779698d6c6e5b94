-- What is served for words and all the bytes of the reader: a status and a text.
use Rattle.std.specs.Prelude.{ℕ, List, Option, codes}
use Rattle.std.specs.Io.KnownBytes.{Appends, Keeps}
use Rattle.clap.specs.Words.{Text, fault_of}
use Rattle.clap.specs.Kinds.{IsAmong}
use Rattle.clap.specs.declared.error.kind.ErrorKind.{ErrorKind}
use Rattle.mothra_app.specs.Answer.{IsAnswer, IsRefusal, Promise}
use Rattle.mothra_cli.specs.Input.{limit, AreAll, IsRead}
use Rattle.mothra_cli.specs.Asking.{AsksFor, HasBadOperators}
use Rattle.mothra_job.specs.Job.{job_of}
use Rattle.mothra_cli.specs.Output.{AppendsFront}
use Rattle.mothra_app.specs.declared.status.Status.{Status}
use Rattle.mothra_app.specs.declared.status.Status.TheVariants as status

-- the answer where the value of `--ops` is no list of operators' codes
abbrev pub bad_operators : List ℕ
bad_operators = codes "BAD OPERATOR LIST\n"

-- What a program may write for the words and the bytes: an answer to
-- the request, or the answer to words that are no request.
pub data MayBeWritten {Q : Type 0} (promise : Promise Q) (words : List Text) (bytes : List ℕ)
    : Status → List ℕ → Type 0 where
  answer : {request : Q} {status : Status} {text : List ℕ} → AsksFor promise.line words request
      → IsAnswer promise request (job_of bytes) status text
      → MayBeWritten promise words bytes status text
  bad_list : HasBadOperators promise.line words
      → MayBeWritten promise words bytes status.Words bad_operators
  refusal : {status : Status} {text : List ℕ} (cause : ErrorKind)
      → IsRefusal cause status → IsAmong cause (fault_of promise.line.app words)
      → MayBeWritten promise words bytes status text

-- what is read for an answer with this status: nothing, where the
-- words are refused or ask for help or the version
abbrev pub IsReadFor : Status → Option (List ℕ) → Option (List ℕ) → Type 0
IsReadFor status.Report left now = IsRead limit left now
IsReadFor status.Fault left now = IsRead limit left now
IsReadFor status.Words left now = Keeps left now
IsReadFor status.Help left now = Keeps left now

-- Rule: what is read and written, A2, A3
-- the text with this status may be, for all the bytes of the reader, where
-- it had the bytes `left` before and has `now` after that
pub record IsAnswered (MayBe : List ℕ → Status → List ℕ → Type 0) (left now : Option (List ℕ))
    (status : Status) (text : List ℕ) : Type 0 where
  pub bytes : List ℕ
  pub all : AreAll left bytes
  pub may : MayBe bytes status text
  pub read : IsReadFor status left now

-- Rule: what is read and written, A2, A3
-- such a text was written whole, and nothing else, to a writer
-- that held the bytes `old` before and holds `new` after that
pub record WritesWhole (MayBe : List ℕ → Status → List ℕ → Type 0)
    (left now old new : Option (List ℕ)) (status : Status) : Type 0 where
  pub text : List ℕ
  pub answered : IsAnswered MayBe left now status text
  pub written : Appends old new text

-- Rule: what is read and written, A2, A3
-- only a front of such a text was written
pub record WritesFront (MayBe : List ℕ → Status → List ℕ → Type 0)
    (left now old new : Option (List ℕ)) : Type 0 where
  pub status : Status
  pub text : List ℕ
  pub answered : IsAnswered MayBe left now status text
  pub written : AppendsFront old new text
