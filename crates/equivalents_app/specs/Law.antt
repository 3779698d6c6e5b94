-- What the equivalence of mutants that are named for a job means for its tests.
use Rattle.std.specs.Prelude.{◌≡◌, ℕ, Bool, false, All, List, Ok}
use Rattle.equivalents_app.specs.Prelude.{Equivalent, JobFields, JobRead, job_of}
use Rattle.mothra_verdicts.specs.Bench.{BenchFields, IsBench}
use Rattle.mothra_verdicts.specs.Verdict.{IsVerdict}
use Rattle.equivalents_app.specs.Room.{AreNamedMutants}

-- the mutant's verdict on the bench is that no test kills it
abbrev pub LivesOn : BenchFields → Equivalent → Type 0
LivesOn bench named =
    (kills : List Bool) → IsVerdict bench named.ticket kills → All (λ kill. kill ≡ false) kills

-- Rule: what `equivalents` writes
-- of the mutants that are named for a job, no test kills one on any bench of that job's tests
abbrev pub NoTestKills : Type 0
NoTestKills =
    (bytes : List ℕ) (job : JobFields) (bench : BenchFields) (list : List Equivalent)
    → (let read : JobRead = Ok job in job_of bytes ≡ read)
    → IsBench bench → bench.tests ≡ job.suite
    → AreNamedMutants bench.plan job.suite bench.steps list
    → All (LivesOn bench) list
