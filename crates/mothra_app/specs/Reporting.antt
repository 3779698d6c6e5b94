-- The command `run`: the report on the mutants of the program of a job.
use Rattle.std.specs.Prelude.{◌≡◌, ◌≢◌, ℕ, List, Result, Ok, Err}
use Rattle.mothra_job.specs.Job.{JobFields}
use Rattle.mothra_app.specs.Stages.{InTurn}
use Rattle.mothra_app.specs.Program.{IsPlanned}
use Rattle.mothra_app.specs.declared.fault.Fault.{Fault}
use Rattle.mothra_app.specs.declared.fault.Fault.TheVariants.{Bench}
use Rattle.mothra_bench.specs.Analysis.{IsReport}
use Rattle.mothra_codes.specs.declared.op.Op.{Op}
use Rattle.mothra_ops.specs.Plan.{PlanFields}
use Rattle.mothra_verdicts.specs.Bench.{BenchFields, IsBench, IsNoBench}
use Rattle.mothra_verdicts.specs.declared.fault.BenchFault.{BenchFault}
use Rattle.mothra_verdicts.specs.declared.fault.BenchFault.TheVariants.{Memory}

-- the bench of a job: the plan, its tests, the limit on
-- steps, and the mutants that it declares equivalent
pub record IsBenchOf (job : JobFields) (steps : ℕ) (plan : PlanFields)
    (bench : BenchFields) : Type 0 where
  pub own : bench.plan ≡ plan
  pub tests : bench.tests ≡ job.suite
  pub limit : bench.steps ≡ steps
  pub declared : bench.declared ≡ job.equivalent
  pub is : IsBench bench

-- The bench of a job with this plan, or the first reason why there is none.
pub data IsBenchIn (job : JobFields) (steps : ℕ) (plan : PlanFields) : Result BenchFields Fault
    → Type 0 where
  no_bench : {fault : BenchFault} → fault ≢ Memory
      → IsNoBench plan job.suite steps job.equivalent fault
      → IsBenchIn job steps plan (Err (Bench fault))
  made : {bench : BenchFields} → IsBenchOf job steps plan bench
      → IsBenchIn job steps plan (Ok bench)

-- the bench of a job for these operators and this limit on steps, or the first fault
abbrev pub IsBenched : JobFields → List Op → ℕ → ℕ → Result BenchFields Fault → Type 0
IsBenched job ops every steps =
    InTurn (IsPlanned job.source ops every) (IsBenchIn job steps)

-- The report of a bench.
pub data IsReportOf (bench : BenchFields) : Result (List ℕ) Fault → Type 0 where
  report : {text : List ℕ} → IsReport bench text → IsReportOf bench (Ok text)

-- Rule: the four commands
-- The outcome of `run` for these operators and this limit on steps.
-- The number of workers is no argument of this definition.
abbrev pub IsReported : JobFields → List Op → ℕ → ℕ → Result (List ℕ) Fault → Type 0
IsReported job ops every steps = InTurn (IsBenched job ops every steps) IsReportOf
