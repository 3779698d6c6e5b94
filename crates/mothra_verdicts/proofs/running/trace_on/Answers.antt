use Rattle.mothra_verdicts.proofs.Common.{map, line_of}
use Rattle.mothra_verdicts.proofs.BenchTests.{never_ends, failed}
use Rattle.mothra_verdicts.proofs.OutOfMemory.{run_out_of_memory}
use Rattle.mothra_verdicts.proofs.running.trace_on.Goals as goal

pub returns-else-is_end-clause-fails : goal.returns-else-is_end-clause-fails
returns-else-is_end-clause-fails c =
    never_ends (map line_of c.args.original.now.program) c.args.steps c.args.test.now c.in-Ok.trace.outcome
    (λ other also. c.in-Ok.ensures.only other (rw c.as_slice.ensures also))
    (failed c.is_end.result c.is_end.ensures c.if-is_end.false)

pub of_run-requires : goal.of_run-requires
of_run-requires c = run_out_of_memory c.in-Err.fault _ (rw c.as_slice.ensures c.requires) c.in-Err.ensures.fault
