-- A test of a job has at most one outcome or fault.
use Rattle.mothra_app.proofs.Common.{◌≡◌, ◌∙◌, sym, ℕ, List, Err, Ok, ap, Some, None, Option, Arg, RunFault, LineFields, IsExecuted, IsLegalProgramOf}
use Rattle.mothra_app.proofs.Common.{IsRunLine, IsTestLine, IsTestOf, outcome_line, Job, Run, JobFields, test_at}
use Rattle.std.specs.Option.{option_map_or}
use Rattle.mothra_job.specs.declared.job.JobFault.TheVariants.{NoTest}
use Rattle.mothra_app.proofs.Stages.{One, Same, one_then, one_value}
use Rattle.mothra_app.proofs.OneProgram.{Laws, one_legal}

some_or_none : {A B : Type 0} (x : A) (o : Option A) → o ≡ Some x → o ≡ None → B
some_or_none x o some none = let is : Some x ≡ None = sym some ∙ none in absurd (cc)

same_misfit : (f g : RunFault) (o : Option RunFault) → o ≡ Some f → o ≡ Some g → f ≡ g
same_misfit f g o one two = cc

one_run : Laws → (program : List LineFields) (steps : ℕ) (arguments : List Arg) → One Same (IsRunLine program steps arguments)
one_run laws program steps arguments x y (IsRunLine.misfit is) (IsRunLine.misfit also) = ap (λ fault. Run fault) (same_misfit _ _ _ is also)
one_run laws program steps arguments x y (IsRunLine.misfit is) (IsRunLine.outcome fits ends) = some_or_none _ _ is fits
one_run laws program steps arguments x y (IsRunLine.outcome fits ends) (IsRunLine.misfit is) = some_or_none _ _ is fits
one_run laws program steps arguments x y (IsRunLine.outcome fits ends) (IsRunLine.outcome also ends_too) =
    ap outcome_line (laws.one_run program arguments steps _ _ ends ends_too)

pub one_executed : Laws → (job : JobFields) (test steps : ℕ) → One Same (IsExecuted job test steps)
one_executed laws job test steps = one_then Same (IsLegalProgramOf job.source) (IsTestLine job test steps) (one_legal laws job.source)
    (λ program. one_then Same (IsTestOf job.suite test) (IsRunLine program steps)
    (one_value (option_map_or (λ arguments. Ok arguments) (test_at job.suite test) (Err (Job (NoTest test))))) (one_run laws program steps))
