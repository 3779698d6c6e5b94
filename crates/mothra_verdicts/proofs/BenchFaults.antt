-- The faults for which there is no bench.
use Rattle.mothra_verdicts.proofs.Common.{List, ℕ, All, Arg, Outcome, Ticket, program_of, PlanFields, FitsProgram, AreOutcomes, IsNoBench, IsEnd}
use Rattle.mothra_verdicts.proofs.Common.{IsNoEntry}
use Rattle.mothra_verdicts.specs.declared.fault.BenchFault.{BenchFault}
use Rattle.mothra_verdicts.specs.declared.fault.BenchFault.TheVariants as fault
use Rattle.mothra_verdicts.proofs.BenchTests.{ends_all}

-- a declared entry that is not fine, where the program ends on every test
pub entry_fault : (plan : PlanFields) (tests : List (List Arg)) (steps : ℕ) (declared : List Ticket) (outcomes : List Outcome) (why : BenchFault)
    → All (FitsProgram (program_of plan)) tests → AreOutcomes (program_of plan) steps tests outcomes → All IsEnd outcomes → IsNoEntry plan declared why
    → IsNoBench plan tests steps declared why
entry_fault plan tests steps declared outcomes fault.Memory fits are end found = tt
entry_fault plan tests steps declared outcomes (fault.EquivalentUnknown n) fits are end found = (fits, ends_all (program_of plan) steps tests outcomes are end, found)
entry_fault plan tests steps declared outcomes (fault.EquivalentTwice n) fits are end found = (fits, ends_all (program_of plan) steps tests outcomes are end, found)
entry_fault plan tests steps declared outcomes fault.Thread fits are end found = absurd found
entry_fault plan tests steps declared outcomes (fault.TestShape n) fits are end found = absurd found
entry_fault plan tests steps declared outcomes (fault.OriginalFails n) fits are end found = absurd found
entry_fault plan tests steps declared outcomes (fault.Double t) fits are end found = absurd found
entry_fault plan tests steps declared outcomes (fault.Stranger t) fits are end found = absurd found
entry_fault plan tests steps declared outcomes (fault.Missing t) fits are end found = absurd found
entry_fault plan tests steps declared outcomes fault.Stalled fits are end found = absurd found
