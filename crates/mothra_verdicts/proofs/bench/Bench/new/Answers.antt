use Rattle.mothra_verdicts.proofs.Common.{subst, List, All, rules, Arg, Ticket, program_of, FitsProgram, AreOutcomes, IsNoBench, IsNoEntry}
use Rattle.mothra_verdicts.proofs.BenchFaults.{entry_fault}
use Rattle.mothra_verdicts.proofs.bench.Bench.new.Goals as goal

pub returns-in_err-named-clause-refused : goal.returns-in_err-named-clause-refused
returns-in_err-named-clause-refused c =
    let fits = subst (λ (tests : List (List Arg)). All (FitsProgram (program_of c.args.plan)) tests) c.as_slice.ensures c.in_default.ensures.fit in
    let outcomes = subst (λ (tests : List (List Arg)). AreOutcomes (program_of c.args.plan) c.args.steps tests c.in_ok-traces.traces.outcomes.items)
    c.as_slice-2.ensures c.in_ok-traces.ensures.traces.outcomes in
    let refused = subst (λ (entries : List Ticket). IsNoEntry c.args.plan entries c.in_err-named.field-0.0) c.as_slice-3.ensures c.in_err-named.ensures.refused in
    let no_bench : IsNoBench c.args.plan c.args.tests c.args.steps c.args.declared c.in_err-named.field-0.0
    = entry_fault c.args.plan c.args.tests c.args.steps c.args.declared c.in_ok-traces.traces.outcomes.items c.in_err-named.field-0.0 fits outcomes c.in_ok-traces.ensures.traces.end refused in
    search rules
