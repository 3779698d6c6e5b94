-- The verdict of a ticket is that of the mutant which its item makes.
use Rattle.mothra_verdicts.proofs.Common.{List, Bool, option_and_then_some, Ticket, program_of, mutant_made, BenchFields, IsVerdict, IsItemVerdict, item_of}

pub item_verdict : (bench : BenchFields) (ticket : Ticket) (kills : List Bool) → IsVerdict bench ticket kills → IsItemVerdict bench ticket kills
item_verdict bench ticket kills is =
    option_and_then_some (mutant_made (program_of bench.plan)) (item_of bench.plan ticket.op ticket.number) is.mutant is.is
    (λ edit item makes. record { edit = edit; item = item; mutant = is.mutant; makes = makes; alone = is.alone })
