use Rattle.f77_program.proofs.Common.{◌≡◌, [], map, rules, line_of, card_of, card_faults}
use Rattle.f77_program.proofs.Reported.{program_formed, printed_whole, is_reported, first_refused}
use Rattle.f77_program.proofs.printing.print.Goals as goal

pub returns-in-Ok-clause-accepted : goal.returns-in-Ok-clause-accepted
returns-in-Ok-clause-accepted c =
    let none : card_faults (map card_of (map line_of c.args.program.now)) ≡ [] = search rules in
    printed_whole (map line_of c.args.program.now) (program_formed c.lines.ensures.program) none

pub reported-requires : goal.reported-requires
reported-requires c = is_reported (map line_of c.args.program.now) c.in-Err.fault (program_formed c.lines.ensures.program) (search rules)

pub returns-clause-refused : goal.returns-clause-refused
returns-clause-refused c =
    first_refused (map line_of c.args.program.now) c.in-Err.fault c.reported.result (program_formed c.lines.ensures.program) c.reported.ensures (search rules)
