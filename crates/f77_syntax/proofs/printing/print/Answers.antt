use Rattle.f77_syntax.proofs.Common.{◌≡◌, [], map, string_bytes, line_of}
use Rattle.f77_source.specs.Write.{card_faults}
use Rattle.f77_program.specs.Printing.{card_of}
use Rattle.f77_program.proofs.Reported.{program_formed, written_whole}
use Rattle.f77_syntax.proofs.ReadAgain.{prints_back}
use Rattle.f77_syntax.proofs.printing.print.Goals as goal

pub returns-in-Ok-clause-back : goal.returns-in-Ok-clause-back
returns-in-Ok-clause-back c =
    let program = c.lines.ensures.program in
    let none : card_faults (map card_of (map line_of c.args.program.now)) ≡ [] =
    written_whole (map line_of c.args.program.now) (program_formed program) c.in-Ok.ensures.accepted in
    prints_back (string_bytes c.in-Ok.text) (map line_of c.args.program.now) program none c.in-Ok.ensures.text c.written_cards_are_read.ensures
