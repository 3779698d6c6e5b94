use Rattle.f77_program.proofs.Common.{of_calls, name_text}
use Rattle.f77_program.proofs.joined.print_names.Goals as goal

pub returns : goal.returns
returns c = c.print_joined.ensures name_text (λ out item result after called. search of_calls)
