use Rattle.f77_program.proofs.Common.{of_calls, decimal}
use Rattle.f77_program.proofs.joined.print_numbers.Goals as goal

pub returns : goal.returns
returns c = c.print_joined.ensures decimal (λ out item result after called. search of_calls)
