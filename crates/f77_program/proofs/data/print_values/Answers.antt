use Rattle.f77_program.proofs.Common.{of_calls, value_text}
use Rattle.f77_program.proofs.data.print_values.Goals as goal

pub returns : goal.returns
returns c = c.print_joined.ensures value_text (λ out item result after called. search of_calls)
