-- The rows of workers.
-- Only private functions and proofs cite these definitions.
use Rattle.std.specs.Prelude.{◌≡◌, List, [], ◌∷◌, ◌++◌}
use Rattle.mothra_codes.specs.declared.ticket.Ticket.{Ticket}
use Rattle.mothra_verdicts.specs.Bench.{BenchFields}
use Rattle.mothra_verdicts.specs.declared.verdict.Row.{Row}
use Rattle.mothra_bench.specs.Results.{IsOwn}

-- one row was added at the end: that of the ticket, with the verdict of its mutant
pub record AddsRow (bench : BenchFields) (ticket : Ticket) (rows more : List Row) : Type 0 where
  pub row : Row
  pub added : more ≡ rows ++ row ∷ []
  pub of : row.ticket ≡ ticket
  pub own : IsOwn bench row
