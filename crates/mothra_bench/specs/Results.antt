-- The rows of workers.
use Rattle.std.specs.Prelude.{List, map, All}
use Rattle.mothra_codes.specs.declared.ticket.Ticket.{Ticket}
use Rattle.mothra_verdicts.specs.Bench.{BenchFields}
use Rattle.mothra_verdicts.specs.Verdict.{IsVerdict}
use Rattle.mothra_verdicts.specs.declared.verdict.Row.{Row}

-- the kills of the row are the verdict of running its mutant alone
abbrev pub IsOwn : BenchFields → Row → Type 0
IsOwn bench row = IsVerdict bench row.ticket row.kills

-- the kills of each row are the verdict of running its mutant alone
abbrev pub AreVerdicts : BenchFields → List Row → Type 0
AreVerdicts bench rows = All (IsOwn bench) rows

abbrev pub tickets_in : List Row → List Ticket
tickets_in rows = map (λ row. row.ticket) rows
