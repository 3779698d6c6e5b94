-- The entries of tickets, made of the rows of a map.
use Rattle.std.specs.Prelude.{◌≡◌, ◌↔◌, ◌≤◌, ⊤, IsTrue, List, ◌∷◌, ◌++◌, Some, IsSome, All}
use Rattle.mothra_exchange.specs.Tally.{operator_word}
use Rattle.mothra_codes.specs.declared.ticket.Ticket.{Ticket}
use Rattle.mothra_exchange.specs.declared.word.Word.{Word}
use Rattle.mothra_verdicts.specs.Bench.{BenchFields, IsDeclared}
use Rattle.mothra_bench.specs.code.RowMap.{ticket_row}
use Rattle.mothra_verdicts.specs.declared.fault.BenchFault.{BenchFault}
use Rattle.mothra_verdicts.specs.declared.fault.BenchFault.TheVariants as fault
use Rattle.mothra_bench.specs.declared.matrix.Entry.{Entry}
use Rattle.mothra_bench.specs.declared.row_map.RowMap.{RowMap}
use Rattle.mothra_verdicts.specs.declared.verdict.Row.{Row}

-- the entry is made of the row of its ticket, which was handed out
pub record IsEntry (bench : BenchFields) (words : List Word) (map : RowMap) (entry : Entry) : Type 0 where
  pub row : Row
  pub kept : ticket_row map entry.ticket ≡ Some row
  pub kills : entry.kills ≡ row.kills
  pub handed : entry.ticket.number ≤ (operator_word words entry.ticket.op).handed
  pub declared : IsTrue entry.declared ↔ IsDeclared bench entry.ticket

-- the ticket has a row and was handed out
pub record IsHere (words : List Word) (map : RowMap) (ticket : Ticket) : Type 0 where
  pub row : IsSome (ticket_row map ticket)
  pub handed : ticket.number ≤ (operator_word words ticket.op).handed

-- the first of the tickets that has no row or was not handed out
pub record IsFirstAbsent (words : List Word) (map : RowMap) (tickets : List Ticket) (ticket : Ticket) : Type 0 where
  pub before : List Ticket
  pub after : List Ticket
  pub cut : tickets ≡ before ++ ticket ∷ after
  pub here : All (IsHere words map) before
  pub absent : ¬ (IsHere words map ticket)

-- the faults for which there are no entries: out of memory, or a ticket without a row or not handed out
abbrev pub AreNoEntries : List Word → RowMap → List Ticket → BenchFault → Type 0
AreNoEntries words map tickets fault.Memory = ⊤
AreNoEntries words map tickets (fault.Missing ticket) = IsFirstAbsent words map tickets ticket
AreNoEntries words map tickets _ = ⊥
