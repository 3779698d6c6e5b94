-- Rows by their tickets.
use Rattle.std.specs.Prelude.{◌≡◌, ⊤, ℕ, [], List, All, Option, Vec, length, option_to_list, slice_get}
use Rattle.std.specs.Option.{option_and_then, option_flatten}
use Rattle.std.specs.declared.alloc.Global.{Global}
use Rattle.mothra_codes.specs.Op.{index}
use Rattle.mothra_codes.specs.declared.ticket.Ticket.{Ticket}
use Rattle.mothra_ops.specs.Plan.{PlanFields}
use Rattle.mothra_bench.specs.Collecting.{IsFirstDouble, rows_of}
use Rattle.mothra_verdicts.specs.declared.fault.BenchFault.{BenchFault}
use Rattle.mothra_verdicts.specs.declared.fault.BenchFault.TheVariants as fault
use Rattle.mothra_bench.specs.declared.row_map.RowMap.{RowMap}
use Rattle.mothra_verdicts.specs.declared.verdict.Row.{Row}

-- the row that stands at a place, if one does
abbrev pub row_at : List (Option Row) → ℕ → Option Row
row_at rows place = option_flatten (slice_get rows place)

-- the row that the lists of the operators have for an operator's place and a number
abbrev pub listed_row : List (Vec (Option Row) Global) → ℕ → ℕ → Option Row
listed_row lists op number = option_and_then (λ list. row_at list.items number) (slice_get lists op)

-- a list for each operator, and none has a row
pub record AreEmptyLists (lists : List (Vec (Option Row) Global)) : Type 0 where
  pub count : length lists ≡ 22
  pub empty : All (λ list. list.items ≡ []) lists

-- the row that the map has for a ticket
abbrev pub ticket_row : RowMap → Ticket → Option Row
ticket_row map ticket = listed_row map.rows.items (index ticket.op) ticket.number

-- the map has the rows of the list, and no ticket has two
abbrev pub HasRows : RowMap → List Row → Type 0
HasRows map rows = (ticket : Ticket) → option_to_list (ticket_row map ticket) ≡ rows_of ticket rows

-- the faults for which there is no map: out of memory, or a ticket with two rows
abbrev pub IsNoRowMap : List Row → BenchFault → Type 0
IsNoRowMap rows fault.Memory = ⊤
IsNoRowMap rows (fault.Double ticket) = (plan : PlanFields) → IsFirstDouble plan rows ticket
IsNoRowMap rows _ = ⊥
