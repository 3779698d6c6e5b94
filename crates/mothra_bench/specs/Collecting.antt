-- Which matrix is made of rows, and when none is.
use Rattle.std.specs.Prelude.{◌≡◌, ◌↔◌, ◌≤◌, ◌==◌, ◌&&◌, ⊤, Bool, IsTrue, List}
use Rattle.std.specs.Prelude.{[], ◌∷◌, ◌++◌, map, length, filter, All}
use Rattle.mothra_codes.specs.Op.{index}
use Rattle.mothra_ops.specs.Plan.{PlanFields}
use Rattle.mothra_exchange.specs.Tally.{operator_word}
use Rattle.mothra_codes.specs.Ticket.{Before}
use Rattle.mothra_codes.specs.declared.ticket.Ticket.{Ticket}
use Rattle.mothra_exchange.specs.declared.word.Word.{Word}
use Rattle.mothra_verdicts.specs.Bench.{BenchFields, IsDeclared}
use Rattle.mothra_ops.specs.Tickets.{tickets_of}
use Rattle.mothra_verdicts.specs.Verdict.{HasMutant}
use Rattle.mothra_verdicts.specs.declared.fault.BenchFault.{BenchFault}
use Rattle.mothra_verdicts.specs.declared.fault.BenchFault.TheVariants as fault
use Rattle.mothra_bench.specs.declared.matrix.Entry.{Entry}
use Rattle.mothra_verdicts.specs.declared.verdict.Row.{Row}

-- the rows that bear a ticket
abbrev pub is_row_of : Ticket → Row → Bool
is_row_of ticket row = index row.ticket.op == index ticket.op && row.ticket.number == ticket.number

abbrev pub rows_of : Ticket → List Row → List Row
rows_of ticket rows = filter (is_row_of ticket) rows

-- the row is that of a mutant of the plan, with a truth value for each test
pub record IsKnown (bench : BenchFields) (row : Row) : Type 0 where
  pub has : HasMutant bench.plan row.ticket
  pub tests : length row.kills ≡ length bench.tests

-- the ticket of the first row that is of no mutant of the plan, or does not have a truth value
-- for each test
pub record IsFirstStranger (bench : BenchFields) (rows : List Row) (ticket : Ticket) : Type 0 where
  pub before : List Row
  pub row : Row
  pub after : List Row
  pub cut : rows ≡ before ++ row ∷ after
  pub own : row.ticket ≡ ticket
  pub known : All (IsKnown bench) before
  pub unknown : ¬ (IsKnown bench row)

-- no mutant has two rows
abbrev pub NoDouble : PlanFields → List Row → Type 0
NoDouble plan rows = (ticket : Ticket) → HasMutant plan ticket → length (rows_of ticket rows) ≤ 1

-- the ticket of the first row whose ticket an earlier row has
pub record IsFirstDouble (plan : PlanFields) (rows : List Row) (ticket : Ticket) : Type 0 where
  pub before : List Row
  pub row : Row
  pub after : List Row
  pub cut : rows ≡ before ++ row ∷ after
  pub own : row.ticket ≡ ticket
  pub single : NoDouble plan before
  pub there : length (rows_of ticket before) ≡ 1

-- the ticket has a row and was handed out
pub record IsCollected (words : List Word) (rows : List Row) (ticket : Ticket) : Type 0 where
  pub row : 1 ≤ length (rows_of ticket rows)
  pub handed : ticket.number ≤ (operator_word words ticket.op).handed

-- the first mutant of the plan that has no row or was not handed out
pub record IsFirstMissing (plan : PlanFields) (words : List Word) (rows : List Row)
    (ticket : Ticket) : Type 0 where
  pub has : HasMutant plan ticket
  pub missing : ¬ (IsCollected words rows ticket)
  pub others : (other : Ticket)
      → HasMutant plan other → Before other ticket → IsCollected words rows other

-- the row of which an entry is made
abbrev pub row_of : Entry → Row
row_of entry = record { ticket = entry.ticket; kills = entry.kills }

-- One entry for each mutant of the plan, in order: the one row that was
-- given for it, and whether it is declared equivalent. No row is left over.
pub record AreCollected (bench : BenchFields) (words : List Word) (rows : List Row)
    (entries : List Entry) : Type 0 where
  pub known : All (IsKnown bench) rows
  pub tickets : map (λ entry. entry.ticket) entries ≡ tickets_of bench.plan
  pub own : All (λ entry. rows_of entry.ticket rows ≡ row_of entry ∷ []) entries
  pub handed : All
      (λ entry. entry.ticket.number ≤ (operator_word words entry.ticket.op).handed) entries
  pub declared : All (λ entry. IsTrue entry.declared ↔ IsDeclared bench entry.ticket) entries

-- Rule: the score, the report, B7 to B9
-- The faults for which there is no matrix: out of memory; a row that is of no mutant of the
-- plan; else a second row of a mutant; else a mutant that has no row or was not handed out.
abbrev pub IsNoMatrix : BenchFields → List Word → List Row → BenchFault → Type 0
IsNoMatrix bench words rows fault.Memory = ⊤
IsNoMatrix bench words rows (fault.Stranger ticket) = IsFirstStranger bench rows ticket
IsNoMatrix bench words rows (fault.Double ticket) =
    All (IsKnown bench) rows × IsFirstDouble bench.plan rows ticket
IsNoMatrix bench words rows (fault.Missing ticket) = All (IsKnown bench) rows
    × NoDouble bench.plan rows × IsFirstMissing bench.plan words rows ticket
IsNoMatrix bench words rows _ = ⊥
