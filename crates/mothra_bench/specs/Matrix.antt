-- The kill matrix: one entry for each mutant, and its counts.
use Rattle.std.specs.Prelude.{ℕ, ◌-◌, ◌*◌, ◌/◌, ◌==◌, ◌&&◌, Bool, not, List, length}
use Rattle.std.specs.Prelude.{filter, count_by, Option, Some, None, if◌then◌else◌}
use Rattle.std.specs.List.{list_any}
use Rattle.mothra_codes.specs.Op.{index}
use Rattle.mothra_codes.specs.declared.op.Op.{Op}
use Rattle.mothra_bench.specs.declared.matrix.Entry.{Entry}

-- some test kills the mutant (DeMillo, Lipton and Sayward 1978)
abbrev pub is_killed : Entry → Bool
is_killed entry = list_any (λ kill. kill) entry.kills

-- the mutant is declared equivalent and survived
abbrev pub is_equivalent : Entry → Bool
is_equivalent entry = entry.declared && not (is_killed entry)

-- how many mutants there are, how many are killed, how many are equivalent
pub record Counts : Type 0 where
  pub total : ℕ
  pub killed : ℕ
  pub equivalent : ℕ

-- how many entries there are, how many are killed, how many are equivalent
abbrev pub counts : List Entry → Counts
counts entries = record {
  total = length entries;
  killed = count_by is_killed entries;
  equivalent = count_by is_equivalent entries;
}

abbrev pub is_entry_of : Op → Entry → Bool
is_entry_of op entry = index entry.ticket.op == index op

abbrev pub entries_of : Op → List Entry → List Entry
entries_of op entries = filter (is_entry_of op) entries

-- Rule: the score, the report, B7 to B9
-- the mutation score (DeMillo, Lipton and Sayward 1978) in hundredths of
-- a percent, rounded down: killed over mutants that are not equivalent
abbrev pub score_of : Counts → Option ℕ
score_of counts = if counts.total - counts.equivalent == 0
    then None else Some (10000 * counts.killed / (counts.total - counts.equivalent))
