-- The text of a report, version 2.
use Rattle.std.specs.Prelude.{ℕ, ◌/◌, ◌%◌, ◌==◌, ◌&&◌, Bool, not, List, [], ◌++◌, length, map}
use Rattle.std.specs.Prelude.{filter, flat_map, codes, Option, Some, None, unwrap_or, if◌then◌else◌}
use Rattle.std.specs.Fmt.{decimal}
use Rattle.f77_program.specs.Program.{LineFields}
use Rattle.f77_legal.specs.Names.{unit_name}
use Rattle.mothra_codes.specs.Op.{all_ops, code_of}
use Rattle.mothra_codes.specs.declared.op.Op.{Op}
use Rattle.mothra_ops.specs.Mutants.{mutant_name, mutant_text, program_of}
use Rattle.mothra_ops.specs.Plan.{PlanFields, asked}
use Rattle.mothra_verdicts.specs.Bench.{BenchFields}
use Rattle.mothra_bench.specs.Matrix.{Counts, counts, entries_of, is_killed, score_of}
use Rattle.mothra_bench.specs.declared.matrix.Entry.{Entry}

abbrev pub line : List ℕ → List ℕ
line text = text ++ codes "\n"

abbrev pub named_number : List ℕ → ℕ → List ℕ
named_number name number = name ++ (codes " " ++ decimal number)

-- `UNIT` and the name of the unit
abbrev pub unit_line : List LineFields → List ℕ
unit_line program = line (codes "UNIT " ++ unwrap_or (unit_name program) [])

-- the version, the unit's name, the number of tests, the limit on steps, and q where the plan keeps
-- each q-th item of a list
abbrev pub heading : BenchFields → List ℕ
heading bench =
    line (codes "REPORT 2")
    ++ (unit_line (program_of bench.plan)
    ++ (line (named_number (codes "TESTS") (length bench.tests))
    ++ (line (named_number (codes "STEPS") bench.steps)
    ++ line (named_number (codes "EVERY") bench.plan.every))))

-- a name, and how many mutants there are, how many are killed, how many are equivalent
abbrev pub counts_line : List ℕ → Counts → List ℕ
counts_line name counts = line
    (named_number (named_number (named_number name counts.total) counts.killed) counts.equivalent)

abbrev pub operator_line : List Entry → Op → List ℕ
operator_line entries op = counts_line (code_of op) (counts (entries_of op entries))

-- a line for each operator that the plan was asked for
abbrev pub operator_lines : PlanFields → List Entry → List ℕ
operator_lines plan entries = flat_map (operator_line entries) (filter (asked plan) all_ops)

-- hundredths of a percent as a number with two decimals
abbrev pub score_text : Option ℕ → List ℕ
score_text None = codes "NONE"
score_text (Some score) =
    decimal (score / 100) ++ (codes "." ++ (decimal (score % 100 / 10) ++ decimal (score % 10)))

-- `SCORE`, and the score with two decimals or `NONE`
abbrev pub score_line : Option ℕ → List ℕ
score_line score = line (codes "SCORE " ++ score_text score)

-- K killed, S survived, E declared equivalent and survived, W declared equivalent and killed
abbrev pub status_of : Entry → List ℕ
status_of entry =
    if entry.declared then (if is_killed entry then codes "W" else codes "E")
    else (if is_killed entry then codes "K" else codes "S")

-- the digit 1 for a test that kills, 0 for one that does not
abbrev pub bit_of : Bool → ℕ
bit_of kill = if kill then 49 else 48

-- a digit for each test, in order; - where there are no tests
abbrev pub bits_of : List Bool → List ℕ
bits_of kills = if length kills == 0 then codes "-" else map bit_of kills

abbrev pub entry_name : PlanFields → Entry → List ℕ
entry_name plan entry = mutant_name plan.every entry.ticket.op entry.ticket.number

-- `MUTANT`, the code and the two numbers of the mutant, its status and its bits
abbrev pub mutant_line : PlanFields → Entry → List ℕ
mutant_line plan entry =
    line (codes "MUTANT " ++ (entry_name plan entry
    ++ (codes " " ++ (status_of entry ++ (codes " " ++ bits_of entry.kills)))))

-- the mutant survived and is not declared equivalent
abbrev pub is_survivor : Entry → Bool
is_survivor entry = not entry.declared && not (is_killed entry)

-- `SURVIVOR`, the code and the two numbers of the mutant, and the change that it makes;
-- nothing for a mutant that is killed or declared equivalent
abbrev pub survivor_line : PlanFields → Entry → List ℕ
survivor_line plan entry = if is_survivor entry
    then line (codes "SURVIVOR " ++ mutant_text plan entry.ticket.op entry.ticket.number) else []

-- the mutant is declared equivalent, and a test kills it
abbrev pub is_wrong : Entry → Bool
is_wrong entry = entry.declared && is_killed entry

-- `WRONG` and the code and the two numbers of the mutant; nothing for
-- a mutant that is not declared equivalent or not killed
abbrev pub wrong_line : PlanFields → Entry → List ℕ
wrong_line plan entry =
    if is_wrong entry then line (codes "WRONG " ++ entry_name plan entry) else []

-- a line for each entry, then the survivors, then the mutants that are wrongly declared equivalent
abbrev pub entry_lines : PlanFields → List Entry → List ℕ
entry_lines plan entries =
    flat_map (mutant_line plan) entries
    ++ (flat_map (survivor_line plan) entries ++ flat_map (wrong_line plan) entries)

-- Rule: the score, the report, B7 to B9
-- the whole report
abbrev pub report_text : BenchFields → List Entry → List ℕ
report_text bench entries =
    heading bench
    ++ (operator_lines bench.plan entries
    ++ (counts_line (codes "TOTAL") (counts entries)
    ++ (score_line (score_of (counts entries))
    ++ (entry_lines bench.plan entries ++ line (codes "END")))))
