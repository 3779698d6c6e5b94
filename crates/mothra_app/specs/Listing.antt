-- The command `list`: the mutants of the program of a job.
use Rattle.std.specs.Prelude.{◌≡◌, ℕ, List, ◌++◌, Result, Ok, codes, filter, flat_map, length, map, sum}
use Rattle.std.specs.Fmt.{decimal}
use Rattle.std.specs.List.{enumerate_from}
use Rattle.f77_program.specs.Program.{LineFields}
use Rattle.mothra_app.specs.Stages.{InTurn}
use Rattle.mothra_app.specs.Program.{IsPlanned}
use Rattle.mothra_app.specs.declared.fault.Fault.{Fault}
use Rattle.mothra_codes.specs.Op.{all_ops, code_of}
use Rattle.mothra_codes.specs.declared.op.Op.{Op}
use Rattle.mothra_job.specs.Job.{JobFields}
use Rattle.mothra_ops.specs.Mutants.{edit_text, program_of}
use Rattle.mothra_ops.specs.Plan.{PlanFields, asked, edits_of}
use Rattle.mothra_ops.specs.declared.edit.Edit.{Edit}

-- ---- the lines

-- the code of an operator, and how many mutants it has
abbrev pub count_line : Op → ℕ → List ℕ
count_line op count = code_of op ++ (codes " " ++ (decimal count ++ codes "\n"))

-- the line of a mutant: its number and its edit
abbrev pub listed_line : List LineFields → ℕ → Op → ℕ × Edit → List ℕ
listed_line program every op numbered =
    edit_text program every op numbered.0 numbered.1 ++ codes "\n"

-- the lines of an operator with these edits: how many there are, then each with its number, from 1
abbrev pub listing_lines : List LineFields → ℕ → Op → List Edit → List ℕ
listing_lines program every op edits =
    count_line op (length edits) ++ flat_map (listed_line program every op) (enumerate_from 1 edits)

-- how many mutants there are in all
abbrev pub total_line : ℕ → List ℕ
total_line count = codes "TOTAL " ++ (decimal count ++ codes "\n")

-- ---- of a plan

abbrev pub plan_lines : PlanFields → Op → List ℕ
plan_lines plan op = listing_lines (program_of plan) plan.every op (edits_of plan op)

-- the operators that the plan was asked for, in the order of the operators
abbrev pub asked_ops : PlanFields → List Op
asked_ops plan = filter (asked plan) all_ops

abbrev pub asked_lines : PlanFields → List ℕ
asked_lines plan = flat_map (plan_lines plan) (asked_ops plan)

-- how many mutants the operators that the plan was asked for have
abbrev pub asked_total : PlanFields → ℕ
asked_total plan = sum (map (λ op. length (edits_of plan op)) (asked_ops plan))

abbrev pub plan_text : PlanFields → List ℕ
plan_text plan = asked_lines plan ++ total_line (asked_total plan)

abbrev pub IsListOf : PlanFields → Result (List ℕ) Fault → Type 0
IsListOf plan text = text ≡ Ok (plan_text plan)

-- Rule: the four commands
-- the outcome of `list` for these operators, where every q-th item of their lists is kept, and q is
-- `every`
abbrev pub IsListed : JobFields → List Op → ℕ → Result (List ℕ) Fault → Type 0
IsListed job ops every = InTurn (IsPlanned job.source ops every) IsListOf
