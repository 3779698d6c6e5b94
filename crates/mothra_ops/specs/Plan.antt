-- A plan: the lists of the operators that were asked for.
use Rattle.std.specs.Prelude.{◌≡◌, ◌<◌, ◌≤◌, ◌==◌, ⊤, ℕ, Bool, true, Option, is_some}
use Rattle.std.specs.Prelude.{List, [], map, filter, find, Contains}
use Rattle.std.specs.Option.{option_map_or}
use Rattle.f77_program.specs.Program.{LineFields, line_of}
use Rattle.f77_check.specs.Checked.{CheckedFields}
use Rattle.mothra_ops.specs.Edits.{IsCountedList, IsList, IsTooLong}
use Rattle.mothra_ops.specs.Listing.{edits_in}
use Rattle.mothra_codes.specs.Op.{all_ops, index}
use Rattle.mothra_ops.specs.declared.edit.Edit.{Edit}
use Rattle.mothra_replacements.specs.declared.fault.OpsFault.{OpsFault}
use Rattle.mothra_replacements.specs.declared.fault.OpsFault.TheVariants.{Memory, NotASite, TooMany}
use Rattle.mothra_ops.specs.declared.listing.Listing.{Listing}
use Rattle.mothra_codes.specs.declared.op.Op.{Op}

-- an operator's list, thinned, and the length of the whole one
pub record ListFields : Type 0 where
  pub op : Op
  pub edits : List Edit
  pub whole : ℕ

-- the checked program, q where each q-th item of a list is kept, and the lists in the order of the
-- operators
pub record PlanFields : Type 0 where
  pub checked : CheckedFields
  pub every : ℕ
  pub lists : List ListFields

abbrev pub list_fields : Listing → ListFields
list_fields listing =
    record { op = listing.op; edits = edits_in listing; whole = listing.whole }

abbrev pub plan_fields : CheckedFields → ℕ → List Listing → PlanFields
plan_fields checked every lists =
    record { checked = checked; every = every; lists = map list_fields lists }

abbrev pub list_of_operator : PlanFields → Op → Option ListFields
list_of_operator plan op = find (λ list. index list.op == index op) plan.lists

-- the plan was asked for the operator
abbrev pub asked : PlanFields → Op → Bool
asked plan op = is_some (list_of_operator plan op)

-- the operator's list, empty where the plan was not asked for it
abbrev pub edits_of : PlanFields → Op → List Edit
edits_of plan op = option_map_or (λ list. list.edits) (list_of_operator plan op) []

-- the length of the operator's whole list
abbrev pub whole_of : PlanFields → Op → ℕ
whole_of plan op = option_map_or (λ list. list.whole) (list_of_operator plan op) 0

-- one list for each operator asked for, in the order of the operators
unfoldable pub HasOneEach : PlanFields → Type 0
HasOneEach plan = map (λ list. list.op) plan.lists ≡ filter (asked plan) all_ops

-- the invariant of a plan: one list for each operator asked for, in the
-- order of the operators, and each is the operator's list for the program
pub record IsPlan (plan : PlanFields) : Type 0 where
  pub some : 1 ≤ plan.every
  pub operators : HasOneEach plan
  pub lists : (op : Op) → asked plan op ≡ true
      → IsCountedList op (map line_of plan.checked.program) plan.every
      (edits_of plan op) (whole_of plan op)

-- the operator is the first of those asked for whose list is too long
pub record IsFirstTooLong (ops : List Op) (program : List LineFields) (every : ℕ)
    (op : Op) : Type 0 where
  pub asked : Contains ops op
  pub long : IsTooLong op program every
  pub others : (other : Op) → Contains ops other
      → index other < index op → (edits : List Edit) × IsList other program every edits

-- Rule: a mutant, lists, O3
-- the faults for which there is no plan
abbrev pub IsNoPlan : List Op → List LineFields → ℕ → OpsFault → Type 0
IsNoPlan ops program every Memory = ⊤
IsNoPlan ops program every NotASite = ⊥
IsNoPlan ops program every (TooMany op) = IsFirstTooLong ops program every op
