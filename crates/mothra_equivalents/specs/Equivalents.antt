-- The mutants of a plan that no test can kill, and what is told of others.
use Rattle.std.specs.Prelude.{◌≡◌, ◌≢◌, ◌≤◌, ℕ, All, AllPairs, IsSome, List, [], Option, Some, None, length}
use Rattle.f77_program.specs.Patching.{patched}
use Rattle.f77_equivalence.specs.Equivalent.{IsEquivalentWithin}
use Rattle.f77_meaning.specs.Interpreter.{AreFitting}
use Rattle.mothra_codes.specs.Ticket.{Before}
use Rattle.mothra_ops.specs.Mutants.{MutantFields, mutant_of, program_of}
use Rattle.mothra_ops.specs.Plan.{PlanFields}
use Rattle.mothra_equivalents.specs.declared.equivalents.Equivalent.{Equivalent}
use Rattle.mothra_equivalents.specs.declared.unproved.Unproved.{Unproved}

-- Rule: equivalent mutants
-- The mutant is one of the plan, and is equivalent as it is named: where the program returns or
-- stops, it comes to the same under a limit that spares so many steps; under the same, if none.
pub record IsNamed (plan : PlanFields) (named : Equivalent) : Type 0 where
  pub mutant : MutantFields
  pub is : mutant_of plan named.ticket.op named.ticket.number ≡ Some mutant
  pub within : IsEquivalentWithin named.spare (program_of plan)
      (patched (program_of plan) mutant.number mutant.statement)

-- the mutants are equivalent, each as it is named; they stand by operator, then number, each once
pub record AreEquivalents (plan : PlanFields) (list : List Equivalent) : Type 0 where
  pub ordered : AllPairs (λ one other. Before one.ticket other.ticket) list
  pub each : All (IsNamed plan) list

-- the mutant is one of the plan; its rows fit the dummy arguments, they
-- differ, and there are at most so many
pub record IsUnprovedOf (plan : PlanFields) (most : ℕ) (one : Unproved) : Type 0 where
  pub planned : IsSome (mutant_of plan one.ticket.op one.ticket.number)
  pub fit : All (AreFitting plan.checked.arguments) one.rows.items
  pub differ : AllPairs (λ row other. row ≢ other) one.rows.items
  pub few : length one.rows.items ≤ most

-- Rule: what `equivalents` writes
-- such mutants by operator, then number, each once, none of which
-- is named; none where no rows are asked for
abbrev pub AreUnprovedFor : PlanFields → List Equivalent → Option ℕ → List Unproved → Type 0
AreUnprovedFor plan list None others = others ≡ []
AreUnprovedFor plan list (Some most) others = All (IsUnprovedOf plan most) others
    × AllPairs (λ one other. Before one.ticket other.ticket) others
    × All (λ one. All (λ named. named.ticket ≢ one.ticket) list) others
