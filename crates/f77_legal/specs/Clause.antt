-- The clauses that a single statement keeps or breaks, and the fault of a statement that breaks
-- one.
use Rattle.std.specs.Prelude.{ℕ, Bool, not, List, map, filter}
use Rattle.std.specs.List.{enumerate_from}
use Rattle.f77_program.specs.Program.{LineFields}
use Rattle.f77_tree.specs.Statement.{Statement}
use Rattle.f77_legal.specs.declared.clause.Clause.{Clause}
use Rattle.f77_legal.specs.declared.clause.Clause.TheVariants.{Kinds, Bounds, NamedLabels, Targets}
use Rattle.f77_legal.specs.declared.clause.Clause.TheVariants.{Terminals, Nests, Jumps, Variables}
use Rattle.f77_legal.specs.declared.fault.CheckFault.{CheckFault}
use Rattle.f77_legal.specs.declared.fault.CheckFault.TheVariants.{TypeClash, Dimensions, NoLabel, BadTarget}
use Rattle.f77_legal.specs.declared.fault.CheckFault.TheVariants.{IntoBlock, BadTerminal, Nesting, DoVariable}
use Rattle.f77_legal.specs.Names.{kind_of, bounds_of}
use Rattle.f77_legal.specs.Kinds.{kinds_agree}
use Rattle.f77_legal.specs.Dimensions.{dimensions_fit}
use Rattle.f77_legal.specs.Labels.{names_no_label, jumps_badly, ends_badly}
use Rattle.f77_legal.specs.Loops.{breaks_nesting, jumps_in, sets_variable}

-- the statement, as number i from 0, breaks the clause
abbrev pub breaks : Clause → List LineFields → ℕ → Statement → Bool
breaks Kinds program i statement = not (kinds_agree (kind_of program) statement)
breaks Bounds program i statement = not (dimensions_fit (bounds_of program) statement)
breaks NamedLabels program i statement = names_no_label program statement
breaks Targets program i statement = jumps_badly program statement
breaks Terminals program i statement = ends_badly program statement
breaks Nests program i statement = breaks_nesting program i
breaks Jumps program i statement = jumps_in program i statement
breaks Variables program i statement = sets_variable program i statement

-- the fault of a statement on this line that breaks the clause: C4, C5, or C7 to C12
abbrev pub clause_fault : Clause → ℕ → CheckFault
clause_fault Kinds line = TypeClash line
clause_fault Bounds line = Dimensions line
clause_fault NamedLabels line = NoLabel line
clause_fault Targets line = BadTarget line
clause_fault Terminals line = BadTerminal line
clause_fault Nests line = Nesting line
clause_fault Jumps line = IntoBlock line
clause_fault Variables line = DoVariable line

-- the lines whose statement passes the test; the test gets its number, from 0, too
abbrev pub lines_where : (ℕ → Statement → Bool) → List LineFields → List ℕ
lines_where test program = map (λ numbered. numbered.1.line)
    (filter (λ numbered. test numbered.0 numbered.1.stmt) (enumerate_from 0 program))

-- the faults of a clause, line by line
abbrev pub faults_of : Clause → List LineFields → List CheckFault
faults_of clause program = map (clause_fault clause) (lines_where (breaks clause program) program)
