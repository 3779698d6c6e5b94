-- Which programs are legal: those for which no clause has a fault. Otherwise the first fault is
-- reported, clause by clause, and within a clause in the order of the names, labels or lines.
use Rattle.std.specs.Prelude.{◌≡◌, ◌⊎◌, ◌||◌, ◌∷◌, ◌++◌, if◌then◌else◌}
use Rattle.std.specs.Prelude.{ℕ, Bool, nat_lt, List, [], length, map, filter, Option, Some, is_some, Result, Ok, Err}
use Rattle.std.specs.List.{find, flat_map, sum, slice_get}
use Rattle.f77_program.specs.Program.{LineFields}
use Rattle.f77_tree.specs.Statement.{Statement}
use Rattle.f77_legal.specs.declared.clause.Clause.{Clause}
use Rattle.f77_legal.specs.declared.clause.Clause.TheVariants.{Kinds, Bounds, NamedLabels, Targets}
use Rattle.f77_legal.specs.declared.clause.Clause.TheVariants.{Terminals, Nests, Jumps, Variables}
use Rattle.f77_legal.specs.declared.fault.CheckFault.{CheckFault}
use Rattle.f77_legal.specs.declared.fault.CheckFault.TheVariants.{Memory, RealName, Twice}
use Rattle.f77_legal.specs.declared.fault.CheckFault.TheVariants.{DoubleLabel, BadData, TooMany}
use Rattle.f77_legal.specs.Clause.{breaks, faults_of, lines_where}
use Rattle.f77_legal.specs.Names.{Symbol, symbols, is_real, is_twice, bounds_of, some_items}
use Rattle.f77_legal.specs.Labels.{labels, is_double}
use Rattle.f77_legal.specs.InitialValues.{element_count, has_bad_data}

-- the name is that of an array
abbrev pub is_array : List LineFields → Symbol → Bool
is_array program name = is_some (some_items (bounds_of program name))

-- Rule: C12, C13, C14 (9, 11.10)
-- over 500 statements, 100 variables and arrays, or 10,000 elements over all arrays
abbrev pub is_too_large : List LineFields → Bool
is_too_large program =
    nat_lt 500 (length program)
    || (nat_lt 100 (length (symbols program))
    || nat_lt 10000
    (sum (map (element_count program) (filter (is_array program) (symbols program)))))

-- C2 for each name that is REAL by its first letter, then C3 for each that is declared twice, or is
-- also the name of the unit or of a function
abbrev pub name_faults : List LineFields → List CheckFault
name_faults program = map RealName (filter (is_real program) (symbols program))
    ++ map Twice (filter (is_twice program) (symbols program))

-- the faults of these clauses, clause by clause
abbrev pub clause_faults : List Clause → List LineFields → List CheckFault
clause_faults clauses program = flat_map (λ clause. faults_of clause program) clauses

-- C6 for each label that stands on two statements
abbrev pub label_faults : List LineFields → List CheckFault
label_faults program = map DoubleLabel (filter (is_double program) (labels program))

-- C13 for each line whose DATA statement has a name or a value that may not stand there
abbrev pub data_faults : List LineFields → List CheckFault
data_faults program = map BadData (lines_where (has_bad_data program) program)

-- C14 for a program with too many statements, names or elements
abbrev pub too_large_faults : List LineFields → List CheckFault
too_large_faults program = if is_too_large program then TooMany ∷ [] else []

-- the clauses on expressions, and those on jumps and loops, each in the order of test
abbrev pub expression_clauses : List Clause
expression_clauses = Kinds ∷ (Bounds ∷ [])

abbrev pub control_clauses : List Clause
control_clauses = NamedLabels ∷ (Targets ∷ (Terminals ∷ (Nests ∷ (Jumps ∷ (Variables ∷ [])))))

-- all clauses of statements, in the order of test
abbrev pub clauses : List Clause
clauses = expression_clauses ++ control_clauses

-- the first clause that the statement, as number i from 0, breaks
abbrev pub first_clause : List LineFields → ℕ → Statement → Option Clause
first_clause program i statement = find (λ clause. breaks clause program i statement) clauses

-- the faults of statements and labels, in the order of test; no memory is taken for them
abbrev pub statement_faults : List LineFields → List CheckFault
statement_faults program = clause_faults expression_clauses program
    ++ (label_faults program ++ clause_faults control_clauses program)

-- Rule: C2 to C14, and their order
-- all faults of a program, in the order of test
abbrev pub faults : List LineFields → List CheckFault
faults program =
    name_faults program
    ++ (clause_faults expression_clauses program
    ++ (label_faults program
    ++ (clause_faults control_clauses program
    ++ (data_faults program
    ++ too_large_faults program))))

-- Rule: C2 to C14, and their order
-- the program is legal: no clause has a fault
abbrev pub IsLegal : List LineFields → Type 0
IsLegal program = faults program ≡ []

-- Rule: C2 to C14, and their order
-- the fault that is reported for a program: the first one, if there is any
abbrev pub first_fault : List LineFields → Option CheckFault
first_fault program = slice_get (faults program) 0

-- the call finds no fault where there is none; else it reports the first, or that memory ran out
abbrev pub ReportsFirstFault : Result (Unit {0}) CheckFault → List CheckFault → Type 0
ReportsFirstFault (Ok unit) faults = faults ≡ []
ReportsFirstFault (Err fault) faults = (fault ≡ Memory) ⊎ (slice_get faults 0 ≡ Some fault)
