-- What a legal program keeps, without a list of faults.
use Rattle.std.specs.Prelude.{◌≡◌, ℕ, false, List, Some}
use Rattle.std.specs.List.{All}
use Rattle.f77_program.specs.Program.{LineFields}
use Rattle.f77_tree.specs.Statement.{Statement}
use Rattle.f77_legal.specs.declared.clause.Clause.{Clause}
use Rattle.f77_legal.specs.Clause.{breaks}
use Rattle.f77_legal.specs.Labels.{labels, nth_statement, is_double}
use Rattle.f77_legal.specs.Legal.{is_too_large}
use Rattle.f77_legal.specs.Names.{symbols, is_real, is_twice}
use Rattle.f77_legal.specs.InitialValues.{has_bad_data}

-- Rule: C2 to C14, and their order
-- The program keeps every rule: no statement breaks a clause, and its names, labels, DATA
-- statements and sizes are right.
pub record KeepsEveryRule (program : List LineFields) : Type 0 where
  -- no name is REAL by its first letter
  pub typed : All (λ name. is_real program name ≡ false) (symbols program)
  -- no name is typed, given bounds or a dummy argument twice, or is also the name of the unit or of
  -- a function
  pub once : All (λ name. is_twice program name ≡ false) (symbols program)
  -- no label stands on two statements
  pub distinct : All (λ label. is_double program label ≡ false) (labels program)
  -- no statement breaks a clause
  pub statements : (clause : Clause) (i : ℕ) (statement : Statement)
      → nth_statement program i ≡ Some statement
      → breaks clause program i statement ≡ false
  -- no DATA statement has a dummy argument, or a name that stood in DATA before, or other values
  -- than its names need
  pub initial_values : (i : ℕ) (statement : Statement)
      → nth_statement program i ≡ Some statement → has_bad_data program i statement ≡ false
  -- at most 500 statements, 100 variables and arrays, and 10,000 elements over all arrays
  pub sizes : is_too_large program ≡ false
