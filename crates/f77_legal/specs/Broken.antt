-- What is found of a statement by itself.
use Rattle.std.specs.Prelude.{Bool, true, false, Option, Some, None}
use Rattle.f77_legal.specs.declared.broken.Broken.{Broken}
use Rattle.f77_legal.specs.declared.broken.Broken.TheVariants.{First, UnknownName}
use Rattle.f77_legal.specs.declared.clause.Clause.{Clause}

-- the table has each name of the statement
abbrev pub has_known_names : Broken → Bool
has_known_names UnknownName = false
has_known_names _ = true

-- the first clause in the order of test that the statement breaks, if it breaks one
abbrev pub clause_found : Broken → Option Clause
clause_found (First clause) = Some clause
clause_found _ = None
