-- Which statements may stand in a logical IF.
use Rattle.std.specs.Prelude.{Bool}
use Rattle.f77_tree.specs.Form.{acts}
use Rattle.f77_tree.specs.Statement.{Statement, form_of}

-- the statement may stand in a logical IF (ANSI X3.9-1978, 11.5)
abbrev pub is_action : Statement → Bool
is_action statement = acts (form_of statement)
