-- A run of a program whose names have slots.
-- Private functions and proofs alone cite what stands here.
use Rattle.std.specs.Prelude.{List, map}
use Rattle.f77_program.specs.Program.{line_of}
use Rattle.f77_check.specs.Checked.{CheckedFields}
use Rattle.f77_meaning.specs.declared.argument.Arg.{Arg}
use Rattle.f77_meaning.specs.Interpreter.{values_in}
use Rattle.f77_program.specs.Program.{LineFields}
use Rattle.f77_legal.specs.Names.{Symbol}
use Rattle.f77_actions.specs.declared.value.Value.{Value}

-- a program, its names in the order of their slots, and the values of its dummy arguments
pub record RunSite : Type 0 where
  pub program : List LineFields
  pub names : List Symbol
  pub given : List (List Value)

-- a checked program with values of its dummy arguments
abbrev pub site_of : CheckedFields → List Arg → RunSite
site_of checked arguments = record {
  program = map line_of checked.program;
  names = checked.names;
  given = map values_in arguments;
}
