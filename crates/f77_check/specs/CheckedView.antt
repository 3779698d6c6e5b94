-- The view of a checked program.
use Rattle.std.specs.Prelude.{List}
use Rattle.indexmap.specs.IndexMap.{keys}
use Rattle.f77_program.specs.declared.program.Line.{Line}
use Rattle.f77_check.specs.Checked.{CheckedFields}
use Rattle.f77_check.specs.declared.checked.Shape.{Shape}
use Rattle.f77_check.specs.declared.resolve.Resolver.{Resolver}
use Rattle.f77_actions.specs.declared.resolved.Resolved.{Resolved}
use Rattle.f77_check.specs.declared.start.Start.{Start}

-- the view of a checked program, from its fields
abbrev pub checked_fields : List Line
    → List Shape → Resolver → List Resolved → Start → CheckedFields
checked_fields program arguments resolver statements start = record {
  program = program;
  arguments = arguments;
  names = keys resolver.tables.names.facts;
  slots = resolver.slots.count;
  statements = statements;
  start = start;
}
