-- The names that most clauses cite, passed on from one place. It declares nothing.
pub use Rattle.std.specs.List.{zip, list_all}
pub use Rattle.f77_actions.specs.declared.resolved.Resolved.{Resolved}
pub use Rattle.f77_actions.specs.declared.value.Value.{Value}
pub use Rattle.f77_check.specs.Checked.{CheckedFields, IsChecked, shapes}
pub use Rattle.f77_check.specs.declared.checked.Shape.{Shape}
pub use Rattle.f77_code.specs.Moves.{Cells, TurnList, go_on, passing_at, State, state}
pub use Rattle.f77_facts.specs.Facts.{AreIn, SuitsFact}
pub use Rattle.f77_meaning.specs.Interpreter.{AreFitting, IsEnd, IsOutcomeOf, values_in}
pub use Rattle.f77_meaning.specs.Reached.{statement_number, AreSameBut}
pub use Rattle.f77_meaning.specs.Spans.{all_filled, size_of}
pub use Rattle.f77_meaning.specs.Start.{constant_value, argument_values}
pub use Rattle.f77_meaning.specs.declared.argument.Arg.{Arg}
