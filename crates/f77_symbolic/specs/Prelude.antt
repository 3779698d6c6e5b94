-- The names that most clauses cite, passed on from one place. It declares nothing.
pub use Rattle.std.specs.List.{list_any}
pub use Rattle.f77_actions.specs.Number.{is_same, is_below}
pub use Rattle.f77_actions.specs.declared.finish.Finish.{Finish}
pub use Rattle.f77_actions.specs.declared.resolved.Resolved.{Resolved}
pub use Rattle.f77_actions.specs.declared.value.Value.{Value}
pub use Rattle.f77_check.specs.Checked.{CheckedFields, IsChecked}
pub use Rattle.f77_code.specs.Evaluation.{calculated, compared, joined, number_in, slot_in, truth_in, held_in}
pub use Rattle.f77_code.specs.Moves.{Cells, state, acted, moved, State, Goes, Ends, TurnList, turn_at, Move}
pub use Rattle.f77_code.specs.declared.control.Place.{Place}
pub use Rattle.f77_code.specs.declared.control.Turn.{Turn}
pub use Rattle.f77_equivalence.specs.Alike.{site, AgreeBut, PassAlike}
pub use Rattle.f77_equivalence.specs.Changed.{IsChange, HoldAlike, IsEnding}
pub use Rattle.f77_equivalence.specs.Equivalent.{IsEquivalentWithin}
pub use Rattle.f77_equivalence.specs.Start.{HoldsStart, start_state}
pub use Rattle.f77_facts.specs.Entries.{GrowsEntries, IsAmong}
pub use Rattle.f77_facts.specs.Facts.{AreIn, SuitsFact, number_of, kind_of_value, Lies}
pub use Rattle.f77_facts.specs.Loops.{AreLeft, SuitsTurn}
pub use Rattle.f77_facts.specs.declared.entries.Entry.{Entry}
pub use Rattle.f77_program.specs.Program.{line_of, LineFields}
pub use Rattle.f77_symbolic.specs.declared.change.Change.{Change}
pub use Rattle.f77_symbolic.specs.declared.evaluator.Atoms.{Atoms}
pub use Rattle.f77_symbolic.specs.declared.evaluator.Evaluator.{Evaluator}
pub use Rattle.f77_symbolic.specs.declared.memory.Location.{Location}
pub use Rattle.f77_symbolic.specs.declared.memory.Symbolic.{Symbolic}
pub use Rattle.f77_symbolic.specs.declared.memory.Write.{Write}
pub use Rattle.f77_symbolic.specs.declared.sides.Side.{Side}
pub use Rattle.f77_symbolic.specs.declared.sides.Step.{Step}
pub use Rattle.f77_symbolic.specs.declared.sides.SymbolicTurn.{SymbolicTurn}
pub use Rattle.f77_symbolic.specs.declared.visiting.Visit.{Visit}
pub use Rattle.f77_symbolic.specs.declared.visiting.Visits.{Visits}
pub use Rattle.f77_symbolic.specs.declared.walking.Pair.{Pair}
pub use Rattle.f77_terms.specs.Atoms.{FitsTable, IsDefined, slot_behind, function_value, key_value, Numbers}
pub use Rattle.f77_terms.specs.Bounds.{AreBelow, HasSign}
pub use Rattle.f77_terms.specs.Paths.{Holds}
pub use Rattle.f77_terms.specs.Ranges.{IsIn, AreKnown}
pub use Rattle.f77_terms.specs.Terms.{Valuation, sum_value}
