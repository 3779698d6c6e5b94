-- The names that most clauses cite, passed on from one place. It declares nothing.
pub use Rattle.f77_actions.specs.declared.value.Value.{Value}
pub use Rattle.f77_code.specs.Moves.{Cells, TurnList}
pub use Rattle.f77_code.specs.declared.control.Turn.{Turn}
pub use Rattle.f77_facts.specs.declared.facts.Fact.{Fact}
pub use Rattle.f77_facts.specs.declared.loops.LoopFact.{LoopFact}
pub use Rattle.f77_terms.specs.Ranges.{IsIn}
