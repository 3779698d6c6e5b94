-- The names that most proofs cite, passed on from one place. It declares nothing.
pub use Rattle.std.proofs.Common.{◌≡◌, sym, length, arith, ◌-◌, List, ap, ℕ, map, option_map, inr, ◌+◌, subst, ◌∙◌, ◌<◌, slice_get, slice_set, inl, zero}
pub use Rattle.std.proofs.Common.{suc, Some, refl, ◌≤◌, ◌∷◌, Option, None, ℤ, replicate, true, false, [], ◌≢◌, pos, negsuc}
pub use Rattle.std.proofs.Common.{◌+ℤ◌, if◌then◌else◌}
pub use Rattle.std.proofs.lemmas.Bool.{and_parts, eqb-true, cases_eq, cases_lt}
pub use Rattle.std.proofs.lemmas.Option.{same_Some}
pub use Rattle.std.specs.List.{zip, list_all}
pub use Rattle.std.specs.Option.{option_and_then}
pub use Rattle.f77_actions.specs.declared.finish.Finish.{Finish}
pub use Rattle.f77_actions.specs.declared.resolved.Resolved.{Resolved}
pub use Rattle.f77_check.specs.Checked.{CheckedFields, IsChecked, shapes}
pub use Rattle.f77_code.specs.Evaluation.{held_in, number_in, truth_in}
pub use Rattle.f77_code.specs.Moves.{Cells, turn_at, Move, Goes, Ends, TurnList, state, used, jump_chosen, acted, begun, incremented, go_on}
pub use Rattle.f77_code.specs.Moves.{moved, is_executed, is_loop, State}
pub use Rattle.f77_code.specs.Sequences.{moved_by}
pub use Rattle.f77_code.specs.declared.control.Place.TheVariants.{Execute, Increment}
pub use Rattle.f77_equivalence.specs.{start_state, AreStorable, IsChange, start_turns, HoldAlike, IsEnding, is_storable}
pub use Rattle.f77_equivalence.specs.{AgreeBut, PassAlike, site}
pub use Rattle.f77_equivalence.specs.code.{facts_given}
pub use Rattle.f77_facts.specs.Facts.{AreIn, SuitsFact}
pub use Rattle.f77_facts.specs.Loops.{AreLeft, SuitsTurn}
pub use Rattle.f77_facts.specs.declared.loops.LoopFact.TheVariants.{Inactive}
pub use Rattle.f77_legal.specs.Names.{bounds_of, kind_of}
pub use Rattle.f77_meaning.proofs.InRun.{IsRunningIn, stands_for, values_at}
pub use Rattle.f77_meaning.specs.Control.{Comes}
pub use Rattle.f77_meaning.specs.Interpreter.{AreFitting, IsEnd, values_in, has_shape, IsOutcomeOf, Reports}
pub use Rattle.f77_meaning.specs.Spans.{all_filled, filled, size_of}
pub use Rattle.f77_meaning.specs.Start.{IsStart, constant_value, argument_values}
pub use Rattle.f77_meaning.specs.code.Running.{site_of, RunSite}
pub use Rattle.f77_meaning.specs.declared.argument.Arg.{Arg}
pub use Rattle.f77_program.specs.Program.{line_of, LineFields}
