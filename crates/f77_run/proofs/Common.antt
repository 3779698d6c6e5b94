-- The names that most proofs cite, passed on from one place. It declares nothing.
pub use Rattle.std.proofs.Common.{◌≡◌, length, sym, ◌∙◌, ap, subst, List, arith, refl, ◌<◌, ℕ, Some, true, [], map, ◌∷◌, ◌++◌, None, ◌≤◌, ℤ, ◌+◌, Bool, drop}
pub use Rattle.std.proofs.Common.{Option, rules, slice_get, suc, get_or, take, zero, ◌-◌, false, FitsSigned, option_map, pos, length-append, if◌then◌else◌}
pub use Rattle.std.proofs.Common.{replicate, slice_set, w64, ◌&&◌, ◌⊎◌, IfSome, inr, length-set, true≢false, w32, inl, take_all, ◌||◌, append-nil, append_assoc}
pub use Rattle.std.proofs.Common.{eq-eqb, length-drop, min, not, take-append-drop, unwrap_or, ◌==◌, IsSome, Ok, Vec, cond, eqb-true, ext_get_or, get_or-drop}
pub use Rattle.std.proofs.Common.{is_some, length-take-le, lt-ltb, nat_lt, negsuc, of_z, tests, to_z, zero-add, ◌*◌, ◌≢◌}
pub use Rattle.std.proofs.Math.Seq.{drop-append_seam, take-append-add, take-append_seam}
pub use Rattle.std.proofs.lemmas.Bool.{and_parts, and_from, cases_lt, false≢true, or_parts}
pub use Rattle.std.proofs.lemmas.Int.{to_z-of_z}
pub use Rattle.std.proofs.lemmas.List.{length-map, take_more, with_items_is, drop_all, drop_more, get_or-map, map-append, length-replicate, set-append_left}
pub use Rattle.std.proofs.lemmas.List.Folds.{list_all-append, list_all_more}
pub use Rattle.std.proofs.lemmas.Option.{same_Some, slice_get_within, slice_get-get_or, get_or_from_slice_get, slice_get-map, slice_get_past, slice_get_read}
pub use Rattle.std.proofs.lemmas.Slice.Zip.{zip_end, zip_turn, length-zip, AllZip-long}
pub use Rattle.std.specs.Bool.{Decides}
pub use Rattle.std.specs.List.{list_all, zip, list_any, All, SameBelow}
pub use Rattle.std.specs.Option.{option_and_then}
pub use Rattle.std.specs.Str.{bytes_eq}
pub use Rattle.f77_actions.specs.Encoded.{coded, is_fitting}
pub use Rattle.f77_actions.specs.Number.{fits}
pub use Rattle.f77_actions.specs.declared.action.Action.{Action, Loop, ArithmeticIf, AssignNumber, AssignTruth, Branch, ComputedGoto, Continue, Declaration}
pub use Rattle.f77_actions.specs.declared.action.Action.{Goto, LogicalIf', Return, Stop, Trap}
pub use Rattle.f77_actions.specs.declared.finish.Finish.{Finish}
pub use Rattle.f77_actions.specs.declared.finish.Finish.TheVariants.{StepLimit, Failed, Returned, Stopped}
pub use Rattle.f77_actions.specs.declared.resolved.Resolved.{Resolved}
pub use Rattle.f77_actions.specs.declared.value.Value.{Value}
pub use Rattle.f77_check.specs.Action.{IsAction, AreJumps, IsAssignment, IsIncrementation, IsJump}
pub use Rattle.f77_check.specs.Checked.{CheckedFields, IsChecked, shapes, shape_of}
pub use Rattle.f77_check.specs.Resolved.{AreResolved, IsResolved}
pub use Rattle.f77_check.specs.Slots.{slot_count, slot_kinds, first_slot}
pub use Rattle.f77_check.specs.declared.checked.Shape.{Shape}
pub use Rattle.f77_code.proofs.Listed.{all_at, one_if, get_behind, get_left, item_at, order, set_here}
pub use Rattle.f77_code.specs.Block.{code_after, code_within, one}
pub use Rattle.f77_code.specs.Compiled.{are_ready, is_ready, HasOneFrame}
pub use Rattle.f77_code.specs.Evaluation.{held_in, condition_within, number_within}
pub use Rattle.f77_code.specs.Follow.{HasSizes, first_time, AreNone, ArePassed, HaveSizes, IsPassed}
pub use Rattle.f77_code.specs.Holds.{loop_count, read_as, HoldsRegisters, HoldsCounters, Plan, AreSlots, IsSlot, do_rank, is_loop_at}
pub use Rattle.f77_code.specs.Instructions.{AreCode, place_at}
pub use Rattle.f77_code.specs.Moves.{Cells, State, is_loop, Ends, Goes, Move, TurnList, are_below, state, turn_at}
pub use Rattle.f77_code.specs.Operation.{Point, point, ended_point}
pub use Rattle.f77_code.specs.Places.{have_places, has_places}
pub use Rattle.f77_code.specs.Program.{IsCode}
pub use Rattle.f77_code.specs.Registers.{are_held, is_held, decoded, decoded_at, register}
pub use Rattle.f77_code.specs.Replacing.{own_instructions, HaveOneDo, HaveOneOwn, IsAllOwn, IsChangedCode, MayReplace, put_back}
pub use Rattle.f77_code.specs.Together.{AgreeButAt, AreTimes, KeptTime, MayDiverge, TwoRuns, time_of}
pub use Rattle.f77_code.specs.declared.code.Code.{Code}
pub use Rattle.f77_code.specs.declared.constants.Constants.{Constants}
pub use Rattle.f77_code.specs.declared.control.Turn.{Turn}
pub use Rattle.f77_code.specs.declared.instruction.Instruction.{Instruction}
pub use Rattle.f77_legal.proofs.SameFrame.{length_same, behind_same, loops_ending_same, terminal_label_same, terminal_same}
pub use Rattle.f77_legal.specs.Blocks.{first_numbers, block_end, branch_end, has_at, is_alternative, is_end_if, is_level, statement_behind}
pub use Rattle.f77_legal.specs.Heading.{dummies}
pub use Rattle.f77_legal.specs.InitialValues.{element_count, product}
pub use Rattle.f77_legal.specs.Labels.{nth_statement, bears, terminal_label}
pub use Rattle.f77_legal.specs.Legal.{IsLegal, is_too_large, too_large_faults}
pub use Rattle.f77_legal.specs.Names.{kind_of, bounds_of, Symbol}
pub use Rattle.f77_meaning.proofs.Beginning.{dummies_read, both_ok, dummies_hold, dummies_within, empty_size, filled_size, room, room_of, state_starts}
pub use Rattle.f77_meaning.proofs.InRun.{AgreeOnDummies, IsRunningIn, ComesToCells, ComesToEnd, stands_for, values_at}
pub use Rattle.f77_meaning.proofs.OneAnswer.{one_answer, outcome_once}
pub use Rattle.f77_meaning.proofs.Simulation.{statement_of, legal_fits, no_bounds}
pub use Rattle.f77_meaning.proofs.SlotKinds.{kinds_count, kind_read}
pub use Rattle.f77_meaning.proofs.Typing.{outcome_typed, first_place, start_typed}
pub use Rattle.f77_meaning.specs.Interpreter.{AreFitting, values_in, IsOutcomeOf, Reports, has_shape, AreArguments, fault_outcome, first_misfit, refusal}
pub use Rattle.f77_meaning.specs.Site.{held}
pub use Rattle.f77_meaning.specs.Spans.{size_of, all_filled, filled}
pub use Rattle.f77_meaning.specs.Start.{constant_value, IsStart}
pub use Rattle.f77_meaning.specs.Value.{Store}
pub use Rattle.f77_meaning.specs.code.Spans.{HaveRoom, span, AllHold, AreWithin}
pub use Rattle.f77_meaning.specs.code.Typed.{IsTyped, has_kind, HasValues}
pub use Rattle.f77_meaning.specs.declared.argument.Arg.{Arg}
pub use Rattle.f77_meaning.specs.declared.outcome.Outcome.{Outcome}
pub use Rattle.f77_program.specs.Program.{line_of, LineFields, IsProgram}
pub use Rattle.f77_run.specs.{loaded, AreAtStart, counters_of, AreLoaded, cells_at_start, values_fit, IsFollowed, IsChanged, changed_fields, ChangedFields}
pub use Rattle.f77_run.specs.{IsImage, IsAtStart, IsChangeMade, changed_program, counter_of}
pub use Rattle.f77_run.specs.code.{shown_cells, HoldDummies, RunOf, shown_as, AreHeld, CameBack, HasCode, ReportsOf, plan_of, shown_by, stands_at, IsDivergence}
pub use Rattle.f77_run.specs.code.{Leads, divergence_of, HasEnded, IsRun, ShowsEnd, site_in, within_registers, BeginsImage, CanReplace, Divergence, IsHeld}
pub use Rattle.f77_run.specs.code.{outcome_values}
pub use Rattle.f77_run.specs.declared.changed.Change.{Change}
pub use Rattle.f77_run.specs.declared.registers.Registers.{Registers}
pub use Rattle.f77_run.specs.declared.visits.Visits.{Visits}
pub use Rattle.f77_tree.specs.Statement.{Statement}
pub use Rattle.f77_tree.specs.declared.tree.Kind.{Kind}
pub use Rattle.f77_tree.specs.declared.tree.Kind.TheVariants.{Integer, Logical}
