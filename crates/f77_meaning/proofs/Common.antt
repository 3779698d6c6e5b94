-- The names that most proofs cite, passed on from one place. It declares nothing.
pub use Rattle.std.proofs.Common.{List, ℕ, ◌≡◌, refl, Some, true, ap, arith, ◌∙◌, None, false, [], sym, ◌∷◌, Bool, Option, suc, length, zero, ◌<◌, ◌+◌, inr}
pub use Rattle.std.proofs.Common.{inl, subst, option_map, ℤ, ◌≤◌, slice_get, if◌then◌else◌, pos, Err, Ok, Result, negsuc, ◌==◌, map, nat_lt, ◌&&◌, ◌-◌, ◌||◌}
pub use Rattle.std.proofs.Common.{IsSome, is_some, lt-ltb, not, ◌+ℤ◌, MatchOption, position, slice_set, eqb-true, ◌⊎◌, cond, get_or, le-ltb, ltb-true, nat_le}
pub use Rattle.std.proofs.Common.{◌++◌, ◌≢◌, eq-eqb, filter, length-append, length-set, take, le-leb, reverse, ◌*◌, IfOk, ext_get_or, replicate, add-one, codes}
pub use Rattle.std.proofs.Common.{drop, drop-cons, drop-drop, get_or-set_other, get_or-set_same, leb-true, ltb-false, ne_eqb, take_all, true≢false, unwrap_or}
pub use Rattle.std.proofs.Common.{◌^◌}
pub use Rattle.std.proofs.lemmas.Bool.{and_parts, cases_lt, and_from, or_left, or_right, or_parts, and_left, or_cases, false≢true, not-true, or_from, and_right}
pub use Rattle.std.proofs.lemmas.Bool.{cases_eq, cases_order, eqb-false, false_from_ne_true, not_from_false}
pub use Rattle.std.proofs.lemmas.Bool.Decides.{nat_tests}
pub use Rattle.std.proofs.lemmas.List.{length-map, reverse-append, get_or-replicate, get_or_append_left, get_or_push, length-replicate, map-append}
pub use Rattle.std.proofs.lemmas.List.Elements.{filter-append}
pub use Rattle.std.proofs.lemmas.List.Folds.{list_any-append, list_all-append}
pub use Rattle.std.proofs.lemmas.List.Quantifiers.{position-Some}
pub use Rattle.std.proofs.lemmas.Option.{get_or_from_slice_get, option_and_then_some, same_Some, slice_get_past, slice_get_within, slice_get-get_or}
pub use Rattle.std.proofs.lemmas.Option.{slice_get-map, slice_get_read, unwrap_or-slice_get}
pub use Rattle.std.proofs.lemmas.Slice.Eq.{bytes_eq-Decides}
pub use Rattle.std.specs.Cmp.{both_ways}
pub use Rattle.std.specs.List.{list_any, list_all, zip, flat_map, position_or_len, starts_with}
pub use Rattle.std.specs.Option.{option_map_or, option_and_then}
pub use Rattle.std.specs.Str.{bytes_eq}
pub use Rattle.f77_actions.specs.Number.{in_range, trip_count, greatest, least, called, fits, is_below, modulus, signed, without_sign}
pub use Rattle.f77_actions.specs.Value.{given, element, both, whole, logic, pushed}
pub use Rattle.f77_actions.specs.declared.action.Action.{Loop, Action, ArithmeticIf, AssignNumber, AssignTruth, Branch, ComputedGoto, Continue, Declaration}
pub use Rattle.f77_actions.specs.declared.action.Action.{Goto, LogicalIf', Return, Stop, Trap}
pub use Rattle.f77_actions.specs.declared.action.Jump.{Jump}
pub use Rattle.f77_actions.specs.declared.expression.Element.{Variable, Element, Matrix', Vector'}
pub use Rattle.f77_actions.specs.declared.expression.Number.{Number, Absolute', Binary', Constant, Negated', TooLarge, ZeroPush'}
pub use Rattle.f77_actions.specs.declared.finish.Fault.{Fault}
pub use Rattle.f77_actions.specs.declared.finish.Fault.TheVariants.{ZeroStep, Trapped, BadSubscript, DivideByZero, Overflow, Undefined, ZeroPower}
pub use Rattle.f77_actions.specs.declared.finish.Finish.{Finish}
pub use Rattle.f77_actions.specs.declared.finish.Finish.TheVariants.{StepLimit, Failed, Returned, Stopped}
pub use Rattle.f77_actions.specs.declared.resolved.Resolved.{Resolved}
pub use Rattle.f77_actions.specs.declared.value.Value.{Value}
pub use Rattle.f77_check.specs.Action.{IsAction, IsJump, AreJumps, IsAssignment, IsIncrementation}
pub use Rattle.f77_check.specs.Checked.{shapes, shape_of, CheckedFields, IsChecked}
pub use Rattle.f77_check.specs.Expression.{IsElement, IsChosen, IsCondition, IsNumber}
pub use Rattle.f77_check.specs.Resolved.{AreResolved, IsResolved}
pub use Rattle.f77_check.specs.Slots.{slot_count, first_slot, slot_kinds}
pub use Rattle.f77_code.specs.Choice.{item_chosen, by_sign}
pub use Rattle.f77_code.specs.Evaluation.{held_in, number_in, number_within, slot_in, condition_within, element_within, truth_in, calculated, compared, joined}
pub use Rattle.f77_code.specs.Moves.{Cells, State, TurnList, turn_at, Move, state, incremented, is_loop, used, without, acted, are_below, begun, go_on}
pub use Rattle.f77_code.specs.Moves.{is_executed, jump_chosen, jump_to, moved, passing, passing_at, innermost, place_behind}
pub use Rattle.f77_legal.proofs.Actions.{inner_acts}
pub use Rattle.f77_legal.proofs.Branches.{found_is, found_some}
pub use Rattle.f77_legal.proofs.Flow.{some_branch, some_terminal, are_nested, some_place}
pub use Rattle.f77_legal.proofs.LegalGives.{kept_by, clause_kept, not_false, some_of, any_false, alternative_closes, alternative_in_block, map_none}
pub use Rattle.f77_legal.proofs.LegalGives.{none_before, none_behind}
pub use Rattle.f77_legal.specs.Blocks.{first_numbers, branch_end, has_at, is_alternative, block_end, is_end_if, is_level, statement_behind, begins_branch}
pub use Rattle.f77_legal.specs.Blocks.{branch_holds, is_block_if, count_between, is_in_block, statement_numbers}
pub use Rattle.f77_legal.specs.Heading.{dummies, dummies_of}
pub use Rattle.f77_legal.specs.InitialValues.{product, element_count}
pub use Rattle.f77_legal.specs.Labels.{nth_statement, label_place, terminal_label, bears, is_terminal, statement_with, is_target}
pub use Rattle.f77_legal.specs.Legal.{IsLegal, name_faults}
pub use Rattle.f77_legal.specs.Loops.{terminal, range_holds, ends_at, is_left, branches, enclosing, ends_outside, goes_in, left_by, same_numbers}
pub use Rattle.f77_legal.specs.Names.{Symbol, bounds_of, kind_of, some_items, symbols, Dummy, NameUse, dummies_given, is_real, is_twice, name_in, names_once}
pub use Rattle.f77_legal.specs.Names.{uses, uses_of}
pub use Rattle.f77_legal.specs.declared.clause.Clause.TheVariants.{Terminals, Bounds, Kinds, Targets}
pub use Rattle.f77_meaning.specs.{Store, values_of, store_with, place, number, truth, value, IsOutcome, Comes, IsStart, AreFitting, placed_in_run, start_values}
pub use Rattle.f77_meaning.specs.{values_in, AreArguments, has_shape, AreActive, Reaches, Reports, all_filled, constant_value, is_count, is_single, size_of}
pub use Rattle.f77_meaning.specs.{ActiveByPlace, AreSameBut, ComesBack, IsReached, LeadsOn, MayBeAnother, MeetsLimits, OneAnswer, OneOutcome, OneSuccessor}
pub use Rattle.f77_meaning.specs.{Starts, argument_values, arithmetic, connected, filled, held, is_active_at, numbers, related, statement_number}
pub use Rattle.f77_meaning.specs.Step.{Config, config, Execute, Next, Goes, GoesOn, Turns, with_turn, Begins, Increment, Increments, Passes, Place, Turn, With}
pub use Rattle.f77_meaning.specs.Step.{step_number, Either, Executes, Jumps, StepAt, Ends, Skips, Step, left_behind, IsInnermost}
pub use Rattle.f77_meaning.specs.code.{IsTyped, AllHold, HasValues, RunSite, has_kind, span, AreWithin, HaveRoom, site_of}
pub use Rattle.f77_meaning.specs.declared.argument.Arg.{Arg}
pub use Rattle.f77_program.specs.Formed.{is_action}
pub use Rattle.f77_program.specs.Program.{LineFields, IsProgram, line_of}
pub use Rattle.f77_tree.specs.Statement.{Statement, is_executable_statement, jumps_of}
pub use Rattle.f77_tree.specs.Tree.{Tree, Trees}
pub use Rattle.f77_tree.specs.declared.intrinsic.Intrinsic.TheVariants.{Mod, Iabs, Max0, Min0}
pub use Rattle.f77_tree.specs.declared.tree.Kind.{Kind}
pub use Rattle.f77_tree.specs.declared.tree.Kind.TheVariants.{Integer, Logical}
