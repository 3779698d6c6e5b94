-- The names that most proofs cite, passed on from one place. It declares nothing.
pub use Rattle.std.proofs.Common.{◌≡◌, ◌∙◌, ap, sym, arith, ℕ, refl, subst, length, true, ◌+◌, List, Some, ◌<◌, slice_get, false, [], suc, ◌∷◌, zero, Bool, ℤ}
pub use Rattle.std.proofs.Common.{◌≤◌, pos, None, FitsSigned, Ok, Option, Result, w64, Err, inl, rules, inr, slice_set, ◌*◌, if◌then◌else◌, negsuc, take, drop}
pub use Rattle.std.proofs.Common.{nat_lt, ◌++◌, ◌⊎◌, MatchOption, ltb-true, not, ◌-◌, ◌≢◌, ltb-false, get_or, length-set, lt-ltb, map, unwrap_or, ◌+ℤ◌, ◌<ℤ◌}
pub use Rattle.std.proofs.Common.{◌==◌, cond, eqb-true, w32, ◌≤ℤ◌, le-ltb, ◌&&◌, IfSome, append_assoc, is_some, length-take, of_z, take-append-drop, ◌-ℤ◌, ◌^◌}
pub use Rattle.std.proofs.Common.{◌||◌, Box, Vec, add-one, add-zero, drop-set-lt, int_div, int_rem, length-append, nat_eq, to_z, zero-add, ◌%◌, ◌*ℤ◌}
pub use Rattle.std.proofs.lemmas.Bool.{and_parts, cases_eq, and_from, cases_lt}
pub use Rattle.std.proofs.lemmas.Int.{to_z-of_z, ints}
pub use Rattle.std.proofs.lemmas.List.{at_drop_more, length-map, set-append_left}
pub use Rattle.std.proofs.lemmas.List.Sums.{sum_by-cons, count_by-le-length, count_by_more_no, count_by_more_yes, sum-map, sum_by-set}
pub use Rattle.std.proofs.lemmas.Option.{same_Some, slice_get_within, slice_get_read, slice_get_past, get_or_from_slice_get, slice_get-map}
pub use Rattle.std.specs.Option.{option_map_or, option_and_then, option_map}
pub use Rattle.f77_actions.proofs.Bounds.{at_least, not_least, bits_zero, zero_bits, encodes_value, fits_truth, Within, encodes_fault, valid_code, valid_value}
pub use Rattle.f77_actions.proofs.Bounds.{within}
pub use Rattle.f77_actions.specs.Encoded.{Encodes, truth_number, IsValueOrFault, code, negation, of_truth, is_fitting, HasValue, coded, fault_number}
pub use Rattle.f77_actions.specs.Number.{is_same, fits, in_range, trip_count, negated, without_sign, exact_power, is_below}
pub use Rattle.f77_actions.specs.Value.{given, both, element, pushed, whole, logic}
pub use Rattle.f77_actions.specs.declared.action.Action.{Action, Loop, Branch, LogicalIf', AssignNumber, AssignTruth, ArithmeticIf, ComputedGoto, Declaration}
pub use Rattle.f77_actions.specs.declared.action.Jump.{Jump}
pub use Rattle.f77_actions.specs.declared.expression.Condition.{Condition, Related}
pub use Rattle.f77_actions.specs.declared.expression.Connective.{Connective}
pub use Rattle.f77_actions.specs.declared.expression.Element.{Variable}
pub use Rattle.f77_actions.specs.declared.expression.Number.{Number, Binary', Constant}
pub use Rattle.f77_actions.specs.declared.expression.Relation.{Relation}
pub use Rattle.f77_actions.specs.declared.finish.Fault.{Fault}
pub use Rattle.f77_actions.specs.declared.finish.Fault.TheVariants.{BadSubscript, Undefined, ZeroStep, Overflow}
pub use Rattle.f77_actions.specs.declared.finish.Finish.TheVariants.{Failed, Returned, StepLimit, Stopped}
pub use Rattle.f77_actions.specs.declared.resolved.Resolved.{Resolved}
pub use Rattle.f77_code.specs.{point, Plan, Point, code_after, do_rank, is_loop, onward, ran, term_value, register, Cells, HoldsRegisters, IsSlot, are_held}
pub use Rattle.f77_code.specs.{one, IsTerm, StandsForIncrement, IsMove, IsTest, TurnList, is_loop_at, matrix_place, passed, Comparing, HoldsCounters}
pub use Rattle.f77_code.specs.{IsOperation, Move, StandsForStatement, Tests, comparing, ended_point, giving, is_held, related_number, round, vector_place}
pub use Rattle.f77_code.specs.{AreCode, AreTimes, Beginning, StandsForAssignment, are_active, branch, by_sign, connected_number, held_in, item_chosen}
pub use Rattle.f77_code.specs.{loop_count, one_less, put_in_register, read_as, AreCompiled, BeginsDo, Giving, Goes, IsIncrement, IsInstruction, IsLeftDone}
pub use Rattle.f77_code.specs.{IsTime, begun_in_code, code_within, element_at, go_on, number_in, operation_within, put_at, time_of, turn_at, used_in_code}
pub use Rattle.f77_code.specs.{with_more, AllWriteBelow, AreSlots, BeginsPlan, Ends, Time, are_ready, calculated, compared, decoded, incremented_in_code, moved}
pub use Rattle.f77_code.specs.{registers_for, term_within, truth_in, AgreeButAt, ArePassed, ArePlaces, AreStatesNested, HasAction, HasNumbers, HasOneFrame}
pub use Rattle.f77_code.specs.{HaveSizes, IsAt, IsConstant, IsInArray, IsWritten, MakesSteps, ReadsElement, State, acted, are_below, begun_with, can_compile}
pub use Rattle.f77_code.specs.{condition_within, decoded_at, element_within, is_executed, is_ready, jump_chosen, jump_to, kept_time, moved_by, number_within}
pub use Rattle.f77_code.specs.{numbers_kept, numbers_of, only_round, place_at, slot_in, state, then_moved, Alongside, AreNone, BlocksSimulated, CodeComesBack}
pub use Rattle.f77_code.specs.{DivergeAt, DivergingRuns, HasOwn, HasSizes, HasSlots, HaveOneDo, HaveOneOwn, IsAllOwn, IsChangedCode, IsCode, IsCounted, IsKept}
pub use Rattle.f77_code.specs.{IsNested, IsPassed, KeptTime, LeavesBehind, MakesStep, MayLeave, MayReplace, MoreRegisters, MovesSimulated, NeverDiverge}
pub use Rattle.f77_code.specs.{SameStep, WritesBelow, WritesSlots, array_within, beginning, first_time, has_places, have_places, incremented, innermost}
pub use Rattle.f77_code.specs.{is_of_32_bits, joined, own_instructions, passing, passing_at, put_back, without}
pub use Rattle.f77_code.specs.code.{GrowsPlan, IsNumberTerm, IsTestTerm, AreExecuted, AreFollowed, IsCompiled, IsOffset, IsRelationOf, IsTesting, ArePair}
pub use Rattle.f77_code.specs.code.{HaveSameFrames, IsAssigning, IsConditional, IsReplaced, NotesList, NotesStep, misplaced_in_matrix, HaveActions, IsLogicalIf}
pub use Rattle.f77_code.specs.code.{IsStepKept}
pub use Rattle.f77_code.specs.declared.constants.Constants.{Constants}
pub use Rattle.f77_code.specs.declared.control.Place.TheVariants.{Execute, Increment}
pub use Rattle.f77_code.specs.declared.control.Turn.{Turn}
pub use Rattle.f77_code.specs.declared.instruction.Instruction.{Instruction}
pub use Rattle.f77_code.specs.declared.instruction.Operation.{Operation, Next, When', Count, Do, IfTrue, SetElement, SetMatrix, Add, Continue, Goto, IfCompared}
pub use Rattle.f77_code.specs.declared.instruction.Operation.{IfRelated, Load, Multiply, Return, Select, Set, Sign, Stop, Subtract, Trap}
pub use Rattle.f77_code.specs.declared.term.Term.{Term, Compared, Related', Register, Absolute', Add', Calculated', Connected', Difference, Element, Matrix'}
pub use Rattle.f77_code.specs.declared.term.Term.{MatrixAt, Multiply', Negated', Not', Product, Subtract', Sum, TooLarge, Vector', ZeroPush'}
pub use Rattle.f77_tree.specs.declared.tree.Kind.{Kind}
pub use Rattle.f77_tree.specs.declared.tree.Kind.TheVariants.{Integer, Logical}
