-- The names that most proofs cite, passed on from one place. It declares nothing.
pub use Rattle.std.proofs.Common.{◌≡◌, subst, ◌∙◌, arith, sym, ap, pos, refl, Some, ℕ, length, ◌+◌, ◌<◌, w64, inl, true, ℤ, ◌≤ℤ◌, inr, List, false, negsuc, suc}
pub use Rattle.std.proofs.Common.{rules, Option, take, slice_get, ◌≢◌, zero, [], ◌∷◌, ◌⊎◌, ◌+ℤ◌, slice_set, Bool, All, ◌≤◌, option_map, SFits, ◌*ℤ◌, Ok, ◌-ℤ◌}
pub use Rattle.std.proofs.Common.{None, ◌-◌, ◌++◌, get_or, Result, int_div, int_rem, ◌<ℤ◌, Err, of_z, to_z, unsigned_abs, if◌then◌else◌, IfSome, below_more}
pub use Rattle.std.proofs.Common.{IfOk, drop, ◌*◌, is_some, Contains, not, Any, map, IfNone, Vec, length-append, min, ◌^◌, nat_lt, cond, ltb, ◌/◌, ◌%◌, neg_ℤ}
pub use Rattle.std.proofs.Common.{◌↔◌, IsTrue}
pub use Rattle.std.proofs.Math.IntN.{nat_abs, zero-*ℤ}
pub use Rattle.std.proofs.lemmas.Bool.{cases_eq, ltb-true, lt-ltb, false_from_ne_true, true_from_ne_false, cond-true, cond-false, ltb-false, le-ltb, not-true}
pub use Rattle.std.proofs.lemmas.Int.{ints, to_z-of_z, clamps, rem_below, quot-rem}
pub use Rattle.std.proofs.lemmas.List.{take_all, take_more, map-append, length-set, set-set, set_comm, get_or_append_left, length_push, map-set, drop_more}
pub use Rattle.std.proofs.lemmas.List.{drop_all}
pub use Rattle.std.proofs.lemmas.List.Elements.{All-pop, All-push, All-more, All-weaker, All-nil, All-contains, All-contains_itself, same_from_all_zip}
pub use Rattle.std.proofs.lemmas.Option.{slice_get_within, get_or_from_slice_get, slice_get_past, slice_get-get_or, IfSome_then}
pub use Rattle.std.specs.Int.{int_min, int_max}
pub use Rattle.std.specs.List.{AllZip, list_any, find, remove, zip, slice_index_or}
pub use Rattle.std.specs.Option.{option_and_then, SomeIff, option_map_or}
pub use Rattle.std.specs.Result.{result_ok, OkIff}
pub use Rattle.f77_actions.specs.Number.{in_range, is_below, is_same, without_sign, trip_count, exact_power, fits, quotient, modulus, power, negated}
pub use Rattle.f77_actions.specs.Value.{given, whole, pushed, element, both, logic}
pub use Rattle.f77_actions.specs.declared.finish.Fault.{Fault}
pub use Rattle.f77_actions.specs.declared.resolved.Resolved.{Resolved}
pub use Rattle.f77_actions.specs.declared.value.Value.{Value}
pub use Rattle.f77_check.specs.Checked.{CheckedFields, IsChecked}
pub use Rattle.f77_check.specs.declared.checked.Shape.{Shape}
pub use Rattle.f77_code.specs.Evaluation.{held_in, number_in, slot_in, truth_in, compared, joined, calculated}
pub use Rattle.f77_code.specs.Moves.{Cells, moved, State, Move, Goes, turn_at, state, TurnList, passing, go_on, acted, used, Ends, begun, incremented}
pub use Rattle.f77_code.specs.Moves.{passing_at, is_executed, is_loop, jump_chosen, jump_to, without, place_behind}
pub use Rattle.f77_code.specs.declared.control.Place.{Place}
pub use Rattle.f77_code.specs.declared.control.Place.TheVariants.{Execute, Increment}
pub use Rattle.f77_code.specs.declared.control.Turn.{Turn}
pub use Rattle.f77_equivalence.specs.Changed.{IsEnding, HoldAlike, IsChange}
pub use Rattle.f77_facts.specs.Facts.{AreIn, number_of, SuitsFact, Lies, Implies}
pub use Rattle.f77_facts.specs.Loops.{AreLeft, SuitsTurn}
pub use Rattle.f77_facts.specs.declared.assigning.Slots.{Slots}
pub use Rattle.f77_facts.specs.declared.entries.Entry.{Entry}
pub use Rattle.f77_facts.specs.declared.facts.Fact.{Fact}
pub use Rattle.f77_program.specs.Program.{line_of, LineFields}
pub use Rattle.f77_symbolic.specs.{cells_of, turns_of, slot_of, Interprets, Start, turn_of, IsInside, AreInside, content_of, passes_left, state_of}
pub use Rattle.f77_symbolic.specs.{AreTurnNumbers, machine, IsOfEntry, is_same_place, IsTourOf, presence_of, IsFirst, AreNumbers, End, EndsBy, ReachesIn}
pub use Rattle.f77_symbolic.specs.{AreVisits, IsToured, LeadsTo, IsReachable, IsVisitNoted, IsVisit, EquivalentWhereFollowed, EndAlike, IsAtSite, is_cut_in}
pub use Rattle.f77_symbolic.specs.{Machine, Pairing, FollowsFor, IsEarlier, Under, KeysFollow, LeadsUncut}
unfoldable pub use Rattle.f77_symbolic.specs.{together, FollowsByKeys}
pub use Rattle.f77_symbolic.specs.code.{StaysOn, Stepped, Answers, ReadsCell, Extends, AreExplored, IsSettled, HoldSameIn, IsReady, IsKnownAt, IsBehindBy}
pub use Rattle.f77_symbolic.specs.code.{HavePairs, IsSlotOf, FollowsAt, FollowsThere, FollowsVisit, HasItem, IsEndOf, RestsOn, IsWithin}
pub use Rattle.f77_symbolic.specs.code.{IsDivision, HaveDummies, GoesOnIfHeld, GoesTo, IsExplored, IsMet, IsMetOrExplored}
pub use Rattle.f77_symbolic.specs.code.{on_path, AlwaysTells, ComesToEnd, Follows, GivesWay, IsRoomLeft, IsThere, IsPartOf, Whichever}
pub use Rattle.f77_symbolic.specs.declared.evaluator.Atoms.{Atoms}
pub use Rattle.f77_symbolic.specs.declared.evaluator.Evaluator.{Evaluator}
pub use Rattle.f77_symbolic.specs.declared.memory.Location.{Location}
pub use Rattle.f77_symbolic.specs.declared.memory.Symbolic.{Symbolic}
pub use Rattle.f77_symbolic.specs.declared.memory.Write.{Write}
pub use Rattle.f77_symbolic.specs.declared.sides.Side.{Side}
pub use Rattle.f77_symbolic.specs.declared.sides.Step.{Step}
pub use Rattle.f77_symbolic.specs.declared.sides.SymbolicTurn.{SymbolicTurn}
pub use Rattle.f77_symbolic.specs.declared.visiting.Visit.{Visit}
pub use Rattle.f77_symbolic.specs.declared.visiting.Visits.{Visits}
pub use Rattle.f77_symbolic.specs.declared.walking.Pair.{Pair}
pub use Rattle.f77_terms.proofs.Values.{ok_then}
pub use Rattle.f77_terms.specs.Atoms.{slot_behind, FitsTable, key_value}
pub use Rattle.f77_terms.specs.Bounds.{HasSign}
pub use Rattle.f77_terms.specs.Paths.{Holds}
pub use Rattle.f77_terms.specs.Ranges.{IsIn, AreKnown, LiesBetween}
pub use Rattle.f77_terms.specs.Atoms.{function_value}
pub use Rattle.f77_terms.specs.Terms.{sum_value, Valuation, part_value, parts_value}
pub use Rattle.f77_terms.specs.declared.paths.Path.{Path}
pub use Rattle.f77_terms.specs.declared.terms.Term.{Term}
pub use mir.Val.{bool_byte}
