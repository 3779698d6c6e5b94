-- The names that most proofs cite, passed on from one place. It declares nothing.
pub use Rattle.std.proofs.Common.{◌≡◌, ap, ◌∙◌, sym, map, subst, List, refl, ℕ, [], arith, length, ◌∷◌, Some, ◌++◌, take, ◌+◌, true, ◌<◌, None, get_or, ◌≤◌}
pub use Rattle.std.proofs.Common.{Bool, ◌-◌, false, suc, zero, Option, drop, is_some, ◌==◌, append-nil, option_map, replicate, cond, filter, if◌then◌else◌}
pub use Rattle.std.proofs.Common.{rules, ◌&&◌, ◌||◌, append_assoc, length-append, nat_lt, position, set, take_all, true≢false, ◌^◌, ◌≢◌, Box, IsSome, eqb-true}
pub use Rattle.std.proofs.Common.{inl, inr, length-set, min, not, slice_set, IfOk, IfSome, Vec, add-one, fold, get_or-set_other, get_or-set_same, length-drop}
pub use Rattle.std.proofs.Common.{nat_le, reverse, take-append-drop}
pub use Rattle.std.proofs.lemmas.Bool.{and_parts, cases_lt, or_right}
pub use Rattle.std.proofs.lemmas.Bool.Decides.{nat_tests}
pub use Rattle.std.proofs.lemmas.Grind.{common_steps, flat_map-append}
pub use Rattle.std.proofs.lemmas.List.{map-append, length-map, drop-map, drop_all, length-replicate, length-reverse, map_more, replicate-append-replicate}
pub use Rattle.std.proofs.lemmas.List.{set-append_left, set-append_right, take_more}
pub use Rattle.std.proofs.lemmas.List.Elements.{filter_map-append, All-cons, All-get_or, All-head, All-nil, All-tail, All-weaker}
pub use Rattle.std.proofs.lemmas.List.Folds.{list_all-map, find-append, list_all-append, list_any-append}
pub use Rattle.std.proofs.lemmas.Option.{same_Some, slice_get-map, slice_get_read, slice_get-get_or, slice_get_past, slice_get_within}
pub use Rattle.std.specs.List.{list_any, flat_map, list_all, All, find, position_or_len, slice_get, zip, cons_option, filter_map, sum, AllZip, prefix_len}
pub use Rattle.std.specs.Option.{option_and_then, option_map_or, option_or}
pub use Rattle.std.specs.Str.{bytes_eq}
pub use Rattle.f77_actions.specs.Operators.{relation_of, arithmetic_of, connective_of}
pub use Rattle.f77_actions.specs.declared.expression.Arithmetic.{Arithmetic}
pub use Rattle.f77_actions.specs.declared.resolved.Resolved.{Resolved}
pub use Rattle.f77_check.specs.{CanResolve, IsChecked, slot_count, CheckedFields, IsResolved, first_slot, shapes, AreJumps, AreResolved, Cell, checked_fields}
pub use Rattle.f77_check.specs.{is_cell, IsStartOf, cells, initial_values_of, most_slots, slot_kinds, IsAction, IsChosen, IsJump, IsNumber, initial_value}
pub use Rattle.f77_check.specs.{initial_values, IsElement, IsInPlace, IsSlotTable, shape_of}
pub use Rattle.f77_check.specs.code.{is_kept, IsReadyTree, give_groups, shape_at, AreFound, CanBeResolved, groups_kept, items_kept, slots_of, tree_kept, HasEnd}
pub use Rattle.f77_check.specs.code.{IsChangedAlone, give_run, give_values, AreFlat, Does, FrameStays, HasFewSlots, ServesNames, by_tables, elements_in, give}
pub use Rattle.f77_check.specs.code.{give_group, is_free, names_kept, step_kept}
unfoldable pub use Rattle.f77_check.specs.code.{HoldsNumber}
pub use Rattle.f77_check.specs.declared.resolve.Resolver.{Resolver}
pub use Rattle.f77_check.specs.declared.start.Start.{Start}
pub use Rattle.f77_legal.proofs.FirstNumbers.{table_more, get_or-table, length-table, table_from_each}
pub use Rattle.f77_legal.proofs.Flow.{are_nested, some_behind, some_branch, some_place, some_terminal}
pub use Rattle.f77_legal.proofs.Listing.{one_more}
pub use Rattle.f77_legal.proofs.PatchNames.{among_keys, symbols_pass, among_kept, executed, is_executed}
pub use Rattle.f77_legal.proofs.Positions.{found_there, position-map}
pub use Rattle.f77_legal.proofs.Symbols.{Apart, or_false, same_symbol, symbol_refl, any_once, symbol_symm}
pub use Rattle.f77_legal.specs.Blocks.{first_numbers, statement_behind, statement_numbers}
pub use Rattle.f77_legal.specs.Dimensions.{tree_count, all_fit, dimensions_fit, fits_bounds, takes, is_shape}
pub use Rattle.f77_legal.specs.Frames.{framed, HaveOneFrame, frame, framed_line}
pub use Rattle.f77_legal.specs.InitialValues.{product, groups_of, element_count}
pub use Rattle.f77_legal.specs.Kinds.{are_integer, is_of_kind, kinds_agree, operand_kind, result_kind}
pub use Rattle.f77_legal.specs.Labels.{nth_statement, label_place, labels, terminal_label}
pub use Rattle.f77_legal.specs.Legal.{IsLegal, first_clause, clause_faults, control_clauses, data_faults, expression_clauses, faults, first_fault, is_array}
pub use Rattle.f77_legal.specs.Legal.{is_too_large, label_faults, name_faults, too_large_faults}
pub use Rattle.f77_legal.specs.NameTable.{array_bounds, kind_at, IsNameTable, has_name, FactsFields, facts_fields, facts_of}
pub use Rattle.f77_legal.specs.Names.{Symbol, bounds_of, name_in, symbols, uses, uses_of, NameUse, some_items, kind_of, bounds_given, bounds_in, first_item_or}
pub use Rattle.f77_legal.specs.Patches.{IsStock, is_name_among, names_pass}
pub use Rattle.f77_legal.specs.Tables.{AreTables, Serve}
pub use Rattle.f77_legal.specs.declared.names.Names.{Names}
pub use Rattle.f77_program.specs.Patching.{patched, replaced}
pub use Rattle.f77_program.specs.Program.{LineFields, line_of, IsProgram}
pub use Rattle.f77_program.specs.declared.program.Line.{Line}
pub use Rattle.f77_tree.proofs.Views.{binary_view, computed_view, logical_view, loop_view, ref_view, signed_view}
pub use Rattle.f77_tree.specs.Node.{NodeOf, names_of, group_nodes, node_name, all_parts, nodes_of, parts, tree_nodes, value_nodes}
pub use Rattle.f77_tree.specs.Statement.{Statement, statement_of, is_executable_statement, jumps_of, stmt_step}
pub use Rattle.f77_tree.specs.Tree.{Tree, GroupFields, Trees, DeclFields}
pub use Rattle.f77_tree.specs.View.{tree_of, trees, expr_step, ref_step, reference_fields}
pub use Rattle.f77_tree.specs.declared.data.Constant.{Constant}
pub use Rattle.f77_tree.specs.declared.data.Value.{Value}
pub use Rattle.f77_tree.specs.declared.operator.Operator.{Operator}
pub use Rattle.f77_tree.specs.declared.tree.Expr.{Expr}
pub use Rattle.f77_tree.specs.declared.tree.Kind.{Kind}
pub use Rattle.f77_tree.specs.declared.tree.Kind.TheVariants.{Integer, Logical}
pub use Rattle.indexmap.specs.IndexMap.{keys}
