-- The names that most proofs cite, passed on from one place. It declares nothing.
pub use Rattle.std.proofs.Common.{◌≡◌, ◌∙◌, ap, map, sym, List, refl, ℕ, [], false, ◌∷◌, length, Bool, arith, true, Some, None, ◌++◌, ◌+◌, filter, ◌||◌, suc}
pub use Rattle.std.proofs.Common.{take, Option, ◌&&◌, ◌<◌, not, rules, cond, drop, get_or, option_map, ◌≤◌, zero, nat_lt, ◌==◌, subst, tests, inr, is_some}
pub use Rattle.std.proofs.Common.{slice_get, inl, ◌-◌, append-nil, nat_le, ◌⊎◌, min, add-one, append_assoc, drop-cons, if◌then◌else◌, length-append, ◌*◌, ◌≢◌}
pub use Rattle.std.proofs.Common.{eqb-true, IsSome, filter_map, lt-ltb, nat_eq, reverse, true≢false, ◌^◌, Vec, eq-eqb, get_or-drop, length-drop, replicate, Box}
pub use Rattle.std.proofs.Common.{Err, Ok, Result, codes, ext_get_or, fold, le-ltb, pos, take_all, ℤ}
pub use Rattle.std.proofs.Math.Bool.{and-false, and-true, or-false, or-true}
pub use Rattle.std.proofs.lemmas.Bool.{cases_lt, or_parts, and_left, and_parts, and_right, or_from, and_cases, cases_eq, or_left, or_right}
pub use Rattle.std.proofs.lemmas.Bool.Decides.{nat_tests, eqb_tells, Decides-eqb}
pub use Rattle.std.proofs.lemmas.Cmp.{nat_eq_equiv}
pub use Rattle.std.proofs.lemmas.Grind.{common_steps, flat_map-append}
pub use Rattle.std.proofs.lemmas.Iterator.{YieldsList-from_slice, YieldsList-from_range, items_from_collect}
pub use Rattle.std.proofs.lemmas.Iterator.Consumers.{YieldsList-from_rest, YieldsList-from_filter, YieldsList-from_copied}
pub use Rattle.std.proofs.lemmas.Iterator.Search.{any_from_yields_List, find_from_yields_List, all_from_yields_List, position_from_yields_List}
pub use Rattle.std.proofs.lemmas.List.{map-append, length-map, take_more, take-map, at_drop_all, at_drop_more, drop-map, get_or_append_left, get_or_past}
pub use Rattle.std.proofs.lemmas.List.{get_or_push, length-replicate, take-append-le}
pub use Rattle.std.proofs.lemmas.List.Elements.{filter-append, All-head, All-tail, filter_map-append, All-cons, All-nil, All-weaker, filter_passes}
pub use Rattle.std.proofs.lemmas.List.Folds.{find-append, list_all-append, list_all-map, list_any-append}
pub use Rattle.std.proofs.lemmas.List.Sums.{fold-append, AllPass-from_list_all, list_all-from_AllPass, sum-map, sum_by-cons}
pub use Rattle.std.proofs.lemmas.Option.{same_Some, get_or_from_slice_get, slice_get-map, slice_get_past, slice_get_read, slice_get_within, none-some}
pub use Rattle.std.proofs.lemmas.Option.{option_and_then_some}
pub use Rattle.std.proofs.lemmas.Result.{IfOk-at_ok, on_ok_weaker}
pub use Rattle.std.specs.Cmp.Lexicographic.{pointwise, nat_list_eq_equiv, same_text}
pub use Rattle.std.specs.List.{list_any, find, All, enumerate_from, list_all, cons_option, sum, flat_map, range_with_len, starts_with, position}
pub use Rattle.std.specs.List.{position_or_len, prefix_len, sum_by}
pub use Rattle.std.specs.Map.{lookup, keys_of, set_value, values_of}
pub use Rattle.std.specs.Map.Iter.{deref_pair}
pub use Rattle.std.specs.Option.{option_map_or, option_and_then, option_or, option_copied}
pub use Rattle.std.specs.Str.{bytes_eq}
pub use Rattle.f77_legal.specs.{Symbol, nth_statement, NameUse, array_bounds, kind_at, breaks, first_numbers, is_block_if, IsLegal, entry_of, is_alternative}
pub use Rattle.f77_legal.specs.{label_place, name_in, product, symbols, table_entries, HaveOneFrame, block_end, clause_fault, groups_of, has_at, is_end_if}
pub use Rattle.f77_legal.specs.{lines_where, terminal_label, too_large_faults, uses, uses_of, FactsFields, branch_end_at, clause_faults, control_clauses}
pub use Rattle.f77_legal.specs.{do_variable_of, expression_clauses, framed, is_in_block, is_real, is_twice, label_faults, name_faults, statement_numbers}
pub use Rattle.f77_legal.specs.{IsLabelTable, block_end_at, bounds_of, branch_end, clauses, data_faults, element_count, else_end_at, facts_fields, facts_of}
pub use Rattle.f77_legal.specs.{faults, has_bad_data, is_array, is_else, is_level, names_once, statement_with, terminal, Entries, IsBlockTable, IsNameTable}
pub use Rattle.f77_legal.specs.{IsStock, Plain, begins_branch, branch_holds, breaks_block, breaks_range, count_between, dimensions_fit, distinct, ends_else}
pub use Rattle.f77_legal.specs.{ends_outside, faults_of, first_clause, first_fault, frame, framed_line, goes_in, is_double, is_dummy_name, is_name_among}
pub use Rattle.f77_legal.specs.{is_target, items_pass, kind_of, labels, some_items, unit_name_of, AreTables, Dimensioned, Dummy, IsRangeTable, Typed, all_fit}
pub use Rattle.f77_legal.specs.{are_integer, bears, bounds_given, bounds_in, dummies_given, dummies_of, first_item_or, has_name, holds_with, how_often}
pub use Rattle.f77_legal.specs.{is_dummy, is_end_of_block, is_head, is_integer_name, is_too_large, kind_in, kinds_agree, kinds_given, left_by, loops_ending}
pub use Rattle.f77_legal.specs.{names_in_data, names_pass, range_holds, same_numbers, statement_behind, statement_faults, table, tree_count, tree_passes}
pub use Rattle.f77_legal.specs.{value_passes, AreNested, IsBranches, IsTerminals, KeepsEveryRule, MayStandAt, NamesAmong, ReportsFirstFault, Serve, StandsAlone}
pub use Rattle.f77_legal.specs.{branches, breaks_nesting, dummies, enclosing, ends_badly, fits_bounds, given_kinds, in_branch, is_filled, is_left, is_of_kind}
pub use Rattle.f77_legal.specs.{is_of_kind_if_given, is_shape, is_terminal, is_twice_in_data, needed_kinds, operand_kind, place_in, result_kind, set_by, tabled}
pub use Rattle.f77_legal.specs.{takes, unit_name, uses_with, value_fits}
pub use Rattle.f77_legal.specs.code.{dummy_at, names_held, with_uses, enters, behind_kinds, holds_by, no_facts, with_fact, breaches, ends_at_by_table}
pub use Rattle.f77_legal.specs.code.{groups_break, is_in_do_range, is_left_by_table, kinds_in, kinds_left, kinds_needed, misplaces, names_of_groups, separates}
pub use Rattle.f77_legal.specs.code.{terminal_of, with_use, Adds, array_size, earlier, end_of, facts_with_bounds, fills, is_before_end, is_real_entry}
pub use Rattle.f77_legal.specs.code.{is_twice_entry, use_of, ReportsFirst, breaks_data, depth_behind, first_breach, first_said, is_end_among, is_framed_out}
pub use Rattle.f77_legal.specs.code.{is_misplaced, is_more, is_never, leaves_branch, noted, once_more, rank, stops, with_kind, with_shape}
pub use Rattle.f77_legal.specs.declared.blocks.Blocks.{Blocks}
pub use Rattle.f77_legal.specs.declared.clause.Clause.{Clause}
pub use Rattle.f77_legal.specs.declared.clause.Clause.TheVariants.{Bounds, Kinds, NamedLabels, Nests, Jumps, Targets, Terminals, Variables}
pub use Rattle.f77_legal.specs.declared.enclosing.Ranges.{Ranges}
pub use Rattle.f77_legal.specs.declared.fault.CheckFault.{CheckFault}
pub use Rattle.f77_legal.specs.declared.fault.CheckFault.TheVariants.{BadData, DoubleLabel, RealName, Twice, TooMany, BadTarget, BadTerminal, Dimensions}
pub use Rattle.f77_legal.specs.declared.fault.CheckFault.TheVariants.{DoVariable, IntoBlock, Nesting, NoLabel}
pub use Rattle.f77_legal.specs.declared.labels.Labels.{Labels}
pub use Rattle.f77_legal.specs.declared.names.Facts.{Facts}
pub use Rattle.f77_legal.specs.declared.names.Names.{Names}
pub use Rattle.f77_program.specs.Patching.{replaced}
pub use Rattle.f77_program.specs.Program.{LineFields, line_of, IsProgram}
pub use Rattle.f77_program.specs.declared.program.Line.{Line}
pub use Rattle.f77_tree.specs.Comparing.{same_kind}
pub use Rattle.f77_tree.specs.Data.{data_group_of}
pub use Rattle.f77_tree.specs.Declaration.{decl_of}
unfoldable pub use Rattle.f77_tree.specs.Intrinsic.{function_named}
pub use Rattle.f77_tree.specs.Node.{names_of, node_of, NodeOf, node_name, all_parts, nodes_of, parts, tree_nodes, value_nodes}
pub use Rattle.f77_tree.specs.Statement.{Statement, statement_of, jumps_of, form_of, stmt_step}
pub use Rattle.f77_tree.specs.Tree.{Tree, Trees, GroupFields, DeclFields}
pub use Rattle.f77_tree.specs.View.{tree_of, trees, expr_step, ref_step}
pub use Rattle.f77_tree.specs.declared.tree.Expr.{Expr}
pub use Rattle.f77_tree.specs.declared.tree.Kind.{Kind}
pub use Rattle.f77_tree.specs.declared.tree.Kind.TheVariants.{Integer, Logical}
pub use Rattle.indexmap.specs.IndexMap.{keys, IsUnique, get, insert_entry, Updates, values}
