-- The names that most proofs cite, passed on from one place. It declares nothing.
pub use Rattle.std.proofs.Common.{◌≡◌, map, List, ap, refl, ◌∙◌, [], filter, sym, ◌∷◌, not, None, take, true, ℕ, Bool, Some, false, Option, ◌++◌, get_or}
pub use Rattle.std.proofs.Common.{length, ◌&&◌, ◌<◌, is_some, ◌+◌, if◌then◌else◌, nat_eq, nat_le, ◌||◌, append-nil, arith, cond, option_map, suc, zero, ◌≤◌}
pub use Rattle.std.proofs.Common.{codes, nat_lt, negsuc, pos, subst, take_all}
pub use Rattle.std.proofs.lemmas.List.{map-append, take_more}
pub use Rattle.std.proofs.lemmas.List.Elements.{All-append, All-cons, All-map, All-nil, All-weaker, All-filter, All-head, All-tail, filter-append}
pub use Rattle.std.proofs.lemmas.List.Elements.{filter_map-append, All-same}
pub use Rattle.std.specs.List.{filter_map, All, cons_option, list_any, list_all, AllByRecursion, AllZip, dedup, flat_map, range_with_len}
pub use Rattle.f77_legal.specs.Legal.{IsLegal, is_array}
pub use Rattle.f77_legal.specs.NameTable.{array_bounds, kind_at, FactsFields, IsNameTable, facts_fields, facts_of}
pub use Rattle.f77_legal.specs.Names.{Symbol, symbols, uses, NameUse, name_in, some_items, uses_of, bounds_given, dummies_given, is_twice, kinds_given}
pub use Rattle.f77_legal.specs.Names.{names_unit}
pub use Rattle.f77_program.proofs.Back.{reference_formed}
pub use Rattle.f77_program.specs.Program.{LineFields, IsProgram, line_of}
pub use Rattle.f77_program.specs.code.Formed.{all_formed, formed, statement_formed, value_formed}
unfoldable pub use Rattle.f77_program.specs.code.Formed.{is_some_list}
pub use Rattle.f77_tree.proofs.Tests.{and_true}
pub use Rattle.f77_tree.specs.Comparing.{same_tree, same_operator, same_kind}
pub use Rattle.f77_tree.specs.Name.{is_symbolic}
pub use Rattle.f77_tree.specs.Node.{NodeOf, node_of, names_of, node_name, nodes_of, all_parts, group_nodes, nodes_behind, parts, value_nodes}
pub use Rattle.f77_tree.specs.Replacement.{replacement_of}
pub use Rattle.f77_tree.specs.Statement.{Statement, form_of, is_executable_statement, same_statement}
pub use Rattle.f77_tree.specs.Tree.{Tree, Trees, GroupFields, DeclFields}
pub use Rattle.f77_tree.specs.View.{tree_of, reference_fields, trees}
pub use Rattle.f77_tree.specs.declared.operator.Operator.{Operator}
pub use Rattle.mothra_replacements.specs.{scalar, PoolFields, ascending, each_once, operand_at, is_comparable, placed, are_some, is_in, is_operand}
pub use Rattle.mothra_replacements.specs.{kind_of_expression, next_constants, pool_fields, pools_of, relations, replacements, absolute, absolute_value}
pub use Rattle.mothra_replacements.specs.{acts_or_continues, altered, arithmetic_operators, comparable, connectors, drawn, executable_nodes, gives}
pub use Rattle.mothra_replacements.specs.{in_expression, in_label, in_statement, in_value, is_replaceable_action, largest_of, lowered, new_statement, operands}
pub use Rattle.mothra_replacements.specs.{operands_of, other_operations, others, pool, raised, stands_in, truths, unary_of, with_group, with_subscripts}
pub use Rattle.mothra_replacements.specs.{with_unary}
pub use Rattle.mothra_replacements.specs.declared.operands.Operand.{Operand}
