-- The names that most proofs cite, passed on from one place. It declares nothing.
pub use Rattle.std.proofs.Common.{◌≡◌, [], ◌++◌, ap, ◌∙◌, List, map, sym, ◌∷◌, refl, subst, ℕ, true, Bool, arith, codes, false, None, length, string_bytes}
pub use Rattle.std.proofs.Common.{drop, ◌&&◌, Option, Some, not, ◌<◌, append-nil, append_assoc, nat_le, of_calls, option_map, ◌==◌, ◌≤◌, cond, eqb-true, suc}
pub use Rattle.std.proofs.Common.{◌+◌, leb-true, nat_lt, true≢false, zero, ◌%◌, get_or, le-leb, rules, ◌/◌, IsSome, filter, inl, inr, is_some, ltb-false}
pub use Rattle.std.proofs.Common.{negsuc, pos, ◌-◌, ◌^◌, ◌≢◌, ◌⊎◌}
pub use Rattle.std.proofs.lemmas.Bool.Decides.{nat_tests}
pub use Rattle.std.proofs.lemmas.Fmt.{length-decimal-le, decimal_by_steps, decimal_is_IsNumeral}
pub use Rattle.std.proofs.lemmas.List.{drop_more, length-map, drop_all, map-append}
pub use Rattle.std.specs.Fmt.{decimal, digit_glyph, digits_onto}
pub use Rattle.std.specs.List.{list_all, slice_get, AllZip, cons_option, join_with_byte}
pub use Rattle.f77_program.specs.{line_of, IsProgram, list_text, name_text, is_action, rest_text, statement_text, text_of, LineFields, card_of}
pub use Rattle.f77_program.specs.{declarations_text, group_of, groups_text, operand, own_level, MayFollow, decl_text, group_text, step_text, value_text, Fits}
pub use Rattle.f77_program.specs.{bounds_text, constant_text, line_at, patched, print_faults, repeat_text, replaced, same_line, Writes}
unfoldable pub use Rattle.f77_program.specs.{print_fault}
pub use Rattle.f77_program.specs.code.{all_formed, formed, declaration_formed, statement_formed, value_formed, is_decl, is_group, any_value}
pub use Rattle.f77_program.specs.code.{data_formed, reported_fault}
unfoldable pub use Rattle.f77_program.specs.code.{is_reference, is_some_list}
pub use Rattle.f77_program.specs.declared.group.Group.{Group}
pub use Rattle.f77_program.specs.declared.program.Line.{Line}
pub use Rattle.f77_source.specs.Law.{squeezed}
pub use Rattle.f77_source.specs.Write.{card_faults, is_printable, continuation_count, is_bad_label, piece}
unfoldable pub use Rattle.f77_source.specs.Write.{card_fault}
pub use Rattle.f77_tree.proofs.Constants.{all_small_constants, small_constants, by_part, data_constants, decided_by_part, decl_constants, declaration_constants}
pub use Rattle.f77_tree.proofs.Constants.{group_constants, small_bound, small_value}
pub use Rattle.f77_tree.proofs.Tests.{and_true, not_true}
pub use Rattle.f77_tree.specs.Data.{data_group_of, SpellsConstant, SpellsGroup, SpellsGroups, SpellsValue, negative}
pub use Rattle.f77_tree.specs.Declaration.{all_bounded, SpellsNumber, decl_of, SpellsDecl, SpellsDecls, SpellsName}
pub use Rattle.f77_tree.specs.Grammar.{is_name, is_number, Spells, is_call, truth_constant_text, SpellsAll, SpellsReference, is_letter, is_word, is_digit}
pub use Rattle.f77_tree.specs.Joined.{separated, has_items, Joined}
pub use Rattle.f77_tree.specs.Limits.{is_label, largest_integer, small_constant, statement_constants}
pub use Rattle.f77_tree.specs.Name.{is_symbolic, is_short}
pub use Rattle.f77_tree.specs.Names.{of_value, statement_names, all_short_names, decl_name, declaration_names, has_short_group_names, short_names}
pub use Rattle.f77_tree.specs.Operator.{left_level, right_level, sign_symbol, symbol, level}
pub use Rattle.f77_tree.specs.Statement.{Statement, statement_of}
pub use Rattle.f77_tree.specs.StatementGrammar.{SpellsStatement, tree_in_text, IsFormed, kind_keyword, trees_in_text, IsUnmutated, SpellsAction, SpellsLabel}
pub use Rattle.f77_tree.specs.StatementGrammar.{in_text, label_in_text}
unfoldable pub use Rattle.f77_tree.specs.StatementGrammar.{label_number}
pub use Rattle.f77_tree.specs.Tree.{Tree, Trees, DeclFields, GroupFields}
pub use Rattle.f77_tree.specs.View.{tree_of, trees}
pub use Rattle.f77_tree.specs.code.Joined.{some_all}
