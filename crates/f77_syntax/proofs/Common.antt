-- The names that most proofs cite, passed on from one place. It declares nothing.
pub use Rattle.std.proofs.Common.{refl, ◌∙◌, sym, ap, ◌≡◌, List, ℕ, true, [], ◌∷◌, Some, None, false, length, arith, subst, Option, ◌++◌, Bool, ◌≤◌, ◌==◌, map}
pub use Rattle.std.proofs.Common.{append_assoc, codes, inr, ◌<◌, cond, suc, ◌+◌, inl, append-nil, zero, ◌&&◌, drop, take, ◌⊎◌, eqb-true, nat_le, option_map}
pub use Rattle.std.proofs.Common.{length-append, Err, of_calls, ◌-◌, Ok, get_or, map-id, unwrap_or, IfOk, MatchResult, Result, le-leb, nat_lt, not, ok_or, ◌*◌}
pub use Rattle.std.proofs.Common.{◌||◌, ◌≢◌, IfSome, is_some, take_all, ℤ, Box, IfErr, MatchOption, Vec, add-one, drop-cons, if◌then◌else◌, leb-true}
pub use Rattle.std.proofs.Common.{length-take, ltb-false, min, nat_eq, negsuc, pos, rules, string_bytes, zero-add, ◌^◌}
pub use Rattle.std.proofs.lemmas.Bool.Decides.{nat_tests}
pub use Rattle.std.proofs.lemmas.List.{map-append, length-map, drop_more, nil_from_length, take_rest}
pub use Rattle.std.proofs.lemmas.List.Folds.{list_any-append}
pub use Rattle.std.proofs.lemmas.Option.{none-some, same_Some}
pub use Rattle.std.proofs.lemmas.Result.{err_from_is_err_and}
pub use Rattle.std.proofs.lemmas.Slice.Eq.{bytes_eq-Decides}
pub use Rattle.std.specs.Borrow.{Bor}
pub use Rattle.std.specs.List.{list_all, list_any, join_with_byte, All, cons_option, flat_map}
pub use Rattle.std.specs.Str.{bytes_eq, chars_after, continuation_len, lead_bits}
pub use Rattle.std.specs.Str.Parse.{digits_value, AllDigits}
pub use Rattle.f77_program.proofs.StatementForming.{spelled_is_formed, formed_spelled, is_formed, is_symbolic_formed}
pub use Rattle.f77_program.specs.Formed.{is_action}
pub use Rattle.f77_program.specs.Group.{may_stand, group_of, AreInOrder, behind_heading}
pub use Rattle.f77_program.specs.Program.{LineFields, IsProgram, line_of}
pub use Rattle.f77_program.specs.declared.fault.SyntaxFault.{SyntaxFault}
pub use Rattle.f77_program.specs.declared.fault.SyntaxFault.TheVariants.{Memory, AfterEnd, BadName, BadConstant, TooDeep, TooLong}
pub use Rattle.f77_program.specs.declared.group.Group.{Group}
pub use Rattle.f77_program.specs.declared.group.Group.TheVariants.{End, Subroutine, Data, Declaration, Executable}
pub use Rattle.f77_source.specs.Card.{CardFields}
pub use Rattle.f77_syntax.specs.{◌>>=◌, strip, IsAdmitted, AreLines, IsCardRefused, IsFirstSyntaxFault, behind_character, character_count, line_with, IsTooDeep}
pub use Rattle.f77_syntax.specs.{most_characters, most_open, open_behind, begins_with, deeper, misplaced_statement, unfinished, HasLinesOrFault, KeepsLimits}
pub use Rattle.f77_syntax.specs.{ReadsBack, no_equals, statement_class}
unfoldable pub use Rattle.f77_syntax.specs.{class_of, begins_if}
pub use Rattle.f77_syntax.specs.code.{tree_after, clipped, value_ended, name_at, bound_at, clip, close_at, past_comma, Fails, clip_statement, clip_value, Gives}
pub use Rattle.f77_syntax.specs.code.{IsStatement, climb_on, clip_all, clip_decl, clip_group, listed_by, named_at, word_tree_at, Breaks, JoinsItems, Readers}
pub use Rattle.f77_syntax.specs.code.{begins_digit, clip_constant, digits, dotted_at, first_operator, function_listed, more_at, past_digits, IsOutside, behind}
pub use Rattle.f77_syntax.specs.code.{closed, dotted_by, enclosed_at, groups_within, negated_at, parameters_at, signed_tree_at, with_groups, AreDecls, Finds}
pub use Rattle.f77_syntax.specs.code.{IsTreeStart, Reads, Shortens, action_by, actions_only, arguments_at, clipped_constant, data_at, declared_at, dimension_at}
pub use Rattle.f77_syntax.specs.code.{goto_by, initial_constant_at, items_within, operators, or_operator, read_bounds, reference_behind, statement_by, times_at}
pub use Rattle.f77_syntax.specs.code.{with_others}
unfoldable pub use Rattle.f77_syntax.specs.code.{reading, operator_at, items_at, start_at, expr_at, label_at, names_at, whole_at, climb_at, reference_at}
unfoldable pub use Rattle.f77_syntax.specs.code.{simple_action_at, statement_at, trees_at, word_statement, action_at, arithmetic_at, assign_at, branch_at}
unfoldable pub use Rattle.f77_syntax.specs.code.{condition_at, constant_at, control_at, data_value_at, decl_at, declarations_at, dummies_at, else_at, goto_at}
unfoldable pub use Rattle.f77_syntax.specs.code.{group_at, groups_at, label_comma, last_label, loop_at, repeat_at, simple_at, step_at, subroutine_at, bounds_at}
unfoldable pub use Rattle.f77_syntax.specs.code.{computed_at, data_values_at, keyword_at, within}
pub use Rattle.f77_syntax.specs.declared.classification.Class.TheVariants.{Keyword, Assignment, If, Loop}
pub use Rattle.f77_syntax.specs.declared.fault.ReadError.{ReadError}
pub use Rattle.f77_syntax.specs.declared.fault.ReadError.TheVariants.{Unknown}
pub use Rattle.f77_tree.proofs.Constants.{all_small_constants, small_bound, small_constants, by_part, data_constants, decided_by_part, decl_constants}
pub use Rattle.f77_tree.proofs.Constants.{declaration_constants, group_constants, small_value}
pub use Rattle.f77_tree.proofs.Tests.{and_true, not_false}
pub use Rattle.f77_tree.proofs.Views.{reference_view, arithmetic_view, assign_view, binary_view, block_view, computed_view, declare_view, dimension_view}
pub use Rattle.f77_tree.proofs.Views.{else_if_view, else_view, goto_view, logical_view, loop_view, not_view, number_view, preset_view, ref_view, signed_view}
pub use Rattle.f77_tree.proofs.Views.{subroutine_view, truth_view}
pub use Rattle.f77_tree.proofs.Words.{name_words, past_word_front, word_front, word_whole, EndsWord, letter_word}
pub use Rattle.f77_tree.specs.Data.{SpellsGroups, SpellsConstant, SpellsGroup, SpellsValue, data_group_of, negative}
pub use Rattle.f77_tree.specs.Declaration.{SpellsName, all_bounded, SpellsDecls, SpellsNumber, decl_of, SpellsDecl, has_bounds}
pub use Rattle.f77_tree.specs.Grammar.{is_name, is_number, past_word, is_digit, word, Spells, SpellsReference, SpellsAll, is_word, truth_constant_text, is_call}
pub use Rattle.f77_tree.specs.Grammar.{is_letter}
pub use Rattle.f77_tree.specs.Intrinsic.{function_name}
unfoldable pub use Rattle.f77_tree.specs.Intrinsic.{function_named}
pub use Rattle.f77_tree.specs.Joined.{Joined}
pub use Rattle.f77_tree.specs.Limits.{statement_constants, statement_nodes, most_nodes, is_small_node, is_label, largest_integer, magnitude, small_constant}
pub use Rattle.f77_tree.specs.Name.{cut, is_short, is_symbolic}
pub use Rattle.f77_tree.specs.Names.{statement_names, all_short_names, short_names, data_names, decl_name, declaration_names, has_short_group_names, of_value}
pub use Rattle.f77_tree.specs.Operator.{left_level, level, symbol, right_level, sign_symbol}
pub use Rattle.f77_tree.specs.Statement.{Statement, statement_of}
pub use Rattle.f77_tree.specs.StatementGrammar.{SpellsStatement, optional_comma, SpellsAction, IsFormed, SpellsLabel, kind_keyword}
unfoldable pub use Rattle.f77_tree.specs.StatementGrammar.{label_number}
pub use Rattle.f77_tree.specs.Tree.{Tree, Trees, GroupFields, DeclFields}
pub use Rattle.f77_tree.specs.View.{tree_of, trees, reference_fields}
pub use Rattle.f77_tree.specs.declared.data.Constant.{Constant}
pub use Rattle.f77_tree.specs.declared.data.Value.{Value}
pub use Rattle.f77_tree.specs.declared.intrinsic.Intrinsic.{Intrinsic}
pub use Rattle.f77_tree.specs.declared.operator.Operator.{Operator}
pub use Rattle.f77_tree.specs.declared.operator.Operator.TheVariants.{Equivalent, Multiply}
pub use Rattle.f77_tree.specs.declared.operator.Sign.{Sign}
pub use Rattle.f77_tree.specs.declared.operator.Sign.TheVariants.{Minus, Plus}
pub use Rattle.f77_tree.specs.declared.tree.Expr.{Expr}
