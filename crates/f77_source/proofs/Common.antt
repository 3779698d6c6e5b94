-- The names that most proofs cite, passed on from one place. It declares nothing.
pub use Rattle.std.proofs.Common.{◌≡◌, ℕ, List, ap, ◌∙◌, refl, length, arith, false, true, ◌+◌, [], ◌++◌, None, Some, sym, ◌<◌, ◌∷◌, Bool, get_or, take, ◌≤◌}
pub use Rattle.std.proofs.Common.{◌==◌, Ok, Option, not, Err, append_assoc, cond, drop, subst, Result, append-nil, map, string_bytes, suc, ◌-◌, take_all, zero}
pub use Rattle.std.proofs.Common.{◌*◌, ◌||◌, add-one, filter, length-drop, nat_lt, ◌&&◌, ◌^◌, inl, inr, length-append, replicate, rules, ◌≢◌, ◌⊎◌, OnOk}
pub use Rattle.std.proofs.Common.{drop-drop, drop_at, get_or-drop, length-take, lit<, ltb, min, reverse, take_at, ◌/◌}
pub use Rattle.std.proofs.lemmas.Bool.Decides.{nat_tests}
pub use Rattle.std.proofs.lemmas.List.{map-append, get_or_append_left, get_or_at, get_or_default, get_or_past, length-map, length-replicate, reverse-append}
pub use Rattle.std.proofs.lemmas.List.{take_min, take_rest}
pub use Rattle.std.proofs.lemmas.List.Elements.{All-cons, All-from_get_or, All-head, All-nil, All-tail, filter-append, filter_more}
pub use Rattle.std.proofs.lemmas.List.Folds.{list_all-append, list_all_at, list_any-append, list_any_at}
pub use Rattle.std.specs.Char.{to_ascii_uppercase, digit_value}
pub use Rattle.std.specs.Fmt.{decimal, styled_decimal, format_spec}
pub use Rattle.std.specs.List.{list_all, flat_map, list_any, All, range_with_len, slice_split, after_first, before_first, onto_first, position_or_len, repeat}
pub use Rattle.std.specs.List.{slice_range, take_while}
pub use Rattle.std.specs.Option.{is_some, IfSome, option_or}
pub use Rattle.std.specs.Str.Parse.{digits_value, AllDigits}
pub use Rattle.f77_source.specs.{CardFields, continuations, is_label_character, AreCards, continuation_line, is_blank, is_initial, MayGoOn, card_faults}
pub use Rattle.f77_source.specs.{fits_label_field, is_bad_label, is_foreign, is_printable, label_field, no_lines, statement, IsFirstFormFault, column, comment}
pub use Rattle.f77_source.specs.{continuation_count, counted, has_foreign, has_tab, initial_line, is_line_end, piece, since_initial, statement_card, terminated}
pub use Rattle.f77_source.specs.{written, HasCardsOrFault, HasInitialLine, IsReadAs, IsRefusedBy, fault_of_card, is_continuation, is_initial_kind, squeezed}
pub use Rattle.f77_source.specs.{statement_field}
unfoldable pub use Rattle.f77_source.specs.{kind, own_fault, lines, field_number, is_comment, label_text, line_part, is_label_field, is_well_formed, line_fault}
unfoldable pub use Rattle.f77_source.specs.{place_fault, written_card, card_fault, label}
pub use Rattle.f77_source.specs.code.{Progress, Steps, all_cards, extended, nothing_read, card_begun, current_gone_on, initial_card, taken_by_kind}
pub use Rattle.f77_source.specs.code.{current_card, gone_on, progress_of}
unfoldable pub use Rattle.f77_source.specs.code.{taken}
pub use Rattle.f77_source.specs.declared.fault.FormFault.{FormFault}
pub use Rattle.f77_source.specs.declared.fault.FormFault.TheVariants.{TooManyContinuations, BadLabel, NotAscii, Memory, Tab, LooseContinuation, TooLarge}
pub use Rattle.f77_source.specs.declared.line.LineKind.{LineKind}
pub use Rattle.f77_source.specs.declared.line.LineKind.TheVariants.{Continuation, Initial, Comment}
