-- The names that most proofs cite, passed on from one place. It declares nothing.
pub use Rattle.std.proofs.Common.{◌≡◌, ◌∙◌, ap, List, length, subst, sym, ◌++◌, refl, [], arith, ℕ, true, All, take, ◌∷◌, ◌+◌, Some, ◌<◌, ◌≤◌, Bool, false}
pub use Rattle.std.proofs.Common.{None, get_or, rules, Option, inr, eqb, inl, suc, cond, IfSome, slice_index, ⊎_elim, ◌&&◌, ◌≢◌, Contains, append_assoc, ◌⊎◌}
pub use Rattle.std.proofs.Common.{append-nil, map, slice_get, true≢false, zero, AllPairs, IfNone, IfOk, IsSome, MatchOption, drop, slice_set, Ok, Result, Vec}
pub use Rattle.std.proofs.Common.{eq-eqb, eqb-true, length-set, Err, Global, IfErr, not, set, ◌-◌, codes, is_some, length-append, ltb, ltb-true, option_to_list}
pub use Rattle.std.proofs.Common.{take_all, IsOkAnd, IsTrue, MatchResult, get_or-drop, get_or-take, is_none, length-take-le, ltb-false, vec_capacity, ◌*◌, ◌^◌}
pub use Rattle.std.proofs.Common.{◌↔◌}
pub use Rattle.std.proofs.lemmas.Bool.Decides.{nat_tests, eqb_tells}
pub use Rattle.std.proofs.lemmas.List.{take_more, map-append, get_or-map, get_or_default, length_push, map_more, map_push}
pub use Rattle.std.proofs.lemmas.List.Elements.{All-nil, All-append, All-cons, All-weaker, All-contains, filter-append, All-tail, Contains-append_right}
pub use Rattle.std.proofs.lemmas.List.Elements.{All-filter, All-head, All-map, All-push, Contains-append_cases, Contains-append_left, Contains-get_or}
pub use Rattle.std.proofs.lemmas.Option.{slice_get_read, none-some, same_Some, slice_get-get_or, slice_get_cases, slice_get_within}
pub use Rattle.std.specs.List.{flat_map, filter}
pub use Rattle.std.specs.Option.{option_and_then, option_flatten, option_map_or}
pub use Rattle.std.specs.String.{string_bytes}
pub use Rattle.std.specs.Vec.Iter.{into_iter_items, into_iter_len}
pub use Rattle.mothra_bench.specs.{AreVerdicts, counts, tickets_in, OnlyGave, count_of, AreOver, IsOwn, AreCounts, IsKnown, IsNoDrive, entries_of}
pub use Rattle.mothra_bench.specs.{is_row_of, rows_of, seen_of, AreCollected, IsFed, IsNoMatrix, operator_line, AreComplete, AreFed, HasClosed}
pub use Rattle.mothra_bench.specs.{HasOffered, IsFirstDouble, IsFirstMissing, IsNoWork, IsReport, IsWhole, NamesTaken, OnlyTook, counts_line, mutant_line}
pub use Rattle.mothra_bench.specs.{report_text, row_of, score_line, score_of, survivor_line, wrong_line, AreEntries, AreFirstItems, AreFresh, Counts}
pub use Rattle.mothra_bench.specs.{HasHistory, IsCollected, IsFirstStranger, IsNoReport, IsReadyPass, IsStalled, IsUntouched, KeepsLists, NamesFirst}
pub use Rattle.mothra_bench.specs.{NeverClosed, NoDouble, TookRows, bit_of, bits_of, complete_word, entry_lines, heading, is_entry_of, line, operator_lines}
pub use Rattle.mothra_bench.specs.{plan_counts, score_text}
pub use Rattle.mothra_bench.specs.code.{ticket_row, Closes, IsEntry, IsShare, LooksOnly, ShowsStage, Went, stage_of, AllShow, AreClosed, AreShared, HasRows}
pub use Rattle.mothra_bench.specs.code.{IsDone, row_at, AddsRow, AreNoEntries, IsFirstAbsent, IsHere, IsNewPass, KeepsFed, OnlySplit, Shuts, AddsRows, Drives}
pub use Rattle.mothra_bench.specs.code.{IsFull, JoinsPass, Takes, answer_of, listed_row}
pub use Rattle.mothra_bench.specs.declared.matrix.Entry.{Entry}
pub use Rattle.mothra_bench.specs.declared.row_map.RowMap.{RowMap}
pub use Rattle.mothra_codes.proofs.Operators.{index_below, same_op, op_at-index, index-op_at}
pub use Rattle.mothra_codes.specs.Op.{index, all_ops}
pub use Rattle.mothra_codes.specs.Ticket.{ticket, ticket_times, Before, one_if, once_up_to, is_ticket}
pub use Rattle.mothra_codes.specs.code.Op.{op_at}
pub use Rattle.mothra_codes.specs.declared.op.Op.{Op}
pub use Rattle.mothra_codes.specs.declared.op.Op.TheVariants.{Aar, Abs}
pub use Rattle.mothra_codes.specs.declared.ticket.Ticket.{Ticket}
pub use Rattle.mothra_exchange.proofs.Counting.{times-append, get_or-set_else, get_or-set_there, AtMost-refl, AtMost-trans, is_closing-own, is_ticket-own}
pub use Rattle.mothra_exchange.proofs.Counting.{once_up_to-most, once_up_to-suc, times-more, times_closed-append, times_closed-more}
pub use Rattle.mothra_exchange.proofs.Others.{close_only, offer_only}
pub use Rattle.mothra_exchange.specs.Gate.{TakeKept, CloseKept, OfferKept}
pub use Rattle.mothra_exchange.specs.Law.{ChangesOnly, HaveSame, IsShownInLog, IsWordOf}
pub use Rattle.mothra_exchange.specs.Sharing.{IsOver}
pub use Rattle.mothra_exchange.specs.View.{times_closed, closing, look_at, view_after_load, once_if_closed, split_off_view, view_after_finding}
pub use Rattle.mothra_exchange.specs.View.{view_after_split, whole_part}
pub use Rattle.mothra_exchange.specs.Word.{AtMost, word_after_close, word_after_offer}
pub use Rattle.mothra_exchange.specs.declared.view.Look.{Look}
pub use Rattle.mothra_exchange.specs.declared.view.View.{View}
pub use Rattle.mothra_exchange.specs.declared.word.Word.{Word}
pub use Rattle.mothra_ops.specs.Mutants.{program_of, MutantFields, mutant_made, mutant_of}
pub use Rattle.mothra_ops.specs.Tickets.{tickets_of}
pub use Rattle.mothra_ops.specs.Plan.{PlanFields, edits_of, IsPlan, asked, ListFields, list_of_operator}
pub use Rattle.mothra_verdicts.specs.Bench.{BenchFields, IsDeclared}
pub use Rattle.mothra_verdicts.specs.Verdict.{HasMutant, IsNoVerdict, IsKill, IsVerdict, mutated}
pub use Rattle.mothra_verdicts.specs.declared.fault.BenchFault.{BenchFault}
pub use Rattle.mothra_verdicts.specs.declared.verdict.Row.{Row}
pub use denote.Param.Send.{arg_send, param_send, param_sync, shr_send, IsSend, IsSync, recorded_send, sendable, shr_slice_send, struct_send}
