-- The names that most proofs cite, passed on from one place. It declares nothing.
pub use Rattle.std.proofs.Common.{◌≡◌, ◌<◌, ℕ, ◌∙◌, sym, length, ap, arith, subst, refl, ◌+◌, List, [], rules, ◌≤◌, false, get_or, slice_index, ◌≢◌, ⊎_elim}
pub use Rattle.std.proofs.Common.{◌∷◌, Bool, eq-eqb, suc, true, zero, ◌⊎◌, eqb, inl, ne_eqb, true≢false, ◌++◌, set, inr, length-set, map, ◌*◌, ◌||◌, cond}
pub use Rattle.std.proofs.Common.{vec_capacity, ltb, not, take, eqb-true, length-append, slice_set, ◌&&◌, ◌-◌, ◌^◌}
pub use Rattle.std.proofs.lemmas.Bool.Decides.{nat_tests}
pub use Rattle.atomic_table.proofs.Lists.{at_set, at_last, at_longer, at_snoc, exchanged}
pub use Rattle.atomic_table.specs.Table.{Me, step, Allows, keeps, Act, Final, Joins, Seen, Splits, State, Valid, carried_after, stepped}
pub use Rattle.mothra_codes.proofs.Operators.{index_below, same_op, index-op_at, op_at-index}
pub use Rattle.mothra_codes.specs.Op.{index}
pub use Rattle.mothra_codes.specs.Ticket.{ticket, one_if, ticket_times, once_up_to, is_ticket}
pub use Rattle.mothra_codes.specs.code.Op.{op_at}
pub use Rattle.mothra_codes.specs.declared.op.Op.{Op}
pub use Rattle.mothra_codes.specs.declared.ticket.Ticket.{Ticket}
pub use Rattle.mothra_exchange.specs.{AtMost, opening_word, look_at, times_closed, InBounds, IsLegalLog, IsLive, IsSoundExchange, Knows, OpRule, first_look}
pub use Rattle.mothra_exchange.specs.{hands, largest_count, once_if_closed, pack, spent_view, take_answer, total, word_after_offer, word_after_take}
pub use Rattle.mothra_exchange.specs.{MayFollowEvents, close_answer, closes, closing, counts_of, history, offer_answer, offers, room, view_after_finding}
pub use Rattle.mothra_exchange.specs.{view_after_load, word_after_close, word_of, AllCountsFit, FitsWord, History, IsLegalAfter, KeepsLog, Loads, LostTo}
pub use Rattle.mothra_exchange.specs.{OfferDid, TakeDid, bit, closes_in, closes_operator, greater_word, joined_look, split_off_view, view_after_split}
pub use Rattle.mothra_exchange.specs.{with_look, words_used, AreOneTo, AreViewsInOrder, ChangesOnly, CloseDid, EndsAsViews, EndsAt, IsOffered, IsOneOfViews}
pub use Rattle.mothra_exchange.specs.{IsOver, IsWordOf, MergesWell, ShowOneLog, ShowsLog, StandsInNone, StandsInOne, Tallies, TalliesLog, field, hands_in}
pub use Rattle.mothra_exchange.specs.{joined_looks, log_after_close, log_after_offer, offers_in, one_to, operator_word, taken_in, taken_of, united_view}
pub use Rattle.mothra_exchange.specs.{used_by, view_after_close, view_after_offer, view_after_take, whole_view}
pub use Rattle.mothra_exchange.specs.code.{HoldsRule, AgreesWithViews, ChangeOfTable, Exchanges, IsNewChange, merging_view, settled_view, view_after, HasLoaded}
pub use Rattle.mothra_exchange.specs.code.{Looks, Loses, MayChange, Settles, Wins, a_close, a_take, an_offer, word_after}
pub use Rattle.mothra_exchange.specs.declared.answer.Close.TheVariants.{Done, Already}
pub use Rattle.mothra_exchange.specs.declared.answer.Offer.TheVariants.{Accepted, Full, OutOfTurn, PastEnd}
pub use Rattle.mothra_exchange.specs.declared.answer.Take.TheVariants.{Taken, Empty, Finished, Busy, GaveUp}
pub use Rattle.mothra_exchange.specs.declared.log.Event.{Event}
pub use Rattle.mothra_exchange.specs.declared.log.Event.TheVariants.{Closed, Handed, Offered}
pub use Rattle.mothra_exchange.specs.declared.view.Look.{Look}
pub use Rattle.mothra_exchange.specs.declared.view.View.{View}
pub use Rattle.mothra_exchange.specs.declared.word.Word.{Word}
pub use lib.ListN.{get_elem?}
pub use mathlib.Core.Logic.{dite}
pub use mathlib.Core.Option.{some, none, some-injective, some-ne-none, Option}
pub use native.Mathlib.Decide.{ℕ_discrete, dec_le}
