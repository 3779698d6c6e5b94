-- The names that most proofs cite, passed on from one place. It declares nothing.
pub use Rattle.std.proofs.Common.{◌≡◌, subst, List, sym, ◌∙◌, ap, map, arith, length, take, ℕ, All, None, Some, Bool, [], refl, slice_get, ◌<◌, ◌∷◌, inl, inr}
pub use Rattle.std.proofs.Common.{take_all, true, ◌++◌, false, get_or, true≢false, ◌+◌, ◌⊎◌, Contains, IsTrue, drop, length-take-le, not, rules, suc, zero, ◌↔◌}
pub use Rattle.std.proofs.Common.{◌≤◌, IfErr, IfOk, OnOk, Option, if◌then◌else◌, nat_eq, take-append-drop, ◌&&◌, ◌*◌, ◌-◌, ◌^◌, ◌||◌}
pub use Rattle.std.proofs.lemmas.List.Elements.{All-nil, All-push, Contains-append_left, Contains-push, Contains-push_cases, All-cons, All-get_or, All-head}
pub use Rattle.std.proofs.lemmas.List.Elements.{All-more, All-tail, Contains-get_or}
pub use Rattle.std.proofs.lemmas.Option.{same_Some, slice_get_read, none-some, option_and_then_some, slice_get_cases}
pub use Rattle.std.proofs.lemmas.Slice.Zip.{AllZip-long, all_zipped_more}
pub use Rattle.f77_check.specs.Checked.{CheckedFields, shapes}
pub use Rattle.f77_meaning.specs.Interpreter.{IsEnd, IsOutcomeOf, refusal, OneAnswer}
pub use Rattle.f77_meaning.specs.declared.argument.Arg.{Arg}
pub use Rattle.f77_meaning.specs.declared.outcome.Outcome.{Outcome}
pub use Rattle.f77_program.specs.Program.{line_of, LineFields}
pub use Rattle.f77_run.specs.Changed.{changed_program, ChangedFields}
pub use Rattle.f77_run.specs.Visits.{IsFollowed}
pub use Rattle.mothra_codes.specs.declared.ticket.Ticket.{Ticket}
pub use Rattle.mothra_ops.specs.Mutants.{program_of, MutantFields, mutant_fields, mutant_made, mutant_of, original_number}
pub use Rattle.mothra_ops.specs.Plan.{PlanFields, asked}
pub use Rattle.mothra_verdicts.specs.{IsAlone, BenchFields, FitsProgram, IsKill, IsVerdict, AreNamed, AreOutcomes, EndsOn, IsNoBench, AreFine}
pub use Rattle.mothra_verdicts.specs.{IsEntryTwice, IsFirstNot, IsItemVerdict, IsKnownEntry, IsNoVerdict, IsUnknownEntry, item_of, killed, mutated, survived}
pub use Rattle.mothra_verdicts.specs.code.{AddsTicket, AreTraces, IsNoEntry, IsNoted}
