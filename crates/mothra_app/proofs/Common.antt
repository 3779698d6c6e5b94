-- The names that most proofs cite, passed on from one place. It declares nothing.
pub use Rattle.std.proofs.Common.{◌≡◌, sym, ℕ, subst, List, ◌∙◌, Err, Ok, ap, refl, string_bytes, [], Contains, ◌++◌, inr, ◌⊎◌, arith, inl, map, Result, Some}
pub use Rattle.std.proofs.Common.{length, ◌∷◌, ◌≤◌, false, true, None, ◌+◌, ◌<◌, Bool, Option, append_assoc, codes, ◌↔◌, All, IsTrue, suc, MatchResult}
pub use Rattle.std.proofs.Common.{append-nil, drop, filter, flat_map, get_or, length-append, ◌≢◌, Global, IfOk, IfSome, IsErrAnd, String, ap₂, cond, rules, sum}
pub use Rattle.std.proofs.Common.{true≢false, zero, OnOk, add-one, add-zero, chars, drop-cons, encode_utf8_all, eqb-true, if◌then◌else◌, is_some, lt-ltb}
pub use Rattle.std.proofs.Common.{ltb-false, ltb-true, nat_lt, take, ◌*◌, ◌==◌, ◌||◌}
pub use Rattle.std.proofs.lemmas.List.{get_or_append_left, drop_all, length_push}
pub use Rattle.std.proofs.lemmas.List.Elements.{All-cons, All-nil, All-contains, All-head, All-tail, filter_agree}
pub use Rattle.std.specs.List.{slice_get, enumerate_from}
pub use Rattle.clap.specs.Words.{Text, fault_of}
pub use Rattle.f77_check.specs.Checked.{CheckedFields, shapes}
pub use Rattle.f77_meaning.specs.Interpreter.{refusal, IsOutcomeOf, OneAnswer}
pub use Rattle.f77_meaning.specs.declared.argument.Arg.{Arg}
pub use Rattle.f77_meaning.specs.declared.outcome.Outcome.{Outcome}
pub use Rattle.f77_meaning.specs.declared.outcome.RunFault.{RunFault}
pub use Rattle.f77_program.specs.Program.{LineFields, line_of}
pub use Rattle.f77_source.specs.Read.{AreCards}
unfoldable pub use Rattle.f77_source.specs.Read.{lines}
pub use Rattle.mothra_app.specs.{AreCardsOf, GivesOutcome, InTurn, IsAnswer, IsAnswered, IsBenched, IsBenchIn, IsBenchOf, IsCommandOutcome, IsExecuted, IsFairAnswer}
pub use Rattle.mothra_app.specs.{IsJudged, IsLegalJob, IsLegalProgramOf, IsListed, IsListOf, IsOutcomeAnswer, IsOutOfResources, IsPlanIn, IsPlanned, IsPlanOf}
pub use Rattle.mothra_app.specs.{IsPrinted, IsProgramIn, IsProgramOf, IsReadFor, IsRefusal, IsReported, IsReportOf, IsRequestOutcome, IsRunLine, IsServed}
pub use Rattle.mothra_app.specs.{IsTestLine, IsTestOf, IsTextOf, MayBeWritten, Promise, ReportsJob, arguments_text, asked_lines, asked_ops, asked_total}
pub use Rattle.mothra_app.specs.{bad_operators, command_faults, count_line, faults_in_place, first_or, listed_line, listing_lines, mothra_promise}
pub use Rattle.mothra_app.specs.{of_legal_programs, of_mutants, of_programs, of_reports, of_runs, outcome_line, outcome_text, plan_lines, plan_text}
pub use Rattle.mothra_app.specs.{shown_character, total_line}
unfoldable pub use Rattle.mothra_app.specs.{fault_line}
pub use Rattle.mothra_app.specs.declared.fault.Fault.{Fault}
pub use Rattle.mothra_app.specs.declared.fault.Fault.TheVariants.{Ops, Syntax, Bench, Check, Form, Run, Job}
pub use Rattle.mothra_app.specs.declared.status.Status.{Status}
pub use Rattle.mothra_bench.specs.Analysis.{IsNoReport, IsReport}
pub use Rattle.clap.specs.Kinds.{HasKind}
pub use Rattle.mothra_cli.specs.Asking.{AsksFor, HasBadOperators, IsFaultOf, meaning_of, request_in}
pub use Rattle.mothra_cli.specs.Request.{IsBounded, mothra_line}
pub use Rattle.mothra_cli.specs.declared.request.Request.{Request}
pub use Rattle.mothra_codes.specs.Op.{all_ops, index}
pub use Rattle.mothra_codes.specs.code.Op.{op_at}
pub use Rattle.mothra_codes.specs.declared.op.Op.{Op}
pub use Rattle.mothra_job.specs.Job.{JobFields, JobRead, test_at}
unfoldable pub use Rattle.mothra_job.specs.Job.{job_of, job_faults}
pub use Rattle.mothra_ops.specs.Edits.{IsList, IsTooLong, most_edits, most_whole, thinned, IsCountedList, IsMember, Lists, numbered}
pub use Rattle.mothra_ops.specs.Mutants.{program_of, edit_text, mutant_made, mutant_name, mutant_of, mutant_text, original_number}
pub use Rattle.mothra_ops.specs.Plan.{PlanFields, asked, edits_of, IsFirstTooLong, IsNoPlan, IsPlan, ListFields, list_of_operator, whole_of}
pub use Rattle.mothra_ops.specs.declared.edit.Edit.{Edit}
pub use Rattle.mothra_verdicts.specs.Bench.{BenchFields, IsNoBench, AreFine, EndsOn, FitsProgram, IsFirstNot, AreOutcomes, IsDeclared, IsEntryTwice}
pub use Rattle.mothra_verdicts.specs.Bench.{IsKnownEntry, IsUnknownEntry}
pub use Rattle.mothra_verdicts.specs.declared.fault.BenchFault.{BenchFault}
