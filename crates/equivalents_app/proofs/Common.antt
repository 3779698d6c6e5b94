-- The names that most proofs cite, passed on from one place. It declares nothing.
pub use Rattle.std.proofs.Common.{◌≡◌, subst, string_bytes, List, ℕ, arith, ◌∙◌, refl, sym, map, ◌++◌, [], rules, true, ap, Option, Some, None, take, false}
pub use Rattle.std.proofs.Common.{◌∷◌, inl, inr, codes, suc, Bool, length, IfSome, Ok, flat_map, ◌+◌, zero, get_or, All, ◌≤◌, ◌<◌, true≢false}
pub use Rattle.std.proofs.Common.{option_map, ◌^◌, unwrap_or, ◌-◌, ◌==◌, cond, leb-true, filter, IsSome, ◌≤ℤ◌, ◌&&◌, ℤ}
pub use Rattle.std.proofs.Common.{pos, negsuc, int_le, if◌then◌else◌, option_and_then}
pub use Rattle.std.proofs.Common.{◌≢◌, ap₂, nat_le}
pub use Rattle.std.proofs.lemmas.Bool.{eqb-true, lt-ltb}
pub use Rattle.std.proofs.lemmas.List.Elements.{All-cons, All-nil, All-head, All-tail, All-filter, All-more, All-weaker, filter_passes}
pub use Rattle.std.proofs.lemmas.Result.{IfOk-weaker}
pub use Rattle.std.specs.List.{list_any, list_all}
pub use Rattle.std.specs.Option.{option_or}
pub use Rattle.clap.specs.Words.{fault_of, Text, matches_of, App, app_of, Row, is_simple, is_simple_and_free, FailsBy, found_of, with_rule}
pub use Rattle.equivalents_app.specs.{LeavesRoom, LeavesRoomOn, IsNamedIn, HasRoom, NoTestKills, AreNamedMutants}
pub use Rattle.equivalents_app.specs.{equivalents_line, flag_at, options_meaning, equivalent_line, left_lines, row_line, row_lines}
unfoldable pub use Rattle.equivalents_app.specs.{equivalents}
pub use Rattle.equivalents_app.specs.declared.words.Inquiry.{Inquiry}
pub use Rattle.f77_check.specs.Checked.{CheckedFields, shapes}
pub use Rattle.f77_equivalence.specs.Equivalent.{IsEquivalentWithin, KeepsEndsWithin}
pub use Rattle.f77_meaning.specs.Interpreter.{IsEnd, IsOutcomeOf, AreFitting, OneAnswer, first_misfit, refusal, values_in, Reports}
pub use Rattle.f77_meaning.specs.declared.argument.Arg.{Arg}
pub use Rattle.f77_meaning.specs.declared.outcome.Outcome.{Outcome}
pub use Rattle.f77_program.specs.Program.{LineFields, line_of}
pub use Rattle.mothra_app.specs.Fault.{of_mutants}
pub use Rattle.mothra_app.specs.Program.{IsPlanned}
pub use Rattle.mothra_app.specs.Stages.{InTurn}
pub use Rattle.mothra_equivalents.specs.Equivalents.{AreUnprovedFor}
pub use Rattle.mothra_equivalents.specs.declared.unproved.Unproved.{Unproved}
pub use Rattle.mothra_job.specs.Job.{JobFields, JobRead, job_fields, json_of, suite_in}
unfoldable pub use Rattle.mothra_job.specs.Job.{job_of, job_faults}
pub use Rattle.mothra_ops.specs.Mutants.{program_of, MutantFields}
pub use Rattle.mothra_ops.specs.Plan.{PlanFields}
