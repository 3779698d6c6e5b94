-- The names that most clauses cite, passed on from one place. It declares nothing.
pub use Rattle.std.specs.Fmt.{signed_decimal, decimal}
pub use Rattle.std.specs.Option.{option_map_or}
pub use Rattle.clap.specs.Words.{Text}
pub use Rattle.equivalents_app.specs.declared.words.Inquiry.{Inquiry}
pub use Rattle.f77_meaning.specs.Interpreter.{IsEnd, IsOutcomeOf}
pub use Rattle.f77_meaning.specs.declared.argument.Arg.{Arg}
pub use Rattle.f77_program.specs.Program.{line_of, LineFields}
pub use Rattle.mothra_app.specs.Answer.{IsTask, Outcome, Promise}
pub use Rattle.mothra_app.specs.Fault.{of_mutants}
pub use Rattle.mothra_app.specs.Listing.{asked_total}
pub use Rattle.mothra_app.specs.Program.{IsPlanned}
pub use Rattle.mothra_app.specs.Stages.{GivesOutcome, InTurn}
pub use Rattle.mothra_codes.specs.Ticket.{ticket}
pub use Rattle.mothra_codes.specs.declared.op.Op.{Op}
pub use Rattle.mothra_codes.specs.declared.ticket.Ticket.{Ticket}
pub use Rattle.mothra_equivalents.specs.declared.equivalents.Equivalent.{Equivalent}
pub use Rattle.mothra_equivalents.specs.declared.equivalents.Found.{Found}
pub use Rattle.mothra_equivalents.specs.declared.unproved.Unproved.{Unproved}
pub use Rattle.mothra_job.specs.Job.{job_of, JobFields, JobRead}
pub use Rattle.mothra_ops.specs.Mutants.{program_of, mutant_text, original_number, mutant_name}
pub use Rattle.mothra_ops.specs.Plan.{PlanFields}
