-- The names that most proofs cite, passed on from one place. It declares nothing.
pub use Rattle.std.proofs.Common.{◌≡◌, ◌≢◌, ◌≤◌, ◌<◌, ◌+◌, ◌++◌, ◌∙◌, ℕ, List, [], ◌∷◌, All, AllPairs, Option, Some, None, IfSome, IsSome, inl, inr}
pub use Rattle.std.proofs.Common.{arith, false, get_or, length, map, rules, subst, sym, true≢false, ap, refl, Err, IfOk, Ok, Result}
pub use Rattle.std.specs.Result.{is_err}
pub use Rattle.f77_check.specs.Checked.{CheckedFields}
pub use Rattle.f77_meaning.specs.Interpreter.{AreFitting}
pub use Rattle.f77_meaning.specs.declared.argument.Arg.{Arg}
pub use Rattle.mothra_codes.specs.Ticket.{Before}
pub use Rattle.mothra_codes.specs.declared.ticket.Ticket.{Ticket}
pub use Rattle.mothra_equivalents.specs.{AreEquivalents, AreUnprovedFor, IsNamed, IsUnprovedOf}
pub use Rattle.mothra_equivalents.specs.declared.equivalents.Equivalent.{Equivalent}
pub use Rattle.mothra_equivalents.specs.declared.unproved.Unproved.{Unproved}
pub use Rattle.mothra_ops.specs.Mutants.{mutant_fields, mutant_of}
pub use Rattle.mothra_ops.specs.Plan.{PlanFields}
