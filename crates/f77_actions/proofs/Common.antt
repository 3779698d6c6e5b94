-- The names that most proofs cite, passed on from one place. It declares nothing.
pub use Rattle.std.proofs.Common.{FitsSigned, w64, rules, Ok, arith, ◌≡◌, pos, sym, ℤ, false, negsuc, true, ◌∙◌, Bool, Err, refl, w32, ◌<ℤ◌, ◌^◌, ◌≤ℤ◌, Result}
pub use Rattle.std.proofs.Common.{ap, if◌then◌else◌, lt-ltb, ltb-true, subst, ◌*ℤ◌, ◌<◌, ◌≤◌, int_div, of_z, suc, unsigned_abs, zero, ◌+ℤ◌, ◌-ℤ◌, ◌≢◌, None}
pub use Rattle.std.proofs.Common.{Option, Some, int_rem, to_z, zero-add, ℕ, ◌%◌, ◌*◌, ◌+◌, ◌-◌, ◌/◌}
pub use Rattle.std.proofs.lemmas.Int.{to_z-of_z, ints, fits_signed_mul, unsigned_abs-mul}
pub use Rattle.f77_actions.specs.{fits, Encodes, IsValueOrFault, code, in_range, both, exact_power, is_below, operation_fault, HasValue, fault_number, power}
pub use Rattle.f77_actions.specs.{power_of, quotient, truth_number}
pub use Rattle.f77_actions.specs.declared.finish.Fault.{Fault}
pub use Rattle.f77_actions.specs.declared.finish.Fault.TheVariants.{Overflow, BadSubscript, DivideByZero, Trapped, Undefined, ZeroPower, ZeroStep}
