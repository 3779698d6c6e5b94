-- The names that most proofs cite, passed on from one place. It declares nothing.
pub use Rattle.std.proofs.Common.{arith, ◌≡◌, ℕ, ◌<◌, length, subst, List, Some, slice_get, sym, slice_set, ◌∙◌, ◌⊎◌, inl, inr, Option, ◌≤◌, ◌+◌}
pub use Rattle.std.proofs.Common.{◌≢◌, refl, rules, tests, ap, zero, suc, [], ◌∷◌, get_or, Bool, true, false, MatchBool}
pub use Rattle.std.proofs.lemmas.Option.{slice_get_within, slice_get_read}
pub use Rattle.f77_code.specs.Evaluation.{held_in}
pub use Rattle.f77_code.specs.Moves.{Cells}
pub use Rattle.f77_facts.specs.{SuitsFact, Implies, AreIn, Lies}
