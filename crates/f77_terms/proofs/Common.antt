-- The names that most proofs cite, passed on from one place. It declares nothing.
pub use Rattle.std.proofs.Common.{arith, w64, SFits, ◌*ℤ◌, rules, ◌≡◌, sym, ap, ◌∙◌, ◌+ℤ◌, ℤ, inl, inr, subst, pos, take, suc, ℕ, zero, ◌<◌, ◌+◌, List, refl}
pub use Rattle.std.proofs.Common.{[], All, ◌∷◌, slice_get, ◌⊎◌, negsuc, ◌++◌, length, Some, ◌≢◌, ◌≤ℤ◌, unsigned_abs, length-append, get_or, ◌≤◌, Bool, int_rem}
pub use Rattle.std.proofs.Common.{◌-ℤ◌, ◌<ℤ◌, ◌-◌, Option, None, IfSome, int_div, Any, true, false, int_lt, if◌then◌else◌, length-drop, drop}
pub use Rattle.std.proofs.Common.{add-one, Result, Ok, Err, IfOk, ◌*◌}
pub use Rattle.std.proofs.Math.IntN.{*ℤ-zero, zero-*ℤ, *ℤ_comm, neg_ℤ, *ℤ-negsuc}
pub use Rattle.std.proofs.lemmas.Int.{ints, to_z-of_z, clamps, rem_below, quot-rem, quot_is, rem_is, quot_fits, by_lt_z}
pub use Rattle.std.proofs.lemmas.List.{get_or_append_left, take_all, get_or-append-add, take_more}
pub use Rattle.std.proofs.lemmas.List.Elements.{All-push, All-set, same_from_all_zip, length_all_zip, AllZip-get_or}
pub use Rattle.std.specs.List.{remove, insert, AllZip}
pub use Rattle.f77_terms.specs.{Valuation, parts_value, sum_value, IsBelow, AreBelow, AreKnown, part_value, HasCase, IsUnequal, IsIn}
pub use Rattle.f77_terms.specs.{Numbers, AreOfAtomsBelow, IsOfAtomsBelow, IsOfEarlierAtoms, slot_behind, function_value, key_value, LiesBetween}
pub use Rattle.f77_terms.specs.code.{IsToward}
pub use Rattle.f77_terms.specs.{Holds}
pub use Rattle.f77_terms.specs.declared.terms.Part.{Part}
pub use Rattle.std.proofs.lemmas.Option.{slice_get_read}
