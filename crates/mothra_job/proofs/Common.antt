-- The names that most proofs cite, passed on from one place. It declares nothing.
pub use Rattle.std.proofs.Common.{◌≡◌, Some, ◌++◌, ap, ◌∙◌, List, [], drop, sym, ◌∷◌, option_map, refl, map, Option, length, ℕ, Err, None, false, subst, ◌+◌}
pub use Rattle.std.proofs.Common.{◌≤◌, Bool, Ok, rules, true, ◌<◌, Result, arith, inl, inr, suc, ◌⊎◌, ap₂, codes, cond, get_or, le-ltb, lt-ltb, option_and_then}
pub use Rattle.std.proofs.Common.{true≢false, Global, IfSome, IsUtf8, String, add-one, append-nil, append_assoc, bytes_eq, drop-cons, filter_map, find, le-leb}
pub use Rattle.std.proofs.Common.{leb-true, lit<, ltb-false, nat_le, nat_lt, not, string_bytes, take, unwrap_or, zero, ℤ, ◌&&◌, ◌==◌, ◌^◌, ◌≢◌}
pub use Rattle.mothra_job.specs.{each, fault_or, JobRead, tests_of, JobFields, entry_faults, integer, list_faults, test_faults, data_listed, job_fields}
pub use Rattle.mothra_job.specs.{job_with, json_of, tickets_named, unknown_keys, value_faults, absent, argument, array_of_items, count_faults, equivalent_in}
pub use Rattle.mothra_job.specs.{if_named, is_known, job_size_faults, listed_values, member_faults, object_faults, source_in, suite_in, test, ticket_text}
unfoldable pub use Rattle.mothra_job.specs.{suite_faults, job_faults, job_of, named}
pub use Rattle.mothra_job.specs.declared.job.JobFault.{JobFault}
pub use Rattle.mothra_job.specs.declared.job.JobFault.TheVariants.{Memory, Key, TooManyTests, TooLarge}
pub use Rattle.serde_json.specs.Data.{Data, Members}
pub use Rattle.serde_json.specs.Find.{as_bool, as_array, as_object, as_str, get}
pub use Rattle.serde_json.specs.View.{items_view, view, items_of, members_view}
pub use Rattle.serde_json.specs.declared.value.Value.{Value}
