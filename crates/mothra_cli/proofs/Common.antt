-- The names that most proofs cite, passed on from one place. It declares nothing.
pub use Rattle.std.proofs.Common.{◌≡◌, ap, ◌∙◌, None, Some, refl, List, Option, false, rules, true, ℕ, ◌≤◌, [], subst, ◌++◌, Bool, bytes_eq, codes, cond}
pub use Rattle.std.proofs.Common.{length, sym, ◌∷◌, IfSome, ap₂, arith, find, is_some, lt-ltb, option_and_then, take, ◌&&◌, ◌+◌, ◌-◌, ◌<◌, Err, Ok, drop, fold}
pub use Rattle.std.proofs.Common.{map, not, option_map, slice_get, true≢false, ◌^◌, IsSome, Result, append-nil, append_assoc, encode_utf8, filter_map, inl, inr}
pub use Rattle.std.proofs.Common.{leb-true, length-append, length-take-le, lit<, lt_of_le_of_lt, ltb-true, min, nat_lt, ne_eqb, suc, vec_len, zero, ◌==◌, ◌||◌}
pub use Rattle.std.proofs.Common.{◌⊎◌}
pub use Rattle.std.specs.Io.KnownBytes.{Appends, Consumes}
pub use Rattle.std.specs.List.{list_all, list_any, slice_split}
pub use Rattle.std.specs.Option.{option_map_or}
pub use Rattle.std.specs.Str.Parse.{ParsesUnsigned, digits_value, without_leading_plus, AllDigits, ExplainsUnsignedError, HasUnsignedDigitsIfOk, IsNumeral}
pub use Rattle.clap.specs.Simple.{Shape, built, argument_words, entered, label_of, names_of, rows_at}
pub use Rattle.clap.specs.ValueTests.{is_unsigned_in, accepts, is_numeral}
pub use Rattle.clap.specs.Words.{App, Text, app_of, fault_of, found_of, subcommand_of, FailsBy, Row, first_of, is_simple, is_simple_and_free, new_app, rows_of}
pub use Rattle.clap.specs.Words.{with_rule, with_subcommand}
pub use Rattle.mothra_cli.specs.{number_meant, has_failed, inside, CommandLine, AsksFor, IsFaultOf, Meaning, bad_operators, comma, list_meaning, mothra_line}
pub use Rattle.mothra_cli.specs.{operator_of, operators_at, operators_of, refused, request, request_in, run_meaning, subcommand_meaning}
unfoldable pub use Rattle.mothra_cli.specs.{mothra, meaning_of}
