-- What the words of the command line of `mothra` ask for.
use Rattle.std.specs.Prelude.{◌≤◌, ℕ, ◌^◌, ◌&&◌, nat_lt, List, Option}
use Rattle.std.specs.Prelude.{Some, None, ⊤, codes, if◌then◌else◌, option_and_then}
use Rattle.std.specs.Option.{option_map_or}
use Rattle.std.specs.Str.{bytes_eq}
use Rattle.std.specs.Str.Parse.{digits_value, without_leading_plus}
use Rattle.clap.specs.Words.{Row, Text, first_of, one_of, subcommand_of}
use Rattle.clap.specs.ValueTests.{is_numeral}
use Rattle.mothra_codes.specs.Op.{all_ops}
use Rattle.mothra_codes.specs.declared.op.Op.{Op}
use Rattle.mothra_cli.specs.Command.{mothra}
use Rattle.mothra_cli.specs.Asking.{CommandLine, Meaning, bad_operators, refused, request}
use Rattle.mothra_cli.specs.Operators.{operators_of}
use Rattle.mothra_cli.specs.declared.request.Request.{Request}
use Rattle.mothra_cli.specs.declared.request.Request.TheVariants as command

-- the number that a text of digits writes, where it has at most 32 bits
abbrev pub number_meant : Text → Option ℕ
number_meant text =
    let digits = without_leading_plus text in
    if is_numeral digits && nat_lt (digits_value 10 digits) (2 ^ 32)
    then Some (digits_value 10 digits) else None

-- the number that the option of this name has
abbrev pub option_number : Text → List Row → Option ℕ
option_number name rows = option_and_then number_meant (one_of name rows)

-- the operators that `--ops` names, or all where it is absent
abbrev pub operators_at : List Row → Option (List Op)
operators_at rows = option_map_or operators_of (first_of (codes "ops") rows) (Some all_ops)

-- the meaning of `exec` with these numbers, both of which have to be there
abbrev pub exec_meaning : Option ℕ → Option ℕ → Meaning Request
exec_meaning (Some test) (Some steps) = request (command.Exec test steps)
exec_meaning _ _ = refused

-- the meaning of `list` with these operators and this number, which has to be there
abbrev pub list_meaning : Option (List Op) → Option ℕ → Meaning Request
list_meaning None every = bad_operators
list_meaning (Some operators) (Some every) = request (command.List operators every)
list_meaning (Some operators) None = refused

-- the meaning of `run` with these operators and these numbers, which have to be there
abbrev pub run_meaning : Option (List Op) → Option ℕ → Option ℕ → Option ℕ → Meaning Request
run_meaning None every steps workers = bad_operators
run_meaning (Some operators) (Some every) (Some steps) (Some workers) =
    request (command.Run operators every steps workers)
run_meaning (Some operators) _ _ _ = refused

-- the meaning of `run` with these options
abbrev pub run_options : List Row → Meaning Request
run_options rows =
    run_meaning (operators_at rows) (option_number (codes "every") rows)
    (option_number (codes "steps") rows) (option_number (codes "workers") rows)

-- the meaning of the subcommand of this name with these options
abbrev pub subcommand_meaning : Text × List Row → Meaning Request
subcommand_meaning (name, rows) =
    if bytes_eq name (codes "print") then request command.Print
    else (if bytes_eq name (codes "exec")
    then exec_meaning (option_number (codes "test") rows) (option_number (codes "steps") rows)
    else (if bytes_eq name (codes "list")
    then list_meaning (operators_at rows) (option_number (codes "every") rows)
    else (if bytes_eq name (codes "run") then run_options rows
    else refused)))

-- the numbers of the request are within the bounds of their options
abbrev pub IsBounded : Request → Type 0
IsBounded command.Print = ⊤
IsBounded (command.Exec test steps) = (1 ≤ test) × (test ≤ 256) × (1 ≤ steps) × (steps ≤ 1000000)
IsBounded (command.List operators every) = (1 ≤ every) × (every ≤ 1048575)
IsBounded (command.Run operators every steps workers) =
    (1 ≤ every)
    × (every ≤ 1048575) × (1 ≤ steps) × (steps ≤ 1000000) × (1 ≤ workers) × (workers ≤ 32)

-- Rule: the words
-- what the words of `mothra` mean: they are a subcommand with its options
abbrev pub mothra_line : CommandLine Request
mothra_line = record {
  app = mothra;
  meaning = λ words. option_map_or subcommand_meaning (subcommand_of mothra words) refused;
  IsBounded = IsBounded;
}
