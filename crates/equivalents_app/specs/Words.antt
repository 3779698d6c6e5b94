-- The command line of `equivalents`, which has no subcommand, and what its words ask for.
use Rattle.std.specs.Prelude.{◌≤◌, ℕ, Bool, true, false, [], ◌∷◌, List, Option, Some, None, codes}
use Rattle.std.specs.Str.{bytes_eq}
use Rattle.equivalents_app.specs.Prelude.{option_map_or, Text, Op, Inquiry}
use Rattle.clap.specs.Words.{App, Row, Rule, first_of, matches_of, new_rule}
use Rattle.clap.specs.Simple.{new_shape}
use Rattle.clap.specs.declared.builder.action.ArgAction.TheVariants.{SetTrue}
use Rattle.clap.specs.declared.builder.value_parser.ValueParser.TheVariants.{Unsigned}
use Rattle.mothra_cli.specs.Command.{every_rule, ops_rule, steps_rule}
use Rattle.mothra_cli.specs.Asking.{CommandLine, Meaning, bad_operators, refused, request}
use Rattle.mothra_cli.specs.Request.{option_number, operators_at}

-- `--json`, which takes no value
abbrev pub json_rule : Rule
json_rule = record (new_rule (codes "json")) { long = Some (codes "json"); action = Some SetTrue }

-- `--rows`: how many rows are written for a mutant at most, 1 to 64; none where it is absent
abbrev pub rows_rule : Rule
rows_rule = record (new_rule (codes "rows")) {
  long = Some (codes "rows");
  parser = Some (Unsigned 1 64);
}

unfoldable pub equivalents : App
equivalents = record {
  top = record (new_shape (codes "equivalents")) {
    has_version = true;
    rules = ops_rule
        ∷ every_rule ∷ steps_rule ∷ json_rule ∷ rows_rule ∷ [];
  };
  subs = [];
}

-- whether the option of this name, which takes no value, was given
abbrev pub flag_at : Text → List Row → Bool
flag_at name rows = option_map_or (λ text. bytes_eq text (codes "true")) (first_of name rows) false

-- the meaning of these operators and numbers, which have to be there, of lines or JSON, and of
-- how many rows are asked for
abbrev pub inquiry_meaning : Option (List Op) → Option ℕ → Option ℕ → Bool → Option ℕ
    → Meaning Inquiry
inquiry_meaning None every steps json rows = bad_operators
inquiry_meaning (Some operators) (Some every) (Some steps) json rows = request
    (record { operators = operators; every = every; steps = steps; json = json; rows = rows })
inquiry_meaning (Some operators) _ _ json rows = refused

-- the meaning of the values of the options
abbrev pub options_meaning : List Row → Meaning Inquiry
options_meaning rows =
    inquiry_meaning (operators_at rows) (option_number (codes "every") rows)
    (option_number (codes "steps") rows) (flag_at (codes "json") rows)
    (option_number (codes "rows") rows)

-- the numbers of the inquiry are within the bounds of their options
abbrev pub IsInquiryBounded : Inquiry → Type 0
IsInquiryBounded i = (1 ≤ i.every) × (i.every ≤ 1048575) × (1 ≤ i.steps) × (i.steps ≤ 1000000)

-- Rule: what `equivalents` writes
abbrev pub equivalents_line : CommandLine Inquiry
equivalents_line = record {
  app = equivalents;
  meaning = λ words. options_meaning (matches_of equivalents words);
  IsBounded = IsInquiryBounded;
}
