-- The command line of the program: `mothra` with one level of subcommands.
use Rattle.std.specs.Prelude.{true, Some, [], ◌∷◌, codes}
use Rattle.clap.specs.Words.{App, Rule, Shape, new_rule, with_subcommand}
use Rattle.clap.specs.Simple.{new_shape}
use Rattle.clap.specs.declared.builder.value_parser.ValueParser.TheVariants.{Unsigned}

-- `print`, which has no options
abbrev pub print_shape : Shape
print_shape = new_shape (codes "print")

-- `--test`: the number of a test, 1 to 256, which has to be given
abbrev pub test_rule : Rule
test_rule = record (new_rule (codes "test")) {
  long = Some (codes "test");
  required = true;
  parser = Some (Unsigned 1 256);
}

-- `--steps`: the limit on steps, 1 to 1000000; 10000 where it is not given
abbrev pub steps_rule : Rule
steps_rule = record (new_rule (codes "steps")) {
  long = Some (codes "steps");
  parser = Some (Unsigned 1 1000000);
  defaults = codes "10000" ∷ [];
}

-- `exec` with `--test` and `--steps`
abbrev pub exec_shape : Shape
exec_shape = record (new_shape (codes "exec")) { rules = test_rule ∷ steps_rule ∷ [] }

-- `--ops`: the codes of operators, joined by commas
abbrev pub ops_rule : Rule
ops_rule = record (new_rule (codes "ops")) { long = Some (codes "ops") }

-- `--every`: q, 1 to 1048575, where each q-th mutant is kept, from the first; 1 where it is absent
abbrev pub every_rule : Rule
every_rule = record (new_rule (codes "every")) {
  long = Some (codes "every");
  parser = Some (Unsigned 1 1048575);
  defaults = codes "1" ∷ [];
}

-- `list` with `--ops` and `--every`
abbrev pub list_shape : Shape
list_shape = record (new_shape (codes "list")) { rules = ops_rule ∷ every_rule ∷ [] }

-- `--workers`: how many threads run the mutants, 1 to 32; 2 where it is not given
abbrev pub workers_rule : Rule
workers_rule = record (new_rule (codes "workers")) {
  long = Some (codes "workers");
  parser = Some (Unsigned 1 32);
  defaults = codes "2" ∷ [];
}

-- `run` with `--ops`, `--every`, `--steps` and `--workers`
abbrev pub run_shape : Shape
run_shape = record (new_shape (codes "run")) {
  rules = ops_rule
      ∷ every_rule ∷ steps_rule ∷ workers_rule ∷ [];
}

-- `mothra` without its subcommands: it has `--version`, needs a subcommand, and `help` is none
abbrev pub bare : App
bare = record {
  top = record (new_shape (codes "mothra")) {
    has_version = true;
    subcommand_required = true;
    disable_help_subcommand = true;
  };
  subs = [];
}

-- Rule: the words
-- the command line: one of the four subcommands, with its options
unfoldable pub mothra : App
mothra = with_subcommand (with_subcommand
    (with_subcommand (with_subcommand bare print_shape) exec_shape) list_shape) run_shape
