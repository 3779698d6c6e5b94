-- The operators that the value of `--ops` names.
use Rattle.std.specs.Prelude.{ℕ, ◌==◌, List, Option, Some, None, filter_map, find, if◌then◌else◌, is_some}
use Rattle.std.specs.List.{list_all, slice_split}
use Rattle.std.specs.Str.{bytes_eq}
use Rattle.clap.specs.Words.{Text}
use Rattle.mothra_codes.specs.Op.{all_ops, code_of}
use Rattle.mothra_codes.specs.declared.op.Op.{Op}

abbrev pub comma : ℕ
comma = 44

-- the operator with this code
abbrev pub operator_of : Text → Option Op
operator_of text = find (λ op. bytes_eq (code_of op) text) all_ops

-- Rule: the words
-- the operators whose codes are the pieces of the text between commas, where each piece is a code
abbrev pub operators_of : Text → Option (List Op)
operators_of text =
    let pieces = slice_split (λ b. b == comma) text in
    if list_all (λ piece. is_some (operator_of piece)) pieces
    then Some (filter_map operator_of pieces) else None
