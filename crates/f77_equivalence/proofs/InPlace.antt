-- A statement in the place of another.
use Rattle.f77_equivalence.proofs.Common.{◌-◌, ℕ, map, sym, ap, option_map, slice_set, LineFields, line_of, CheckedFields, IsChecked, Resolved, IsChange}
use Rattle.f77_program.specs.Patching.{patched}
use Rattle.f77_tree.specs.Statement.{Statement}
use Rattle.f77_legal.specs.Legal.{IsLegal}
use Rattle.f77_legal.proofs.Replaced.{other_line}
use Rattle.f77_check.specs.Patching.{IsInPlace}

-- the program with the statement is a changed one
pub change_in_place : (checked : CheckedFields) (number : ℕ) (statement : Statement) (new : Resolved) → IsChecked checked
    → IsLegal (patched (map line_of checked.program) number statement) → IsInPlace checked number statement new
    → IsChange checked (number - 1) (patched (map line_of checked.program) number statement) (slice_set checked.statements (number - 1) new)
change_in_place checked number statement new is legal in_place = record {
  own = is;
  formed = in_place.formed;
  legal = legal;
  resolved = in_place.resolved;
  frame = in_place.frame;
  others = λ j apart. ap (option_map (λ (line : LineFields). line.stmt))
      (other_line (map line_of checked.program) (number - 1) j statement (λ here. apart (sym here)));
}
