-- The tests of two lines and of two programs hold exactly where they are equal.
use Rattle.std.specs.Prelude.{◌≡◌, ℕ, nat_eq, List, Option, true, refl}
use Rattle.std.specs.Bool.{Decides}
use Rattle.std.specs.Cmp.{IsEquivalence, decided, unsigned_Decides, first_so, second_so}
use Rattle.std.specs.Cmp.Derive.{both_true}
use Rattle.std.specs.Cmp.Lexicographic.{pointwise_decides}
use Rattle.std.specs.Option.{option_eq}
use Rattle.f77_tree.specs.Deciding.{decided_by, option_decides}
use Rattle.f77_tree.specs.SameTrees.{statement_is, statement_own}
use Rattle.f77_program.specs.Comparing.{same_line, same_lines}
use Rattle.f77_program.specs.Program.{LineFields}

labels_decide : (l m : Option ℕ) → Decides (option_eq nat_eq l m) (l ≡ m)
labels_decide = option_decides nat_eq unsigned_Decides

line_is : (l m : LineFields) → same_line l m ≡ true → l ≡ m
line_is l m e = λ i. record {
  label = (labels_decide l.label m.label).0 (first_so _ _ e) i;
  stmt = statement_is l.stmt m.stmt (first_so _ _ (second_so _ _ e)) i;
  line = (unsigned_Decides l.line m.line).0 (second_so _ _ (second_so _ _ e)) i;
}

line_own : (l : LineFields) → same_line l l ≡ true
line_own l = both_true ((labels_decide l.label l.label).1 refl)
    (both_true (statement_own l.stmt) ((unsigned_Decides l.line l.line).1 refl))

pub line_decides : (l m : LineFields) → Decides (same_line l m) (l ≡ m)
line_decides = decided_by same_line line_is line_own

pub lines_decide : (ls ms : List LineFields) → Decides (same_lines ls ms) (ls ≡ ms)
lines_decide = pointwise_decides line_decides

pub line_equiv : IsEquivalence same_line
line_equiv = decided same_line line_decides

pub lines_equiv : IsEquivalence same_lines
lines_equiv = decided same_lines lines_decide
