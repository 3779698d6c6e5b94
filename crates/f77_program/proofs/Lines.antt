-- Lists of lines that are copied or compared item by item.
use Rattle.f77_program.proofs.Common.{◌≡◌, [], ap, List, map, sym, ◌∷◌, refl, subst, None, AllZip, line_of, IsProgram, same_line, Line}
use Rattle.std.specs.Cmp.Lexicographic.{pointwise}
use Rattle.std.specs.Ordering.{on}
use Rattle.f77_tree.proofs.Comparisons.{by_views}
use Rattle.f77_program.specs.{same_lines as same_texts}

same_items : {X : Type 0} (xs ys : List X) → AllZip (λ x y. y ≡ x) xs ys → ys ≡ xs
same_items [] [] all = refl
same_items [] (y ∷ ys) all = absurd all
same_items (x ∷ xs) [] all = absurd all
same_items (x ∷ xs) (y ∷ ys) all = rw (all.0, same_items xs ys all.1) refl

pub same_lines : (lines copies : List Line) → AllZip (λ x y. y ≡ x) lines copies → map line_of copies ≡ map line_of lines
same_lines lines copies all = ap (map line_of) (same_items lines copies all)

pub same_program : (lines copies : List Line) → AllZip (λ x y. y ≡ x) lines copies → IsProgram None (map line_of lines) → IsProgram None (map line_of copies)
same_program lines copies all is = subst (IsProgram None) (sym (same_lines lines copies all)) is

pub lines_by_view : (xs ys : List Line) → pointwise (on line_of same_line) xs ys ≡ same_texts (map line_of xs) (map line_of ys)
lines_by_view = by_views line_of same_line
