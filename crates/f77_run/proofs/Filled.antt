-- Slots that are filled and read one after another.
use Rattle.f77_run.proofs.Common.{◌≡◌, length, sym, ◌∙◌, ap, subst, List, arith, refl, ◌<◌, ℕ, Some, true, [], ◌∷◌, ◌++◌, None, ◌≤◌, ◌+◌, drop, Option, suc}
use Rattle.f77_run.proofs.Common.{get_or, take, zero, ◌-◌, length-drop, get_or-drop, and_parts, take_more, map-append, slice_get-get_or, list_all}
use Rattle.f77_run.proofs.Common.{option_and_then, Value, Shape, held_in, Cells, first_numbers, size_of, span, has_kind, HasValues, Kind}

same_cell : (cells : Cells) (k : ℕ) (cell : Option Value) → k < length cells → get_or cells k cell ≡ held_in cells k
same_cell cells k cell lt = sym (ap (option_and_then (λ cell. cell)) (slice_get-get_or cells k cell lt))

take_none : {X : Type 0} (xs : List X) → take 0 xs ≡ []
take_none [] = refl
take_none (x ∷ xs) = refl

pub span_slice : (cells : Cells) (first n : ℕ) → first + n ≤ length cells → take n (drop first cells) ≡ span first n cells
span_slice cells first zero within = take_none (drop first cells)
span_slice cells first (suc n) within =
    let own : first + n < length cells = omega (arith, within) in
    let left : n < length (drop first cells) = omega (arith, own, length-drop first cells) in
    let next : suc n ≡ n + 1 = omega arith in
    ap (λ k. take k (drop first cells)) next
    ∙ (take_more (drop first cells) n None left
    ∙ (ap (λ cell. take n (drop first cells) ++ cell ∷ []) (get_or-drop first cells n None ∙ same_cell cells (first + n) None own)
    ∙ (ap (λ held. held ++ held_in cells (first + n) ∷ []) (span_slice cells first n (omega (arith, within)))
    ∙ sym (map-append (λ k. held_in cells (first + k)) (first_numbers n) (n ∷ [])))))

span_one : (cells : Cells) (first : ℕ) (cell : Option Value) → first < length cells → get_or cells first cell ∷ [] ≡ span first 1 cells
span_one cells first cell lt =
    let own : first ≡ first + 0 = omega arith in
    ap (λ x. x ∷ []) (same_cell cells first cell lt ∙ ap (held_in cells) own)

size_some : (shape : Shape) (n : ℕ) → shape.elements ≡ Some n → size_of shape ≡ n
size_some shape n e = rw e refl

size_none : (shape : Shape) → shape.elements ≡ None → size_of shape ≡ 1
size_none shape e = rw e refl

-- what an array holds is a slice of the slots
pub array_span : (shape : Shape) (cells : Cells) (first n : ℕ) → shape.elements ≡ Some n → first + size_of shape ≤ length cells
    → take (first + n - first) (drop first cells) ≡ span first (size_of shape) cells
array_span shape cells first n e within =
    let size = size_some shape n e in
    let count : first + n - first ≡ n = omega arith in
    rw (count, size) (span_slice cells first n (omega (arith, within, size)))

-- what a variable holds is one of them
pub variable_span : (shape : Shape) (cells : Cells) (first : ℕ) (cell : Option Value) → shape.elements ≡ None → first + size_of shape ≤ length cells
    → get_or cells first cell ∷ [] ≡ span first (size_of shape) cells
variable_span shape cells first cell e within =
    let size = size_none shape e in
    rw (size) (span_one cells first cell (omega (arith, within, size)))

pub array_kind : (shape : Shape) (kind : Kind) (cells : Cells) (first n : ℕ) → shape.elements ≡ Some n → shape.kind ≡ kind → first + size_of shape ≤ length cells
    → HasValues shape.kind (size_of shape) (span first (size_of shape) cells) → list_all (has_kind kind) (take (first + n - first) (drop first cells)) ≡ true
array_kind shape kind cells first n e same within holds =
    ap (list_all (has_kind kind)) (array_span shape cells first n e within) ∙ subst (λ kind. list_all (has_kind kind) (span first (size_of shape) cells) ≡ true) same holds.each

pub variable_kind : (shape : Shape) (kind : Kind) (cells : Cells) (first : ℕ) (cell : Option Value) → shape.elements ≡ None → shape.kind ≡ kind → first + size_of shape ≤ length cells
    → HasValues shape.kind (size_of shape) (span first (size_of shape) cells) → has_kind kind (get_or cells first cell) ≡ true
variable_kind shape kind cells first cell e same within holds =
    let each : list_all (has_kind kind) (get_or cells first cell ∷ []) ≡ true
    = ap (list_all (has_kind kind)) (variable_span shape cells first cell e within) ∙ subst (λ kind. list_all (has_kind kind) (span first (size_of shape) cells) ≡ true) same holds.each in
    (and_parts (has_kind kind (get_or cells first cell)) true each).0
