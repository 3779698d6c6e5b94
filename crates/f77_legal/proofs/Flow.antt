-- In a legal program control has where to go: behind each statement, from each branch, from the end of each DO and by each jump.
use Rattle.f77_legal.proofs.Common.{◌≡◌, ◌∙◌, ap, sym, List, refl, ℕ, false, length, Bool, true, Some, None, ◌+◌, ◌||◌, Option, ◌&&◌, not, ◌==◌, subst, inr}
use Rattle.f77_legal.proofs.Common.{is_some, inl, ◌⊎◌, if◌then◌else◌, IsSome, or_parts, and_parts, or_left, or_right, list_any, option_map_or, option_and_then}
use Rattle.f77_legal.proofs.Common.{nth_statement, is_block_if, IsLegal, is_alternative, label_place, block_end, has_at, is_end_if, terminal_label}
use Rattle.f77_legal.proofs.Common.{branch_end_at, is_in_block, branch_end, is_level, terminal, begins_branch, breaks_range, ends_outside, statement_behind}
use Rattle.f77_legal.proofs.Common.{AreNested, NamedLabels, Nests, LineFields, Statement, jumps_of, Tree}
use Rattle.f77_legal.proofs.Branches.{found_is, found_some}
use Rattle.f77_legal.proofs.LegalGives.{clause_kept, kept_by, any_false, some_of, is_some_of, alternative_in_block, alternative_closes, block_closes}

-- no DO breaks the nesting
pub are_nested : (program : List LineFields) → IsLegal program → AreNested program
are_nested program legal d = by (nth_statement program d) refl
  where
    by : (o : Option Statement) → nth_statement program d ≡ o → breaks_range program d ≡ false
    by None at =
        let none : terminal program d ≡ None = ap (λ o. option_and_then (label_place program) (option_and_then terminal_label o)) at in
        ap (λ o. option_map_or (ends_outside program d) o false) none
    by (Some s) at = (or_parts _ _ (clause_kept Nests program (kept_by program legal).nests d s at)).1

pub some_behind : (program : List LineFields) → IsLegal program → (i : ℕ) → (j : ℕ) × (statement_behind program i ≡ Some j)
some_behind program legal i = by (has_at is_alternative program (i + 1)) refl
  where
    by : (b : Bool) → has_at is_alternative program (i + 1) ≡ b → (j : ℕ) × (statement_behind program i ≡ Some j)
    by true is =
        let end = some_of (block_end program (i + 1)) (alternative_closes program (kept_by program legal) (i + 1) is) in
        (end.0, ap (λ b. if b then block_end program (i + 1) else Some (i + 1)) is ∙ end.1)
    by false is = (i + 1, ap (λ b. if b then block_end program (i + 1) else Some (i + 1)) is)

-- a branch of a block that has its END IF ends there or before
branch_ends : (program : List LineFields) (i : ℕ) → IsSome (block_end program i) → (j : ℕ) × (branch_end program i ≡ Some j)
branch_ends program i some =
    let e = some_of (block_end program i) some in
    let found = found_is (λ j. has_at is_end_if program j && is_level program i j) (length program) e.0 e.1 in
    let parts = and_parts (has_at is_end_if program e.0) (is_level program i e.0) found.0 in
    let here : ((has_at is_end_if program e.0 || has_at is_alternative program e.0) && is_level program i e.0) ≡ true
    = ap (λ b. b && is_level program i e.0) (or_left (has_at is_end_if program e.0) (has_at is_alternative program e.0) parts.0) ∙ parts.1 in
    some_of (branch_end program i) (found_some (λ j. (has_at is_end_if program j || has_at is_alternative program j) && is_level program i j) (length program) e.0 here found.1)

begun_ends : (program : List LineFields) (i : ℕ) → begins_branch program i ≡ true → (j : ℕ) × (branch_end program i ≡ Some j)
    → (j : ℕ) × (branch_end_at program i ≡ Some j) × (branch_end program i ≡ Some j)
begun_ends program i begins end = (end.0, ap (λ b. if b then branch_end program i else None) begins ∙ end.1, end.1)

both : (a b : Bool) → a ≡ true → b ≡ true → (a && b) ≡ true
both true b e f = f
both false b e f = absurd (cc (e))

pub some_branch : (program : List LineFields) → IsLegal program → (i : ℕ) (t : Tree)
    → (nth_statement program i ≡ Some (Statement.BlockIf t)) ⊎ (nth_statement program i ≡ Some (Statement.ElseIf t))
    → (j : ℕ) × (branch_end_at program i ≡ Some j) × (branch_end program i ≡ Some j)
some_branch program legal i t (inl at) =
    let closes = block_closes program (kept_by program legal) i t at in
    let begins : (has_at is_block_if program i && is_some (block_end program i)) ≡ true = both _ _ (ap (λ o. option_map_or is_block_if o false) at) closes in
    begun_ends program i (or_left (has_at is_block_if program i && is_some (block_end program i)) (has_at is_alternative program i && is_in_block program i) begins)
    (branch_ends program i closes)
some_branch program legal i t (inr at) =
    let alternative : has_at is_alternative program i ≡ true = ap (λ o. option_map_or is_alternative o false) at in
    let begins : (has_at is_alternative program i && is_in_block program i) ≡ true = both _ _ alternative (alternative_in_block program (kept_by program legal) i alternative) in
    begun_ends program i (or_right (has_at is_block_if program i && is_some (block_end program i)) (has_at is_alternative program i && is_in_block program i) begins)
    (branch_ends program i (alternative_closes program (kept_by program legal) i alternative))

pub some_terminal : (program : List LineFields) → IsLegal program → (i : ℕ) (s : Statement) → nth_statement program i ≡ Some s → IsSome (terminal_label s) → IsSome (terminal program i)
some_terminal program legal i s at names = by (terminal_label s) refl names
  where
    by : (o : Option ℕ) → terminal_label s ≡ o → IsSome o → IsSome (terminal program i)
    by None is some = absurd (cc (some))
    by (Some label) is some =
        let named = (or_parts _ _ (clause_kept NamedLabels program (kept_by program legal).labels i s at)).1 in
        let stands = is_some_of (label_place program label) (sym (ap (λ o. option_map_or (λ label. not (is_some (label_place program label))) o false) is) ∙ named) in
        let end : terminal program i ≡ label_place program label
        = ap (λ o. option_and_then (label_place program) (option_and_then terminal_label o)) at ∙ ap (option_and_then (label_place program)) is in
        subst IsSome (sym end) stands

pub some_place : (program : List LineFields) → IsLegal program → (i : ℕ) (s : Statement) (label : ℕ) → nth_statement program i ≡ Some s → list_any (λ l. l == label) (jumps_of s) ≡ true
    → IsSome (label_place program label)
some_place program legal i s label at among =
    let named = (or_parts _ _ (clause_kept NamedLabels program (kept_by program legal).labels i s at)).0 in
    is_some_of (label_place program label) (any_false (λ label. not (is_some (label_place program label))) (jumps_of s) label named among)
