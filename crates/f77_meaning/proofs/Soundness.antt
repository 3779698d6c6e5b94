-- In a legal program control is never lost.
use Rattle.f77_meaning.proofs.Common.{List, ℕ, ◌≡◌, refl, Some, true, ap, arith, ◌∙◌, None, false, [], sym, ◌∷◌, Bool, Option, suc, length, zero, ◌<◌, ◌+◌, inr}
use Rattle.f77_meaning.proofs.Common.{inl, subst, ◌==◌, nat_lt, ◌&&◌, ◌||◌, IsSome, not, position, ◌⊎◌, cond, and_parts, or_left, nat_tests, list_any}
use Rattle.f77_meaning.proofs.Common.{position_or_len, option_map_or, option_and_then, inner_acts, found_is, some_branch, some_terminal, some_place, kept_by}
use Rattle.f77_meaning.proofs.Common.{clause_kept, not_false, some_of, any_false, alternative_closes, branch_end, has_at, is_alternative, block_end, is_end_if}
use Rattle.f77_meaning.proofs.Common.{is_level, nth_statement, label_place, terminal_label, bears, is_terminal, statement_with, is_target, IsLegal, terminal}
use Rattle.f77_meaning.proofs.Common.{Terminals, Targets, LineFields, IsProgram, Statement, is_executable_statement, jumps_of, Tree}
use Rattle.f77_program.specs.Group.{group_of, may_stand}
use Rattle.f77_program.specs.declared.group.Group.{Group}
use Rattle.f77_program.specs.declared.group.Group.TheVariants.{Executable}
use Rattle.f77_meaning.proofs.ControlDefinitions.{CanHaveControl, is_last, LeadsToStatement, NeverLosesControl}

-- a place stands in the program
pub place_within : (q : LineFields → Bool) (p : List LineFields) (j : ℕ) → position q p ≡ Some j → j < length p
place_within q p j found = by (nat_lt (position_or_len q p) (length p)) refl
  where
    by : (b : Bool) → nat_lt (position_or_len q p) (length p) ≡ b → j < length p
    by true e =
        let whole : position q p ≡ Some (position_or_len q p) = ap (λ b. cond b (Some (position_or_len q p)) None) e in
        let same : position_or_len q p ≡ j = cc (whole, found) in
        grind (arith, nat_tests)
    by false e =
        let whole : position q p ≡ None = ap (λ b. cond b (Some (position_or_len q p)) None) e in
        absurd (cc (whole, found))

pub there : (p : List LineFields) (i : ℕ) → i < length p → (s : Statement) × (nth_statement p i ≡ Some s)
there [] i h = absurd (omega (arith, h))
there (line ∷ p) zero h = (line.stmt, refl)
there (line ∷ p) (suc i) h = there p i (omega (arith, h))

target_stands : (s : Statement) → is_target s ≡ true → is_executable_statement s ≡ true
target_stands (Statement.Subroutine name names) h = absurd (cc (h))
target_stands (Statement.Declare kind ds) h = absurd (cc (h))
target_stands (Statement.Dimension ds) h = absurd (cc (h))
target_stands (Statement.Preset gs) h = absurd (cc (h))
target_stands _ h = refl

stands_at : (p : List LineFields) (i : ℕ) (s : Statement) → nth_statement p i ≡ Some s → is_executable_statement s ≡ true → CanHaveControl p i
stands_at p i s at is = ap (λ o. option_map_or is_executable_statement o false) at ∙ is

-- a jump leads to where control may be
jump_leads : (p : List LineFields) → IsLegal p → (i : ℕ) (s : Statement) (label : ℕ) → nth_statement p i ≡ Some s → list_any (λ x. x == label) (jumps_of s) ≡ true
    → LeadsToStatement p (label_place p label)
jump_leads p legal i s label at among =
    let found = some_of (label_place p label) (some_place p legal i s label at among) in
    let goes = any_false _ (jumps_of s) label (clause_kept Targets p (kept_by p legal).targets i s at) among in
    let target = there p found.0 (place_within (bears label) p found.0 found.1) in
    let with : statement_with p label ≡ Some target.0 = ap (option_and_then (nth_statement p)) found.1 ∙ target.1 in
    let may : is_target target.0 ≡ true = not_false (is_target target.0) (sym (ap (λ o. option_map_or (λ s. not (is_target s)) o false) with) ∙ goes) in
    (found.0, found.1, stands_at p found.0 target.0 target.1 (target_stands target.0 may))

-- what follows a statement that is executed, the last aside
heads : (s : Statement) → is_executable_statement s ≡ true → is_last s ≡ false → group_of s ≡ Executable
heads (Statement.Subroutine name names) is last = absurd (cc (is))
heads (Statement.Declare kind ds) is last = absurd (cc (is))
heads (Statement.Dimension ds) is last = absurd (cc (is))
heads (Statement.Preset gs) is last = absurd (cc (is))
heads Statement.End is last = absurd (cc (last))
heads _ is last = refl

stands_behind : (s : Statement) → may_stand (Some Executable) (group_of s) ≡ true → is_executable_statement s ≡ true
stands_behind (Statement.Subroutine name names) h = absurd (cc (h))
stands_behind (Statement.Declare kind ds) h = absurd (cc (h))
stands_behind (Statement.Dimension ds) h = absurd (cc (h))
stands_behind (Statement.Preset gs) h = absurd (cc (h))
stands_behind _ h = refl

first_stands : (before : Option Group) (p : List LineFields) → IsProgram before p → before ≡ Some Executable → CanHaveControl p 0
first_stands before p IsProgram.finished e = absurd (cc (e))
first_stands before p (IsProgram.next {line = line} may rest) e = stands_behind line.stmt (sym (ap (λ b. may_stand b (group_of line.stmt)) e) ∙ may.0)

next_stands : (before : Option Group) (p : List LineFields) → IsProgram before p → (i : ℕ) (s : Statement) → nth_statement p i ≡ Some s → is_executable_statement s ≡ true → is_last s ≡ false
    → CanHaveControl p (suc i)
next_stands before p IsProgram.finished i s at is last = absurd (cc (at))
next_stands before p (IsProgram.next {line = line} {lines = lines} may rest) zero s at is last =
    let same : line.stmt ≡ s = cc (at) in
    first_stands (Some (group_of line.stmt)) lines rest (ap (λ (g : Group). Some g) (ap group_of same ∙ heads s is last))
next_stands before p (IsProgram.next {line = line} {lines = lines} may rest) (suc i) s at is last = next_stands (Some (group_of line.stmt)) lines rest i s at is last

program_next : (p : List LineFields) → IsProgram None p → (i : ℕ) (s : Statement) → nth_statement p i ≡ Some s → is_executable_statement s ≡ true → is_last s ≡ false → CanHaveControl p (i + 1)
program_next p program i s at is last = let n : suc i ≡ i + 1 = omega arith in subst (CanHaveControl p) n (next_stands None p program i s at is last)

terminal_stands : (s : Statement) → is_terminal s ≡ true → (is_executable_statement s ≡ true) × (is_last s ≡ false)
terminal_stands (Statement.Assign name items t) h = (refl, refl)
terminal_stands (Statement.ComputedGoto labels t) h = (refl, refl)
terminal_stands (Statement.LogicalIf t s) h = (refl, refl)
terminal_stands Statement.Continue h = (refl, refl)
terminal_stands Statement.Trap h = (refl, refl)
terminal_stands _ h = absurd (cc (h))

-- control may go on from the terminal statement of a DO
loop_ends : (p : List LineFields) → IsLegal p → IsProgram None p → (d : ℕ) → IsSome (option_and_then terminal_label (nth_statement p d))
    → (t : ℕ) × (terminal p d ≡ Some t) × CanHaveControl p (t + 1)
loop_ends p legal program d some = at_statement (nth_statement p d) refl some
  where
    with_label : (s : Statement) → nth_statement p d ≡ Some s → (o : Option ℕ) → terminal_label s ≡ o → IsSome o → (t : ℕ) × (terminal p d ≡ Some t) × CanHaveControl p (t + 1)
    with_label s at None is some = absurd (cc (some))
    with_label s at (Some label) is some =
        let end = some_of (terminal p d) (some_terminal p legal d s at (subst IsSome (sym is) some)) in
        let found : label_place p label ≡ Some end.0
        = sym (ap (λ o. option_and_then (label_place p) (option_and_then terminal_label o)) at ∙ ap (option_and_then (label_place p)) is) ∙ end.1 in
        let last = there p end.0 (place_within (bears label) p end.0 found) in
        let with : statement_with p label ≡ Some last.0 = ap (option_and_then (nth_statement p)) found ∙ last.1 in
        let badly = clause_kept Terminals p (kept_by p legal).terminals d s at in
        let ends : option_map_or (λ s. not (is_terminal s)) (statement_with p label) false ≡ false
        = sym (ap (λ o. option_map_or (λ label. option_map_or (λ s. not (is_terminal s)) (statement_with p label) false) o false) is) ∙ badly in
        let may : is_terminal last.0 ≡ true = not_false (is_terminal last.0) (sym (ap (λ o. option_map_or (λ s. not (is_terminal s)) o false) with) ∙ ends) in
        let stands = terminal_stands last.0 may in
        (end.0, end.1, program_next p program end.0 last.0 last.1 stands.0 stands.1)

    at_statement : (o : Option Statement) → nth_statement p d ≡ o → IsSome (option_and_then terminal_label o) → (t : ℕ) × (terminal p d ≡ Some t) × CanHaveControl p (t + 1)
    at_statement None at some = absurd (cc (some))
    at_statement (Some s) at some = with_label s at (terminal_label s) refl some

end_stands : (p : List LineFields) (j : ℕ) (o : Option Statement) → nth_statement p j ≡ o → (option_map_or is_end_if o false || option_map_or is_alternative o false) ≡ true → CanHaveControl p j
end_stands p j None at h = absurd (cc (h))
end_stands p j (Some (Statement.ElseIf t)) at h = stands_at p j (Statement.ElseIf t) at refl
end_stands p j (Some Statement.Else) at h = stands_at p j Statement.Else at refl
end_stands p j (Some Statement.EndIf) at h = stands_at p j Statement.EndIf at refl
end_stands p j (Some _) at h = absurd (cc (h))

end_leads : (p : List LineFields) (i : ℕ) → IsSome (block_end p i) → LeadsToStatement p (block_end p i)
end_leads p i some =
    let e = some_of (block_end p i) some in
    let found = found_is (λ j. has_at is_end_if p j && is_level p i j) (length p) e.0 e.1 in
    let is = (and_parts (has_at is_end_if p e.0) (is_level p i e.0) found.0).0 in
    (e.0, e.1, end_stands p e.0 (nth_statement p e.0) refl (or_left (has_at is_end_if p e.0) (has_at is_alternative p e.0) is))

branch_leads : (p : List LineFields) → IsLegal p → (i : ℕ) (t : Tree)
    → (nth_statement p i ≡ Some (Statement.BlockIf t)) ⊎ (nth_statement p i ≡ Some (Statement.ElseIf t)) → LeadsToStatement p (branch_end p i)
branch_leads p legal i t begins =
    let b = some_branch p legal i t begins in
    let is = found_is (λ j. (has_at is_end_if p j || has_at is_alternative p j) && is_level p i j) (length p) b.0 b.2 in
    (b.0, b.2, end_stands p b.0 (nth_statement p b.0) refl (and_parts (has_at is_end_if p b.0 || has_at is_alternative p b.0) (is_level p i b.0) is.0).0)

pub legal_is_sound : (p : List LineFields) → IsProgram None p → IsLegal p → NeverLosesControl p
legal_is_sound p program legal = record {
  follows = program_next p program;
  closes = λ i is. end_leads p i (alternative_closes p (kept_by p legal) i is);
  blocks = λ i t at. branch_leads p legal i t (inl at);
  branches = λ i t at. branch_leads p legal i t (inr at);
  jumps = jump_leads p legal;
  ends = loop_ends p legal program;
  inner = inner_acts p program;
}
