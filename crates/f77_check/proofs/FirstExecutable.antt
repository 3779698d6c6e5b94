-- A program has an executable statement: END is one.
use Rattle.f77_check.proofs.Common.{◌≡◌, List, refl, ℕ, ◌∷◌, Some, true, None, Bool, false, Option, position, ◌≢◌, list_any, position_or_len, found_there}
use Rattle.f77_check.proofs.Common.{LineFields, IsProgram, Statement, is_executable_statement}
use Rattle.f77_program.specs.Group.{group_of}
use Rattle.f77_program.specs.declared.group.Group.{Group}
use Rattle.f77_program.specs.declared.group.Group.TheVariants.{End}

end_group : (s : Statement) → group_of s ≡ End → is_executable_statement s ≡ true
end_group Statement.End e = refl
end_group (Statement.Subroutine name names) e = absurd (cc (e))
end_group (Statement.Declare kind ds) e = absurd (cc (e))
end_group (Statement.Dimension ds) e = absurd (cc (e))
end_group (Statement.Preset gs) e = absurd (cc (e))
end_group _ e = refl

any_there : (before : Option Group) (p : List LineFields) → IsProgram before p → before ≢ Some End → list_any (λ x. is_executable_statement x.stmt) p ≡ true
any_there before p IsProgram.finished not_end = absurd (not_end refl)
any_there before p (IsProgram.next {line = line} {lines = lines} may rest) not_end = by (is_executable_statement line.stmt) refl (any_there (Some (group_of line.stmt)) lines rest)
  where
    by : (b : Bool) → is_executable_statement line.stmt ≡ b → (Some (group_of line.stmt) ≢ Some End → list_any (λ x. is_executable_statement x.stmt) lines ≡ true)
        → list_any (λ x. is_executable_statement x.stmt) (line ∷ lines) ≡ true
    by true is later = rw is refl
    by false is later = rw is (later (λ e. let same : group_of line.stmt ≡ End = cc (e) in let no = end_group line.stmt same in absurd (cc (is, no))))

pub first_executable : (p : List LineFields) → IsProgram None p → (i : ℕ) × (position (λ x. is_executable_statement x.stmt) p ≡ Some i)
first_executable p program =
    (position_or_len (λ x. is_executable_statement x.stmt) p, found_there (λ x. is_executable_statement x.stmt) p (any_there None p program (λ e. cc (e))))
