-- The groups of a program's statements, one after another.
use Rattle.f77_syntax.proofs.Common.{refl, ap, ◌≡◌, List, ℕ, true, [], ◌∷◌, Some, None, map, suc, may_stand, group_of, AreInOrder, behind_heading, LineFields}
use Rattle.f77_syntax.proofs.Common.{IsProgram, Group, End, Subroutine, Data, Declaration, Executable}

-- what stands behind a statement of this group
abbrev Behind : Group → List Group → Type 0
Behind Subroutine groups = (d : ℕ) × (m : ℕ) × (e : ℕ) × (groups ≡ behind_heading d m e)
Behind Declaration groups = (d : ℕ) × (m : ℕ) × (e : ℕ) × (groups ≡ behind_heading d m e)
Behind Data groups = (m : ℕ) × (e : ℕ) × (groups ≡ behind_heading 0 m e)
Behind Executable groups = (e : ℕ) × (groups ≡ behind_heading 0 0 e)
Behind End groups = groups ≡ []

-- what may stand behind declarations, beginning with a statement that is no SUBROUTINE
from_declarations : (g : Group) (groups : List Group) → may_stand (Some Declaration) g ≡ true → Behind g groups
    → (d : ℕ) × (m : ℕ) × (e : ℕ) × (g ∷ groups ≡ behind_heading d m e)
from_declarations Subroutine groups h b = cc
from_declarations Declaration groups h b = (suc b.0, b.1, b.2, ap (λ z. Declaration ∷ z) b.3)
from_declarations Data groups h b = (0, suc b.0, b.1, ap (λ z. Data ∷ z) b.2)
from_declarations Executable groups h b = (0, 0, suc b.0, ap (λ z. Executable ∷ z) b.1)
from_declarations End groups h b = (0, 0, 0, ap (λ z. End ∷ z) b)

more_behind : (before g : Group) (groups : List Group) → may_stand (Some before) g ≡ true → Behind g groups → Behind before (g ∷ groups)
more_behind Subroutine Subroutine groups h b = cc
more_behind Subroutine g groups h b = from_declarations g groups h b
more_behind Declaration g groups h b = from_declarations g groups h b
more_behind Data Data groups h b = (suc b.0, b.1, ap (λ z. Data ∷ z) b.2)
more_behind Data Executable groups h b = (0, suc b.0, ap (λ z. Executable ∷ z) b.1)
more_behind Data End groups h b = (0, 0, ap (λ z. End ∷ z) b)
more_behind Executable Executable groups h b = (suc b.0, ap (λ z. Executable ∷ z) b.1)
more_behind Executable End groups h b = (0, ap (λ z. End ∷ z) b)
more_behind End End groups h b = cc
more_behind _ _ groups h b = cc

lines_behind : {before : Group} {lines : List LineFields} → IsProgram (Some before) lines → Behind before (map (λ line. group_of line.stmt) lines)
lines_behind IsProgram.finished = refl
lines_behind {before = before} (IsProgram.next {line = line} {lines = lines} may rest) =
    more_behind before (group_of line.stmt) (map (λ l. group_of l.stmt) lines) may.0 (lines_behind rest)

-- a program begins with SUBROUTINE
begins_with_heading : (g : Group) (groups : List Group) → may_stand None g ≡ true → Behind g groups → AreInOrder (g ∷ groups)
begins_with_heading Subroutine groups h b = (b.0, b.1, b.2, ap (λ z. Subroutine ∷ z) b.3)
begins_with_heading _ groups h b = cc

pub are_in_order : (lines : List LineFields) → IsProgram None lines → AreInOrder (map (λ line. group_of line.stmt) lines)
are_in_order [] p = elim p [ ]
are_in_order (line ∷ lines) (IsProgram.next may rest) =
    begins_with_heading (group_of line.stmt) (map (λ l. group_of l.stmt) lines) may.0 (lines_behind rest)
