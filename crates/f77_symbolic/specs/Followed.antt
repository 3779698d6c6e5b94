-- What a walk shows.
use Rattle.std.specs.Prelude.{ℕ, List, map, true}
use Rattle.f77_symbolic.specs.Prelude.{LineFields, line_of, Resolved, CheckedFields, State, IsEquivalentWithin}
use Rattle.f77_symbolic.specs.Prelude.{AgreeBut, PassAlike, IsChange}
use Rattle.f77_symbolic.specs.Machines.{IsAtSite, IsFirst, machine, together}
use Rattle.f77_symbolic.specs.Walk.{FollowsByKeys, IsReachable}

-- A changed program is equivalent, with so many steps to spare, where it follows the
-- program from each state in which a run from a start comes to the changed statement.
abbrev pub EquivalentWhereFollowed : Type 0
EquivalentWhereFollowed =
    (checked : CheckedFields) (i : ℕ) (program : List LineFields) (changed : List Resolved)
    (spare : ℕ) → IsChange checked i program changed → AgreeBut i checked.statements changed
    → PassAlike checked.statements changed i
    → ((s : State) → IsReachable (machine checked.statements) (IsFirst checked) s → IsAtSite i s
    → FollowsByKeys (together checked changed spare) true spare s s)
    → IsEquivalentWithin spare (map line_of checked.program) program
