-- What the walk of a program and a changed one is to show.
-- Private functions and proofs alone cite what stands here.
use Rattle.std.specs.Prelude.{◌≡◌, ◌≤◌, ◌+ℤ◌, ◌≤ℤ◌, ℕ, ℤ, pos, All, IfSome, List, Option, Some}
use Rattle.f77_symbolic.specs.Prelude.{Finish, CheckedFields, IsChecked, Ends, moved, AgreeBut, PassAlike, Holds}
use Rattle.f77_symbolic.specs.Prelude.{Valuation, Change, Atoms, Evaluator, Pair, Step}
use Rattle.f77_terms.specs.declared.paths.Path.{Path}
use Rattle.f77_symbolic.specs.{together, FollowsByKeys, Interprets, AreInside, Start, cells_of, state_of}
use Rattle.f77_symbolic.specs.code.Memory.{HaveDummies}
use Rattle.f77_symbolic.specs.code.Sides.{IsEndOf}

-- the changed statement alone is another one, DOs pass it alike, and these are the dummy arguments
pub record IsReady (checked : CheckedFields) (change : Change) : Type 0 where
  pub formed : IsChecked checked
  pub own : change.own.items ≡ checked.statements
  pub agree : AgreeBut change.place checked.statements change.statements.items
  pub pass : PassAlike checked.statements change.statements.items change.place
  pub dummies : HaveDummies checked change.dummies.items

-- the pair where this path holds
abbrev pub on_path : Path → Pair → Pair
on_path path pair =
    record { path = path; left = pair.left; right = pair.right; credit = pair.credit; fresh = pair.fresh }

-- the path holds, and what was written to is inside
pub record IsThere (v : Valuation) (pair : Pair) : Type 0 where
  pub holds : Holds v pair.path
  pub left : AreInside v pair.left.writes.items
  pub right : AreInside v pair.right.writes.items

-- the room for further steps of the changed program, where so many may be spared
abbrev pub IsRoomLeft : ℕ → ℤ → ℕ → Type 0
IsRoomLeft spare credit room = pos room ≡ (pos spare +ℤ credit)

-- the changed program is no more steps behind than may be spared
abbrev pub IsWithin : ℕ → Pair → Type 0
IsWithin spare pair = pos 0 ≤ℤ (pos spare +ℤ pair.credit)

-- from the states of the pair the changed program follows the program
abbrev pub Follows : ℕ → CheckedFields → Change → Start → Valuation → Pair → Type 0
Follows spare checked change start v pair =
    (room : ℕ) → IsRoomLeft spare pair.credit room → IsThere v pair
    → FollowsByKeys (together checked change.statements.items spare) pair.fresh room
    (state_of start.cells v pair.left) (state_of start.cells v pair.right)

pub record IsSettled (spare : ℕ) (checked : CheckedFields) (change : Change) (start : Start) (v : Valuation)
    (pair : Pair) : Type 0 where
  pub within : IsWithin spare pair
  pub follows : Follows spare checked change start v pair

-- so it is, whatever the atoms mean
abbrev pub Whatever : Atoms → Change → (ℕ → CheckedFields → Start → Valuation → Type 0) → Type 0
Whatever atoms change Claim = (spare : ℕ) (checked : CheckedFields) (start : Start) (v : Valuation)
    → IsReady checked change → Interprets atoms start v → Claim spare checked start v

-- if the next pair, where there is one, is settled, then the changed program follows from this pair
abbrev pub RestsOn : Atoms → Change → Option Pair → Pair → Type 0
RestsOn atoms change next pair = Whatever atoms change (λ spare checked start v. IsWithin spare pair
    → IfSome next (IsSettled spare checked change start v) → Follows spare checked change start v pair)

-- where all pairs of the new list are settled, so are those of the old one, and it follows from this pair
abbrev pub GivesWay : Atoms → Change → List Pair → List Pair → Pair → Type 0
GivesWay atoms change old new pair = Whatever atoms change (λ spare checked start v. IsWithin spare pair
    → All (IsSettled spare checked change start v) new
    → All (IsSettled spare checked change start v) old × Follows spare checked change start v pair)

-- where it was at most so many steps behind, all pairs are settled
abbrev pub AreSettled : Atoms → Change → ℕ → List Pair → Type 0
AreSettled atoms change behind list = Whatever atoms change (λ spare checked start v. behind ≤ spare
    → All (IsSettled spare checked change start v) list)

-- where the path holds, the changed program ends so, if this is its step, and slots hold what they did
abbrev pub ComesToEnd : Change → Evaluator → Step → Pair → Type 0
ComesToEnd change new made pair = (start : Start) (v : Valuation) (finish : Finish) → Interprets new.atoms start v
    → IsThere v pair → IsEndOf made finish → Holds v new.path
    × (moved change.statements.items (state_of start.cells v pair.right)
    ≡ Some (Ends finish (cells_of start.cells v pair.right.writes.items)))
