-- What two programs do alike.
use Rattle.std.specs.Prelude.{◌≡◌, ◌≢◌, ℕ, ℤ, List, slice_get}
use Rattle.f77_equivalence.specs.Prelude.{Resolved, Cells, TurnList, go_on, passing_at, statement_number}
use Rattle.f77_code.specs.declared.control.Place.{Place}
use Rattle.f77_meaning.specs.States.{placed_in_run}

-- the statements are the same but for the one of this number
abbrev pub AgreeBut : ℕ → List Resolved → List Resolved → Type 0
AgreeBut i statements others = (j : ℕ) → j ≢ i → slice_get statements j ≡ slice_get others j

-- control goes on from the second statement as from the first
abbrev pub GoOnAlike : Resolved → Resolved → Type 0
GoOnAlike r s = (cells : Cells) (turns : TurnList) → go_on s cells turns ≡ go_on r cells turns

-- the DOs that end at this statement make their passes in the second program as in the first
abbrev pub PassAlike : List Resolved → List Resolved → ℕ → Type 0
PassAlike statements others t =
    (d passes : ℕ) (step : ℤ) (cells : Cells) (turns : TurnList)
    → passing_at others t d passes step cells turns
    ≡ passing_at statements t d passes step cells turns

-- the statement where control is
abbrev pub site : Place → ℕ
site place = statement_number (placed_in_run place)
