-- When no test can tell a changed program from the program.
use Rattle.std.specs.Prelude.{◌+◌, ℕ, List}
use Rattle.f77_program.specs.Program.{LineFields}
use Rattle.f77_equivalence.specs.Prelude.{shapes, Arg, AreFitting, IsEnd, IsOutcomeOf}
use Rattle.f77_meaning.specs.declared.outcome.Outcome.{Outcome}
use Rattle.f77_equivalence.specs.Storable.{AreStorable}

-- with these arguments, and whatever the limit on steps, where the first program returns
-- or stops, the second comes to the same under a limit that spares so many steps
abbrev pub KeepsEndsWithin : ℕ → List LineFields → List LineFields → List Arg → Type 0
KeepsEndsWithin spare p q arguments =
    (limit : ℕ) (outcome : Outcome) → IsOutcomeOf p arguments limit outcome → IsEnd outcome
    → IsOutcomeOf q arguments (limit + spare) outcome

-- So it does whatever arguments fit whose numbers INTEGER holds. With none to spare it is so
-- under the same limit.
abbrev pub IsEquivalentWithin : ℕ → List LineFields → List LineFields → Type 0
IsEquivalentWithin spare p q =
    (arguments : List Arg) → AreFitting (shapes p) arguments → AreStorable arguments
    → KeepsEndsWithin spare p q arguments
