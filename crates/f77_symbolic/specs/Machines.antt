-- A checked program and a changed one as two machines that are walked together.
use Rattle.std.specs.Prelude.{◌≡◌, ℕ, List, Some}
use Rattle.f77_symbolic.specs.Prelude.{CheckedFields, Finish, Resolved, Cells, State, Goes, Ends, moved, site}
use Rattle.f77_symbolic.specs.Prelude.{HoldAlike, IsEnding, start_state}
use Rattle.f77_equivalence.specs.Storable.{AreStorable}
use Rattle.f77_meaning.specs.declared.argument.Arg.{Arg}
use Rattle.f77_meaning.specs.Interpreter.{AreFitting}
use Rattle.f77_symbolic.specs.Walk.{Machine, Pairing}

-- how a run ends, and what the slots hold then
pub record End : Type 0 where
  pub finish : Finish
  pub cells : Cells

abbrev pub machine : List Resolved → Machine State End
machine statements = record {
  goes = λ s b. moved statements s ≡ Some (Goes b);
  ends = λ s e. moved statements s ≡ Some (Ends e.finish e.cells);
}

-- a run starts there, with arguments that fit
abbrev pub IsFirst : CheckedFields → State → Type 0
IsFirst checked s =
    (arguments : List Arg) × AreFitting checked.arguments arguments × AreStorable arguments
    × (s ≡ start_state checked arguments)

-- both end in one way, and the dummy arguments hold the same
abbrev pub EndAlike : CheckedFields → End → End → Type 0
EndAlike checked e f = (f.finish ≡ e.finish) × HoldAlike checked e.cells f.cells

-- where the program returns or stops, the changed one is to end alike, with so many steps to spare
unfoldable pub together : CheckedFields → List Resolved → ℕ → Pairing State End
together checked changed spare = record {
  own = machine checked.statements;
  other = machine changed;
  Wanted = λ e. IsEnding e.finish;
  Alike = EndAlike checked;
  Start = IsFirst checked;
  spare = spare;
}

-- control is at the statement i, or at the DO of this number
abbrev pub IsAtSite : ℕ → State → Type 0
IsAtSite i s = site s.place ≡ i
