-- For places of control what is known there, by one or more entries.
use Rattle.std.specs.Prelude.{◌≡◌, ℕ, List, Some, slice_get}
use Rattle.f77_code.specs.declared.control.Place.{Place}
use Rattle.f77_facts.specs.Prelude.{Cells, TurnList, Fact, LoopFact}
use Rattle.f77_facts.specs.declared.entries.Entry.{Entry}
use Rattle.f77_facts.specs.Facts.{AreIn}
use Rattle.f77_facts.specs.Loops.{AreLeft}

-- some entry of the place says what slots hold and DOs have left
pub record IsAmong (entries : List Entry) (place : Place) (cells : Cells)
    (turns : TurnList) : Type 0 where
  pub number : ℕ
  pub entry : Entry
  pub is : slice_get entries number ≡ Some entry
  pub there : entry.place ≡ place
  pub inside : AreIn entry.facts.items cells
  pub left : AreLeft entry.loops.items turns

-- what is among the old entries is among the new ones
abbrev pub GrowsEntries : List Entry → List Entry → Type 0
GrowsEntries old new = (place : Place) (cells : Cells) (turns : TurnList)
    → IsAmong old place cells turns → IsAmong new place cells turns

-- all states of the place of which this is known are in entries
abbrev pub AreCovered : List Entry → Place → List Fact → List LoopFact → Type 0
AreCovered entries place facts loops = (cells : Cells) (turns : TurnList)
    → AreIn facts cells → AreLeft loops turns → IsAmong entries place cells turns
