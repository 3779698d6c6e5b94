-- Two codes that differ in one instruction: while they make the same steps there, they come to the
-- same.
use Rattle.std.specs.Prelude.{◌≡◌, ◌≢◌, ◌+◌, ◌++◌, ◌<◌, ◌≤◌, ℕ, Bool, true, false}
use Rattle.std.specs.Prelude.{List, [], ◌∷◌, length, take, Some, slice_get, ℤ}
use Rattle.f77_code.specs.declared.control.Turn.{Turn}
use Rattle.f77_code.specs.declared.instruction.Instruction.{Instruction}
use Rattle.f77_code.specs.Block.{one, code_after, code_within}
use Rattle.f77_code.specs.Frame.{AllWriteBelow, with_more}
use Rattle.f77_code.specs.Operation.{Point, point}

-- the codes have the same instructions, apart from the one with this number
abbrev pub AgreeButAt : ℕ → List Instruction → List Instruction → Type 0
AgreeButAt i code other = (j : ℕ) → j ≢ i → slice_get other j ≡ slice_get code j

-- the other code makes the same step each time that control is at the instruction i within n steps
-- of the run from p
abbrev pub SameStep : List Instruction → List Instruction → ℕ → ℕ → Point → Type 0
SameStep code other i n p = (k : ℕ) → k < n → (code_after code k p).place ≡ i
    → one other (code_after code k p) ≡ one code (code_after code k p)

-- codes that differ in one instruction come to the same while they make the same steps there
abbrev pub Alongside : Type 0
Alongside = (code other : List Instruction) (i n m : ℕ) (p : Point)
    → AgreeButAt i code other → SameStep code other i n p → m ≤ n
    → code_after other m p ≡ code_after code m p

-- a time at which control was at an instruction: the number of steps before it, the point there,
-- and the point to which the next step led
pub record Time : Type 0 where
  pub made : ℕ
  pub before : Point
  pub after : Point

-- the time is one of the run from this point, at the instruction i
pub record IsTime (code : List Instruction) (i : ℕ) (start : Point) (time : Time) : Type 0 where
  pub reaches : code_after code time.made start ≡ time.before
  pub is : time.before.place ≡ i
  pub leads : one code time.before ≡ time.after

-- after m steps or more, and fewer than n, control is not at the instruction i
abbrev pub IsElsewhere : List Instruction → ℕ → Point → ℕ → ℕ → Type 0
IsElsewhere code i start m n =
    (k : ℕ) → m ≤ k → k < n → (code_after code k start).place ≢ i

-- after m steps or more, and fewer than n, control is at the instruction i
pub record IsOnceMore (code : List Instruction) (i : ℕ) (start : Point) (m n : ℕ) : Type 0 where
  pub made : ℕ
  pub from : m ≤ made
  pub below : made < n
  pub is : (code_after code made start).place ≡ i

-- these are the first times, after m steps or more and fewer than n, at which control is at the
-- instruction i; and the truth value says whether it is there again
abbrev pub AreTimes : List Instruction → ℕ → Point → ℕ → ℕ → List Time → Bool → Type 0
AreTimes code i start m n [] false = IsElsewhere code i start m n
AreTimes code i start m n [] true = IsOnceMore code i start m n
AreTimes code i start m n (time ∷ times) more =
    (m ≤ time.made)
    × (time.made < n) × IsElsewhere code i start m time.made × IsTime code i start time
    × AreTimes code i start (time.made + 1) n times more

-- the other code, with more registers behind, makes the steps of the first k times
abbrev pub MakesSteps : List Instruction → List ℤ → List Time → ℕ → Type 0
MakesSteps other extra times k = (j : ℕ) (time : Time) → j < k → slice_get times j ≡ Some time
    → one other (with_more time.before extra) ≡ with_more time.after extra

-- a run of code, and other code in which the instruction i alone may differ; the other code may
-- name more registers, which stand behind those of the run
pub record TwoRuns : Type 0 where
  pub code : List Instruction
  pub other : List Instruction
  pub i : ℕ
  pub loops : ℕ
  pub start : Point
  pub extra : List ℤ

-- the two codes have the same instructions, apart from one, and the run has the registers that the
-- first one names
pub record MayDiverge (runs : TwoRuns) : Type 0 where
  pub within : code_within (length runs.start.registers) runs.loops runs.code ≡ true
  pub agree : AgreeButAt runs.i runs.code runs.other

-- if the other code makes the steps of all times at which control is at the changed instruction,
-- its run comes to what the run comes to
abbrev pub NeverDiverge : Type 0
NeverDiverge = (runs : TwoRuns) (n m : ℕ) (times : List Time)
    → MayDiverge runs → AreTimes runs.code runs.i runs.start 0 n times false
    → MakesSteps runs.other runs.extra times (length times) → m ≤ n
    → code_after runs.other m (with_more runs.start runs.extra)
    ≡ with_more (code_after runs.code m runs.start) runs.extra

-- if the other code makes the steps of the first k times, its run from the next time on comes to
-- what its run from the start comes to
abbrev pub DivergeAt : Type 0
DivergeAt = (runs : TwoRuns) (n k m : ℕ) (times : List Time) (more : Bool) (time : Time)
    → MayDiverge runs → AreTimes runs.code runs.i runs.start 0 n times more
    → slice_get times k ≡ Some time → MakesSteps runs.other runs.extra times k
    → code_after runs.other (time.made + 1 + m) (with_more runs.start runs.extra)
    ≡ code_after runs.other m (one runs.other (with_more time.before runs.extra))

-- what is kept of a time: the n registers of slots, without the others, and the counters
pub record KeptTime : Type 0 where
  pub made : ℕ
  pub slots : List ℤ
  pub turns : List Turn
  pub place : ℕ
  pub slots_after : List ℤ
  pub turns_after : List Turn

-- the time of which this is kept, at the instruction i, with these registers behind the slots
abbrev pub time_of : ℕ → List ℤ → KeptTime → Time
time_of i behind kept = record {
  made = kept.made;
  before = point i (kept.slots ++ behind) kept.turns;
  after = point kept.place (kept.slots_after ++ behind) kept.turns_after;
}

-- code that does not change the registers behind the slots makes the step of a time if it leads to
-- the place, the counters and the registers of slots that are kept
abbrev pub MakesStep : Type 0
MakesStep = (other : List Instruction) (i n : ℕ) (behind extra : List ℤ) (kept : KeptTime)
    (q : Point) → AllWriteBelow n other → length kept.slots ≡ n
    → one other (point i (kept.slots ++ (behind ++ extra)) kept.turns) ≡ q
    → q.place ≡ kept.place → take n q.registers ≡ kept.slots_after → q.turns ≡ kept.turns_after
    → one other (with_more (time_of i behind kept).before extra)
    ≡ with_more (time_of i behind kept).after extra
