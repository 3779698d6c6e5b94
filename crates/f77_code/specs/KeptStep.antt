-- What is kept of the first time at which control was at an instruction.
use Rattle.std.specs.Prelude.{◌≡◌, ◌++◌, ℕ, Bool, List, [], ◌∷◌, drop, length, ℤ}
use Rattle.f77_code.specs.declared.kept_step.KeptStep.{KeptStep}
use Rattle.f77_code.specs.Frame.{AllWriteBelow}
use Rattle.f77_code.specs.Together.{AreTimes, KeptTime, MayDiverge, TwoRuns, time_of}

-- the time of which a step is kept
abbrev pub kept_time : KeptStep → KeptTime
kept_time kept = record {
  made = kept.made;
  slots = kept.slots.items;
  turns = kept.turns.items;
  place = kept.place;
  slots_after = kept.slots_after.items;
  turns_after = kept.turns_after.items;
}

-- two runs, and the registers behind those of slots in the run of the program
pub record DivergingRuns : Type 0 where
  pub runs : TwoRuns
  pub behind : List ℤ

-- what is kept of the first time at which control was at the changed instruction is true of the
-- run, `more` says whether control was there again, and the registers behind the slots are those of
-- the program with more behind them
pub record IsKept (diverging : DivergingRuns) (kept : KeptStep) (more : Bool) (steps : ℕ)
    (registers : List ℤ) : Type 0 where
  pub may : MayDiverge diverging.runs
  pub times : AreTimes diverging.runs.code diverging.runs.i diverging.runs.start 0 steps
      (time_of diverging.runs.i diverging.behind (kept_time kept) ∷ []) more
  pub behind : drop (length kept.slots.items) registers ≡ diverging.behind ++ diverging.runs.extra
  pub writes : AllWriteBelow (length kept.slots.items) diverging.runs.other
