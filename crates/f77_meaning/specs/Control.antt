-- Where control is in a run, and that it is never lost.
use Rattle.std.specs.Prelude.{List, None}
use Rattle.f77_program.specs.Program.{LineFields, IsProgram}
use Rattle.f77_legal.specs.Legal.{IsLegal}
use Rattle.f77_meaning.specs.Start.{IsStart}
use Rattle.f77_meaning.specs.Step.{Config, Next, Goes, Step}
use Rattle.f77_actions.specs.declared.value.Value.{Value}

-- the run with these arguments comes to the configuration
pub data Comes (p : List LineFields) (given : List (List Value)) : Config → Type 0 where
  at_start : {c : Config} → IsStart p given c → Comes p given c
  by_step : {b c : Config} → Comes p given b → Step p b (Goes c) → Comes p given c

-- Control is never lost: a run of a legal program starts, and each configuration that it comes to
-- leads to another or to an end.
abbrev pub Starts : Type 0
Starts = (p : List LineFields) (given : List (List Value))
    → IsProgram None p → (c : Config) × IsStart p given c

-- each configuration that a run of a legal program comes to leads on
abbrev pub LeadsOn : Type 0
LeadsOn = (p : List LineFields) (given : List (List Value)) (c : Config)
    → IsProgram None p → IsLegal p → Comes p given c → (n : Next) × Step p c n
