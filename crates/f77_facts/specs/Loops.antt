-- What is known of what DOs have left.
use Rattle.std.specs.Prelude.{pos, List, Option, Some, None}
use Rattle.f77_facts.specs.Prelude.{Turn, TurnList, LoopFact, IsIn}
use Rattle.f77_facts.specs.Facts.{AreSuited}
use Rattle.f77_facts.specs.declared.loops.LoopFact.TheVariants.{Inactive, Active}

-- what a DO may have left, if it is active
abbrev pub SuitsTurn : LoopFact → Option Turn → Type 0
SuitsTurn Inactive None = Unit {0}
SuitsTurn Inactive (Some turn) = ⊥
SuitsTurn (Active passes step) None = ⊥
SuitsTurn (Active passes step) (Some turn) = IsIn passes (pos turn.passes) × IsIn step turn.step

-- what the statements have left suits the facts
abbrev pub AreLeft : List LoopFact → TurnList → Type 0
AreLeft = AreSuited SuitsTurn
