-- The code of a program.
use Rattle.std.specs.Prelude.{List}
use Rattle.f77_actions.specs.declared.resolved.Resolved.{Resolved}
use Rattle.f77_code.specs.declared.code.Code.{Code}
use Rattle.f77_code.specs.Compiled.{AreCompiled}
use Rattle.f77_code.specs.Places.{ArePlaces}

-- each instruction of the code stands for its statement, or increments its DO
pub record IsCode (statements : List Resolved) (code : Code) : Type 0 where
  pub places : ArePlaces statements code.places
  pub compiled : AreCompiled code.constants statements code.instructions.items
