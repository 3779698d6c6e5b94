-- The code of a program in which one instruction is replaced.
use Rattle.std.specs.Prelude.{◌≡◌, ◌≤◌, ◌<◌, ⊤, List, length, take, Option, None, Some, IfSome, slice_set}
use Rattle.f77_actions.specs.declared.action.Action.{Action, Loop}
use Rattle.f77_actions.specs.declared.resolved.Resolved.{Resolved}
use Rattle.f77_code.specs.declared.constants.Constants.{Constants}
use Rattle.f77_code.specs.declared.replacing.ChangedCode.{ChangedCode}
use Rattle.f77_code.specs.declared.replacing.OwnInstruction.{OwnInstruction}
use Rattle.f77_code.specs.declared.instruction.Instruction.{Instruction}
use Rattle.f77_code.specs.Compiled.{AreCompiled, HasOneFrame}
use Rattle.f77_code.specs.Places.{ArePlaces}

-- the instructions with the program's own one back in its place
abbrev pub put_back : List Instruction → Option OwnInstruction → List Instruction
put_back instructions None = instructions
put_back instructions (Some replaced) = slice_set instructions replaced.place replaced.own

-- the instructions of the program itself
abbrev pub own_instructions : ChangedCode → List Instruction
own_instructions changed = put_back changed.code.instructions.items changed.replaced

-- the table has the constants of the program itself
pub record HasOwn (changed : ChangedCode) (table : Constants) : Type 0 where
  pub slots : table.slots ≡ changed.code.constants.slots
  pub values : table.values.items ≡ take changed.own changed.code.constants.values.items

-- the code is that of these statements, apart from one instruction and from constants at the end of
-- the table, which may be those of another statement
pub record IsChangedCode (statements : List Resolved) (changed : ChangedCode) : Type 0 where
  pub places : ArePlaces statements changed.code.places
  pub compiled : (table : Constants)
      → HasOwn changed table → AreCompiled table statements (own_instructions changed)
  pub own : changed.own ≤ length changed.code.constants.values.items
  pub within : IfSome changed.replaced (λ it. it.place < length changed.code.instructions.items)

-- the code is the program's own: no instruction is replaced, and no constant of another statement
-- is there
pub record IsAllOwn (changed : ChangedCode) : Type 0 where
  pub instructions : changed.replaced ≡ None
  pub constants : length changed.code.constants.values.items ≡ changed.own

-- the two are code of one program
pub record HaveOneOwn (before after : ChangedCode) : Type 0 where
  pub instructions : own_instructions after ≡ own_instructions before
  pub count : after.own ≡ before.own
  pub slots : after.code.constants.slots ≡ before.code.constants.slots
  pub values : take after.own after.code.constants.values.items
      ≡ take before.own before.code.constants.values.items
  pub places : after.code.places ≡ before.code.places

-- if both actions are DOs, they have the same variable and end at the same statement
abbrev pub HaveOneDo : Action → Action → Type 0
HaveOneDo (Loop variable first last step t) (Loop other from to by u) =
    (other ≡ variable) × (u ≡ t)
HaveOneDo _ _ = ⊤

-- the statement s may be put in the place of r
pub record MayReplace (r s : Resolved) : Type 0 where
  pub frame : HasOneFrame r s
  pub loop : HaveOneDo r.action s.action
