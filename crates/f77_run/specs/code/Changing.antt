-- A statement that may be put in the place of another, and registers that begin with the program's own.
-- Private functions and proofs alone cite what stands here.
use Rattle.std.specs.Prelude.{◌≡◌, ◌+◌, ℕ, true, length, map, None, IfSome, option_map, replicate, slice_get, take}
use Rattle.f77_actions.specs.declared.resolved.Resolved.{Resolved}
use Rattle.f77_check.specs.Checked.{CheckedFields}
use Rattle.f77_code.specs.declared.replacing.ChangedCode.{ChangedCode}
use Rattle.f77_code.specs.Compiled.{is_ready}
use Rattle.f77_code.specs.Replacing.{MayReplace}
use Rattle.f77_code.specs.Places.{has_places}
use Rattle.f77_meaning.specs.Start.{constant_value}
use Rattle.f77_run.specs.declared.registers.Registers.{Registers}
use Rattle.f77_run.specs.Registers.{AreLoaded, counters_of}

-- the resolved statement can be compiled in the place of the one with this number, from 0
pub record CanReplace (checked : CheckedFields) (place : ℕ) (statement : Resolved) : Type 0 where
  pub may : IfSome (slice_get checked.statements place) (λ own. MayReplace own statement)
  pub places : has_places (length checked.statements) statement ≡ true
  pub ready : is_ready checked.slots (length checked.statements) statement.action ≡ true

-- the registers begin with those at the start of the runs of the program itself, and the counters are those
pub record BeginsImage (checked : CheckedFields) (code : ChangedCode) (image : Registers) : Type 0 where
  pub registers : AreLoaded checked.start.kinds.items (map (option_map constant_value) checked.start.initial.items)
      (take code.own code.code.constants.values.items) (take (checked.slots + code.own) image.items.items)
  pub counters : image.counters.items ≡ counters_of checked.statements (replicate (length checked.program) None)
