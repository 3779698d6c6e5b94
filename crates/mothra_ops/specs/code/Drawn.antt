-- A program with its pools.
-- Only private functions and proofs cite these definitions.
use Rattle.std.specs.Prelude.{◌≡◌, List, map}
use Rattle.f77_program.specs.Program.{LineFields, line_of}
use Rattle.mothra_replacements.specs.Pools.{pools_of}
use Rattle.mothra_replacements.specs.Pools.{pool_fields}
use Rattle.mothra_ops.specs.declared.original.Original.{Original}

abbrev pub lines_of : Original → List LineFields
lines_of original = map line_of original.checked.now.program

-- the pools are those of the program
abbrev pub IsOriginal : Original → Type 0
IsOriginal original = pool_fields original.pools ≡ pools_of (lines_of original)
