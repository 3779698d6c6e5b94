-- The operators by number and by code.
-- Only private functions and proofs cite these definitions.
use Rattle.std.specs.Prelude.{ℕ, get_or}
use Rattle.mothra_codes.specs.declared.op.Op.{Op}
use Rattle.mothra_codes.specs.declared.op.Op.TheVariants.{Aar}
use Rattle.mothra_codes.specs.Op.{all_ops}

-- the operator at a place from 0 to 21
abbrev pub op_at : ℕ → Op
op_at i = get_or all_ops i Aar
