-- Arrays in registers.
-- Private functions and proofs alone cite what stands here.
use Rattle.std.specs.Prelude.{◌≡◌, ◌≤◌, ℕ, zero, suc}
use Rattle.std.specs.Prelude.{ℤ, pos, negsuc, Result, Ok, Err}
use Rattle.f77_actions.specs.declared.finish.Fault.{Fault}
use Rattle.f77_actions.specs.declared.finish.Fault.TheVariants.{BadSubscript}

-- the fault of two subscripts that name no element
abbrev pub misplaced_in_matrix : Result ℤ Fault → Result ℤ Fault → Result ℤ Fault
misplaced_in_matrix (Err fault) q = Err fault
misplaced_in_matrix (Ok z) (Err fault) = Err fault
misplaced_in_matrix (Ok z) (Ok w) = Err BadSubscript

-- how far a subscript is from the first element: beyond all bounds where the subscript is below 1
abbrev pub IsOffset : ℤ → ℕ → Type 0
IsOffset (pos zero) k = 1099511627776 ≤ k
IsOffset (pos (suc n)) k = k ≡ n
IsOffset (negsuc n) k = 1099511627776 ≤ k
