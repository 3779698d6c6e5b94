-- A resolved expression on the heap. The definition does not unfold by itself, so a proof need not look inside of what
-- it passes on.
use Rattle.std.specs.Prelude.{ℕ, List, Box}
use Rattle.std.specs.declared.alloc.Global.{Global}
use Rattle.f77_tree.specs.Tree.{Tree}
use Rattle.f77_actions.specs.declared.expression.Number.{Number}
use Rattle.f77_check.specs.Expression.{IsNumber}
use Rattle.f77_legal.specs.Names.{Symbol}

unfoldable pub HoldsNumber : (Symbol → List ℕ) → List Symbol → Tree → Box Number Global → Type 0
HoldsNumber bounds names tree box = IsNumber bounds names tree box.value
