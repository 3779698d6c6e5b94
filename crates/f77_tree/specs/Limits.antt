-- The limits of a statement, each asked of its nodes: on constants, bounds, repeats and labels, and
-- on the number of nodes.
use Rattle.std.specs.Prelude.{ℕ, suc, ℤ, pos, negsuc, length, Bool, true, ◌&&◌, nat_le}
use Rattle.std.specs.List.{list_all}
use Rattle.f77_tree.specs.declared.data.Constant.{Constant}
use Rattle.f77_tree.specs.declared.data.Constant.TheVariants.{Number, Truth}
use Rattle.f77_tree.specs.Tree.{Tree}
use Rattle.f77_tree.specs.Statement.{Statement}
use Rattle.f77_tree.specs.Node.{NodeOf, nodes_of}

-- the most nodes of a statement
abbrev pub most_nodes : ℕ
most_nodes = 200

-- the largest INTEGER constant
abbrev pub largest_integer : ℕ
largest_integer = 2147483647

-- a label is 1 to 99999
abbrev pub is_label : ℕ → Bool
is_label n = nat_le 1 n && nat_le n 99999

-- a number without its sign
abbrev pub magnitude : ℤ → ℕ
magnitude (pos n) = n
magnitude (negsuc n) = suc n

-- a constant of DATA is at most 2147483647 with either sign
abbrev pub small_constant : Constant → Bool
small_constant (Number z) = nat_le (magnitude z) largest_integer
small_constant (Truth b) = true

-- no constant, bound or repeat of the node is above 2147483647, a repeat is at least 1, and a label
-- is in range
abbrev pub is_small_node : NodeOf → Bool
is_small_node (NodeOf.Part (Tree.Number n)) = nat_le n largest_integer
is_small_node (NodeOf.Declared d) = list_all (λ bound. nat_le bound largest_integer) d.bounds
is_small_node (NodeOf.Labelled label) = is_label label
is_small_node (NodeOf.Initial v) =
    nat_le 1 v.times && (nat_le v.times largest_integer && small_constant v.constant)
is_small_node _ = true

-- Rule: sizes of names and numbers (2.2)
-- constants, bounds, repeats and labels are in range
abbrev pub statement_constants : Statement → Bool
statement_constants s = list_all is_small_node (nodes_of s)

-- the number of nodes of the statement, which is one of them
abbrev pub statement_nodes : Statement → ℕ
statement_nodes s = length (nodes_of s)
