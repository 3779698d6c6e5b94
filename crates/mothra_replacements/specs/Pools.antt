-- What the operators draw from: the operands of a program, its arrays and its labels.
use Rattle.std.specs.Prelude.{ℕ, ◌+◌, Bool, true, false, not, nat_eq, nat_le, List, [], ◌∷◌}
use Rattle.std.specs.Prelude.{filter, map, Option, Some, None, if◌then◌else◌}
use Rattle.std.specs.List.{flat_map, filter_map, list_any, range_with_len}
use Rattle.f77_tree.specs.Statement.{is_executable_statement}
use Rattle.f77_tree.specs.Comparing.{same_tree}
use Rattle.f77_tree.specs.Node.{NodeOf, nodes_of}
use Rattle.f77_program.specs.Program.{LineFields}
use Rattle.f77_tree.specs.Tree.{Tree, Trees}
use Rattle.f77_tree.specs.declared.tree.Kind.{Kind}
use Rattle.f77_legal.specs.Labels.{labels}
use Rattle.f77_legal.specs.Legal.{is_array}
use Rattle.f77_legal.specs.Names.{Symbol, symbols, kind_of, bounds_of}
use Rattle.f77_tree.specs.View.{tree_of}
use Rattle.f77_legal.specs.NameTable.{kind_at, array_bounds}
use Rattle.mothra_replacements.specs.declared.operands.Operand.{Operand}
use Rattle.mothra_replacements.specs.declared.operands.Operand.TheVariants as operand
use Rattle.mothra_replacements.specs.declared.pools.Pools.{Pools}

-- the scalar of a name
abbrev pub scalar : Symbol → Tree
scalar name = Tree.Reference name Trees.None

-- a list of subscripts that is not empty: that of an array reference
abbrev pub are_some : Trees → Bool
are_some Trees.None = false
are_some (Trees.Then t ts) = true

-- an operand of this sort
abbrev pub is_operand : Operand → Tree → Bool
is_operand operand.ArrayReference (Tree.Reference name items) = are_some items
is_operand operand.Constant (Tree.Number n) = true
is_operand operand.Constant (Tree.Truth b) = true
is_operand operand.Scalar (Tree.Reference name items) = not (are_some items)
is_operand _ _ = false

-- each item once, where it comes first
abbrev pub each_once : {X : Type 0} → (X → X → Bool) → List X → List X
each_once same [] = []
each_once same (x ∷ xs) = x ∷ filter (λ y. not (same x y)) (each_once same xs)

-- the largest of these numbers
abbrev pub largest_of : List ℕ → ℕ
largest_of [] = 0
largest_of (n ∷ ns) = if nat_le n (largest_of ns) then largest_of ns else n

-- these numbers in ascending order, each once: of all up to the largest, those that are among them
abbrev pub ascending : List ℕ → List ℕ
ascending ns = filter (λ n. list_any (nat_eq n) ns) (range_with_len 0 (largest_of ns + 1))

-- the nodes of the executable statements, in order
abbrev pub executable_nodes : List LineFields → List NodeOf
executable_nodes program =
    flat_map (λ line. if is_executable_statement line.stmt then nodes_of line.stmt else []) program

-- the operand of this sort that a node is, in an expression or on the left side of an assignment
abbrev pub operand_at : Operand → NodeOf → Option Tree
operand_at sort (NodeOf.Part t) = if is_operand sort t then Some t else None
operand_at sort (NodeOf.Target name items) =
    if is_operand sort (Tree.Reference name items) then Some (Tree.Reference name items) else None
operand_at sort _ = None

-- the operands of this sort in executable statements, each once, in order of first occurrence
abbrev pub operands_of : List LineFields → Operand → List Tree
operands_of program sort =
    each_once same_tree (filter_map (operand_at sort) (executable_nodes program))

-- The kinds and the bounds of names; the scalars and the arrays in order of
-- first appearance, array references and constants in order of first occurrence
-- in executable statements, and the labels that stand on statements, ascending.
pub record PoolFields : Type 0 where
  pub kinds : Symbol → Kind
  pub bounds : Symbol → List ℕ
  pub scalars : List Tree
  pub arrays : List Symbol
  pub references : List Tree
  pub constants : List Tree
  pub labels : List ℕ

-- the operands of this sort
abbrev pub pool : PoolFields → Operand → List Tree
pool pools operand.ArrayReference = pools.references
pool pools operand.Constant = pools.constants
pool pools operand.Scalar = pools.scalars

-- Rule: what an operator puts there
-- the pools of a program
abbrev pub pools_of : List LineFields → PoolFields
pools_of program = record {
  kinds = kind_of program;
  bounds = bounds_of program;
  scalars = map scalar (filter (λ name. not (is_array program name)) (symbols program));
  arrays = filter (is_array program) (symbols program);
  references = operands_of program operand.ArrayReference;
  constants = operands_of program operand.Constant;
  labels = ascending (labels program);
}

-- the value of `Pools`, as definitions see it
abbrev pub pool_fields : Pools → PoolFields
pool_fields pools = record {
  kinds = kind_at pools.names;
  bounds = array_bounds pools.names;
  scalars = map tree_of pools.scalars.items;
  arrays = pools.arrays.items;
  references = map tree_of pools.references.items;
  constants = map tree_of pools.constants.items;
  labels = pools.labels.items;
}
