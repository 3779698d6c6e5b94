-- A program of which mutants are made.
-- Only private functions and proofs cite these definitions.
use Rattle.std.specs.Prelude.{◌≡◌, ℕ, List, [], Option, Some, Vec, map, option_map, slice_get}
use Rattle.std.specs.Option.{option_map_or}
use Rattle.std.specs.declared.alloc.Global.{Global}
use Rattle.f77_tree.specs.Node.{NodeOf, node_of, nodes_of}
use Rattle.f77_program.specs.Program.{LineFields}
use Rattle.f77_tree.specs.Statement.{statement_of, Statement}
use Rattle.f77_tree.specs.declared.node.Node.{Node}
use Rattle.mothra_codes.specs.declared.op.Op.{Op}
use Rattle.mothra_ops.specs.Edits.{numbered}
use Rattle.mothra_replacements.specs.Pools.{PoolFields}
use Rattle.mothra_replacements.specs.Replacements.{gives}
use Rattle.mothra_ops.specs.declared.site.Site.{Site}

-- the program has this statement at this number
abbrev pub HasStatement : List LineFields → ℕ → Statement → Type 0
HasStatement program number statement = option_map (λ line. line.stmt) (numbered program number) ≡ Some statement

-- the statement with this number has this node at this position
pub record StandsAt (program : List LineFields) (number position : ℕ) (statement : Statement)
    (node : NodeOf) : Type 0 where
  pub statement_at : HasStatement program number statement
  pub node_at : slice_get (nodes_of statement) position ≡ Some node

-- the site is one of the program's
abbrev pub IsSiteOf : List LineFields → Site → Type 0
IsSiteOf program site = StandsAt program site.number site.position (statement_of site.stmt.now) (node_of site.node)

-- the nodes of the statement with this number, where there is one
abbrev pub nodes_at : List LineFields → ℕ → Option (List NodeOf)
nodes_at program number = option_map (λ line. nodes_of line.stmt) (numbered program number)

-- the lists are the nodes of the statements of the program, line by line
abbrev pub AreNodesOf : List LineFields → List (Vec Node Global) → Type 0
AreNodesOf program lists =
    map (λ list. map node_of list.items) lists ≡ map (λ line. nodes_of line.stmt) program

-- what the operator gives for the node at this position of the statement
-- with this number; nothing where there is no such node
abbrev pub candidates_at : PoolFields → List LineFields → Op → ℕ → ℕ → List NodeOf
candidates_at pools program op statement position =
    option_map_or (λ line. option_map_or (gives op pools line.stmt) (slice_get (nodes_of line.stmt) position) [])
    (numbered program statement) []
