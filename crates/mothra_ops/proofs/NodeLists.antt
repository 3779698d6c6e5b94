-- The nodes of the statements of a program, statement by statement.
use Rattle.mothra_ops.proofs.Common.{◌≡◌, ◌∙◌, ap, sym, List, map, arith, Some, ℕ, ◌≤◌, None, ◌-◌, suc, slice_get, zero, Option, option_map, Vec, same_Some}
use Rattle.mothra_ops.proofs.Common.{none-some, slice_get-map, line_of, LineFields, Line, NodeOf, nodes_of, node_of, Statement, Node, numbered, HasStatement}
use Rattle.mothra_ops.proofs.Common.{AreNodesOf, nodes_at}
use Rattle.std.specs.declared.alloc.Global.{Global}

-- the list that is found for a number has the nodes of the statement with that number
pub list_found : (program : List LineFields) (lists : List (Vec Node Global)) (number : ℕ) → AreNodesOf program lists → 1 ≤ number
    → option_map (λ (list : Vec Node Global). map node_of list.items) (slice_get lists (number - 1)) ≡ nodes_at program number
list_found program lists zero is some = absurd (omega (arith, some))
list_found program lists (suc k) is some =
    let e : suc k - 1 ≡ k = omega arith in
    ap (λ (j : ℕ). option_map (λ (list : Vec Node Global). map node_of list.items) (slice_get lists j)) e
    ∙ sym (slice_get-map (λ (list : Vec Node Global). map node_of list.items) lists k) ∙ ap (λ (ns : List (List NodeOf)). slice_get ns k) is
    ∙ slice_get-map (λ (l : LineFields). nodes_of l.stmt) program k

-- the nodes at a number are those of the statement that is known to stand there
nodes_of_statement : (program : List LineFields) (number : ℕ) (s : Statement) → HasStatement program number s → nodes_at program number ≡ Some (nodes_of s)
nodes_of_statement program number s has = by (numbered program number) has
  where
    by : (o : Option LineFields) → option_map (λ (l : LineFields). l.stmt) o ≡ Some s → option_map (λ (l : LineFields). nodes_of l.stmt) o ≡ Some (nodes_of s)
    by (Some l) e = ap (λ (t : Statement). Some (nodes_of t)) (same_Some _ _ e)
    by None e = absurd (none-some s e)

-- the list that is found is that of the statement
pub nodes_are : (lines other : List Line) (number : ℕ) (s : Statement) (nodes : List Node) → Some (map node_of nodes) ≡ nodes_at (map line_of lines) number → lines ≡ other
    → HasStatement (map line_of other) number s → map node_of nodes ≡ nodes_of s
nodes_are lines other number s nodes found same has =
    same_Some _ _ (found ∙ ap (λ (ls : List Line). nodes_at (map line_of ls) number) same ∙ nodes_of_statement (map line_of other) number s has)
