-- What the operators draw from in a legal program is formed.
use Rattle.mothra_replacements.proofs.Common.{◌≡◌, map, List, ap, refl, [], filter, sym, ◌∷◌, not, None, true, Bool, Some, false, Option, if◌then◌else◌}
use Rattle.mothra_replacements.proofs.Common.{map-append, All-append, All-cons, All-map, All-nil, All-weaker, All-filter, All-head, All-tail, All-same}
use Rattle.mothra_replacements.proofs.Common.{filter_map, All, cons_option, IsLegal, is_array, Symbol, symbols, uses, NameUse, name_in, uses_of, LineFields}
use Rattle.mothra_replacements.proofs.Common.{IsProgram, all_formed, formed, statement_formed, and_true, same_tree, is_symbolic, NodeOf, names_of, node_name}
use Rattle.mothra_replacements.proofs.Common.{nodes_of, Statement, is_executable_statement, Tree, Trees, scalar, PoolFields, each_once, operand_at, is_operand}
use Rattle.mothra_replacements.proofs.Common.{pools_of, executable_nodes, Operand}
use Rattle.std.specs.Option.{IfSome}
use Rattle.f77_tree.specs.Grammar.{is_call}
use Rattle.f77_program.proofs.Forming.{a_reference}
use Rattle.f77_legal.proofs.Among.{once_all}
use Rattle.mothra_replacements.specs.declared.operands.Operand.TheVariants as operand
use Rattle.mothra_replacements.proofs.FormedNodes.{IsFormedLine, IsFormedNode, IsFormedTree, IsNamed, IsNoFunction, both_parts, lines_formed, nodes_formed}
use Rattle.mothra_replacements.proofs.FormedNodes.{symbols_named, symbols_no_functions}

-- the pools hold what some text spells; the arrays bear names of no functions
pub record AreFormed (pools : PoolFields) : Type 0 where
  pub scalars : All IsFormedTree pools.scalars
  pub arrays : All (λ name. IsNamed name × IsNoFunction name) pools.arrays
  pub references : All IsFormedTree pools.references
  pub constants : All IsFormedTree pools.constants

scalar_formed : (name : Symbol) → IsNamed name → IsFormedTree (scalar name)
scalar_formed name is = rw (a_reference is_symbolic name Trees.None refl is) refl

-- a name that is not a function's is no call, with subscripts and without
no_function : (name : Symbol) (items : Trees) → IsNoFunction name → is_call name items ≡ false
no_function name Trees.None own = refl
no_function name (Trees.Then t ts) own = own

pub named_formed : (name : Symbol) (items : Trees) → IsNamed name → IsNoFunction name → all_formed is_symbolic items ≡ true
    → IsFormedTree (Tree.Reference name items)
named_formed name items is own all = rw (a_reference is_symbolic name items (no_function name items own) is, all) refl

all_each_once : {X : Type 0} (P : X → Type 0) (same : X → X → Bool) (xs : List X) → All P xs → All P (each_once same xs)
all_each_once P same [] all = All-nil P
all_each_once P same (x ∷ xs) all =
    All-cons P x (filter (λ y. not (same x y)) (each_once same xs)) (All-head P x xs all)
    (All-filter (λ y. not (same x y)) P (each_once same xs) (all_each_once P same xs (All-tail P x xs all)))

-- what a function gives of each item has a property
pub All-filter_map : {X Y : Type 0} (P : Y → Type 0) (Q : X → Type 0) (h : X → Option Y) → ((x : X) → Q x → IfSome (h x) P)
    → (xs : List X) → All Q xs → All P (filter_map h xs)
All-filter_map P Q h each [] all = All-nil P
All-filter_map {X} {Y} P Q h each (x ∷ xs) all = by (h x) (each x (All-head Q x xs all)) (All-filter_map P Q h each xs (All-tail Q x xs all))
  where
    by : (o : Option Y) → IfSome o P → All P (filter_map h xs) → All P (cons_option o (filter_map h xs))
    by None is rest = rest
    by (Some y) is rest = All-cons P y (filter_map h xs) is rest

-- a formed node that bears the name of no function
abbrev IsOwn : NodeOf → Type 0
IsOwn node = IsFormedNode node × IfSome (node_name node) IsNoFunction

if_formed : (b : Bool) (t : Tree) → IsFormedTree t → IfSome (if b then Some t else None) IsFormedTree
if_formed true t f = f
if_formed false t f = tt

operand_formed : (sort : Operand) (node : NodeOf) → IsOwn node → IfSome (operand_at sort node) IsFormedTree
operand_formed sort (NodeOf.Part t) own = if_formed (is_operand sort t) t own.0
operand_formed sort (NodeOf.Target name items) own =
    let (is, all) = and_true (is_symbolic name) (all_formed is_symbolic items) own.0 in
    if_formed (is_operand sort (Tree.Reference name items)) (Tree.Reference name items) (named_formed name items is own.1 all)
operand_formed sort _ own = tt

-- the names that nodes bear, one by one
first_named : (o : Option Symbol) (names : List Symbol) → All IsNoFunction (cons_option o names) → IfSome o IsNoFunction × All IsNoFunction names
first_named None names all = (tt, all)
first_named (Some name) names all = (All-head IsNoFunction name names all, All-tail IsNoFunction name names all)

own_each : (nodes : List NodeOf) → All IsFormedNode nodes → All IsNoFunction (filter_map node_name nodes) → All IsOwn nodes
own_each [] formed names = All-nil IsOwn
own_each (node ∷ nodes) formed names =
    let named = first_named (node_name node) (filter_map node_name nodes) names in
    All-cons IsOwn node nodes (All-head IsFormedNode node nodes formed, named.0)
    (own_each nodes (All-tail IsFormedNode node nodes formed) named.1)

plain_names : (names : List Symbol) → map name_in (map NameUse.Plain names) ≡ names
plain_names [] = refl
plain_names (name ∷ names) = ap (λ (ns : List Symbol). name ∷ ns) (plain_names names)

own_executed : (s : Statement) → statement_formed is_symbolic s ≡ true → All IsNoFunction (map name_in (map NameUse.Plain (names_of s))) → All IsOwn (nodes_of s)
own_executed s f names = own_each (nodes_of s) (nodes_formed s f) (All-same IsNoFunction (names_of s) _ (sym (plain_names (names_of s))) names)

own_of : (s : Statement) → statement_formed is_symbolic s ≡ true → All IsNoFunction (map name_in (uses_of s))
    → All IsOwn (if is_executable_statement s then nodes_of s else [])
own_of (Statement.Subroutine name arguments) f names = All-nil IsOwn
own_of (Statement.Declare kind ds) f names = All-nil IsOwn
own_of (Statement.Dimension ds) f names = All-nil IsOwn
own_of (Statement.Preset gs) f names = All-nil IsOwn
own_of s f names = own_executed s f names

own_nodes : (program : List LineFields) → All IsFormedLine program → All IsNoFunction (map name_in (uses program)) → All IsOwn (executable_nodes program)
own_nodes [] formed names = All-nil IsOwn
own_nodes (line ∷ lines) formed names =
    let parts = both_parts IsNoFunction (map name_in (uses_of line.stmt)) (map name_in (uses lines))
    (All-same IsNoFunction _ (map name_in (uses (line ∷ lines))) (sym (map-append name_in (uses_of line.stmt) (uses lines))) names) in
    All-append IsOwn (if is_executable_statement line.stmt then nodes_of line.stmt else []) (executable_nodes lines)
    (own_of line.stmt (All-head IsFormedLine line lines formed) parts.0)
    (own_nodes lines (All-tail IsFormedLine line lines formed) parts.1)

pub pools_formed : (program : List LineFields) → IsProgram None program → IsLegal program → AreFormed (pools_of program)
pools_formed program is legal =
    let lines = lines_formed program is in
    let named = symbols_named program lines in
    let others = symbols_no_functions program legal in
    let nodes = executable_nodes program in
    let own = own_nodes program lines (once_all IsNoFunction (map name_in (uses program)) others) in
    let operands = λ (sort : Operand). all_each_once IsFormedTree same_tree (filter_map (operand_at sort) nodes)
    (All-filter_map IsFormedTree IsOwn (operand_at sort) (operand_formed sort) nodes own) in
    let without = filter (λ name. not (is_array program name)) (symbols program) in
    record {
      scalars = All-map IsFormedTree scalar without (All-weaker IsNamed (λ name. IsFormedTree (scalar name)) scalar_formed without
          (All-filter (λ name. not (is_array program name)) IsNamed (symbols program) named));
      arrays = All-filter (is_array program) (λ name. IsNamed name × IsNoFunction name) (symbols program) (λ k d low. (named k d low, others k d low));
      references = operands operand.ArrayReference;
      constants = operands operand.Constant;
    }
