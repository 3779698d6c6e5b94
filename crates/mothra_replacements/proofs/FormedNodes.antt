-- The nodes of a statement that some text spells, and the names of a program of such statements.
use Rattle.mothra_replacements.proofs.Common.{◌≡◌, map, List, refl, [], ◌∷◌, None, true, ℕ, Bool, Some, false, Option, ◌++◌, get_or, length, ◌&&◌, is_some}
use Rattle.mothra_replacements.proofs.Common.{nat_le, ◌||◌, All-append, All-cons, All-map, All-nil, All-weaker, All-head, All-tail, filter_map, All, list_all}
use Rattle.mothra_replacements.proofs.Common.{flat_map, IsLegal, Symbol, symbols, uses, NameUse, name_in, uses_of, bounds_given, dummies_given, is_twice}
use Rattle.mothra_replacements.proofs.Common.{kinds_given, names_unit, reference_formed, LineFields, IsProgram, all_formed, formed, is_some_list}
use Rattle.mothra_replacements.proofs.Common.{statement_formed, value_formed, and_true, is_symbolic, NodeOf, names_of, node_name, nodes_of, all_parts}
use Rattle.mothra_replacements.proofs.Common.{group_nodes, nodes_behind, parts, value_nodes, Statement, Tree, Trees, GroupFields, DeclFields}
use Rattle.f77_tree.specs.Intrinsic.{function_named}
use Rattle.f77_tree.specs.Joined.{has_items}
use Rattle.f77_tree.specs.code.Joined.{some_all}
use Rattle.f77_tree.specs.Declaration.{all_bounded}
use Rattle.f77_program.specs.code.Data.{any_value, is_group}
use Rattle.f77_program.specs.code.Declaration.{declaration_formed, is_decl}
use Rattle.f77_program.specs.Formed.{is_action}
use Rattle.f77_program.specs.declared.group.Group.{Group}
use Rattle.f77_program.proofs.StatementForming.{is_symbolic_formed}
use Rattle.f77_legal.proofs.Among.{all_once}
use Rattle.f77_legal.proofs.Rules.{keeps_every_rule}
use Rattle.f77_legal.proofs.Symbols.{or_false}

-- the node is one of a statement that some text spells
abbrev pub node_formed : NodeOf → Bool
node_formed (NodeOf.Itself s) = statement_formed is_symbolic s
node_formed (NodeOf.Target name items) = is_symbolic name && all_formed is_symbolic items
node_formed (NodeOf.Part t) = formed is_symbolic t
node_formed (NodeOf.Named name) = is_symbolic name
node_formed (NodeOf.Declared d) = is_symbolic d.name
node_formed (NodeOf.Labelled label) = true
node_formed (NodeOf.Initial value) = true

abbrev pub IsFormedNode : NodeOf → Type 0
IsFormedNode node = node_formed node ≡ true

abbrev pub IsFormedTree : Tree → Type 0
IsFormedTree t = formed is_symbolic t ≡ true

abbrev pub IsNamed : Symbol → Type 0
IsNamed name = is_symbolic name ≡ true

-- lists of which each item passes a test
pub each_passes : {X : Type 0} (test : X → Bool) (xs : List X) → list_all test xs ≡ true → All (λ x. test x ≡ true) xs
each_passes test [] h = All-nil (λ x. test x ≡ true)
each_passes test (x ∷ xs) h =
    let (first, others) = and_true (test x) (list_all test xs) h in All-cons (λ x. test x ≡ true) x xs first (each_passes test xs others)

pub each_of_some : {X : Type 0} (test : X → Bool) (xs : List X) → some_all test xs ≡ true → list_all test xs ≡ true
each_of_some test [] h = cc
each_of_some test (x ∷ xs) h = h

pub some_of_each : {X : Type 0} (test : X → Bool) (xs : List X) → has_items xs ≡ true → list_all test xs ≡ true → some_all test xs ≡ true
some_of_each test [] some h = some
some_of_each test (x ∷ xs) some h = h

pub each_mapped : {X Y : Type 0} (P : X → Type 0) (f : Y → X) (ys : List Y) → ((y : Y) → P (f y)) → All P (map f ys)
each_mapped P f ys each = All-map P f ys (λ k d low. each (get_or ys k d))

pub both_parts : {X : Type 0} (P : X → Type 0) (xs ys : List X) → All P (xs ++ ys) → All P xs × All P ys
both_parts P [] ys all = (All-nil P, all)
both_parts P (x ∷ xs) ys all =
    let rest = both_parts P xs ys (All-tail P x (xs ++ ys) all) in (All-cons P x xs (All-head P x (xs ++ ys) all) rest.0, rest.1)

-- the parts of an expression
mutual
  pub parts_formed : (t : Tree) → formed is_symbolic t ≡ true → All IsFormedTree (parts t)
  parts_formed (Tree.Number n) f = All-cons IsFormedTree (Tree.Number n) [] f (All-nil IsFormedTree)
  parts_formed (Tree.Truth b) f = All-cons IsFormedTree (Tree.Truth b) [] f (All-nil IsFormedTree)
  parts_formed (Tree.Reference name items) f =
      All-cons IsFormedTree (Tree.Reference name items) (all_parts items) f (all_parts_formed items (reference_formed is_symbolic name items f).2)
  parts_formed (Tree.Call g items) f =
      All-cons IsFormedTree (Tree.Call g items) (all_parts items) f (all_parts_formed items (and_true (is_some_list items) (all_formed is_symbolic items) f).1)
  parts_formed (Tree.Signed sign t) f = All-cons IsFormedTree (Tree.Signed sign t) (parts t) f (parts_formed t f)
  parts_formed (Tree.Not t) f = All-cons IsFormedTree (Tree.Not t) (parts t) f (parts_formed t f)
  parts_formed (Tree.Binary op a b) f =
      let (first, second) = and_true (formed is_symbolic a) (formed is_symbolic b) f in
      All-cons IsFormedTree (Tree.Binary op a b) (parts a ++ parts b) f
      (All-append IsFormedTree (parts a) (parts b) (parts_formed a first) (parts_formed b second))
  parts_formed (Tree.ZeroPush t) f = All-cons IsFormedTree (Tree.ZeroPush t) (parts t) f (parts_formed t f)

  pub all_parts_formed : (items : Trees) → all_formed is_symbolic items ≡ true → All IsFormedTree (all_parts items)
  all_parts_formed Trees.None f = All-nil IsFormedTree
  all_parts_formed (Trees.Then t ts) f =
      let (first, others) = and_true (formed is_symbolic t) (all_formed is_symbolic ts) f in
      All-append IsFormedTree (parts t) (all_parts ts) (parts_formed t first) (all_parts_formed ts others)

part_nodes : (ts : List Tree) → All IsFormedTree ts → All IsFormedNode (map NodeOf.Part ts)
part_nodes ts all = All-map IsFormedNode NodeOf.Part ts all

tree_nodes_formed : (t : Tree) → formed is_symbolic t ≡ true → All IsFormedNode (map NodeOf.Part (parts t))
tree_nodes_formed t f = part_nodes (parts t) (parts_formed t f)

step_nodes_formed : (c : Option Tree) → value_formed is_symbolic c ≡ true → All IsFormedNode (value_nodes c)
step_nodes_formed None f = All-nil IsFormedNode
step_nodes_formed (Some t) f = tree_nodes_formed t f

label_nodes_formed : (labels : List ℕ) → All IsFormedNode (map NodeOf.Labelled labels)
label_nodes_formed labels = each_mapped IsFormedNode NodeOf.Labelled labels (λ label. refl)

name_nodes_formed : (names : List Symbol) → list_all is_symbolic names ≡ true → All IsFormedNode (map NodeOf.Named names)
name_nodes_formed names h = All-map IsFormedNode NodeOf.Named names (each_passes is_symbolic names h)

decl_nodes_formed : (ds : List DeclFields) → declaration_formed is_symbolic ds ≡ true → All IsFormedNode (map NodeOf.Declared ds)
decl_nodes_formed ds h = All-map IsFormedNode NodeOf.Declared ds (each_passes (is_decl is_symbolic) ds (each_of_some (is_decl is_symbolic) ds h))

group_nodes_formed : (g : GroupFields) → is_group is_symbolic g ≡ true → All IsFormedNode (group_nodes g)
group_nodes_formed g h =
    let (named, valued) = and_true (some_all is_symbolic g.names) (some_all any_value g.values) h in
    All-append IsFormedNode (map NodeOf.Named g.names) (map NodeOf.Initial g.values)
    (name_nodes_formed g.names (each_of_some is_symbolic g.names named)) (each_mapped IsFormedNode NodeOf.Initial g.values (λ value. refl))

groups_nodes_formed : (gs : List GroupFields) → list_all (is_group is_symbolic) gs ≡ true → All IsFormedNode (flat_map group_nodes gs)
groups_nodes_formed [] h = All-nil IsFormedNode
groups_nodes_formed (g ∷ gs) h =
    let (first, others) = and_true (is_group is_symbolic g) (list_all (is_group is_symbolic) gs) h in
    All-append IsFormedNode (group_nodes g) (flat_map group_nodes gs) (group_nodes_formed g first) (groups_nodes_formed gs others)

-- the nodes of a statement
behind_formed : (s : Statement) → statement_formed is_symbolic s ≡ true → All IsFormedNode (nodes_behind s)
behind_formed (Statement.Subroutine name names) f = name_nodes_formed names (and_true (is_symbolic name) (list_all is_symbolic names) f).1
behind_formed (Statement.Declare kind ds) f = decl_nodes_formed ds f
behind_formed (Statement.Dimension ds) f = decl_nodes_formed ds (and_true (declaration_formed is_symbolic ds) (all_bounded ds) f).0
behind_formed (Statement.Preset gs) f = groups_nodes_formed gs (each_of_some (is_group is_symbolic) gs f)
behind_formed (Statement.Assign name items t) f =
    let (is, rest) = and_true (is_symbolic name) (all_formed is_symbolic items && formed is_symbolic t) f in
    let (all, value) = and_true (all_formed is_symbolic items) (formed is_symbolic t) rest in
    All-append IsFormedNode (NodeOf.Target name items ∷ map NodeOf.Part (all_parts items)) (map NodeOf.Part (parts t))
    (All-cons IsFormedNode (NodeOf.Target name items) (map NodeOf.Part (all_parts items)) (rw (is, all) refl)
    (part_nodes (all_parts items) (all_parts_formed items all))) (tree_nodes_formed t value)
behind_formed (Statement.Goto label) f = label_nodes_formed (label ∷ [])
behind_formed (Statement.ComputedGoto labels t) f =
    let (some, value) = and_true (has_items labels) (formed is_symbolic t) f in
    All-append IsFormedNode (map NodeOf.Labelled labels) (map NodeOf.Part (parts t)) (label_nodes_formed labels) (tree_nodes_formed t value)
behind_formed (Statement.ArithIf t l m n) f =
    All-append IsFormedNode (map NodeOf.Part (parts t)) (map NodeOf.Labelled (l ∷ (m ∷ (n ∷ [])))) (tree_nodes_formed t f)
    (label_nodes_formed (l ∷ (m ∷ (n ∷ []))))
behind_formed (Statement.LogicalIf t s) f =
    let (test, rest) = and_true (formed is_symbolic t) (is_action s && statement_formed is_symbolic s) f in
    let (is, inner) = and_true (is_action s) (statement_formed is_symbolic s) rest in
    All-append IsFormedNode (map NodeOf.Part (parts t)) (NodeOf.Itself s ∷ nodes_behind s) (tree_nodes_formed t test)
    (All-cons IsFormedNode (NodeOf.Itself s) (nodes_behind s) inner (behind_formed s inner))
behind_formed (Statement.BlockIf t) f = tree_nodes_formed t f
behind_formed (Statement.ElseIf t) f = tree_nodes_formed t f
behind_formed Statement.Else f = All-nil IsFormedNode
behind_formed Statement.EndIf f = All-nil IsFormedNode
behind_formed (Statement.Loop label name a b c) f =
    let (is, rest) = and_true (is_symbolic name) (formed is_symbolic a && (formed is_symbolic b && value_formed is_symbolic c)) f in
    let (first, others) = and_true (formed is_symbolic a) (formed is_symbolic b && value_formed is_symbolic c) rest in
    let (second, third) = and_true (formed is_symbolic b) (value_formed is_symbolic c) others in
    let nodes = map NodeOf.Part (parts a) ++ (map NodeOf.Part (parts b) ++ value_nodes c) in
    All-cons IsFormedNode (NodeOf.Labelled label) (NodeOf.Named name ∷ nodes) refl
    (All-cons IsFormedNode (NodeOf.Named name) nodes is
    (All-append IsFormedNode (map NodeOf.Part (parts a)) (map NodeOf.Part (parts b) ++ value_nodes c) (tree_nodes_formed a first)
    (All-append IsFormedNode (map NodeOf.Part (parts b)) (value_nodes c) (tree_nodes_formed b second) (step_nodes_formed c third))))
behind_formed Statement.Continue f = All-nil IsFormedNode
behind_formed Statement.Return f = All-nil IsFormedNode
behind_formed Statement.Stop f = All-nil IsFormedNode
behind_formed Statement.Trap f = All-nil IsFormedNode
behind_formed Statement.End f = All-nil IsFormedNode

pub nodes_formed : (s : Statement) → statement_formed is_symbolic s ≡ true → All IsFormedNode (nodes_of s)
nodes_formed s f = All-cons IsFormedNode (NodeOf.Itself s) (nodes_behind s) f (behind_formed s f)

-- the names that nodes bear
nodes_named : (nodes : List NodeOf) → All IsFormedNode nodes → All IsNamed (filter_map node_name nodes)
nodes_named [] all = All-nil IsNamed
nodes_named (node ∷ nodes) all = by node (All-head IsFormedNode node nodes all) (nodes_named nodes (All-tail IsFormedNode node nodes all))
  where
    by_tree : (t : Tree) → formed is_symbolic t ≡ true → All IsNamed (filter_map node_name nodes) → All IsNamed (filter_map node_name (NodeOf.Part t ∷ nodes))
    by_tree (Tree.Reference name items) f rest = All-cons IsNamed name (filter_map node_name nodes) (reference_formed is_symbolic name items f).0 rest
    by_tree _ f rest = rest

    by : (n : NodeOf) → node_formed n ≡ true → All IsNamed (filter_map node_name nodes) → All IsNamed (filter_map node_name (n ∷ nodes))
    by (NodeOf.Itself s) f rest = rest
    by (NodeOf.Target name items) f rest =
        All-cons IsNamed name (filter_map node_name nodes) (and_true (is_symbolic name) (all_formed is_symbolic items) f).0 rest
    by (NodeOf.Part t) f rest = by_tree t f rest
    by (NodeOf.Named name) f rest = All-cons IsNamed name (filter_map node_name nodes) f rest
    by (NodeOf.Declared d) f rest = All-cons IsNamed d.name (filter_map node_name nodes) f rest
    by (NodeOf.Labelled label) f rest = rest
    by (NodeOf.Initial value) f rest = rest

-- what a statement uses is named
abbrev UsesName : NameUse → Type 0
UsesName name_use = is_symbolic (name_in name_use) ≡ true

plain_named : (s : Statement) → statement_formed is_symbolic s ≡ true → All UsesName (map NameUse.Plain (names_of s))
plain_named s f = All-map UsesName NameUse.Plain (names_of s) (nodes_named (nodes_of s) (nodes_formed s f))

uses_named : (s : Statement) → statement_formed is_symbolic s ≡ true → All UsesName (uses_of s)
uses_named (Statement.Subroutine name names) f =
    All-map UsesName NameUse.Dummy names (each_passes is_symbolic names (and_true (is_symbolic name) (list_all is_symbolic names) f).1)
uses_named (Statement.Declare kind ds) f = All-map UsesName (NameUse.Typed kind) ds (each_passes (is_decl is_symbolic) ds (each_of_some (is_decl is_symbolic) ds f))
uses_named (Statement.Dimension ds) f =
    All-map UsesName NameUse.Dimensioned ds
    (each_passes (is_decl is_symbolic) ds (each_of_some (is_decl is_symbolic) ds (and_true (declaration_formed is_symbolic ds) (all_bounded ds) f).0))
uses_named s f = plain_named s f

-- the lines of a program
abbrev pub IsFormedLine : LineFields → Type 0
IsFormedLine line = statement_formed is_symbolic line.stmt ≡ true

pub lines_formed : {before : Option Group} (program : List LineFields) → IsProgram before program → All IsFormedLine program
lines_formed _ IsProgram.finished = All-nil IsFormedLine
lines_formed _ (IsProgram.next {line = line} {lines = lines} may rest) =
    All-cons IsFormedLine line lines (is_symbolic_formed line.stmt may.1) (lines_formed lines rest)

all_uses : (program : List LineFields) → All IsFormedLine program → All UsesName (uses program)
all_uses [] all = All-nil UsesName
all_uses (line ∷ lines) all =
    All-append UsesName (uses_of line.stmt) (uses lines) (uses_named line.stmt (All-head IsFormedLine line lines all))
    (all_uses lines (All-tail IsFormedLine line lines all))

pub symbols_named : (program : List LineFields) → All IsFormedLine program → All IsNamed (symbols program)
symbols_named program all =
    all_once IsNamed (map name_in (uses program)) (All-map IsNamed name_in (uses program) (all_uses program all))

-- no name of a legal program is that of a function
abbrev pub IsNoFunction : Symbol → Type 0
IsNoFunction name = is_some (function_named name) ≡ false

last_of_five : (a b c d e : Bool) → (a || (b || (c || (d || e)))) ≡ false → e ≡ false
last_of_five a b c d e none =
    let second = (or_false a (b || (c || (d || e))) none).1 in
    let third = (or_false b (c || (d || e)) second).1 in
    let fourth = (or_false c (d || e) third).1 in (or_false d e fourth).1

pub symbols_no_functions : (program : List LineFields) → IsLegal program → All IsNoFunction (symbols program)
symbols_no_functions program legal = All-weaker (λ name. is_twice program name ≡ false) IsNoFunction once (symbols program) (keeps_every_rule program legal).once
  where
    once : (name : Symbol) → is_twice program name ≡ false → IsNoFunction name
    once name e =
        last_of_five (nat_le 2 (length (kinds_given (uses program) name))) (nat_le 2 (length (bounds_given (uses program) name)))
        (nat_le 2 (length (dummies_given (uses program) name))) (names_unit program name) (is_some (function_named name)) e
