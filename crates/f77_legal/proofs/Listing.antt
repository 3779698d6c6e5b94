-- The names of the nodes of a statement put into the table in turn.
use Rattle.f77_legal.proofs.Common.{◌≡◌, ◌∙◌, ap, map, sym, List, refl, ℕ, [], ◌∷◌, length, Some, None, ◌++◌, ◌+◌, take, Option, ◌<◌, get_or, filter_map}
use Rattle.f77_legal.proofs.Common.{map-append, take_more, filter_map-append, fold-append, Symbol, NameUse, Entries, with_uses, with_use, node_of, NodeOf}
use Rattle.f77_legal.proofs.Common.{node_name}
use Rattle.f77_tree.specs.declared.node.Node.{Node}

pub one_more : {X : Type 0} (xs : List X) (i : ℕ) (x : X) → i < length xs → x ≡ get_or xs i x → take (i + 1) xs ≡ take i xs ++ x ∷ []
one_more xs i x here is = take_more xs i x here ∙ ap (λ z. take i xs ++ z ∷ []) (sym is)

-- the table with the names of these nodes, each as a plain use
abbrev pub with_names : Entries → List NodeOf → Entries
with_names es nodes = with_uses es (map NameUse.Plain (filter_map node_name nodes))

-- the table with this name, if there is one
abbrev pub with_name : Entries → Option Symbol → Entries
with_name es None = es
with_name es (Some name) = with_use es (NameUse.Plain name)

one_node : (es : Entries) (node : NodeOf) (name : Option Symbol) → node_name node ≡ name → with_names es (node ∷ []) ≡ with_name es name
one_node es node None is = rw is refl
one_node es node (Some name) is = rw is refl

names_push : (es : Entries) (nodes : List NodeOf) (node : NodeOf) → with_names es (nodes ++ node ∷ []) ≡ with_name (with_names es nodes) (node_name node)
names_push es nodes node =
    ap (λ z. with_uses es (map NameUse.Plain z)) (filter_map-append node_name nodes (node ∷ []))
    ∙ ap (with_uses es) (map-append NameUse.Plain (filter_map node_name nodes) (filter_map node_name (node ∷ [])))
    ∙ fold-append with_use es (map NameUse.Plain (filter_map node_name nodes)) (map NameUse.Plain (filter_map node_name (node ∷ [])))
    ∙ one_node (with_names es nodes) node (node_name node) refl

pub names_more : (es : Entries) (nodes : List Node) (i : ℕ) (node : Node) → i < length nodes → node ≡ get_or nodes i node
    → with_names es (map node_of (take (i + 1) nodes)) ≡ with_name (with_names es (map node_of (take i nodes))) (node_name (node_of node))
names_more es nodes i node here is =
    ap (λ z. with_names es (map node_of z)) (one_more nodes i node here is)
    ∙ ap (with_names es) (map-append node_of (take i nodes) (node ∷ []))
    ∙ names_push es (map node_of (take i nodes)) (node_of node)
