-- Nodes that are listed item by item.
use Rattle.f77_tree.proofs.Common.{map, ◌≡◌, drop, ℕ, sym, ◌∙◌, ap, ◌++◌, List, [], ◌∷◌, length, ◌<◌, ◌+◌, ◌≤◌, get_or, append-nil, append_assoc, map-append}
use Rattle.f77_tree.proofs.Common.{drop_more, NodeOf, node_of}
use Rattle.std.proofs.Math.ListN.{drop_of_length-le}
use Rattle.f77_tree.specs.declared.node.Node.{Node}

-- items whose nodes are listed one item after another
module _ {X : Type 0} (nodes : X → List NodeOf) (all : List X → List NodeOf) (none : all [] ≡ [])
    (more : (x : X) (xs : List X) → all (x ∷ xs) ≡ nodes x ++ all xs) (xs : List X) (i : ℕ) where
  -- the nodes of one more item are listed
  pub one_more : (x : X) (old new whole : List NodeOf) → i < length xs → x ≡ get_or xs i x → new ≡ old ++ nodes x → old ++ all (drop i xs) ≡ whole
      → new ++ all (drop (i + 1) xs) ≡ whole
  one_more x old new whole low at is so_far =
      ap (λ list. list ++ all (drop (i + 1) xs)) is
      ∙ append_assoc old (nodes x) (all (drop (i + 1) xs))
      ∙ ap (λ list. old ++ list) (sym (ap all (drop_more xs i x low ∙ ap (λ y. y ∷ drop (i + 1) xs) (sym at)) ∙ more x (drop (i + 1) xs)))
      ∙ so_far

  pub all_listed : (new whole : List NodeOf) → length xs ≤ i → new ++ all (drop i xs) ≡ whole → new ≡ whole
  all_listed new whole past so_far =
      sym (append-nil new) ∙ ap (λ list. new ++ list) (sym (ap all (drop_of_length-le xs past) ∙ none)) ∙ so_far

-- a node is pushed
pub pushed : (old new : List Node) (node : Node) → new ≡ old ++ node ∷ [] → map node_of new ≡ map node_of old ++ node_of node ∷ []
pushed old new node is = ap (map node_of) is ∙ map-append node_of old (node ∷ [])
