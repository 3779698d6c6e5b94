-- What the loops of the parser keep.
use Rattle.f77_syntax.proofs.Common.{◌≡◌, List, ℕ, [], ◌∷◌, Some, length, ◌≤◌, map, ◌<◌, ◌>>=◌, reading, clip, Tree, Trees, tree_of, Expr}

-- what was read so far is a tree of level own, and what is behind it ends the reading as it has to
pub record Climbing (wanted own : ℕ) (left : Expr) (rest text : List ℕ) : Type 0 where
  pub tree : Tree
  pub same : tree_of left ≡ clip tree
  pub reads : reading.climb wanted tree own rest ≡ reading.expr wanted text
  pub short : length rest < length text

-- trees before others
abbrev pub before : List Tree → Trees → Trees
before [] ts = ts
before (t ∷ front) ts = Trees.Then t (before front ts)

-- the items so far, and then those that are read behind them
pub record Listing (items : List Expr) (rest text : List ℕ) : Type 0 where
  pub front : List Tree
  pub same : map tree_of items ≡ map clip front
  pub reads : (reading.items rest >>= λ x. Some (before front x.0, x.1)) ≡ reading.items text
  pub short : length rest ≤ length text
