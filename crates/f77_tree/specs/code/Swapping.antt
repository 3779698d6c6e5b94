-- Swapping a node of a whole with another node. The node is looked for from left to right. A
-- number says where it is from here on: 1 where it is the next. The number falls by the nodes that
-- were passed.
use Rattle.std.specs.Prelude.{◌≡◌, ◌≤◌, ◌-◌, ℕ, zero, suc, Bool, true, false, Option, None}
use Rattle.std.specs.Prelude.{List, length, slice_get}
use Rattle.f77_tree.specs.declared.tree.Ref.{Ref}
use Rattle.f77_tree.specs.Node.{NodeOf}
use Rattle.f77_tree.specs.Tree.{Tree, Trees}
use Rattle.f77_tree.specs.Statement.{Statement}
use Rattle.f77_tree.specs.View.{trees, reference_fields}
use Rattle.f77_tree.specs.Sites.{Site, put_node}

abbrev pub nth_item : {X : Type 0} → List X → ℕ → Option X
nth_item xs zero = None
nth_item xs (suc k) = slice_get xs k

abbrev pub put_number : {X : Type 0} → List (Site X) → ℕ → NodeOf → X → X
put_number xs number node x = put_node (nth_item xs number) node x

-- with `a` put at the node of this number x becomes y, and with `b` put there y becomes x
pub record Swapped {X : Type 0} (of : X → List (Site X)) (number : ℕ) (a b : NodeOf)
    (x y : X) : Type 0 where
  pub counted : 1 ≤ number
  pub within : number ≤ length (of x)
  pub within_new : number ≤ length (of y)
  pub put : y ≡ put_number (of x) number a x
  pub back : x ≡ put_number (of y) number b y

-- nothing was swapped, and `a` put at the node of this number would change nothing
pub record PassedBy {X : Type 0} (of : X → List (Site X)) (start left : ℕ) (a b : NodeOf)
    (x y : X) : Type 0 where
  pub same : y ≡ x
  pub kept : b ≡ a
  pub counted : left ≡ start - length (of x)
  pub unchanged : put_number (of x) start a x ≡ x

-- what holds after the search for the node of this number, which says whether it was swapped
pub record Sought {X : Type 0} (of : X → List (Site X)) (answer : Bool) (start left : ℕ)
    (a b : NodeOf) (x y : X) : Type 0 where
  pub found : answer ≡ true → Swapped of start a b x y
  pub passed : answer ≡ false → PassedBy of start left a b x y

-- the reference that an assignment assigns to, its subscripts as one tree
abbrev pub assigned_reference : Ref → List ℕ × Trees
assigned_reference place = ((reference_fields place).0, trees (reference_fields place).1)

abbrev pub assignment : List ℕ × Trees → Tree → Statement
assignment place value = Statement.Assign place.0 place.1 value
