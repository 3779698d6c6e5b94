-- The view of a node that is put in the place of another.
use Rattle.f77_tree.specs.Node.{NodeOf}
use Rattle.f77_tree.specs.Statement.{statement_of}
use Rattle.f77_tree.specs.View.{trees, tree_of, reference_fields}
use Rattle.f77_tree.specs.declared.replacement.Replacement.{Replacement}
use Rattle.f77_tree.specs.declared.replacement.Replacement.TheVariants as replacement

-- the view of a node that is put in the place of another
abbrev pub replacement_of : Replacement → NodeOf
replacement_of (replacement.Statement s) = NodeOf.Itself (statement_of s)
replacement_of (replacement.Target r) =
    NodeOf.Target (reference_fields r).0 (trees (reference_fields r).1)
replacement_of (replacement.Expression e) = NodeOf.Part (tree_of e)
replacement_of (replacement.Name name) = NodeOf.Named name
replacement_of (replacement.Label label) = NodeOf.Labelled label
replacement_of (replacement.Value v) = NodeOf.Initial v
