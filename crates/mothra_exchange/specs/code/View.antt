-- The view of a pass, and how each step changes it.
-- Only private functions and proofs cite these definitions.
use Rattle.std.specs.Prelude.{[]}
use Rattle.mothra_exchange.specs.declared.view.View.{View}
use Rattle.mothra_exchange.specs.View.{united_view}

-- the view between the two steps of a merge, which has the looks of both passes
abbrev pub merging_view : View → View → View
merging_view v w = record (united_view v w) { mine = v.looks; theirs = w.looks }

-- the view after the load that ends a merge
abbrev pub settled_view : View → View
settled_view v = record v { mine = []; theirs = [] }
