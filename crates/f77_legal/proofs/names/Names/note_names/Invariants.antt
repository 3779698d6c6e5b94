use Rattle.f77_legal.proofs.Common.{◌≡◌, map, take, table_entries, node_of}
use Rattle.f77_legal.proofs.Listing.{with_names}
use Rattle.f77_legal.proofs.names.Names.note_names.Given as goal

abbrev pub invariant-loop-node : goal.invariant-loop-node
invariant-loop-node l = table_entries l.self ≡ with_names (table_entries l.fn.self) (map node_of (take l.node-index l.node-items))
