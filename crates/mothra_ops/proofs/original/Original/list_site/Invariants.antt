use Rattle.mothra_ops.proofs.Common.{◌≡◌, map, length, ◌+◌, drop, All, node_of, replacement_of, statement_of, IsMadeMutant, copied, lines_of, HasCome}
use Rattle.mothra_ops.proofs.Common.{pool_fields, gives}
use Rattle.mothra_ops.proofs.original.Original.list_site.Given as goal

abbrev pub invariant-loop-k : goal.invariant-loop-k
invariant-loop-k l = record {
  copies : copied l.copies ≡ copied l.fn.copies;
  same_op : l.listing.op ≡ l.fn.listing.op;
  same_every : l.listing.every ≡ l.fn.listing.every;
  count : length l.replacements.items ≡ l.k-end;
  left : drop l.k (map replacement_of l.replacements.items)
      ≡ drop l.k (gives l.fn.listing.op (pool_fields l.self.pools) (statement_of l.site.stmt.now) (node_of l.site.node));
  made : All (IsMadeMutant l.self.checked.now) l.fn.listing.mutants.items → All (IsMadeMutant l.self.checked.now) l.listing.mutants.items;
  come : HasCome l.fn.listing (lines_of l.self) l.site.number l.site.position 0
      → HasCome l.listing (lines_of l.self) l.site.number l.site.position (l.k + 1);
}
