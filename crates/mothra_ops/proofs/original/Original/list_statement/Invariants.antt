use Rattle.mothra_ops.proofs.Common.{◌≡◌, All, IsMadeMutant, copied, lines_of, HasCome}
use Rattle.mothra_ops.proofs.original.Original.list_statement.Given as goal

abbrev pub invariant-loop-position : goal.invariant-loop-position
invariant-loop-position l = record {
  copies : copied l.copies ≡ copied l.fn.copies;
  same_op : l.listing.op ≡ l.fn.listing.op;
  same_every : l.listing.every ≡ l.fn.listing.every;
  made : All (IsMadeMutant l.self.checked.now) l.fn.listing.mutants.items → All (IsMadeMutant l.self.checked.now) l.listing.mutants.items;
  come : HasCome l.fn.listing (lines_of l.self) l.number 0 0 → HasCome l.listing (lines_of l.self) l.number l.position 0;
}
