use Rattle.mothra_ops.proofs.Common.{◌≡◌, ◌+◌, All, IsMadeMutant, copied, lines_of, HasCome}
use Rattle.mothra_ops.proofs.original.Original.listing.Given as goal

abbrev pub invariant-loop-i : goal.invariant-loop-i
invariant-loop-i l = record {
  copies : copied l.copies ≡ copied l.fn.copies;
  op : l.listing.op ≡ l.fn.op;
  every : l.listing.every ≡ l.fn.every;
  made : All (IsMadeMutant l.self.checked.now) l.listing.mutants.items;
  come : HasCome l.listing (lines_of l.self) (l.i + 1) 0 0;
}
