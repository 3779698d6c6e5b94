use Rattle.mothra_bench.proofs.FirstItems.{keeps_lists}
use Rattle.mothra_bench.proofs.law.handed_out_are_first.Goals as goal

pub returns : goal.returns
returns c = keeps_lists
