use Rattle.mothra_bench.proofs.ReportEntries.{one_report}
use Rattle.mothra_bench.proofs.law.one_report.Goals as goal

pub returns : goal.returns
returns c = one_report c.one_outcome.ensures.answer
