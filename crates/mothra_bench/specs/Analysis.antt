-- The report of a bench. No definition here has the number of workers as an argument.
use Rattle.std.specs.Prelude.{◌≡◌, ◌↔◌, ⊤, ℕ, IsTrue, List, map, All}
use Rattle.mothra_verdicts.specs.Bench.{BenchFields, IsDeclared}
use Rattle.mothra_ops.specs.Tickets.{tickets_of}
use Rattle.mothra_bench.specs.Report.{report_text}
use Rattle.mothra_verdicts.specs.Verdict.{IsVerdict}
use Rattle.mothra_verdicts.specs.declared.fault.BenchFault.{BenchFault}
use Rattle.mothra_verdicts.specs.declared.fault.BenchFault.TheVariants as fault
use Rattle.mothra_bench.specs.declared.matrix.Entry.{Entry}

-- Rule: the score, the report, B7 to B9
-- the entries of the mutants of the plan, each once, in order: the verdict of
-- running the mutant alone, and whether it is declared equivalent
pub record AreEntries (bench : BenchFields) (entries : List Entry) : Type 0 where
  pub tickets : map (λ entry. entry.ticket) entries ≡ tickets_of bench.plan
  pub verdicts : All (λ entry. IsVerdict bench entry.ticket entry.kills) entries
  pub declared : All (λ entry. IsTrue entry.declared ↔ IsDeclared bench entry.ticket) entries

-- Rule: the score, the report, B7 to B9
-- the text is the report of the bench, made of the entries of its mutants
pub record IsReport (bench : BenchFields) (text : List ℕ) : Type 0 where
  pub entries : List Entry
  pub are : AreEntries bench entries
  pub is : text ≡ report_text bench entries

-- the faults for which there is no report: out of memory, or a thread that can not begin
abbrev pub IsNoReport : BenchFault → Type 0
IsNoReport fault.Memory = ⊤
IsNoReport fault.Thread = ⊤
IsNoReport _ = ⊥
