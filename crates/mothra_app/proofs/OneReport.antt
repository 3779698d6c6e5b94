-- There is at most one report of a job.
use Rattle.mothra_app.proofs.Common.{◌≡◌, sym, ℕ, subst, List, ◌∙◌, ap, [], Contains, ◌++◌, length, ◌≤◌, Bool, codes, ◌↔◌, IsTrue, filter, flat_map, get_or}
use Rattle.mothra_app.proofs.Common.{if◌then◌else◌, LineFields, IsBenched, IsBenchIn, IsBenchOf, IsPlanned, IsReported, IsReportOf, Bench, Fault, Result}
use Rattle.mothra_app.proofs.Common.{IsReport, all_ops, Op, JobFields, numbered, program_of, edit_text, mutant_made, mutant_name, mutant_of, original_number}
use Rattle.mothra_app.proofs.Common.{PlanFields, Edit, BenchFields, IsDeclared, BenchFault}
use Rattle.std.specs.Option.{option_and_then, option_map_or}
use Rattle.mothra_bench.specs.Matrix.{counts, score_of}
use Rattle.mothra_bench.specs.Report.{bits_of, is_survivor, is_wrong, line, named_number, report_text, score_line, status_of, unit_line}
use Rattle.mothra_ops.specs.Tickets.{tickets, tickets_of}
use Rattle.mothra_verdicts.specs.Verdict.{IsAlone, IsVerdict, mutated}
use Rattle.mothra_bench.specs.declared.matrix.Entry.{Entry}
use Rattle.mothra_codes.specs.Ticket.{ticket}
use Rattle.mothra_codes.specs.declared.ticket.Ticket.{Ticket}
use Rattle.mothra_bench.specs.Report as report
use Rattle.mothra_verdicts.proofs.BenchTests.{ends_all}
use Rattle.mothra_app.proofs.EqualPlans.{AreEqualPlans, one_planned, turned}
use Rattle.mothra_app.proofs.Stages.{Agree, One, Same, one_in_turn}
use Rattle.mothra_app.proofs.OneBench.{IsRefused, never_refused, one_refusal, refused, refused_moved}
use Rattle.mothra_app.proofs.OneProgram.{Laws}

-- ---- a report depends on the program and the lists of a plan alone

same_heading : (one other : BenchFields) → AreEqualPlans one.plan other.plan → one.tests ≡ other.tests → one.steps ≡ other.steps
    → report.heading one ≡ report.heading other
same_heading one other plans tests steps = λ i.
    line (codes "REPORT 2")
    ++ (unit_line (plans.program i)
    ++ (line (named_number (codes "TESTS") (length (tests i)))
    ++ (line (named_number (codes "STEPS") (steps i))
    ++ line (named_number (codes "EVERY") (plans.every i)))))

same_operators : (one other : PlanFields) → AreEqualPlans one other → (entries : List Entry)
    → report.operator_lines one entries ≡ report.operator_lines other entries
same_operators one other plans entries = λ i. flat_map (report.operator_line entries) (filter (λ op. plans.same_asked op i) all_ops)

abbrev mutant_by : ℕ → Entry → List ℕ
mutant_by every entry =
    line (codes "MUTANT " ++ (mutant_name every entry.ticket.op entry.ticket.number ++ (codes " " ++ (status_of entry ++ (codes " " ++ bits_of entry.kills)))))

abbrev survivor_by : List LineFields → ℕ → (Op → List Edit) → Entry → List ℕ
survivor_by program every lists entry =
    let number = entry.ticket.number in
    if is_survivor entry
    then line (codes "SURVIVOR " ++ option_map_or (edit_text program every entry.ticket.op number) (numbered (lists entry.ticket.op) number) [])
    else []

abbrev wrong_by : ℕ → Entry → List ℕ
wrong_by every entry = if is_wrong entry then line (codes "WRONG " ++ mutant_name every entry.ticket.op entry.ticket.number) else []

same_entries : (one other : PlanFields) → AreEqualPlans one other → (entries : List Entry) → report.entry_lines one entries ≡ report.entry_lines other entries
same_entries one other plans entries = λ i.
    flat_map (mutant_by (plans.every i)) entries
    ++ (flat_map (survivor_by (plans.program i) (plans.every i) (λ op. plans.same_edits op i)) entries ++ flat_map (wrong_by (plans.every i)) entries)

same_text : (one other : BenchFields) → AreEqualPlans one.plan other.plan → one.tests ≡ other.tests → one.steps ≡ other.steps → (entries : List Entry)
    → report_text one entries ≡ report_text other entries
same_text one other plans tests steps entries =
    let heading = same_heading one other plans tests steps in
    let operators = same_operators one.plan other.plan plans entries in
    let lines = same_entries one.plan other.plan plans entries in
    λ i. heading i ++ (operators i ++ (report.counts_line (codes "TOTAL") (counts entries) ++ (score_line (score_of (counts entries)) ++ (lines i ++ line (codes "END")))))

-- ---- so do its entries

same_tickets : (one other : PlanFields) → AreEqualPlans one other → tickets_of one ≡ tickets_of other
same_tickets one other plans = λ i. flat_map (λ op. tickets op (length (plans.same_edits op i))) all_ops

same_mutant : (one other : PlanFields) → AreEqualPlans one other → (op : Op) (number : ℕ) → mutant_of one op number ≡ mutant_of other op number
same_mutant one other plans op number = λ i. option_and_then (mutant_made (plans.program i)) (numbered (plans.same_edits op i) number)

verdict_moved : (one other : BenchFields) → AreEqualPlans one.plan other.plan → one.tests ≡ other.tests → one.steps ≡ other.steps → (t : Ticket) (kills : List Bool)
    → IsVerdict one t kills → IsVerdict other t kills
verdict_moved one other plans tests steps t kills is = record {
  mutant = is.mutant;
  is = sym (same_mutant one.plan other.plan plans t.op t.number) ∙ is.is;
  alone = subst (λ p. IsAlone p (mutated p is.mutant) other.steps other.tests kills) plans.program
      (subst (λ s. IsAlone (program_of one.plan) (mutated (program_of one.plan) is.mutant) s other.tests kills) steps
      (subst (λ ts. IsAlone (program_of one.plan) (mutated (program_of one.plan) is.mutant) one.steps ts kills) tests is.alone));
}

declared_moved : (one other : BenchFields) → AreEqualPlans one.plan other.plan → one.declared ≡ other.declared → (entry : Entry)
    → IsTrue entry.declared ↔ IsDeclared one entry.ticket → IsTrue entry.declared ↔ IsDeclared other entry.ticket
declared_moved one other plans same entry is =
    let own = λ (list : List Ticket) (every : ℕ). IsTrue entry.declared ↔ Contains list (ticket entry.ticket.op (original_number every entry.ticket.number)) in
    subst (λ q. own other.declared q) plans.every (subst (λ list. own list one.plan.every) same is)

-- the report of a bench is that of another with the same lists, tests, limit and declared mutants
report_moved : (one other : BenchFields) (text : List ℕ) → AreEqualPlans one.plan other.plan → one.tests ≡ other.tests → one.steps ≡ other.steps
    → one.declared ≡ other.declared → IsReport one text → IsReport other text
report_moved one other text plans tests steps declared is = record {
  entries = is.entries;
  are = record {
    tickets = is.are.tickets ∙ same_tickets one.plan other.plan plans;
    verdicts = λ k d low.
        let entry = get_or is.entries k d in
        verdict_moved one other plans tests steps entry.ticket entry.kills (is.are.verdicts k d low);
    declared = λ k d low. declared_moved one other plans declared (get_or is.entries k d) (is.are.declared k d low);
  };
  is = is.is ∙ same_text one other plans tests steps is.entries;
}

-- ---- the command

-- the two benches have equal plans, and the same tests, limit and declared mutants
record AreEqualBenches (one other : BenchFields) : Type 0 where
  plans : AreEqualPlans one.plan other.plan
  tests : one.tests ≡ other.tests
  steps : one.steps ≡ other.steps
  declared : one.declared ≡ other.declared

module _ (job : JobFields) (steps : ℕ) where
  -- where there is a bench, there is no reason why there is none
  no_reason : {A : Type 0} (plan : PlanFields) (bench : BenchFields) (fault : BenchFault) → IsBenchOf job steps plan bench
      → IsRefused plan job.suite steps job.equivalent fault → A
  no_reason plan bench fault of reason =
      let own : IsRefused bench.plan bench.tests bench.steps bench.declared fault = rw (of.own, of.tests, of.limit, of.declared) reason in
      let end = ends_all (program_of bench.plan) bench.steps bench.tests bench.outcomes of.is.outcomes of.is.end in
      absurd (never_refused own of.is.fit end of.is.declared)

  one_bench : (one other : PlanFields) → AreEqualPlans one other → (x y : Result BenchFields Fault) → IsBenchIn job steps one x → IsBenchIn job steps other y → Agree AreEqualBenches x y
  one_bench one other equal x y (IsBenchIn.no_bench {fault = f} own none) (IsBenchIn.no_bench {fault = g} its also) =
      ap (λ fault. Bench fault)
      (one_refusal (refused_moved one other equal (refused one job.suite steps job.equivalent f own none)) (refused other job.suite steps job.equivalent g its also))
  one_bench one other equal x y (IsBenchIn.no_bench {fault = f} own none) (IsBenchIn.made {bench = bench} of) =
      no_reason other bench f of (refused_moved one other equal (refused one job.suite steps job.equivalent f own none))
  one_bench one other equal x y (IsBenchIn.made {bench = bench} of) (IsBenchIn.no_bench {fault = g} its also) =
      no_reason one bench g of (refused_moved other one (turned one other equal) (refused other job.suite steps job.equivalent g its also))
  one_bench one other equal x y (IsBenchIn.made {bench = a} p) (IsBenchIn.made {bench = b} q) = record {
    plans = rw (p.own, q.own) equal;
    tests = p.tests ∙ sym q.tests;
    steps = p.limit ∙ sym q.limit;
    declared = p.declared ∙ sym q.declared;
  }

one_report : Laws → (one other : BenchFields) → AreEqualBenches one other → (x y : Result (List ℕ) Fault) → IsReportOf one x → IsReportOf other y → Agree Same x y
one_report laws one other equal x y (IsReportOf.report {text = text} is) (IsReportOf.report {text = also} as_well) =
    laws.one_report other text also (report_moved one other text equal.plans equal.tests equal.steps equal.declared is) as_well

pub one_reported : Laws → (job : JobFields) (ops : List Op) (every steps : ℕ) → 1 ≤ every → One Same (IsReported job ops every steps)
one_reported laws job ops every steps some =
    one_in_turn Same (IsBenched job ops every steps) IsReportOf AreEqualBenches
    (one_in_turn AreEqualBenches (IsPlanned job.source ops every) (IsBenchIn job steps) AreEqualPlans (one_planned laws ops every some job.source) (one_bench job steps))
    (one_report laws)
