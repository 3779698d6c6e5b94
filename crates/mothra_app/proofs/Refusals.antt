-- What comes of a call on a source, concluded from its fault.
use Rattle.mothra_app.proofs.Common.{◌≡◌, sym, ℕ, subst, List, Err, Ok, Contains, inr, ◌⊎◌, inl, Some, length, ◌≤◌, None, slice_get, LineFields, AreCards, lines}
use Rattle.mothra_app.proofs.Common.{of_legal_programs, of_mutants, of_programs, of_reports, of_runs, AreCardsOf, IsBenchIn, IsJudged, IsPlanIn, IsProgramIn}
use Rattle.mothra_app.proofs.Common.{IsRunLine, IsTextOf, Syntax, Form, Check, Run, Ops, Bench, Op, Arg, RunFault, shapes, refusal, JobFields}
use Rattle.mothra_app.proofs.Common.{IsNoPlan, PlanFields, IsNoBench, IsNoReport, BenchFault}
use Rattle.f77_source.specs.Card.{CardFields}
use Rattle.f77_source.specs.declared.fault.FormFault.{FormFault}
use Rattle.f77_legal.specs.Legal.{faults, first_fault}
use Rattle.f77_legal.specs.declared.fault.CheckFault.{CheckFault}
use Rattle.f77_program.specs.Printing.{printed, print_faults}
use Rattle.f77_program.specs.declared.fault.SyntaxFault.{SyntaxFault}
use Rattle.mothra_replacements.specs.declared.fault.OpsFault.{OpsFault}
use Rattle.f77_legal.specs.declared.fault.CheckFault.TheVariants as check
use Rattle.f77_source.specs.Read as forms
use Rattle.f77_source.specs.declared.fault.FormFault.TheVariants as form
use Rattle.f77_syntax.specs.Parsing as parsing
use Rattle.f77_program.specs.declared.fault.SyntaxFault.TheVariants as syntax
use Rattle.f77_meaning.specs.declared.outcome.RunFault.TheVariants as run
use Rattle.mothra_replacements.specs.declared.fault.OpsFault.TheVariants as ops
use Rattle.mothra_verdicts.specs.declared.fault.BenchFault.TheVariants as bench
use Rattle.mothra_app.proofs.Stages.{first_is}
use Rattle.mothra_app.proofs.Memory.{bench_in, check_in, form_in, ops_in, run_in, syntax_in, thread_in}

pub cards_read : (source bytes : List ℕ) (cards shown : List CardFields) → bytes ≡ source → shown ≡ cards → length bytes ≤ 65536 → AreCards 1 (lines bytes) cards
    → AreCardsOf source (Ok shown)
cards_read source bytes cards shown own same within are =
    AreCardsOf.read (subst (λ (b : List ℕ). length b ≤ 65536) own within)
    (subst (λ b. AreCards 1 (lines b) shown) own (subst (λ s. AreCards 1 (lines bytes) s) (sym same) are))

pub form_refused : (source : List ℕ) (fault : FormFault) → forms.IsRefusedBy source fault → AreCardsOf source (Err (Form fault)) ⊎ Contains of_programs (Form fault)
form_refused source form.Memory is = inr form_in
form_refused source form.TooLarge is = inl (AreCardsOf.too_large is)
form_refused source (form.NotAscii line) is = inl (AreCardsOf.no_cards is.0 is.1)
form_refused source (form.Tab line) is = inl (AreCardsOf.no_cards is.0 is.1)
form_refused source (form.BadLabel line) is = inl (AreCardsOf.no_cards is.0 is.1)
form_refused source (form.LooseContinuation line) is = inl (AreCardsOf.no_cards is.0 is.1)
form_refused source (form.TooManyContinuations line) is = inl (AreCardsOf.no_cards is.0 is.1)

pub syntax_refused : (cards : List CardFields) (fault : SyntaxFault) → (fault ≡ syntax.Memory) ⊎ parsing.IsFirstSyntaxFault None cards fault
    → IsProgramIn cards (Err (Syntax fault)) ⊎ Contains of_programs (Syntax fault)
syntax_refused cards fault (inl is) = inr (subst (λ f. Contains of_programs (Syntax f)) (sym is) syntax_in)
syntax_refused cards fault (inr first) = inl (IsProgramIn.no_program first)

pub text_refused : (program : List LineFields) (fault : SyntaxFault) → (slice_get (print_faults program) 0 ≡ Some fault) ⊎ (fault ≡ syntax.Memory)
    → IsTextOf program (Err (Syntax fault)) ⊎ Contains of_programs (Syntax fault)
text_refused program fault (inl first) = inl (first_is (λ f. Syntax f) (print_faults program) (printed program) fault first)
text_refused program fault (inr is) = inr (subst (λ f. Contains of_programs (Syntax f)) (sym is) syntax_in)

pub check_refused : (program : List LineFields) (fault : CheckFault) → (fault ≡ check.Memory) ⊎ (first_fault program ≡ Some fault)
    → IsJudged program (Err (Check fault)) ⊎ Contains of_legal_programs (Check fault)
check_refused program fault (inl memory) = inr (subst (λ f. Contains of_legal_programs (Check f)) (sym memory) check_in)
check_refused program fault (inr first) = inl (first_is (λ f. Check f) (faults program) program fault first)

pub run_refused : (program : List LineFields) (steps : ℕ) (arguments : List Arg) (fault : RunFault)
    → (fault ≡ run.Memory) ⊎ (refusal (shapes program) arguments ≡ Some fault) → IsRunLine program steps arguments (Err (Run fault)) ⊎ Contains of_runs (Run fault)
run_refused program steps arguments fault (inl memory) = inr (subst (λ f. Contains of_runs (Run f)) (sym memory) run_in)
run_refused program steps arguments fault (inr misfit) = inl (IsRunLine.misfit misfit)

pub plan_refused : (named operators : List Op) (every : ℕ) (program : List LineFields) (fault : OpsFault) → named ≡ operators → IsNoPlan named program every fault
    → IsPlanIn operators every program (Err (Ops fault)) ⊎ Contains of_mutants (Ops fault)
plan_refused named operators every program ops.Memory own none = inr ops_in
plan_refused named operators every program ops.NotASite own none = absurd none
plan_refused named operators every program (ops.TooMany op) own first =
    inl (subst (λ list. IsPlanIn list every program (Err (Ops (ops.TooMany op)))) own (IsPlanIn.too_many first))

pub bench_refused : (job : JobFields) (steps : ℕ) (plan : PlanFields) (fault : BenchFault) → IsNoBench plan job.suite steps job.equivalent fault
    → IsBenchIn job steps plan (Err (Bench fault)) ⊎ Contains of_reports (Bench fault)
bench_refused job steps plan bench.Memory none = inr bench_in
bench_refused job steps plan (bench.TestShape n) none = inl (IsBenchIn.no_bench (λ e. cc) none)
bench_refused job steps plan (bench.OriginalFails n) none = inl (IsBenchIn.no_bench (λ e. cc) none)
bench_refused job steps plan (bench.EquivalentUnknown n) none = inl (IsBenchIn.no_bench (λ e. cc) none)
bench_refused job steps plan (bench.EquivalentTwice n) none = inl (IsBenchIn.no_bench (λ e. cc) none)
bench_refused job steps plan bench.Thread none = absurd none
bench_refused job steps plan (bench.Double t) none = absurd none
bench_refused job steps plan (bench.Stranger t) none = absurd none
bench_refused job steps plan (bench.Missing t) none = absurd none
bench_refused job steps plan bench.Stalled none = absurd none

pub report_refused : (fault : BenchFault) → IsNoReport fault → Contains of_reports (Bench fault)
report_refused bench.Memory none = bench_in
report_refused bench.Thread none = thread_in
report_refused (bench.TestShape n) none = absurd none
report_refused (bench.OriginalFails n) none = absurd none
report_refused (bench.EquivalentUnknown n) none = absurd none
report_refused (bench.EquivalentTwice n) none = absurd none
report_refused (bench.Double t) none = absurd none
report_refused (bench.Stranger t) none = absurd none
report_refused (bench.Missing t) none = absurd none
report_refused bench.Stalled none = absurd none
