use Rattle.mothra_verdicts.proofs.Common.{◌≡◌, subst, List, sym, ◌∙◌, ap, map, ℕ, All, None, CheckedFields, shapes, refusal, line_of, program_of, PlanFields}
use Rattle.f77_check.specs.declared.checked.Shape.{Shape}
use Rattle.f77_program.specs.Patching.{patched}
use Rattle.f77_tree.specs.Statement.{Statement, statement_of}
use Rattle.mothra_verdicts.proofs.verdict.kills_of_whole_runs.Goals as goal

pub kills_from_start-requires : goal.kills_from_start-requires
kills_from_start-requires c =
    let bench = c.args.bench.now in
    let number = c.args.mutant.now.edit.statement in
    let stmt = statement_of c.in_ok-stmt.stmt in
    let own = c.program-checked.ensures.program ∙ ap (λ (plan : PlanFields). plan.checked) c.plan.ensures.plan in
    let same =
    c.in_ok-changed.ensures.arguments
    ∙ ap (λ (checked : CheckedFields). shapes (patched (map line_of checked.program) c.number.result stmt)) own
    ∙ ap (λ (k : ℕ). shapes (patched (program_of bench.plan) k stmt)) c.number.ensures
    ∙ ap (λ (s : Statement). shapes (patched (program_of bench.plan) number s)) c.in_ok-stmt.ensures.statement
    ∙ c.requires.shapes in
    subst (λ (list : List Shape). All (λ arguments. refusal list arguments ≡ None) bench.tests) (sym same) c.plan.ensures.bench.fit
