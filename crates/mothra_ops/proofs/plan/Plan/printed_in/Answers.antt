use Rattle.mothra_ops.proofs.Common.{◌≡◌, ◌∙◌, ap, List, map, subst, IfOk, same_Some, line_of, NodeOf, replacement_of, statement_of, Statement, numbered}
use Rattle.mothra_ops.proofs.Common.{statements_in, changed_at}
use Rattle.std.specs.String.{string_bytes}
use Rattle.f77_program.specs.Canonical.{statement_text}
use Rattle.mothra_ops.proofs.Copied.{mutant_in_copy}
use Rattle.mothra_ops.proofs.plan.Plan.printed_in.Goals.{In-Some}
use Rattle.mothra_ops.proofs.plan.Plan.printed_in.Goals as goal

-- the copy holds the mutant's statement
is_mutants : (c : In-Some) → statement_of c.in-Some.stmt.now ≡ statement_of c.args.mutant.now.stmt.value
is_mutants c =
    let program = map line_of c.args.self.now.checked.program in
    let own = c.args.mutant.now in
    let number = own.edit.statement in
    let position = own.edit.position in
    same_Some _ _
    (c.in-Some.ensures
    ∙ ap (λ (xs : List Statement). numbered xs number)
    (c.swap.ensures.put ∙ ap (λ (xs : List Statement). changed_at xs number position (replacement_of c.in_ok-node.node)) c.requires.copies
    ∙ ap (λ (node : NodeOf). changed_at (statements_in program) number position node) c.in_ok-node.ensures)
    ∙ mutant_in_copy c.args.self.now.checked own c.requires.made)

pub returns-clause-text : goal.returns-clause-text
returns-clause-text c =
    subst (λ (s : Statement). IfOk c.printed-text.result (λ text. string_bytes text ≡ statement_text s))
    (is_mutants (goal.at.returns-clause-text c).In-Some) c.printed-text.ensures.text
