use Rattle.mothra_verdicts.proofs.Common.{◌≡◌, subst, List, sym, ◌∙◌, ap, map, ℕ, OnOk, ◌-◌, same_Some, line_of, changed_program}
use Rattle.f77_legal.specs.Alone.{StandsAlone}
use Rattle.f77_legal.specs.Legal.{IsLegal}
use Rattle.f77_program.specs.Patching.{Fits, patched}
use Rattle.f77_tree.specs.Node.{NodeOf}
use Rattle.f77_tree.specs.Replacement.{replacement_of}
use Rattle.f77_tree.specs.Statement.{Statement, statement_of}
use Rattle.mothra_ops.specs.Copies.{changed_at, statements_in}
use Rattle.mothra_ops.specs.Edits.{numbered}
use Rattle.mothra_ops.proofs.Copied.{mutant_in_copy}
use Rattle.mothra_verdicts.proofs.verdict.change_by.Goals.{In-Some}
use Rattle.mothra_verdicts.proofs.verdict.change_by.Goals as goal

-- the copy holds the mutant's statement
is_mutants : (c : In-Some) → statement_of c.in-Some.stmt.now ≡ statement_of c.args.mutant.now.stmt.value
is_mutants c =
    let program = map line_of c.args.runner.now.checked.program in
    let own = c.args.mutant.now in
    let number = c.number-number.result in
    let position = own.edit.position in
    same_Some _ _
    (c.in-Some.ensures
    ∙ ap (λ (xs : List Statement). numbered xs number)
    (c.swap.ensures.put ∙ ap (λ (xs : List Statement). changed_at xs number position (replacement_of c.args.node.now)) c.requires.copies
    ∙ ap (λ (node : NodeOf). changed_at (statements_in program) number position node) c.requires.node)
    ∙ ap (λ (k : ℕ). numbered (changed_at (statements_in program) k position (replacement_of own.node)) k) c.number-number.ensures
    ∙ mutant_in_copy c.args.runner.now.checked own c.requires.made)

-- what holds of the mutant's statement and number holds of the copy's statement, and of the number that was asked for
in_copy : (P : ℕ → Statement → Type 0) (c : In-Some) → P c.args.mutant.now.edit.statement (statement_of c.args.mutant.now.stmt.value)
    → P c.number-number.result (statement_of c.in-Some.stmt.now)
in_copy P c known = subst (λ k. P k (statement_of c.in-Some.stmt.now)) (sym c.number-number.ensures) (subst (P c.args.mutant.now.edit.statement) (sym (is_mutants c)) known)

pub change-changed-requires-clause-fits : goal.change-changed-requires-clause-fits
change-changed-requires-clause-fits c = in_copy (Fits (map line_of c.args.runner.now.checked.program)) (goal.at.change-changed-requires-clause-fits c).In-Some c.requires.made.mutant.fits

pub change-changed-requires-clause-alone : goal.change-changed-requires-clause-alone
change-changed-requires-clause-alone c =
    in_copy (λ k statement. StandsAlone c.args.runner.now.checked.names (map line_of c.args.runner.now.checked.program) (k - 1) statement)
    (goal.at.change-changed-requires-clause-alone c).In-Some (c.requires.made.alone c.requires.alone)

pub change-changed-requires-clause-legal : goal.change-changed-requires-clause-legal
change-changed-requires-clause-legal c =
    in_copy (λ k statement. IsLegal (patched (map line_of c.args.runner.now.checked.program) k statement))
    (goal.at.change-changed-requires-clause-legal c).In-Some c.requires.made.mutant.legal

pub returns-clause-changed : goal.returns-clause-changed
returns-clause-changed c =
    let program = map line_of c.args.runner.now.checked.program in
    let own = c.args.mutant.now in
    subst (λ other. OnOk c.change-changed.result (changed_program c.change-changed.new.self ≡ other))
    (ap (λ (k : ℕ). patched program k (statement_of c.in-Some.stmt.now)) c.number-number.ensures
    ∙ ap (patched program own.edit.statement) (is_mutants (goal.at.returns-clause-changed c).In-Some))
    c.change-changed.ensures.changed
