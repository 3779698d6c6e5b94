use Rattle.f77_legal.proofs.Common.{◌∙◌, ap, [], ◌∷◌, ◌++◌, terminal_of, statement_of}
use Rattle.f77_legal.proofs.Entries.{pushed}
use Rattle.f77_legal.proofs.tables.terminals.Goals as goal

pub loop-line-preserved : goal.loop-line-preserved
loop-line-preserved c = λ program table.
    pushed (λ line. terminal_of program (statement_of line.stmt)) c.args.lines.now c.loop-line.line-index c.line-item.result c.loop-line.ends.items
    c.push.new.self.items c.line-item.is c.loop-line-test.true (c.loop-line.invariant program table)
    (c.in_ok-push.ensures.items ∙ ap (λ entry. c.loop-line.ends.items ++ entry ∷ []) (c.terminal.ensures program table ∙ ap (λ line. terminal_of program (statement_of line.stmt)) c.deref.ensures))
