use Rattle.f77_check.proofs.Common.{map, replaced, line_of, statement_of}
use Rattle.f77_check.proofs.checked.Checked.resolved.Given as goal

-- the changed program
abbrev pub ghost-resolved_for : goal.ghost-resolved_for
ghost-resolved_for a = replaced (map line_of a.self.now.program) a.i (statement_of a.stmt.now)
