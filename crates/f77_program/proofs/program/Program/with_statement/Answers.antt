use Rattle.f77_program.proofs.Common.{ap, ◌∙◌, map, sym, subst, None, line_of, IsProgram, statement_of}
use Rattle.f77_program.proofs.Lines.{same_lines}
use Rattle.f77_program.proofs.Patches.{changed_lines, changed_program}
use Rattle.f77_program.proofs.program.Program.with_statement.Goals as goal

pub from_lines-requires : goal.from_lines-requires
from_lines-requires c =
    let same = same_lines _ _ c.in_ok-lines.ensures.ok ∙ ap (map line_of) c.lines.ensures.lines in
    let is = changed_lines c.args.self.now c.args.number _ c.requires c.in_ok-lines.lines.items c.index.result.now c.in_ok-lines-2.field-0 same
    c.index.ensures (ap line_of c.in_ok-lines-2.ensures
    ∙ c.in_ok-changed.ensures ∙ ap (λ line. record (line_of line) { stmt = statement_of c.args.stmt.now }) c.deref.ensures) in
    subst (IsProgram None) (sym is) (changed_program c.args.self.now c.args.number _ c.requires c.lines.ensures.program)

pub returns : goal.returns
returns c =
    let same = same_lines _ _ c.in_ok-lines.ensures.ok ∙ ap (map line_of) c.lines.ensures.lines in
    ap (map line_of) c.from_lines.ensures
    ∙ changed_lines c.args.self.now c.args.number _ c.requires c.in_ok-lines.lines.items c.index.result.now c.in_ok-lines-2.field-0 same
    c.index.ensures (ap line_of c.in_ok-lines-2.ensures
    ∙ c.in_ok-changed.ensures ∙ ap (λ line. record (line_of line) { stmt = statement_of c.args.stmt.now }) c.deref.ensures)
