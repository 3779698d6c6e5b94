use Rattle.f77_legal.proofs.Common.{◌∙◌, map, sym, arith, length-map, line_of, statement_of}
use Rattle.f77_legal.proofs.BlockTables.{breaks_here}
use Rattle.f77_legal.proofs.blocks.Blocks.breaks.Goals as goal

pub returns : goal.returns
returns c table =
    c.is_misplaced.ensures
    ∙ sym (breaks_here c.args.self.now (map line_of c.args.lines.now) c.args.i (statement_of c.statement.result.now)
    (omega (arith, length-map c.args.lines.now line_of)) c.statement.ensures table)
