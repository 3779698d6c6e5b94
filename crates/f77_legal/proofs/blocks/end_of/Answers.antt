use Rattle.f77_legal.proofs.Common.{◌∙◌, map, sym, arith, ◌+◌, subst, length-map, line_of, statement_of}
use Rattle.f77_legal.proofs.BlockScan.{Scanning, scan_on, scan_found, scan_end}
use Rattle.f77_legal.proofs.blocks.end_of.Goals as goal

pub returns-then-ends : goal.returns-then-ends
returns-then-ends c =
    scan_found (map line_of c.args.lines.now) c.args.extent c.args.start c.loop-j.j c.loop-j.depth (statement_of c.statement-stmt.result.now) c.loop-j.invariant
    (omega (arith, length-map c.args.lines.now line_of)) c.statement-stmt.ensures (sym c.ends.ensures ∙ c.if-ends.true)

pub loop-j-preserved : goal.loop-j-preserved
loop-j-preserved c =
    subst (λ d. Scanning (map line_of c.args.lines.now) c.args.extent c.args.start (c.loop-j.j + 1) d) (sym c.depth_behind-depth.ensures)
    (scan_on (map line_of c.args.lines.now) c.args.extent c.args.start c.loop-j.j c.loop-j.depth (statement_of c.statement-stmt.result.now) c.loop-j.invariant
    c.statement-stmt.ensures (sym c.ends.ensures ∙ c.if-ends.false))

pub returns : goal.returns
returns c =
    scan_end (map line_of c.args.lines.now) c.args.extent c.args.start c.loop-j.j c.loop-j.depth c.loop-j.invariant (omega (arith, length-map c.args.lines.now line_of))
