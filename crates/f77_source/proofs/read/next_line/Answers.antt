use Rattle.f77_source.proofs.Common.{◌≡◌, ℕ, ap, length, arith, false, ◌+◌, ◌<◌, ◌==◌, length-drop, nat_tests, take_rest}
use Rattle.f77_source.proofs.Cuts.{ended_line, started_line}
use Rattle.f77_source.proofs.read.next_line.Goals as goal

some : (n : ℕ) → false ≡ (n == 0) → 0 < n
some n e = grind (arith, nat_tests)

pub returns-then-end-source : goal.returns-then-end-source
returns-then-end-source c =
    let h = some (length c.args.source.now) c.if-is_empty.ensures in
    (h, ended_line _ _ _ c.first_line_length-end.ensures.place h c.if-end-source.true c.without_carriage_return-line.ensures)

pub returns : goal.returns
returns c =
    let h = some (length c.args.source.now) c.if-is_empty.ensures in
    let e = take_rest c.args.source.now (c.first_line_length-end.result + 1) in
    let low : c.first_line_length-end.result < length c.args.source.now = omega (arith, c.first_line_length-end.ensures.within) in (
      omega (arith, ap length e, length-drop (c.first_line_length-end.result + 1) c.args.source.now, h),
      started_line _ _ _ _ c.first_line_length-end.ensures.place low c.without_carriage_return-line.ensures e,
    )
