use Rattle.f77_terms.proofs.Common.{arith, SFits, w64, pos, int_div, ints, rem_below, quot_is, rem_is, quot_fits}
use Rattle.f77_terms.proofs.Orders.{rounded, one_more}
use Rattle.f77_terms.proofs.numbers.ceiling.Goals as goal

pub returns-then-c-g-gt0 : goal.returns-then-c-g-gt0
returns-then-c-g-gt0 c s below =
    let n : SFits w64 c.args.c = c.ranges.c in
    let g : SFits w64 c.args.g = c.ranges.g in
    let whole = quot_fits w64 c.args.c c.args.g n c.requires in
    let quotient = quot_is w64 c.args.c c.args.g n g whole in
    let rest = rem_is w64 c.args.c c.args.g n g in
    let r = c.if-c-g-gt0.true in
    let ends = rounded c.args.c c.args.g s (pos 0) c.requires (omega (arith, ints, rest, r)) below in
    let most = one_more (int_div c.args.c c.args.g) whole in
    let is = rw quotient at c.saturating_add.ensures in
    omega (arith, ints, ends, most, is)

pub returns-else-c-g-gt0 : goal.returns-else-c-g-gt0
returns-else-c-g-gt0 c s below =
    let n : SFits w64 c.args.c = c.ranges.c in
    let g : SFits w64 c.args.g = c.ranges.g in
    let quotient = quot_is w64 c.args.c c.args.g n g (quot_fits w64 c.args.c c.args.g n c.requires) in
    let positive = c.requires in
    let less = rem_below c.args.c c.args.g (omega (arith, ints, positive)) in
    let ends = rounded c.args.c c.args.g s (pos 1) positive (omega (arith, ints, less, positive)) below in
    omega (arith, ints, ends, quotient)
