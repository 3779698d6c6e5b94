use Rattle.f77_terms.proofs.Common.{◌+ℤ◌, take, Valuation, LiesBetween, parts_value, AreKnown}
use Rattle.f77_terms.proofs.ranges.parts_range.Given as goal

abbrev pub invariant-loop-part : goal.invariant-loop-part
invariant-loop-part l =
    (v : Valuation) → AreKnown v l.known → LiesBetween l.low (l.number +ℤ parts_value v (take l.part-index l.parts)) l.high
