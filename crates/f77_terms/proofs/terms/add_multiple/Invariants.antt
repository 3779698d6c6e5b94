use Rattle.f77_terms.proofs.Common.{◌≡◌, take, ◌+ℤ◌, ◌*ℤ◌, Valuation, parts_value, sum_value}
use Rattle.f77_terms.proofs.terms.add_multiple.Given as goal

abbrev pub invariant-loop-part : goal.invariant-loop-part
invariant-loop-part l =
    (v : Valuation) → sum_value v l.term
    ≡ sum_value v l.fn.term +ℤ (l.fn.m *ℤ l.addend.constant +ℤ l.fn.m *ℤ parts_value v (take l.part-index l.addend.parts.items))
