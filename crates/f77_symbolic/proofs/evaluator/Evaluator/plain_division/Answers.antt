use Rattle.f77_symbolic.proofs.Common.{arith, rules, ◌≡◌, ◌⊎◌, inl, inr, pos, negsuc, w64, ints, to_z-of_z, SFits}
use Rattle.f77_symbolic.proofs.Divisions.{unit_division}
use Rattle.f77_symbolic.proofs.evaluator.Evaluator.plain_division.Goals as goal
use Rattle.f77_symbolic.proofs.evaluator.Evaluator.plain_division.Goals.{else-divisor-ne1-via-then-divisor-ne1+else-divisor, else-divisor-ne1-via-else-divisor-ne1}

pub returns : goal.returns
returns c v =
    let fits : SFits w64 c.in-Some.divisor = search rules in
    let unit : (c.in-Some.divisor ≡ pos 1) ⊎ (c.in-Some.divisor ≡ negsuc 0) =
    elim c.else-divisor-ne1.branch [
      | else-divisor-ne1-via-then-divisor-ne1+else-divisor w ↦ inr (omega (arith, ints))
      | else-divisor-ne1-via-else-divisor-ne1 w ↦ inl (omega (arith, ints))
    ] in
    unit_division v _ _ _ c.in-Some.divisor (c.in-Some.ensures v) unit ((simp to_z-of_z at c.in_ok-plus.ensures) v) (c.constant_term.ensures v)
