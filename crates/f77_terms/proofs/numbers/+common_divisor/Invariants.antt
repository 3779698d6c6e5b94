use Rattle.f77_terms.proofs.numbers.+common_divisor.Given as goal

abbrev pub decreases-common_divisor : goal.decreases-common_divisor
decreases-common_divisor l = l.b
