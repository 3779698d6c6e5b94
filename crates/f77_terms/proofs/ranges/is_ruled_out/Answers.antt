use Rattle.f77_terms.proofs.ranges.is_ruled_out.Goals as goal

pub returns-then-is_empty : goal.returns-then-is_empty
returns-then-is_empty c e v known below = c.is_empty.ensures c.if-is_empty.true _ (c.in-Some.ensures.within v known)
