use Rattle.f77_source.proofs.Common.{◌∙◌, rules}
use Rattle.f77_source.proofs.Pieces.{piece_is}
use Rattle.f77_source.proofs.write.push_piece.Goals as goal

pub returns : goal.returns
returns c = let e = c.range.ensures.value ∙ piece_is _ _ _ c.requires.within c.min-end.ensures in rw (← e) (search rules)
