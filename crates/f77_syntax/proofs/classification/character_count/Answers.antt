use Rattle.f77_syntax.proofs.Common.{rules}
use Rattle.std.proofs.lemmas.Str.{chars_from_encodes}
use Rattle.f77_syntax.proofs.classification.character_count.Goals as goal

pub returns : goal.returns
returns c = search (rules, chars_from_encodes)
