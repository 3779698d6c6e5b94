use Rattle.mothra_replacements.proofs.Elements.{without}
use Rattle.mothra_replacements.proofs.operands.scalar.Goals as goal

pub returns : goal.returns
returns c = without _ c.new.ensures.items
