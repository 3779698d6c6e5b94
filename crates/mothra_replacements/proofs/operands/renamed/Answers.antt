use Rattle.mothra_replacements.proofs.Elements.{renamed}
use Rattle.mothra_replacements.proofs.operands.renamed.Goals as goal

pub returns : goal.returns
returns c = renamed _ c.args.own.now c.in_ok-clone.ensures.cases.0
