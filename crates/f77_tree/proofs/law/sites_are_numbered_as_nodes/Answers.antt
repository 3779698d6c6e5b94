use Rattle.f77_tree.proofs.Numbering.{numbering}
use Rattle.f77_tree.proofs.law.sites_are_numbered_as_nodes.Goals as goal

pub returns : goal.returns
returns c = numbering
