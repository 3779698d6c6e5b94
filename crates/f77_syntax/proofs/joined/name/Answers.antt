use Rattle.f77_syntax.proofs.Common.{◌∙◌, ap, cut}
use Rattle.f77_syntax.proofs.joined.name.Goals as goal

pub returns-clause-found : goal.returns-clause-found
returns-clause-found c = let (x, read, (named, at)) = c.in_ok-front.ensures.found in (x, read, (c.beginning.ensures ∙ ap cut named, at))
