use Rattle.mothra_verdicts.proofs.BenchSets.{was_there, adds}
use Rattle.mothra_verdicts.proofs.equivalents.name.Goals as goal

pub returns-clause-before : goal.returns-clause-before
returns-clause-before c = was_there c.args.named.now.keys c.args.entry c.in_ok-is_new.is_new c.in_ok-is_new.ensures.added

pub returns-clause-named : goal.returns-clause-named
returns-clause-named c = adds c.args.named.now.keys c.insert.new.self.keys c.args.entry c.in_ok-is_new.ensures.keys
