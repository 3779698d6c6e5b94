use Rattle.f77_check.proofs.resolve.Resolver.resolved.Given as goal

abbrev pub ghost-action : goal.ghost-action
ghost-action g a = g.program
