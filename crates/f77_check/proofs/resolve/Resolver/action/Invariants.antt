use Rattle.f77_check.proofs.resolve.Resolver.action.Given as goal

abbrev pub ghost-inner_action : goal.ghost-inner_action
ghost-inner_action g a = g.program
