use Rattle.f77_check.proofs.resolve.Resolver.inner_action.Given as goal

abbrev pub ghost-jump : goal.ghost-jump
ghost-jump g a = g.program

abbrev pub ghost-jumps : goal.ghost-jumps
ghost-jumps g a = g.program
