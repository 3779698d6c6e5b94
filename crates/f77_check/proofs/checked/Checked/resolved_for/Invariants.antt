use Rattle.f77_check.proofs.checked.Checked.resolved_for.Given as goal

abbrev pub ghost-resolved : goal.ghost-resolved
ghost-resolved g a = g.program
