use Rattle.f77_run.proofs.Common.{divergence_of}
use Rattle.f77_run.proofs.changed.ChangedRunner.comes_to.Given as goal

abbrev pub ghost-end_beside : goal.ghost-end_beside
ghost-end_beside a = divergence_of a.checked.now a.change.now a.arguments.now a.steps a.passed.now
