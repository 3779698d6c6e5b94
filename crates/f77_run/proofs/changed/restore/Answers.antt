use Rattle.f77_code.proofs.Replaced.{own_changed}
use Rattle.f77_run.proofs.changed.restore.Goals as goal

pub returns-clause-code : goal.returns-clause-code
returns-clause-code c =
    own_changed c.args.checked.now.statements c.args.code.now c.restore.new.self c.requires.code c.restore.ensures.same c.restore.ensures.own
