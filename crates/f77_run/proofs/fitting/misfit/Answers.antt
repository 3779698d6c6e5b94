use Rattle.f77_run.proofs.Common.{rules, not, tests, has_shape}
use Rattle.std.proofs.lemmas.Iterator.{YieldsList-from_slice, YieldsList-from_zip}
use Rattle.std.proofs.lemmas.Iterator.Search.{position_from_yields_List}
use Rattle.f77_run.proofs.fitting.misfit.Goals as goal

pub returns : goal.returns
returns c =
    position_from_yields_List (λ pair. not (has_shape pair.0 pair.1)) c.position.new.self _ _ c.position.ensures.ran
    (YieldsList-from_zip (YieldsList-from_slice c.args.shapes.now cc) (YieldsList-from_slice c.args.arguments.now cc)) (λ x b q k. search (rules, tests))
