use Rattle.f77_check.proofs.Common.{ap, ◌∙◌, [], ◌∷◌, ◌++◌, shape_at}
use Rattle.f77_legal.proofs.Entries.{pushed}
use Rattle.f77_check.proofs.checking.shapes.Goals as goal

pub loop-name-preserved : goal.loop-name-preserved
loop-name-preserved c =
    pushed (shape_at c.args.names.now) c.args.list.now c.loop-name.name-index c.name-item.result c.loop-name.shapes.items
    c.push.new.self.items c.name-item.is c.loop-name-test.true c.loop-name.invariant
    (c.in_ok-push.ensures.items ∙ ap (λ entry. c.loop-name.shapes.items ++ entry ∷ []) c.shape.ensures)
