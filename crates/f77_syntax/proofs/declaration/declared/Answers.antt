use Rattle.f77_syntax.proofs.Common.{refl, ◌∙◌, ap, declare_view, Statement}
use Rattle.f77_syntax.proofs.declaration.declared.Goals as goal

pub returns : goal.returns
returns c =
    let (ds, read, same) = c.in_ok-items.ensures in
    (Statement.Declare c.args.kind ds, rw read refl, declare_view c.args.kind c.in_ok-items.items ∙ ap (Statement.Declare c.args.kind) same)
