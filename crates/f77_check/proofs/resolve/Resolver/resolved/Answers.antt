use Rattle.f77_check.proofs.Common.{are_nested}
use Rattle.f77_check.proofs.Sites.{ready_at, ends_at, found_at, resolved_at}
use Rattle.f77_check.proofs.resolve.Resolver.resolved.Goals as goal

pub action-requires : goal.action-requires
action-requires g c =
    let at = c.requires.0 in
    let can = c.requires.1.1 in
    (can.tables, (ready_at c.args.self.now g.program can c.args.i _ at, (found_at c.args.self.now g.program can c.args.i _ at, ends_at c.args.self.now g.program can c.args.i _ at)))

pub returns : goal.returns
returns g c =
    let at = c.requires.0 in
    let can = c.requires.1.1 in
    resolved_at c.args.self.now g.program can c.args.i _ _ at _ c.in_ok-action.ensures c.requires.1.0
    (c.in_ok-ends.ensures.ends g.program can.tables.ranges (are_nested g.program can.legal)) at
