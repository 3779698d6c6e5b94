use Rattle.f77_check.proofs.Common.{ap, ◌∙◌, list_all, is_kept}
use Rattle.f77_check.proofs.DataNames.{group_kept}
use Rattle.f77_check.proofs.resolve.Resolver.give_groups.Goals as goal

pub slots_of-requires-clause-kept : goal.slots_of-requires-clause-kept
slots_of-requires-clause-kept c =
    ap (list_all (is_kept c.args.self.now.tables.names)) c.deref.ensures.value
    ∙ group_kept c.args.self.now.tables.names c.args.groups.now c.loop-group.group-index c.group-item.result c.requires.kept c.loop-group-test.true c.group-item.is
