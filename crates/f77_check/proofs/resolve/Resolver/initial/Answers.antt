use Rattle.f77_check.proofs.Common.{◌≡◌, ap, ◌∙◌, map, arith, length, ◌++◌, take, drop, rules, take_all, common_steps, give_groups, groups_kept, groups_of}
use Rattle.f77_check.proofs.Common.{array_bounds, line_of, statement_of, keys}
use Rattle.f77_check.proofs.DataNames.{has_slots}
use Rattle.f77_check.proofs.InitialValues.{initial_by, none_initial, line_kept, line_given}
use Rattle.f77_check.proofs.resolve.Resolver.initial.Goals as goal

pub give_groups-requires-clause-slots : goal.give_groups-requires-clause-slots
give_groups-requires-clause-slots c = has_slots c.args.self.now (map line_of c.args.lines.now) c.requires

pub give_groups-requires-clause-kept : goal.give_groups-requires-clause-kept
give_groups-requires-clause-kept c =
    ap (groups_kept c.args.self.now.tables.names) c.groups.ensures
    ∙ ap (λ line. groups_kept c.args.self.now.tables.names (groups_of (statement_of line.stmt))) c.deref.ensures
    ∙ line_kept c.args.self.now c.args.lines.now c.requires c.loop-line.line-index c.line-item.result c.loop-line-test.true c.line-item.is

pub loop-line-init : goal.loop-line-init
loop-line-init c = c.in_ok-held.ensures.items_if_clones_equal (λ y same. search rules) ∙ none_initial c.args.self.now c.args.lines.now c.requires

pub loop-line-preserved : goal.loop-line-preserved
loop-line-preserved c =
    let r = c.args.self.now in
    let whole : take c.loop-line.held.len (c.give_groups.new.held ++ drop (length c.give_groups.new.held) c.loop-line.held.items) ≡ c.give_groups.new.held = grind (arith, common_steps) in
    whole
    ∙ line_given r c.args.lines.now c.requires c.loop-line.line-index c.line-item.result c.loop-line-test.true c.line-item.is c.loop-line.held.items c.give_groups.new.held c.loop-line.invariant
    (c.in_ok-give_groups.ensures
    ∙ (λ i. give_groups (array_bounds r.tables.names) (keys r.tables.names.facts) (c.deref_mut.ensures.value i)
    ((c.groups.ensures ∙ ap (λ line. groups_of (statement_of line.stmt)) c.deref.ensures) i)))

pub returns : goal.returns
returns c =
    c.loop-line.invariant
    ∙ ap (λ lines. initial_by c.args.self.now (map line_of c.args.lines.now) (map line_of lines)) (take_all c.loop-line.line-index c.args.lines.now c.loop-line-test.false)
