use Rattle.f77_syntax.proofs.Common.{◌≡◌, true, false, length, arith, ◌==◌, err_from_is_err_and}
use Rattle.f77_syntax.proofs.DataGives.{grouping_starts, grouping_fails, grouping_goes_on, grouping_ends}
use Rattle.f77_syntax.proofs.data.groups.Goals as goal

pub loop-groups-init : goal.loop-groups-init
loop-groups-init c = rw c.new-groups.ensures.items (grouping_starts c.args.text.now)

pub returns-in_err-group : goal.returns-in_err-group
returns-in_err-group c =
    let p = err_from_is_err_and c.from_residual.result c.from_residual.ensures.1 in
    rw (p.1, p.2) (grouping_fails c.loop-groups.groups.items c.loop-groups.rest.now c.args.text.now _ c.loop-groups.invariant c.in_err-group.ensures.found)

pub returns-then-is_empty : goal.returns-then-is_empty
returns-then-is_empty c =
    let g = c.in_ok-group.ensures.found in
    let none : (length c.in_ok-group.behind.now == 0) ≡ true = cc in
    grouping_ends c.loop-groups.groups.items c.push.new.self.items c.in_ok-group.group c.loop-groups.rest.now c.in_ok-group.behind.now c.args.text.now g.0 c.loop-groups.invariant
    g.1 g.2.0 g.2.1 none c.in_ok-push.ensures.items

pub loop-groups-preserved : goal.loop-groups-preserved
loop-groups-preserved c =
    let g = c.in_ok-group.ensures.found in
    let some : (length c.in_ok-group.behind.now == 0) ≡ false = cc in
    grouping_goes_on c.loop-groups.groups.items c.push.new.self.items c.in_ok-group.group c.loop-groups.rest.now c.in_ok-group.behind.now _ c.args.text.now g.0 c.loop-groups.invariant
    g.1 g.2.0 g.2.1 some c.past_comma-rest.ensures.rest (omega (arith, c.past_comma-rest.ensures.short, c.in_ok-group.ensures.shorter)) c.in_ok-push.ensures.items
