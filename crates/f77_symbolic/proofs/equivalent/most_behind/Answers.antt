use Rattle.f77_symbolic.proofs.Common.{◌≤◌, length, arith, subst, All, take_all, IsBehindBy}
use Rattle.f77_symbolic.proofs.Chained.{behind_more, tour_followed}
use Rattle.f77_symbolic.proofs.Tours.{all_next}
use Rattle.f77_symbolic.proofs.equivalent.most_behind.Goals as goal

pub loop-visits-preserved : goal.loop-visits-preserved
loop-visits-preserved c =
    let Behind = IsBehindBy c.args.change.now in
    let list = c.args.tour.now in
    let before : c.loop-visits.most ≤ c.max-most.result = omega (arith, c.max-most.ensures) in
    let behind : c.in_ok-behind.behind ≤ c.max-most.result = omega (arith, c.max-most.ensures) in
    all_next (Behind c.loop-visits.most) (Behind c.max-most.result) list c.loop-visits.visits-index c.visits-item.result (omega arith)
    c.visits-item.is
    (behind_more c.args.change.now c.loop-visits.most c.max-most.result before) c.loop-visits.invariant
    (behind_more c.args.change.now c.in_ok-behind.behind c.max-most.result behind c.visits-item.result c.in_ok-behind.ensures)

pub returns : goal.returns
returns c =
    let all : length c.args.tour.now ≤ c.loop-visits.visits-index = omega arith in
    tour_followed c.args.change.now c.loop-visits.most c.args.tour.now
    (subst (All (IsBehindBy c.args.change.now c.loop-visits.most)) (take_all c.loop-visits.visits-index c.args.tour.now all) c.loop-visits.invariant)
