use Rattle.f77_code.proofs.Common.{sym, refl, length, ◌≤◌, ltb-false, to_z-of_z, slice_get_read, slice_get_past}
use Rattle.f77_code.proofs.Points.{below_one, numbered_none, numbered_some, numbered_past}
use Rattle.f77_code.proofs.branching.numbered.Goals as goal

pub returns-then-number-lt1 : goal.returns-then-number-lt1
returns-then-number-lt1 c = numbered_none c.args.places.now c.args.next c.args.number (below_one c.args.number c.ranges.number c.if-number-lt1.true)

pub returns-in-Some : goal.returns-in-Some
returns-in-Some c =
    let fits = c.ranges.number in
    let is = simp to_z-of_z at c.before-index.ensures in
    numbered_some c.args.places.now c.args.next c.before-index.result c.in-Some.place.now c.args.number is
    (slice_get_read c.args.places.now _ c.before-index.result c.in-Some.place.now refl c.in-Some.ensures.lookup.3.0 c.in-Some.ensures.lookup.1)

pub returns-in-None : goal.returns-in-None
returns-in-None c =
    let fits = c.ranges.number in
    let is = simp to_z-of_z at c.before-index.ensures in
    let outside : length c.args.places.now ≤ c.before-index.result = ltb-false c.before-index.result (length c.args.places.now) (sym c.in-None.ensures.lookup.0) in
    numbered_past c.args.places.now c.args.next c.before-index.result c.args.number is
    (slice_get_past c.args.places.now c.before-index.result outside)
