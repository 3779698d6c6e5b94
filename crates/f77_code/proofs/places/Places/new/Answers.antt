use Rattle.f77_code.proofs.Common.{◌≡◌, arith, Some, slice_get}
use Rattle.f77_code.proofs.Placed.{read_at, next_place, places_more}
use Rattle.f77_code.proofs.places.Places.new.Goals as goal

pub loop-i-preserved : goal.loop-i-preserved
loop-i-preserved c =
    let statements = c.args.statements.now in
    let i = c.loop-i.i in
    let r = c.index-statements-i.result in
    let at : slice_get statements i ≡ Some r = read_at statements i r c.loop-i-test.true c.index-statements-i.is in
    record {
      place = next_place statements i r c.deref.result.now c.loop-i.place c.behind-place.result at c.deref.ensures c.loop-i.invariant.place c.behind-place.ensures;
      count = omega (arith, c.loop-i.invariant.count, c.in_ok-push.ensures.len);
      each = places_more statements c.loop-i.increments.items c.push.new.self.items i c.loop-i.place c.loop-i.invariant.count c.loop-i.invariant.place
          c.in_ok-push.ensures.items c.loop-i.invariant.each;
    }
