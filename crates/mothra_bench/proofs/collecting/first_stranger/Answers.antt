use Rattle.mothra_bench.proofs.Common.{subst, refl, arith, All, take, rules, suc, drop, IsKnown}
use Rattle.mothra_bench.proofs.CollectLists.{cut_at, all_more, take_whole}
use Rattle.mothra_bench.proofs.collecting.first_stranger.Goals as goal

pub returns-then-not-is_known : goal.returns-then-not-is_known
returns-then-not-is_known c =
    let i = c.loop-row.row-index in
    record {
      before = take i c.args.rows.now;
      row = c.row-item.result;
      after = drop (suc i) c.args.rows.now;
      cut = cut_at c.args.rows.now i c.row-item.result (omega arith) c.row-item.is;
      own = refl;
      known = c.loop-row.invariant;
      unknown = search rules;
    }

pub loop-row-preserved : goal.loop-row-preserved
loop-row-preserved c = all_more c.args.rows.now c.loop-row.row-index c.row-item.result (IsKnown c.args.bench.now) (omega arith) c.row-item.is c.loop-row.invariant (search rules)

pub returns : goal.returns
returns c = subst (All (IsKnown c.args.bench.now)) (take_whole c.args.rows.now c.loop-row.row-index (omega arith)) c.loop-row.invariant
