use Rattle.mothra_verdicts.proofs.BenchEntries.{noted_more, unknown, twice}
use Rattle.mothra_verdicts.proofs.equivalents.named_by.Goals as goal

pub returns-in-Unknown-clause-refused : goal.returns-in-Unknown-clause-refused
returns-in-Unknown-clause-refused c =
    unknown c.args.plan.now c.args.entries.now c.loop-index.named.keys c.loop-index.index _ c.in_ok-note.field-0 c.loop-index-test.true
    c.loop-index.invariant c.in_ok-note.ensures.noted c.in-Unknown.is

pub returns-in-Twice-clause-refused : goal.returns-in-Twice-clause-refused
returns-in-Twice-clause-refused c =
    twice c.args.plan.now c.args.entries.now c.loop-index.named.keys c.loop-index.index _ c.in_ok-note.field-0 c.loop-index-test.true
    c.loop-index.invariant c.in_ok-note.ensures.noted c.in-Twice.is

pub loop-index-preserved : goal.loop-index-preserved
loop-index-preserved c =
    noted_more c.args.plan.now c.args.entries.now c.loop-index.named.keys c.note.new.named.keys c.loop-index.index _ c.in_ok-note.field-0
    c.loop-index-test.true c.loop-index.invariant c.in_ok-note.ensures.noted c.in-Fine.is c.in_ok-note.ensures.named c.in_ok-note.ensures.fits
