use Rattle.mothra_verdicts.proofs.Common.{◌≡◌, take, AreTraces}
use Rattle.mothra_verdicts.proofs.running.traces_in_turn.Given as goal

abbrev pub invariant-loop-index : goal.invariant-loop-index
invariant-loop-index l =
    (l.original ≡ l.fn.original)
    × AreTraces l.fn.original l.steps (take l.index l.tests) l.outcomes.items l.visits.items
