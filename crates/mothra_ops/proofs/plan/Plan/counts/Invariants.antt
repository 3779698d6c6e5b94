use Rattle.mothra_ops.proofs.Common.{◌≡◌, length, ℕ, ◌<◌, get_or, edits_of, IsPlan}
use Rattle.mothra_codes.specs.code.Op.{op_at}
use Rattle.mothra_ops.proofs.plan.Plan.counts.Given as goal

abbrev pub invariant-loop-op : goal.invariant-loop-op
invariant-loop-op l =
    (length l.counts ≡ 22)
    × ((i : ℕ) → i < l.op-index → get_or l.counts i 0 ≡ length (edits_of l.self (op_at i)))
    × (0 < l.op-index → IsPlan l.self)
