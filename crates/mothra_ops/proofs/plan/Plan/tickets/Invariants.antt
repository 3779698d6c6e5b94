use Rattle.mothra_ops.proofs.Common.{◌≡◌, length, take, ◌≤◌, ◌*◌, edits_of}
use Rattle.std.proofs.Common.{flat_map}
use Rattle.mothra_codes.specs.Op.{all_ops}
use Rattle.mothra_ops.specs.{tickets}
use Rattle.mothra_ops.proofs.plan.Plan.tickets.Given as goal

abbrev pub invariant-loop-op : goal.invariant-loop-op
invariant-loop-op l =
    (l.tickets.items ≡ flat_map (λ op. tickets op (length (edits_of l.self op))) (take l.op-index all_ops))
    × (length l.tickets.items ≤ 1048575 * l.op-index)
