-- The tickets of a plan.
use Rattle.std.specs.Prelude.{ℕ, ◌+◌, List, length, map, flat_map}
use Rattle.std.specs.List.{range_with_len}
use Rattle.mothra_codes.specs.Op.{all_ops}
use Rattle.mothra_codes.specs.Ticket.{ticket}
use Rattle.mothra_codes.specs.declared.op.Op.{Op}
use Rattle.mothra_codes.specs.declared.ticket.Ticket.{Ticket}
use Rattle.mothra_ops.specs.Plan.{PlanFields, edits_of}

-- the tickets of an operator with `count` mutants, and those of a plan, by operator and number
abbrev pub tickets : Op → ℕ → List Ticket
tickets op count = map (λ k. ticket op (k + 1)) (range_with_len 0 count)

abbrev pub tickets_of : PlanFields → List Ticket
tickets_of plan = flat_map (λ op. tickets op (length (edits_of plan op))) all_ops
