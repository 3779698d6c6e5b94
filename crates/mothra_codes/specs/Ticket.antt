-- Tickets, their order, and how often one stands in a list.
use Rattle.std.specs.Prelude.{◌≡◌, ◌⊎◌, ◌<◌, ℕ, ◌+◌, Bool, ◌&&◌, nat_lt, nat_le, ◌==◌, if◌then◌else◌, List, [], ◌∷◌}
use Rattle.mothra_codes.specs.declared.op.Op.{Op}
use Rattle.mothra_codes.specs.Op.{index}
use Rattle.mothra_codes.specs.declared.ticket.Ticket.{Ticket}

abbrev pub ticket : Op → ℕ → Ticket
ticket op k = record { op = op; number = k }

-- one ticket stands before another: its operator comes first, or the operators
-- are the same and its number is smaller
abbrev pub Before : Ticket → Ticket → Type 0
Before one other = (index one.op < index other.op)
    ⊎ ((index one.op ≡ index other.op) × (one.number < other.number))

-- 1 for true, 0 for false
abbrev pub one_if : Bool → ℕ
one_if b = if b then 1 else 0

-- the ticket is number k of the operator at place i
abbrev pub is_ticket : ℕ → ℕ → Ticket → Bool
is_ticket i k t = index t.op == i && t.number == k

-- how often number k of the operator at place i stands in a list of tickets
abbrev pub ticket_times : ℕ → ℕ → List Ticket → ℕ
ticket_times i k [] = 0
ticket_times i k (t ∷ ts) = one_if (is_ticket i k t) + ticket_times i k ts

-- how often number k stands in a list of the numbers 1 to n, each once: 1 or 0
abbrev pub once_up_to : ℕ → ℕ → ℕ
once_up_to n k = one_if (nat_lt 0 k && nat_le k n)
