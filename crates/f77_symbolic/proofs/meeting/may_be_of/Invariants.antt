use Rattle.f77_symbolic.proofs.Common.{ℕ, ◌<◌, ◌≤◌, ◌+◌, get_or, Valuation, Slots, IsInside, slot_of}
use Rattle.f77_symbolic.proofs.meeting.may_be_of.Given as goal

abbrev pub invariant-loop-slots : goal.invariant-loop-slots
invariant-loop-slots l =
    (v : Valuation) → IsInside v l.location → (k : ℕ) → k < l.slots-index → (d : Slots)
    → ((get_or l.list k d).first ≤ slot_of v l.location) × (slot_of v l.location < (get_or l.list k d).first + (get_or l.list k d).count) → ⊥
