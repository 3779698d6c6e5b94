-- The mutants that a job declares equivalent: each is named by the code of its operator, one blank and its number.
-- Only private functions and proofs cite these definitions.
use Rattle.std.specs.Prelude.{◌≡◌, ◌≤◌, ℕ, List}
use Rattle.mothra_codes.specs.declared.ticket.Ticket.{Ticket}
use Rattle.mothra_job.specs.Equivalent.{ticket_text}

-- the text names this mutant, and its number is one that an operator's list may have
abbrev pub Names : List ℕ → Ticket → Type 0
Names text t = (text ≡ ticket_text t) × (1 ≤ t.number) × (t.number ≤ 1048575)
