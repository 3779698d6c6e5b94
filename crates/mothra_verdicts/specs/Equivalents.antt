-- The mutants that declared entries name.
use Rattle.std.specs.Prelude.{◌↔◌, ◌<◌, ◌^◌, List, All, Contains}
use Rattle.mothra_codes.specs.declared.ticket.Ticket.{Ticket}

-- the keys are the set of the entries, whose numbers have 32 bits
pub record AreNamed (entries keys : List Ticket) : Type 0 where
  pub same : (one : Ticket) → Contains keys one ↔ Contains entries one
  pub fit : All (λ entry. entry.number < 2 ^ 32) entries
