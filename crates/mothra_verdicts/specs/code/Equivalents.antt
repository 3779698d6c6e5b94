-- The mutants that declared entries name, and what holds of an entry, given those before it.
-- Only private functions and proofs cite these definitions.
use Rattle.std.specs.Prelude.{◌≡◌, ◌↔◌, ◌⊎◌, ⊤, true, List, Contains}
use Rattle.mothra_ops.specs.Plan.{PlanFields, asked}
use Rattle.mothra_codes.specs.declared.ticket.Ticket.{Ticket}
use Rattle.mothra_verdicts.specs.Bench.{IsKnownEntry, IsUnknownEntry, IsEntryTwice}
use Rattle.mothra_verdicts.specs.declared.equivalents.Noted.{Noted}
use Rattle.mothra_verdicts.specs.declared.equivalents.Noted.TheVariants as noted
use Rattle.mothra_verdicts.specs.declared.fault.BenchFault.{BenchFault}
use Rattle.mothra_verdicts.specs.declared.fault.BenchFault.TheVariants as fault

-- `more` is the set with one more entry
abbrev pub AddsTicket : List Ticket → Ticket → List Ticket → Type 0
AddsTicket keys entry more = (one : Ticket) → Contains more one ↔ (Contains keys one ⊎ (entry ≡ one))

-- what holds of an entry, given those that the set has
abbrev pub IsNoted : PlanFields → List Ticket → Ticket → Noted → Type 0
IsNoted plan keys entry noted.Fine = IsKnownEntry plan entry × (asked plan entry.op ≡ true → ¬ (Contains keys entry))
IsNoted plan keys entry noted.Unknown = ¬ (IsKnownEntry plan entry)
IsNoted plan keys entry noted.Twice = (asked plan entry.op ≡ true) × IsKnownEntry plan entry × Contains keys entry

-- the faults of declared entries: out of memory, or the first entry that is not fine
abbrev pub IsNoEntry : PlanFields → List Ticket → BenchFault → Type 0
IsNoEntry plan entries fault.Memory = ⊤
IsNoEntry plan entries (fault.EquivalentUnknown entry) = IsUnknownEntry plan entries entry
IsNoEntry plan entries (fault.EquivalentTwice entry) = IsEntryTwice plan entries entry
IsNoEntry plan entries _ = ⊥
