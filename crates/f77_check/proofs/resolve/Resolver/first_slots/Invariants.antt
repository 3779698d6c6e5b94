use Rattle.f77_check.proofs.Common.{◌≡◌, map, Some, take, first_slot, array_bounds, keys}
use Rattle.f77_check.proofs.resolve.Resolver.first_slots.Given as goal

abbrev pub invariant-loop-name : goal.invariant-loop-name
invariant-loop-name l = map (first_slot (array_bounds l.self.tables.names) (keys l.self.tables.names.facts)) (take l.name-index l.list) ≡ map (λ slot. Some slot) l.slots.items
