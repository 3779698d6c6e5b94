use Rattle.f77_check.proofs.Common.{◌≡◌, map, ◌++◌, take, ◌+◌, flat_map, slots_of, first_numbers, array_bounds, keys}
use Rattle.f77_check.proofs.resolve.Resolver.slots_of.Given as goal

-- the slots of the names so far
abbrev pub invariant-loop-name : goal.invariant-loop-name
invariant-loop-name l = l.slots.items ≡ flat_map (slots_of (array_bounds l.self.tables.names) (keys l.self.tables.names.facts)) (take l.name-index l.list)

-- and the first slots of this name
abbrev pub invariant-loop-k : goal.invariant-loop-k
invariant-loop-k l =
    l.slots.items ≡ flat_map (slots_of (array_bounds l.self.tables.names) (keys l.self.tables.names.facts)) (take l.name-index l.list) ++ map (λ k. l.first + k) (first_numbers l.k)
