-- The names of a table are those of the program if the table is its own, and in any case a stock of it. They stand once each, and have few slots.
use Rattle.f77_check.proofs.Common.{◌≡◌, ap, ◌∙◌, sym, subst, List, refl, [], arith, length, ◌∷◌, ◌+◌, true, ◌<◌, ◌≤◌, Bool, false, filter, ◌^◌, All-head}
use Rattle.f77_check.proofs.Common.{All-tail, All-weaker, list_any, All, bytes_eq, slot_count, Apart, symbol_refl, IsLegal, array_bounds, IsNameTable}
use Rattle.f77_check.proofs.Common.{FactsFields, facts_fields, facts_of, Symbol, bounds_of, symbols, uses, IsStock, Names, LineFields, keys}
use Rattle.std.specs.Map.{keys_of}
use Rattle.std.proofs.lemmas.Map.Made.{keys_of-map_values}
use Rattle.f77_legal.proofs.Lookups.{same_bounds}
use Rattle.f77_legal.proofs.NameTables.{rows}
use Rattle.f77_legal.proofs.Stocks.{stock_of_legal}
use Rattle.f77_check.proofs.SlotCounts.{stock_slots}

keys_rows : (f : Symbol → FactsFields) (names : List Symbol) → keys_of (rows f names) ≡ names
keys_rows f [] = refl
keys_rows f (name ∷ names) = ap (λ z. name ∷ z) (keys_rows f names)

pub keys_are : (names : Names) (program : List LineFields) → IsNameTable names program → keys names.facts ≡ symbols program
keys_are names program is =
    sym (keys_of-map_values facts_fields names.facts.entries) ∙ ap keys_of is ∙ keys_rows (facts_of (uses program)) (symbols program)

pub keys_stock : (names : Names) (program : List LineFields) → IsNameTable names program → IsLegal program → IsStock (keys names.facts) program
keys_stock names program is legal = subst (λ list. IsStock list program) (sym (keys_are names program is)) (stock_of_legal program legal)

pub stock_few : (names : Names) (program : List LineFields) → array_bounds names ≡ bounds_of program → IsStock (keys names.facts) program
    → slot_count (array_bounds names) (keys names.facts) < 2 ^ 32
stock_few names program bounds stock =
    let same = ap (λ bounds. slot_count bounds (keys names.facts)) bounds in
    let few = stock_slots (keys names.facts) program stock in
    omega (arith, same, few)

pub slots_few : (names : Names) (program : List LineFields) → IsNameTable names program → IsLegal program → slot_count (array_bounds names) (keys names.facts) < 2 ^ 32
slots_few names program is legal = stock_few names program (same_bounds names program is) (keys_stock names program is legal)

-- no name stands twice in a list where each is counted once
once_more : (name x : Symbol) (names : List Symbol) → length (filter (bytes_eq name) names) ≤ length (filter (bytes_eq name) (x ∷ names))
once_more name x names = by (bytes_eq name x) refl
  where
    by : (b : Bool) → bytes_eq name x ≡ b → length (filter (bytes_eq name) names) ≤ length (filter (bytes_eq name) (x ∷ names))
    by true e = rw e (omega arith)
    by false e = rw e (omega arith)

none_counted : (name : Symbol) (names : List Symbol) → length (filter (bytes_eq name) names) ≤ 0 → list_any (bytes_eq name) names ≡ false
none_counted name [] none = refl
none_counted name (x ∷ names) none = by (bytes_eq name x) refl (none_counted name names)
  where
    by : (b : Bool) → bytes_eq name x ≡ b → (length (filter (bytes_eq name) names) ≤ 0 → list_any (bytes_eq name) names ≡ false)
        → list_any (bytes_eq name) (x ∷ names) ≡ false
    by true e rest = let some : length (filter (bytes_eq name) (x ∷ names)) ≡ 1 + length (filter (bytes_eq name) names) = rw e (omega arith) in absurd (omega (arith, some, none))
    by false e rest = rw e (rest (omega (arith, once_more name x names, none)))

abbrev once_at_most : List Symbol → Symbol → Type 0
once_at_most names name = length (filter (bytes_eq name) names) ≤ 1

counted_apart : (names : List Symbol) → All (once_at_most names) names → Apart names
counted_apart [] all = tt
counted_apart (x ∷ names) all =
    let first : length (filter (bytes_eq x) (x ∷ names)) ≤ 1 = All-head (once_at_most (x ∷ names)) x names all in
    let own : length (filter (bytes_eq x) (x ∷ names)) ≡ 1 + length (filter (bytes_eq x) names) = rw (symbol_refl x) (omega arith) in
    let later = All-weaker (once_at_most (x ∷ names)) (once_at_most names)
    (λ name once. omega (arith, once_more name x names, once)) names (All-tail (once_at_most (x ∷ names)) x names all) in
    (none_counted x names (omega (arith, first, own)), counted_apart names later)

pub stock_apart : (names : List Symbol) (program : List LineFields) → IsStock names program → Apart names
stock_apart names program stock =
    counted_apart names
    (All-weaker (λ name. length (filter (bytes_eq name) names) ≡ 1) (once_at_most names) (λ name once. omega (arith, once)) names stock.once)
