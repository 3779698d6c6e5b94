-- What the slots of the dummy arguments hold.
use Rattle.f77_meaning.proofs.Common.{List, ℕ, ◌≡◌, refl, Some, true, ap, arith, ◌∙◌, None, [], sym, ◌∷◌, length, ◌+◌, subst, ◌≤◌, if◌then◌else◌, map, ◌||◌}
use Rattle.f77_meaning.proofs.Common.{is_some, nat_le, le-leb, length-map, list_any, list_all, zip, bytes_eq, shapes, shape_of, slot_count, first_slot, Cells}
use Rattle.f77_meaning.proofs.Common.{first_numbers, dummies, product, element_count, Symbol, bounds_of, kind_of, some_items, values_of, size_of, IsTyped}
use Rattle.f77_meaning.proofs.Common.{AllHold, HasValues, has_kind, span, LineFields, Kind}
use Rattle.std.proofs.lemmas.Cmp.{nat_list_eq_equiv}
use Rattle.f77_meaning.proofs.Dummies.{or_later}
use Rattle.f77_meaning.proofs.Spans.{span_within}
use Rattle.f77_meaning.proofs.Stored.{held_from}

-- a name has as many elements as its bounds say, and one without bounds
size_by : (kind : Kind) (bounds : List ℕ) → size_of (record { kind = kind; elements = if is_some (some_items bounds) then Some (product bounds) else None }) ≡ product bounds
size_by kind [] = refl
size_by kind (bound ∷ bounds) = refl

pub size_is : (p : List LineFields) (name : Symbol) → size_of (shape_of p name) ≡ element_count p name
size_is p name = size_by (kind_of p name) (bounds_of p name)

module _ (p : List LineFields) (names : List Symbol) (cells : Cells) where
  -- the slots of a name hold what the name holds
  pub span_read : (name : Symbol) (slot : ℕ) → first_slot (bounds_of p) names name ≡ Some slot → span slot (size_of (shape_of p name)) cells ≡ values_of (bounds_of p) names cells name
  span_read name slot start =
      ap (λ n. span slot n cells) (size_is p name) ∙ sym (ap (λ o. map (held_from cells o) (first_numbers (product (bounds_of p name)))) start)

  holding : (list : List Symbol) (slots : List ℕ) → map (first_slot (bounds_of p) names) list ≡ map (λ slot. Some slot) slots
      → ((name : Symbol) → list_any (bytes_eq name) list ≡ true → HasValues (kind_of p name) (element_count p name) (values_of (bounds_of p) names cells name))
      → AllHold cells (zip (map (shape_of p) list) slots)
  holding [] slots starts typed = tt
  holding (x ∷ list) [] starts typed = absurd (cc (starts))
  holding (x ∷ list) (slot ∷ slots) starts typed = (here, holding list slots (cc (starts)) (λ name among. typed name (or_later (bytes_eq name x) (list_any (bytes_eq name) list) among)))
    where
      own : HasValues (kind_of p x) (element_count p x) (values_of (bounds_of p) names cells x)
      own = typed x (ap (λ b. b || list_any (bytes_eq x) list) (nat_list_eq_equiv.refl x))

      here : HasValues (kind_of p x) (size_of (shape_of p x)) (span slot (size_of (shape_of p x)) cells)
      here =
          let read = span_read x slot (cc (starts)) in
          record { count = ap length read ∙ own.count ∙ sym (size_is p x); each = subst (λ held. list_all (has_kind (kind_of p x)) held ≡ true) (sym read) own.each }

  reading : (list : List Symbol) (slots : List ℕ) → map (first_slot (bounds_of p) names) list ≡ map (λ slot. Some slot) slots
      → map (λ pair. span pair.1 (size_of pair.0) cells) (zip (map (shape_of p) list) slots) ≡ map (values_of (bounds_of p) names cells) list
  reading [] slots starts = refl
  reading (x ∷ list) [] starts = absurd (cc (starts))
  reading (x ∷ list) (slot ∷ slots) starts =
      let first = span_read x slot (cc (starts)) in
      let later = reading list slots (cc (starts)) in
      λ i. first i ∷ later i

  bounded : (list : List Symbol) (slots : List ℕ) → map (first_slot (bounds_of p) names) list ≡ map (λ slot. Some slot) slots → length cells ≡ slot_count (bounds_of p) names
      → list_all (λ pair. nat_le (pair.1 + size_of pair.0) (length cells)) (zip (map (shape_of p) list) slots) ≡ true
  bounded [] slots starts size = refl
  bounded (x ∷ list) [] starts size = absurd (cc (starts))
  bounded (x ∷ list) (slot ∷ slots) starts size =
      let within = span_within (bounds_of p) names x slot (cc (starts)) in
      let le : slot + size_of (shape_of p x) ≤ length cells = omega (arith, within, size_is p x, size) in
      rw (le-leb (slot + size_of (shape_of p x)) (length cells) le) (bounded list slots (cc (starts)) size)

  module _ (slots : List ℕ) (starts : map (first_slot (bounds_of p) names) (dummies p) ≡ map (λ slot. Some slot) slots) where
    pub all_hold : IsTyped p (values_of (bounds_of p) names cells) → AllHold cells (zip (shapes p) slots)
    all_hold typed = holding (dummies p) slots starts typed

    pub spans_read : map (λ pair. span pair.1 (size_of pair.0) cells) (zip (shapes p) slots) ≡ map (values_of (bounds_of p) names cells) (dummies p)
    spans_read = reading (dummies p) slots starts

    pub as_many : length slots ≡ length (shapes p)
    as_many =
        sym (length-map slots (λ slot. Some slot))
        ∙ ap length (sym starts)
        ∙ length-map (dummies p) (first_slot (bounds_of p) names)
        ∙ sym (length-map (dummies p) (shape_of p))

    pub spans_within : length cells ≡ slot_count (bounds_of p) names → list_all (λ pair. nat_le (pair.1 + size_of pair.0) (length cells)) (zip (shapes p) slots) ≡ true
    spans_within size = bounded (dummies p) slots starts size
