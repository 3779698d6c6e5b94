-- A machine at the start of a run, and what its dummy arguments hold at an end.
use Rattle.f77_meaning.proofs.Common.{List, ℕ, ◌≡◌, refl, Some, true, ap, arith, ◌∙◌, None, false, [], sym, ◌∷◌, Bool, Option, suc, length, zero, ◌+◌, subst}
use Rattle.f77_meaning.proofs.Common.{option_map, ◌≤◌, slice_get, Err, Ok, Result, map, position, nat_le, ◌++◌, IfOk, replicate, and_parts, nat_tests}
use Rattle.f77_meaning.proofs.Common.{map-append, list_any, list_all, zip, flat_map, option_map_or, bytes_eq, Value, shapes, CheckedFields, IsChecked}
use Rattle.f77_meaning.proofs.Common.{slot_count, Cells, State, turn_at, first_numbers, dummies, product, element_count, Symbol, bounds_of, symbols, values_of}
use Rattle.f77_meaning.proofs.Common.{IsStart, AreFitting, placed_in_run, start_values, values_in, AreArguments, all_filled, constant_value, size_of, held}
use Rattle.f77_meaning.proofs.Common.{config, IsTyped, AllHold, span, AreWithin, HaveRoom, site_of, Arg, LineFields, line_of}
use Rattle.f77_check.specs.declared.checked.Shape.{Shape}
use Rattle.f77_legal.specs.Patches.{is_name_among}
use Rattle.f77_check.specs.Start.{initial_value}
use Rattle.f77_legal.proofs.Among.{among_holds}
use Rattle.f77_check.proofs.NoInitialValue.{no_initial_value}
use Rattle.f77_code.specs.declared.control.Place.TheVariants as places
use Rattle.f77_meaning.specs.Step as run
use Rattle.f77_meaning.proofs.StateDefinitions.{turns_of, turn_of}
use Rattle.f77_meaning.proofs.InRun.{stands_for}
use Rattle.f77_meaning.proofs.Filling.{arguments_filled, arguments_within, all_filled_length}
use Rattle.f77_meaning.proofs.Reading.{all_hold, spans_read, spans_within}
use Rattle.f77_meaning.proofs.Laying.{laid_values, laid_all, unlaid_values}

is_at_most : (m n : ℕ) → nat_le m n ≡ true → m ≤ n
is_at_most m n h = grind (arith, nat_tests)

-- room for arguments, and for what dummy arguments hold, as a test of a list
pub room_of : (n : ℕ) (xs : List (ℕ × Arg)) → list_all (λ x. nat_le (x.0 + length (values_in x.1)) n) xs ≡ true → HaveRoom n xs
room_of n [] h = tt
room_of n (x ∷ xs) h =
    let parts = and_parts (nat_le (x.0 + length (values_in x.1)) n) (list_all (λ x. nat_le (x.0 + length (values_in x.1)) n) xs) h in
    (is_at_most _ n parts.0, room_of n xs parts.1)

pub within_of : (n : ℕ) (xs : List (Shape × ℕ)) → list_all (λ pair. nat_le (pair.1 + size_of pair.0) n) xs ≡ true → AreWithin n xs
within_of n [] h = tt
within_of n (x ∷ xs) h =
    let parts = and_parts (nat_le (x.1 + size_of x.0) n) (list_all (λ pair. nat_le (pair.1 + size_of pair.0) n) xs) h in
    (is_at_most _ n parts.0, within_of n xs parts.1)

-- a function on all members of joined lists
map_joined : {A B C : Type 0} (f : B → C) (h : A → List B) (xs : List A) → map f (flat_map h xs) ≡ flat_map (λ x. map f (h x)) xs
map_joined f h [] = refl
map_joined f h (x ∷ xs) = map-append f (h x) (flat_map h xs) ∙ ap (λ rest. map f (h x) ++ rest) (map_joined f h xs)

map_twice : {A B C : Type 0} (f : B → C) (g : A → B) (xs : List A) → map f (map g xs) ≡ map (λ x. f (g x)) xs
map_twice f g [] = refl
map_twice f g (x ∷ xs) = ap (λ rest. f (g x) ∷ rest) (map_twice f g xs)

same_joined : {A B : Type 0} (f g : A → List B) → ((x : A) → f x ≡ g x) → (xs : List A) → flat_map f xs ≡ flat_map g xs
same_joined f g same [] = refl
same_joined f g same (x ∷ xs) = (λ i. same x i ++ same_joined f g same xs i)

same_mapped : {A B : Type 0} (f g : A → B) → ((x : A) → f x ≡ g x) → (xs : List A) → map f xs ≡ map g xs
same_mapped f g same [] = refl
same_mapped f g same (x ∷ xs) = (λ i. same x i ∷ same_mapped f g same xs i)

module _ (checked : CheckedFields) (is : IsChecked checked) where
  abbrev program : List LineFields
  program = map line_of checked.program

  abbrev bounds : Symbol → List ℕ
  bounds = bounds_of program

  -- what DATA gives an element
  abbrev given_at : Symbol → ℕ → Option Value
  given_at name k = option_map constant_value (initial_value program name k)

  -- the slots before the arguments are there
  abbrev pub empty : Cells
  empty = map (option_map constant_value) checked.start.initial.items

  laid : empty ≡ flat_map (λ name. map (given_at name) (first_numbers (product (bounds name)))) checked.names
  laid =
      ap (map (option_map constant_value)) is.start.initial
      ∙ map_joined (option_map constant_value) (λ name. map (initial_value program name) (first_numbers (element_count program name))) checked.names
      ∙ same_joined _ _ (λ name. map_twice (option_map constant_value) (initial_value program name) (first_numbers (element_count program name))) checked.names

  pub empty_size : length empty ≡ slot_count bounds checked.names
  empty_size = ap length laid ∙ laid_all bounds checked.names given_at

  empty_values : (name : Symbol) → values_of bounds checked.names empty name ≡ map (given_at name) (first_numbers (element_count program name))
  empty_values name = by (list_any (bytes_eq name) checked.names) refl
    where
      by : (b : Bool) → list_any (bytes_eq name) checked.names ≡ b → values_of bounds checked.names empty name ≡ map (given_at name) (first_numbers (element_count program name))
      by true among = ap (λ cells. values_of bounds checked.names cells name) laid ∙ laid_values bounds checked.names given_at name among
      by false apart =
          unlaid_values bounds checked.names name apart empty
          ∙ same_mapped (λ k. None) (given_at name)
          (λ k. sym (ap (option_map constant_value) (no_initial_value program name (other (list_any (bytes_eq name) (symbols program)) refl apart) k)))
          (first_numbers (element_count program name))
        where
          other : (b : Bool) → list_any (bytes_eq name) (symbols program) ≡ b → list_any (bytes_eq name) checked.names ≡ false → list_any (bytes_eq name) (symbols program) ≡ false
          other true e apart =
              let there = among_holds (λ name. is_name_among checked.names name ≡ true) (symbols program) is.names.covers name e in
              absurd (cc (there, apart))
          other false e apart = e

  -- no DO is active
  none_at : (n d : ℕ) → turn_at (replicate n None) d ≡ None
  none_at zero d = refl
  none_at (suc n) zero = refl
  none_at (suc n) (suc d) = none_at n d

  none_active : (n : ℕ) → turns_of (replicate n None) ≡ (λ d. None)
  none_active n = λ i. λ d. option_map turn_of (none_at n d i)

  module _ (arguments : List Arg) (fits : AreFitting checked.arguments arguments) where
    -- the arguments fit the shapes of the program
    fitting : AreFitting (shapes program) arguments
    fitting = subst (λ list. AreFitting list arguments) is.arguments fits

    abbrev pub filled_cells : Cells
    filled_cells = all_filled empty (zip checked.start.dummies.items arguments)

    pub filled_size : length filled_cells ≡ slot_count bounds checked.names
    filled_size = all_filled_length empty (zip checked.start.dummies.items arguments) ∙ empty_size

    pub room : HaveRoom (length empty) (zip checked.start.dummies.items arguments)
    room = room_of _ _ (arguments_within program checked.names empty checked.start.dummies.items arguments empty_size is.start.dummies fitting)

    starts_each : (name : Symbol) → held checked filled_cells name ≡ start_values program (map values_in arguments) name
    starts_each name =
        arguments_filled program checked.names empty checked.start.dummies.items arguments is.legal empty_size is.start.dummies fitting name
        ∙ ap (option_map_or (λ i. option_map_or (map (λ v. Some v)) (slice_get (map values_in arguments) i) []) (position (bytes_eq name) (dummies program))) (empty_values name)

    pub starts : held checked filled_cells ≡ start_values program (map values_in arguments)
    starts = λ i. λ name. starts_each name i

    -- a state with these slots and no active DO, at the first executable statement
    module _ (s : State) (n : ℕ) (place : s.place ≡ places.Execute checked.start.entry) (cells : s.cells ≡ filled_cells) (turns : s.turns ≡ replicate n None) where
      pub state_starts : IsStart program (map values_in arguments) (stands_for (site_of checked arguments) s)
      state_starts = (
        checked.start.entry,
        is.start.entry,
        (λ i. config (placed_in_run (place i)) (held checked (cells i)) (turns_of (turns i)))
            ∙ (λ i. config (run.Execute checked.start.entry) (starts i) (none_active n i)),
      )

  -- what the dummy arguments hold in these slots
  module _ (cells : Cells) (size : length cells ≡ slot_count bounds checked.names) (typed : IsTyped program (held checked cells)) where
    same_pairs : zip checked.arguments checked.start.dummies.items ≡ zip (shapes program) checked.start.dummies.items
    same_pairs = ap (λ list. zip list checked.start.dummies.items) is.arguments

    pub dummies_within : AreWithin (length cells) (zip checked.arguments checked.start.dummies.items)
    dummies_within = rw same_pairs (within_of _ _ (spans_within program checked.names cells checked.start.dummies.items is.start.dummies size))

    pub dummies_hold : AllHold cells (zip checked.arguments checked.start.dummies.items)
    dummies_hold = rw same_pairs (all_hold program checked.names cells checked.start.dummies.items is.start.dummies typed)

    pub dummies_read : (arguments : List Arg) → AreFitting checked.arguments arguments
        → map (λ argument. map (λ v. Some v) (values_in argument)) arguments ≡ map (λ pair. span pair.1 (size_of pair.0) cells) (zip checked.arguments checked.start.dummies.items)
        → AreArguments program (held checked cells) arguments
    dummies_read arguments fits values = record {
      fitting = fitting arguments fits;
      values = sym
          (values
          ∙ (ap (map (λ pair. span pair.1 (size_of pair.0) cells)) same_pairs
          ∙ spans_read program checked.names cells checked.start.dummies.items is.start.dummies));
    }

-- two clauses of an answer give a third
pub both_ok : {A E : Type 0} (P Q R : A → Type 0) (result : Result A E) → IfOk result P → IfOk result Q → ((a : A) → P a → Q a → R a) → IfOk result R
both_ok P Q R (Ok a) p q both = both a p q
both_ok P Q R (Err e) p q both = p
