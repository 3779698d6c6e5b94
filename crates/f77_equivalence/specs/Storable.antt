-- Arguments whose numbers are ones that INTEGER holds.
use Rattle.std.specs.Prelude.{◌≡◌, Bool, true, List}
use Rattle.f77_equivalence.specs.Prelude.{list_all, Value, Arg, values_in}
use Rattle.f77_actions.specs.declared.value.Value.TheVariants as held
use Rattle.f77_actions.specs.Number.{fits}

abbrev pub is_storable : Value → Bool
is_storable (held.Number z) = fits z
is_storable (held.Truth b) = true

-- so is each number in them
abbrev pub AreStorable : List Arg → Type 0
AreStorable arguments =
    list_all (λ argument. list_all is_storable (values_in argument)) arguments ≡ true
