-- What registers stand for: the value of a variable, an array element or a constant, where a
-- LOGICAL one is 0 or 1, or that there is no value.
use Rattle.std.specs.Prelude.{◌||◌, ◌==◌, ◌+◌, ◌∷◌, if◌then◌else◌, ℕ, Bool, List, [], Option, Some, None, slice_get}
use Rattle.std.specs.Prelude.{ℤ, pos, negsuc, Result, Ok, Err}
use Rattle.std.specs.List.{list_all}
use Rattle.f77_actions.specs.declared.finish.Fault.{Fault}
use Rattle.f77_actions.specs.declared.finish.Fault.TheVariants.{Undefined}
use Rattle.f77_actions.specs.Number.{fits}
use Rattle.f77_actions.specs.Value.{given, both, element}

-- what a number in a register stands for: a value, or that there is none
abbrev pub decoded : ℤ → Result ℤ Fault
decoded (pos n) = if n == 1099511627776 then Err Undefined else Ok (pos n)
decoded (negsuc n) = Ok (negsuc n)

-- the number stands for a value, or for none
abbrev pub is_held : ℤ → Bool
is_held (pos n) = fits (pos n) || (n == 1099511627776)
is_held (negsuc n) = fits (negsuc n)

-- each of the numbers stands for a value, or for none
abbrev pub are_held : List ℤ → Bool
are_held registers = list_all is_held registers

abbrev pub decoded_at : Option ℤ → Result ℤ Fault
decoded_at (Some z) = decoded z
decoded_at None = Err Undefined

-- what register r stands for
abbrev pub register : List ℤ → ℕ → Result ℤ Fault
register registers r = decoded_at (slice_get registers r)

-- the place of an element in its array, from 0, by the results of its subscripts
abbrev pub vector_place : ℕ → Result ℤ Fault → Result ℕ Fault
vector_place bound subscript = given subscript (λ z. element (bound ∷ []) (z ∷ []))

-- the place of an element in an array of two dimensions, by the results of its subscripts
abbrev pub matrix_place : ℕ → ℕ → Result ℤ Fault → Result ℤ Fault → Result ℕ Fault
matrix_place rows columns row column =
    both (λ z w. element (rows ∷ (columns ∷ [])) (z ∷ (w ∷ []))) row column

-- what the element at this place stands for, where the array begins in the register `first`
abbrev pub element_at : List ℤ → ℕ → Result ℕ Fault → Result ℤ Fault
element_at registers first place = given place (λ k. register registers (first + k))
