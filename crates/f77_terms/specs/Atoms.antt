-- The meaning of atoms.
use Rattle.std.specs.Prelude.{◌≡◌, ◌≢◌, ◌<◌, ◌+◌, ◌*ℤ◌, ℕ, ℤ, pos, negsuc, List, Some, slice_get, int_div, int_rem}
use Rattle.std.specs.Int.{int_min}
use Rattle.f77_terms.specs.declared.atoms.Function.{Function}
use Rattle.f77_terms.specs.declared.atoms.Function.TheVariants as function
use Rattle.f77_terms.specs.declared.atoms.Key.{Key}
use Rattle.f77_terms.specs.declared.atoms.Key.TheVariants as key
use Rattle.f77_terms.specs.declared.atoms.Table.{Table}
use Rattle.f77_terms.specs.declared.terms.Part.{Part}
use Rattle.f77_terms.specs.declared.terms.Term.{Term}
use Rattle.f77_terms.specs.Terms.{Valuation, sum_value}

-- the number that each slot holds
abbrev pub Numbers : Type 0
Numbers = ℕ → ℤ

-- the slot that lies so far behind one
abbrev pub slot_behind : ℕ → ℤ → ℕ
slot_behind first (pos n) = first + n
slot_behind first (negsuc n) = first

-- what a function makes of two numbers
abbrev pub function_value : Function → ℤ → ℤ → ℤ
function_value function.Quotient a b = int_div a b
function_value function.Remainder a b = int_rem a b
function_value function.Minimum a b = int_min a b
function_value function.Product a b = a *ℤ b

-- the second number is not 0 where it is a divisor
abbrev pub IsDefined : Function → ℤ → Type 0
IsDefined function.Quotient b = b ≢ pos 0
IsDefined function.Remainder b = b ≢ pos 0
IsDefined function.Minimum b = Unit {0}
IsDefined function.Product b = Unit {0}

-- the number that a key means
abbrev pub key_value : Numbers → Valuation → Key → ℤ
key_value held v (key.Slot slot) = held slot
key_value held v (key.Element first index) = held (slot_behind first (sum_value v index))
key_value held v (key.Function f a b) = function_value f (sum_value v a) (sum_value v b)

-- the atom of each part is below this number
abbrev pub AreOfAtomsBelow : ℕ → List Part → Type 0
AreOfAtomsBelow n parts =
    (k : ℕ) (part : Part) → slice_get parts k ≡ Some part → part.atom < n

abbrev pub IsOfAtomsBelow : ℕ → Term → Type 0
IsOfAtomsBelow n term = AreOfAtomsBelow n term.parts.items

-- each atom of the key's terms is below this number
abbrev pub IsOfEarlierAtoms : ℕ → Key → Type 0
IsOfEarlierAtoms n (key.Slot slot) = Unit {0}
IsOfEarlierAtoms n (key.Element first index) = IsOfAtomsBelow n index
IsOfEarlierAtoms n (key.Function f a b) = IsOfAtomsBelow n a × IsOfAtomsBelow n b

-- Each atom has the number that its key means. A key with atoms behind its own means nothing.
abbrev pub FitsTable : Numbers → Valuation → Table → Type 0
FitsTable held v table =
    (k : ℕ) (key : Key) → slice_get table.keys.items k ≡ Some key → IsOfEarlierAtoms k key
    → v k ≡ key_value held v key
