-- Initial values (ANSI X3.9-1978, section 9). Names, repeats
-- and constants are of any length and size in a text.
use Rattle.std.specs.Prelude.{◌≡◌, ℕ, zero, suc, ℤ, pos, negsuc, List, [], ◌∷◌, ◌++◌, Bool, true}
use Rattle.std.specs.Str.Parse.{digits_value}
use Rattle.f77_tree.specs.declared.data.Constant.{Constant}
use Rattle.f77_tree.specs.declared.data.Constant.TheVariants.{Number, Truth}
use Rattle.f77_tree.specs.declared.data.Value.{Value}
use Rattle.f77_tree.specs.declared.data.DataGroup.{DataGroup}
use Rattle.f77_tree.specs.Declaration.{SpellsName}
use Rattle.f77_tree.specs.Grammar.{is_number, truth_constant_text}
use Rattle.f77_tree.specs.Joined.{Joined}
use Rattle.f77_tree.specs.Tree.{GroupFields}

-- the view of a group of DATA
abbrev pub data_group_of : DataGroup → GroupFields
data_group_of g = record { names = g.names.items; values = g.values.items }

-- the negative of a number
abbrev pub negative : ℕ → ℤ
negative zero = pos zero
negative (suc n) = negsuc n

-- the text spells the constant
pub data SpellsConstant : List ℕ → Constant → Type 0 where
  unsigned : {text : List ℕ}
      → is_number text ≡ true → SpellsConstant text (Number (pos (digits_value 10 text)))
  plus : {text : List ℕ}
      → is_number text ≡ true → SpellsConstant (43 ∷ text) (Number (pos (digits_value 10 text)))
  minus : {text : List ℕ} → is_number text ≡ true
      → SpellsConstant (45 ∷ text) (Number (negative (digits_value 10 text)))
  logical : (b : Bool) → SpellsConstant (truth_constant_text b) (Truth b)

-- the text spells a constant with its repeat
pub data SpellsValue : List ℕ → Value → Type 0 where
  once : {text : List ℕ} {c : Constant}
      → SpellsConstant text c → SpellsValue text (record { times = 1; constant = c })
  repeated : (digits : List ℕ) {text : List ℕ} {c : Constant}
      → is_number digits ≡ true → SpellsConstant text c
      → SpellsValue (digits ++ (42 ∷ text))
      (record { times = digits_value 10 digits; constant = c })

-- the text spells a group: names, and values between slashes
pub data SpellsGroup : List ℕ → GroupFields → Type 0 where
  group : {x y : List ℕ} {names : List (List ℕ)} {values : List Value}
      → Joined SpellsName x names → Joined SpellsValue y values
      → SpellsGroup (x ++ (47 ∷ (y ++ 47 ∷ []))) (record { names = names; values = values })

-- the text spells one group or more; a comma may stand between two
pub data SpellsGroups : List ℕ → List GroupFields → Type 0 where
  last : {text : List ℕ} {g : GroupFields} → SpellsGroup text g → SpellsGroups text (g ∷ [])
  more : {text rest : List ℕ} {g : GroupFields} {gs : List GroupFields}
      → SpellsGroup text g → SpellsGroups rest gs
      → SpellsGroups (text ++ rest) (g ∷ gs)
  more_by_comma : {text rest : List ℕ} {g : GroupFields} {gs : List GroupFields}
      → SpellsGroup text g → SpellsGroups rest gs
      → SpellsGroups (text ++ (44 ∷ rest)) (g ∷ gs)
