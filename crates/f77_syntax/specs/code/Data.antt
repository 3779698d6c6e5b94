-- Reading initial values, and what is kept of them: names, repeats and constants are of any length and size in a text.
use Rattle.std.specs.Prelude.{◌≡◌, ℕ, zero, suc, ℤ, pos, negsuc, List, [], ◌∷◌, length, map, codes, Vec}
use Rattle.std.specs.Prelude.{Option, Some, None, option_map, unwrap_or, true, false, ◌==◌, nat_le, if◌then◌else◌}
use Rattle.std.specs.Borrow.{Bor}
use Rattle.std.specs.declared.alloc.Global.{Global}
use Rattle.f77_tree.specs.declared.data.Constant.{Constant}
use Rattle.f77_tree.specs.declared.data.Constant.TheVariants.{Number, Truth}
use Rattle.f77_tree.specs.declared.data.Value.{Value}
use Rattle.f77_tree.specs.Statement.{Statement}
use Rattle.f77_tree.specs.declared.data.DataGroup.{DataGroup}
use Rattle.f77_syntax.specs.code.Names.{names_at}
use Rattle.f77_syntax.specs.code.Declaration.{bound_at}
use Rattle.f77_syntax.specs.code.Joined.{items_at}
use Rattle.f77_tree.specs.Name.{cut}
use Rattle.f77_tree.specs.Limits.{largest_integer, magnitude}
use Rattle.f77_syntax.specs.Reading.{◌>>=◌, strip}
use Rattle.f77_syntax.specs.code.Reading.{tree_after, behind, past_comma}
use Rattle.f77_tree.specs.Tree.{GroupFields}
use Rattle.f77_syntax.specs.code.View.{clipped}
use Rattle.f77_tree.specs.Data.{negative, data_group_of}

-- an INTEGER constant and the text behind it; `sign` makes it positive or negative
abbrev pub initial_constant_at : (ℕ → ℤ) → List ℕ → Option (Constant × List ℕ)
initial_constant_at sign s = bound_at s >>= λ x. Some (Number (sign x.0), x.1)

-- a number with a sign or without, .TRUE. or .FALSE. (ANSI X3.9-1978, section 9)
unfoldable pub constant_at : List ℕ → Option (Constant × List ℕ)
constant_at s =
    behind (tree_after 43 s) (initial_constant_at pos)
    (behind (tree_after 45 s) (initial_constant_at negative)
    (behind (strip (codes ".TRUE.") s) (λ r. Some (Truth true, r))
    (behind (strip (codes ".FALSE.") s) (λ r. Some (Truth false, r))
    (initial_constant_at pos s))))

-- a repeat with its asterisk
unfoldable pub repeat_at : List ℕ → Option (ℕ × List ℕ)
repeat_at s = bound_at s >>= λ x. tree_after 42 x.1 >>= λ r. Some (x.0, r)

-- the constant that stands behind a repeat
abbrev pub times_at : ℕ × List ℕ → Option (Value × List ℕ)
times_at x = constant_at x.1 >>= λ y. Some (record { times = x.0; constant = y.0 }, y.1)

-- a constant with its repeat, which is 1 where none is written (ANSI X3.9-1978, section 9)
unfoldable pub data_value_at : List ℕ → Option (Value × List ℕ)
data_value_at s = times_at (unwrap_or (repeat_at s) (1, s))

unfoldable pub data_values_at : List ℕ → Option (List Value × List ℕ)
data_values_at s = items_at data_value_at s

-- names, and their values between slashes (ANSI X3.9-1978, section 9)
unfoldable pub group_at : List ℕ → Option (GroupFields × List ℕ)
group_at s =
    names_at s >>= λ x. tree_after 47 x.1 >>= λ r. data_values_at r
    >>= λ v. tree_after 47 v.1 >>= λ z. Some (record { names = x.0; values = v.0 }, z)

-- a group has been read: behind it the text ends, or other groups stand
abbrev pub with_groups : (List ℕ → Option (List GroupFields)) → GroupFields → List ℕ → Option (List GroupFields)
with_groups others g rest =
    if length rest == 0 then Some (g ∷ []) else (others (past_comma rest) >>= λ gs. Some (g ∷ gs))

-- at most this many groups, up to the end
abbrev pub groups_within : ℕ → List ℕ → Option (List GroupFields)
groups_within zero s = None
groups_within (suc n) s = group_at s >>= λ x. with_groups (groups_within n) x.0 x.1

-- groups up to the end, of which a comma may stand between two (ANSI X3.9-1978, section 9)
unfoldable pub groups_at : List ℕ → Option (List GroupFields)
groups_at s = groups_within (suc (length s)) s

-- DATA, from the text behind it (ANSI X3.9-1978, section 9)
abbrev pub data_at : List ℕ → Option Statement
data_at s = groups_at s >>= λ gs. Some (Statement.Preset gs)

-- A constant as the code keeps it. Of a name the first seven characters are kept, a repeat above 2147483647 is kept as
-- 2147483648, and a number beyond that limit as -2147483648.
abbrev pub clipped_constant : ℤ → ℤ
clipped_constant z = if nat_le (magnitude z) largest_integer then z else negsuc largest_integer

abbrev pub clip_constant : Constant → Constant
clip_constant (Number z) = Number (clipped_constant z)
clip_constant (Truth b) = Truth b

abbrev pub clip_value : Value → Value
clip_value v = record { times = clipped v.times; constant = clip_constant v.constant }

abbrev pub clip_group : GroupFields → GroupFields
clip_group g = record { names = map cut g.names; values = map clip_value g.values }

-- the code finds what is read, as it is kept
abbrev pub Finds : {A B : Type 0} → (A → B) → Option (B × Bor (List ℕ)) → Option (A × List ℕ) → Type 0
Finds {A = A} {B = B} keep found read =
    option_map {U = B × List ℕ} (λ x. (x.0, x.1.now)) found ≡ option_map {U = B × List ℕ} (λ x. (keep x.0, x.1)) read

abbrev pub IsValue : Value × Bor (List ℕ) → Value × List ℕ → Type 0
IsValue x a = (x.0 ≡ clip_value a.0) × (x.1.now ≡ a.1)

abbrev pub AreDataValues : Vec Value Global × Bor (List ℕ) → List Value × List ℕ → Type 0
AreDataValues x a = (x.0.items ≡ map clip_value a.0) × (x.1.now ≡ a.1)

abbrev pub IsGroup : DataGroup × Bor (List ℕ) → GroupFields × List ℕ → Type 0
IsGroup x a = (data_group_of x.0 ≡ clip_group a.0) × (x.1.now ≡ a.1)

abbrev pub AreGroups : Vec DataGroup Global → List GroupFields → Type 0
AreGroups x a = map data_group_of x.items ≡ map clip_group a
