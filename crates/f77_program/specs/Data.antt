-- The canonical text of initial values (ANSI X3.9-1978, section 9).
use Rattle.std.specs.Prelude.{ℕ, List, [], ◌++◌, codes, ◌==◌, if◌then◌else◌}
use Rattle.std.specs.Fmt.{decimal, signed_decimal}
use Rattle.f77_tree.specs.declared.data.Constant.{Constant}
use Rattle.f77_tree.specs.declared.data.Constant.TheVariants.{Number, Truth}
use Rattle.f77_tree.specs.declared.data.Value.{Value}
use Rattle.f77_tree.specs.Grammar.{truth_constant_text}
use Rattle.f77_tree.specs.Joined.{separated}
use Rattle.f77_tree.specs.Tree.{GroupFields}

-- a constant as text: a number, with its sign if that is minus, or a truth value
abbrev pub constant_text : Constant → List ℕ
constant_text (Number z) = signed_decimal z
constant_text (Truth b) = truth_constant_text b

-- a repeat as text, which is empty for a repeat of 1
abbrev pub repeat_text : ℕ → List ℕ
repeat_text n = if n == 1 then [] else decimal n ++ codes "*"

-- a value as text, with its repeat where that is not 1
abbrev pub value_text : Value → List ℕ
value_text v = repeat_text v.times ++ constant_text v.constant

abbrev pub name_text : List ℕ → List ℕ
name_text name = name

-- a group as text: names, and values between slashes
abbrev pub group_text : GroupFields → List ℕ
group_text g =
    separated name_text [] g.names ++ (separated value_text (codes "/") g.values ++ codes "/")

-- groups as text, joined by commas, such as I,J/1,2/,K/3*0/
abbrev pub groups_text : List GroupFields → List ℕ
groups_text gs = separated group_text [] gs
