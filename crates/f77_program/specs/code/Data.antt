-- Whether some text spells initial values (ANSI X3.9-1978, section 9).
-- Private functions and proofs alone cite what stands here.
use Rattle.std.specs.Prelude.{ℕ, List, Bool, true, ◌&&◌}
use Rattle.f77_tree.specs.declared.data.Value.{Value}
use Rattle.f77_tree.specs.code.Joined.{some_all}
use Rattle.f77_tree.specs.Tree.{GroupFields}

-- any value: each constant is spelled by some text
abbrev pub any_value : Value → Bool
any_value v = true

-- a group has at least one name, each of which passes the test, and at least one value
abbrev pub is_group : (List ℕ → Bool) → GroupFields → Bool
is_group named g = some_all named g.names && some_all any_value g.values

abbrev pub data_formed : (List ℕ → Bool) → List GroupFields → Bool
data_formed named gs = some_all (is_group named) gs
