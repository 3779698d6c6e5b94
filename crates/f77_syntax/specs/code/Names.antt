-- Reading names joined by commas.
use Rattle.std.specs.Prelude.{◌≡◌, ℕ, List, Option, Some, None, if◌then◌else◌, map, Vec}
use Rattle.std.specs.Borrow.{Bor}
use Rattle.std.specs.declared.alloc.Global.{Global}
use Rattle.f77_tree.specs.declared.name.Name.{Name}
use Rattle.f77_tree.specs.Grammar.{is_name, word, past_word}
use Rattle.f77_tree.specs.Name.{cut}
use Rattle.f77_syntax.specs.code.Joined.{items_at}

-- a name, and the text behind it
abbrev pub name_at : List ℕ → Option (List ℕ × List ℕ)
name_at s = if is_name (word s) then Some (word s, past_word s) else None

-- the names at the front, and the text behind them
unfoldable pub names_at : List ℕ → Option (List (List ℕ) × List ℕ)
names_at s = items_at name_at s

-- the characters of a name, and the text behind them
abbrev pub IsFront : Bor (List ℕ) × Bor (List ℕ) → List ℕ × List ℕ → Type 0
IsFront x a = (x.0.now ≡ a.0) × (x.1.now ≡ a.1)

-- a name as the code keeps it, by its first seven characters, and the text behind it
abbrev pub IsName : Name × Bor (List ℕ) → List ℕ × List ℕ → Type 0
IsName x a = (x.0 ≡ cut a.0) × (x.1.now ≡ a.1)

abbrev pub AreNames : Vec Name Global × Bor (List ℕ) → List (List ℕ) × List ℕ → Type 0
AreNames x a = (x.0.items ≡ map cut a.0) × (x.1.now ≡ a.1)
