-- Items joined by commas: how they are written, and what the function does that writes each.
use Rattle.std.specs.Prelude.{◌≡◌, ◌++◌, ℕ, List, [], String, Result, OnOk, string_bytes}
use Rattle.f77_tree.specs.Joined.{separated}
use denote.Ref.{Bor, MutBor}

-- each call that succeeds writes the text of its item behind what stands there
abbrev pub Writes : {T Z R E : Type 0}
    → (MutBor (String Z) → Bor T → Result R E → MutBor (String Z) → Type 0)
    → (T → List ℕ) → Type 0
Writes post text =
    (out : MutBor (String _)) (item : Bor _) (result : Result _ _) (after : MutBor (String _))
    → post out item result after
    → OnOk result (string_bytes after.now ≡ string_bytes out.now ++ text item.now)

-- items between two texts, with commas between them
abbrev pub enclosed_text : {A : Type 0} → List ℕ → (A → List ℕ) → List A → List ℕ → List ℕ
enclosed_text opening text items closing = opening ++ (separated text [] items ++ closing)
