-- Where control is in a run, and that it is never lost.
-- Proofs alone cite what stands here.
use Rattle.f77_meaning.proofs.Common.{List, ℕ, ◌≡◌, Some, true, false, Bool, Option, ◌+◌, ◌==◌, IsSome, list_any, option_and_then, branch_end, has_at}
use Rattle.f77_meaning.proofs.Common.{is_alternative, block_end, nth_statement, label_place, terminal_label, terminal, Config, Execute, Turns, Increment, Place}
use Rattle.f77_meaning.proofs.Common.{is_action, LineFields, Statement, is_executable_statement, jumps_of, Tree}

-- control may be there
abbrev pub CanHaveControl : List LineFields → ℕ → Type 0
CanHaveControl p i = has_at is_executable_statement p i ≡ true

abbrev pub IsPlacedAt : List LineFields → Place → Turns → Type 0
IsPlacedAt p (Execute i) active = CanHaveControl p i
IsPlacedAt p (Increment d) active = IsSome (active d)

-- each active DO is one
abbrev pub AreLoops : List LineFields → Turns → Type 0
AreLoops p active = (d : ℕ) → IsSome (active d) → IsSome (option_and_then terminal_label (nth_statement p d))

pub record IsPlaced (p : List LineFields) (c : Config) : Type 0 where
  pub at : IsPlacedAt p c.place c.active
  pub loops : AreLoops p c.active

abbrev pub is_last : Statement → Bool
is_last Statement.End = true
is_last _ = false

-- a statement where control may be
abbrev pub LeadsToStatement : List LineFields → Option ℕ → Type 0
LeadsToStatement p o = (j : ℕ) × (o ≡ Some j) × CanHaveControl p j

-- what a program has in which control is never lost
pub record NeverLosesControl (p : List LineFields) : Type 0 where
  pub follows : (i : ℕ) (s : Statement) → nth_statement p i ≡ Some s → is_executable_statement s ≡ true → is_last s ≡ false → CanHaveControl p (i + 1)
  pub closes : (i : ℕ) → has_at is_alternative p i ≡ true → LeadsToStatement p (block_end p i)
  pub blocks : (i : ℕ) (t : Tree) → nth_statement p i ≡ Some (Statement.BlockIf t) → LeadsToStatement p (branch_end p i)
  pub branches : (i : ℕ) (t : Tree) → nth_statement p i ≡ Some (Statement.ElseIf t) → LeadsToStatement p (branch_end p i)
  pub jumps : (i : ℕ) (s : Statement) (label : ℕ) → nth_statement p i ≡ Some s → list_any (λ l. l == label) (jumps_of s) ≡ true
      → LeadsToStatement p (label_place p label)
  pub ends : (d : ℕ) → IsSome (option_and_then terminal_label (nth_statement p d)) → (t : ℕ) × (terminal p d ≡ Some t) × CanHaveControl p (t + 1)
  pub inner : (i : ℕ) (t : Tree) (s : Statement) → nth_statement p i ≡ Some (Statement.LogicalIf t s) → is_action s ≡ true
