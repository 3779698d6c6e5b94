-- The label that a computed GO TO has for a value, and the jump that it has for it.
use Rattle.f77_meaning.proofs.Common.{List, ℕ, ◌≡◌, Some, true, None, [], ◌∷◌, Option, suc, zero, ℤ, slice_get, pos, negsuc, ◌==◌, eq-eqb, or_left, or_right}
use Rattle.f77_meaning.proofs.Common.{list_any, Jump, IsJump, AreJumps, item_chosen, LineFields}

label_among : (labels : List ℕ) (k label : ℕ) → slice_get labels k ≡ Some label → list_any (λ x. x == label) labels ≡ true
label_among [] k label e = absurd (cc (e))
label_among (x ∷ labels) zero label e =
    let same : x ≡ label = cc (e) in
    or_left (x == label) (list_any (λ x. x == label) labels) (eq-eqb x label same)
label_among (x ∷ labels) (suc k) label e = or_right (x == label) (list_any (λ x. x == label) labels) (label_among labels k label e)

-- the label is one of the statement's
pub numbered_among : (labels : List ℕ) (z : ℤ) (label : ℕ) → item_chosen labels z ≡ Some label → list_any (λ x. x == label) labels ≡ true
numbered_among labels (pos zero) label e = absurd (cc (e))
numbered_among labels (pos (suc k)) label e = label_among labels k label e
numbered_among labels (negsuc k) label e = absurd (cc (e))

-- a jump to the statement with a label, where there is a label, and none where there is none
abbrev pub IsJumpOf : List LineFields → ℕ → Option ℕ → Option Jump → Type 0
IsJumpOf p i None None = Unit {0}
IsJumpOf p i (Some label) (Some jump) = IsJump p i label jump
IsJumpOf p i _ _ = ⊥

jump_there : (p : List LineFields) (i : ℕ) (labels : List ℕ) (jumps : List Jump) → AreJumps p i labels jumps → (k : ℕ)
    → IsJumpOf p i (slice_get labels k) (slice_get jumps k)
jump_there p i [] [] h k = tt
jump_there p i (label ∷ labels) (jump ∷ jumps) h zero = h.0
jump_there p i (label ∷ labels) (jump ∷ jumps) h (suc k) = jump_there p i labels jumps h.1 k
jump_there p i _ _ h k = absurd h

-- the jump for a value is one to the label for it
pub numbered_jump : (p : List LineFields) (i : ℕ) (labels : List ℕ) (jumps : List Jump) → AreJumps p i labels jumps → (z : ℤ)
    → IsJumpOf p i (item_chosen labels z) (item_chosen jumps z)
numbered_jump p i labels jumps h (pos zero) = tt
numbered_jump p i labels jumps h (pos (suc k)) = jump_there p i labels jumps h k
numbered_jump p i labels jumps h (negsuc k) = tt
