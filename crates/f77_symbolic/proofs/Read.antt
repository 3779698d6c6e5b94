-- What is read where a walk starts, and behind writes.
use Rattle.f77_symbolic.proofs.Common.{arith, ◌≡◌, inl, inr, ◌<◌, ◌+◌, ◌-◌, ℕ, List, length, take, Option, Some, None, true, false, refl, sym}
use Rattle.f77_symbolic.proofs.Common.{ap, slice_set, ◌∙◌, ℤ, pos, negsuc, ◌≤ℤ◌, ◌<ℤ◌, slice_get, ints, slice_get_within, get_or_from_slice_get, Value}
use Rattle.f77_symbolic.proofs.Common.{held_in, Cells, Fact, Implies, SuitsFact, slot_behind, Holds, IsIn, Valuation, Evaluator, Symbolic, Write, presence_of}
use Rattle.f77_symbolic.proofs.Common.{cells_of, slot_of, content_of, GoesOnIfHeld, ReadsCell, StaysOn, IsKnownAt, AllZip, same_from_all_zip, Term, parts_value, sum_value}
use Rattle.f77_code.proofs.Written.{at_other, at_same}
use Rattle.f77_symbolic.specs.contracts.memory.SymbolicClone.TheImpl as clones
use Rattle.f77_symbolic.specs.declared.memory.Symbolic.TheVariants as symbolic
use Rattle.f77_symbolic.proofs.Answering.{stays_same, stays_then}
use Rattle.f77_symbolic.proofs.Written.{cells_length, cells_next}

module _ (v : Valuation) (old mid : Evaluator) where
  -- whether there is a value is told by a number
  pub goes_on : (presence : ℤ) (cell : Option Value) → presence ≡ presence_of cell → (presence ≡ pos 1 → StaysOn v old mid)
      → (presence ≡ pos 0 → old.own ≡ true) → GoesOnIfHeld v old mid cell
  goes_on presence (Some x) is stays own = stays is
  goes_on presence None is stays own = own is

  -- a value that is there is read
  pub held_read : (new : Evaluator) (value : Symbolic) (cell : Option Value) → GoesOnIfHeld v old mid cell
      → ((x : Value) → cell ≡ Some x → Holds v mid.path → StaysOn v mid new × (content_of v value ≡ Some x)) → ReadsCell v old new cell value
  held_read new value (Some x) stays found =
      let next = found x refl stays.holds in
      inl (stays_then v old mid new stays next.0, sym next.1)
  held_read new value None own found = inr (own, refl)

-- a copy of a term has its value, and one of what a slot holds is the same
same_sum : (v : Valuation) (x y : Term) → y.constant ≡ x.constant → AllZip (λ a b. b ≡ a) x.parts.items y.parts.items → sum_value v y ≡ sum_value v x
same_sum v x y constant zip = let parts = ap (parts_value v) (same_from_all_zip _ x.parts.items y.parts.items zip (λ a b same. same)) in omega (arith, ints, constant, parts)

pub content_copied : (v : Valuation) (a b : Symbolic) → clones.by_variants a b → content_of v b ≡ content_of v a
content_copied v (symbolic.Number x) (symbolic.Number y) is = rw (same_sum v x y is.0 is.1.0) refl
content_copied v (symbolic.Number x) (symbolic.Truth y) is = absurd is
content_copied v (symbolic.Truth x) (symbolic.Number y) is = absurd is
content_copied v (symbolic.Truth x) (symbolic.Truth y) is = rw (same_sum v x y is.0 is.1.0) refl

-- none is lacking
pub goes_on_always : (v : Valuation) (old : Evaluator) (fact : Fact) (cell : Option Value) → Holds v old.path → fact.may_lack ≡ false → SuitsFact fact cell
    → GoesOnIfHeld v old old cell
goes_on_always v old fact (Some x) holds never suits = stays_same v old holds
goes_on_always v old fact None holds never suits = absurd (cc (never, suits))

-- no value is in an empty range
pub never_suits : (fact : Fact) (cell : Option Value) → ((z : ℤ) → ¬ (IsIn fact.range z)) → SuitsFact fact cell → cell ≡ None
never_suits fact (Some x) empty suits = absurd (empty _ suits.1)
never_suits fact None empty suits = refl

-- a slot of which this is known, and of which less is
pub known_at : (facts : List Fact) (slot : ℕ) (fact : Fact) → slice_get facts slot ≡ Some fact → IsKnownAt facts slot fact
known_at facts slot fact is = record { within = slice_get_within facts slot fact is; suits = λ cells inside. inside.each slot fact is }

pub known_wider : (facts : List Fact) (slot : ℕ) (fact wider : Fact) → Implies fact wider → IsKnownAt facts slot fact → IsKnownAt facts slot wider
known_wider facts slot fact wider implies at = record { within = at.within; suits = λ cells inside. implies _ (at.suits cells inside) }

-- slots that lie behind others
pub behind_both : (more first : ℕ) (z : ℤ) → slot_behind (more + first) z ≡ more + slot_behind first z
behind_both more first (pos n) = omega arith
behind_both more first (negsuc n) = refl

pub known_inside : (facts : List Fact) (first count : ℕ) (z : ℤ) (fact : Fact) → ((behind : ℕ) → behind < count → IsKnownAt facts (first + behind) fact)
    → pos 0 ≤ℤ z → z <ℤ pos count → IsKnownAt facts (slot_behind first z) fact
known_inside facts first count (pos n) fact all above below = all n (omega (arith, ints, below))
known_inside facts first count (negsuc n) fact all above below = absurd (omega (arith, ints, above))

module _ (v : Valuation) (cells : Cells) (ws : List Write) (slot i : ℕ) (w : Write) (some : 0 < i) (last : slice_get ws (i - 1) ≡ Some w) where
  -- the last of the first i writes
  last_of : cells_of cells v (take i ws) ≡ slice_set (cells_of cells v (take (i - 1) ws)) (slot_of v w.location) (content_of v w.value)
  last_of =
      let next : i - 1 + 1 ≡ i = omega (arith, some) in
      rw next at (cells_next v cells ws (i - 1) w (slice_get_within ws (i - 1) w last) (sym (get_or_from_slice_get ws (i - 1) w w last)))

  -- a write to another slot is passed over
  pub held_past : (slot_of v w.location ≡ slot → ⊥) → held_in (cells_of cells v (take i ws)) slot ≡ held_in (cells_of cells v (take (i - 1) ws)) slot
  held_past apart =
      ap (λ cs. held_in cs slot) last_of
      ∙ at_other (cells_of cells v (take (i - 1) ws)) (slot_of v w.location) slot (content_of v w.value) (λ e. apart (sym e))

  -- one to the slot itself put its value there
  pub held_there : slot_of v w.location ≡ slot → slot < length cells → held_in (cells_of cells v (take i ws)) slot ≡ content_of v w.value
  held_there here within =
      ap (λ cs. held_in cs slot) last_of
      ∙ rw here (at_same (cells_of cells v (take (i - 1) ws)) slot (content_of v w.value) (omega (arith, within, cells_length v cells (take (i - 1) ws))))
