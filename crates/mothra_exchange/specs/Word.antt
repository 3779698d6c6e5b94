-- The numbers of an operator, and the word that packs them.
use Rattle.std.specs.Prelude.{◌≡◌, ℕ, ◌+◌, ◌*◌, ◌^◌, ◌≤◌, Bool, true, false, ◌||◌, max}
use Rattle.mothra_exchange.specs.declared.word.Word.{Word}

-- the largest count of an operator: 2^20 - 1
abbrev pub largest_count : ℕ
largest_count = 1048575

-- how many numbers a field of the packed word can hold
abbrev pub field : ℕ
field = largest_count + 1

abbrev pub bit : Bool → ℕ
bit true = 1
bit false = 0

-- the four numbers in one: `offered` in the second field of 20 bits, `handed` in the third, then
-- a bit for `closed`
abbrev pub pack : Word → ℕ
pack w = w.count + field * w.offered + field ^ 2 * w.handed + field ^ 3 * bit w.closed

-- each number is at most the largest count, so that none runs into the next field
abbrev pub FitsWord : Word → Type 0
FitsWord w = (w.count ≤ largest_count) × (w.offered ≤ largest_count) × (w.handed ≤ largest_count)

-- the numbers that an operator can have in a legal log, where C tickets may wait
pub record InBounds (C : ℕ) (w : Word) : Type 0 where
  pub handed : w.handed ≤ w.offered
  pub offered : w.offered ≤ w.count
  pub waiting : w.offered ≤ w.handed + C
  pub count : w.count ≤ largest_count

-- each number of a is at most that of b, and where a is closed so is b, with as many offered
pub record AtMost (a b : Word) : Type 0 where
  pub count : a.count ≤ b.count
  pub offered : a.offered ≤ b.offered
  pub handed : a.handed ≤ b.handed
  pub close : a.closed ≡ true → (b.closed ≡ true) × (b.offered ≡ a.offered)

-- the greater of each two numbers of two words
abbrev pub greater_word : Word → Word → Word
greater_word a b = record {
  count = max a.count b.count;
  offered = max a.offered b.offered;
  handed = max a.handed b.handed;
  closed = a.closed || b.closed;
}

-- an operator with n tickets, before anything is offered
abbrev pub opening_word : ℕ → Word
opening_word n = record { count = n; offered = 0; handed = 0; closed = false }

abbrev pub word_after_offer : Word → Word
word_after_offer w = record w { offered = w.offered + 1 }

abbrev pub word_after_take : Word → Word
word_after_take w = record w { handed = w.handed + 1 }

abbrev pub word_after_close : Word → Word
word_after_close w = record w { closed = true }
