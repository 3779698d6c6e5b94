-- At each state the walk may start: it has numbers that fit atoms.
use Rattle.f77_symbolic.proofs.Common.{arith, ◌≡◌, ◌≤◌, ◌<◌, ◌+◌, ◌*◌, ◌-◌, ◌∙◌, cond, ltb, ℕ, Option, length, refl, ap, ℤ, pos, lt-ltb, le-ltb, option_map_or}
use Rattle.f77_symbolic.proofs.Common.{held_in, Turn, State, turn_at, AreIn, number_of, FitsTable, Valuation, Atoms, Interprets, presence_of, Start}
use Rattle.f77_symbolic.proofs.Common.{AreTurnNumbers}

-- so many numbers, and others behind them
joined_at : ℕ → (ℕ → ℤ) → (ℕ → ℤ) → ℕ → ℤ
joined_at k f g n = cond (ltb n k) (f n) (g (n - k))

joined_below : (k n : ℕ) (f g : ℕ → ℤ) → n < k → joined_at k f g n ≡ f n
unfolding joined_at
joined_below k n f g below = ap (λ b. cond b (f n) (g (n - k))) (lt-ltb n k below)

joined_behind : (k n m : ℕ) (f g : ℕ → ℤ) → n ≡ k + m → joined_at k f g n ≡ g m
unfolding joined_at
joined_behind k n m f g is =
    let above : k ≤ n = omega (arith, is) in
    let rest : n - k ≡ m = omega (arith, is) in
    ap (λ b. cond b (f n) (g (n - k))) (le-ltb n k above) ∙ ap g rest

-- a number of what a DO has left, if it is active
abbrev left_number : (Turn → ℤ) → Option Turn → ℤ
left_number f turn = option_map_or f turn (pos 0)

-- the numbers of a state: of slots, whether they hold one, of passes and of steps
module _ (s : State) (count : ℕ) where
  abbrev turns_from : ℕ → ℤ
  turns_from = joined_at count (λ d. left_number (λ turn. pos turn.passes) (turn_at s.turns d)) (λ d. left_number (λ turn. turn.step) (turn_at s.turns d))

  abbrev presence_from : ℕ → ℤ
  presence_from = joined_at (length s.cells) (λ slot. presence_of (held_in s.cells slot)) turns_from

  pub numbers_of : ℕ → ℤ
  numbers_of = joined_at (length s.cells) (λ slot. number_of (held_in s.cells slot)) presence_from

  abbrev pub start_of : Start
  start_of = record { cells = s.cells; numbers = numbers_of }

  behind : (n m : ℕ) → n ≡ length s.cells + m → numbers_of n ≡ presence_from m
  unfolding numbers_of
  behind n m is = joined_behind (length s.cells) n m _ _ is

  pub turn_numbers : AreTurnNumbers (length s.cells) count s.turns start_of
  turn_numbers = record {
    passes = λ d turn below is.
        behind (2 * length s.cells + d) (length s.cells + d) (omega arith) ∙ joined_behind (length s.cells) (length s.cells + d) d _ _ refl
        ∙ joined_below count d _ _ below ∙ ap (left_number (λ turn. pos turn.passes)) is;
    steps = λ d turn below is.
        behind (2 * length s.cells + count + d) (length s.cells + (count + d)) (omega arith)
        ∙ joined_behind (length s.cells) (length s.cells + (count + d)) (count + d) _ _ refl
        ∙ joined_behind count (count + d) d _ _ refl ∙ ap (left_number (λ turn. turn.step)) is;
  }

-- atoms are interpreted there, where what is known of slots is so
pub interprets_there : (s : State) (count : ℕ) (atoms : Atoms) (v : Valuation) → AreIn atoms.facts.items s.cells
    → FitsTable (numbers_of s count) v atoms.table → Interprets atoms (start_of s count) v
unfolding numbers_of
interprets_there s count atoms v inside fits = record {
  known = inside;
  are = record {
    held = λ slot below. joined_below (length s.cells) slot _ _ below;
    present = λ slot below.
        joined_behind (length s.cells) (length s.cells + slot) slot _ _ refl ∙ joined_below (length s.cells) slot _ _ below;
  };
  fits = fits;
}
