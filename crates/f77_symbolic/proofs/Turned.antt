-- What active DOs have left, by terms.
use Rattle.f77_symbolic.proofs.Common.{arith, ◌≡◌, ◌-◌, ◌+◌, ℕ, zero, suc, true, false, List, Option}
use Rattle.f77_symbolic.proofs.Common.{Some, None, refl, sym, ap, ◌∙◌, ℤ, pos, negsuc, int_div, ◌+ℤ◌, ◌-ℤ◌, ◌*ℤ◌, option_map, slice_set}
use Rattle.f77_symbolic.proofs.Common.{ints, map-set, is_below, trip_count, Resolved, Execute, Cells}
use Rattle.f77_symbolic.proofs.Common.{TurnList, Goes, go_on, passing, state, Turn, Valuation, SymbolicTurn, passes_left, turn_of, turns_of}
use Rattle.std.proofs.lemmas.Bool.Decides.{not_from_Decides}
use Rattle.f77_symbolic.proofs.Numbers.{below_decides}

module _ (v : Valuation) where
  abbrev pub left : Option SymbolicTurn → Option Turn
  left turn = option_map (turn_of v) turn

  pub turns_set : (turns : List (Option SymbolicTurn)) (d : ℕ) (turn : Option SymbolicTurn)
      → turns_of v (slice_set turns d turn) ≡ slice_set (turns_of v turns) d (left turn)
  turns_set turns d turn = map-set left turns d turn

-- no pass is left where one less than that many is below 0, and else the DO goes on
module _ (end : Resolved) (d : ℕ) (step : ℤ) (cells : Cells) (turns : TurnList) where
  pub passing_none : (z : ℤ) → is_below (negsuc 0 +ℤ pos 1 *ℤ z) (pos 0) ≡ true
      → passing end d (passes_left z) step cells turns ≡ go_on end cells (slice_set turns d None)
  passing_none (pos zero) e = refl
  passing_none (pos (suc n)) e = let h = (below_decides (negsuc 0 +ℤ pos 1 *ℤ pos (suc n)) (pos 0)).0 e in absurd (omega (arith, ints, h))
  passing_none (negsuc n) e = refl

  pub passing_some : (z : ℤ) → is_below (negsuc 0 +ℤ pos 1 *ℤ z) (pos 0) ≡ false → passing end d (passes_left z) step cells turns
      ≡ Goes (state (Execute (d + 1)) cells (slice_set turns d (Some (record { passes = passes_left z; step = step }))))
  passing_some (pos zero) e = absurd (cc (e))
  passing_some (pos (suc n)) e = refl
  passing_some (negsuc n) e = absurd (not_from_Decides _ (below_decides (negsuc 0 +ℤ pos 1 *ℤ negsuc n) (pos 0)) e (omega (arith, ints)))

trips_of : (x y z q : ℤ) → int_div (y -ℤ x +ℤ z) z ≡ q → trip_count x y z ≡ passes_left q
trips_of x y z (pos n) e = rw e refl
trips_of x y z (negsuc n) e = rw e refl

-- so many passes a DO has
pub trips_left : (a b c distance dividend quotient : ℤ) → distance ≡ pos 1 *ℤ b +ℤ negsuc 0 *ℤ a → dividend ≡ pos 1 *ℤ distance +ℤ pos 1 *ℤ c
    → quotient ≡ int_div dividend c → trip_count a b c ≡ passes_left quotient
trips_left a b c distance dividend quotient first second is =
    let same : b -ℤ a +ℤ c ≡ dividend = omega (arith, ints, first, second) in
    trips_of a b c quotient (ap (λ z. int_div z c) same ∙ sym is)

-- one pass less
pub one_less : (z w : ℤ) → w ≡ negsuc 0 +ℤ pos 1 *ℤ z → passes_left w ≡ passes_left z - 1
one_less (pos zero) w e = rw e refl
one_less (pos (suc n)) w e = let it : w ≡ pos n = omega (arith, ints, e) in rw it (omega arith)
one_less (negsuc n) w e = let it : w ≡ negsuc (suc n) = omega (arith, ints, e) in rw it (omega arith)
