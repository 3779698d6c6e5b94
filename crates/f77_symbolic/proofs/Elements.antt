-- Where the elements of arrays lie.
use Rattle.f77_symbolic.proofs.Common.{refl, arith, ◌≡◌, ◌+◌, ◌*◌, ◌<◌, ◌≤◌, ℕ, zero, suc, List, [], ◌∷◌, ap, ◌∙◌, ℤ, pos, negsuc, ◌+ℤ◌, ◌-ℤ◌}
use Rattle.f77_symbolic.proofs.Common.{◌*ℤ◌, ◌≤ℤ◌, ◌<ℤ◌, Result, Ok, ints, Fault, element, given, slot_behind, nat_lt}
use Rattle.f77_symbolic.proofs.Common.{Valuation, Evaluator, Location, Answers, Holds, IsInside, slot_of}
use Rattle.std.proofs.lemmas.Bool.Decides.{nat_tests}
use Rattle.std.proofs.Math.Nat.{mul-le-mul_left}
use Rattle.f77_actions.specs.declared.finish.Fault.TheVariants.{BadSubscript}
use Rattle.f77_symbolic.proofs.Answering.{given_answers, stays_same}
use Rattle.f77_symbolic.proofs.Expecting.{Expected, faults, tested_answers}

-- a subscript is from 1 to the bound
abbrev pub IsSubscript : ℕ → ℤ → Type 0
IsSubscript bound s = (pos 1 ≤ℤ s) × (s ≤ℤ pos bound)

-- the place that the first subscript chooses, and then the others
element_answers : (v : Valuation) (old mid new : Evaluator) (bound : ℕ) (s : ℤ) (bounds : List ℕ) (zs : List ℤ) (C : ℕ → Type 0)
    → Expected v old mid (IsSubscript bound s)
    → ((n : ℕ) → s ≡ pos (suc n) → n < bound → Holds v mid.path → Answers v mid new (given (element bounds zs) (λ rest. Ok (n + bound * rest))) C)
    → Answers v old new (element (bound ∷ bounds) (s ∷ zs)) C
element_answers v old mid new bound (pos zero) bounds zs C expected next =
    faults v old mid (IsSubscript bound (pos 0)) expected (λ (low, high). absurd (omega (arith, ints, low)))
element_answers v old mid new bound (pos (suc n)) bounds zs C expected next =
    tested_answers v old mid new (nat_lt n bound) (given (element bounds zs) (λ rest. Ok (n + bound * rest))) BadSubscript C (IsSubscript bound (pos (suc n)))
    (grind (arith, ints, nat_tests)) expected (λ (low, high). next n refl (omega (arith, ints, high)))
element_answers v old mid new bound (negsuc n) bounds zs C expected next =
    faults v old mid (IsSubscript bound (negsuc n)) expected (λ (low, high). absurd (omega (arith, ints, low)))

module _ (v : Valuation) (old new : Evaluator) (location : Location) (first : ℕ) (i : ℤ) where
  -- the slot of a location that lies so far behind the first one
  abbrev IsThere : ℕ → Type 0
  IsThere size = pos 0 ≤ℤ i → i <ℤ pos size → IsInside v location × (slot_of v location ≡ slot_behind first i)

  located_answers : (size : ℕ) (r : Result ℕ Fault) → IsThere size → Answers v old new r (λ k. (i ≡ pos k) × (k < size))
      → Answers v old new (given r (λ k. Ok (first + k))) (λ k. IsInside v location × (slot_of v location ≡ k))
  located_answers size r located found =
      given_answers v old new new r (λ k. Ok (first + k)) (λ k. (i ≡ pos k) × (k < size)) (λ k. IsInside v location × (slot_of v location ≡ k)) found
      (λ holds k (is, below).
      let there = located (omega (arith, ints, is)) (omega (arith, ints, is, below)) in
      (stays_same v new holds, (there.0, there.1 ∙ ap (slot_behind first) is)))

  pub vector_answers : (bound : ℕ) (s : ℤ) → i ≡ negsuc 0 +ℤ pos 1 *ℤ s → Expected v old new (IsSubscript bound s) → IsThere bound
      → Answers v old new (given (element (bound ∷ []) (s ∷ [])) (λ k. Ok (first + k))) (λ k. IsInside v location × (slot_of v location ≡ k))
  vector_answers bound s is expected located =
      located_answers bound (element (bound ∷ []) (s ∷ [])) located
      (element_answers v old new new bound s [] [] (λ k. (i ≡ pos k) × (k < bound)) expected
      (λ n here below holds. (stays_same v new holds, (omega (arith, ints, is, here), omega (arith, below)))))

  pub matrix_answers : (mid : Evaluator) (rows columns : ℕ) (s w b : ℤ) → b ≡ pos 1 *ℤ s +ℤ pos rows *ℤ w → i ≡ (negsuc 0 -ℤ pos rows) +ℤ pos 1 *ℤ b
      → Expected v old mid (IsSubscript rows s) → (Holds v mid.path → Expected v mid new (IsSubscript columns w)) → IsThere (rows * columns)
      → Answers v old new (given (element (rows ∷ (columns ∷ [])) (s ∷ (w ∷ []))) (λ k. Ok (first + k))) (λ k. IsInside v location × (slot_of v location ≡ k))
  matrix_answers mid rows columns s w b both is row column located =
      located_answers (rows * columns) (element (rows ∷ (columns ∷ [])) (s ∷ (w ∷ []))) located
      (element_answers v old mid new rows s (columns ∷ []) (w ∷ []) (λ k. (i ≡ pos k) × (k < rows * columns)) row
      (λ n here below holds.
      given_answers v mid new new (element (columns ∷ []) (w ∷ [])) (λ m. Ok (n + rows * m)) (λ m. (w ≡ pos (suc m)) × (m < columns)) _
      (element_answers v mid new new columns w [] [] (λ m. (w ≡ pos (suc m)) × (m < columns)) (column holds)
      (λ m there under on. (stays_same v new on, (omega (arith, ints, there), omega (arith, under)))))
      (λ on m (there, under).
      let part : pos rows *ℤ w ≡ pos (rows * suc m) = ap (λ z. pos rows *ℤ z) there in
      let one : rows * suc m ≡ rows + rows * m = omega arith in
      let more : suc m ≤ columns = omega (arith, under) in
      let rest = mul-le-mul_left rows more in
      (stays_same v new on, (omega (arith, ints, both, is, here, part, one), omega (arith, below, rest, one))))))
