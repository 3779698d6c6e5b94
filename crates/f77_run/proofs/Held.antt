-- Arguments that stand in the slots of their dummy arguments are the values of these.
use Rattle.f77_run.proofs.Common.{◌≡◌, length, sym, ◌∙◌, ap, subst, List, arith, refl, ℕ, Some, true, [], map, ◌∷◌, None, Bool, Option, false, true≢false}
use Rattle.f77_run.proofs.Common.{eqb-true, and_parts, length-map, Decides, zip, Shape, Cells, AreFitting, values_in, has_shape, size_of, span, Arg, AreHeld}
use Rattle.f77_run.proofs.Common.{IsHeld, Kind}
use Rattle.f77_meaning.specs.declared.argument.Arg.TheVariants.{Int, Truth, Ints, Truths}

-- a test that decides one statement decides another that holds exactly where the first does
pub decided_of : {P Q : Type 0} (r : Bool) → Decides r P → (P → Q) → (Q → P) → Decides r Q
decided_of r decides to from = (λ e. to (decides.0 e), λ q. decides.1 (from q))

pub decided_not : {P : Type 0} → (P → ⊥) → Decides false P
decided_not none = (λ e. absurd (true≢false (sym e)), λ p. absurd (none p))

-- one argument more
module _ (cells : Cells) (pairs rest : List (ℕ × Arg)) (first : ℕ) (argument : Arg) (step : pairs ≡ (first, argument) ∷ rest) where
  pub all_held : IsHeld cells first argument → AreHeld cells rest → AreHeld cells pairs
  all_held is later = subst (AreHeld cells) (sym step) (is, later)

-- an argument that fits has as many elements as its dummy argument
sized : (kind : Kind) (elements : Option ℕ) (a : Arg) → has_shape (record { kind = kind; elements = elements }) a ≡ true
    → length (values_in a) ≡ size_of (record { kind = kind; elements = elements })
sized kind None (Int z) fits = refl
sized kind None (Truth b) fits = refl
sized kind None (Ints zs) fits = absurd (true≢false (sym (and_parts _ _ fits).1))
sized kind None (Truths bs) fits = absurd (true≢false (sym (and_parts _ _ fits).1))
sized kind (Some n) (Int z) fits = absurd (true≢false (sym (and_parts _ _ fits).1))
sized kind (Some n) (Truth b) fits = absurd (true≢false (sym (and_parts _ _ fits).1))
sized kind (Some n) (Ints zs) fits = length-map zs _ ∙ sym (eqb-true n (length zs) (and_parts _ _ fits).1)
sized kind (Some n) (Truths bs) fits = length-map bs _ ∙ sym (eqb-true n (length bs) (and_parts _ _ fits).1)

same_size : (cells : Cells) (shape : Shape) (first : ℕ) (a : Arg) → has_shape shape a ≡ true → span first (length (values_in a)) cells ≡ span first (size_of shape) cells
same_size cells shape first a fits = ap (λ n. span first n cells) (sized shape.kind shape.elements a fits)

module _ (cells : Cells) where
  pub held_values : (list : List Shape) (dummies : List ℕ) (arguments : List Arg) → length dummies ≡ length list → AreFitting list arguments
      → AreHeld cells (zip dummies arguments)
      → map (λ argument. map (λ v. Some v) (values_in argument)) arguments ≡ map (λ pair. span pair.1 (size_of pair.0) cells) (zip list dummies)
  held_values [] [] [] long fits held = refl
  held_values [] [] (a ∷ arguments) long fits held = absurd fits
  held_values [] (first ∷ dummies) arguments long fits held = absurd (omega (arith, long))
  held_values (shape ∷ list) [] arguments long fits held = absurd (omega (arith, long))
  held_values (shape ∷ list) (first ∷ dummies) [] long fits held = absurd fits
  held_values (shape ∷ list) (first ∷ dummies) (a ∷ arguments) long fits held =
      let here = held.0 ∙ same_size cells shape first a fits.0 in
      let later = held_values list dummies arguments (omega (arith, long)) fits.1 held.1 in
      λ i. here i ∷ later i

  pub values_held : (list : List Shape) (dummies : List ℕ) (arguments : List Arg) → length dummies ≡ length list → AreFitting list arguments
      → map (λ argument. map (λ v. Some v) (values_in argument)) arguments ≡ map (λ pair. span pair.1 (size_of pair.0) cells) (zip list dummies)
      → AreHeld cells (zip dummies arguments)
  values_held [] [] arguments long fits values = tt
  values_held [] (first ∷ dummies) arguments long fits values = absurd (omega (arith, long))
  values_held (shape ∷ list) [] arguments long fits values = tt
  values_held (shape ∷ list) (first ∷ dummies) [] long fits values = absurd fits
  values_held (shape ∷ list) (first ∷ dummies) (a ∷ arguments) long fits values =
      (cc (values) ∙ sym (same_size cells shape first a fits.0), values_held list dummies arguments (omega (arith, long)) fits.1 (cc (values)))
