-- Whether a statement makes a mutant.
use Rattle.mothra_ops.proofs.Common.{◌≡◌, ◌∙◌, ap, sym, List, map, arith, refl, Some, ℕ, ◌≤◌, None, ◌-◌, suc, slice_get, zero, option_map, ◌≢◌, same_Some}
use Rattle.mothra_ops.proofs.Common.{none-some, slice_get-map, IsLegal, Fits, patched, line_of, LineFields, line_at, Line, statement_of, Statement, numbered}
use Rattle.mothra_ops.proofs.Common.{IsMutant, HasStatement}
use Rattle.f77_legal.specs.Labels.{nth_statement}

-- the statement of this number
pub line_numbered : (lines : List Line) (number : ℕ) → numbered (map line_of lines) number ≡ option_map line_of (line_at lines number)
line_numbered lines zero = refl
line_numbered lines (suc k) = slice_get-map line_of lines k

pub line_stands : (lines : List Line) (number : ℕ) (line : Line) → line_at lines number ≡ Some line → HasStatement (map line_of lines) number (statement_of line.stmt)
line_stands lines number line at = ap (option_map (λ (l : LineFields). l.stmt)) (line_numbered lines number ∙ ap (option_map line_of) at)

-- the item of a number, by its place
pub counted_at : {X : Type 0} (p : List X) (number : ℕ) → 1 ≤ number → slice_get p (number - 1) ≡ numbered p number
counted_at p zero some = absurd (omega (arith, some))
counted_at p (suc k) some = let e : suc k - 1 ≡ k = omega arith in ap (slice_get p) e

pub no_line : (lines : List Line) (number : ℕ) (s : Statement) → line_at lines number ≡ None → ¬ (IsMutant (map line_of lines) number s)
no_line lines number s none m =
    none-some m.fits.line (ap (option_map line_of) (sym none) ∙ sym (line_numbered lines number) ∙ sym (counted_at (map line_of lines) number m.fits.counted) ∙ m.fits.at)

-- the statement of the number, as the line has it
nth_there : (p : List LineFields) (number : ℕ) (s : Statement) → HasStatement p number s → 1 ≤ number → nth_statement p (number - 1) ≡ Some s
nth_there p number s has some = ap (option_map (λ (l : LineFields). l.stmt)) (counted_at p number some) ∙ has

pub the_same : (p : List LineFields) (number : ℕ) (old s : Statement) → HasStatement p number old → s ≡ old → ¬ (IsMutant p number s)
the_same p number old s has same m = m.differs (nth_there p number old has m.fits.counted ∙ ap Some (sym same))

pub is_mutant : (p : List LineFields) (number : ℕ) (old s : Statement) → HasStatement p number old → s ≢ old
    → Fits p number s → IsLegal (patched p number s) → IsMutant p number s
is_mutant p number old s has other fits legal = record {
  fits = fits;
  legal = legal;
  differs = λ e. other (same_Some s old (sym e ∙ nth_there p number old has fits.counted));
}
