-- Lines with one of them changed.
use Rattle.f77_program.proofs.Common.{◌≡◌, [], ap, ◌∙◌, List, map, sym, ◌∷◌, refl, subst, ℕ, true, arith, None, length, Option, Some, ◌<◌, option_map, suc}
use Rattle.f77_program.proofs.Common.{true≢false, zero, ◌-◌, length-map, slice_get, line_of, IsProgram, LineFields, group_of, Fits, line_at, patched, replaced}
use Rattle.f77_program.proofs.Common.{Group, Line, Statement, IsFormed}
use Rattle.std.proofs.Math.ListN.{set, get_or}
use Rattle.std.proofs.lemmas.Option.{same_Some, none-some, slice_get_within, slice_get-map}
use denote.Enum.Bare.{sameb}
use Rattle.f77_program.specs.contracts.group.Group.{the_type}
use Rattle.f77_program.specs.declared.group.Group.TheVariants.{Subroutine, Declaration, Data, Executable, End}

-- writing over an item changes its line
pub set_replaced : (lines : List Line) (i : ℕ) (old changed : Line) (s : Statement) → i < length lines
    → line_of changed ≡ record (line_of (get_or lines i old)) { stmt = s } → map line_of (set lines i changed) ≡ replaced (map line_of lines) i s
set_replaced [] i old changed s below is = absurd (omega arith)
set_replaced (line ∷ lines) zero old changed s below is = ap (λ l. l ∷ map line_of lines) is
set_replaced (line ∷ lines) (suc i) old changed s below is = ap (λ ls. line_of line ∷ ls) (set_replaced lines i old changed s (omega arith) is)

-- a program keeps its order where the changed statement is of the same group
pub replaced_program : (before : Option Group) (p : List LineFields) (i : ℕ) (line : LineFields) (s : Statement) → IsProgram before p → slice_get p i ≡ Some line
    → IsFormed s → group_of s ≡ group_of line.stmt → IsProgram before (replaced p i s)
replaced_program before _ i line s IsProgram.finished at formed same = absurd (cc (at))
replaced_program before _ zero line s (IsProgram.next {line = first} {lines = lines} may rest) at formed same =
    let group : group_of s ≡ group_of first.stmt = same ∙ ap (λ l. group_of l.stmt) (sym (same_Some first line at)) in
    IsProgram.next (rw group may.0, formed) (subst (λ g. IsProgram (Some g) lines) (sym group) rest)
replaced_program before _ (suc i) line s (IsProgram.next {line = first} {lines = lines} may rest) at formed same =
    IsProgram.next may (replaced_program (Some (group_of first.stmt)) lines i line s rest at formed same)

module _ (p : List Line) (number : ℕ) (s : Statement) (fits : Fits (map line_of p) number s) where
  within : (items : List Line) → map line_of items ≡ map line_of p → number - 1 < length items
  within items same =
      subst (λ n. number - 1 < n) (sym (ap length same) ∙ length-map items line_of)
      (slice_get_within (map line_of p) (number - 1) fits.line fits.at)

  pub changed_lines : (items : List Line) (old changed : Line) → map line_of items ≡ map line_of p → old ≡ get_or items (number - 1) old
      → line_of changed ≡ record (line_of old) { stmt = s } → map line_of (set items (number - 1) changed) ≡ patched (map line_of p) number s
  changed_lines items old changed same at made =
      set_replaced items (number - 1) old changed s (within items same) (made ∙ ap (λ l. record (line_of l) { stmt = s }) at)
      ∙ ap (λ ls. replaced ls (number - 1) s) same

  pub changed_program : IsProgram None (map line_of p) → IsProgram None (patched (map line_of p) number s)
  changed_program program = replaced_program None (map line_of p) (number - 1) fits.line s program fits.at fits.formed fits.group

module _ (p : List Line) (s : Statement) where
  of_line : (k : ℕ) (line : Line) → slice_get p k ≡ Some line → slice_get (map line_of p) (suc k - 1) ≡ Some (line_of line)
  of_line k line at =
      let before : suc k - 1 ≡ k = omega arith in
      ap (slice_get (map line_of p)) before ∙ slice_get-map line_of p k ∙ ap (option_map line_of) at

  pub fits_there : (number : ℕ) (line : Line) → line_at p number ≡ Some line → IsFormed s → group_of s ≡ group_of (line_of line).stmt → Fits (map line_of p) number s
  fits_there zero line at formed same = absurd (none-some line at)
  fits_there (suc k) line at formed same = record {
    line = line_of line;
    counted = omega arith;
    at = of_line k line at;
    formed = formed;
    group = same;
  }

  pub same_group : (number : ℕ) (line : Line) → line_at p number ≡ Some line → Fits (map line_of p) number s → group_of s ≡ group_of (line_of line).stmt
  same_group zero line at fits = absurd (none-some line at)
  same_group (suc k) line at fits = fits.group ∙ ap (λ l. group_of l.stmt) (same_Some fits.line (line_of line) (sym fits.at ∙ of_line k line at))

  pub fits_nowhere : (number : ℕ) → line_at p number ≡ None → ¬ (Fits (map line_of p) number s)
  fits_nowhere zero none fits = absurd (let counted = fits.counted in omega arith)
  fits_nowhere (suc k) none fits =
      let before : suc k - 1 ≡ k = omega arith in
      none-some fits.line (sym (ap (option_map line_of) none) ∙ sym (slice_get-map line_of p k) ∙ sym (ap (slice_get (map line_of p)) before) ∙ fits.at)

-- two groups that the code finds equal are equal
pub one_group : (a b : Group) → sameb the_type a b ≡ true → a ≡ b
one_group Subroutine Subroutine e = refl
one_group Declaration Declaration e = refl
one_group Data Data e = refl
one_group Executable Executable e = refl
one_group End End e = refl
one_group _ _ e = absurd (true≢false (sym e))

pub own_group : (a : Group) → sameb the_type a a ≡ true
own_group Subroutine = refl
own_group Declaration = refl
own_group Data = refl
own_group Executable = refl
own_group End = refl
