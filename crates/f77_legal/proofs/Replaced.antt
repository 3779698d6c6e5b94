-- A program with one statement changed: what stays, and when its frame does.
use Rattle.f77_legal.proofs.Common.{◌≡◌, ◌∙◌, ap, sym, List, refl, ℕ, [], ◌∷◌, length, Some, suc, Option, zero, ◌≢◌, same_Some, HaveOneFrame, framed, frame}
use Rattle.f77_legal.proofs.Common.{framed_line, replaced, LineFields, Statement}
use Rattle.std.specs.List.{slice_get}

pub length-replaced : (p : List LineFields) (i : ℕ) (s : Statement) → length (replaced p i s) ≡ length p
length-replaced [] i s = refl
length-replaced (line ∷ lines) zero s = refl
length-replaced (line ∷ lines) (suc i) s = ap suc (length-replaced lines i s)

pub other_line : (p : List LineFields) (i j : ℕ) (s : Statement) → i ≢ j → slice_get (replaced p i s) j ≡ slice_get p j
other_line [] i j s apart = refl
other_line (line ∷ lines) zero zero s apart = absurd (apart refl)
other_line (line ∷ lines) zero (suc j) s apart = refl
other_line (line ∷ lines) (suc i) zero s apart = refl
other_line (line ∷ lines) (suc i) (suc j) s apart = other_line lines i j s (λ same. apart (ap suc same))

pub changed_line : (p : List LineFields) (i : ℕ) (line : LineFields) (s : Statement) → slice_get p i ≡ Some line
    → slice_get (replaced p i s) i ≡ Some (record (line) { stmt = s })
changed_line [] i line s at = absurd (cc (at))
changed_line (first ∷ lines) zero line s at = ap {B = Option LineFields} (λ (l : LineFields). Some (record (l) { stmt = s })) (same_Some first line at)
changed_line (first ∷ lines) (suc i) line s at = changed_line lines i line s at

-- a statement of the same frame leaves the frame as it was
pub replaced_frame : (p : List LineFields) (i : ℕ) (line : LineFields) (s : Statement) → slice_get p i ≡ Some line → framed s ≡ framed line.stmt
    → HaveOneFrame (replaced p i s) p
replaced_frame [] i line s at same = refl
replaced_frame (first ∷ lines) zero line s at same =
    let kept : framed s ≡ framed first.stmt = same ∙ ap (λ (l : LineFields). framed l.stmt) (sym (same_Some first line at)) in
    λ k. record (first) { stmt = kept k } ∷ frame lines
replaced_frame (first ∷ lines) (suc i) line s at same = ap (λ rest. framed_line first ∷ rest) (replaced_frame lines i line s at same)
