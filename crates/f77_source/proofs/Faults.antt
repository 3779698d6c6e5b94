-- What a line with no fault of its own is like.
use Rattle.f77_source.proofs.Common.{◌≡◌, ℕ, List, refl, arith, false, true, None, Some, Bool, ◌==◌, not, cond, ◌||◌, ◌&&◌, list_all, kind, own_fault}
use Rattle.f77_source.proofs.Common.{is_label_character, is_blank, field_number, fits_label_field, is_comment, label_field, column, has_foreign, has_tab}
use Rattle.f77_source.proofs.Common.{is_label_field, is_well_formed, FormFault, BadLabel, NotAscii, Tab, Continuation, Initial, Comment}

pub record Sound (line : List ℕ) : Type 0 where
  pub printable : has_foreign line ≡ false
  pub no_tab : has_tab line ≡ false
  pub fits : fits_label_field (kind line) line ≡ true

sound_by : (a b c d : Bool) (x y z : FormFault) → cond a None (cond b (Some x) (cond c (Some y) (cond d None (Some z)))) ≡ None → a ≡ false
    → (b ≡ false) × (c ≡ false) × (d ≡ true)
sound_by a true c d x y z e f = absurd (let g : cond a None (Some x) ≡ None = e in grind arith)
sound_by a false true d x y z e f = absurd (grind arith)
sound_by a false false false x y z e f = absurd (grind arith)
sound_by a false false true x y z e f = (refl, refl, refl)

pub no_comment : (line : List ℕ) → (kind line ≡ Comment → ⊥) → is_comment line ≡ false
unfolding kind
no_comment line h = by_test (is_comment line) refl
  where
    by_test : (b : Bool) → is_comment line ≡ b → is_comment line ≡ false
    by_test true is = absurd (h (rw is))
    by_test false is = is

pub a_comment : (line : List ℕ) → kind line ≡ Comment → is_comment line ≡ true
unfolding kind
a_comment line h = by_test (is_comment line) refl
  where
    by_test : (b : Bool) → is_comment line ≡ b → is_comment line ≡ true
    by_test true is = is
    by_test false is = absurd (by_mark (is_blank (column line 6) || (column line 6 == 48)) (rw is at h))
      where
        by_mark : (m : Bool) → cond m Initial Continuation ≡ Comment → ⊥
        by_mark true e = cc
        by_mark false e = cc

-- a line that is no comment and has no fault of its own
pub sound : (n : ℕ) (line : List ℕ) → own_fault n line ≡ None → (kind line ≡ Comment → ⊥) → Sound line
unfolding own_fault
sound n line e h =
    let t = sound_by _ _ _ _ _ _ _ e (no_comment line h) in
    record { printable = t.0; no_tab = t.1; fits = t.2 }

-- a line without a fault of its own is well formed
pub well_formed : (n : ℕ) (line : List ℕ) → own_fault n line ≡ None → is_well_formed line ≡ true
unfolding own_fault is_well_formed
well_formed n line e = by_test (is_comment line) (has_foreign line) (has_tab line) (fits_label_field (kind line) line) e
  where
    by_test : (a b c d : Bool) → cond a None (cond b (Some (NotAscii n)) (cond c (Some (Tab n)) (cond d None (Some (BadLabel n))))) ≡ None
        → (a || not b && not c && d) ≡ true
    by_test true b c d e = refl
    by_test false true c d e = cc
    by_test false false true d e = cc
    by_test false false false true e = refl
    by_test false false false false e = cc

pub no_own_fault : (n : ℕ) (line : List ℕ) → is_well_formed line ≡ true → own_fault n line ≡ None
unfolding own_fault is_well_formed
no_own_fault n line e = by_test (is_comment line) (has_foreign line) (has_tab line) (fits_label_field (kind line) line) e
  where
    by_test : (a b c d : Bool) → (a || not b && not c && d) ≡ true
        → cond a None (cond b (Some (NotAscii n)) (cond c (Some (Tab n)) (cond d None (Some (BadLabel n))))) ≡ None
    by_test true b c d e = refl
    by_test false true c d e = cc
    by_test false false true d e = cc
    by_test false false false true e = refl
    by_test false false false false e = cc

-- what a label's columns hold
pub label_characters : (line : List ℕ) → is_label_field line ≡ true → list_all is_label_character (label_field line) ≡ true
unfolding is_label_field
label_characters line e = by_test (list_all is_label_character (label_field line)) (list_all is_blank (label_field line) || not (field_number line == 0)) e
  where
    by_test : (a b : Bool) → (a && b) ≡ true → a ≡ true
    by_test true b e = refl
    by_test false b e = e

pub comment_has_no_fault : (n : ℕ) (line : List ℕ) → kind line ≡ Comment → own_fault n line ≡ None
unfolding own_fault
comment_has_no_fault n line is = rw (a_comment line is)
