-- The lines of a source, one after another.
use Rattle.f77_source.proofs.Common.{◌≡◌, ℕ, List, ap, ◌∙◌, refl, length, arith, false, true, ◌+◌, [], sym, ◌<◌, ◌∷◌, Bool, get_or, take, ◌≤◌, drop, map}
use Rattle.f77_source.proofs.Common.{take_all, add-one, ◌≢◌, nat_tests, All-from_get_or, All, slice_split, after_first, before_first, onto_first}
use Rattle.f77_source.proofs.Common.{position_or_len, lines, is_line_end, terminated}
use Rattle.std.specs.Str.Lines.{strip_carriage_return}
use Rattle.std.proofs.lemmas.List.Splits.{slice_split_first, slice_split_none, slice_split-cons_yes, slice_split-cons_no}
use Rattle.std.proofs.lemmas.List.Sums.{fails_before_first, position_or_len_is}

-- a part with parts behind it is a line
pub terminated_more : (part : List ℕ) (parts : List (List ℕ)) → parts ≢ [] → terminated (part ∷ parts) ≡ part ∷ terminated parts
terminated_more part [] some = absurd (some refl)
terminated_more [] (next ∷ parts) some = refl
terminated_more (c ∷ part) (next ∷ parts) some = refl

onto_first_some : (c : ℕ) (parts : List (List ℕ)) → onto_first c parts ≢ []
onto_first_some c [] e = cc
onto_first_some c (part ∷ parts) e = cc

pub parts_some : (source : List ℕ) → slice_split is_line_end source ≢ []
parts_some [] = λ e. cc
parts_some (c ∷ source) = by_test (is_line_end c) refl
  where
    by_test : (b : Bool) → is_line_end c ≡ b → slice_split is_line_end (c ∷ source) ≢ []
    by_test true is e = let s = slice_split-cons_yes is_line_end c source is in cc
    by_test false is e = onto_first_some c (slice_split is_line_end source) (sym (slice_split-cons_no is_line_end c source is) ∙ e)

-- a source with an end of a line
pub first_line : (source : List ℕ) → position_or_len is_line_end source < length source
    → lines source ≡ strip_carriage_return (before_first is_line_end source) ∷ lines (after_first is_line_end source)
unfolding lines
first_line source h =
    ap (λ parts. map strip_carriage_return (terminated parts)) (slice_split_first is_line_end source 0 h)
    ∙ ap (map strip_carriage_return) (terminated_more (before_first is_line_end source) (slice_split is_line_end (after_first is_line_end source)) (parts_some (after_first is_line_end source)))

-- a source with none
pub last_line : (source : List ℕ) → source ≢ [] → position_or_len is_line_end source ≡ length source
    → lines source ≡ strip_carriage_return source ∷ []
unfolding lines
last_line [] some h = absurd (some refl)
last_line (c ∷ source) some h =
    let no_end : All (λ x. is_line_end x ≡ false) (c ∷ source) =
    All-from_get_or (λ x. is_line_end x ≡ false) (c ∷ source) 0 (λ k l. fails_before_first is_line_end (c ∷ source) k 0 (omega (arith, h, l))) in
    ap (λ parts. map strip_carriage_return (terminated parts)) (slice_split_none is_line_end (c ∷ source) no_end)

pub no_lines_left : lines [] ≡ []
unfolding lines
no_lines_left = refl

-- the place of the first end of a line
pub found_at : (source : List ℕ) (i : ℕ) → ((k : ℕ) → k < i → get_or source k 0 ≢ 10) → i < length source → get_or source i 0 ≡ 10
    → i ≡ position_or_len is_line_end source
found_at source i before h is =
    sym (position_or_len_is is_line_end source i 0 (omega arith) (λ k l. other k (before k l)) (λ _. rw is refl))
  where
    other : (k : ℕ) → get_or source k 0 ≢ 10 → is_line_end (get_or source k 0) ≡ false
    other k ne = grind (arith, nat_tests)

pub found_none : (source : List ℕ) (i : ℕ) → ((k : ℕ) → k < i → get_or source k 0 ≢ 10) → length source ≤ i
    → length source ≡ position_or_len is_line_end source
found_none source i before h =
    sym (position_or_len_is is_line_end source (length source) 0 (omega arith) (λ k l. other k (before k (omega arith))) (λ l. absurd (omega arith)))
  where
    other : (k : ℕ) → get_or source k 0 ≢ 10 → is_line_end (get_or source k 0) ≡ false
    other k ne = grind (arith, nat_tests)

-- what `next_line` gives, with the place of the end
pub ended_line : (source line : List ℕ) (end : ℕ) → end ≡ position_or_len is_line_end source → 0 < length source → end ≡ length source
    → line ≡ strip_carriage_return (take end source) → lines source ≡ line ∷ lines []
ended_line source line end at some full is =
    last_line source (λ e. absurd (let z : length source ≡ 0 = rw e refl in omega arith)) (sym at ∙ full)
    ∙ rw (is, full, take_all (length source) source (omega arith), no_lines_left) refl

pub started_line : (source line behind : List ℕ) (end : ℕ) → end ≡ position_or_len is_line_end source → end < length source
    → line ≡ strip_carriage_return (take end source) → behind ≡ drop (end + 1) source → lines source ≡ line ∷ lines behind
started_line source line behind end at some is rest =
    first_line source (omega arith)
    ∙ (let b : before_first is_line_end source ≡ take end source = rw at refl in
    let a : after_first is_line_end source ≡ drop (end + 1) source = rw (at, add-one) refl in
    rw (is, rest, b, a) refl)
