-- The parts of a written card.
use Rattle.f77_source.proofs.Common.{◌≡◌, ℕ, List, ap, ◌∙◌, refl, length, arith, false, true, ◌+◌, [], ◌++◌, None, Some, ◌<◌, ◌∷◌, Bool, get_or, take, ◌≤◌}
use Rattle.f77_source.proofs.Common.{Option, not, cond, drop, append-nil, suc, ◌-◌, zero, ◌*◌, add-one, length-drop, nat_lt, replicate, min, nat_tests}
use Rattle.f77_source.proofs.Common.{take_min, decimal, styled_decimal, format_spec, list_all, flat_map, range_with_len, repeat, slice_range, CardFields}
use Rattle.f77_source.proofs.Common.{continuation_line, card_faults, is_bad_label, is_printable, continuation_count, piece, card_fault, FormFault}
use Rattle.f77_source.proofs.Common.{TooManyContinuations, BadLabel, NotAscii}
use Rattle.std.specs.Fmt.{padded_integral, char_count}
use Rattle.std.proofs.lemmas.Grind.{flat_map-append}
use lib.Utf8.{encode}

repeat_one : (n c : ℕ) → repeat n (c ∷ []) ≡ replicate n c
repeat_one zero c = refl
repeat_one (suc n) c = ap (λ cs. c ∷ cs) (repeat_one n c)

-- what `{:>5}` writes
pub styled_label : (n : ℕ) → styled_decimal (format_spec 32 3 0 5 18446744073709551615) n ≡ replicate (5 - length (decimal n)) 32 ++ decimal n
unfolding padded_integral char_count encode
styled_label n = by_padding (5 - length (decimal n) - 0 - 0) (omega arith)
  where
    by_padding : (k : ℕ) → k ≡ 5 - length (decimal n)
        → ((repeat k (32 ∷ []) ++ []) ++ []) ++ [] ++ (decimal n ++ repeat (k - k) (32 ∷ [])) ≡ replicate (5 - length (decimal n)) 32 ++ decimal n
    by_padding k is =
        let none : k - k ≡ 0 = omega arith in
        rw (none, append-nil, append-nil, append-nil, append-nil, repeat_one, is) refl

-- a range of a text, as a piece
range_is : (text : List ℕ) (start end : ℕ) → start ≤ length text → end ≡ min (length text) (start + 66)
    → slice_range text start end ≡ take 66 (drop start text)
range_is text start end within is =
    let e : end - start ≡ min 66 (length (drop start text)) = omega (arith, is, length-drop start text) in
    rw e (take_min 66 (drop start text))

pub piece_is : (text : List ℕ) (index end : ℕ) → 66 * index ≤ length text → end ≡ min (length text) (66 * index + 66)
    → slice_range text (66 * index) end ≡ piece text index
piece_is text index end within is = range_is text (66 * index) end within is

range_push : (a n : ℕ) → range_with_len a (suc n) ≡ range_with_len a n ++ (a + n) ∷ []
range_push a zero = let e : a ≡ a + 0 = omega arith in ap (λ (k : ℕ). k ∷ []) e
range_push a (suc n) =
    let e : a + 1 + n ≡ a + suc n = omega arith in
    ap (λ ks. a ∷ ks) (range_push (a + 1) n ∙ ap (λ k. range_with_len (a + 1) n ++ k ∷ []) e)

-- one more continuation line
pub lines_more : (text : List ℕ) (n : ℕ) → flat_map (continuation_line text) (range_with_len 1 (n + 1)) ≡ flat_map (continuation_line text) (range_with_len 1 n) ++ continuation_line text (n + 1)
lines_more text n =
    let e : 1 + n ≡ n + 1 = omega arith in
    ap (flat_map (continuation_line text)) (rw add-one refl ∙ range_push 1 n)
    ∙ flat_map-append (continuation_line text) (range_with_len 1 n) ((1 + n) ∷ [])
    ∙ ap (λ line. flat_map (continuation_line text) (range_with_len 1 n) ++ line) (append-nil (continuation_line text (1 + n)) ∙ ap (continuation_line text) e)

-- a card that can be written
pub record Writable (card : CardFields) : Type 0 where
  pub printable : list_all is_printable card.text ≡ true
  pub label : is_bad_label card.label ≡ false
  pub short : continuation_count card.text ≤ 19

pub writable : (card : CardFields) → card_fault card ≡ None → Writable card
unfolding card_fault
writable card e =
    let h = by_test (list_all is_printable card.text) (is_bad_label card.label) (nat_lt 19 (continuation_count card.text)) e in
    record { printable = h.0; label = h.1; short = grind (arith, nat_tests, h.2) }
  where
    by_test : (a b c : Bool) → cond (not a) (Some (NotAscii card.line)) (cond b (Some (BadLabel card.line)) (cond c (Some (TooManyContinuations card.line)) None)) ≡ None
        → (a ≡ true) × (b ≡ false) × (c ≡ false)
    by_test false b c e = absurd cc
    by_test true true c e = absurd cc
    by_test true false true e = absurd cc
    by_test true false false e = (refl, refl, refl)

-- where no card has a fault, this one has none
pub no_fault_at : (cards : List CardFields) (i : ℕ) (card : CardFields) → card_faults cards ≡ [] → i < length cards → card ≡ get_or cards i card → card_fault card ≡ None
no_fault_at cards i card none h is = rw is (by_place cards i card none h)
  where
    at_head : (card : CardFields) (cards : List CardFields) (o : Option FormFault) → card_fault card ≡ o → card_faults (card ∷ cards) ≡ []
        → (card_fault card ≡ None) × (card_faults cards ≡ [])
    at_head card cards None is none = (is, let h = none in rw is at h)
    at_head card cards (Some fault) is none = absurd (let h = rw is at none in cc)

    by_place : (cards : List CardFields) (i : ℕ) (d : CardFields) → card_faults cards ≡ [] → i < length cards → card_fault (get_or cards i d) ≡ None
    by_place [] i d none h = absurd (omega arith)
    by_place (card ∷ cards) zero d none h = (at_head card cards (card_fault card) refl none).0
    by_place (card ∷ cards) (suc i) d none h = by_place cards i d (at_head card cards (card_fault card) refl none).1 (omega arith)
