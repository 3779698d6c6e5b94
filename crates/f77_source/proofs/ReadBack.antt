-- Written cards are read again.
use Rattle.f77_source.proofs.Common.{◌≡◌, ℕ, List, ap, ◌∙◌, refl, length, arith, false, true, ◌+◌, [], ◌++◌, None, Some, sym, ◌∷◌, Bool, get_or, take, ◌≤◌}
use Rattle.f77_source.proofs.Common.{◌==◌, Option, not, append_assoc, cond, drop, map, suc, ◌-◌, take_all, zero, ◌*◌, ◌||◌, filter, nat_lt, ◌&&◌, length-append}
use Rattle.f77_source.proofs.Common.{drop-drop, drop_at, length-take, take_at, ◌/◌, nat_tests, map-append, get_or_append_left, get_or_at, get_or_default}
use Rattle.f77_source.proofs.Common.{get_or_past, length-map, All-cons, All-from_get_or, All-head, All-nil, All-tail, filter-append, list_all-append}
use Rattle.f77_source.proofs.Common.{to_ascii_uppercase, list_all, flat_map, All, range_with_len, slice_split, is_some, digits_value, kind, CardFields}
use Rattle.f77_source.proofs.Common.{continuations, lines, AreCards, continuation_line, is_blank, is_initial, MayGoOn, card_faults, field_number, is_bad_label}
use Rattle.f77_source.proofs.Common.{is_comment, is_printable, label_field, label_text, line_part, no_lines, statement, column, continuation_count, counted}
use Rattle.f77_source.proofs.Common.{is_label_field, is_line_end, is_well_formed, piece, statement_card, terminated, written, written_card, HasInitialLine}
use Rattle.f77_source.proofs.Common.{IsReadAs, label, squeezed, statement_field, Continuation, Initial}
use Rattle.std.specs.Str.Lines.{strip_carriage_return}
use Rattle.std.proofs.lemmas.List.Splits.{slice_split_at}
use Rattle.std.proofs.Math.Seq.{take-add}
use Rattle.std.proofs.lemmas.List.FromFn.{length-range_with_len}
use Rattle.f77_source.proofs.Pieces.{Writable, writable, no_fault_at}
use Rattle.f77_source.proofs.Cuts.{terminated_more, parts_some, no_lines_left}
use Rattle.f77_source.proofs.LabelTexts.{printable_at, printable_clean, label_text_length, label_text_blank, label_text_characters, label_text_printable}
use Rattle.f77_source.proofs.LabelTexts.{label_text_number, label_above_zero, label_character_at}

-- the lines of a written card, without their ends
abbrev pub initial_of : CardFields → List ℕ
initial_of card = label_text card.label ++ (32 ∷ piece card.text 0)

abbrev pub continuation_of : List ℕ → ℕ → List ℕ
continuation_of text k = 32 ∷ 32 ∷ 32 ∷ 32 ∷ 32 ∷ 43 ∷ piece text k

abbrev pub continuations_of : CardFields → List (List ℕ)
continuations_of card = map (continuation_of card.text) (range_with_len 1 (continuation_count card.text))

-- a printable line and what follows its end
pub line_ends : (line rest : List ℕ) → list_all is_printable line ≡ true → lines (line ++ 10 ∷ rest) ≡ line ∷ lines rest
unfolding lines
line_ends line rest printable =
    ap (λ parts. map strip_carriage_return (terminated parts)) (slice_split_at is_line_end line 10 rest no_end refl)
    ∙ ap (map strip_carriage_return) (terminated_more line (slice_split is_line_end rest) (parts_some rest))
    ∙ ap (λ l. l ∷ map strip_carriage_return (terminated (slice_split is_line_end rest))) (rw no_return refl)
  where
    character : (k : ℕ) → (get_or line k 0 == 13) ≡ false
    character k = by_place (nat_lt k (length line)) refl
      where
        by_place : (b : Bool) → nat_lt k (length line) ≡ b → (get_or line k 0 == 13) ≡ false
        by_place true is = let p = printable_at line k printable (grind (arith, nat_tests)) in grind (arith, nat_tests, p)
        by_place false is = rw (get_or_past line k 0 (grind (arith, nat_tests))) refl

    no_return : (get_or line (length line - 1) 0 == 13) ≡ false
    no_return = character (length line - 1)

    no_end : All (λ x. is_line_end x ≡ false) line
    no_end = All-from_get_or (λ x. is_line_end x ≡ false) line 0 (λ k l. let p = printable_at line k printable l in grind (arith, nat_tests, p))

-- a label's columns, a blank and a piece
module _ (columns rest : List ℕ) (five : length columns ≡ 5) (short : length rest ≤ 66) where
  pub seventy_two : counted (columns ++ 32 ∷ rest) ≡ columns ++ 32 ∷ rest
  seventy_two = take_all 72 (columns ++ 32 ∷ rest) (omega (arith, length-append columns (32 ∷ rest)))

  pub five_columns : label_field (columns ++ 32 ∷ rest) ≡ columns
  five_columns = take_at columns (32 ∷ rest) 5 five

  pub from_seven : statement_field (columns ++ 32 ∷ rest) ≡ rest
  from_seven = ap (drop 6) (seventy_two ∙ sym (append_assoc columns (32 ∷ []) rest)) ∙ drop_at (columns ++ 32 ∷ []) rest 6 (omega (arith, length-append columns (32 ∷ [])))

  pub sixth : column (columns ++ 32 ∷ rest) 6 ≡ 32
  sixth = get_or_at columns 32 rest 32 5 five

  pub first : column (columns ++ 32 ∷ rest) 1 ≡ get_or columns 0 32
  first = get_or_append_left columns (32 ∷ rest) 32 0 (omega arith)

-- the initial line of a card that can be written
module _ (l : Option ℕ) (rest : List ℕ) (good : is_bad_label l ≡ false) (short : length rest ≤ 66) (printable : list_all is_printable rest ≡ true)
    (seen : (is_some l || not (list_all is_blank rest)) ≡ true) where
  five : length (label_text l) ≡ 5
  five = label_text_length l good

  no_comment_mark : ((column (label_text l ++ 32 ∷ rest) 1 == 67) ≡ false) × ((column (label_text l ++ 32 ∷ rest) 1 == 99) ≡ false) × ((column (label_text l ++ 32 ∷ rest) 1 == 42) ≡ false)
  no_comment_mark = rw (first (label_text l) rest five short) (label_character_at (label_text l) 0 (label_text_characters l good) (omega (arith, five)))

  not_blank : list_all is_blank (label_text l ++ 32 ∷ rest) ≡ false
  not_blank = rw (list_all-append is_blank (label_text l) (32 ∷ rest), label_text_blank l good) (by_label (is_some l) (list_all is_blank rest) seen)
    where
      by_label : (a b : Bool) → (a || not b) ≡ true → (not a && b) ≡ false
      by_label true b h = refl
      by_label false true h = cc
      by_label false false h = refl

  no_comment : is_comment (label_text l ++ 32 ∷ rest) ≡ false
  unfolding is_comment
  no_comment = rw (no_comment_mark.0, no_comment_mark.1, no_comment_mark.2, seventy_two (label_text l) rest five short, not_blank) refl

  pub initial_kind : kind (label_text l ++ 32 ∷ rest) ≡ Initial
  unfolding kind
  initial_kind = rw (no_comment, sixth (label_text l) rest five short) refl

  clean : list_all is_printable (label_text l ++ 32 ∷ rest) ≡ true
  clean = rw (list_all-append is_printable (label_text l) (32 ∷ rest), label_text_printable l good, printable) refl

  label_fits : is_label_field (label_text l ++ 32 ∷ rest) ≡ true
  unfolding is_label_field field_number
  label_fits = rw (five_columns (label_text l) rest five short, label_text_characters l good, label_text_blank l good) (by_label l good)
    where
      by_label : (l : Option ℕ) → is_bad_label l ≡ false → (not (is_some l) || not (digits_value 10 (filter (λ c. not (is_blank c)) (label_text l)) == 0)) ≡ true
      by_label None good = refl
      by_label (Some n) good = rw (label_text_number n good, label_above_zero n good) refl

  pub initial_sound : is_well_formed (label_text l ++ 32 ∷ rest) ≡ true
  unfolding is_well_formed
  initial_sound =
      let p = printable_clean (label_text l ++ 32 ∷ rest) clean in
      rw (no_comment, seventy_two (label_text l) rest five short, p.0, p.1, initial_kind, label_fits) refl

  pub initial_label : label (label_text l ++ 32 ∷ rest) ≡ l
  unfolding label field_number
  initial_label = rw (five_columns (label_text l) rest five short, label_text_blank l good) (by_label l good)
    where
      by_label : (l : Option ℕ) → is_bad_label l ≡ false → cond (not (is_some l)) None (Some (digits_value 10 (filter (λ c. not (is_blank c)) (label_text l)))) ≡ l
      by_label None good = refl
      by_label (Some n) good = rw (label_text_number n good) refl

  pub initial_text : line_part (label_text l ++ 32 ∷ rest) ≡ squeezed rest
  unfolding line_part
  initial_text = rw (from_seven (label_text l) rest five short) refl

  pub initial_printable : list_all is_printable (label_text l ++ 32 ∷ rest) ≡ true
  initial_printable = clean

-- a continuation line
module _ (rest : List ℕ) (short : length rest ≤ 66) (printable : list_all is_printable rest ≡ true) where
  whole : take 66 rest ≡ rest
  whole = take_all 66 rest short

  no_comment_line : is_comment (32 ∷ 32 ∷ 32 ∷ 32 ∷ 32 ∷ 43 ∷ rest) ≡ false
  unfolding is_comment
  no_comment_line = refl

  pub continuation_kind : kind (32 ∷ 32 ∷ 32 ∷ 32 ∷ 32 ∷ 43 ∷ rest) ≡ Continuation
  unfolding kind
  continuation_kind = rw no_comment_line refl

  pub continuation_sound : is_well_formed (32 ∷ 32 ∷ 32 ∷ 32 ∷ 32 ∷ 43 ∷ rest) ≡ true
  unfolding is_well_formed
  continuation_sound =
      let p = printable_clean rest printable in
      rw (no_comment_line, whole, p.0, p.1, continuation_kind) refl

  pub continuation_text : line_part (32 ∷ 32 ∷ 32 ∷ 32 ∷ 32 ∷ 43 ∷ rest) ≡ squeezed rest
  unfolding line_part
  continuation_text = rw whole refl

  pub continuation_printable : list_all is_printable (32 ∷ 32 ∷ 32 ∷ 32 ∷ 32 ∷ 43 ∷ rest) ≡ true
  continuation_printable = printable

-- the pieces of a text
pieces_join : (text : List ℕ) (n k : ℕ) → flat_map (piece text) (range_with_len k n) ≡ take (66 * n) (drop (66 * k) text)
pieces_join text zero k = refl
pieces_join text (suc n) k =
    let e : 66 * suc n ≡ 66 + 66 * n = omega arith in
    let f : 66 * (k + 1) ≡ 66 * k + 66 = omega arith in
    let g : drop (66 * (k + 1)) text ≡ drop 66 (drop (66 * k) text) = rw f (sym (drop-drop 66 (66 * k) text)) in
    ap (λ rest. piece text k ++ rest) (pieces_join text n (k + 1) ∙ ap (take (66 * n)) g)
    ∙ sym (rw e (take-add 66 (66 * n) (drop (66 * k) text)))

pub whole_text : (text : List ℕ) → piece text 0 ++ flat_map (piece text) (range_with_len 1 (continuation_count text)) ≡ text
whole_text text =
    let enough : length text ≤ 66 * suc ((length text - 1) / 66) = omega arith in
    pieces_join text (suc (continuation_count text)) 0 ∙ take_all (66 * suc ((length text - 1) / 66)) text enough

pub squeezed-append : (a b : List ℕ) → squeezed (a ++ b) ≡ squeezed a ++ squeezed b
squeezed-append a b = ap (map to_ascii_uppercase) (filter-append (λ c. not (is_blank c)) a b) ∙ map-append to_ascii_uppercase (filter (λ c. not (is_blank c)) a) (filter (λ c. not (is_blank c)) b)

squeezed-flat_map : (f : ℕ → List ℕ) (ks : List ℕ) → squeezed (flat_map f ks) ≡ flat_map (λ k. squeezed (f k)) ks
squeezed-flat_map f [] = refl
squeezed-flat_map f (k ∷ ks) = squeezed-append (f k) (flat_map f ks) ∙ ap (λ rest. squeezed (f k) ++ rest) (squeezed-flat_map f ks)

pub piece_length : (text : List ℕ) (k : ℕ) → length (piece text k) ≤ 66
piece_length text k = omega (arith, length-take 66 (drop (66 * k) text))

split_test : (p : ℕ → Bool) (x : ℕ) (xs : List ℕ) → list_all p (x ∷ xs) ≡ true → (p x ≡ true) × (list_all p xs ≡ true)
split_test p x xs h = by_test (p x) refl h
  where
    by_test : (b : Bool) → p x ≡ b → (b && list_all p xs) ≡ true → (p x ≡ true) × (list_all p xs ≡ true)
    by_test true is h = (is, h)
    by_test false is h = cc

list_all-take : (p : ℕ → Bool) (n : ℕ) (xs : List ℕ) → list_all p xs ≡ true → list_all p (take n xs) ≡ true
list_all-take p zero xs h = refl
list_all-take p (suc n) [] h = refl
list_all-take p (suc n) (x ∷ xs) h = let t = split_test p x xs h in rw t.0 (list_all-take p n xs t.1)

list_all-drop : (p : ℕ → Bool) (n : ℕ) (xs : List ℕ) → list_all p xs ≡ true → list_all p (drop n xs) ≡ true
list_all-drop p zero xs h = h
list_all-drop p (suc n) [] h = refl
list_all-drop p (suc n) (x ∷ xs) h = list_all-drop p n xs (split_test p x xs h).1

pub piece_printable : (text : List ℕ) (k : ℕ) → list_all is_printable text ≡ true → list_all is_printable (piece text k) ≡ true
piece_printable text k h = list_all-take is_printable 66 (drop (66 * k) text) (list_all-drop is_printable (66 * k) text h)

-- a card that can be written and read
record Readable (card : CardFields) : Type 0 where
  written : Writable card
  seen : HasInitialLine card

-- the lines of a card in the source
following_lines : (text rest : List ℕ) (ks : List ℕ) → list_all is_printable text ≡ true
    → lines (flat_map (continuation_line text) ks ++ rest) ≡ map (continuation_of text) ks ++ lines rest
following_lines text rest [] h = refl
following_lines text rest (k ∷ ks) h =
    let one = continuation_printable (piece text k) (piece_length text k) (piece_printable text k h) in
    ap lines (by_parts (piece text k) (flat_map (continuation_line text) ks))
    ∙ line_ends (continuation_of text k) (flat_map (continuation_line text) ks ++ rest) one
    ∙ ap (λ ls. continuation_of text k ∷ ls) (following_lines text rest ks h)
  where
    by_parts : (p c : List ℕ) → ((32 ∷ 32 ∷ 32 ∷ 32 ∷ 32 ∷ 43 ∷ (p ++ 10 ∷ [])) ++ c) ++ rest ≡ (32 ∷ 32 ∷ 32 ∷ 32 ∷ 32 ∷ 43 ∷ p) ++ 10 ∷ (c ++ rest)
    by_parts p c = simp append_assoc

card_lines : (card : CardFields) (rest : List ℕ) → Readable card → lines (written_card card ++ rest) ≡ initial_of card ∷ (continuations_of card ++ lines rest)
unfolding written_card
card_lines card rest r =
    let one = initial_printable card.label (piece card.text 0) r.written.label (piece_length card.text 0) (piece_printable card.text 0 r.written.printable) r.seen in
    ap lines (by_parts (label_text card.label) (piece card.text 0) (flat_map (continuation_line card.text) (range_with_len 1 (continuation_count card.text))))
    ∙ line_ends (initial_of card) (flat_map (continuation_line card.text) (range_with_len 1 (continuation_count card.text)) ++ rest) one
    ∙ ap (λ ls. initial_of card ∷ ls) (following_lines card.text rest (range_with_len 1 (continuation_count card.text)) r.written.printable)
  where
    by_parts : (a b c : List ℕ) → ((a ++ (32 ∷ (b ++ 10 ∷ []))) ++ c) ++ rest ≡ (a ++ (32 ∷ b)) ++ 10 ∷ (c ++ rest)
    by_parts a b c = simp append_assoc

-- the continuation lines of a card, as lines of its statement
module _ (text : List ℕ) (printable : list_all is_printable text ≡ true) where
  kind_at : (k : ℕ) → kind (continuation_of text k) ≡ Continuation
  kind_at k = continuation_kind (piece text k) (piece_length text k) (piece_printable text k printable)

  pub all_follow : (ks : List ℕ) → All MayGoOn (map (continuation_of text) ks)
  all_follow [] = All-nil MayGoOn
  all_follow (k ∷ ks) =
      All-cons MayGoOn (continuation_of text k) (map (continuation_of text) ks)
      (rw (kind_at k) refl, continuation_sound (piece text k) (piece_length text k) (piece_printable text k printable)) (all_follow ks)

  pub all_continue : (ks : List ℕ) → continuations (map (continuation_of text) ks) ≡ map (continuation_of text) ks
  all_continue [] = refl
  all_continue (k ∷ ks) = rw (kind_at k) (ap (λ ls. continuation_of text k ∷ ls) (all_continue ks))

  pub texts_of : (ks : List ℕ) → flat_map line_part (map (continuation_of text) ks) ≡ flat_map (λ k. squeezed (piece text k)) ks
  texts_of [] = refl
  texts_of (k ∷ ks) =
      rw (continuation_text (piece text k) (piece_length text k) (piece_printable text k printable)) (ap (λ rest. squeezed (piece text k) ++ rest) (texts_of ks))

-- the card that is read
read_card : ℕ → CardFields → CardFields
read_card n card = statement_card n (initial_of card) (continuations_of card)

read_label : (n : ℕ) (card : CardFields) → Readable card → (read_card n card).label ≡ card.label
unfolding read_card
read_label n card r = initial_label card.label (piece card.text 0) r.written.label (piece_length card.text 0) (piece_printable card.text 0 r.written.printable) r.seen

read_text : (n : ℕ) (card : CardFields) → Readable card → (read_card n card).text ≡ squeezed card.text
unfolding read_card
read_text n card r =
    let ks = range_with_len 1 (continuation_count card.text) in
    rw (
      initial_text card.label (piece card.text 0) r.written.label (piece_length card.text 0) (piece_printable card.text 0 r.written.printable) r.seen,
      all_continue card.text r.written.printable (range_with_len 1 (continuation_count card.text)),
      texts_of card.text r.written.printable (range_with_len 1 (continuation_count card.text)),
      ← squeezed-flat_map (piece card.text) (range_with_len 1 (continuation_count card.text)),
      ← squeezed-append (piece card.text 0) (flat_map (piece card.text) (range_with_len 1 (continuation_count card.text))),
      whole_text card.text,
    ) refl

record ReadFrom (n : ℕ) (cards : List CardFields) : Type 0 where
  read : List CardFields
  are : AreCards n (lines (written cards)) read
  labels : map (λ card. card.label) read ≡ map (λ card. card.label) cards
  texts : map (λ card. card.text) read ≡ map (λ card. squeezed card.text) cards

read_more : (n : ℕ) (card : CardFields) (cards : List CardFields) → Readable card → ReadFrom (n + 1 + length (continuations_of card)) cards → ReadFrom n (card ∷ cards)
unfolding read_card
read_more n card cards r h =
    let few : length (continuations (continuations_of card)) ≤ 19 =
    rw (all_continue card.text r.written.printable (range_with_len 1 (continuation_count card.text)))
    (omega (arith, length-map (range_with_len 1 (continuation_count card.text)) (continuation_of card.text), length-range_with_len 1 (continuation_count card.text), r.written.short)) in
    let opens : is_initial (initial_of card) ≡ true =
    rw (initial_kind card.label (piece card.text 0) r.written.label (piece_length card.text 0) (piece_printable card.text 0 r.written.printable) r.seen) refl in
    let sound = initial_sound card.label (piece card.text 0) r.written.label (piece_length card.text 0) (piece_printable card.text 0 r.written.printable) r.seen in
    record {
      read = read_card n card ∷ h.read;
      are = rw (card_lines card (written cards) r)
          (statement (continuations_of card) opens sound (all_follow card.text r.written.printable (range_with_len 1 (continuation_count card.text))) few h.are);
      labels = rw (read_label n card r) (ap (λ ls. card.label ∷ ls) h.labels);
      texts = rw (read_text n card r) (ap (λ ts. squeezed card.text ∷ ts) h.texts);
    }

read_all : (cards : List CardFields) (n : ℕ) → All Readable cards → ReadFrom n cards
read_all [] n all = record { read = []; are = rw no_lines_left no_lines; labels = refl; texts = refl }
read_all (card ∷ cards) n all =
    read_more n card cards (All-head Readable card cards all) (read_all cards (n + 1 + length (continuations_of card)) (All-tail Readable card cards all))

pub read_back : (cards : List CardFields) → card_faults cards ≡ [] → All HasInitialLine cards → IsReadAs (written cards) cards
read_back cards none initial =
    let h = read_all cards 1 (λ k d l. record {
      written = writable (get_or cards k d)
          (no_fault_at cards k (get_or cards k d) none l (get_or_default cards k d (get_or cards k d) l));
      seen = initial k d l;
    }) in
    record { read = h.read; are = h.are; labels = h.labels; texts = h.texts }
