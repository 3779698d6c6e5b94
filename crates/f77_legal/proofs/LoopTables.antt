-- What a table of loops and branches says of its program.
use Rattle.f77_legal.proofs.Common.{◌≡◌, ◌∙◌, ap, map, sym, List, refl, ℕ, [], false, ◌∷◌, length, Bool, arith, true, Some, None, ◌+◌, filter, ◌||◌, ◌&&◌}
use Rattle.f77_legal.proofs.Common.{◌<◌, not, drop, get_or, nat_lt, ◌==◌, ◌-◌, nat_le, reverse, nat_tests, at_drop_more, list_any, range_with_len}
use Rattle.f77_legal.proofs.Common.{option_map_or, option_and_then, bytes_eq, Symbol, nth_statement, first_numbers, do_variable_of, statement_numbers, terminal}
use Rattle.f77_legal.proofs.Common.{branch_holds, breaks_range, ends_outside, goes_in, IsRangeTable, holds_with, left_by, loops_ending, range_holds, is_left}
use Rattle.f77_legal.proofs.Common.{enters, holds_by, ends_at_by_table, is_in_do_range, is_left_by_table, separates, Ranges, LineFields, line_of, Line}
use Rattle.f77_legal.proofs.Heads.{begins, filter_again, any_again, enters_again, unranged, unheld, unleft, unended, unseparated}
use Rattle.f77_legal.proofs.LoopLists.{left_out, all_kept, same_filters}
use Rattle.f77_legal.proofs.Prefixes.{begins_kept, numbers_are}

not_not : (b : Bool) → not (not b) ≡ b
not_not true = refl
not_not false = refl

-- some number passes one of two tests alone, or a third
any_differs : (p q r : ℕ → Bool) (xs : List ℕ)
    → list_any (λ x. (p x && not (q x)) || ((q x && not (p x)) || r x)) xs ≡ (left_out p q xs || (left_out q p xs || list_any r xs))
any_differs p q r [] = refl
any_differs p q r (x ∷ xs) =
    ap (λ b. ((p x && not (q x)) || ((q x && not (p x)) || r x)) || b) (any_differs p q r xs)
    ∙ go (p x && not (q x)) (q x && not (p x)) (r x) (left_out p q xs) (left_out q p xs) (list_any r xs)
  where
    go : (a b c d e f : Bool) → ((a || (b || c)) || (d || (e || f))) ≡ ((a || d) || ((b || e) || (c || f)))
    go true b c d e f = refl
    go false true c true e f = refl
    go false true c false e f = refl
    go false false true true e f = refl
    go false false true false true f = refl
    go false false true false false f = refl
    go false false false d e f = refl

outside_step : (lt le a b c : Bool) → le ≡ not lt → not (lt && (not (a || b) && not c)) ≡ (le || (a || (b || c)))
outside_step false le a b c e = rw e refl
outside_step true le true b c e = rw e refl
outside_step true le false true c e = rw e refl
outside_step true le false false c e = rw e (not_not c)

le_is : (d t : ℕ) → nat_le t d ≡ not (nat_lt d t)
le_is d t = grind (arith, nat_tests)

module _ (ranges : Ranges) (program : List LineFields) (is : IsRangeTable ranges program) where
  pub range_is : (d k : ℕ) → is_in_do_range ranges.terminals.items d k ≡ range_holds program d k
  range_is d k = ap (λ end. nat_lt d k && option_map_or (nat_le k) end false) (is.terminals d)

  -- what the program says of what holds k
  abbrev held_by : ℕ → ℕ → Bool
  held_by k d = range_holds program d k || branch_holds program d k

  holds_is : (k d : ℕ) → holds_by ranges k d ≡ held_by k d
  holds_is k d = λ j. range_is d k j || is.branch_ends d k j

  pub numbers : range_with_len 0 (length ranges.terminals.items) ≡ statement_numbers program
  numbers = numbers_are (length ranges.terminals.items) ∙ ap first_numbers is.entries

  left_is : (i k d : ℕ) → is_left_by_table ranges i k d ≡ is_left program i k d
  left_is i k d = λ j. range_is d i j && not (range_is d k j)

  pub left_are : (i k : ℕ) → filter (is_left_by_table ranges i k) ranges.heads.items ≡ left_by program i k
  left_are i k =
      ap (filter (is_left_by_table ranges i k)) is.heads
      ∙ filter_again (is_left_by_table ranges i k) (begins ranges) (unleft ranges i k) (range_with_len 0 (length ranges.terminals.items))
      ∙ (λ j. filter (λ d. left_is i k d j) (numbers j))

  pub ending_are : (t : ℕ) → reverse (filter (ends_at_by_table ranges t) ranges.heads.items) ≡ loops_ending program t
  ending_are t =
      ap reverse (ap (filter (ends_at_by_table ranges t)) is.heads
      ∙ filter_again (ends_at_by_table ranges t) (begins ranges) (unended ranges t) (range_with_len 0 (length ranges.terminals.items)))
      ∙ (λ j. reverse (filter (λ d. option_map_or (λ e. e == t) (is.terminals d j) false) (numbers j)))

  separated : (d t e : ℕ) → separates ranges d t e
      ≡ ((branch_holds program e d && not (branch_holds program e t)) || ((branch_holds program e t && not (branch_holds program e d)) || is_left program d t e))
  separated d t e = λ j.
      (is.branch_ends e d j && not (is.branch_ends e t j)) || ((is.branch_ends e t j && not (is.branch_ends e d j)) || left_is d t e j)

  some_separates : (d t : ℕ) → list_any (separates ranges d t) ranges.heads.items ≡ list_any (separates ranges d t) (range_with_len 0 (length ranges.terminals.items))
  some_separates d t =
      ap (list_any (separates ranges d t)) is.heads
      ∙ any_again (separates ranges d t) (begins ranges) (unseparated ranges d t) (range_with_len 0 (length ranges.terminals.items))

  pub outside_is : (d t : ℕ) → (nat_le t d || list_any (separates ranges d t) ranges.heads.items) ≡ ends_outside program d t
  outside_is d t =
      let in_it : ℕ → ℕ → Bool = λ k b. branch_holds program b k in
      let front = left_out (in_it d) (in_it t) (statement_numbers program) in
      let back = left_out (in_it t) (in_it d) (statement_numbers program) in
      let out = left_out (λ e. range_holds program e d) (λ e. range_holds program e t) (statement_numbers program) in
      ap (λ b. nat_le t d || b) (some_separates d t)
      ∙ (λ j. nat_le t d || list_any (λ e. separated d t e j) (numbers j))
      ∙ ap (λ b. nat_le t d || b) (any_differs (in_it d) (in_it t) (is_left program d t) (statement_numbers program))
      ∙ sym (outside_step (nat_lt d t) (nat_le t d) front back out (le_is d t))
      ∙ (λ j. not (nat_lt d t && (sym (same_filters (in_it d) (in_it t) (statement_numbers program)) j
      && sym (all_kept (λ e. range_holds program e d) (λ e. range_holds program e t) (statement_numbers program)) j)))

  pub outside_behind : (d t : ℕ) (r : Bool) → d < t → r ≡ list_any (separates ranges d t) ranges.heads.items → r ≡ ends_outside program d t
  outside_behind d t r lt e =
      let before : false ≡ nat_le t d = grind (arith, nat_tests) in
      e ∙ ap (λ b. b || list_any (separates ranges d t) ranges.heads.items) before ∙ outside_is d t

  pub goes_is : (i j : ℕ) → enters (holds_by ranges i) (holds_by ranges j) false ranges.heads.items ≡ goes_in program i j
  goes_is i j =
      ap (enters (holds_by ranges i) (holds_by ranges j) false) is.heads
      ∙ enters_again (holds_by ranges i) (holds_by ranges j) (begins ranges) (unheld ranges i) (unheld ranges j) false (range_with_len 0 (length ranges.terminals.items))
      ∙ (λ k. enters (λ d. holds_is i d k) (λ d. holds_is j d k) false (numbers k))
      ∙ sym (not_not _)
      ∙ ap not (sym (begins_kept (held_by i) (held_by j) (length program)))

pub held_with_is : (ranges : Ranges) (lines : List Line) → IsRangeTable ranges (map line_of lines) → (i : ℕ) (name : Symbol)
    → list_any (λ d. is_in_do_range ranges.terminals.items d i
    && option_map_or (bytes_eq name) (option_and_then do_variable_of (nth_statement (map line_of lines) d)) false) ranges.heads.items
    ≡ list_any (holds_with (map line_of lines) i name) (statement_numbers (map line_of lines))
held_with_is ranges lines is i name =
    let has_name : ℕ → Bool = λ d. option_map_or (bytes_eq name) (option_and_then do_variable_of (nth_statement (map line_of lines) d)) false in
    let test : ℕ → Bool = λ d. is_in_do_range ranges.terminals.items d i && has_name d in
    ap (list_any test) is.heads
    ∙ any_again test (begins ranges) (λ d e. ap (λ b. b && has_name d) (unranged ranges i d e)) (range_with_len 0 (length ranges.terminals.items))
    ∙ (λ j. list_any (λ d. range_is ranges (map line_of lines) is d i j && has_name d) (numbers ranges (map line_of lines) is j))

pub no_loop : (program : List LineFields) (d : ℕ) → terminal program d ≡ None → false ≡ breaks_range program d
no_loop program d e = ap (λ end. option_map_or (ends_outside program d) end false) (sym e)

pub one_loop : (program : List LineFields) (d t : ℕ) (r : Bool) → terminal program d ≡ Some t → r ≡ ends_outside program d t → r ≡ breaks_range program d
one_loop program d t r e same = same ∙ ap (λ end. option_map_or (ends_outside program d) end false) (sym e)

-- one more number is looked at
module _ (from to : ℕ → Bool) (xs ys : List ℕ) (same : ys ≡ xs) (i d : ℕ) where
  abbrev here : ℕ
  here = get_or ys i d

  enters_more : (left : Bool) → i < length ys
      → enters from to left (drop i xs) ≡ ((to here && (left || not (from here))) || enters from to (left || (from here && not (to here))) (drop (i + 1) xs))
  enters_more left lt =
      ap (λ zs. enters from to left (drop i zs)) (sym same)
      ∙ at_drop_more (enters from to left) ys i d lt
      ∙ ap (λ zs. (to here && (left || not (from here))) || enters from to (left || (from here && not (to here))) (drop (i + 1) zs)) same

  pub entered_here : (left b : Bool) → i < length ys → b ≡ (to here && (left || not (from here))) → b ≡ true → true ≡ enters from to left (drop i xs)
  entered_here left b lt e passed =
      sym (enters_more left lt ∙ ap (λ c. c || enters from to (left || (from here && not (to here))) (drop (i + 1) xs)) (sym e ∙ passed))

  pub not_entered : (left b after : Bool) → i < length ys → b ≡ (to here && (left || not (from here))) → b ≡ false
      → after ≡ (left || (from here && not (to here))) → enters from to left (drop i xs) ≡ enters from to after (drop (i + 1) xs)
  not_entered left b after lt e passed f =
      enters_more left lt
      ∙ ap (λ c. c || enters from to (left || (from here && not (to here))) (drop (i + 1) xs)) (sym e ∙ passed)
      ∙ ap (λ l. enters from to l (drop (i + 1) xs)) (sym f)
