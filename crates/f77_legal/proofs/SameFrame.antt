-- Programs of one frame have the same labels, blocks and DOs, and a statement breaks the same clauses in each, but for what its DO may end at.
use Rattle.f77_legal.proofs.Common.{◌≡◌, ◌∙◌, ap, sym, List, refl, ℕ, [], false, ◌∷◌, length, Bool, true, Some, None, ◌+◌, filter, ◌||◌, suc, take, Option}
use Rattle.f77_legal.proofs.Common.{◌&&◌, not, cond, drop, option_map, zero, nat_lt, ◌==◌, is_some, ◌-◌, nat_le, if◌then◌else◌, ◌≢◌, reverse, length-map}
use Rattle.f77_legal.proofs.Common.{take-map, drop-map, list_any, find, list_all, cons_option, starts_with, prefix_len, option_map_or, option_and_then}
use Rattle.f77_legal.proofs.Common.{bytes_eq, Symbol, nth_statement, breaks, first_numbers, is_block_if, is_alternative, label_place, HaveOneFrame, block_end}
use Rattle.f77_legal.proofs.Common.{has_at, is_end_if, terminal_label, do_variable_of, framed, is_in_block, statement_numbers, branch_end, is_else, is_level}
use Rattle.f77_legal.proofs.Common.{statement_with, terminal, begins_branch, branch_holds, breaks_block, breaks_range, count_between, dimensions_fit, ends_else}
use Rattle.f77_legal.proofs.Common.{ends_outside, frame, framed_line, goes_in, is_double, is_target, labels, bears, holds_with, is_end_of_block, kinds_agree}
use Rattle.f77_legal.proofs.Common.{left_by, loops_ending, range_holds, same_numbers, statement_behind, branches, breaks_nesting, enclosing, set_by, Clause}
use Rattle.f77_legal.proofs.Common.{Bounds, Kinds, NamedLabels, Nests, Jumps, Targets, Terminals, Variables, LineFields, Statement, jumps_of}
use Rattle.f77_legal.proofs.FrameNames.{by_frame, kind_of_same, bounds_of_same}
use Rattle.f77_legal.proofs.Frames.{is_block_if-framed, is_end_if-framed, is_else-framed, is_alternative-framed, is_target-framed, terminal_label-framed}
use Rattle.f77_legal.proofs.Frames.{variable_of-framed}

-- what follows from the frame of a statement follows from the frame of its program
at-frame : {X : Type 0} (f : Option Statement → X) → ((s : Statement) → f (Some (framed s)) ≡ f (Some s)) → (p : List LineFields) (i : ℕ)
    → f (nth_statement (frame p) i) ≡ f (nth_statement p i)
at-frame f kept [] i = refl
at-frame f kept (line ∷ lines) zero = kept line.stmt
at-frame f kept (line ∷ lines) (suc i) = at-frame f kept lines i

labels-frame : (p : List LineFields) → labels (frame p) ≡ labels p
labels-frame [] = refl
labels-frame (line ∷ lines) = ap (cons_option line.label) (labels-frame lines)

-- as many lines of the frame pass a test that follows from the frame of a line
count_more : {X : Type 0} (b : Bool) (x y : X) (xs ys : List X) → length xs ≡ length ys → length (cond b (x ∷ xs) xs) ≡ length (cond b (y ∷ ys) ys)
count_more true x y xs ys long = ap suc long
count_more false x y xs ys long = long

count-frame : (test : LineFields → Bool) → ((line : LineFields) → test (framed_line line) ≡ test line) → (p : List LineFields)
    → length (filter test (frame p)) ≡ length (filter test p)
count-frame test kept [] = refl
count-frame test kept (line ∷ lines) =
    ap (λ b. length (cond b (framed_line line ∷ filter test (frame lines)) (filter test (frame lines)))) (kept line)
    ∙ count_more (test line) (framed_line line) line (filter test (frame lines)) (filter test lines) (count-frame test kept lines)

length-frame : (p : List LineFields) → length (frame p) ≡ length p
length-frame p = length-map p framed_line

-- the labels follow from the frame
unlabelled-frame : (label : ℕ) (p : List LineFields) → prefix_len (λ line. not (bears label line)) (frame p) ≡ prefix_len (λ line. not (bears label line)) p
unlabelled-frame label [] = refl
unlabelled-frame label (line ∷ lines) = ap (λ n. cond (not (bears label line)) (1 + n) 0) (unlabelled-frame label lines)

place_of-frame : (p : List LineFields) (label : ℕ) → label_place (frame p) label ≡ label_place p label
place_of-frame p label = λ k. cond (nat_lt (unlabelled-frame label p k) (length-frame p k)) (Some (unlabelled-frame label p k)) None

count_between-frame : (test : Statement → Bool) → ((s : Statement) → test (framed s) ≡ test s) → (p : List LineFields) (i j : ℕ)
    → count_between test (frame p) i j ≡ count_between test p i j
count_between-frame test kept p i j =
    ap (λ lines. length (filter (λ line. test line.stmt) (take (j - suc i) lines))) (drop-map framed_line (suc i) p)
    ∙ ap (λ lines. length (filter (λ line. test line.stmt) lines)) (take-map framed_line (j - suc i) (drop (suc i) p))
    ∙ count-frame (λ line. test line.stmt) (λ line. kept line.stmt) (take (j - suc i) (drop (suc i) p))

target_with-frame : (p : List LineFields) (label : ℕ) → option_map is_target (statement_with (frame p) label) ≡ option_map is_target (statement_with p label)
target_with-frame p label =
    ap (λ o. option_map is_target (option_and_then (nth_statement (frame p)) o)) (place_of-frame p label) ∙ at_place (label_place p label)
  where
    at_place : (o : Option ℕ) → option_map is_target (option_and_then (nth_statement (frame p)) o) ≡ option_map is_target (option_and_then (nth_statement p) o)
    at_place None = refl
    at_place (Some i) = at-frame (option_map is_target) (λ s. ap Some (is_target-framed s)) p i

module _ (p q : List LineFields) (same : HaveOneFrame p q) where
  pub length_same : length p ≡ length q
  length_same = by_frame length length-frame p q same

  pub numbers_same : statement_numbers p ≡ statement_numbers q
  numbers_same = ap first_numbers length_same

  pub labels_same : labels p ≡ labels q
  labels_same = by_frame labels labels-frame p q same

  pub is_double_same : (label : ℕ) → is_double p label ≡ is_double q label
  is_double_same label = by_frame (λ r. is_double r label) (λ r. ap (nat_le 2) (count-frame (bears label) (λ line. refl) r)) p q same

  pub place_of_same : (label : ℕ) → label_place p label ≡ label_place q label
  place_of_same label = by_frame (λ r. label_place r label) (λ r. place_of-frame r label) p q same

  pub target_with_same : (label : ℕ) → option_map is_target (statement_with p label) ≡ option_map is_target (statement_with q label)
  target_with_same label = by_frame (λ r. option_map is_target (statement_with r label)) (λ r. target_with-frame r label) p q same

  pub has_at_same : (test : Statement → Bool) → ((s : Statement) → test (framed s) ≡ test s) → (i : ℕ) → has_at test p i ≡ has_at test q i
  has_at_same test kept i = by_frame (λ r. has_at test r i) (λ r. at-frame (λ o. option_map_or test o false) kept r i) p q same

  block_if_same : (i : ℕ) → has_at is_block_if p i ≡ has_at is_block_if q i
  block_if_same = has_at_same is_block_if is_block_if-framed

  end_if_same : (i : ℕ) → has_at is_end_if p i ≡ has_at is_end_if q i
  end_if_same = has_at_same is_end_if is_end_if-framed

  else_same : (i : ℕ) → has_at is_else p i ≡ has_at is_else q i
  else_same = has_at_same is_else is_else-framed

  alternative_same : (i : ℕ) → has_at is_alternative p i ≡ has_at is_alternative q i
  alternative_same = has_at_same is_alternative is_alternative-framed

  pub count_between_same : (test : Statement → Bool) → ((s : Statement) → test (framed s) ≡ test s) → (i j : ℕ)
      → count_between test p i j ≡ count_between test q i j
  count_between_same test kept i j = by_frame (λ r. count_between test r i j) (λ r. count_between-frame test kept r i j) p q same

  -- blocks
  pub is_level_same : (i j : ℕ) → is_level p i j ≡ is_level q i j
  is_level_same i j = λ k.
      nat_lt i j && (count_between_same is_block_if is_block_if-framed i j k == count_between_same is_end_if is_end_if-framed i j k)

  pub block_end_same : (i : ℕ) → block_end p i ≡ block_end q i
  block_end_same i = λ k. find (λ j. end_if_same j k && is_level_same i j k) (numbers_same k)

  pub branch_end_same : (i : ℕ) → branch_end p i ≡ branch_end q i
  branch_end_same i = λ k. find (λ j. (end_if_same j k || alternative_same j k) && is_level_same i j k) (numbers_same k)

  pub behind_same : (i : ℕ) → statement_behind p i ≡ statement_behind q i
  behind_same i = λ k. if alternative_same (i + 1) k then block_end_same (i + 1) k else Some (i + 1)

  pub is_in_block_same : (i : ℕ) → is_in_block p i ≡ is_in_block q i
  is_in_block_same i = λ k.
      list_any (λ block. block_if_same block k && (nat_lt block i && option_map_or (nat_lt i) (block_end_same block k) false)) (numbers_same k)

  pub is_closing_same : (j : ℕ) → is_end_of_block p j ≡ is_end_of_block q j
  is_closing_same j = λ k.
      list_any (λ block. block_if_same block k && option_map_or (λ end. end == j) (block_end_same block k) false) (numbers_same k)

  pub ends_else_same : (i : ℕ) → ends_else p i ≡ ends_else q i
  ends_else_same i = λ k.
      list_any (λ branch. else_same branch k && option_map_or (λ end. end == i) (branch_end_same branch k) false) (numbers_same k)

  pub begins_branch_same : (i : ℕ) → begins_branch p i ≡ begins_branch q i
  begins_branch_same i = λ k. (block_if_same i k && is_some (block_end_same i k)) || (alternative_same i k && is_in_block_same i k)

  pub branch_holds_same : (i j : ℕ) → branch_holds p i j ≡ branch_holds q i j
  branch_holds_same i j = λ k. begins_branch_same i k && (nat_lt i j && option_map_or (nat_lt j) (branch_end_same i k) false)

  pub breaks_block_same : (i : ℕ) → breaks_block p i ≡ breaks_block q i
  breaks_block_same i = λ k.
      (block_if_same i k && not (is_some (block_end_same i k)))
      || ((end_if_same i k && not (is_closing_same i k))
      || (alternative_same i k && (not (is_in_block_same i k) || ends_else_same i k)))

  -- DOs
  pub terminal_label_same : (d : ℕ) → option_and_then terminal_label (nth_statement p d) ≡ option_and_then terminal_label (nth_statement q d)
  terminal_label_same d =
      by_frame (λ r. option_and_then terminal_label (nth_statement r d)) (λ r. at-frame (option_and_then terminal_label) terminal_label-framed r d) p q same

  pub terminal_same : (d : ℕ) → terminal p d ≡ terminal q d
  terminal_same d = λ k. option_and_then (λ label. place_of_same label k) (terminal_label_same d k)

  pub range_holds_same : (d i : ℕ) → range_holds p d i ≡ range_holds q d i
  range_holds_same d i = λ k. nat_lt d i && option_map_or (nat_le i) (terminal_same d k) false

  pub left_by_same : (i j : ℕ) → left_by p i j ≡ left_by q i j
  left_by_same i j = λ k. filter (λ d. range_holds_same d i k && not (range_holds_same d j k)) (numbers_same k)

  pub loops_ending_same : (t : ℕ) → loops_ending p t ≡ loops_ending q t
  loops_ending_same t = λ k. reverse (filter (λ d. option_map_or (λ e. e == t) (terminal_same d k) false) (numbers_same k))

  pub branches_same : (i : ℕ) → branches p i ≡ branches q i
  branches_same i = λ k. filter (λ b. branch_holds_same b i k) (numbers_same k)

  pub enclosing_same : (i : ℕ) → enclosing p i ≡ enclosing q i
  enclosing_same i = λ k. filter (λ d. range_holds_same d i k || branch_holds_same d i k) (numbers_same k)

  pub ends_outside_same : (d t : ℕ) → ends_outside p d t ≡ ends_outside q d t
  ends_outside_same d t = λ k.
      not (nat_lt d t
      && (same_numbers (branches_same d k) (branches_same t k)
      && list_all (λ e. not (range_holds_same e d k) || range_holds_same e t k) (numbers_same k)))

  pub breaks_range_same : (d : ℕ) → breaks_range p d ≡ breaks_range q d
  breaks_range_same d = λ k. option_map_or (λ t. ends_outside_same d t k) (terminal_same d k) false

  pub breaks_nesting_same : (i : ℕ) → breaks_nesting p i ≡ breaks_nesting q i
  breaks_nesting_same i = λ k. breaks_block_same i k || breaks_range_same i k

  pub goes_in_same : (i j : ℕ) → goes_in p i j ≡ goes_in q i j
  goes_in_same i j = λ k. not (starts_with (λ a b. a == b) (enclosing_same i k) (enclosing_same j k))

  pub holds_with_same : (i : ℕ) (name : Symbol) (d : ℕ) → holds_with p i name d ≡ holds_with q i name d
  holds_with_same i name d = λ k. range_holds_same d i k && option_map_or (bytes_eq name) (variable k) false
    where
      variable : option_and_then do_variable_of (nth_statement p d) ≡ option_and_then do_variable_of (nth_statement q d)
      variable = by_frame (λ r. option_and_then do_variable_of (nth_statement r d)) (λ r. at-frame (option_and_then do_variable_of) variable_of-framed r d) p q same

  -- a label leads to a statement that control may go to in both, or in neither
  leads_same : (label : ℕ)
      → option_map_or (λ target. not (is_target target)) (statement_with p label) false ≡ option_map_or (λ target. not (is_target target)) (statement_with q label) false
  leads_same label = of_target (statement_with p label) ∙ ap (λ o. option_map_or not o false) (target_with_same label) ∙ sym (of_target (statement_with q label))
    where
      of_target : (o : Option Statement) → option_map_or (λ target. not (is_target target)) o false ≡ option_map_or not (option_map is_target o) false
      of_target None = refl
      of_target (Some s) = refl

  -- what a statement breaks where it stands
  pub same_breaks : (c : Clause) → c ≢ Terminals → (i : ℕ) (s : Statement) → breaks c p i s ≡ breaks c q i s
  same_breaks Kinds apart i s = λ k. not (kinds_agree (λ name. kind_of_same p q same name k) s)
  same_breaks Bounds apart i s = λ k. not (dimensions_fit (λ name. bounds_of_same p q same name k) s)
  same_breaks NamedLabels apart i s = λ k.
      list_any (λ label. not (is_some (place_of_same label k))) (jumps_of s)
      || option_map_or (λ label. not (is_some (place_of_same label k))) (terminal_label s) false
  same_breaks Targets apart i s = λ k. list_any (λ label. leads_same label k) (jumps_of s)
  same_breaks Terminals apart i s = absurd (apart refl)
  same_breaks Nests apart i s = breaks_nesting_same i
  same_breaks Jumps apart i s = λ k. list_any (λ label. option_map_or (λ j. goes_in_same i j k) (place_of_same label k) false) (jumps_of s)
  same_breaks Variables apart i s = λ k.
      option_map_or (λ name. list_any (λ d. holds_with_same i name d k) (numbers_same k)) (set_by s) false
