-- The DOs of a legal program are nested: what holds a DO, a range or a branch, holds its terminal statement.
use Rattle.f77_meaning.proofs.Common.{List, ℕ, ◌≡◌, refl, Some, true, ap, arith, ◌∙◌, None, false, [], sym, ◌∷◌, Bool, Option, suc, length, zero, ◌<◌, inr, inl}
use Rattle.f77_meaning.proofs.Common.{◌≤◌, nat_lt, ◌&&◌, ◌||◌, lt-ltb, not, ltb-true, nat_le, le-leb, leb-true, and_parts, cases_lt, and_from, or_parts}
use Rattle.f77_meaning.proofs.Common.{and_left, not-true, or_from, list_any-append, option_and_then_some, list_all, option_map_or, option_and_then, found_is}
use Rattle.f77_meaning.proofs.Common.{are_nested, kept_by, clause_kept, not_false, first_numbers, branch_end, has_at, is_alternative, is_end_if, is_level}
use Rattle.f77_meaning.proofs.Common.{begins_branch, branch_holds, is_block_if, statement_numbers, nth_statement, label_place, terminal_label, is_terminal}
use Rattle.f77_meaning.proofs.Common.{statement_with, IsLegal, terminal, range_holds, branches, ends_outside, same_numbers, Terminals, LineFields, Statement}
use Rattle.f77_legal.proofs.LoopLists.{left_out, all_kept, same_filters}
use Rattle.f77_meaning.proofs.Stepping.{within}

-- the range of the DO d holds k, and goes to this terminal statement
pub record IsInRange (p : List LineFields) (d k : ℕ) : Type 0 where
  pub last : ℕ
  pub ends : terminal p d ≡ Some last
  pub before : d < k
  pub within : k ≤ last

pub in_range : (p : List LineFields) (d k : ℕ) → range_holds p d k ≡ true → IsInRange p d k
in_range p d k h = by (terminal p d) refl (and_parts (nat_lt d k) (option_map_or (nat_le k) (terminal p d) false) h)
  where
    by : (o : Option ℕ) → terminal p d ≡ o → (nat_lt d k ≡ true) × (option_map_or (nat_le k) o false ≡ true) → IsInRange p d k
    by None ends h = absurd (cc (h.1))
    by (Some t) ends h = record { last = t; ends = ends; before = ltb-true d k h.0; within = leb-true k t h.1 }

pub range_of : (p : List LineFields) (d t k : ℕ) → terminal p d ≡ Some t → d < k → k ≤ t → range_holds p d k ≡ true
range_of p d t k ends before within =
    and_from (nat_lt d k) (option_map_or (nat_le k) (terminal p d) false) (lt-ltb d k before)
    (ap (λ o. option_map_or (nat_le k) o false) ends ∙ le-leb k t within)

-- the branch that b begins holds k, and ends there
pub record IsInBranch (p : List LineFields) (b k : ℕ) : Type 0 where
  pub last : ℕ
  pub ends : branch_end p b ≡ Some last
  pub before : b < k
  pub within : k < last

pub in_branch : (p : List LineFields) (b k : ℕ) → branch_holds p b k ≡ true → IsInBranch p b k
in_branch p b k h =
    by (branch_end p b) refl
    (and_parts (nat_lt b k) (option_map_or (nat_lt k) (branch_end p b) false)
    (and_parts (begins_branch p b) (nat_lt b k && option_map_or (nat_lt k) (branch_end p b) false) h).1)
  where
    by : (o : Option ℕ) → branch_end p b ≡ o → (nat_lt b k ≡ true) × (option_map_or (nat_lt k) o false ≡ true) → IsInBranch p b k
    by None ends h = absurd (cc (h.1))
    by (Some e) ends h = record { last = e; ends = ends; before = ltb-true b k h.0; within = ltb-true k e h.1 }

pub branch_of : (p : List LineFields) (b e k : ℕ) → begins_branch p b ≡ true → branch_end p b ≡ Some e → b < k → k < e → branch_holds p b k ≡ true
branch_of p b e k begins ends before within =
    and_from (begins_branch p b) (nat_lt b k && option_map_or (nat_lt k) (branch_end p b) false) begins
    (and_from (nat_lt b k) (option_map_or (nat_lt k) (branch_end p b) false) (lt-ltb b k before)
    (ap (λ o. option_map_or (nat_lt k) o false) ends ∙ lt-ltb k e within))

-- a branch ends behind its beginning, with an END IF or another branch
pub branch_ends : (p : List LineFields) (b e : ℕ) → branch_end p b ≡ Some e → (b < e) × (e < length p) × ((has_at is_end_if p e || has_at is_alternative p e) ≡ true)
branch_ends p b e ends =
    let found = found_is (λ j. (has_at is_end_if p j || has_at is_alternative p j) && is_level p b j) (length p) e ends in
    let parts = and_parts (has_at is_end_if p e || has_at is_alternative p e) (is_level p b e) found.0 in
    (ltb-true b e (and_parts (nat_lt b e) _ parts.1).0, found.1, parts.0)

-- where no number passes a test and not another, one that passes the first passes the other
pub none_left_out : (q r : ℕ → Bool) (n k : ℕ) → left_out q r (first_numbers n) ≡ false → k < n → q k ≡ true → r k ≡ true
none_left_out q r zero k none below is = absurd (omega (arith, below))
none_left_out q r (suc n) k none below is =
    let parts = or_parts (left_out q r (first_numbers n)) (left_out q r (n ∷ [])) (sym (list_any-append (λ x. q x && not (r x)) (first_numbers n) (n ∷ [])) ∙ none) in
    elim (cases_lt k n) [
      | inl lt ↦ none_left_out q r n k parts.0 lt is
      | inr past ↦
          let same : n ≡ k = omega (arith, below, past) in
          by (q k) (r k) is (ap (λ x. q x && not (r x)) (sym same) ∙ (or_parts (q n && not (r n)) false parts.1).0)
    ]
  where
    by : (a b : Bool) → a ≡ true → (a && not b) ≡ false → b ≡ true
    by a true is last = refl
    by true false is last = absurd (cc (last))
    by false false is last = absurd (cc (is))

module _ (p : List LineFields) (legal : IsLegal p) where
  -- what the clause on nesting says of a DO and its terminal statement
  nests : (d t : ℕ) → terminal p d ≡ Some t
      → (nat_lt d t ≡ true) × (same_numbers (branches p d) (branches p t) ≡ true)
      × (list_all (λ e. not (range_holds p e d) || range_holds p e t) (statement_numbers p) ≡ true)
  nests d t ends =
      let kept : ends_outside p d t ≡ false = sym (ap (λ o. option_map_or (ends_outside p d) o false) ends) ∙ are_nested p legal d in
      let all = and_parts (nat_lt d t) _ (not_false _ kept) in
      let more = and_parts (same_numbers (branches p d) (branches p t)) _ all.1 in
      (all.0, more.0, more.1)

  -- a DO ends behind its beginning
  pub ends_behind : (d t : ℕ) → terminal p d ≡ Some t → d < t
  ends_behind d t ends = ltb-true d t (nests d t ends).0

  -- a range that holds a DO holds its terminal statement
  pub range_holds_last : (e d t : ℕ) → terminal p d ≡ Some t → range_holds p e d ≡ true → range_holds p e t ≡ true
  range_holds_last e d t ends h =
      let is = in_range p e d h in
      none_left_out (λ k. range_holds p k d) (λ k. range_holds p k t) (length p) e
      (not-true _ (sym (all_kept (λ k. range_holds p k d) (λ k. range_holds p k t) (statement_numbers p)) ∙ (nests d t ends).2))
      (within p e is.last is.ends) h

  -- a DO that begins in the range of d ends there
  pub ends_within : (d t e u : ℕ) → terminal p d ≡ Some t → terminal p e ≡ Some u → d < e → e ≤ t → u ≤ t
  ends_within d t e u ends last before inside =
      let is = in_range p d u (range_holds_last d e u last (range_of p d t e ends before inside)) in
      let same : is.last ≡ t = cc (is.ends, ends) in
      let below = is.within in
      omega (arith, same, below)

  -- the branches that hold a DO are those that hold its terminal statement
  module _ (b d t : ℕ) (ends : terminal p d ≡ Some t) where
    none_apart : (left_out (λ k. branch_holds p k d) (λ k. branch_holds p k t) (statement_numbers p) ≡ false)
        × (left_out (λ k. branch_holds p k t) (λ k. branch_holds p k d) (statement_numbers p) ≡ false)
    none_apart =
        or_parts _ _
        (not-true _ (sym (same_filters (λ k. branch_holds p k d) (λ k. branch_holds p k t) (statement_numbers p)) ∙ (nests d t ends).1))

    branch_within : (k : ℕ) → branch_holds p b k ≡ true → b < length p
    branch_within k h =
        let is = in_branch p b k h in
        let last = branch_ends p b is.last is.ends in
        let before = last.0 in
        let below = last.1 in
        omega (arith, before, below)

    pub branch_holds_last : branch_holds p b d ≡ true → branch_holds p b t ≡ true
    branch_holds_last h = none_left_out (λ k. branch_holds p k d) (λ k. branch_holds p k t) (length p) b none_apart.0 (branch_within d h) h

    pub branch_holds_first : branch_holds p b t ≡ true → branch_holds p b d ≡ true
    branch_holds_first h = none_left_out (λ k. branch_holds p k t) (λ k. branch_holds p k d) (length p) b none_apart.1 (branch_within t h) h

  -- the terminal statement of a DO is one that may be
  pub ends_well : (d t : ℕ) (s : Statement) → terminal p d ≡ Some t → nth_statement p t ≡ Some s → is_terminal s ≡ true
  ends_well d t s ends at =
      option_and_then_some (label_place p) (option_and_then terminal_label (nth_statement p d)) t ends
      (λ label named found. option_and_then_some terminal_label (nth_statement p d) label named
      (λ loop begins is.
      let with : statement_with p label ≡ Some s = ap (option_and_then (nth_statement p)) found ∙ at in
      not_false (is_terminal s)
      (sym
      (ap (λ o. option_map_or (λ label. option_map_or (λ s. not (is_terminal s)) (statement_with p label) false) o false) is
      ∙ ap (λ o. option_map_or (λ s. not (is_terminal s)) o false) with)
      ∙ clause_kept Terminals p (kept_by p legal).terminals d loop begins)))

-- a statement that is no DO
pub no_loop : (p : List LineFields) (i : ℕ) (s : Statement) → nth_statement p i ≡ Some s → terminal_label s ≡ None → terminal p i ≡ None
no_loop p i s at is =
    ap (λ o. option_and_then (label_place p) (option_and_then terminal_label o)) at ∙ ap (option_and_then (label_place p)) is

last_no_loop : (s : Statement) → is_terminal s ≡ true → terminal_label s ≡ None
last_no_loop (Statement.Loop label name a b c) h = absurd (cc (h))
last_no_loop _ h = refl

-- a terminal statement is no DO
pub last_is_no_loop : (p : List LineFields) → IsLegal p → (d t : ℕ) → terminal p d ≡ Some t → terminal p t ≡ None
last_is_no_loop p legal d t ends = by (nth_statement p t) refl
  where
    by : (o : Option Statement) → nth_statement p t ≡ o → terminal p t ≡ None
    by None at = ap (λ o. option_and_then (label_place p) (option_and_then terminal_label o)) at
    by (Some s) at = no_loop p t s at (last_no_loop s (ends_well p legal d t s ends at))

-- a terminal statement neither begins a branch nor ends one
last_of_no_branch : (s : Statement) → is_terminal s ≡ true → (is_end_if s ≡ false) × (is_block_if s ≡ false) × (is_alternative s ≡ false)
last_of_no_branch (Statement.BlockIf t) h = absurd (cc (h))
last_of_no_branch (Statement.ElseIf t) h = absurd (cc (h))
last_of_no_branch Statement.Else h = absurd (cc (h))
last_of_no_branch Statement.EndIf h = absurd (cc (h))
last_of_no_branch _ h = (refl, refl, refl)

pub last_is_no_branch : (p : List LineFields) → IsLegal p → (d t : ℕ) → terminal p d ≡ Some t
    → (has_at is_end_if p t ≡ false) × (has_at is_block_if p t ≡ false) × (has_at is_alternative p t ≡ false)
last_is_no_branch p legal d t ends = by (nth_statement p t) refl
  where
    by : (o : Option Statement) → nth_statement p t ≡ o
        → (option_map_or is_end_if o false ≡ false) × (option_map_or is_block_if o false ≡ false) × (option_map_or is_alternative o false ≡ false)
    by None at = (refl, refl, refl)
    by (Some s) at = last_of_no_branch s (ends_well p legal d t s ends at)

-- a DO begins no branch
loop_no_branch : (s : Statement) (label : ℕ) → terminal_label s ≡ Some label → (is_block_if s ≡ false) × (is_alternative s ≡ false)
loop_no_branch (Statement.Loop label name a b c) other h = (refl, refl)
loop_no_branch _ other h = absurd (cc (h))

pub begins_no_branch : (p : List LineFields) (d t : ℕ) → terminal p d ≡ Some t → begins_branch p d ≡ false
begins_no_branch p d t ends =
    option_and_then_some (label_place p) (option_and_then terminal_label (nth_statement p d)) t ends
    (λ label named found. option_and_then_some terminal_label (nth_statement p d) label named
    (λ loop begins is.
    let none = loop_no_branch loop label is in
    or_from _ _
    (and_left _ _ (ap (λ o. option_map_or is_block_if o false) begins ∙ none.0))
    (and_left _ _ (ap (λ o. option_map_or is_alternative o false) begins ∙ none.1))))
