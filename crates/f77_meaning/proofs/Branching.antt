-- From a branch to the next one, and to the END IF of its block: a range that holds the one holds the other.
use Rattle.f77_meaning.proofs.Common.{List, ℕ, ◌≡◌, refl, Some, true, ap, arith, ◌∙◌, None, false, sym, ◌∷◌, Bool, Option, suc, length, zero, ◌<◌, ◌+◌, inr}
use Rattle.f77_meaning.proofs.Common.{inl, option_map, ◌≤◌, slice_get, if◌then◌else◌, ◌==◌, nat_lt, ◌&&◌, ◌-◌, ◌||◌, is_some, lt-ltb, eqb-true, ◌⊎◌, cond}
use Rattle.f77_meaning.proofs.Common.{ltb-true, ◌++◌, eq-eqb, filter, length-append, take, drop, drop-cons, drop-drop, and_parts, cases_lt, and_from, or_left}
use Rattle.f77_meaning.proofs.Common.{or_right, or_cases, filter-append, get_or_from_slice_get, slice_get_within, both_ways, option_map_or, found_is}
use Rattle.f77_meaning.proofs.Common.{found_some, some_branch, kept_by, some_of, alternative_in_block, branch_end, has_at, is_alternative, block_end, is_end_if}
use Rattle.f77_meaning.proofs.Common.{is_level, statement_behind, begins_branch, is_block_if, count_between, is_in_block, nth_statement, IsLegal, terminal}
use Rattle.f77_meaning.proofs.Common.{range_holds, LineFields, Statement, Tree}
use Rattle.std.proofs.Math.Seq.{take-add}
use Rattle.f77_meaning.proofs.Nested.{in_range, range_of, in_branch, branch_of, branch_ends, branch_holds_last, branch_holds_first, last_is_no_branch}
use Rattle.f77_meaning.proofs.Nested.{begins_no_branch}

-- a count up to k and one behind it
module _ (test : Statement → Bool) (p : List LineFields) (b k j : ℕ) (before : b < k) (behind : k < j) (line : LineFields) (at : slice_get p k ≡ Some line)
    (none : test line.stmt ≡ false) where
  abbrev passes : LineFields → Bool
  passes other = test other.stmt

  from_k : drop (k - suc b) (drop (suc b) p) ≡ line ∷ drop (suc k) p
  from_k =
      let whole : suc b + (k - suc b) ≡ k = omega (arith, before) in
      drop-drop (k - suc b) (suc b) p
      ∙ ap (λ n. drop n p) whole
      ∙ drop-cons p k line (slice_get_within p k line at)
      ∙ ap (λ x. x ∷ drop (suc k) p) (get_or_from_slice_get p k line line at)

  count_apart : count_between test p b j ≡ count_between test p b k + count_between test p k j
  count_apart =
      let two : j - suc b ≡ (k - suc b) + suc (j - suc k) = omega (arith, before, behind) in
      let first : List LineFields = take (k - suc b) (drop (suc b) p) in
      let rest : List LineFields = take (j - suc k) (drop (suc k) p) in
      ap (λ n. length (filter passes (take n (drop (suc b) p)))) two
      ∙ ap (λ lines. length (filter passes lines)) (take-add (k - suc b) (suc (j - suc k)) (drop (suc b) p))
      ∙ ap (λ lines. length (filter passes (first ++ take (suc (j - suc k)) lines))) from_k
      ∙ ap length (filter-append passes first (line ∷ rest))
      ∙ length-append (filter passes first) (filter passes (line ∷ rest))
      ∙ ap (λ c. length (filter passes first) + length (cond c (line ∷ filter passes rest) (filter passes rest))) none

same_sums : (a x y : ℕ) → (x == y) ≡ (a + x == a + y)
same_sums a x y =
    both_ways (x == y) (a + x == a + y) (λ e. eq-eqb (a + x) (a + y) (ap (λ n. a + n) (eqb-true x y e)))
    (λ e. let same = eqb-true (a + x) (a + y) e in eq-eqb x y (omega (arith, same)))

alternative_only : (s : Statement) → is_alternative s ≡ true → (is_block_if s ≡ false) × (is_end_if s ≡ false)
alternative_only (Statement.ElseIf t) h = (refl, refl)
alternative_only Statement.Else h = (refl, refl)
alternative_only _ h = absurd (cc (h))

-- behind a branch at the level of b, what is level with that is level with b
level_same : (p : List LineFields) (b k : ℕ) → has_at is_alternative p k ≡ true → is_level p b k ≡ true → (j : ℕ) → k < j → is_level p k j ≡ is_level p b j
level_same p b k alternative level j behind = by (slice_get p k) refl alternative
  where
    parts : (nat_lt b k ≡ true) × ((count_between is_block_if p b k == count_between is_end_if p b k) ≡ true)
    parts = and_parts (nat_lt b k) (count_between is_block_if p b k == count_between is_end_if p b k) level

    before : b < k
    before = ltb-true b k parts.0

    by : (o : Option LineFields) → slice_get p k ≡ o → option_map_or is_alternative (option_map (λ line. line.stmt) o) false ≡ true → is_level p k j ≡ is_level p b j
    by None at is = absurd (cc (is))
    by (Some line) at is =
        let only = alternative_only line.stmt is in
        let ifs = count_apart is_block_if p b k j before behind line at only.0 in
        let ends = count_apart is_end_if p b k j before behind line at only.1 in
        let same = eqb-true (count_between is_block_if p b k) (count_between is_end_if p b k) parts.1 in
        let above : b < j = omega (arith, before, behind) in
        ap (λ c. c && (count_between is_block_if p k j == count_between is_end_if p k j)) (lt-ltb k j behind ∙ sym (lt-ltb b j above))
        ∙ ap (λ c. nat_lt b j && c)
        (same_sums (count_between is_block_if p b k) (count_between is_block_if p k j) (count_between is_end_if p k j)
        ∙ ap (λ n. count_between is_block_if p b k + count_between is_block_if p k j == n + count_between is_end_if p k j) same
        ∙ ap (λ n. n == count_between is_end_if p b k + count_between is_end_if p k j) (sym ifs)
        ∙ ap (λ n. count_between is_block_if p b j == n) (sym ends))

abbrev ends_block : List LineFields → ℕ → ℕ → Bool
ends_block p b j = has_at is_end_if p j && is_level p b j

abbrev ends_branch : List LineFields → ℕ → ℕ → Bool
ends_branch p b j = (has_at is_end_if p j || has_at is_alternative p j) && is_level p b j

-- a further branch of a block has its END IF
same_block : (p : List LineFields) (b k j : ℕ) → has_at is_alternative p k ≡ true → is_level p b k ≡ true → block_end p b ≡ Some j → k < j → block_end p k ≡ Some j
same_block p b k j alternative level ends below =
    let found = found_is (ends_block p b) (length p) j ends in
    let here = and_parts (has_at is_end_if p j) (is_level p b j) found.0 in
    let passes : ends_block p k j ≡ true = and_from _ _ here.0 (level_same p b k alternative level j below ∙ here.1) in
    let other = some_of (block_end p k) (found_some (ends_block p k) (length p) j passes found.1) in
    let first = found_is (ends_block p k) (length p) other.0 other.1 in
    let there = and_parts (has_at is_end_if p other.0) (is_level p k other.0) first.0 in
    let above = ltb-true k other.0 (and_parts (nat_lt k other.0) _ there.1).0 in
    let again : ends_block p b other.0 ≡ true = and_from _ _ there.0 (sym (level_same p b k alternative level other.0 above) ∙ there.1) in
    elim (cases_lt other.0 j) [
      | inl less ↦ (let no = found.2 other.0 less in absurd (cc (no, again)))
      | inr more ↦
          elim (cases_lt j other.0) [
            | inl less ↦ (let no = first.2 j less in absurd (cc (no, passes)))
            | inr no_more ↦ (let same : other.0 ≡ j = omega (arith, more, no_more) in other.1 ∙ ap (λ (n : ℕ). Some n) same)
          ]
    ]

block_behind : (p : List LineFields) (b j : ℕ) → block_end p b ≡ Some j → b < j
block_behind p b j ends =
    let level = and_parts (has_at is_end_if p j) (is_level p b j) (found_is (ends_block p b) (length p) j ends).0 in
    ltb-true b j (and_parts (nat_lt b j) _ level.1).0

-- where a branch ends: at the END IF of the block, or at a further branch
record NextBranch (p : List LineFields) (b j : ℕ) : Type 0 where
  next : ℕ
  ends : branch_end p b ≡ Some next
  is : (next ≡ j) ⊎ ((has_at is_alternative p next ≡ true) × (block_end p next ≡ Some j))

next_branch : (p : List LineFields) (b j : ℕ) → block_end p b ≡ Some j → NextBranch p b j
next_branch p b j ends =
    let found = found_is (ends_block p b) (length p) j ends in
    let here = and_parts (has_at is_end_if p j) (is_level p b j) found.0 in
    let passes : ends_branch p b j ≡ true = and_from _ _ (or_left (has_at is_end_if p j) (has_at is_alternative p j) here.0) here.1 in
    let k = some_of (branch_end p b) (found_some (ends_branch p b) (length p) j passes found.1) in
    let first = found_is (ends_branch p b) (length p) k.0 k.1 in
    let there = and_parts (has_at is_end_if p k.0 || has_at is_alternative p k.0) (is_level p b k.0) first.0 in
    record {
      next = k.0;
      ends = k.1;
      is = elim (cases_lt j k.0) [
        | inl less ↦ (let no = first.2 j less in absurd (cc (no, passes)))
        | inr no_more ↦
            elim (cases_lt k.0 j) [
              | inr no_less ↦ inl (omega (arith, no_more, no_less))
              | inl less ↦
                  elim (or_cases (has_at is_end_if p k.0) (has_at is_alternative p k.0) there.0) [
                    | inl end ↦ (let no = found.2 k.0 less in absurd (cc (no, and_from (has_at is_end_if p k.0) (is_level p b k.0) end there.1)))
                    | inr alternative ↦ inr (alternative, same_block p b k.0 j alternative there.1 ends less)
                  ]
            ]
      ];
    }

module _ (p : List LineFields) (legal : IsLegal p) where
  -- no DO ends where a branch begins
  begins_not_last : (d b : ℕ) → terminal p d ≡ Some b → begins_branch p b ≡ true → ⊥
  begins_not_last d b ends begins =
      let none = last_is_no_branch p legal d b ends in
      elim (or_cases (has_at is_block_if p b && is_some (block_end p b)) (has_at is_alternative p b && is_in_block p b) begins) [
        | inl block ↦ (let is = (and_parts (has_at is_block_if p b) _ block).0 in absurd (cc (is, none.1)))
        | inr branch ↦ (let is = (and_parts (has_at is_alternative p b) _ branch).0 in absurd (cc (is, none.2)))
      ]

  module _ (b k : ℕ) (begins : begins_branch p b ≡ true) (ends : branch_end p b ≡ Some k) (d : ℕ) where
    above : b < k
    above = (branch_ends p b k ends).0

    -- a range that holds the beginning of a branch holds its end
    to_end : range_holds p d b ≡ true → range_holds p d k ≡ true
    to_end h =
        let is = in_range p d b h in
        let before = is.before in
        let within = is.within in
        elim (cases_lt is.last k) [
          | inr past ↦ range_of p d is.last k is.ends (omega (arith, before, above)) past
          | inl inside ↦
              elim (cases_lt b is.last) [
                | inr here ↦
                    let same : is.last ≡ b = omega (arith, within, here) in
                    absurd (begins_not_last d b (is.ends ∙ ap (λ (n : ℕ). Some n) same) begins)
                | inl behind ↦
                    let holds = branch_holds_first p legal b d is.last is.ends (branch_of p b k is.last begins ends behind inside) in
                    let after = (in_branch p b d holds).before in
                    absurd (omega (arith, before, after))
              ]
        ]

    from_end : range_holds p d k ≡ true → range_holds p d b ≡ true
    from_end h =
        let is = in_range p d k h in
        let before = is.before in
        let within = is.within in
        elim (cases_lt d b) [
          | inl outside ↦ range_of p d is.last b is.ends outside (omega (arith, above, within))
          | inr inside ↦
              elim (cases_lt b d) [
                | inl behind ↦
                    let last = in_branch p b is.last (branch_holds_last p legal b d is.last is.ends (branch_of p b k d begins ends behind before)) in
                    let same : last.last ≡ k = cc (last.ends, ends) in
                    let below = last.within in
                    absurd (omega (arith, same, below, within))
                | inr here ↦
                    let same : d ≡ b = omega (arith, inside, here) in
                    absurd (cc (ap (begins_branch p) same, begins, begins_no_branch p d is.last is.ends))
              ]
        ]

    pub same_ranges : range_holds p d b ≡ range_holds p d k
    same_ranges = both_ways (range_holds p d b) (range_holds p d k) to_end from_end

  alternative_begins : (b : ℕ) → has_at is_alternative p b ≡ true → begins_branch p b ≡ true
  alternative_begins b alternative =
      or_right (has_at is_block_if p b && is_some (block_end p b)) (has_at is_alternative p b && is_in_block p b)
      (and_from _ _ alternative (alternative_in_block p (kept_by p legal) b alternative))

  -- from each further branch to the END IF
  to_end_if : (n b j : ℕ) → j ≤ b + n → has_at is_alternative p b ≡ true → block_end p b ≡ Some j → (d : ℕ) → range_holds p d b ≡ range_holds p d j
  to_end_if zero b j within alternative ends d = let above = block_behind p b j ends in absurd (omega (arith, within, above))
  to_end_if (suc n) b j within alternative ends d =
      let next = next_branch p b j ends in
      let above = (branch_ends p b next.next next.ends).0 in
      same_ranges b next.next (alternative_begins b alternative) next.ends d ∙ elim next.is [
        | inl last ↦ ap (range_holds p d) last
        | inr further ↦ to_end_if n next.next j (omega (arith, within, above)) further.0 further.1 d
      ]

  -- a range that holds the next statement holds the one that is behind this one
  pub ranges_behind : (i j : ℕ) → statement_behind p i ≡ Some j → (d : ℕ) → range_holds p d (i + 1) ≡ range_holds p d j
  ranges_behind i j is d = by (has_at is_alternative p (i + 1)) refl is
    where
      by : (b : Bool) → has_at is_alternative p (i + 1) ≡ b → (if b then block_end p (i + 1) else Some (i + 1)) ≡ Some j → range_holds p d (i + 1) ≡ range_holds p d j
      by true alternative ends = to_end_if j (i + 1) j (omega arith) alternative ends d
      by false alternative same = let n : i + 1 ≡ j = cc (same) in ap (range_holds p d) n

  -- a range holds the beginning of a skipped branch exactly where it holds the end of that branch
  pub ranges_skipped : (i j : ℕ) (t : Tree) → (nth_statement p i ≡ Some (Statement.BlockIf t)) ⊎ (nth_statement p i ≡ Some (Statement.ElseIf t))
      → branch_end p i ≡ Some j → (d : ℕ) → range_holds p d i ≡ range_holds p d j
  ranges_skipped i j t at ends d =
      let branch = some_branch p legal i t at in
      same_ranges i j (by (begins_branch p i) branch.0 branch.1) ends d
    where
      by : (b : Bool) (k : ℕ) → (if b then branch_end p i else None) ≡ Some k → b ≡ true
      by true k h = refl
      by false k h = absurd (cc (h))
