-- The scan from a statement to the end of its block or its branch.
use Rattle.f77_legal.proofs.Common.{◌≡◌, ◌∙◌, ap, List, refl, ℕ, false, length, Bool, arith, true, Some, None, ◌+◌, filter, ◌||◌, suc, take, Option, ◌&&◌, ◌<◌}
use Rattle.f77_legal.proofs.Common.{cond, drop, get_or, option_map, ◌≤◌, nat_lt, ◌==◌, subst, inr, inl, ◌-◌, ◌⊎◌, lt-ltb, eq-eqb, get_or-drop, length-drop}
use Rattle.f77_legal.proofs.Common.{cases_lt, and_left, and_right, and_cases, nat_tests, eqb_tells, get_or_from_slice_get, slice_get_within, option_map_or}
use Rattle.f77_legal.proofs.Common.{nth_statement, is_block_if, is_alternative, block_end, has_at, is_end_if, statement_numbers, branch_end, is_level}
use Rattle.f77_legal.proofs.Common.{count_between, end_of, depth_behind, stops, LineFields, Statement}
use Rattle.std.specs.List.{slice_get}
use Rattle.std.proofs.lemmas.List.Filters.{length-filter_more}
use Rattle.f77_legal.specs.declared.blocks.Extent.{Extent}
use Rattle.f77_legal.specs.declared.blocks.Extent.TheVariants.{Block, Branch}
use Rattle.f77_legal.proofs.FirstNumbers.{none_found, first_found, find_same}

line_more : (test : Statement → Bool) (p : List LineFields) (i j : ℕ) (line : LineFields) → i < j → slice_get p j ≡ Some line
    → count_between test p i (j + 1) ≡ count_between test p i j + cond (test line.stmt) 1 0
line_more test p i j line h is =
    let step : (j + 1) - suc i ≡ (j - suc i) + 1 = omega arith in
    let within : j < length p = slice_get_within p j line is in
    let long : j - suc i < length (drop (suc i) p) = omega (arith, length-drop (suc i) p) in
    let place : suc i + (j - suc i) ≡ j = omega arith in
    let item : get_or (drop (suc i) p) (j - suc i) line ≡ line = get_or-drop (suc i) p (j - suc i) line ∙ (ap (λ k. get_or p k line) place ∙ get_or_from_slice_get p j line line is) in
    ap (λ m. length (filter (λ line. test line.stmt) (take m (drop (suc i) p)))) step
    ∙ (length-filter_more (λ line. test line.stmt) (drop (suc i) p) (j - suc i) line long
    ∙ ap (λ l. count_between test p i j + cond (test l.stmt) 1 0) item)

-- how the counts grow by a statement
count_more : (test : Statement → Bool) (p : List LineFields) (i j : ℕ) (s : Statement) → i < j → nth_statement p j ≡ Some s
    → count_between test p i (j + 1) ≡ count_between test p i j + cond (test s) 1 0
count_more test p i j s h is = by (slice_get p j) refl is
  where
    by : (o : Option LineFields) → slice_get p j ≡ o → option_map (λ line. line.stmt) o ≡ Some s
        → count_between test p i (j + 1) ≡ count_between test p i j + cond (test s) 1 0
    by None e is = absurd cc
    by (Some line) e is = let same : line.stmt ≡ s = cc in line_more test p i j line h e ∙ ap (λ t. count_between test p i j + cond (test t) 1 0) same

count_none : (test : Statement → Bool) (p : List LineFields) (i : ℕ) → count_between test p i (i + 1) ≡ 0
count_none test p i = let e : (i + 1) - suc i ≡ 0 = omega arith in ap (λ m. length (filter (λ line. test line.stmt) (take m (drop (suc i) p)))) e

-- before j no end was found, and `depth` blocks are open that began behind i
pub record Scanning (p : List LineFields) (extent : Extent) (i j depth : ℕ) : Type 0 where
  pub behind : i < j
  pub level : depth + count_between is_end_if p i j ≡ count_between is_block_if p i j
  pub none : (k : ℕ) → k < j → (has_at (stops extent) p k && is_level p i k) ≡ false
  pub small : depth ≤ j

not_behind : (p : List LineFields) (extent : Extent) (i k : ℕ) → k < i + 1 → (has_at (stops extent) p k && is_level p i k) ≡ false
not_behind p extent i k h = and_right (has_at (stops extent) p k) (is_level p i k) (and_left (nat_lt i k) _ (grind (arith, nat_tests)))

pub scan_start : (p : List LineFields) (extent : Extent) (i : ℕ) → Scanning p extent i (i + 1) 0
scan_start p extent i = record {
  behind = omega arith;
  level = let e : count_between is_end_if p i (i + 1) ≡ 0 = count_none is_end_if p i in let f : count_between is_block_if p i (i + 1) ≡ 0 = count_none is_block_if p i in omega arith;
  none = λ k h. not_behind p extent i k h;
  small = omega arith;
}

has_here : (test : Statement → Bool) (p : List LineFields) (j : ℕ) (s : Statement) → nth_statement p j ≡ Some s → has_at test p j ≡ test s
has_here test p j s is = ap (λ o. option_map_or test o false) is

-- the statement j is level with i exactly where no block is open
level_here : (p : List LineFields) (i j depth : ℕ) → i < j → depth + count_between is_end_if p i j ≡ count_between is_block_if p i j → is_level p i j ≡ (depth == 0)
level_here p i j depth h e = rw (lt-ltb i j h) (either (eqb_tells depth 0))
  where
    either : ((depth == 0 ≡ true) × (depth ≡ 0)) ⊎ ((depth == 0 ≡ false) × (depth ≡ 0 → ⊥)) → (count_between is_block_if p i j == count_between is_end_if p i j) ≡ (depth == 0)
    either (inl a) = rw a.0 (eq-eqb _ _ (omega arith))
    either (inr b) = rw b.0 (grind (arith, nat_tests))

ends_here : (p : List LineFields) (extent : Extent) (i j depth : ℕ) (s : Statement) → Scanning p extent i j depth → nth_statement p j ≡ Some s
    → (has_at (stops extent) p j && is_level p i j) ≡ (stops extent s && (depth == 0))
ends_here p extent i j depth s scan is = rw (has_here (stops extent) p j s is) (rw (level_here p i j depth scan.behind scan.level) refl)

and_comm : (a b : Bool) → (a && b) ≡ (b && a)
and_comm true true = refl
and_comm true false = refl
and_comm false true = refl
and_comm false false = refl

pub scan_found : (p : List LineFields) (extent : Extent) (i j depth : ℕ) (s : Statement) → Scanning p extent i j depth → j < length p
    → nth_statement p j ≡ Some s → ((depth == 0) && stops extent s) ≡ true → Some j ≡ end_of p extent i
scan_found p extent i j depth s scan within is ends =
    first_found (λ k. has_at (stops extent) p k && is_level p i k) (length p) j within
    (ends_here p extent i j depth s scan is ∙ (and_comm (stops extent s) (depth == 0) ∙ ends)) scan.none

pub scan_end : (p : List LineFields) (extent : Extent) (i j depth : ℕ) → Scanning p extent i j depth → length p ≤ j → None ≡ end_of p extent i
scan_end p extent i j depth scan past = none_found (λ k. has_at (stops extent) p k && is_level p i k) (length p) (λ k h. scan.none k (omega arith))

-- the counts keep up with the depth
level_more : (s : Statement) (extent : Extent) (depth ends ifs : ℕ) → depth + ends ≡ ifs → ((depth == 0) && stops extent s) ≡ false
    → depth_behind s depth + (ends + cond (is_end_if s) 1 0) ≡ ifs + cond (is_block_if s) 1 0
level_more (Statement.BlockIf t) extent depth ends ifs e not_end = omega arith
level_more Statement.EndIf Block depth ends ifs e not_end = either (and_cases (depth == 0) true not_end)
  where
    either : (depth == 0 ≡ false) ⊎ (true ≡ false) → (depth - 1) + (ends + 1) ≡ ifs + 0
    either (inl h) = let deep : 0 < depth = grind (arith, nat_tests) in omega arith
    either (inr h) = absurd cc
level_more Statement.EndIf Branch depth ends ifs e not_end = either (and_cases (depth == 0) true not_end)
  where
    either : (depth == 0 ≡ false) ⊎ (true ≡ false) → (depth - 1) + (ends + 1) ≡ ifs + 0
    either (inl h) = let deep : 0 < depth = grind (arith, nat_tests) in omega arith
    either (inr h) = absurd cc
level_more _ extent depth ends ifs e not_end = omega arith

depth_small : (s : Statement) (depth j : ℕ) → depth ≤ j → depth_behind s depth ≤ j + 1
depth_small (Statement.BlockIf t) depth j h = omega arith
depth_small Statement.EndIf depth j h = omega arith
depth_small _ depth j h = omega arith

pub scan_on : (p : List LineFields) (extent : Extent) (i j depth : ℕ) (s : Statement) → Scanning p extent i j depth
    → nth_statement p j ≡ Some s → ((depth == 0) && stops extent s) ≡ false → Scanning p extent i (j + 1) (depth_behind s depth)
scan_on p extent i j depth s scan is not_end = record {
  behind = let h : i < j = scan.behind in omega arith;
  level =
      rw (count_more is_end_if p i j s scan.behind is) (rw (count_more is_block_if p i j s scan.behind is)
      (level_more s extent depth (count_between is_end_if p i j) (count_between is_block_if p i j) scan.level not_end));
  none = λ k h. either k (cases_lt k j) h;
  small = depth_small s depth j scan.small;
}
  where
    either : (k : ℕ) → (k < j) ⊎ (j ≤ k) → k < j + 1 → (has_at (stops extent) p k && is_level p i k) ≡ false
    either k (inl below) h = scan.none k below
    either k (inr above) h =
        let e : j ≡ k = omega arith in
        subst (λ k. (has_at (stops extent) p k && is_level p i k) ≡ false) e (ends_here p extent i j depth s scan is ∙ (and_comm (stops extent s) (depth == 0) ∙ not_end))

-- the two extents are the block's and the branch's
pub block_end_is : (p : List LineFields) (i : ℕ) → end_of p Block i ≡ block_end p i
block_end_is p i = refl

pub branch_end_is : (p : List LineFields) (i : ℕ) → end_of p Branch i ≡ branch_end p i
branch_end_is p i =
    find_same (λ j. has_at (stops Branch) p j && is_level p i j) (λ j. (has_at is_end_if p j || has_at is_alternative p j) && is_level p i j) (λ j. one j (nth_statement p j)) (statement_numbers p)
  where
    one : (j : ℕ) (o : Option Statement)
        → (option_map_or (stops Branch) o false && is_level p i j) ≡ ((option_map_or is_end_if o false || option_map_or is_alternative o false) && is_level p i j)
    one j None = refl
    one j (Some s) = refl
