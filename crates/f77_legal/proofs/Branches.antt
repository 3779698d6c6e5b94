-- Each further branch of a block that has its END IF has that END IF too.
use Rattle.f77_legal.proofs.Common.{◌≡◌, ◌∙◌, ap, sym, List, refl, ℕ, [], false, ◌∷◌, length, Bool, arith, true, Some, None, ◌+◌, filter, suc, take, Option}
use Rattle.f77_legal.proofs.Common.{◌&&◌, ◌<◌, cond, drop, get_or, option_map, ◌≤◌, zero, nat_lt, subst, inr, inl, ◌-◌, eqb-true, IsSome, lt-ltb, eq-eqb}
use Rattle.f77_legal.proofs.Common.{get_or-drop, length-drop, cases_lt, find-append, get_or_from_slice_get, find, option_map_or, option_or, nth_statement}
use Rattle.f77_legal.proofs.Common.{first_numbers, is_block_if, is_alternative, block_end, has_at, is_end_if, is_level, count_between, LineFields, Statement}
use Rattle.std.specs.List.{slice_get}
use Rattle.std.proofs.lemmas.List.Filters.{length-filter_more}

-- how a count grows by a statement
count_line : (test : Statement → Bool) (p : List LineFields) (i j : ℕ) (line : LineFields) → i < j → j < length p → slice_get p j ≡ Some line
    → count_between test p i (suc j) ≡ count_between test p i j + cond (test line.stmt) 1 0
count_line test p i j line h within is =
    let step : suc j - suc i ≡ (j - suc i) + 1 = omega (arith, h) in
    let long : j - suc i < length (drop (suc i) p) = omega (arith, h, within, length-drop (suc i) p) in
    let at : suc i + (j - suc i) ≡ j = omega (arith, h) in
    let item : get_or (drop (suc i) p) (j - suc i) line ≡ line = get_or-drop (suc i) p (j - suc i) line ∙ (ap (λ k. get_or p k line) at ∙ get_or_from_slice_get p j line line is) in
    ap (λ m. length (filter (λ line. test line.stmt) (take m (drop (suc i) p)))) step
    ∙ (length-filter_more (λ line. test line.stmt) (drop (suc i) p) (j - suc i) line long
    ∙ ap (λ l. count_between test p i j + cond (test l.stmt) 1 0) item)

there : {X : Type 0} (xs : List X) (i : ℕ) → i < length xs → (x : X) × (slice_get xs i ≡ Some x)
there [] i h = absurd (omega (arith, h))
there (x ∷ xs) zero h = (x, refl)
there (x ∷ xs) (suc i) h = there xs i (omega (arith, h))

count_more : (test : Statement → Bool) (p : List LineFields) (i j : ℕ) → i < j → j < length p
    → count_between test p i (suc j) ≡ count_between test p i j + cond (has_at test p j) 1 0
count_more test p i j h within =
    let line = there p j within in
    count_line test p i j line.0 h within line.1
    ∙ ap (λ o. count_between test p i j + cond (option_map_or test (option_map (λ l. l.stmt) o) false) 1 0) (sym line.1)

count_none : (test : Statement → Bool) (p : List LineFields) (i : ℕ) → count_between test p i (suc i) ≡ 0
count_none test p i = let e : suc i - suc i ≡ 0 = omega arith in ap (λ m. length (filter (λ line. test line.stmt) (take m (drop (suc i) p)))) e

-- a count in two parts
count_split : (test : Statement → Bool) (p : List LineFields) (b i m : ℕ) → b < i → i + m < length p
    → count_between test p b (suc (i + m)) ≡ count_between test p b i + cond (has_at test p i) 1 0 + count_between test p i (suc (i + m))
count_split test p b i zero h within =
    let e : i + zero ≡ i = omega arith in
    let none = count_none test p i in
    let more = count_more test p b i h (omega (arith, within)) in
    rw e (omega (arith, none, more))
count_split test p b i (suc m) h within =
    let e : i + suc m ≡ suc (i + m) = omega arith in
    let before = count_split test p b i m h (omega (arith, within)) in
    let left = count_more test p b (suc (i + m)) (omega (arith, h)) (omega (arith, within)) in
    let right = count_more test p i (suc (i + m)) (omega arith) (omega (arith, within)) in
    rw e (omega (arith, before, left, right))

-- where more blocks end than begin behind i, one ends at the level of i
pub record Level (p : List LineFields) (i k j : ℕ) : Type 0 where
  pub behind : i < j
  pub before : j < k
  pub ends : has_at is_end_if p j ≡ true
  pub level : count_between is_block_if p i j ≡ count_between is_end_if p i j

fell_here : (p : List LineFields) (i j : ℕ) (ends begins : Bool) → has_at is_end_if p j ≡ ends → has_at is_block_if p j ≡ begins → i < j → j < length p
    → count_between is_end_if p i j ≤ count_between is_block_if p i j
    → count_between is_block_if p i (suc j) < count_between is_end_if p i (suc j) → Level p i (suc j) j
fell_here p i j true begins e b h within above below =
    let more : count_between is_end_if p i (suc j) ≡ count_between is_end_if p i j + 1 = count_more is_end_if p i j h within ∙ ap (λ c. count_between is_end_if p i j + cond c 1 0) e in
    let ifs : count_between is_block_if p i (suc j) ≡ count_between is_block_if p i j + cond begins 1 0 =
    count_more is_block_if p i j h within ∙ ap (λ c. count_between is_block_if p i j + cond c 1 0) b in
    record { behind = h; before = omega arith; ends = e; level = omega (arith, above, below, more, ifs) }
fell_here p i j false begins e b h within above below =
    let more : count_between is_end_if p i (suc j) ≡ count_between is_end_if p i j + 0 = count_more is_end_if p i j h within ∙ ap (λ c. count_between is_end_if p i j + cond c 1 0) e in
    let ifs : count_between is_block_if p i (suc j) ≡ count_between is_block_if p i j + cond begins 1 0 =
    count_more is_block_if p i j h within ∙ ap (λ c. count_between is_block_if p i j + cond c 1 0) b in
    absurd (omega (arith, above, below, more, ifs))

fell : (p : List LineFields) (i m : ℕ) → i + m < length p → count_between is_block_if p i (suc (i + m)) < count_between is_end_if p i (suc (i + m))
    → (j : ℕ) × Level p i (suc (i + m)) j
fell p i zero within below =
    let e : i + zero ≡ i = omega arith in
    let a = count_none is_block_if p i in
    let b = count_none is_end_if p i in
    let below' : count_between is_block_if p i (suc i) < count_between is_end_if p i (suc i) = subst (λ k. count_between is_block_if p i (suc k) < count_between is_end_if p i (suc k)) e below in
    absurd (omega (arith, a, b, below'))
fell p i (suc m) within below =
    let e : i + suc m ≡ suc (i + m) = omega arith in
    let below' : count_between is_block_if p i (suc (suc (i + m))) < count_between is_end_if p i (suc (suc (i + m)))
    = subst (λ k. count_between is_block_if p i (suc k) < count_between is_end_if p i (suc k)) e below in
    elim (cases_lt (count_between is_block_if p i (suc (i + m))) (count_between is_end_if p i (suc (i + m)))) [
      | inl lower ↦
          let f = fell p i m (omega (arith, within)) lower in
          (f.0, record { behind = f.1.behind; before = let x = f.1.before in omega (arith, x); ends = f.1.ends; level = f.1.level })
      | inr above ↦ (
        suc (i + m),
        subst (λ k. Level p i (suc k) (suc (i + m))) (sym e)
            (fell_here p i (suc (i + m)) (has_at is_end_if p (suc (i + m))) (has_at is_block_if p (suc (i + m))) refl refl (omega arith) (omega (arith, within)) above below'),
      )
    ]

-- what a search over the first numbers finds
none_all : (q : ℕ → Bool) (n k : ℕ) → find q (first_numbers n) ≡ None → k < n → q k ≡ false
none_all q zero k none h = absurd (omega (arith, h))
none_all q (suc n) k none h = by (find q (first_numbers n)) (q n) refl refl (none_all q n k)
  where
    by : (o : Option ℕ) (b : Bool) → find q (first_numbers n) ≡ o → q n ≡ b → (find q (first_numbers n) ≡ None → k < n → q k ≡ false) → q k ≡ false
    by (Some x) b e is again =
        let whole : find q (first_numbers (suc n)) ≡ Some x = find-append q (first_numbers n) (n ∷ []) ∙ ap (λ o. option_or o (find q (n ∷ []))) e in
        absurd (cc (whole, none))
    by None true e is again =
        let whole : find q (first_numbers (suc n)) ≡ cond (q n) (Some n) None = find-append q (first_numbers n) (n ∷ []) ∙ ap (λ o. option_or o (find q (n ∷ []))) e in
        let there : find q (first_numbers (suc n)) ≡ Some n = whole ∙ ap (λ b. cond b (Some n) None) is in
        absurd (cc (there, none))
    by None false e is again = elim (cases_lt k n) [
      | inl lt ↦ again e lt
      | inr past ↦
          let same : n ≡ k = omega (arith, h, past) in ap q (sym same) ∙ is
    ]

pub found_is : (q : ℕ → Bool) (n e : ℕ) → find q (first_numbers n) ≡ Some e → (q e ≡ true) × (e < n) × ((k : ℕ) → k < e → q k ≡ false)
found_is q zero e found = absurd (cc (found))
found_is q (suc n) e found = by (find q (first_numbers n)) (q n) refl refl (found_is q n e)
  where
    by : (o : Option ℕ) (b : Bool) → find q (first_numbers n) ≡ o → q n ≡ b
        → (find q (first_numbers n) ≡ Some e → (q e ≡ true) × (e < n) × ((k : ℕ) → k < e → q k ≡ false))
        → (q e ≡ true) × (e < suc n) × ((k : ℕ) → k < e → q k ≡ false)
    by (Some x) b o is again =
        let whole : find q (first_numbers (suc n)) ≡ Some x = find-append q (first_numbers n) (n ∷ []) ∙ ap (λ o. option_or o (find q (n ∷ []))) o in
        let same : x ≡ e = cc (whole, found) in
        let f = again (o ∙ ap (λ (k : ℕ). Some k) same) in
        let below = f.1 in
        (f.0, omega (arith, below), f.2)
    by None true o is again =
        let whole : find q (first_numbers (suc n)) ≡ cond (q n) (Some n) None = find-append q (first_numbers n) (n ∷ []) ∙ ap (λ o. option_or o (find q (n ∷ []))) o in
        let there : find q (first_numbers (suc n)) ≡ Some n = whole ∙ ap (λ b. cond b (Some n) None) is in
        let same : n ≡ e = cc (there, found) in
        (ap q (sym same) ∙ is, omega (arith, same), λ k h. none_all q n k o (omega (arith, same, h)))
    by None false o is again =
        let whole : find q (first_numbers (suc n)) ≡ cond (q n) (Some n) None = find-append q (first_numbers n) (n ∷ []) ∙ ap (λ o. option_or o (find q (n ∷ []))) o in
        let there : find q (first_numbers (suc n)) ≡ None = whole ∙ ap (λ b. cond b (Some n) None) is in
        absurd (cc (there, found))

pub found_some : (q : ℕ → Bool) (n j : ℕ) → q j ≡ true → j < n → IsSome (find q (first_numbers n))
found_some q n j holds h = by (find q (first_numbers n)) refl
  where
    by : (o : Option ℕ) → find q (first_numbers n) ≡ o → IsSome o
    by (Some x) e = refl
    by None e = let no_more = none_all q n j e h in absurd (cc (no_more, holds))

-- the statement j is the END IF of what i begins, where the counts between agree
is_end : (p : List LineFields) (i j : ℕ) → has_at is_end_if p j ≡ true → i < j → count_between is_block_if p i j ≡ count_between is_end_if p i j
    → (has_at is_end_if p j && is_level p i j) ≡ true
is_end p i j ends h level = rw (ends, lt-ltb i j h) (eq-eqb _ _ level)

no_count : (s : Option Statement) → option_map_or is_alternative s false ≡ true → (option_map_or is_block_if s false ≡ false) × (option_map_or is_end_if s false ≡ false)
no_count None h = absurd (cc (h))
no_count (Some (Statement.ElseIf t)) h = (refl, refl)
no_count (Some Statement.Else) h = (refl, refl)
no_count (Some _) h = absurd (cc (h))

both_true : (a b : Bool) → (a && b) ≡ true → (a ≡ true) × (b ≡ true)
both_true true true h = (refl, refl)
both_true true false h = absurd (cc (h))
both_true false b h = absurd (cc (h))

-- between a block IF and a branch of it at least as many blocks begin as end, since no statement before was its END IF
not_fewer : (p : List LineFields) (b i : ℕ) → b < i → i < length p
    → ((k : ℕ) → k < i → (has_at is_end_if p k && is_level p b k) ≡ false)
    → count_between is_end_if p b i ≤ count_between is_block_if p b i
not_fewer p b i h within none =
    elim (cases_lt (count_between is_block_if p b i) (count_between is_end_if p b i)) [
      | inl fewer ↦
          let x : suc (b + (i - suc b)) ≡ i = omega (arith, h) in
          let start : count_between is_block_if p b (suc (b + (i - suc b))) < count_between is_end_if p b (suc (b + (i - suc b)))
          = subst (λ k. count_between is_block_if p b k < count_between is_end_if p b k) (sym x) fewer in
          let f = fell p b (i - suc b) (omega (arith, h, within)) start in
          let before = f.1.before in
          let no = none f.0 (omega (arith, before, x)) in
          let is = is_end p b f.0 f.1.ends f.1.behind f.1.level in
          absurd (cc (no, is))
      | inr enough ↦ enough
    ]

closes_at : (p : List LineFields) (b i m : ℕ) → b < i → suc (i + m) < length p → has_at is_alternative p i ≡ true
    → (has_at is_end_if p (suc (i + m)) && is_level p b (suc (i + m))) ≡ true
    → ((k : ℕ) → k < suc (i + m) → (has_at is_end_if p k && is_level p b k) ≡ false)
    → IsSome (block_end p i)
closes_at p b i m h within alternative closes none =
    let parts = both_true (has_at is_end_if p (suc (i + m))) (is_level p b (suc (i + m))) closes in
    let level = eqb-true _ _ (both_true (nat_lt b (suc (i + m))) _ parts.1).1 in
    let enough = not_fewer p b i h (omega (arith, within)) (λ k below. none k (omega (arith, below))) in
    let counts = no_count (nth_statement p i) alternative in
    let ifs : count_between is_block_if p b (suc (i + m)) ≡ count_between is_block_if p b i + 0 + count_between is_block_if p i (suc (i + m))
    = count_split is_block_if p b i m h (omega (arith, within)) ∙ ap (λ c. count_between is_block_if p b i + cond c 1 0 + count_between is_block_if p i (suc (i + m))) counts.0 in
    let ends : count_between is_end_if p b (suc (i + m)) ≡ count_between is_end_if p b i + 0 + count_between is_end_if p i (suc (i + m))
    = count_split is_end_if p b i m h (omega (arith, within)) ∙ ap (λ c. count_between is_end_if p b i + cond c 1 0 + count_between is_end_if p i (suc (i + m))) counts.1 in
    elim (cases_lt (count_between is_block_if p i (suc (i + m))) (count_between is_end_if p i (suc (i + m)))) [
      | inl fewer ↦
          let f = fell p i m (omega (arith, within)) fewer in
          let before = f.1.before in
          found_some (λ j. has_at is_end_if p j && is_level p i j) (length p) f.0 (is_end p i f.0 f.1.ends f.1.behind f.1.level) (omega (arith, before, within))
      | inr others ↦
          let same : count_between is_block_if p i (suc (i + m)) ≡ count_between is_end_if p i (suc (i + m)) = omega (arith, level, enough, ifs, ends, others) in
          found_some (λ j. has_at is_end_if p j && is_level p i j) (length p) (suc (i + m)) (is_end p i (suc (i + m)) parts.0 (omega arith) same) within
    ]

-- a branch between a block IF and its END IF has an END IF
pub branch_closes : (p : List LineFields) (b i e : ℕ) → block_end p b ≡ Some e → b < i → i < e → has_at is_alternative p i ≡ true → IsSome (block_end p i)
branch_closes p b i e closes above below alternative =
    let f = found_is (λ j. has_at is_end_if p j && is_level p b j) (length p) e closes in
    let x : e ≡ suc (i + (e - suc i)) = omega (arith, below) in
    let within = f.1 in
    closes_at p b i (e - suc i) above (omega (arith, within, x)) alternative
    (subst (λ k. (has_at is_end_if p k && is_level p b k) ≡ true) x f.0)
    (λ k h. f.2 k (omega (arith, h, x)))
