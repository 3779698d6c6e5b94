-- Names of DATA that are dummy arguments or stand there twice.
use Rattle.f77_legal.proofs.Common.{◌≡◌, ◌∙◌, ap, map, sym, List, refl, ℕ, [], false, ◌∷◌, length, Bool, arith, true, ◌++◌, ◌+◌, filter, ◌||◌, suc, ◌<◌, not}
use Rattle.f77_legal.proofs.Common.{cond, drop, get_or, subst, append-nil, nat_le, add-one, append_assoc, drop-cons, length-append, true≢false, nat_tests}
use Rattle.f77_legal.proofs.Common.{filter-append, nat_list_eq_equiv, same_text, list_any, bytes_eq, Symbol, names_held, groups_break, misplaces}
use Rattle.f77_legal.proofs.Common.{names_of_groups, fills, data_group_of, GroupFields, Kind}
use Rattle.std.specs.Borrow.{Bor}
use Rattle.f77_tree.specs.declared.data.DataGroup.{DataGroup}

held_any : (name : Symbol) (keys : List (Bor (List ℕ))) → list_any (λ key. bytes_eq name key.now) keys ≡ list_any (bytes_eq name) (names_held keys)
held_any name [] = refl
held_any name (k ∷ ks) = ap (λ b. bytes_eq name k.now || b) (held_any name ks)

pub held_more : (keys : List (Bor (List ℕ))) (key : Bor (List ℕ)) → names_held (keys ++ key ∷ []) ≡ names_held keys ++ key.now ∷ []
held_more [] key = refl
held_more (k ∷ ks) key = ap (λ names. k.now ∷ names) (held_more ks key)

pub none_noted : (names : List Symbol) → names ≡ names ++ []
none_noted names = sym (append-nil names)

-- how many pass a test, and whether one does
any_counted : (p : Symbol → Bool) (xs : List Symbol) → list_any p xs ≡ nat_le 1 (length (filter p xs))
any_counted p [] = grind (arith, nat_tests)
any_counted p (x ∷ xs) = by (p x) (any_counted p xs)
  where
    by : (b : Bool) → list_any p xs ≡ nat_le 1 (length (filter p xs)) → (b || list_any p xs) ≡ nat_le 1 (length (cond b (x ∷ filter p xs) (filter p xs)))
    by true e = grind (arith, nat_tests)
    by false e = e

any_more : (p q : Symbol → Bool) (more : (x : Symbol) → p x ≡ true → q x ≡ true) (xs : List Symbol) → list_any p xs ≡ true → list_any q xs ≡ true
any_more p q more [] h = h
any_more p q more (x ∷ xs) h = by (p x) refl (any_more p q more xs) h
  where
    or_true : (b : Bool) → (b || true) ≡ true
    or_true true = refl
    or_true false = refl

    by : (b : Bool) → p x ≡ b → (list_any p xs ≡ true → list_any q xs ≡ true) → (b || list_any p xs) ≡ true → (q x || list_any q xs) ≡ true
    by true e f h = rw (more x e) refl
    by false e f h = rw (f h) (or_true (q x))

or_true : (b : Bool) → (b || true) ≡ true
or_true true = refl
or_true false = refl

or_assoc : (a b c : Bool) → ((a || b) || c) ≡ (a || (b || c))
or_assoc true b c = refl
or_assoc false b c = refl

-- another test with the same answer
other_test : (d x y r : Bool) → (y ≡ true → x ≡ true) → (y ≡ false → x ≡ true → r ≡ true) → ((d || x) || r) ≡ ((d || y) || r)
other_test true x y r f g = refl
other_test false true true r f g = refl
other_test false false false r f g = refl
other_test false true false r f g = sym (g refl refl)
other_test false false true r f g = absurd (true≢false (sym (f refl)))

counted_twice : (before xs : List Symbol) (x : Symbol) → length (filter (bytes_eq x) (before ++ x ∷ xs)) ≡ length (filter (bytes_eq x) before) + suc (length (filter (bytes_eq x) xs))
counted_twice before xs x =
    rw (filter-append (bytes_eq x) before (x ∷ xs)) (length-append (filter (bytes_eq x) before) (filter (bytes_eq x) (x ∷ xs)) ∙ ap (λ n. length (filter (bytes_eq x) before) + n) here)
  where
    here : length (filter (bytes_eq x) (x ∷ xs)) ≡ suc (length (filter (bytes_eq x) xs))
    here = rw (nat_list_eq_equiv.refl x) refl

stood : (m n t : ℕ) (b : Bool) → t ≡ m + suc n → b ≡ nat_le 1 m → b ≡ true → nat_le 2 t ≡ true
stood m n t b e f h = grind (arith, nat_tests)

stands_later : (m n t : ℕ) (b : Bool) → t ≡ m + suc n → b ≡ nat_le 1 m → b ≡ false → nat_le 2 t ≡ true → nat_le 1 n ≡ true
stands_later m n t b e f h g = grind (arith, nat_tests)

abbrev twice : List Symbol → Symbol → Bool
twice all name = nat_le 2 (length (filter (bytes_eq name) all))

same : (all : List Symbol) (dummy : Symbol → Bool) (x : Symbol) → twice all x ≡ true → (y : Symbol) → bytes_eq x y ≡ true → (dummy y || twice all y) ≡ true
same all dummy x t y h = let e : x ≡ y = same_text x y (sym h) in rw (subst (λ z. twice all z ≡ true) e t) (or_true (dummy y))

-- the first of the names is misplaced, or another is behind one name more
misplaces_step : (dummy : Symbol → Bool) (before : List Symbol) (x : Symbol) (xs : List Symbol)
    → misplaces dummy before (x ∷ xs) ≡ ((dummy x || list_any (bytes_eq x) before) || misplaces dummy (before ++ x ∷ []) xs)
misplaces_step dummy before x xs =
    other_test (dummy x) (twice (before ++ x ∷ xs) x) (list_any (bytes_eq x) before) (list_any (λ name. dummy name || twice (before ++ x ∷ xs) name) xs)
    (stood (length (filter (bytes_eq x) before)) (length (filter (bytes_eq x) xs)) _ (list_any (bytes_eq x) before) (counted_twice before xs x) (any_counted (bytes_eq x) before))
    (λ y t. later t (any_counted (bytes_eq x) xs ∙ stands_later (length (filter (bytes_eq x) before)) (length (filter (bytes_eq x) xs)) _
    (list_any (bytes_eq x) before) (counted_twice before xs x) (any_counted (bytes_eq x) before) y t))
    ∙ ap (λ all. (dummy x || list_any (bytes_eq x) before) || list_any (λ name. dummy name || nat_le 2 (length (filter (bytes_eq name) all))) xs) (sym (append_assoc before (x ∷ []) xs))
  where
    later : twice (before ++ x ∷ xs) x ≡ true → list_any (bytes_eq x) xs ≡ true → list_any (λ name. dummy name || twice (before ++ x ∷ xs) name) xs ≡ true
    later t h = any_more (bytes_eq x) (λ name. dummy name || twice (before ++ x ∷ xs) name) (same (before ++ x ∷ xs) dummy x t) xs h

misplaces_append : (dummy : Symbol → Bool) (before xs ys : List Symbol)
    → misplaces dummy before (xs ++ ys) ≡ (misplaces dummy before xs || misplaces dummy (before ++ xs) ys)
misplaces_append dummy before [] ys = rw (append-nil before) refl
misplaces_append dummy before (x ∷ xs) ys = by (misplaces_append dummy (before ++ x ∷ []) xs ys)
  where
    by : misplaces dummy (before ++ x ∷ []) (xs ++ ys) ≡ (misplaces dummy (before ++ x ∷ []) xs || misplaces dummy ((before ++ x ∷ []) ++ xs) ys)
        → misplaces dummy before (x ∷ (xs ++ ys)) ≡ (misplaces dummy before (x ∷ xs) || misplaces dummy (before ++ x ∷ xs) ys)
    by e =
        let h = dummy x || list_any (bytes_eq x) before in
        let f = misplaces dummy (before ++ x ∷ []) xs in
        misplaces_step dummy before x (xs ++ ys)
        ∙ ap (λ b. h || b) e
        ∙ ap (λ all. h || (f || misplaces dummy all ys)) (append_assoc before (x ∷ []) xs)
        ∙ sym (or_assoc h f (misplaces dummy (before ++ x ∷ xs) ys))
        ∙ ap (λ b. b || misplaces dummy (before ++ x ∷ xs) ys) (sym (misplaces_step dummy before x xs))

not_not : (b c : Bool) → b ≡ not c → not b ≡ c
not_not b true e = rw e refl
not_not b false e = rw e refl

pub was_held : (name : Symbol) (keys : List (Bor (List ℕ))) (b : Bool) → b ≡ not (list_any (λ key. bytes_eq name key.now) keys) → not b ≡ list_any (bytes_eq name) (names_held keys)
was_held name keys b e = not_not b _ e ∙ held_any name keys

-- the items of a list from number i on: item i, and those behind it
module _ (dummy : Symbol → Bool) (before items : List Symbol) (i : ℕ) (x : Symbol) (below : i < length items) (is : x ≡ get_or items i x) where
  rest_is : drop i items ≡ x ∷ drop (i + 1) items
  rest_is = rw add-one (drop-cons items i x below ∙ ap (λ y. y ∷ drop (suc i) items) (sym is))

  pub item_found : (b : Bool) → b ≡ (dummy x || list_any (bytes_eq x) before) → b ≡ true → true ≡ misplaces dummy before (drop i items)
  item_found b e t = rw rest_is (sym (misplaces_step dummy before x (drop (i + 1) items) ∙ ap (λ d. d || misplaces dummy (before ++ x ∷ []) (drop (i + 1) items)) (sym e ∙ t)))

  pub item_passed : (b : Bool) → b ≡ (dummy x || list_any (bytes_eq x) before) → b ≡ false
      → misplaces dummy before (drop i items) ≡ misplaces dummy (before ++ x ∷ []) (drop (i + 1) items)
  item_passed b e t = rw rest_is (misplaces_step dummy before x (drop (i + 1) items) ∙ ap (λ d. d || misplaces dummy (before ++ x ∷ []) (drop (i + 1) items)) (sym e ∙ t))

  pub item_held : before ++ drop i items ≡ (before ++ x ∷ []) ++ drop (i + 1) items
  item_held = rw rest_is (sym (append_assoc before (x ∷ []) (drop (i + 1) items)))

-- the first of the groups breaks the clause, or the others do behind its names
groups_step : (bounds : Symbol → List ℕ) (kinds : Symbol → Kind) (dummy : Symbol → Bool) (before : List Symbol) (g : GroupFields) (gs : List GroupFields)
    → groups_break bounds kinds dummy before (g ∷ gs)
    ≡ ((misplaces dummy before g.names || not (fills bounds kinds g)) || groups_break bounds kinds dummy (before ++ g.names) gs)
groups_step bounds kinds dummy before g gs =
    ap (λ b. b || (not (fills bounds kinds g) || list_any (λ group. not (fills bounds kinds group)) gs)) (misplaces_append dummy before g.names (names_of_groups gs))
    ∙ turned (misplaces dummy before g.names) (misplaces dummy (before ++ g.names) (names_of_groups gs)) (not (fills bounds kinds g)) (list_any (λ group. not (fills bounds kinds group)) gs)
  where
    turned : (a b c d : Bool) → ((a || b) || (c || d)) ≡ ((a || c) || (b || d))
    turned true b c d = refl
    turned false true true d = refl
    turned false true false d = refl
    turned false false c d = refl

-- the groups of a list from number i on: group i, and those behind it
module _ (bounds : Symbol → List ℕ) (kinds : Symbol → Kind) (dummy : Symbol → Bool) (before : List Symbol) (groups : List DataGroup) (i : ℕ) (g : DataGroup)
    (below : i < length groups) (is : g ≡ get_or groups i g) where
  groups_are : map data_group_of (drop i groups) ≡ data_group_of g ∷ map data_group_of (drop (i + 1) groups)
  groups_are = rw add-one (ap (map data_group_of) (drop-cons groups i g below ∙ ap (λ y. y ∷ drop (suc i) groups) (sym is)))

  group_step : (a b : Bool) → a ≡ misplaces dummy before g.names.items → b ≡ fills bounds kinds (data_group_of g)
      → groups_break bounds kinds dummy before (map data_group_of (drop i groups))
      ≡ ((a || not b) || groups_break bounds kinds dummy (before ++ g.names.items) (map data_group_of (drop (i + 1) groups)))
  group_step a b e f =
      ap (groups_break bounds kinds dummy before) groups_are
      ∙ groups_step bounds kinds dummy before (data_group_of g) (map data_group_of (drop (i + 1) groups))
      ∙ (λ k. (sym e k || not (sym f k)) || groups_break bounds kinds dummy (before ++ g.names.items) (map data_group_of (drop (i + 1) groups)))

  pub group_misplaced : true ≡ misplaces dummy before g.names.items → true ≡ groups_break bounds kinds dummy before (map data_group_of (drop i groups))
  group_misplaced e = sym (group_step true _ e refl)

  pub group_unfilled : false ≡ fills bounds kinds (data_group_of g) → true ≡ groups_break bounds kinds dummy before (map data_group_of (drop i groups))
  group_unfilled f =
      sym (group_step _ false refl f
      ∙ ap (λ b. b || groups_break bounds kinds dummy (before ++ g.names.items) (map data_group_of (drop (i + 1) groups))) (either_true (misplaces dummy before g.names.items)))
    where
      either_true : (b : Bool) → (b || true) ≡ true
      either_true true = refl
      either_true false = refl

  pub group_passed : false ≡ misplaces dummy before g.names.items → true ≡ fills bounds kinds (data_group_of g)
      → groups_break bounds kinds dummy before (map data_group_of (drop i groups))
      ≡ groups_break bounds kinds dummy (before ++ g.names.items) (map data_group_of (drop (i + 1) groups))
  group_passed e f = group_step false true e f

  pub group_held : before ++ names_of_groups (map data_group_of (drop i groups)) ≡ (before ++ g.names.items) ++ names_of_groups (map data_group_of (drop (i + 1) groups))
  group_held =
      ap (λ gs. before ++ names_of_groups gs) groups_are ∙ sym (append_assoc before g.names.items (names_of_groups (map data_group_of (drop (i + 1) groups))))
