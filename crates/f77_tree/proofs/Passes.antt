-- Nodes that change places in joined lists of sites.
use Rattle.f77_tree.proofs.Common.{map, refl, ◌≡◌, drop, ℕ, sym, ◌∙◌, ap, arith, ◌++◌, List, [], ◌∷◌, Bool, true, take, false, length, ◌<◌, Option, ◌+◌, ◌≢◌}
use Rattle.f77_tree.proofs.Common.{Some, subst, suc, ◌-◌, ◌≤◌, None, get_or, append-nil, append_assoc, inl, inr, option_map, slice_get, take_all, true≢false}
use Rattle.f77_tree.proofs.Common.{zero, drop-set-lt, length-append, set, map-append, drop_all, drop_more, length-map, map_push, set_split, take_more_set}
use Rattle.f77_tree.proofs.Common.{NodeOf, tree_sites, trees, Tree, group_sites, GroupFields, Site, Trees, list_sites, site_within, value_sites, item_sites}
use Rattle.f77_tree.proofs.Common.{fixed, put_node, Sought, PassedBy, Swapped, put_number, Value}
use Rattle.std.proofs.lemmas.Bool.{cases_lt}
use Rattle.std.proofs.lemmas.Option.{slice_get-map}

-- one site replaced within something larger
put_within : {X Y : Type 0} (f : X → Y) (o : Option (Site X)) (n : NodeOf) (x : X) → put_node (option_map (site_within f) o) n (f x) ≡ f (put_node o n x)
put_within f None n x = refl
put_within f (Some s) n x = refl

put_one : {X Y : Type 0} (f : X → Y) (xs : List (Site X)) (k : ℕ) (n : NodeOf) (x : X) → put_number (map (site_within f) xs) k n (f x) ≡ f (put_number xs k n x)
put_one f xs zero n x = refl
put_one f xs (suc k) n x = ap (λ o. put_node o n (f x)) (slice_get-map (site_within f) xs k) ∙ put_within f (slice_get xs k) n x

-- a number among the first of two lists, or among the others
put_front : {X : Type 0} (xs ys : List (Site X)) (k : ℕ) (n : NodeOf) (x : X) → k ≤ length xs → put_number (xs ++ ys) k n x ≡ put_number xs k n x
put_front xs ys zero n x h = refl
put_front [] ys (suc k) n x h = absurd (omega arith)
put_front (s ∷ xs) ys (suc zero) n x h = refl
put_front (s ∷ xs) ys (suc (suc k)) n x h = put_front xs ys (suc k) n x (omega arith)

put_back : {X : Type 0} (xs ys : List (Site X)) (k : ℕ) (n : NodeOf) (x : X) → length xs < k → put_number (xs ++ ys) k n x ≡ put_number ys (k - length xs) n x
put_back [] ys k n x h = ap (λ j. put_number ys j n x) (omega arith)
put_back (s ∷ xs) ys zero n x h = absurd (omega arith)
put_back (s ∷ xs) ys (suc zero) n x h = absurd (omega arith)
put_back (s ∷ xs) ys (suc (suc k)) n x h =
    let e : suc k - length xs ≡ suc (suc k) - suc (length xs) = omega arith in
    put_back xs ys (suc k) n x (omega arith) ∙ ap (λ j. put_number ys j n x) e

-- past the last site nothing changes
put_past : {X : Type 0} (xs : List (Site X)) (k : ℕ) (n : NodeOf) (x : X) → length xs < k → put_number xs k n x ≡ x
put_past xs zero n x h = refl
put_past [] (suc k) n x h = refl
put_past (s ∷ xs) (suc zero) n x h = absurd (omega arith)
put_past (s ∷ xs) (suc (suc k)) n x h = put_past xs (suc k) n x (omega arith)

put_nowhere : {X : Type 0} (k : ℕ) (n : NodeOf) (x : X) → put_number [] k n x ≡ x
put_nowhere zero n x = refl
put_nowhere (suc k) n x = refl

put_none : {X : Type 0} (xs : List (Site X)) (k : ℕ) (n : NodeOf) (x : X) → k ≡ 0 → put_number xs k n x ≡ x
put_none xs k n x e = ap (λ j. put_number xs j n x) e

-- two parts side by side
abbrev pub side_by_side : {X Y Z : Type 0} → (X → Y → Z) → List (Site X) → List (Site Y) → X → Y → List (Site Z)
side_by_side h xs ys x y = map (site_within (λ u. h u y)) xs ++ map (site_within (h x)) ys

put_two : {X Y Z : Type 0} (h : X → Y → Z) (xs : List (Site X)) (ys : List (Site Y)) (k : ℕ) (n : NodeOf) (x : X) (y : Y)
    → put_number (side_by_side h xs ys x y) k n (h x y) ≡ h (put_number xs k n x) (put_number ys (k - length xs) n y)
put_two h xs ys k n x y = elim (cases_lt (length xs) k) [
  | inr low ↦ put_front (map (site_within (λ u. h u y)) xs) (map (site_within (h x)) ys) k n (h x y) (omega (arith, low, length-map xs (site_within (λ u. h u y))))
      ∙ put_one (λ u. h u y) xs k n x ∙ ap (λ z. h (put_number xs k n x) z) (sym (put_none ys (k - length xs) n y (omega (arith, low))))
  | inl high ↦ put_back (map (site_within (λ u. h u y)) xs) (map (site_within (h x)) ys) k n (h x y) (omega (arith, high, length-map xs (site_within (λ u. h u y))))
      ∙ ap (λ j. put_number (map (site_within (h x)) ys) (k - j) n (h x y)) (length-map xs (site_within (λ u. h u y)))
      ∙ put_one (h x) ys (k - length xs) n y ∙ ap (λ z. h z (put_number ys (k - length xs) n y)) (sym (put_past xs k n x high))
]

length_two : {X Y Z : Type 0} (h : X → Y → Z) (xs : List (Site X)) (ys : List (Site Y)) (x : X) (y : Y) → length (side_by_side h xs ys x y) ≡ length xs + length ys
length_two h xs ys x y = omega (
  arith,
  length-append (map (site_within (λ u. h u y)) xs) (map (site_within (h x)) ys),
  length-map xs (site_within (λ u. h u y)),
  length-map ys (site_within (h x)),
)

-- a part as one of the whole
module _ {X Z : Type 0} (of : X → List (Site X)) (whole : Z → List (Site Z)) (f : X → Z) (within : (x : X) → whole (f x) ≡ map (site_within f) (of x)) where
  put_inside : (k : ℕ) (n : NodeOf) (x : X) → put_number (whole (f x)) k n (f x) ≡ f (put_number (of x) k n x)
  put_inside k n x = ap (λ l. put_number l k n (f x)) (within x) ∙ put_one f (of x) k n x

  length_inside : (x : X) → length (whole (f x)) ≡ length (of x)
  length_inside x = ap length (within x) ∙ length-map (of x) (site_within f)

  pub sought_one : (answer : Bool) (k j : ℕ) (a b : NodeOf) (x x' : X) → Sought of answer k j a b x x' → Sought whole answer k j a b (f x) (f x')
  sought_one answer k j a b x x' s = record {
    found = λ is. let e : Swapped of k a b x x' = s.found is in record {
      counted = e.counted;
      within = omega (arith, e.within, length_inside x);
      within_new = omega (arith, e.within_new, length_inside x');
      put = ap f e.put ∙ sym (put_inside k a x);
      back = ap f e.back ∙ sym (put_inside k b x');
    };
    passed = λ is. let p : PassedBy of k j a b x x' = s.passed is in record {
      same = ap f p.same;
      kept = p.kept;
      counted = omega (arith, p.counted, length_inside x);
      unchanged = put_inside k a x ∙ ap f p.unchanged;
    };
  }

module _ {X Y Z : Type 0} (of : X → List (Site X)) (on : Y → List (Site Y)) (whole : Z → List (Site Z)) (h : X → Y → Z)
    (both : (x : X) (y : Y) → whole (h x y) ≡ side_by_side h (of x) (on y) x y) where
  put_both : (k : ℕ) (n : NodeOf) (x : X) (y : Y) → put_number (whole (h x y)) k n (h x y) ≡ h (put_number (of x) k n x) (put_number (on y) (k - length (of x)) n y)
  put_both k n x y = ap (λ l. put_number l k n (h x y)) (both x y) ∙ put_two h (of x) (on y) k n x y

  length_both : (x : X) (y : Y) → length (whole (h x y)) ≡ length (of x) + length (on y)
  length_both x y = ap length (both x y) ∙ length_two h (of x) (on y) x y

  -- a node of the first part
  put_first : (k : ℕ) (n : NodeOf) (x : X) (y : Y) → k ≤ length (of x) → put_number (whole (h x y)) k n (h x y) ≡ h (put_number (of x) k n x) y
  put_first k n x y low = put_both k n x y ∙ ap (h (put_number (of x) k n x)) (put_none (on y) (k - length (of x)) n y (omega arith))

  pub sought_first : (done answer : Bool) (k i j : ℕ) (a b : NodeOf) (x x' : X) (y : Y) → done ≡ true → answer ≡ true → Sought of done k i a b x x'
      → Sought whole answer k j a b (h x y) (h x' y)
  sought_first done answer k i j a b x x' y found answer_true s =
      let e : Swapped of k a b x x' = s.found found in
      record {
        found = λ is. record {
          counted = e.counted;
          within = omega (arith, e.within, length_both x y);
          within_new = omega (arith, e.within_new, length_both x' y);
          put = ap (λ u. h u y) e.put ∙ sym (put_first k a x y e.within);
          back = ap (λ u. h u y) e.back ∙ sym (put_first k b x' y e.within_new);
        };
        passed = λ other. absurd (true≢false (sym answer_true ∙ other));
      }

  -- the first part was passed by
  pub sought_second : (done answer : Bool) (k i j : ℕ) (a b c : NodeOf) (x x' : X) (y y' : Y) → done ≡ false → Sought of done k i a b x x' → Sought on answer i j b c y y'
      → Sought whole answer k j a c (h x y) (h x' y')
  sought_second done answer k i j a b c x x' y y' past s t =
      let p : PassedBy of k i a b x x' = s.passed past in
      let n : length (of x') ≡ length (of x) = ap (λ z. length (of z)) p.same in
      record {
        found = λ is. let e : Swapped on i b c y y' = t.found is in record {
          counted = omega (arith, e.counted, p.counted);
          within = omega (arith, e.within, e.counted, p.counted, length_both x y);
          within_new = omega (arith, e.within_new, e.counted, p.counted, n, length_both x' y');
          put =
              ap (λ u. h u y') p.same ∙ ap (h x) (e.put ∙ ap (λ m. put_number (on y) m b y) p.counted ∙ ap (λ m. put_number (on y) (k - length (of x)) m y) p.kept)
              ∙ ap (λ u. h u (put_number (on y) (k - length (of x)) a y)) (sym p.unchanged) ∙ sym (put_both k a x y);
          back =
              ap (λ u. h u y) (sym p.same) ∙ ap (h x') (e.back ∙ ap (λ m. put_number (on y') m c y') (p.counted ∙ ap (λ m. k - m) (sym n)))
              ∙ ap (λ u. h u (put_number (on y') (k - length (of x')) c y'))
              (sym (put_past (of x') k c x' (omega (arith, e.counted, p.counted, n))))
              ∙ sym (put_both k c x' y');
        };
        passed = λ is. let q : PassedBy on i j b c y y' = t.passed is in record {
          same = ap (λ u. h u y') p.same ∙ ap (h x) q.same;
          kept = q.kept ∙ p.kept;
          counted = omega (arith, p.counted, q.counted, length_both x y);
          unchanged =
              put_both k a x y ∙ ap (λ u. h u (put_number (on y) (k - length (of x)) a y)) p.unchanged
              ∙ ap (λ m. h x (put_number (on y) m a y)) (sym p.counted) ∙ ap (λ m. h x (put_number (on y) i m y)) (sym p.kept) ∙ ap (h x) q.unchanged;
        };
      }

-- a node before others
module _ {X : Type 0} (site : X → Site X) (behind : X → List (Site X)) (whole : X → List (Site X)) (first : (x : X) → whole x ≡ site x ∷ behind x) where
  put_next : (k : ℕ) (n : NodeOf) (x : X) → k ≢ 1 → put_number (whole x) k n x ≡ put_number (behind x) (k - 1) n x
  put_next zero n x other = refl
  put_next (suc zero) n x other = absurd (other refl)
  put_next (suc (suc k)) n x other =
      let e : suc k ≡ suc (suc k) - 1 = omega arith in
      ap (λ l. put_number l (suc (suc k)) n x) (first x) ∙ ap (λ m. put_number (behind x) m n x) e

  length_next : (x : X) → length (whole x) ≡ 1 + length (behind x)
  length_next x = omega (arith, ap length (first x))

  pub sought_behind : (answer : Bool) (k i j : ℕ) (a b : NodeOf) (x x' : X) → k ≢ 1 → i ≡ k - 1 → Sought behind answer i j a b x x' → Sought whole answer k j a b x x'
  sought_behind answer k i j a b x x' other falls s = record {
    found = λ is. let e : Swapped behind i a b x x' = s.found is in record {
      counted = omega (arith, e.counted, falls);
      within = omega (arith, e.within, e.counted, falls, length_next x);
      within_new = omega (arith, e.within_new, e.counted, falls, length_next x');
      put = e.put ∙ ap (λ m. put_number (behind x) m a x) falls ∙ sym (put_next k a x other);
      back = e.back ∙ ap (λ m. put_number (behind x') m b x') falls ∙ sym (put_next k b x' other);
    };
    passed = λ is. let p : PassedBy behind i j a b x x' = s.passed is in record {
      same = p.same;
      kept = p.kept;
      counted = omega (arith, p.counted, falls, length_next x);
      unchanged = put_next k a x other ∙ ap (λ m. put_number (behind x) m a x) (sym falls) ∙ p.unchanged;
    };
  }

-- at the first sites nothing is put
put_fixed : {A X : Type 0} (f : A → NodeOf) (names : List A) (xs : List (Site X)) (k : ℕ) (n : NodeOf) (x : X)
    → put_number (map (λ a. fixed x (f a)) names ++ xs) k n x ≡ put_number xs (k - length names) n x
put_fixed f [] xs k n x = ap (λ j. put_number xs j n x) (omega arith)
put_fixed f (a ∷ names) xs zero n x = sym (put_none xs (0 - length (a ∷ names)) n x (omega arith))
put_fixed f (a ∷ names) xs (suc zero) n x = sym (put_none xs (1 - length (a ∷ names)) n x (omega arith))
put_fixed f (a ∷ names) xs (suc (suc k)) n x =
    let e : suc k - length names ≡ suc (suc k) - suc (length names) = omega arith in
    put_fixed f names xs (suc k) n x ∙ ap (λ j. put_number xs j n x) e

-- nodes that stay are passed by
pub passed_fixed : {A X : Type 0} (of : X → List (Site X)) (f : A → NodeOf) (names : List A) (answer : Bool) (k j : ℕ) (a : NodeOf) (x : X)
    → of x ≡ map (λ n. fixed x (f n)) names → answer ≡ false → j ≡ k - length names → Sought of answer k j a a x x
passed_fixed of f names answer k j a x all answer_false falls = record {
  found = λ is. absurd (true≢false (sym is ∙ answer_false));
  passed = λ is. record {
    same = refl;
    kept = refl;
    counted = omega (arith, falls, ap length all, length-map names (λ n. fixed x (f n)));
    unchanged =
        ap (λ l. put_number l k a x) (all ∙ sym (append-nil (map (λ n. fixed x (f n)) names))) ∙ put_fixed f names [] k a x
        ∙ put_nowhere (k - length names) a x;
  };
}

-- a group of DATA: its names are passed by, its values are looked at
module _ (names : List (List ℕ)) where
  abbrev Group : List Value → GroupFields
  Group values = record { names = names; values = values }

  abbrev Values : List Value → List (Site GroupFields)
  Values values = map (site_within Group) (list_sites value_sites values)

  put_group : (k : ℕ) (n : NodeOf) (values : List Value)
      → put_number (group_sites (Group values)) k n (Group values) ≡ Group (put_number (list_sites value_sites values) (k - length names) n values)
  put_group k n values = put_fixed NodeOf.Named names (Values values) k n (Group values) ∙ put_one Group (list_sites value_sites values) (k - length names) n values

  length_group : (values : List Value) → length (group_sites (Group values)) ≡ length names + length (list_sites value_sites values)
  length_group values = omega (
    arith,
    length-append (map (λ name. fixed (Group values) (NodeOf.Named name)) names) (Values values),
    length-map names (λ name. fixed (Group values) (NodeOf.Named name)),
    length-map (list_sites value_sites values) (site_within Group),
  )

  pub sought_group : (answer : Bool) (k i j : ℕ) (a b : NodeOf) (vs vs' : List Value) → i ≡ k - length names → Sought (list_sites value_sites) answer i j a b vs vs'
      → Sought group_sites answer k j a b (Group vs) (Group vs')
  sought_group answer k i j a b vs vs' falls s = record {
    found = λ is. let e : Swapped (list_sites value_sites) i a b vs vs' = s.found is in record {
      counted = omega (arith, e.counted, falls);
      within = omega (arith, e.within, e.counted, falls, length_group vs);
      within_new = omega (arith, e.within_new, e.counted, falls, length_group vs');
      put = ap Group (e.put ∙ ap (λ m. put_number (list_sites value_sites vs) m a vs) falls) ∙ sym (put_group k a vs);
      back = ap Group (e.back ∙ ap (λ m. put_number (list_sites value_sites vs') m b vs') falls) ∙ sym (put_group k b vs');
    };
    passed = λ is. let p : PassedBy (list_sites value_sites) i j a b vs vs' = s.passed is in record {
      same = ap Group p.same;
      kept = p.kept;
      counted = omega (arith, p.counted, falls, length_group vs);
      unchanged = put_group k a vs ∙ ap Group (ap (λ m. put_number (list_sites value_sites vs) m a vs) (sym falls) ∙ p.unchanged);
    };
  }

pub passed_nothing : {X : Type 0} (of : X → List (Site X)) (k : ℕ) (a : NodeOf) (x : X) → of x ≡ [] → Sought of false k k a a x x
passed_nothing of zero a x none = record {
  found = λ is. absurd (true≢false (sym is));
  passed = λ is. record { same = refl; kept = refl; counted = omega (arith, ap length none); unchanged = refl };
}
passed_nothing of (suc k) a x none = record {
  found = λ is. absurd (true≢false (sym is));
  passed = λ is. record { same = refl; kept = refl; counted = omega (arith, ap length none); unchanged = ap (λ l. put_number l (suc k) a x) none };
}

-- a pass over a list as far as it has come: what is found in the rest is found in the whole
abbrev pub Passing : {X : Type 0} → (X → List (Site X)) → List X → List X → List X → ℕ → ℕ → NodeOf → NodeOf → Type 0
Passing {X = X} of before rest whole start k a b =
    (answer : Bool) (j : ℕ) (c : NodeOf) (final : List X) → Sought (list_sites of) answer k j b c rest final → Sought (list_sites of) answer start j a c whole (before ++ final)

module _ {X : Type 0} (of : X → List (Site X)) where
  passing_on : (before rest whole grown left : List X) (x x' : X) (done : Bool) (start k i : ℕ) (a b c : NodeOf) → Passing of before rest whole start k a b
      → rest ≡ x ∷ left → grown ≡ before ++ x' ∷ [] → done ≡ false → Sought of done k i b c x x' → Passing of grown left whole start i a c
  passing_on before rest whole grown left x x' done start k i a b c p split pushed past s answer j d final t =
      let q : Sought (list_sites of) answer k j b d rest (x' ∷ final) =
      subst (λ (l : List X). Sought (list_sites of) answer k j b d l (x' ∷ final)) (sym split)
      (sought_second of (list_sites of) (list_sites of) (λ u us. u ∷ us) (λ u us. refl) done answer k i j b c d x x' left final past s t) in
      subst (λ (l : List X). Sought (list_sites of) answer start j a d whole l) (sym (ap (λ l. l ++ final) pushed ∙ append_assoc before (x' ∷ []) final)) (p answer j d (x' ∷ final) q)

  passing_finds : (before rest whole left final : List X) (x x' : X) (done answer : Bool) (start k i j : ℕ) (a b c : NodeOf) → Passing of before rest whole start k a b
      → rest ≡ x ∷ left → final ≡ before ++ x' ∷ left → done ≡ true → answer ≡ true → Sought of done k i b c x x' → Sought (list_sites of) answer start j a c whole final
  passing_finds before rest whole left final x x' done answer start k i j a b c p split is found answer_true s =
      let q : Sought (list_sites of) answer k j b c rest (x' ∷ left) =
      subst (λ (l : List X). Sought (list_sites of) answer k j b c l (x' ∷ left)) (sym split)
      (sought_first of (list_sites of) (list_sites of) (λ u us. u ∷ us) (λ u us. refl) done answer k i j b c x x' left found answer_true s) in
      subst (λ (l : List X). Sought (list_sites of) answer start j a c whole l) (sym is) (p answer j c (x' ∷ left) q)

  passing_ends : (before rest whole final : List X) (start k : ℕ) (a b : NodeOf) → Passing of before rest whole start k a b → rest ≡ [] → final ≡ before
      → Sought (list_sites of) false start k a b whole final
  passing_ends before rest whole final start k a b p none is =
      let q : Sought (list_sites of) false k k b b rest [] =
      subst (λ (l : List X). Sought (list_sites of) false k k b b l []) (sym none) (passed_nothing (list_sites of) k b [] refl) in
      subst (λ (l : List X). Sought (list_sites of) false start k a b whole l) (sym (is ∙ sym (append-nil before))) (p false k b [] q)

  -- the item of a loop that changes the items, and its end
  module _ (items whole : List X) (i start k : ℕ) (a b : NodeOf) (p : Passing of (take i items) (drop i items) whole start k a b) where
    pub next_item : (d x x' : X) (done : Bool) (m : ℕ) (c : NodeOf) → i < length items → x ≡ get_or items i d → done ≡ false → Sought of done k m b c x x'
        → Passing of (take (i + 1) (set items i x')) (drop (i + 1) (set items i x')) whole start m a c
    next_item d x x' done m c here is past s =
        let split : drop i items ≡ x ∷ drop (i + 1) (set items i x') =
        drop_more items i d here ∙ ap (λ y. y ∷ drop (i + 1) items) (sym is) ∙ ap (λ l. x ∷ l) (sym (drop-set-lt (i + 1) items i x' (omega arith))) in
        passing_on (take i items) (drop i items) whole _ _ x x' done start k m a b c p split (take_more_set items i x' here) past s

    pub found_item : (d x x' : X) (done answer : Bool) (m j : ℕ) (c : NodeOf) → i < length items → x ≡ get_or items i d → done ≡ true → answer ≡ true
        → Sought of done k m b c x x' → Sought (list_sites of) answer start j a c whole (set items i x')
    found_item d x x' done answer m j c here is found answer_true s =
        let next : suc i ≡ i + 1 = omega arith in
        passing_finds (take i items) (drop i items) whole (drop (i + 1) items) (set items i x') x x' done answer start k m j a b c p
        (drop_more items i d here ∙ ap (λ y. y ∷ drop (i + 1) items) (sym is)) (set_split items i x' here ∙ ap (λ n. take i items ++ x' ∷ drop n items) next) found answer_true s

    pub last_item : length items ≤ i → Sought (list_sites of) false start k a b whole items
    last_item over = passing_ends (take i items) (drop i items) whole items start k a b p (drop_all i items over) (sym (take_all i items over))

  -- an item of the loop and its end, where the items stand for others
  module _ {E : Type 0} (view : E → X) (items : List E) (whole : List X) (i start k : ℕ) (a b : NodeOf)
      (p : Passing of (map view (take i items)) (map view (drop i items)) whole start k a b) where
    pub next_viewed : (e e' : E) (done : Bool) (m : ℕ) (c : NodeOf) → i < length items → e ≡ get_or items i e → done ≡ false → Sought of done k m b c (view e) (view e')
        → Passing of (map view (take (i + 1) (set items i e'))) (map view (drop (i + 1) (set items i e'))) whole start m a c
    next_viewed e e' done m c here is past s =
        let split : drop i items ≡ e ∷ drop (i + 1) (set items i e') =
        drop_more items i e here ∙ ap (λ y. y ∷ drop (i + 1) items) (sym is) ∙ ap (λ l. e ∷ l) (sym (drop-set-lt (i + 1) items i e' (omega arith))) in
        passing_on (map view (take i items)) (map view (drop i items)) whole _ _ (view e) (view e') done start k m a b c p (ap (map view) split)
        (ap (map view) (take_more_set items i e' here) ∙ map_push view (take i items) e') past s

    pub found_viewed : (e e' : E) (done answer : Bool) (m j : ℕ) (c : NodeOf) → i < length items → e ≡ get_or items i e → done ≡ true → answer ≡ true
        → Sought of done k m b c (view e) (view e') → Sought (list_sites of) answer start j a c whole (map view (set items i e'))
    found_viewed e e' done answer m j c here is found answer_true s =
        let next : suc i ≡ i + 1 = omega arith in
        passing_finds (map view (take i items)) (map view (drop i items)) whole (map view (drop (i + 1) items)) (map view (set items i e')) (view e) (view e') done answer start k m j a b c p
        (ap (map view) (drop_more items i e here ∙ ap (λ y. y ∷ drop (i + 1) items) (sym is)))
        (ap (map view) (set_split items i e' here ∙ ap (λ n. take i items ++ e' ∷ drop n items) next) ∙ map-append view (take i items) (e' ∷ drop (i + 1) items)) found answer_true s

    pub last_viewed : length items ≤ i → Sought (list_sites of) false start k a b whole (map view items)
    last_viewed over =
        passing_ends (map view (take i items)) (map view (drop i items)) whole (map view items) start k a b p (ap (map view) (drop_all i items over))
        (ap (map view) (sym (take_all i items over)))

within_within : {X Y Z : Type 0} (f : Y → Z) (g : X → Y) (xs : List (Site X)) → map (site_within f) (map (site_within g) xs) ≡ map (site_within (λ x. f (g x))) xs
within_within f g [] = refl
within_within f g (s ∷ xs) = ap (λ l. (s.0, λ n. f (g (s.1 n))) ∷ l) (within_within f g xs)

-- the sites of both parts of a pair
abbrev pub pair_sites : {X Y : Type 0} → (X → List (Site X)) → (Y → List (Site Y)) → X × Y → List (Site (X × Y))
pair_sites of on p = side_by_side (λ u v. (u, v)) (of p.0) (on p.1) p.0 p.1

module _ {X Y : Type 0} (of : X → List (Site X)) (on : Y → List (Site Y)) where
  pub in_first : (done answer : Bool) (k i j : ℕ) (a b : NodeOf) (x x' : X) (y : Y) → done ≡ true → answer ≡ true → Sought of done k i a b x x'
      → Sought (pair_sites of on) answer k j a b (x, y) (x', y)
  in_first = sought_first of on (pair_sites of on) (λ u v. (u, v)) (λ u v. refl)

  pub in_second : (done answer : Bool) (k i j : ℕ) (a b c : NodeOf) (x x' : X) (y y' : Y) → done ≡ false → Sought of done k i a b x x' → Sought on answer i j b c y y'
      → Sought (pair_sites of on) answer k j a c (x, y) (x', y')
  in_second = sought_second of on (pair_sites of on) (λ u v. (u, v)) (λ u v. refl)

  pub within_pair : {Z : Type 0} (f : X × Y → Z) (x : X) (y : Y)
      → map (site_within f) (pair_sites of on (x, y)) ≡ map (site_within (λ u. f (u, y))) (of x) ++ map (site_within (λ v. f (x, v))) (on y)
  within_pair f x y =
      map-append (site_within f) (map (site_within (λ u. (u, y))) (of x)) (map (site_within (λ v. (x, v))) (on y))
      ∙ ap (λ l. l ++ map (site_within f) (map (site_within (λ v. (x, v))) (on y))) (within_within f (λ u. (u, y)) (of x))
      ∙ ap (λ l. map (site_within (λ u. f (u, y))) (of x) ++ l) (within_within f (λ v. (x, v)) (on y))

-- subscripts and arguments are a list too
items_listed : (ts : List Tree) → item_sites (trees ts) ≡ map (site_within trees) (list_sites tree_sites ts)
items_listed [] = refl
items_listed (t ∷ ts) =
    ap (λ l. map (site_within (λ u. Trees.Then u (trees ts))) (tree_sites t) ++ map (site_within (Trees.Then t)) l) (items_listed ts)
    ∙ ap (λ l. map (site_within (λ u. Trees.Then u (trees ts))) (tree_sites t) ++ l) (within_within (Trees.Then t) trees (list_sites tree_sites ts))
    ∙ sym (map-append (site_within trees) (map (site_within (λ u. u ∷ ts)) (tree_sites t)) (map (site_within (λ us. t ∷ us)) (list_sites tree_sites ts))
    ∙ ap (λ l. l ++ map (site_within trees) (map (site_within (λ us. t ∷ us)) (list_sites tree_sites ts))) (within_within trees (λ u. u ∷ ts) (tree_sites t))
    ∙ ap (λ l. map (site_within (λ u. Trees.Then u (trees ts))) (tree_sites t) ++ l) (within_within trees (λ us. t ∷ us) (list_sites tree_sites ts)))

pub sought_items : (answer : Bool) (k j : ℕ) (a b : NodeOf) (ts ts' : List Tree) → Sought (list_sites tree_sites) answer k j a b ts ts'
    → Sought item_sites answer k j a b (trees ts) (trees ts')
sought_items answer k j a b ts ts' s = sought_one (list_sites tree_sites) item_sites trees items_listed answer k j a b ts ts' s
