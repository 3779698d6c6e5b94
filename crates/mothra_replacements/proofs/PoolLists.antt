-- Lists that keep each item once, where it comes first, as loops make them.
use Rattle.mothra_replacements.proofs.Common.{◌≡◌, map, List, ap, refl, ◌∙◌, [], filter, sym, ◌∷◌, not, None, take, true, ℕ, Bool, Some, false, Option, ◌++◌}
use Rattle.mothra_replacements.proofs.Common.{get_or, length, ◌<◌, ◌+◌, if◌then◌else◌, append-nil, map-append, take_more, filter-append, filter_map-append}
use Rattle.mothra_replacements.proofs.Common.{filter_map, cons_option, list_any, each_once}
use Rattle.std.specs.Cmp.{IsEquivalence}
use Rattle.std.proofs.lemmas.Map.Views.{any-filter_same}

module _ {X : Type 0} (same : X → X → Bool) (laws : IsEquivalence same) where
  -- an item that is the same as q differs from x where q does
  other_than : (q x k : X) → same q x ≡ false → same q k ≡ true → not (same x k) ≡ true
  other_than q x k apart equal = ap not (laws.symm x k ∙ (sym (laws.congr q k x equal) ∙ apart))

  abbrev without : X → List X → List X
  without x xs = filter (λ other. not (same x other)) xs

  -- the list with each item once has the items of the list
  pub any_once : (q : X) (xs : List X) → list_any (same q) (each_once same xs) ≡ list_any (same q) xs
  any_once q [] = refl
  any_once q (x ∷ xs) = by (same q x) refl (any_once q xs)
    where
      by : (b : Bool) → same q x ≡ b → list_any (same q) (each_once same xs) ≡ list_any (same q) xs
          → list_any (same q) (each_once same (x ∷ xs)) ≡ list_any (same q) (x ∷ xs)
      by true e rest = rw e refl
      by false e rest = rw e (any-filter_same (same q) (λ other. not (same x other)) true (λ k f. other_than q x k e f) (each_once same xs) ∙ rest)

  -- one more item: it goes to the end, unless the list has it
  abbrev with_new : List X → X → List X
  with_new xs x = if list_any (same x) xs then each_once same xs else each_once same xs ++ x ∷ []

  pub once_push : (xs : List X) (x : X) → each_once same (xs ++ x ∷ []) ≡ (if list_any (same x) xs then each_once same xs else each_once same xs ++ x ∷ [])
  once_push [] x = refl
  once_push (y ∷ ys) x = by (list_any (same x) ys) refl (same x y) refl (once_push ys x)
    where
      by : (a : Bool) → list_any (same x) ys ≡ a → (b : Bool) → same x y ≡ b → each_once same (ys ++ x ∷ []) ≡ with_new ys x
          → each_once same ((y ∷ ys) ++ x ∷ []) ≡ with_new (y ∷ ys) x
      by true e true f rest = rw (rest, e, f) refl
      by true e false f rest = rw (rest, e, f) refl
      by false e true f rest =
          let g : same y x ≡ true = laws.symm y x ∙ f in
          rw (rest, e, f) (ap (λ z. y ∷ z) (filter-append (λ other. not (same y other)) (each_once same ys) (x ∷ []) ∙ rw g (append-nil (without y (each_once same ys)))))
      by false e false f rest =
          let g : same y x ≡ false = laws.symm y x ∙ f in
          rw (rest, e, f) (ap (λ z. y ∷ z) (filter-append (λ other. not (same y other)) (each_once same ys) (x ∷ []) ∙ rw g refl))

  -- the list of what h gives of the first nodes, each once, and one node more
  module _ {N : Type 0} (h : N → Option X) (ns : List N) (n : N) where
    more : filter_map h (ns ++ n ∷ []) ≡ filter_map h ns ++ cons_option (h n) []
    more = filter_map-append h ns (n ∷ [])

    pub none_more : h n ≡ None → each_once same (filter_map h (ns ++ n ∷ [])) ≡ each_once same (filter_map h ns)
    none_more none = ap (each_once same) (more ∙ (ap (λ o. filter_map h ns ++ cons_option o []) none ∙ append-nil (filter_map h ns)))

    pub one_more : (x : X) → h n ≡ Some x → each_once same (filter_map h (ns ++ n ∷ [])) ≡ with_new (filter_map h ns) x
    one_more x some = ap (each_once same) (more ∙ ap (λ o. filter_map h ns ++ cons_option o []) some) ∙ once_push (filter_map h ns) x

    pub known_more : (x : X) → h n ≡ Some x → list_any (same x) (each_once same (filter_map h ns)) ≡ true
        → each_once same (filter_map h (ns ++ n ∷ [])) ≡ each_once same (filter_map h ns)
    known_more x some known = let e = sym (any_once x (filter_map h ns)) ∙ known in one_more x some ∙ rw e refl

    pub new_more : (x : X) → h n ≡ Some x → list_any (same x) (each_once same (filter_map h ns)) ≡ false
        → each_once same (filter_map h (ns ++ n ∷ [])) ≡ each_once same (filter_map h ns) ++ x ∷ []
    new_more x some new = let e = sym (any_once x (filter_map h ns)) ∙ new in one_more x some ∙ rw e refl

  -- a search in a list of items, each compared as what g makes of it
  pub any_seen : {W : Type 0} (g : W → X) (w : W) (xs : List W) → list_any (λ known. same (g known) (g w)) xs ≡ list_any (same (g w)) (map g xs)
  any_seen g w [] = refl
  any_seen g w (x ∷ xs) = rw (laws.symm (g x) (g w), any_seen g w xs) refl

  -- the steps of a loop over nodes: v gives the value of a node, and g that of an item in the list
  module _ {M N W : Type 0} (h : N → Option X) (v : M → N) (g : W → X) (ms : List M) (i : ℕ) {m : M} (d : M) (old : List W)
      (at : m ≡ get_or ms i d) (lt : i < length ms) (is : map g old ≡ each_once same (filter_map h (map v (take i ms)))) where
    step : map v (take (i + 1) ms) ≡ map v (take i ms) ++ v m ∷ []
    step = ap (map v) (take_more ms i d lt ∙ ap (λ y. take i ms ++ y ∷ []) (sym at)) ∙ map-append v (take i ms) (m ∷ [])

    pub passed_over : h (v m) ≡ None → map g old ≡ each_once same (filter_map h (map v (take (i + 1) ms)))
    passed_over none = is ∙ (sym (none_more h (map v (take i ms)) (v m) none) ∙ ap (λ ns. each_once same (filter_map h ns)) (sym step))

    pub known_before : (w : W) → h (v m) ≡ Some (g w) → list_any (λ known. same (g known) (g w)) old ≡ true
        → map g old ≡ each_once same (filter_map h (map v (take (i + 1) ms)))
    known_before w some known =
        let e = ap (list_any (same (g w))) (sym is) ∙ sym (any_seen g w old) ∙ known in
        is ∙ (sym (known_more h (map v (take i ms)) (v m) (g w) some e) ∙ ap (λ ns. each_once same (filter_map h ns)) (sym step))

    pub listed_new : (w : W) {new : List W} → h (v m) ≡ Some (g w) → list_any (λ known. same (g known) (g w)) old ≡ false → new ≡ old ++ w ∷ []
        → map g new ≡ each_once same (filter_map h (map v (take (i + 1) ms)))
    listed_new w some unknown pushed =
        let e = ap (list_any (same (g w))) (sym is) ∙ sym (any_seen g w old) ∙ unknown in
        ap (map g) pushed ∙ (map-append g old (w ∷ []) ∙ (ap (λ xs. xs ++ g w ∷ []) is
        ∙ (sym (new_more h (map v (take i ms)) (v m) (g w) some e) ∙ ap (λ ns. each_once same (filter_map h ns)) (sym step))))
