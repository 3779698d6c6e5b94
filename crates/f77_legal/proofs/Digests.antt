-- What the program says of a name, from its uses in order.
use Rattle.f77_legal.proofs.Common.{◌≡◌, ◌∙◌, ap, map, List, refl, ℕ, [], false, ◌∷◌, true, ◌++◌, filter, append-nil, filter_map, filter-append}
use Rattle.f77_legal.proofs.Common.{filter_map-append, list_any, cons_option, bytes_eq, Symbol, NameUse, name_in, FactsFields, facts_of, some_items, bounds_in}
use Rattle.f77_legal.proofs.Common.{first_item_or, how_often, is_dummy, kind_in, uses_with, no_facts, with_fact, facts_with_bounds, first_said, once_more}
use Rattle.f77_legal.proofs.Common.{with_kind, Kind, Integer}
use Rattle.f77_legal.proofs.Symbols.{or_false, symbol_symm}

module _ {X : Type 0} where
  times_push : (xs : List X) (x : X) → how_often (xs ++ x ∷ []) ≡ once_more (how_often xs)
  times_push [] x = refl
  times_push (y ∷ []) x = refl
  times_push (y ∷ (z ∷ xs)) x = refl

  first_push : (d : X) (xs : List X) (x : X) → first_item_or d (xs ++ x ∷ []) ≡ first_said (how_often xs) x (first_item_or d xs)
  first_push d [] x = refl
  first_push d (y ∷ []) x = refl
  first_push d (y ∷ (z ∷ xs)) x = refl

abbrev given : List NameUse → List Kind → List (List ℕ) → FactsFields
given ds ks bs = record { dummy = how_often ds; typed = how_often ks; kind = first_item_or Integer ks; dimensioned = how_often bs; bounds = first_item_or [] bs }

abbrev digest : List NameUse → FactsFields
digest ms = given (filter is_dummy ms) (filter_map kind_in ms) (filter_map bounds_in ms)

with_kind_push : (ds : List NameUse) (ks : List Kind) (bs : List (List ℕ)) (kind : Kind) → given ds (ks ++ kind ∷ []) bs ≡ with_kind (given ds ks bs) kind
with_kind_push ds ks bs kind = λ i. record {
  dummy = how_often ds;
  typed = times_push ks kind i;
  kind = first_push Integer ks kind i;
  dimensioned = how_often bs;
  bounds = first_item_or [] bs;
}

with_bounds_push : (ds : List NameUse) (ks : List Kind) (bs : List (List ℕ)) (bounds : List ℕ)
    → given ds ks (bs ++ cons_option (some_items bounds) []) ≡ facts_with_bounds (given ds ks bs) bounds
with_bounds_push ds ks bs [] = ap (given ds ks) (append-nil bs)
with_bounds_push ds ks bs (b ∷ rest) = λ i. record {
  dummy = how_often ds;
  typed = how_often ks;
  kind = first_item_or Integer ks;
  dimensioned = times_push bs (b ∷ rest) i;
  bounds = first_push [] bs (b ∷ rest) i;
}

given_push : (ds : List NameUse) (ks : List Kind) (bs : List (List ℕ)) (m : NameUse)
    → given (ds ++ filter is_dummy (m ∷ [])) (ks ++ filter_map kind_in (m ∷ [])) (bs ++ filter_map bounds_in (m ∷ [])) ≡ with_fact (given ds ks bs) m
given_push ds ks bs (NameUse.Dummy name) = λ i. record {
  dummy = times_push ds (NameUse.Dummy name) i;
  typed = how_often (append-nil ks i);
  kind = first_item_or Integer (append-nil ks i);
  dimensioned = how_often (append-nil bs i);
  bounds = first_item_or [] (append-nil bs i);
}
given_push ds ks bs (NameUse.Typed kind d) =
    (λ i. given (append-nil ds i) (ks ++ kind ∷ []) (bs ++ cons_option (some_items d.bounds) []))
    ∙ with_bounds_push ds (ks ++ kind ∷ []) bs d.bounds
    ∙ ap (λ z. facts_with_bounds z d.bounds) (with_kind_push ds ks bs kind)
given_push ds ks bs (NameUse.Dimensioned d) =
    (λ i. given (append-nil ds i) (append-nil ks i) (bs ++ cons_option (some_items d.bounds) []))
    ∙ with_bounds_push ds ks bs d.bounds
given_push ds ks bs (NameUse.Plain name) = λ i. given (append-nil ds i) (append-nil ks i) (append-nil bs i)

digest_push : (ms : List NameUse) (m : NameUse) → digest (ms ++ m ∷ []) ≡ with_fact (digest ms) m
digest_push ms m =
    (λ i. given (filter-append is_dummy ms (m ∷ []) i) (filter_map-append kind_in ms (m ∷ []) i) (filter_map-append bounds_in ms (m ∷ []) i))
    ∙ given_push (filter is_dummy ms) (filter_map kind_in ms) (filter_map bounds_in ms) m

module _ (ms : List NameUse) (m : NameUse) (q : Symbol) where
  uses_push : uses_with (ms ++ m ∷ []) q ≡ uses_with ms q ++ uses_with (m ∷ []) q
  uses_push = filter-append (λ x. bytes_eq q (name_in x)) ms (m ∷ [])

  -- one more use adds to what is said of its own name, and of no other
  pub facts_hit : bytes_eq (name_in m) q ≡ true → facts_of (ms ++ m ∷ []) q ≡ with_fact (facts_of ms q) m
  facts_hit e =
      let f : bytes_eq q (name_in m) ≡ true = symbol_symm q (name_in m) ∙ e in
      let same : uses_with (m ∷ []) q ≡ m ∷ [] = rw f refl in
      ap digest (uses_push ∙ ap (λ z. uses_with ms q ++ z) same) ∙ digest_push (uses_with ms q) m

  pub facts_miss : bytes_eq (name_in m) q ≡ false → facts_of (ms ++ m ∷ []) q ≡ facts_of ms q
  facts_miss e =
      let f : bytes_eq q (name_in m) ≡ false = symbol_symm q (name_in m) ∙ e in
      let same : uses_with (m ∷ []) q ≡ [] = rw f refl in
      ap digest (uses_push ∙ ap (λ z. uses_with ms q ++ z) same ∙ append-nil (uses_with ms q))

-- of a name that is not used nothing is said
none_with : (ms : List NameUse) (q : Symbol) → list_any (bytes_eq q) (map name_in ms) ≡ false → uses_with ms q ≡ []
none_with [] q h = refl
none_with (m ∷ ms) q h =
    let parts = or_false (bytes_eq q (name_in m)) (list_any (bytes_eq q) (map name_in ms)) h in
    let apart : bytes_eq q (name_in m) ≡ false = parts.0 in
    rw apart (none_with ms q parts.1)

pub facts_none : (ms : List NameUse) (q : Symbol) → list_any (bytes_eq q) (map name_in ms) ≡ false → facts_of ms q ≡ no_facts
facts_none ms q h = ap digest (none_with ms q h)
