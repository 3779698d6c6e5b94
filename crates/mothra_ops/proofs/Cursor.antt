-- A list of edits that has come to a place: it has those with a property that stand before the place.
use Rattle.mothra_ops.proofs.Common.{◌≡◌, ◌∙◌, ap, sym, List, arith, refl, length, subst, ℕ, [], ◌+◌, ◌<◌, inr, ◌∷◌, inl, ◌⊎◌, ◌++◌, get_or, Contains, cases_lt}
use Rattle.mothra_ops.proofs.Common.{length_push, get_or_append_left, get_or_default, get_or_push, Op, Lists, BeforeEdit, Below, Edit}
use Rattle.std.proofs.lemmas.List.Quantifiers.{all_pairs_push}

contains_old : (xs : List Edit) (y e : Edit) → Contains xs e → Contains (xs ++ y ∷ []) e
contains_old xs y e (k, low, at) = (k, omega (arith, length_push xs y), get_or_append_left xs (y ∷ []) e k low ∙ at)

contains_new : (xs : List Edit) (y : Edit) → Contains (xs ++ y ∷ []) y
contains_new xs y = (length xs, omega (arith, length_push xs y), get_or_push xs y y (length xs) refl)

contains_push : (xs : List Edit) (y e : Edit) → Contains (xs ++ y ∷ []) e → Contains xs e ⊎ (e ≡ y)
contains_push xs y e (k, low, at) = elim (cases_lt k (length xs)) [
  | inl h ↦ inl (k, h, sym (get_or_append_left xs (y ∷ []) e k h) ∙ at)
  | inr h ↦ inr (sym at ∙ get_or_push xs y e k (omega (arith, length_push xs y, low, h)))
]

abbrev pub edit_at : Op → ℕ → ℕ → ℕ → Edit
edit_at op s p r = record { op = op; statement = s; position = p; rank = r }

below_next : (s p r : ℕ) (e : Edit) → Below s p r e → Below s p (r + 1) e
below_next s p r e (inl h) = inl h
below_next s p r e (inr (h, inl g)) = inr (h, inl g)
below_next s p r e (inr (h, inr (g, f))) = inr (h, inr (g, omega (arith, f)))

-- one rank further, the edit of that rank is the only new one
below_last : (op : Op) (s p r : ℕ) (e : Edit) → e.op ≡ op → Below s p (r + 1) e → Below s p r e ⊎ (e ≡ edit_at op s p r)
below_last op s p r e own (inl h) = inl (inl h)
below_last op s p r e own (inr (h, inl g)) = inl (inr (h, inl g))
below_last op s p r e own (inr (h, inr (g, f))) = elim (cases_lt e.rank r) [
  | inl less ↦ inl (inr (h, inr (g, less)))
  | inr more ↦
      let same : e.rank ≡ r = omega (arith, f, more) in
      inr (ap (λ (o : Op). record { op = o; statement = e.statement; position = e.position; rank = e.rank }) own
      ∙ ap (λ (x : ℕ). record { op = op; statement = x; position = e.position; rank = e.rank }) h
      ∙ ap (λ (x : ℕ). record { op = op; statement = s; position = x; rank = e.rank }) g
      ∙ ap (λ (x : ℕ). record { op = op; statement = s; position = p; rank = x }) same)
]

-- a list by one property is a list by a property that holds of the same edits
lists_same : (P Q : Edit → Type 0) (xs : List Edit) → Lists P xs → ((e : Edit) → P e → Q e) → ((e : Edit) → Q e → P e) → Lists Q xs
lists_same P Q xs l there back = record {
  ordered = l.ordered;
  exactly = λ e. ((λ h. there e ((l.exactly e).0 h)), λ h. (l.exactly e).1 (back e h));
}

abbrev pub Ahead : (Edit → Type 0) → ℕ → ℕ → ℕ → Edit → Type 0
Ahead P s p r e = P e × Below s p r e

module _ (op : Op) (P : Edit → Type 0) (own : (e : Edit) → P e → e.op ≡ op) (xs : List Edit) where
  pub kept : (s p r : ℕ) → Lists (Ahead P s p r) xs → P (edit_at op s p r) → Lists (Ahead P s p (r + 1)) (xs ++ edit_at op s p r ∷ [])
  kept s p r l is = record {
    ordered = all_pairs_push BeforeEdit xs (edit_at op s p r) l.ordered (λ k d h. ((l.exactly (get_or xs k d)).0 (k, h, get_or_default xs k (get_or xs k d) d h)).1);
    exactly = λ e. (
      (λ h. elim (contains_push xs (edit_at op s p r) e h) [
        | inl old ↦ let so : Ahead P s p r e = (l.exactly e).0 old in (so.0, below_next s p r e so.1)
        | inr new ↦ let F : Edit → Type 0 = Ahead P s p (r + 1) in subst F (sym new) (is, inr (refl, inr (refl, omega arith)))
      ]),
      (λ h. elim (below_last op s p r e (own e h.0) h.1) [
        | inl below ↦ contains_old xs (edit_at op s p r) e ((l.exactly e).1 (h.0, below))
        | inr new ↦ let F : Edit → Type 0 = Contains (xs ++ edit_at op s p r ∷ []) in subst F (sym new) (contains_new xs (edit_at op s p r))
      ]),
    );
  }

  pub passed_by : (s p r : ℕ) → Lists (Ahead P s p r) xs → ¬ (P (edit_at op s p r)) → Lists (Ahead P s p (r + 1)) xs
  passed_by s p r l isnt = lists_same (Ahead P s p r) (Ahead P s p (r + 1)) xs l (λ e h. (h.0, below_next s p r e h.1))
      (λ e h. elim (below_last op s p r e (own e h.0) h.1) [
        | inl below ↦ (h.0, below)
        | inr new ↦ absurd (isnt (subst P new h.0))
      ])

-- a list moves from one place to another where no edit stands between them
pub moved : (P : Edit → Type 0) (xs : List Edit) (s p r t q u : ℕ) → Lists (Ahead P s p r) xs → ((e : Edit) → P e → Below s p r e → Below t q u e)
    → ((e : Edit) → P e → Below t q u e → Below s p r e) → Lists (Ahead P t q u) xs
moved P xs s p r t q u l there back =
    lists_same (Ahead P s p r) (Ahead P t q u) xs l (λ e h. (h.0, there e h.0 h.1)) (λ e h. (h.0, back e h.0 h.1))

-- a list moves to the first rank of a node, since no rank is 0
pub first_rank : (P : Edit → Type 0) (xs : List Edit) (s p : ℕ) → Lists (Ahead P s p 0) xs → ((e : Edit) → P e → 0 < e.rank) → Lists (Ahead P s p 1) xs
first_rank P xs s p l ranks = moved P xs s p 0 s p 1 l there back where
  there : (e : Edit) → P e → Below s p 0 e → Below s p 1 e
  there e h (inl b) = inl b
  there e h (inr (b, inl g)) = inr (b, inl g)
  there e h (inr (b, inr (g, f))) = inr (b, inr (g, omega (arith, f)))

  back : (e : Edit) → P e → Below s p 1 e → Below s p 0 e
  back e h (inl b) = inl b
  back e h (inr (b, inl g)) = inr (b, inl g)
  back e h (inr (b, inr (g, f))) = let some : 0 < e.rank = ranks e h in absurd (omega (arith, some, f))

-- a list moves to the next node, where no rank is left
pub next_node : (P : Edit → Type 0) (xs : List Edit) (s p r : ℕ) → Lists (Ahead P s p r) xs
    → ((e : Edit) → P e → e.statement ≡ s → e.position ≡ p → e.rank < r) → Lists (Ahead P s (p + 1) 0) xs
next_node P xs s p r l last = moved P xs s p r s (p + 1) 0 l there back where
  there : (e : Edit) → P e → Below s p r e → Below s (p + 1) 0 e
  there e h (inl b) = inl b
  there e h (inr (b, inl g)) = inr (b, inl (omega (arith, g)))
  there e h (inr (b, inr (g, f))) = inr (b, inl (omega (arith, g)))

  back : (e : Edit) → P e → Below s (p + 1) 0 e → Below s p r e
  back e h (inl b) = inl b
  back e h (inr (b, inr (g, f))) = absurd (omega (arith, f))
  back e h (inr (b, inl g)) = elim (cases_lt e.position p) [
    | inl less ↦ inr (b, inl less)
    | inr more ↦ let same : e.position ≡ p = omega (arith, g, more) in inr (b, inr (same, last e h b same))
  ]

-- a list moves to the next statement, where no node is left
pub next_statement : (P : Edit → Type 0) (xs : List Edit) (s p : ℕ) → Lists (Ahead P s p 0) xs
    → ((e : Edit) → P e → e.statement ≡ s → e.position < p) → Lists (Ahead P (s + 1) 0 0) xs
next_statement P xs s p l last = moved P xs s p 0 (s + 1) 0 0 l there back where
  there : (e : Edit) → P e → Below s p 0 e → Below (s + 1) 0 0 e
  there e h (inl b) = inl (omega (arith, b))
  there e h (inr (b, g)) = inl (omega (arith, b))

  back : (e : Edit) → P e → Below (s + 1) 0 0 e → Below s p 0 e
  back e h (inr (b, inl g)) = absurd (omega (arith, g))
  back e h (inr (b, inr (g, f))) = absurd (omega (arith, f))
  back e h (inl b) = elim (cases_lt e.statement s) [
    | inl less ↦ inl less
    | inr more ↦ let same : e.statement ≡ s = omega (arith, b, more) in inr (same, inl (last e h same))
  ]

-- nothing stands before the first statement, and everything before the end
pub starts : (P : Edit → Type 0) → ((e : Edit) → P e → 0 < e.statement) → Lists (Ahead P 1 0 0) []
starts P first = record {
  ordered = λ i j d low high. absurd (omega (arith, high));
  exactly = λ e. ((λ h. absurd (omega (arith, h.1))), back e);
} where
  back : (e : Edit) → Ahead P 1 0 0 e → Contains [] e
  back e (h, inl b) = let f : 0 < e.statement = first e h in absurd (omega (arith, f, b))
  back e (h, inr (b, inl g)) = absurd (omega (arith, g))
  back e (h, inr (b, inr (g, f))) = absurd (omega (arith, f))

pub ends : (P : Edit → Type 0) (xs : List Edit) (s : ℕ) → Lists (Ahead P s 0 0) xs → ((e : Edit) → P e → e.statement < s) → Lists P xs
ends P xs s l last = lists_same (Ahead P s 0 0) P xs l (λ e h. h.0) (λ e h. (h, inl (last e h)))
