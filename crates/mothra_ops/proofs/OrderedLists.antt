-- Lists of edits in order: only one has given members, and none that has no others is longer.
use Rattle.mothra_ops.proofs.Common.{◌≡◌, ◌∙◌, sym, List, arith, refl, length, subst, ◌≤◌, [], suc, inr, zero, ◌∷◌, inl, ◌⊎◌, Contains, AllPairs, Lists}
use Rattle.mothra_ops.proofs.Common.{BeforeEdit, Edit}

-- no edit is before itself, and of two edits only one is before the other
not_before_itself : (e : Edit) → ¬ (BeforeEdit e e)
not_before_itself e (inl less) = absurd (omega (arith, less))
not_before_itself e (inr (same, inl less)) = absurd (omega (arith, less))
not_before_itself e (inr (same, inr (equal, less))) = absurd (omega (arith, less))

not_both : (a b : Edit) → BeforeEdit a b → ¬ (BeforeEdit b a)
not_both a b (inl h) (inl g) = absurd (omega (arith, h, g))
not_both a b (inl h) (inr (g, _)) = absurd (omega (arith, h, g))
not_both a b (inr (h, _)) (inl g) = absurd (omega (arith, h, g))
not_both a b (inr (h, inl i)) (inr (g, inl j)) = absurd (omega (arith, i, j))
not_both a b (inr (h, inl i)) (inr (g, inr (j, _))) = absurd (omega (arith, i, j))
not_both a b (inr (h, inr (i, _))) (inr (g, inl j)) = absurd (omega (arith, i, j))
not_both a b (inr (h, inr (i, k))) (inr (g, inr (j, l))) = absurd (omega (arith, k, l))

-- an item of the rest of a list is one of the list
in_rest : (x : Edit) (xs : List Edit) (e : Edit) → Contains xs e → Contains (x ∷ xs) e
in_rest x xs e (k, low, at) = (suc k, omega (arith, low), at)

first_in : (x : Edit) (xs : List Edit) → Contains (x ∷ xs) x
first_in x xs = (0, omega arith, refl)

first_or_rest : (x : Edit) (xs : List Edit) (e : Edit) → Contains (x ∷ xs) e → (x ≡ e) ⊎ Contains xs e
first_or_rest x xs e (zero, low, at) = inl at
first_or_rest x xs e (suc k, low, at) = inr (k, omega (arith, low), at)

none_in : (e : Edit) → ¬ (Contains [] e)
none_in e (k, low, at) = absurd (omega (arith, low))

rest_ordered : (x : Edit) (xs : List Edit) → AllPairs BeforeEdit (x ∷ xs) → AllPairs BeforeEdit xs
rest_ordered x xs pairs i j d one two = pairs (suc i) (suc j) d (omega (arith, one)) (omega (arith, two))

first_before : (x : Edit) (xs : List Edit) → AllPairs BeforeEdit (x ∷ xs) → (e : Edit) → Contains xs e → BeforeEdit x e
first_before x xs pairs e (k, low, at) = subst (BeforeEdit x) at (pairs 0 (suc k) e (omega arith) (omega (arith, low)))

-- an ordered list whose members another one has is no longer than that one
pub no_longer : (some whole : List Edit) → AllPairs BeforeEdit some → AllPairs BeforeEdit whole → ((e : Edit) → Contains some e → Contains whole e)
    → length some ≤ length whole
no_longer [] whole one other within = omega arith
no_longer (x ∷ xs) [] one other within = absurd (none_in x (within x (first_in x xs)))
no_longer (x ∷ xs) (y ∷ ys) one other within =
    let shorter = no_longer xs ys (rest_ordered x xs one) (rest_ordered y ys other) rest in omega (arith, shorter)
  where
    rest : (e : Edit) → Contains xs e → Contains ys e
    rest e has = elim (first_or_rest y ys e (within e (in_rest x xs e has))) [
      | inr later ↦ later
      | inl same ↦
          let before : BeforeEdit x y = subst (BeforeEdit x) (sym same) (first_before x xs one e has) in
          elim (first_or_rest y ys x (within x (first_in x xs))) [
            | inl first ↦ absurd (not_before_itself x (subst (BeforeEdit x) first before))
            | inr later ↦ absurd (not_both x y before (first_before y ys other x later))
          ]
    ]

-- two ordered lists with the same members are the same
pub one_of : (one other : List Edit) → AllPairs BeforeEdit one → AllPairs BeforeEdit other → ((e : Edit) → Contains one e → Contains other e)
    → ((e : Edit) → Contains other e → Contains one e) → one ≡ other
one_of [] [] ordered too there back = refl
one_of [] (y ∷ ys) ordered too there back = absurd (none_in y (back y (first_in y ys)))
one_of (x ∷ xs) [] ordered too there back = absurd (none_in x (there x (first_in x xs)))
one_of (x ∷ xs) (y ∷ ys) ordered too there back =
    λ k. first k ∷ one_of xs ys (rest_ordered x xs ordered) (rest_ordered y ys too) on off k
  where
    first : x ≡ y
    first = elim (first_or_rest x xs y (back y (first_in y ys))) [
      | inl same ↦ same
      | inr later ↦ elim (first_or_rest y ys x (there x (first_in x xs))) [
        | inl same ↦ sym same
        | inr behind ↦ absurd (not_both x y (first_before x xs ordered y later) (first_before y ys too x behind))
      ]
    ]

    on : (e : Edit) → Contains xs e → Contains ys e
    on e has = elim (first_or_rest y ys e (there e (in_rest x xs e has))) [
      | inr later ↦ later
      | inl same ↦ absurd (not_before_itself x (subst (BeforeEdit x) (sym (first ∙ same)) (first_before x xs ordered e has)))
    ]

    off : (e : Edit) → Contains ys e → Contains xs e
    off e has = elim (first_or_rest x xs e (back e (in_rest y ys e has))) [
      | inr later ↦ later
      | inl same ↦ absurd (not_before_itself y (subst (BeforeEdit y) (sym (sym first ∙ same)) (first_before y ys too e has)))
    ]

pub one_list : (P : Edit → Type 0) (one other : List Edit) → Lists P one → Lists P other → one ≡ other
one_list P one other l m =
    one_of one other l.ordered m.ordered (λ e has. (m.exactly e).1 ((l.exactly e).0 has)) (λ e has. (l.exactly e).1 ((m.exactly e).0 has))
