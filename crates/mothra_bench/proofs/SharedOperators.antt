-- Each operator belongs to exactly one of the two feeders.
use Rattle.mothra_bench.proofs.Common.{◌≡◌, ◌∙◌, ap, List, refl, [], arith, ℕ, true, All, take, ◌∷◌, ◌+◌, ◌<◌, ◌≤◌, Bool, false, get_or, inr, inl, ◌&&◌}
use Rattle.mothra_bench.proofs.Common.{Contains, ◌⊎◌, drop, not, ◌-◌, ltb, ltb-true, get_or-drop, get_or-take, ltb-false, get_or_default, All-nil, All-cons}
use Rattle.mothra_bench.proofs.Common.{All-contains, AreShared, index_below, op_at-index, index, all_ops, Op}

and_both : (a b : Bool) → (a && b) ≡ true → (a ≡ true) × (b ≡ true)
and_both true b e = (refl, e)
and_both false b e = absurd (cc)

all_below : List Op → Bool
all_below [] = true
all_below (op ∷ ops) = ltb (index op) 11 && all_below ops

all_above : List Op → Bool
all_above [] = true
all_above (op ∷ ops) = not (ltb (index op) 11) && all_above ops

below_all : (ops : List Op) → all_below ops ≡ true → All (λ op. index op < 11) ops
unfolding all_below
below_all [] e = All-nil (λ op. index op < 11)
below_all (op ∷ ops) e =
    let h = and_both (ltb (index op) 11) (all_below ops) e in
    All-cons (λ o. index o < 11) op ops (ltb-true (index op) 11 h.0) (below_all ops h.1)

not_below : (b : Bool) → not b ≡ true → b ≡ false
not_below true e = absurd (cc)
not_below false e = refl

above_all : (ops : List Op) → all_above ops ≡ true → All (λ op. 11 ≤ index op) ops
unfolding all_above
above_all [] e = All-nil (λ op. 11 ≤ index op)
above_all (op ∷ ops) e =
    let h = and_both (not (ltb (index op) 11)) (all_above ops) e in
    All-cons (λ o. 11 ≤ index o) op ops (ltb-false (index op) 11 (not_below (ltb (index op) 11) h.0)) (above_all ops h.1)

at_own : (op : Op) → get_or all_ops (index op) op ≡ op
at_own op = get_or_default all_ops (index op) op Op.Aar (index_below op) ∙ op_at-index op

-- the first feeder has the operators at the places 0 to 10, and the second the others
front_has : (op : Op) → index op < 11 → Contains (take 11 all_ops) op
front_has op h = (index op, omega arith, get_or-take 11 all_ops (index op) op h ∙ at_own op)

back_has : (op : Op) → 11 ≤ index op → Contains (drop 11 all_ops) op
back_has op h =
    let below = index_below op in
    let n = index op - 11 in
    let same : 11 + n ≡ index op = omega arith in
    (n, omega arith, get_or-drop 11 all_ops n op ∙ (ap (λ (k : ℕ). get_or all_ops k op) same ∙ at_own op))

front_below : All (λ op. index op < 11) (take 11 all_ops)
unfolding all_below
front_below = below_all (take 11 all_ops) refl

back_above : All (λ op. 11 ≤ index op) (drop 11 all_ops)
unfolding all_above
back_above = above_all (drop 11 all_ops) refl

pub all_shared : AreShared (take 11 all_ops) (drop 11 all_ops)
all_shared op = by_case (ltb (index op) 11) refl
  where
    by_case : (b : Bool) → ltb (index op) 11 ≡ b
        → (Contains (take 11 all_ops) op × ¬ (Contains (drop 11 all_ops) op)) ⊎ (¬ (Contains (take 11 all_ops) op) × Contains (drop 11 all_ops) op)
    by_case true e =
        let below : index op < 11 = ltb-true (index op) 11 e in
        inl (front_has op below, λ h. let above = All-contains (λ o. 11 ≤ index o) (drop 11 all_ops) op back_above h in omega arith)
    by_case false e =
        let above : 11 ≤ index op = ltb-false (index op) 11 e in
        inr ((λ h. let below = All-contains (λ o. index o < 11) (take 11 all_ops) op front_below h in omega arith), back_has op above)
