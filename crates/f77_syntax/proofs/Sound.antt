-- Expressions: what is read is spelled so.
use Rattle.f77_syntax.proofs.Common.{refl, ◌∙◌, sym, ap, ◌≡◌, List, ℕ, true, [], ◌∷◌, Some, None, false, length, arith, subst, Option, ◌++◌, Bool, ◌≤◌, ◌==◌}
use Rattle.f77_syntax.proofs.Common.{append_assoc, codes, inr, cond, suc, inl, append-nil, zero, ◌&&◌, eqb-true, nat_le, leb-true, none-some, digits_value}
use Rattle.f77_syntax.proofs.Common.{◌>>=◌, strip, reading, value_ended, operator_at, close_at, start_at, expr_at, whole_at, climb_at, climb_on, listed_by}
use Rattle.f77_syntax.proofs.Common.{named_at, trees_at, word_tree_at, Readers, dotted_at, first_operator, function_listed, more_at, closed, dotted_by}
use Rattle.f77_syntax.proofs.Common.{enclosed_at, negated_at, signed_tree_at, within, operators, or_operator, and_true, word_whole, is_name, is_number}
use Rattle.f77_syntax.proofs.Common.{past_word, word, Spells, SpellsReference, SpellsAll, truth_constant_text, function_named, left_level, level, symbol}
use Rattle.f77_syntax.proofs.Common.{right_level, sign_symbol, Tree, Trees, Intrinsic, Operator, Sign, Minus, Plus}
use Rattle.f77_syntax.proofs.Functions.{named_is, no_call}
use Rattle.f77_syntax.proofs.Steps.{along, bind_ok, chosen, guarded, strip_is, after_is, ended_is}

-- a front of s spells the tree, and rest follows it
pub record Fronts (w : ℕ) (s : List ℕ) (t : Tree) (rest : List ℕ) : Type 0 where
  pub text : List ℕ
  pub is : s ≡ text ++ rest
  pub spells : Spells w text t

pub record FrontsAll (s : List ℕ) (ts : Trees) (rest : List ℕ) : Type 0 where
  pub text : List ℕ
  pub is : s ≡ text ++ rest
  pub spells : SpellsAll text ts

-- a form of the level x.1 is found where one of the level w is wanted
pub record Starts (w : ℕ) (s : List ℕ) (x : Tree × ℕ × List ℕ) : Type 0 where
  pub text : List ℕ
  pub is : s ≡ text ++ x.2
  pub spells : Spells w text x.0
  pub own : Spells x.1 text x.0

pub record Sound (R : Readers) : Type 0 where
  pub expr : (w : ℕ) (s : List ℕ) (x : Tree × List ℕ) → R.expr w s ≡ Some x → Fronts w s x.0 x.1
  pub climb : (w : ℕ) (t : Tree) (own : ℕ) (front s : List ℕ) (x : Tree × List ℕ) → Spells w front t → Spells own front t → R.climb w t own s ≡ Some x → Fronts w (front ++ s) x.0 x.1
  pub items : (s : List ℕ) (x : Trees × List ℕ) → R.items s ≡ Some x → FrontsAll s x.0 x.1

weaken : {w : ℕ} {text : List ℕ} {t : Tree} (v : ℕ) → v ≤ w → Spells w text t → Spells v text t
weaken v h (Spells.number n) = Spells.number n
weaken v h (Spells.truth b) = Spells.truth b
weaken v h (Spells.reference c r) = Spells.reference c r
weaken v h (Spells.call f l) = Spells.call f l
weaken v h (Spells.group p) = Spells.group p
weaken v h (Spells.signed sign k p) = Spells.signed sign (omega arith) p
weaken v h (Spells.negated k p) = Spells.negated (omega arith) p
weaken v h (Spells.binary op k p q) = Spells.binary op (omega arith) p q

pub operator_is : (s : List ℕ) (y : Operator × List ℕ) → operator_at s ≡ Some y → s ≡ symbol y.0 ++ y.1
unfolding operator_at
operator_is s y e = among operators e
  where
    choice : (op : Operator) (o : Option (List ℕ)) (other : Option (Operator × List ℕ))
        → strip (symbol op) s ≡ o → (other ≡ Some y → s ≡ symbol y.0 ++ y.1) → or_operator op o other ≡ Some y → s ≡ symbol y.0 ++ y.1
    choice op None other at next e = next e
    choice op (Some r) other at next e = along (λ y. s ≡ symbol y.0 ++ y.1) (op, r) y e (strip_is (symbol op) s r at)

    among : (ops : List Operator) → first_operator ops s ≡ Some y → s ≡ symbol y.0 ++ y.1
    among [] e = absurd (none-some y e)
    among (op ∷ ops) e = choice op (strip (symbol op) s) (first_operator ops s) refl (among ops) e

closed_is : (t : Tree) (r : List ℕ) (x : Tree × ℕ × List ℕ) → closed t r ≡ Some x → (r ≡ 41 ∷ x.2) × (t ≡ x.0) × (9 ≡ x.1)
closed_is t s x e =
    let (r, close, found) = bind_ok (close_at s) (λ r. Some (t, 9, r)) x e in
    along (λ x. (s ≡ 41 ∷ x.2) × (t ≡ x.0) × (9 ≡ x.1)) (t, 9, r) x found (after_is 41 s r close, refl, refl)

module _ (R : Readers) (sound : Sound R) where
  group_is : (w : ℕ) (s : List ℕ) (x : Tree × ℕ × List ℕ) → enclosed_at R s ≡ Some x → Starts w (40 ∷ s) x
  group_is w s x e =
      let (y, inner, end) = bind_ok (R.expr 1 s) (λ y. closed y.0 y.1) x e in
      let front = sound.expr 1 s y inner in
      let (close, same, nine) = closed_is y.0 y.1 x end in
      let spelled : Spells 1 front.text x.0 = subst (λ t. Spells 1 front.text t) same front.spells in
      record {
        text = 40 ∷ (front.text ++ 41 ∷ []);
        is = ap (λ z. 40 ∷ z) (front.is ∙ ap (λ z. front.text ++ z) close ∙ sym (append_assoc front.text (41 ∷ []) x.2));
        spells = Spells.group spelled;
        own = Spells.group spelled;
      }

  signed_is : (w : ℕ) (sign : Sign) (s : List ℕ) (x : Tree × ℕ × List ℕ) → signed_tree_at R w sign s ≡ Some x → Starts w (sign_symbol sign ∷ s) x
  signed_is w sign s x e =
      let (low, rest) = guarded (nat_le w 6) (R.expr 7 s >>= λ y. Some (Tree.Signed sign y.0, 6, y.1)) x e in
      let (y, inner, end) = bind_ok (R.expr 7 s) (λ y. Some (Tree.Signed sign y.0, 6, y.1)) x rest in
      let front = sound.expr 7 s y inner in
      along (Starts w (sign_symbol sign ∷ s)) (Tree.Signed sign y.0, 6, y.1) x end (record {
        text = sign_symbol sign ∷ front.text;
        is = ap (λ z. sign_symbol sign ∷ z) front.is;
        spells = Spells.signed sign (leb-true w 6 low) front.spells;
        own = Spells.signed sign (omega arith) front.spells;
      })

  negated_is : (w : ℕ) (s : List ℕ) (x : Tree × ℕ × List ℕ) → negated_at R w s ≡ Some x → Starts w (codes ".NOT." ++ s) x
  negated_is w s x e =
      let (low, read) = guarded (nat_le w 4) (R.expr 5 s >>= λ y. Some (Tree.Not y.0, 4, y.1)) x e in
      let (y, inner, end) = bind_ok (R.expr 5 s) (λ y. Some (Tree.Not y.0, 4, y.1)) x read in
      let front = sound.expr 5 s y inner in
      along (Starts w (codes ".NOT." ++ s)) (Tree.Not y.0, 4, y.1) x end (record {
        text = codes ".NOT." ++ front.text;
        is = ap (λ z. codes ".NOT." ++ z) front.is;
        spells = Spells.negated (leb-true w 4 low) front.spells;
        own = Spells.negated (omega arith) front.spells;
      })

  truth_is : (w : ℕ) (b : Bool) (s r : List ℕ) (x : Tree × ℕ × List ℕ) → s ≡ truth_constant_text b ++ r → Some (Tree.Truth b, 9, r) ≡ Some x → Starts w s x
  truth_is w b s r x is e =
      along (Starts w s) (Tree.Truth b, 9, r) x e (record { text = truth_constant_text b; is = is; spells = Spells.truth b; own = Spells.truth b })

  dotted_is : (w : ℕ) (s : List ℕ) (x : Tree × ℕ × List ℕ) → dotted_at R w s ≡ Some x → Starts w s x
  dotted_is w s x e = by_front (strip (codes ".TRUE.") s) refl (strip (codes ".FALSE.") s) refl (strip (codes ".NOT.") s) refl e
    where
      by_front : (a : Option (List ℕ)) → strip (codes ".TRUE.") s ≡ a → (b : Option (List ℕ)) → strip (codes ".FALSE.") s ≡ b
          → (c : Option (List ℕ)) → strip (codes ".NOT.") s ≡ c → dotted_by R w a b c ≡ Some x → Starts w s x
      by_front (Some r) is b p c q e = truth_is w true s r x (strip_is (codes ".TRUE.") s r is) e
      by_front None is (Some r) p c q e = truth_is w false s r x (strip_is (codes ".FALSE.") s r p) e
      by_front None is None p (Some r) q e = subst (λ z. Starts w z x) (sym (strip_is (codes ".NOT.") s r q)) (negated_is w r x e)
      by_front None is None p None q e = absurd (none-some x e)

  -- a name with a list behind it, in parentheses
  listed_is : (w : ℕ) (name text : List ℕ) (items : Trees) → is_name name ≡ true → SpellsAll text items
      → Spells w (name ++ (40 ∷ (text ++ 41 ∷ []))) (function_listed name items)
  listed_is w name text items n l = by_name (function_named name) refl
    where
      by_name : (o : Option Intrinsic) → function_named name ≡ o → Spells w (name ++ (40 ∷ (text ++ 41 ∷ []))) (listed_by o name items)
      by_name None is = Spells.reference (no_call name items is) (SpellsReference.element n l)
      by_name (Some f) is = subst (λ z. Spells w (z ++ (40 ∷ (text ++ 41 ∷ []))) (Tree.Call f items)) (sym (named_is name f is)) (Spells.call f l)

  named_at_is : (w : ℕ) (name r : List ℕ) (x : Tree × ℕ × List ℕ) → is_name name ≡ true → named_at R name r ≡ Some x → Starts w (name ++ r) x
  named_at_is w name [] x n e = along (Starts w (name ++ [])) (Tree.Reference name Trees.None, 9, []) x e (record {
    text = name;
    is = refl;
    spells = Spells.reference refl (SpellsReference.scalar n);
    own = Spells.reference refl (SpellsReference.scalar n);
  })
  named_at_is w name (c ∷ r) x n e =
      elim (chosen (c == 40) (R.items r >>= λ y. closed (function_listed name y.0) y.1) (Some (Tree.Reference name Trees.None, 9, c ∷ r)) (Some x) e) [
        | inl p ↦
            let (y, inner, end) = bind_ok (R.items r) (λ y. closed (function_listed name y.0) y.1) x p.1 in
            let front = sound.items r y inner in
            let (close, same, nine) = closed_is (function_listed name y.0) y.1 x end in
            let open_is : c ≡ 40 = eqb-true c 40 p.0 in
            let text : List ℕ = name ++ (40 ∷ (front.text ++ 41 ∷ [])) in
            record {
              text = text;
              is = ap (λ z. name ++ (z ∷ r)) open_is
                  ∙ ap (λ z. name ++ (40 ∷ z)) (front.is ∙ ap (λ z. front.text ++ z) close ∙ sym (append_assoc front.text (41 ∷ []) x.2))
                  ∙ sym (append_assoc name (40 ∷ (front.text ++ 41 ∷ [])) x.2);
              spells = subst (λ t. Spells w text t) same (listed_is w name front.text y.0 n front.spells);
              own = subst (λ t. Spells x.1 text t) same (listed_is x.1 name front.text y.0 n front.spells);
            }
        | inr p ↦ along (Starts w (name ++ (c ∷ r))) (Tree.Reference name Trees.None, 9, c ∷ r) x p.1 (record {
          text = name;
          is = refl;
          spells = Spells.reference refl (SpellsReference.scalar n);
          own = Spells.reference refl (SpellsReference.scalar n);
        })
      ]

  word_is : (w : ℕ) (name r : List ℕ) (x : Tree × ℕ × List ℕ) → word_tree_at R name r ≡ Some x → Starts w (name ++ r) x
  word_is w name r x e =
      elim (chosen (is_number name) (Some (Tree.Number (digits_value 10 name), 9, r)) (cond (is_name name) (named_at R name r) None) (Some x) e) [
        | inl p ↦ along (Starts w (name ++ r)) (Tree.Number (digits_value 10 name), 9, r) x p.1 (record {
          text = name;
          is = refl;
          spells = Spells.number p.0;
          own = Spells.number p.0;
        })
        | inr p ↦ let (n, rest) = guarded (is_name name) (named_at R name r) x p.1 in named_at_is w name r x n rest
      ]

  pub start_is : (w : ℕ) (s : List ℕ) (x : Tree × ℕ × List ℕ) → start_at R w s ≡ Some x → Starts w s x
  unfolding start_at
  start_is w [] x e = absurd (none-some x e)
  start_is w (c ∷ s) x e =
      elim (chosen (c == 40) _ _ _ e) [
        | inl p ↦ subst (λ c. Starts w (c ∷ s) x) (sym (eqb-true c 40 p.0)) (group_is w s x p.1)
        | inr p ↦ elim (chosen (c == 43) _ _ _ p.1) [
          | inl p ↦ subst (λ c. Starts w (c ∷ s) x) (sym (eqb-true c 43 p.0)) (signed_is w Plus s x p.1)
          | inr p ↦ elim (chosen (c == 45) _ _ _ p.1) [
            | inl p ↦ subst (λ c. Starts w (c ∷ s) x) (sym (eqb-true c 45 p.0)) (signed_is w Minus s x p.1)
            | inr p ↦ elim (chosen (c == 46) _ _ _ p.1) [
              | inl p ↦ dotted_is w (c ∷ s) x p.1
              | inr p ↦ subst (λ z. Starts w z x) (sym (word_whole (c ∷ s))) (word_is w (word (c ∷ s)) (past_word (c ∷ s)) x p.1)
            ]
          ]
        ]
      ]

  pub expr_is : (w : ℕ) (s : List ℕ) (x : Tree × List ℕ) → expr_at R w s ≡ Some x → Fronts w s x.0 x.1
  unfolding expr_at
  expr_is w s x e =
      let (y, first, rest) = bind_ok (start_at R w s) (λ y. R.climb w y.0 y.1 y.2) x e in
      let start = start_is w s y first in
      subst (λ z. Fronts w z x.0 x.1) (sym start.is) (sound.climb w y.0 y.1 start.text y.2 x start.spells start.own rest)

  items_is : (s : List ℕ) (x : Trees × List ℕ) → trees_at R s ≡ Some x → FrontsAll s x.0 x.1
  unfolding trees_at
  items_is s x e =
      let (y, first, rest) = bind_ok (expr_at R 1 s) (λ y. more_at R y.0 y.1) x e in
      let front = expr_is 1 s y first in
      more_is front.text s y.0 y.1 x front.is front.spells rest
    where
      more_is : (text s : List ℕ) (t : Tree) (r : List ℕ) (x : Trees × List ℕ) → s ≡ text ++ r → Spells 1 text t → more_at R t r ≡ Some x → FrontsAll s x.0 x.1
      more_is text s t [] x is spells e = along (λ x. FrontsAll s x.0 x.1) (Trees.Then t Trees.None, []) x e (record { text = text; is = is; spells = SpellsAll.last spells })
      more_is text s t (c ∷ r) x is spells e =
          elim (chosen (c == 44) (R.items r >>= λ y. Some (Trees.Then t y.0, y.1)) (Some (Trees.Then t Trees.None, c ∷ r)) (Some x) e) [
            | inl p ↦
                let (y, first, rest) = bind_ok (R.items r) (λ y. Some (Trees.Then t y.0, y.1)) x p.1 in
                let others = sound.items r y first in
                along (λ x. FrontsAll s x.0 x.1) (Trees.Then t y.0, y.1) x rest (record {
                  text = text ++ (44 ∷ others.text);
                  is = is ∙ ap (λ z. text ++ (z ∷ r)) (eqb-true c 44 p.0) ∙ ap (λ z. text ++ (44 ∷ z)) others.is ∙ sym (append_assoc text (44 ∷ others.text) y.1);
                  spells = SpellsAll.more spells others.spells;
                })
            | inr p ↦ along (λ x. FrontsAll s x.0 x.1) (Trees.Then t Trees.None, c ∷ r) x p.1 (record { text = text; is = is; spells = SpellsAll.last spells })
          ]

  climb_is : (w : ℕ) (t : Tree) (own : ℕ) (front s : List ℕ) (x : Tree × List ℕ) → Spells w front t → Spells own front t → climb_at R w t own s ≡ Some x → Fronts w (front ++ s) x.0 x.1
  unfolding climb_at
  climb_is w t own front s x wanted has e = step (operator_at s) refl e
    where
      step : (o : Option (Operator × List ℕ)) → operator_at s ≡ o → climb_on R w t own s o ≡ Some x → Fronts w (front ++ s) x.0 x.1
      step None at e = along (λ x. Fronts w (front ++ s) x.0 x.1) (t, s) x e (record { text = front; is = refl; spells = wanted })
      step (Some y) at e =
          elim (chosen (nat_le w (level y.0) && nat_le (left_level y.0) own) _ _ _ e) [
            | inl p ↦
                let (z, right, rest) = bind_ok (R.expr (right_level y.0) y.1) (λ z. R.climb w (Tree.Binary y.0 t z.0) (level y.0) z.1) x p.1 in
                let (low, high) = and_true (nat_le w (level y.0)) (nat_le (left_level y.0) own) p.0 in
                let operand = sound.expr (right_level y.0) y.1 z right in
                let left : Spells (left_level y.0) front t = weaken (left_level y.0) (leb-true (left_level y.0) own high) has in
                let text : List ℕ = front ++ (symbol y.0 ++ operand.text) in
                let is : front ++ s ≡ text ++ z.1 =
                ap (λ v. front ++ v) (operator_is s y at ∙ ap (λ v. symbol y.0 ++ v) operand.is ∙ sym (append_assoc (symbol y.0) operand.text z.1))
                ∙ sym (append_assoc front (symbol y.0 ++ operand.text) z.1) in
                subst (λ v. Fronts w v x.0 x.1) (sym is)
                (sound.climb w (Tree.Binary y.0 t z.0) (level y.0) text z.1 x (Spells.binary y.0 (leb-true w (level y.0) low) left operand.spells)
                (Spells.binary y.0 (omega arith) left operand.spells) rest)
            | inr p ↦ along (λ x. Fronts w (front ++ s) x.0 x.1) (t, s) x p.1 (record { text = front; is = refl; spells = wanted })
          ]

pub sound_within : (n : ℕ) → Sound (within n)
unfolding within
sound_within zero = record {
  expr = λ w s x e. absurd (none-some x e);
  climb = λ w t own front s x wanted has e. along (λ x. Fronts w (front ++ s) x.0 x.1) (t, s) x e (record { text = front; is = refl; spells = wanted });
  items = λ s x e. absurd (none-some x e);
}
sound_within (suc n) = record {
  expr = expr_is (within n) (sound_within n);
  climb = climb_is (within n) (sound_within n);
  items = items_is (within n) (sound_within n);
}

pub sound_reading : Sound reading
unfolding reading
sound_reading = record {
  expr = λ w s. (sound_within (length s)).expr w s;
  climb = λ w t own front s. (sound_within (length s)).climb w t own front s;
  items = λ s. (sound_within (length s)).items s;
}

-- an expression behind which nothing stands
pub whole_is : (s : List ℕ) (t : Tree) → whole_at s ≡ Some t → Spells 1 s t
unfolding whole_at
whole_is s t e =
    let (x, read, end) = bind_ok (reading.expr 1 s) (λ x. value_ended x.0 x.1) t e in
    let (same, none) = ended_is x.0 x.1 t end in
    let f = sound_reading.expr 1 s x read in
    let all : s ≡ f.text = f.is ∙ ap (λ z. f.text ++ z) none ∙ append-nil f.text in
    subst (λ z. Spells 1 z t) (sym all) (subst (Spells 1 f.text) same f.spells)
