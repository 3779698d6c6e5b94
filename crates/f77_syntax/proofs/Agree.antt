-- More calls read the same once they are enough, so the readers satisfy their own equations.
use Rattle.f77_syntax.proofs.Common.{refl, ◌∙◌, sym, ap, ◌≡◌, List, ℕ, true, [], ◌∷◌, Some, None, false, length, arith, Option, Bool, ◌≤◌, ◌==◌, codes, ◌<◌}
use Rattle.f77_syntax.proofs.Common.{cond, suc, ◌+◌, zero, ◌&&◌, nat_le, length-append, ◌-◌, zero-add, ◌>>=◌, strip, reading, operator_at, start_at, expr_at}
use Rattle.f77_syntax.proofs.Common.{climb_at, climb_on, named_at, trees_at, word_tree_at, Readers, dotted_at, more_at, dotted_by, within, is_name, is_number}
use Rattle.f77_syntax.proofs.Common.{past_word, word, left_level, level, right_level, Tree, Operator}
use Rattle.f77_syntax.proofs.Steps.{strip_is}
use Rattle.f77_syntax.proofs.Sound.{Sound, sound_within}
use Rattle.f77_syntax.proofs.Shorter.{Shorter, shorter, operator_shorter, past_word_short, spelled_long}
use Rattle.f77_syntax.proofs.Sound as sound

-- two readers agree on each text of at most this length
pub record Agree (n : ℕ) (R Q : Readers) : Type 0 where
  pub expr : (w : ℕ) (s : List ℕ) → length s ≤ n → R.expr w s ≡ Q.expr w s
  pub climb : (w : ℕ) (t : Tree) (own : ℕ) (s : List ℕ) → length s ≤ n → R.climb w t own s ≡ Q.climb w t own s
  pub items : (s : List ℕ) → length s ≤ n → R.items s ≡ Q.items s

-- two readings with the same first step agree if they agree behind it
same_bind : {A B : Type 0} (o p : Option A) (f g : A → Option B) → o ≡ p → ((x : A) → o ≡ Some x → f x ≡ g x) → (o >>= f) ≡ (p >>= g)
same_bind None p f g e h = rw (← e) refl
same_bind (Some x) p f g e h = rw (← e) (h x refl)

same_cond : {A : Type 0} (b : Bool) (x y z v : A) → x ≡ z → y ≡ v → cond b x y ≡ cond b z v
same_cond true x y z v p q = p
same_cond false x y z v p q = q

-- behind a test that fails any two readers agree
same_when : {A : Type 0} (b : Bool) (x y z : A) → (b ≡ true → x ≡ z) → cond b x y ≡ cond b z y
same_when true x y z p = p refl
same_when false x y z p = refl

module _ (n : ℕ) (R Q : Readers) (short : Shorter R) (sound_R : Sound R) (agree : Agree n R Q) where
  named_same : (name r : List ℕ) → length r ≤ suc n → named_at R name r ≡ named_at Q name r
  named_same name [] h = refl
  named_same name (c ∷ r) h =
      same_when (c == 40) _ _ _ (λ _. same_bind (R.items r) (Q.items r) _ _ (agree.items r (omega arith)) (λ x e. refl))

  word_same : (name r : List ℕ) → length r ≤ suc n → word_tree_at R name r ≡ word_tree_at Q name r
  word_same name r h = same_cond (is_number name) _ _ _ _ refl (same_when (is_name name) _ _ _ (λ _. named_same name r h))

  dotted_same : (w : ℕ) (s : List ℕ) → length s ≤ suc n → dotted_at R w s ≡ dotted_at Q w s
  dotted_same w s h = by_front (strip (codes ".TRUE.") s) (strip (codes ".FALSE.") s) (strip (codes ".NOT.") s) refl
    where
      by_front : (a b c : Option (List ℕ)) → strip (codes ".NOT.") s ≡ c → dotted_by R w a b c ≡ dotted_by Q w a b c
      by_front (Some r) b c e = refl
      by_front None (Some r) c e = refl
      by_front None None (Some r) e =
          same_when (nat_le w 4) _ _ _ (λ _. same_bind (R.expr 5 r) (Q.expr 5 r) _ _
          (agree.expr 5 r (omega (arith, ap length (strip_is (codes ".NOT.") s r e), length-append (codes ".NOT.") r))) (λ x e. refl))
      by_front None None None e = refl

  start_same : (w : ℕ) (s : List ℕ) → length s ≤ suc n → start_at R w s ≡ start_at Q w s
  unfolding start_at
  start_same w [] h = refl
  start_same w (c ∷ s) h =
      let inner : (w : ℕ) → R.expr w s ≡ Q.expr w s = λ w. agree.expr w s (omega arith) in
      same_cond (c == 40) _ _ _ _ (same_bind (R.expr 1 s) (Q.expr 1 s) _ _ (inner 1) (λ x e. refl))
      (same_cond (c == 43) _ _ _ _ (same_when (nat_le w 6) _ _ _ (λ _. same_bind (R.expr 7 s) (Q.expr 7 s) _ _ (inner 7) (λ x e. refl)))
      (same_cond (c == 45) _ _ _ _ (same_when (nat_le w 6) _ _ _ (λ _. same_bind (R.expr 7 s) (Q.expr 7 s) _ _ (inner 7) (λ x e. refl)))
      (same_cond (c == 46) _ _ _ _
      (dotted_same w (c ∷ s) h)
      (word_same (word (c ∷ s)) (past_word (c ∷ s)) (omega (arith, past_word_short (c ∷ s)))))))

  expr_same : (w : ℕ) (s : List ℕ) → length s ≤ suc n → expr_at R w s ≡ expr_at Q w s
  unfolding expr_at
  expr_same w s h = same_bind (start_at R w s) (start_at Q w s) _ _ (start_same w s h)
      (λ x e. let f = sound.start_is R sound_R w s x e in
      agree.climb w x.0 x.1 x.2 (omega (arith, ap length f.is, length-append f.text x.2, spelled_long f.spells)))

  climb_same : (w : ℕ) (t : Tree) (own : ℕ) (s : List ℕ) → length s ≤ suc n → climb_at R w t own s ≡ climb_at Q w t own s
  unfolding climb_at
  climb_same w t own s h = step (operator_at s) refl
    where
      step : (o : Option (Operator × List ℕ)) → operator_at s ≡ o → climb_on R w t own s o ≡ climb_on Q w t own s o
      step None e = refl
      step (Some y) e =
          let fall : length y.1 < length s = operator_shorter s y e in
          same_when (nat_le w (level y.0) && nat_le (left_level y.0) own) _ _ _
          (λ _. same_bind (R.expr (right_level y.0) y.1) (Q.expr (right_level y.0) y.1) _ _ (agree.expr (right_level y.0) y.1 (omega arith))
          (λ z found. agree.climb w (Tree.Binary y.0 t z.0) (level y.0) z.1 (omega (arith, short.expr (right_level y.0) y.1 z found))))

  items_same : (s : List ℕ) → length s ≤ suc n → trees_at R s ≡ trees_at Q s
  unfolding trees_at
  items_same s h = same_bind (expr_at R 1 s) (expr_at Q 1 s) _ _ (expr_same 1 s h)
      (λ x e. let f = sound.expr_is R sound_R 1 s x e in more x.0 x.1 (omega (arith, ap length f.is, length-append f.text x.1, spelled_long f.spells)))
    where
      more : (t : Tree) (r : List ℕ) → length r ≤ n → more_at R t r ≡ more_at Q t r
      more t [] fall = refl
      more t (c ∷ r) fall = same_when (c == 44) _ _ _ (λ _. same_bind (R.items r) (Q.items r) _ _ (agree.items r (omega arith)) (λ x e. refl))

-- one more call inside another makes no difference
more_calls : (n : ℕ) → Agree n (within n) (within (suc n))
unfolding within expr_at start_at climb_at trees_at operator_at
more_calls zero = record {
  expr = none;
  climb = ends;
  items = empty;
}
  where
    none : (w : ℕ) (s : List ℕ) → length s ≤ 0 → (within zero).expr w s ≡ (within (suc zero)).expr w s
    none w [] h = refl
    none w (c ∷ s) h = absurd (omega arith)

    ends : (w : ℕ) (t : Tree) (own : ℕ) (s : List ℕ) → length s ≤ 0 → (within zero).climb w t own s ≡ (within (suc zero)).climb w t own s
    ends w t own [] h = refl
    ends w t own (c ∷ s) h = absurd (omega arith)

    empty : (s : List ℕ) → length s ≤ 0 → (within zero).items s ≡ (within (suc zero)).items s
    empty [] h = refl
    empty (c ∷ s) h = absurd (omega arith)
more_calls (suc n) =
    let sound_n = sound_within n in
    let short = shorter (within n) sound_n in
    let agree = more_calls n in
    record {
      expr = expr_same n (within n) (within (suc n)) short sound_n agree;
      climb = climb_same n (within n) (within (suc n)) short sound_n agree;
      items = items_same n (within n) (within (suc n)) short sound_n agree;
    }

-- two numbers of calls that are both enough read the same
enough_expr : (d n w : ℕ) (s : List ℕ) → length s ≤ n → (within n).expr w s ≡ (within (d + n)).expr w s
enough_expr zero n w s h = rw zero-add refl
enough_expr (suc d) n w s h = enough_expr d n w s h ∙ (more_calls (d + n)).expr w s (omega arith) ∙ ap (λ k. (within k).expr w s) (omega arith)

enough_climb : (d n w : ℕ) (t : Tree) (own : ℕ) (s : List ℕ) → length s ≤ n → (within n).climb w t own s ≡ (within (d + n)).climb w t own s
enough_climb zero n w t own s h = rw zero-add refl
enough_climb (suc d) n w t own s h = enough_climb d n w t own s h ∙ (more_calls (d + n)).climb w t own s (omega arith) ∙ ap (λ k. (within k).climb w t own s) (omega arith)

enough_items : (d n : ℕ) (s : List ℕ) → length s ≤ n → (within n).items s ≡ (within (d + n)).items s
enough_items zero n s h = rw zero-add refl
enough_items (suc d) n s h = enough_items d n s h ∙ (more_calls (d + n)).items s (omega arith) ∙ ap (λ k. (within k).items s) (omega arith)

reads : (n : ℕ) → Agree n (within n) reading
unfolding reading
reads n = record {
  expr = λ w s h. sym (enough_expr (n - length s) (length s) w s (omega arith) ∙ ap (λ k. (within k).expr w s) (omega arith));
  climb = λ w t own s h. sym (enough_climb (n - length s) (length s) w t own s (omega arith) ∙ ap (λ k. (within k).climb w t own s) (omega arith));
  items = λ s h. sym (enough_items (n - length s) (length s) s (omega arith) ∙ ap (λ k. (within k).items s) (omega arith));
}

-- the equations of the readers
pub reading_expr : (w : ℕ) (s : List ℕ) → reading.expr w s ≡ expr_at reading w s
unfolding within
reading_expr w s =
    let n = length s in
    sym ((reads (suc n)).expr w s (omega arith)) ∙ expr_same n (within n) reading (shorter (within n) (sound_within n)) (sound_within n) (reads n) w s (omega arith)

pub reading_climb : (w : ℕ) (t : Tree) (own : ℕ) (s : List ℕ) → reading.climb w t own s ≡ climb_at reading w t own s
unfolding within
reading_climb w t own s =
    let n = length s in
    sym ((reads (suc n)).climb w t own s (omega arith)) ∙ climb_same n (within n) reading (shorter (within n) (sound_within n)) (sound_within n) (reads n) w t own s (omega arith)

pub reading_items : (s : List ℕ) → reading.items s ≡ trees_at reading s
unfolding within
reading_items s =
    let n = length s in
    sym ((reads (suc n)).items s (omega arith)) ∙ items_same n (within n) reading (shorter (within n) (sound_within n)) (sound_within n) (reads n) s (omega arith)
