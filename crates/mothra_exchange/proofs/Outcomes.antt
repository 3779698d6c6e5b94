-- What a compare-exchange left, concluded from what it found.
use Rattle.mothra_exchange.proofs.Common.{◌≡◌, ℕ, ◌∙◌, sym, length, ap, subst, ◌≢◌, ⊎_elim, length-set, Me, step, op_at-index, index, op_at, Op, AtMost}
use Rattle.mothra_exchange.proofs.Common.{look_at, pack, view_after_finding, LostTo, ChangeOfTable, Exchanges, IsNewChange, view_after, View, Word, none}
use Rattle.mothra_exchange.proofs.Exchanges.{change_apart}

-- what stays, whether it won or lost
pub stays : {S : Type 0} (c : ChangeOfTable) (i slots first second found : ℕ) (me new : Me S View) → Exchanges c (step slots i first second none) me found new
    → (new.1 ≡ me.1) × (new.0.part ≡ me.0.part) × (length new.0.looks ≡ length me.0.looks)
stays {S} c i slots first second found me new outcome = ⊎_elim
    (λ t. let a = change_apart c (op_at i) me.0 (look_at me.0 i).loaded in (
      ap (λ (m : Me S View). m.1) t.2,
      ap (λ (m : Me S View). m.0.part) t.2 ∙ a.part,
      ap (λ (m : Me S View). length m.0.looks) t.2 ∙ a.looks,
    ))
    (λ t. (
      ap (λ (m : Me S View). m.1) t.5,
      ap (λ (m : Me S View). m.0.part) t.5,
      ap (λ (m : Me S View). length m.0.looks) t.5 ∙ length-set me.0.looks i _,
    ))
    outcome

-- a compare-exchange won where it found the word that it expected
pub won : {S : Type 0} (c : ChangeOfTable) (op : Op) (i slots first second found : ℕ) (me new : Me S View) (w : Word) → i ≡ index op → (look_at me.0 (index op)).loaded ≡ w
    → found ≡ first → Exchanges c (step slots i first second none) me found new → IsNewChange c me.0 op w × (new.0 ≡ view_after c me.0 op w)
won {S} c op i slots first second found me new w here loaded hit outcome = ⊎_elim
    (λ t. subst (λ (y : Op × Word). IsNewChange c me.0 y.0 y.1 × (new.0 ≡ view_after c me.0 y.0 y.1))
    (λ k. ((ap op_at here ∙ op_at-index op) k, (ap (λ (j : ℕ). (look_at me.0 j).loaded) here ∙ loaded) k))
    (t.1, ap (λ (m : Me S View). m.0) t.2))
    (λ t. absurd (t.2 hit))
    outcome

-- a compare-exchange lost where it found another word
pub lost : {S : Type 0} (c : ChangeOfTable) (op : Op) (i slots first second found : ℕ) (me new : Me S View) (w : Word) → i ≡ index op → (look_at me.0 (index op)).loaded ≡ w
    → first ≡ pack w → found ≢ first → Exchanges c (step slots i first second none) me found new → LostTo me.0 op w new.0
lost {S} c op i slots first second found me new w here loaded is miss outcome = ⊎_elim
    (λ t. absurd (miss t.0))
    (λ t. let x = t.0 in (
      x,
      subst (λ (y : Word). AtMost y x) (ap (λ (j : ℕ). (look_at me.0 j).loaded) here ∙ loaded) t.4,
      (λ e. t.2 (t.1 ∙ ap pack e ∙ sym is)),
      ap (λ (m : Me S View). m.0) t.5
          ∙ (λ k. view_after_finding me.0 (here k) x),
    ))
    outcome
