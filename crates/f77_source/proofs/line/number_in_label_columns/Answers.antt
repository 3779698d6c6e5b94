use Rattle.f77_source.proofs.Common.{◌≡◌, ℕ, List, ap, ◌∙◌, length, arith, true, ◌+◌, sym, ◌<◌, get_or, take, ◌-◌, take_all, ◌*◌, add-one, ◌^◌, list_all}
use Rattle.f77_source.proofs.Common.{digits_value, is_label_character, field_number}
use Rattle.std.proofs.Math.Nat.{pow-succ'}
use Rattle.f77_source.proofs.Columns.{dense, dense_blank, dense_more, label_digit, number_more}
use Rattle.f77_source.proofs.line.number_in_label_columns.Goals.{then-c-ne32, else-c-ne32}
use Rattle.f77_source.proofs.line.number_in_label_columns.Goals as goal

step_blank : (xs : List ℕ) (i n : ℕ) → i < length xs → get_or xs i 0 ≡ 32 → (n ≡ digits_value 10 (dense (take i xs))) × (n < 10 ^ i)
    → (n ≡ digits_value 10 (dense (take (i + 1) xs))) × (n < 10 ^ (i + 1))
step_blank xs i n h e inv = (inv.0 ∙ ap (digits_value 10) (sym (dense_blank xs i h e)), let p : 10 ^ (i + 1) ≡ 10 * 10 ^ i = rw add-one (pow-succ' 10 i) in omega (arith, inv.1, p))

step_digit : (xs : List ℕ) (i n : ℕ) → i < length xs → (get_or xs i 0 ≡ 32 → ⊥) → list_all is_label_character xs ≡ true
    → (n ≡ digits_value 10 (dense (take i xs))) × (n < 10 ^ i)
    → (10 * n + (get_or xs i 0 - 48) ≡ digits_value 10 (dense (take (i + 1) xs))) × (10 * n + (get_or xs i 0 - 48) < 10 ^ (i + 1))
step_digit xs i n h e all inv =
    let d = label_digit xs i all h e in
    let v = number_more (dense (take i xs)) (get_or xs i 0) d.0 d.1 in
    let m = ap (digits_value 10) (dense_more xs i h e) in
    let p : 10 ^ (i + 1) ≡ 10 * 10 ^ i = rw add-one (pow-succ' 10 i) in
    (omega (arith, inv.0, v, m), omega (arith, inv.1, p, d.1))

pub loop-c-preserved : goal.loop-c-preserved
loop-c-preserved c =
    elim c.if-c-ne32.branch [
      | then-c-ne32 w ↦ rw (w.number-is, w.from.ensures) (step_digit _ _ _ c.loop-c-test.true w.if-c-ne32.true (rw c.label_columns-c-items.ensures c.requires) c.loop-c.invariant)
      | else-c-ne32 w ↦ rw w.number-is (step_blank _ _ _ c.loop-c-test.true w.if-c-ne32.false c.loop-c.invariant)
    ]

pub returns-clause-value : goal.returns-clause-value
unfolding field_number
returns-clause-value c = c.loop-c.invariant.0 ∙ ap (λ (xs : List ℕ). digits_value 10 (dense xs)) (take_all _ _ c.loop-c-test.false ∙ c.label_columns-c-items.ensures)
