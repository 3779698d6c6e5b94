-- The test of two cards holds exactly where they are equal.
use Rattle.std.specs.Prelude.{◌≡◌, ℕ, nat_eq, true, Option, Some, None, refl}
use Rattle.std.specs.Bool.{Decides}
use Rattle.std.specs.Option.{option_eq}
use Rattle.std.specs.Cmp.{IsEquivalence, decided, unsigned_Decides, first_so, second_so}
use Rattle.std.specs.Cmp.Derive.{both_true}
use Rattle.std.specs.Cmp.Lexicographic.{bytes_decides}
use Rattle.std.proofs.Common.{true≢false, sym, ap, subst}
use Rattle.f77_source.specs.Card.{CardFields, same_card}

label_is : (a b : Option ℕ) → option_eq nat_eq a b ≡ true → a ≡ b
label_is None None e = refl
label_is (Some x) (Some y) e = ap Some ((unsigned_Decides x y).0 e)
label_is _ _ e = absurd (true≢false (sym e))

label_own : (a : Option ℕ) → option_eq nat_eq a a ≡ true
label_own None = refl
label_own (Some x) = (unsigned_Decides x x).1 refl

same : (a b : CardFields) → same_card a b ≡ true → a ≡ b
same a b e =
    let label : a.label ≡ b.label = label_is a.label b.label (first_so _ _ e) in
    let text : a.text ≡ b.text = (bytes_decides a.text b.text).0 (first_so _ _ (second_so _ _ e)) in
    let line : a.line ≡ b.line =
    (unsigned_Decides a.line b.line).0 (second_so _ _ (second_so _ _ e)) in
    λ i. record { label = label i; text = text i; line = line i }

own : (a : CardFields) → same_card a a ≡ true
own a =
    both_true (label_own a.label)
    (both_true ((bytes_decides a.text a.text).1 refl) ((unsigned_Decides a.line a.line).1 refl))

pub same_card_decides : (card other : CardFields) → Decides (same_card card other) (card ≡ other)
same_card_decides card other =
    (same card other, λ e. subst (λ z. same_card card z ≡ true) e (own card))

pub same_card_equiv : IsEquivalence same_card
same_card_equiv = decided same_card same_card_decides
