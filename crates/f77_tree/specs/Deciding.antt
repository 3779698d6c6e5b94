-- Tests that hold of equal values alone.
use Rattle.std.specs.Prelude.{◌≡◌, Bool, true, Option, Some, None, refl}
use Rattle.std.specs.Bool.{Decides}
use Rattle.std.specs.Option.{option_eq}
use Rattle.std.proofs.Common.{true≢false, sym, ap, subst}

-- a test decides equality if it holds of no two different values, and of each value and itself
pub decided_by : {K : Type 0} (test : K → K → Bool)
    → ((x y : K) → test x y ≡ true → x ≡ y) → ((x : K) → test x x ≡ true)
    → (x y : K) → Decides (test x y) (x ≡ y)
decided_by test same own x y = (same x y, λ e. subst (λ z. test x z ≡ true) e (own x))

module _ {K : Type 0} (test : K → K → Bool) (decides : (x y : K) → Decides (test x y) (x ≡ y)) where
  same_option : (a b : Option K) → option_eq test a b ≡ true → a ≡ b
  same_option None None e = refl
  same_option (Some x) (Some y) e = ap Some ((decides x y).0 e)
  same_option _ _ e = absurd (true≢false (sym e))

  own_option : (a : Option K) → option_eq test a a ≡ true
  own_option None = refl
  own_option (Some x) = (decides x x).1 refl

  pub option_decides : (a b : Option K) → Decides (option_eq test a b) (a ≡ b)
  option_decides = decided_by (option_eq test) same_option own_option
