use Rattle.f77_symbolic.proofs.Common.{arith, ◌⊎◌, inl, inr, zero, suc, refl, sym, subst, ℤ, pos, negsuc, ints, HasSign, Holds, sum_value}
use Rattle.std.specs.declared.cmp.Ordering.{Ordering}
use Rattle.std.specs.declared.cmp.Ordering.TheVariants.{Less, Equal, Greater}
use Rattle.f77_symbolic.proofs.walking.split_path.Goals as goal
use Rattle.f77_symbolic.proofs.walking.split_path.Goals.{in-Less+in_ok-add_below-in-Less, in-Equal+in_ok-add_equal-in-Equal, in-Greater+in_ok-add_below-in-Greater}

-- a number has the sign, or it has not
sign_ways : (sign : Ordering) (z : ℤ) → HasSign sign z ⊎ ¬ (HasSign sign z)
sign_ways Less (pos n) = inr (λ h. omega (arith, ints, h))
sign_ways Less (negsuc n) = inl (omega (arith, ints))
sign_ways Equal (pos zero) = inl refl
sign_ways Equal (pos (suc n)) = inr (λ e. cc (e))
sign_ways Equal (negsuc n) = inr (λ e. cc (e))
sign_ways Greater (pos zero) = inr (λ h. omega (arith, ints, h))
sign_ways Greater (pos (suc n)) = inl (omega (arith, ints))
sign_ways Greater (negsuc n) = inr (λ h. omega (arith, ints, h))

pub returns : goal.returns
returns c v holds =
    let one = c.in_ok-first.ensures v holds in
    let other = c.in_ok-second.ensures v holds in
    elim (sign_ways c.args.sign (sum_value v c.args.term.now)) [
      | inl has ↦ inl (c.settle.ensures v (elim c.match-sign.branch [
        | in-Less+in_ok-add_below-in-Less w ↦
            let low = rw w.in-Less.is at has in subst (Holds v) (sym w.first-is) (w.in_ok-add_below-in-Less.ensures v one (omega (arith, ints, low)))
        | in-Equal+in_ok-add_equal-in-Equal w ↦
            subst (Holds v) (sym w.first-is) (w.in_ok-add_equal-in-Equal.ensures v one (rw w.in-Equal.is at has))
        | in-Greater+in_ok-add_below-in-Greater w ↦
            let high = rw w.in-Greater.is at has in subst (Holds v) (sym w.first-is) (w.in_ok-add_below-in-Greater.ensures v one (omega (arith, ints, high)))
      ]))
      | inr never ↦ inr (c.settle-2.ensures v (c.in_ok-add_other_sign.ensures v other never))
    ]
