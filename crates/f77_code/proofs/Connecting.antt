-- Relations and logical operators of values, as numbers.
use Rattle.f77_code.proofs.Common.{◌≡◌, ◌∙◌, ap, sym, subst, true, false, Bool, ℤ, pos, Ok, Result, not, cond, encodes_value, fits_truth, Encodes, truth_number}
use Rattle.f77_code.proofs.Common.{IsValueOrFault, HasValue, is_same, fits, Connective, Fault, connected_number}
use Rattle.f77_actions.proofs.Operations.{value_fits}
use Rattle.f77_actions.specs.declared.expression.Connective.TheVariants as connective

pub truth_encodes : (b c : Bool) (z : ℤ) → z ≡ truth_number c → c ≡ b → Encodes z (Ok (truth_number b))
truth_encodes b c z is same = subst (λ w. Encodes w (Ok (truth_number b))) (sym (is ∙ ap truth_number same)) (encodes_value (truth_number b) (fits_truth b))

value_of : (r : Result ℤ Fault) (z : ℤ) → r ≡ Ok z → fits z ≡ true → Encodes z r
value_of r z e fit = subst (λ q. Encodes z q) (sym e) (encodes_value z fit)

choice_fits : (b : Bool) (x y z : ℤ) → fits x ≡ true → fits y ≡ true → cond b x y ≡ z → fits z ≡ true
choice_fits true x y z f g e = subst (λ w. fits w ≡ true) e f
choice_fits false x y z f g e = subst (λ w. fits w ≡ true) e g

pub connected_encodes : (op : Connective) (x y z : ℤ) → IsValueOrFault x → IsValueOrFault y → connected_number op x y ≡ Ok z → HasValue x → HasValue y → Encodes z (connected_number op x y)
connected_encodes connective.And x y z s t e m n =
    let same : cond (is_same x (pos 0)) x y ≡ z = cc (e) in
    value_of (connected_number connective.And x y) z e (choice_fits (is_same x (pos 0)) x y z (value_fits x s m) (value_fits y t n) same)
connected_encodes connective.Or x y z s t e m n =
    let same : cond (is_same x (pos 0)) y x ≡ z = cc (e) in
    value_of (connected_number connective.Or x y) z e (choice_fits (is_same x (pos 0)) y x z (value_fits y t n) (value_fits x s m) same)
connected_encodes connective.Equivalent x y z s t e m n =
    let same : truth_number (is_same x y) ≡ z = cc (e) in
    value_of (connected_number connective.Equivalent x y) z e (subst (λ w. fits w ≡ true) same (fits_truth (is_same x y)))
connected_encodes connective.NotEquivalent x y z s t e m n =
    let same : truth_number (not (is_same x y)) ≡ z = cc (e) in
    value_of (connected_number connective.NotEquivalent x y) z e (subst (λ w. fits w ≡ true) same (fits_truth (not (is_same x y))))
