-- Arguments beside the shapes of their dummy arguments.
use Rattle.f77_run.proofs.Common.{◌≡◌, length, sym, ◌∙◌, ap, subst, List, arith, refl, ◌<◌, ℕ, Some, true, [], ◌∷◌, ◌++◌, None, ◌≤◌, Bool, drop, Option, suc}
use Rattle.f77_run.proofs.Common.{false, option_map, append-nil, eq-eqb, not, cond, drop_all, length-zip, AllZip-long, zip, Shape, first_place, AreFitting}
use Rattle.f77_run.proofs.Common.{has_shape, first_misfit, refusal, Arg}
use Rattle.std.proofs.lemmas.List.Quantifiers.{position-Some}

-- the first misfit is one of the arguments
pub misfit_within : (list : List Shape) (arguments : List Arg) (i : ℕ) → first_misfit list arguments ≡ Some i → i < length arguments
misfit_within [] arguments i e = absurd (cc (e))
misfit_within (x ∷ list) [] i e = absurd (cc (e))
misfit_within (x ∷ list) (argument ∷ arguments) i e =
    let within = (position-Some (λ pair. not (has_shape pair.0 pair.1)) (zip (x ∷ list) (argument ∷ arguments)) i (x, argument) e).0 in
    let long = length-zip (x ∷ list) (argument ∷ arguments) in
    omega (arith, within, long)

-- the first misfit where there is one more argument
abbrev misfit_from : Shape → Arg → Option ℕ → Option ℕ
misfit_from shape argument later = cond (not (has_shape shape argument)) (Some 0) (option_map suc later)

misfit_more : (shape : Shape) (list : List Shape) (argument : Arg) (arguments : List Arg)
    → first_misfit (shape ∷ list) (argument ∷ arguments) ≡ misfit_from shape argument (first_misfit list arguments)
misfit_more shape list argument arguments = first_place (λ pair. not (has_shape pair.0 pair.1)) (shape, argument) (zip list arguments)

neither : (b : Bool) (o : Option ℕ) → cond (not b) (Some 0) (option_map suc o) ≡ None → (b ≡ true) × (o ≡ None)
neither true None e = (refl, refl)
neither true (Some i) e = absurd (cc (e))
neither false o e = absurd (cc (e))

-- as many arguments as shapes fit where there is no misfit, and only there
pub all_fit : (list : List Shape) (arguments : List Arg) → length arguments ≡ length list → first_misfit list arguments ≡ None → AreFitting list arguments
all_fit [] [] count none = tt
all_fit [] (argument ∷ arguments) count none = absurd (omega (arith, count))
all_fit (shape ∷ list) [] count none = absurd (omega (arith, count))
all_fit (shape ∷ list) (argument ∷ arguments) count none =
    let parts = neither (has_shape shape argument) (first_misfit list arguments) (sym (misfit_more shape list argument arguments) ∙ none) in
    (parts.0, all_fit list arguments (omega (arith, count)) parts.1)

pub no_misfit : (list : List Shape) (arguments : List Arg) → AreFitting list arguments → first_misfit list arguments ≡ None
no_misfit [] [] fits = refl
no_misfit [] (argument ∷ arguments) fits = absurd fits
no_misfit (shape ∷ list) [] fits = absurd fits
no_misfit (shape ∷ list) (argument ∷ arguments) fits =
    misfit_more shape list argument arguments
    ∙ ap (λ b. cond (not b) (Some 0) (option_map suc (first_misfit list arguments))) fits.0
    ∙ ap (option_map suc) (no_misfit list arguments fits.1)

-- Arguments for the first n shapes fit all shapes, if they do with any arguments that fit the rest, and there is no rest.
pub fit_whole : (list : List Shape) (n : ℕ) (arguments : List Arg) → length list ≤ n
    → ((more : List Arg) → AreFitting (drop n list) more → AreFitting list (arguments ++ more)) → AreFitting list arguments
fit_whole list n arguments end joined =
    subst (AreFitting list) (append-nil arguments) (joined [] (subst (λ left. AreFitting left []) (sym (drop_all n list end)) tt))

-- arguments that fit are as many as the shapes
pub as_many_fit : (list : List Shape) (arguments : List Arg) → AreFitting list arguments → length arguments ≡ length list
as_many_fit list arguments fits = AllZip-long (λ shape argument. has_shape shape argument ≡ true) list arguments fits

-- arguments that fit are not refused
pub not_refused : (list : List Shape) (arguments : List Arg) → AreFitting list arguments → refusal list arguments ≡ None
not_refused list arguments fits =
    let count = eq-eqb (length arguments) (length list) (as_many_fit list arguments fits) in
    rw (count, no_misfit list arguments fits) refl
