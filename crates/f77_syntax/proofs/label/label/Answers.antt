use Rattle.f77_syntax.proofs.Common.{refl, ◌∙◌, sym, ap, ◌≡◌, true, label_at, digits, past_digits, is_number, label_number}
use Rattle.f77_syntax.proofs.label.label.Goals as goal

pub returns-clause-found : goal.returns-clause-found
unfolding label_at
returns-clause-found c =
    let s = c.args.text.now in
    let front = c.split_digits.ensures.front in
    let n : is_number c.split_digits.result.0.now ≡ true = cc in
    ((label_number (digits s), past_digits s), rw (ap is_number (sym front) ∙ n) refl, (c.label_number.ensures ∙ ap label_number front, c.split_digits.ensures.back))
