use Rattle.f77_syntax.proofs.Common.{refl, ◌∙◌, sym, ap, ◌≡◌, true, false, is_name, past_word, word}
use Rattle.f77_syntax.proofs.joined.split_name.Goals as goal

pub returns-then-not-is_name-clause-found : goal.returns-then-not-is_name-clause-found
returns-then-not-is_name-clause-found c =
    let n : is_name c.split_word.result.0.now ≡ false = cc in rw (ap is_name (sym c.split_word.ensures.front) ∙ n) refl

pub returns-clause-found : goal.returns-clause-found
returns-clause-found c =
    let s = c.args.text.now in
    let front = c.split_word.ensures.front in
    let n : is_name c.split_word.result.0.now ≡ true = cc in
    ((word s, past_word s), rw (ap is_name (sym front) ∙ n) refl, (front, c.split_word.ensures.back))
