use Rattle.mothra_equivalents.proofs.Common.{rules, ◌≡◌, ◌∙◌, ap, arith, false, sym, true≢false}
use Rattle.std.proofs.lemmas.Bool.Decides.{when_false}
use Rattle.std.proofs.lemmas.Cmp.{lists_equiv}
use Rattle.std.specs.Cmp.Lexicographic.{pointwise}
use Rattle.f77_meaning.specs.contracts.argument.ArgEq.TheImpl.Laws.{laws-law}
use Rattle.f77_meaning.specs.contracts.argument.ArgPartialEq.TheImpl.{ghosts}
use Rattle.mothra_equivalents.proofs.unproved.is_new.Goals as goal

pub returns : goal.returns
returns c = λ new k d within same.
    let test = c.args.test.now in
    let no : c.contains.result ≡ false = search rules in
    let other = when_false _ _ no c.contains.ensures.cases k d (omega arith) within in
    true≢false (sym ((lists_equiv laws-law).refl test) ∙ sym (ap (λ x. pointwise ghosts.eq x test) same) ∙ other)
