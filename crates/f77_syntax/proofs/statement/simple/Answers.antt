use Rattle.f77_syntax.proofs.Common.{refl, IsStatement, word_statement, simple_at}
use Rattle.f77_syntax.proofs.Gives.{gives_along}
use Rattle.f77_syntax.proofs.BranchGives.{given, word_kept}
use Rattle.f77_syntax.proofs.statement.simple.Goals as goal

pub returns : goal.returns
unfolding simple_at
returns c =
    rw c.ok_or.ensures.value (gives_along IsStatement _ (word_statement c.args.text.now) (simple_at c.args.text.now) (rw (← c.in_default.ensures) refl)
    (given c.word_statement.result _ c.word_statement.ensures (word_kept c.args.text.now)))
