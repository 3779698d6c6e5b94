use Rattle.mothra_cli.proofs.CodeLists.{IsReadTo}
use Rattle.mothra_cli.proofs.operators.Operators.named.Given as goal

abbrev pub invariant-loop-code : goal.invariant-loop-code
invariant-loop-code l = IsReadTo l.fn.text l.list.items l.code-iterator
