use Rattle.f77_terms.proofs.Common.{arith, []}
use Rattle.f77_terms.proofs.Fitting.{number_of, numbers_of, number_made}
use Rattle.f77_terms.proofs.atoms.law_of_atoms.Goals as goal

pub returns : goal.returns
returns c held =
    let keys = c.args.table.now.keys.items in
    (number_of (numbers_of held [] keys), λ k key is order. number_made held [] keys k k key is (omega arith) order)
