use Rattle.f77_code.proofs.Together as together
use Rattle.f77_code.proofs.law.codes_go_together.Goals as goal

pub returns-clause-alongside : goal.returns-clause-alongside
returns-clause-alongside c = together.alongside

pub returns-clause-never : goal.returns-clause-never
returns-clause-never c = together.never_diverge

pub returns-clause-at : goal.returns-clause-at
returns-clause-at c = together.diverge_at

pub returns-clause-step : goal.returns-clause-step
returns-clause-step c = together.makes_step
