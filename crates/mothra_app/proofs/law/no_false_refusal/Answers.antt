use Rattle.mothra_app.proofs.NoFalseRefusal.{fair, out_of_resources}
use Rattle.mothra_app.proofs.law.no_false_refusal.Goals as goal

pub returns-clause-answer : goal.returns-clause-answer
returns-clause-answer c = λ words bytes report status text legal may. fair words bytes report c.one_answer.ensures legal status text may

pub returns-clause-out_of_resources : goal.returns-clause-out_of_resources
returns-clause-out_of_resources c = out_of_resources
