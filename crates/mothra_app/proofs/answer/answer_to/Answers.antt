use Rattle.mothra_app.proofs.Common.{string_bytes, IsAnswer, IsOutcomeAnswer, job_of}
use Rattle.mothra_app.proofs.Answered.{IfOk-both, fault_answered}
use Rattle.mothra_app.proofs.answer.answer_to.Goals as goal

pub returns-in-Ok-clause-answer : goal.returns-in-Ok-clause-answer
returns-in-Ok-clause-answer g c = IsAnswer.of_outcome (IsOutcomeAnswer.report c.in-Ok.ensures)

pub returns-in-Err-clause-answer : goal.returns-in-Err-clause-answer
returns-in-Err-clause-answer g c =
    IfOk-both c.fault_answer.result _ _ _
    (λ a is line. fault_answered g.P.Service.promise c.args.request.now (job_of c.args.bytes.now) c.in-Err.fault a.status (string_bytes a.text) is line c.in-Err.ensures)
    c.fault_answer.ensures.status c.fault_answer.ensures.text
