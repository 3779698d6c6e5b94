use Rattle.mothra_app.proofs.Common.{ℕ, List, string_bytes, subst, IsAnswer, job_of}
use Rattle.mothra_app.proofs.Answered.{answered}
use Rattle.mothra_app.proofs.serving.read_and_answer.Goals as goal

pub returns-clause-answered : goal.returns-clause-answered
returns-clause-answered g c = λ words asks.
    let a = c.in_ok-answer_to.field-0 in
    let promise = g.P.Service.promise in
    let request = c.args.request.now in
    answered promise words _ _ c.in_ok-bytes.bytes.items request a.status (string_bytes a.text) asks c.in_ok-bytes.ensures.bytes
    (subst (λ (bytes : List ℕ). IsAnswer promise request (job_of bytes) a.status (string_bytes a.text)) c.deref.ensures.value c.in_ok-answer_to.ensures.answer)
