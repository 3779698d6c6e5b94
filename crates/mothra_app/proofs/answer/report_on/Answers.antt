use Rattle.mothra_app.proofs.Common.{refl, string_bytes, faults_in_place, Job, IsRequestOutcome, job_of}
use Rattle.mothra_job.proofs.FewTests.{few_tests}
use Rattle.mothra_app.proofs.Answered.{job_refused, read_so, reported}
use Rattle.mothra_app.proofs.Stages.{of_fault}
use Rattle.mothra_app.proofs.answer.report_on.Goals as goal

pub returns-in_err-job : goal.returns-in_err-job
returns-in_err-job g c =
    let promise = g.P.Service.promise in
    let request = c.args.request.now in
    of_fault string_bytes (IsRequestOutcome promise request (job_of c.args.bytes.now)) (faults_in_place promise request) c.from_residual.result
    (Job c.in_err-job.field-0.0) c.from_residual.ensures.1
    (job_refused promise request (job_of c.args.bytes.now) _ c.in_err-job.field-0.0 refl c.in_err-job.ensures.job)

pub report-requires : goal.report-requires
report-requires g c =
    let few = few_tests c.args.bytes.now c.in_ok-job.job (read_so c.in_ok-job.job (job_of c.args.bytes.now) c.in_ok-job.ensures.job) in
    c.requires.keeps.callable c.args.request c.in_ok-job.job (c.requires.bounded, few)

pub returns : goal.returns
returns g c =
    let few = few_tests c.args.bytes.now c.in_ok-job.job (read_so c.in_ok-job.job (job_of c.args.bytes.now) c.in_ok-job.ensures.job) in
    reported g.P.Service.promise c.args.request.now c.in_ok-job.job (job_of c.args.bytes.now) c.report.result c.in_ok-job.ensures.job
    (c.requires.keeps.gives c.args.request c.in_ok-job.job c.report.result (c.requires.bounded, few) c.report.ensures)
