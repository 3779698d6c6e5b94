use Rattle.mothra_verdicts.proofs.Common.{program_of, FitsProgram}
use Rattle.mothra_verdicts.proofs.BenchTests.{first_not, one_more, none_left, passed, failed}
use Rattle.mothra_verdicts.proofs.running.first_misfit.Goals as goal

pub returns-then-not-fits-clause-misfit : goal.returns-then-not-fits-clause-misfit
returns-then-not-fits-clause-misfit c =
    first_not (FitsProgram (program_of c.args.plan.now)) c.args.tests.now c.loop-index.index c.index-tests-index.result c.loop-index-test.true c.index-tests-index.is
    c.loop-index.invariant (failed c.fits.result c.fits.ensures c.if-not-fits.true)

pub loop-index-preserved : goal.loop-index-preserved
loop-index-preserved c =
    one_more (FitsProgram (program_of c.args.plan.now)) c.args.tests.now c.loop-index.index c.index-tests-index.result c.loop-index-test.true c.index-tests-index.is
    c.loop-index.invariant (passed c.fits.result c.fits.ensures c.if-not-fits.false)

pub returns-clause-fit : goal.returns-clause-fit
returns-clause-fit c =
    none_left (FitsProgram (program_of c.args.plan.now)) c.args.tests.now c.loop-index.index c.loop-index-test.false c.loop-index.invariant
