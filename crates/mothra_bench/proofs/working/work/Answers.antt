use Rattle.mothra_bench.proofs.Common.{◌∙◌, sym, refl, ⊎_elim, true≢false, Vec, Global, AreOver, Row}
use Rattle.mothra_bench.proofs.WorkerSteps.{answers, any_rows, faulty_answer, own_verdicts, same_verdicts, went_on, went_still}
use Rattle.mothra_bench.proofs.working.work.Goals as goal

pub loop-init : goal.loop-init
loop-init g c = (
  tt,
  tt,
  c.requires,
  λ parts. refl,
  own_verdicts c.of.result c.ok-verdicts.result c.args.bench.now c.of.ensures c.ok-verdicts.ensures.value,
  went_still c.args.bench.now g.G.Gate.may_give_up g.G.Gate.keeps_records (g.G.Gate.view c.args.pass) c.new-results.result,
)

pub loop-preserved-in-Ran : goal.loop-preserved-in-Ran
loop-preserved-in-Ran g c = (
  tt,
  tt,
  c.take_round.ensures.own,
  λ parts. c.take_round.ensures.part parts ∙ c.loop.invariant.3 parts,
  same_verdicts c.args.bench.now c.take_round.ensures.verdicts c.loop.invariant.4,
  went_on _ _ _ _ _ _ _ _ _ c.loop.invariant.5 (c.take_round.ensures.went c.args.bench.now c.loop.invariant.4),
)

pub loop-preserved : goal.loop-preserved
loop-preserved g c = (
  tt,
  tt,
  c.take_round.ensures.own,
  λ parts. c.take_round.ensures.part parts ∙ c.loop.invariant.3 parts,
  same_verdicts c.args.bench.now c.take_round.ensures.verdicts c.loop.invariant.4,
  went_on _ _ _ _ _ _ _ _ _ c.loop.invariant.5 (c.take_round.ensures.went c.args.bench.now c.loop.invariant.4),
)

pub returns-in-Finished : goal.returns-in-Finished
returns-in-Finished g c =
    let bench = c.args.bench.now in
    let old = g.G.Gate.view c.args.pass in
    let new = g.G.Gate.view c.take_round.new.pass in
    let went = went_on bench g.G.Gate.may_give_up g.G.Gate.keeps_records old (g.G.Gate.view c.loop.pass) new c.new-results.result c.loop.results
    c.take_round.new.results c.loop.invariant.5 (c.take_round.ensures.went bench c.loop.invariant.4) in
    let answer = answers bench g.G.Gate.may_give_up g.G.Gate.keeps_records old new c.new-results.result c.take_round.new.results c.outcome.result
    c.new-results.ensures.rows c.new-results.ensures.fault went c.outcome.ensures in
    record {
      own = c.take_round.ensures.own;
      verdicts = answer.verdicts;
      refused = answer.refused;
      part = λ parts. c.take_round.ensures.part parts ∙ c.loop.invariant.3 parts;
      pass = went.pass;
      records = answer.records;
      stranger = answer.stranger;
      over = λ keeps.
          let all = (λ (rows : Vec Row Global). AreOver new) in
          ⊎_elim (λ is. any_rows (AreOver new) c.outcome.result (c.take_round.ensures.over keeps is))
          (λ is. faulty_answer all c.take_round.new.results.fault c.take_round.new.results.rows c.outcome.result (c.take_round.ensures.gave_up is).1 c.outcome.ensures)
          c.in-Finished.is;
      stays = λ keeps never. ⊎_elim (c.take_round.ensures.over keeps) (λ is. absurd (true≢false (sym (c.take_round.ensures.gave_up is).0 ∙ never))) c.in-Finished.is;
    }
