use Rattle.mothra_app.proofs.OneAnswer.{any_workers}
use Rattle.mothra_app.proofs.law.any_workers.Goals as goal

pub returns : goal.returns
returns c = λ words others operators every steps workers more bytes status other text also. any_workers words others operators every steps workers more bytes status other text also record {
  one_list = c.one_reading.ensures.cards;
  one_form_fault = c.one_reading.ensures.fault;
  cards_or_fault = c.one_reading.ensures.either;
  one_program = c.one_program.ensures.lines;
  one_syntax_fault = c.one_program.ensures.fault;
  one_report = c.one_report.ensures;
  one_run = c.one_outcome.ensures.answer;
  one_edit_list = c.one_list.ensures;
  too_long = c.too_long.ensures;
  program_or_fault = c.one_program.ensures.either;
}
