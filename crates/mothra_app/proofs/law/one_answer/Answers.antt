use Rattle.mothra_app.proofs.OneAnswer.{one_answer}
use Rattle.mothra_app.proofs.law.one_answer.Goals as goal

pub returns : goal.returns
returns c = λ words bytes status other text also. one_answer words bytes status other text also record {
  one_list = c.one_reading.ensures.cards;
  one_form_fault = c.one_reading.ensures.fault;
  cards_or_fault = c.one_reading.ensures.either;
  one_program = c.one_program.ensures.lines;
  one_syntax_fault = c.one_program.ensures.fault;
  one_report = c.one_report.ensures;
  one_run = c.one_outcome.ensures.answer;
  one_edit_list = c.one_list.ensures;
  too_long = c.too_long.ensures;
  program_or_fault = c.one_program.ensures.either;
}
