use Rattle.mothra_app.proofs.Common.{◌∙◌, Ok, map, subst, line_of, of_programs, AreCardsOf, InTurn, IsProgramIn, Syntax, Form}
use Rattle.f77_source.specs.Read as forms
use Rattle.mothra_app.proofs.Stages.{comes, of_fault, passed_on}
use Rattle.mothra_app.proofs.Refusals.{cards_read, form_refused, syntax_refused}
use Rattle.mothra_app.proofs.program.program_of.Goals as goal

pub returns-in_err-cards : goal.returns-in_err-cards
returns-in_err-cards c =
    let source = c.args.job.now.source in
    let fault = c.in_err-cards.field-0.0 in
    passed_on (map line_of) (AreCardsOf source) IsProgramIn of_programs of_programs (λ f memory. memory) c.from_residual.result (Form fault)
    c.from_residual.ensures.1
    (form_refused source fault (subst (λ bytes. forms.IsRefusedBy bytes fault) (c.as_bytes.ensures.value ∙ c.source.ensures) c.in_err-cards.ensures.refused))

pub returns-in_err-parse : goal.returns-in_err-parse
returns-in_err-parse c =
    let source = c.args.job.now.source in
    let cards = c.deref.result.now in
    let result = c.from_residual-in_err-parse.result in
    let fault = c.in_err-parse.field-0.0 in
    let read : AreCardsOf source (Ok cards) = cards_read source _ c.in_ok-cards.cards.items cards (c.as_bytes.ensures.value ∙ c.source.ensures)
    c.deref.ensures.value c.in_ok-cards.ensures.within c.in_ok-cards.ensures.cards in
    comes (map line_of) (AreCardsOf source) IsProgramIn of_programs cards result read
    (of_fault (map line_of) (IsProgramIn cards) of_programs result (Syntax fault) c.from_residual-in_err-parse.ensures.1
    (syntax_refused cards fault c.in_err-parse.ensures.refused))

pub returns : goal.returns
returns c =
    InTurn.gave {a = c.deref.result.now}
    (cards_read c.args.job.now.source _ c.in_ok-cards.cards.items c.deref.result.now (c.as_bytes.ensures.value ∙ c.source.ensures)
    c.deref.ensures.value c.in_ok-cards.ensures.within c.in_ok-cards.ensures.cards)
    (IsProgramIn.parsed c.in_ok-parse.ensures.lines)
