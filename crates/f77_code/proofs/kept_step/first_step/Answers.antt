use Rattle.f77_code.proofs.Common.{◌≡◌, ◌∙◌, ap, sym, subst, length, ◌+◌, drop, and_from, point, code_after, are_held, is_held, with_more}
use Rattle.std.proofs.lemmas.List.Folds.{list_all-append}
use Rattle.f77_code.proofs.KeptSteps.{leads_to, goes_on, same_run}
use Rattle.f77_code.proofs.kept_step.first_step.Goals as goal

pub block-next-requires-clause-held : goal.block-next-requires-clause-held
block-next-requires-clause-held c =
    let slots = c.args.kept.now.slots.items in
    let rest = drop (length slots) c.args.registers.now in
    ap are_held c.load.ensures.registers
    ∙ (list_all-append is_held slots rest
    ∙ and_from (are_held slots) (are_held rest) c.requires.slots_held c.requires.behind)

pub returns-then-is_met-clause-same : goal.returns-then-is_met-clause-same
returns-then-is_met-clause-same c = λ diverging steps own at is.
    let q = point c.block-next.result.place c.block-next.new.registers c.block-next.new.turns in
    let leads = leads_to diverging c.args.kept.now c.args.more steps c.args.registers.now is c.args.code.now c.args.place c.load.new.registers
    c.load.new.turns q own at c.load.ensures.registers c.load.ensures.turns c.block-next.ensures.after in
    subst (λ code. code_after code steps (with_more diverging.runs.start diverging.runs.extra) ≡ with_more (code_after diverging.runs.code steps diverging.runs.start) diverging.runs.extra)
    (sym own)
    (same_run diverging c.args.kept.now c.args.more steps c.args.registers.now is q leads c.if-not-more.true c.requires.after
    (c.is_met.ensures.place c.if-is_met.true) (c.is_met.ensures.slots c.if-is_met.true) (c.is_met.ensures.turns c.if-is_met.true))

pub returns-clause-other : goal.returns-clause-other
returns-clause-other c = λ diverging steps own at is m.
    let q = point c.block-next.result.place c.block-next.new.registers c.block-next.new.turns in
    let leads = leads_to diverging c.args.kept.now c.args.more steps c.args.registers.now is c.args.code.now c.args.place c.load.new.registers
    c.load.new.turns q own at c.load.ensures.registers c.load.ensures.turns c.block-next.ensures.after in
    subst (λ code. code_after code m q ≡ code_after code (c.args.kept.now.made + 1 + m) (with_more diverging.runs.start diverging.runs.extra)) (sym own)
    (goes_on diverging c.args.kept.now c.args.more steps c.args.registers.now is q leads m)
