use Rattle.mothra_ops.proofs.Common.{◌≡◌, ◌∙◌, ap, sym, List, map, refl, Some, subst, None, ◌-◌, Option, IfSome, true, Bool, IfNone, same_Some, StandsAlone}
use Rattle.mothra_ops.proofs.Common.{line_of, line_at, Line, replacement_of, changed, statement_of, Statement, Replacement, numbered, IsMutant, copied}
use Rattle.mothra_ops.proofs.Copied.{copy_there, put_there}
use Rattle.mothra_ops.proofs.MadeBy.{fits_there, mutant_there, none_there}
use Rattle.mothra_ops.proofs.MakesMutant.{line_stands, no_line}
use Rattle.mothra_ops.proofs.original.Original.mutant_by.Goals.{In-Some-get}
use Rattle.mothra_ops.proofs.original.Original.mutant_by.Goals as goal

-- the line of the edit, and what was made of its statement
at_line : (c : In-Some-get) → line_at c.args.self.now.checked.now.program c.args.edit.statement ≡ Some c.in-Some.line.now
at_line c = ap (λ (ls : List Line). line_at ls c.args.edit.statement) (sym c.program.ensures.program) ∙ sym c.in-Some.ensures

copy_is : (c : In-Some-get) → numbered (copied c.args.copies.now) c.args.edit.statement ≡ Some (statement_of c.in-Some.line.now.stmt)
copy_is c =
    ap (λ (xs : List Statement). numbered xs c.args.edit.statement) c.requires.copies
    ∙ copy_there (map line_of c.args.self.now.checked.now.program) c.args.edit.statement (statement_of c.in-Some.line.now.stmt)
    (line_stands c.args.self.now.checked.now.program c.args.edit.statement c.in-Some.line.now (at_line c))

made_is : (c : In-Some-get) → statement_of c.in-Some-get.made.now ≡ changed (statement_of c.in-Some.line.now.stmt) c.args.edit.position (replacement_of c.args.node.now)
made_is c = same_Some _ _
    (c.in-Some-get.ensures ∙ ap (λ (xs : List Statement). numbered xs c.args.edit.statement) c.swap.ensures.put
    ∙ put_there (copied c.args.copies.now) c.args.edit.statement c.args.edit.position (replacement_of c.args.node.now) (statement_of c.in-Some.line.now.stmt) (copy_is c))

pub returns-in_default-clause-none : goal.returns-in_default-clause-none
returns-in_default-clause-none c = λ s has.
    let lines = c.args.self.now.checked.now.program in
    let none : line_at lines c.args.edit.statement ≡ None = ap (λ (ls : List Line). line_at ls c.args.edit.statement) (sym c.program.ensures.program) ∙ sym c.in_default.ensures in
    no_line lines c.args.edit.statement (changed s c.args.edit.position (replacement_of c.args.node.now)) none

pub judged-judged-requires-clause-fits : goal.judged-judged-requires-clause-fits
judged-judged-requires-clause-fits c =
    let got = (goal.at.judged-judged-requires-clause-fits c).In-Some-get in
    fits_there c.args.self.now.checked.now c.args.edit (replacement_of c.args.node.now) c.in-Some.line.now c.in-Some-get.made.now c.requires.made
    (at_line got) (made_is got) c.program.ensures.checked

pub returns-in-Some-2-clause-mutant : goal.returns-in-Some-2-clause-mutant
returns-in-Some-2-clause-mutant c =
    let got = (goal.at.returns-in-Some-2-clause-mutant c).In-Some-get in
    let checked = c.args.self.now.checked.now in
    let edit = c.args.edit in
    let s = statement_of c.in-Some-get.made.now in
    let mutant = subst (λ (o : Option Bool). IfSome o (λ _. IsMutant (map line_of checked.program) edit.statement s)) c.in-Some-2.is c.in_ok-is_alone.ensures.mutant in
    let alone = subst (λ (o : Option Bool). IfSome o
    (λ is_alone. is_alone ≡ true → StandsAlone checked.names (map line_of checked.program) (edit.statement - 1) s)) c.in-Some-2.is c.in_ok-is_alone.ensures.alone in
    let again : copied c.swap-2.new.self ≡ copied c.args.copies.now = c.swap-2.ensures.put ∙ sym c.swap.ensures.back in
    let node = replacement_of c.swap-2.new.node in
    let by : changed (statement_of c.in-Some.line.now.stmt) edit.position node ≡ s =
    same_Some _ _ (sym (put_there (copied c.swap-2.new.self) edit.statement edit.position node (statement_of c.in-Some.line.now.stmt)
    (ap (λ (xs : List Statement). numbered xs edit.statement) again ∙ copy_is got))
    ∙ sym (ap (λ (xs : List Statement). numbered xs edit.statement) c.swap-2.ensures.back) ∙ sym c.in-Some-get.ensures) in (
      refl,
      mutant_there checked edit (replacement_of c.args.node.now) c.in-Some.line.now c.in-Some-get.made.now c.requires.made (at_line got) (made_is got)
          c.replace.result c.of-stmt.result c.of-stmt.ensures
          (ap (λ (kept : Replacement). changed (statement_of c.in-Some.line.now.stmt) edit.position (replacement_of kept)) c.replace.ensures.value ∙ by) c.requires.position
          mutant c.in-Some-2.is_alone alone,
    )

pub returns-in-None-clause-none : goal.returns-in-None-clause-none
returns-in-None-clause-none c =
    let got = (goal.at.returns-in-None-clause-none c).In-Some-get in
    let checked = c.args.self.now.checked.now in
    let none = subst (λ (o : Option Bool). IfNone o (¬ (IsMutant (map line_of checked.program) c.args.edit.statement (statement_of c.in-Some-get.made.now)))) c.in-None.is
    c.in_ok-is_alone.ensures.none in
    none_there checked c.args.edit (replacement_of c.args.node.now) c.in-Some.line.now c.in-Some-get.made.now c.requires.made (at_line got) (made_is got) none
