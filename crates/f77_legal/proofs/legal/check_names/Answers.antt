use Rattle.f77_legal.proofs.Common.{◌∙◌, ap, map, sym, option_map, RealName, Twice, line_of}
use Rattle.f77_legal.proofs.First.{first_of, first_of_second, none_of_both}
use Rattle.f77_legal.proofs.legal.check_names.Goals as goal

pub returns-in-Some : goal.returns-in-Some
returns-in-Some c = λ table.
    let program = map line_of c.args.lines.now in
    first_of RealName _ _ c.in-Some.name.now
    (sym (c.first_real.ensures program table) ∙ ap (option_map (λ name. name.now)) c.in-Some.is)

pub returns-in-Some-first_twice : goal.returns-in-Some-first_twice
returns-in-Some-first_twice c = λ table.
    let program = map line_of c.args.lines.now in
    first_of_second RealName Twice _ _ c.in-Some-first_twice.name.now
    (sym (c.first_real.ensures program table) ∙ ap (option_map (λ name. name.now)) c.in_default.is)
    (sym (c.first_twice.ensures program table c.unit.ensures) ∙ ap (option_map (λ name. name.now)) c.in-Some-first_twice.is)

pub returns : goal.returns
returns c = λ table.
    let program = map line_of c.args.lines.now in
    none_of_both RealName Twice _ _
    (sym (c.first_real.ensures program table) ∙ ap (option_map (λ name. name.now)) c.in_default.is)
    (sym (c.first_twice.ensures program table c.unit.ensures) ∙ ap (option_map (λ name. name.now)) c.in_default-first_twice.is)
