use Rattle.f77_legal.proofs.Common.{◌≡◌, None, rules, Labels, line_of}
use Rattle.f77_legal.proofs.LabelTables.{unlabelled, labelled}
use Rattle.f77_legal.proofs.labels.Labels.note.Goals as goal

pub returns-in_default : goal.returns-in_default
returns-in_default c = λ program is long.
    let none : c.args.line.now.label ≡ None = search rules in
    unlabelled c.args.self.now program (line_of c.args.line.now) none is

pub returns : goal.returns
returns c = λ program is long.
    let new : Labels = record { places = c.insert.new.self } in
    let insert = c.in_ok-insert.ensures in
    labelled c.args.self.now new program (line_of c.args.line.now) c.args.i c.in-Some.label c.place_with-place.result c.in-Some.is is long c.place_with-place.ensures insert.updates insert.entries
