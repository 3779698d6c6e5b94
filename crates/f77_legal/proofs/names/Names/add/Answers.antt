use Rattle.f77_legal.proofs.Common.{◌∙◌, ap, map, entry_of, with_fact, use_of}
use Rattle.f77_legal.proofs.Noting.{said_new}
use Rattle.f77_legal.proofs.names.Names.add.Goals as goal

pub returns : goal.returns
returns c =
    let entries = c.args.self.now.facts.entries in
    let name = c.args.name.now in
    λ absent.
    ap (map entry_of) c.in_ok-insert.ensures.entries
    ∙ said_new name c.note.new.self entries c.args.said absent
    (c.in_ok-note.ensures name ∙ ap (λ f. with_fact f (use_of name c.args.said)) c.none-facts.ensures)
