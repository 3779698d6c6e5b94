use Rattle.f77_legal.proofs.Common.{◌∙◌, ap, map, sym, on_ok_weaker, entry_of}
use Rattle.f77_legal.proofs.Noting.{said_there}
use Rattle.f77_legal.proofs.names.Names.note.Goals as goal

pub returns-in-Some : goal.returns-in-Some
returns-in-Some c =
    on_ok_weaker c.note.result
    (λ noted. ap (map entry_of) (c.get_mut.follows.holds c.note.new.self).0
    ∙ said_there c.args.name.now c.note.new.self c.args.self.now.facts.entries c.args.said c.in-Some.facts.now
    (sym c.in-Some.ensures.value) (noted c.args.name.now))
    c.note.ensures
