use Rattle.f77_check.proofs.Common.{ap, ◌∙◌, sym, map, is_some, list_all, first_slot, slot_kinds, is_kept, position-map, line_of, is_executable_statement, keys}
use Rattle.f77_check.proofs.DataNames.{has_slots, dummies_kept}
use Rattle.f77_check.proofs.FirstExecutable.{first_executable}
use Rattle.f77_check.proofs.resolve.Resolver.start.Goals as goal

pub unwrap-requires : goal.unwrap-requires
unwrap-requires c =
    let some = first_executable (map line_of c.args.lines.now) c.requires.formed in
    ap is_some (c.entry.ensures ∙ sym (position-map (λ line. is_executable_statement line.stmt) line_of c.args.lines.now) ∙ some.1)

pub first_slots-requires-clause-slots : goal.first_slots-requires-clause-slots
first_slots-requires-clause-slots c = has_slots c.args.self.now (map line_of c.args.lines.now) c.requires

pub first_slots-requires-clause-kept : goal.first_slots-requires-clause-kept
first_slots-requires-clause-kept c =
    ap (list_all (is_kept c.args.self.now.tables.names)) c.arguments.ensures
    ∙ dummies_kept c.args.self.now.tables.names (map line_of c.args.lines.now) c.requires.names.covers

pub kinds-requires : goal.kinds-requires
kinds-requires c = has_slots c.args.self.now (map line_of c.args.lines.now) c.requires

pub returns : goal.returns
returns c =
    let names = c.args.self.now.tables.names in
    let bounds = c.requires.tables.bounds in
    record {
      entry = position-map (λ line. is_executable_statement line.stmt) line_of c.args.lines.now ∙ (sym c.entry.ensures ∙ c.unwrap.ensures);
      dummies = (λ i. map (first_slot (sym bounds i) (keys names.facts)) (sym c.arguments.ensures i)) ∙ c.in_ok-first_slots.ensures;
      initial = c.in_ok-initial.ensures;
      kinds = c.in_ok-kinds.ensures ∙ (λ i. slot_kinds (c.requires.tables.kinds i) (bounds i) (keys names.facts));
    }
