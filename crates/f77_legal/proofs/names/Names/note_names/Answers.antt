use Rattle.f77_legal.proofs.Common.{◌≡◌, ◌∙◌, ap, map, sym, arith, take, rules, option_map, common_steps, table_entries, node_of}
use Rattle.f77_legal.proofs.Listing.{with_name, with_names, names_more}
use Rattle.f77_legal.proofs.names.Names.note_names.Goals.{in-Some+in_ok-note, in_default}
use Rattle.f77_legal.proofs.names.Names.note_names.Goals as goal

pub loop-node-preserved : goal.loop-node-preserved
loop-node-preserved c =
    let noted : table_entries c.match-name.self ≡ with_name (table_entries c.loop-node.self) (option_map (λ name. name.now) c.name.result) =
    elim c.match-name.branch [ in-Some+in_ok-note w ↦ search rules | in_default w ↦ search rules ] in
    noted
    ∙ (λ i. with_name (c.loop-node.invariant i) (c.name.ensures i))
    ∙ sym (names_more (table_entries c.args.self.now) c.deref-node-items.result.now c.loop-node.node-index c.node-item.result c.loop-node-test.true c.node-item.is)

pub returns : goal.returns
returns c =
    let whole : take c.loop-node.node-index c.deref-node-items.result.now ≡ c.deref-node-items.result.now = grind (arith, common_steps) in
    c.loop-node.invariant
    ∙ ap (λ z. with_names (table_entries c.args.self.now) (map node_of z)) (whole ∙ c.deref-node-items.ensures.value)
    ∙ ap (with_names (table_entries c.args.self.now)) c.in_ok-nodes.ensures
