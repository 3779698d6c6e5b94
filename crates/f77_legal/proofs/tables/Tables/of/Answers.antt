use Rattle.f77_legal.proofs.Common.{◌∙◌, ap, map, line_of}
use Rattle.f77_legal.proofs.Entries.{are_terminals, one_entry_each, are_branches}
use Rattle.f77_legal.proofs.tables.Tables.of.Goals as goal

pub returns : goal.returns
returns c =
    let program = map line_of c.args.lines.now in
    let ends = ap (λ list. list.items) c.in_ok-ranges.ensures.terminals ∙ c.in_ok-terminals.ensures program c.in_ok-labels.ensures in
    record {
      tables = record {
        names = c.in_ok-names.ensures.table;
        labels = c.in_ok-labels.ensures;
        blocks = c.in_ok-blocks.ensures;
        ranges = record {
          entries = one_entry_each _ _ _ _ ends;
          terminals = are_terminals c.args.lines.now _ ends;
          branch_ends = are_branches c.in_ok-blocks.blocks program _ c.in_ok-blocks.ensures
              (ap (λ list. list.items) c.in_ok-ranges.ensures.branch_ends ∙ c.in_ok-branch_ends.ensures.items ∙ c.deref.ensures.value);
          heads = c.in_ok-ranges.ensures.heads;
        };
      };
    }
