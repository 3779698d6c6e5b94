use Rattle.f77_tree.proofs.Common.{sym, ◌∙◌, ap, subst, word, IsPadded, cut}
use Rattle.f77_tree.proofs.Names.{cut_named, padded_word, padded_well, written_over}
use Rattle.f77_tree.proofs.name.Name.beginning.Goals as goal

pub invariant_of-result : goal.invariant_of-result
invariant_of-result c =
    let s = c.args.letters.now in
    subst IsPadded (sym (written_over s c.copy_from_slice.new.self c.min.result c.min.ensures c.copy_from_slice.ensures.after))
    (padded_well (cut s) (cut_named s c.requires))

pub returns : goal.returns
returns c =
    let s = c.args.letters.now in
    ap word (written_over s c.copy_from_slice.new.self c.min.result c.min.ensures c.copy_from_slice.ensures.after)
    ∙ padded_word (cut s) (cut_named s c.requires)
