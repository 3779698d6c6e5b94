use Rattle.f77_tree.proofs.Common.{sym, subst, IsUtf8, word}
use Rattle.f77_tree.proofs.Names.{name_utf8}
use Rattle.f77_tree.proofs.name.Name.as_str.Goals as goal

pub unreachable-requires : goal.unreachable-requires
unreachable-requires c =
    c.in-Err.ensures.cases.0 (subst IsUtf8 (sym c.split_word.ensures.front) (name_utf8 (word c.self.inside.letters) c.self.invariant.named))
