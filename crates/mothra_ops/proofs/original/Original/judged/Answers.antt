use Rattle.mothra_ops.proofs.Common.{◌∙◌, sym, true≢false, statement_of, lines_of}
use Rattle.f77_tree.specs.SameTrees.{statement_decides}
use Rattle.mothra_ops.proofs.MakesMutant.{is_mutant, the_same}
use Rattle.mothra_ops.proofs.original.Original.judged.Goals as goal

pub returns-then-eq-clause-none : goal.returns-then-eq-clause-none
returns-then-eq-clause-none c =
    let same = (statement_decides (statement_of c.args.made.now) (statement_of c.args.old.now)).0 (sym c.eq.ensures ∙ c.if-eq.true) in
    the_same (lines_of c.args.self.now) c.args.number (statement_of c.args.old.now) (statement_of c.args.made.now) c.requires.old same

pub returns-in-Ok-clause-mutant : goal.returns-in-Ok-clause-mutant
returns-in-Ok-clause-mutant c =
    is_mutant (lines_of c.args.self.now) c.args.number (statement_of c.args.old.now) (statement_of c.args.made.now) c.requires.old
    (λ same. true≢false (sym ((statement_decides (statement_of c.args.made.now) (statement_of c.args.old.now)).1 same) ∙ sym c.eq.ensures ∙ c.if-eq.false))
    c.requires.fits c.in-Ok.ensures.legal
