use Rattle.f77_legal.proofs.Common.{◌≡◌, ◌∙◌, ap, sym, arith, take, common_steps, uses_of, with_uses, statement_of}
use Rattle.f77_legal.proofs.NameTables.{noted, noted_all, noted_more}
use Rattle.f77_legal.proofs.names.Names.of.Goals as goal

pub loop-line-preserved : goal.loop-line-preserved
loop-line-preserved c =
    c.in_ok-note_statement.ensures
    ∙ (λ i. with_uses (c.loop-line.invariant i) (uses_of (statement_of (c.deref.ensures i).stmt)))
    ∙ sym (noted_more c.args.lines.now c.loop-line.line-index c.line-item.result c.loop-line-test.true c.line-item.is)

pub returns : goal.returns
returns c =
    let whole : take c.loop-line.line-index c.args.lines.now ≡ c.args.lines.now = grind (arith, common_steps) in
    record { table = c.loop-line.invariant ∙ ap noted whole ∙ noted_all c.args.lines.now }
