use Rattle.f77_program.proofs.Common.{◌≡◌, sym, subst, string_bytes, rules, statement_text, squeezed, statement_of, SpellsStatement}
use Rattle.f77_program.proofs.StatementPlain.{reads_back}
use Rattle.f77_program.proofs.canonical.print_stmt.Goals as goal

pub returns-clause-back : goal.returns-clause-back
returns-clause-back c f u k =
    let e : string_bytes c.statement.new.out ≡ statement_text (statement_of c.args.stmt.now) = search rules in
    subst (λ z. SpellsStatement (squeezed z) (statement_of c.args.stmt.now)) (sym e) (reads_back (statement_of c.args.stmt.now) f u k)
