use Rattle.f77_legal.proofs.Common.{◌∙◌, ap, map, sym, take, breaks, clauses, first_clause, breaches, earlier, line_of}
use Rattle.std.proofs.Math.Numerals.{add-one}
use Rattle.std.specs.List.{slice_get}
use Rattle.f77_legal.proofs.Breaches.{breach_more}
use Rattle.f77_legal.proofs.First.{line_here}
use Rattle.f77_legal.proofs.Served.{own_tables_serve}
use Rattle.f77_legal.proofs.tables.Tables.first_of_all.Goals as goal

pub loop-i-preserved : goal.loop-i-preserved
loop-i-preserved c = λ tables.
    let p = map line_of c.args.lines.now in
    let i = c.loop-i.i in
    let x = c.index-lines-i.result in
    let at = line_here c.args.lines.now i x c.index-lines-i.is c.loop-i-test.true in
    let clause = c.first_clause-clause.ensures (own_tables_serve c.args.self.now p tables) ∙ ap (λ line. first_clause p i (line_of line).stmt) c.deref-in-loop-i.ensures in
    let line = ap (λ line. (line_of line).line) c.deref-in-loop-i-2.ensures in
    c.earlier-first.ensures
    ∙ (λ k. earlier (c.loop-i.invariant tables k) (clause k) (line k))
    ∙ sym (breach_more (λ clause. breaks clause p) p i (line_of x) at)
    ∙ ap (λ n. slice_get (breaches (λ clause. breaks clause p) (take n p) clauses) 0) (sym (add-one i))
