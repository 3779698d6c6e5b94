use Rattle.f77_syntax.proofs.Common.{refl, Err, of_calls, Ok, err_from_is_err_and, value_ended, items_at, clip_decl, decl_at, declarations_at, AreDecls}
use Rattle.f77_syntax.proofs.Common.{decl_of}
use Rattle.f77_syntax.proofs.Gives.{fails_bind, gives_along, gives_ended}
use Rattle.f77_syntax.proofs.JoinedItems.{gives_items}
use Rattle.f77_syntax.proofs.declaration.declarations.Goals as goal

pub returns-in_err-items : goal.returns-in_err-items
unfolding declarations_at
returns-in_err-items c =
    let p = err_from_is_err_and c.from_residual.result c.from_residual.ensures.1 in
    let f = gives_items decl_of clip_decl decl_at _ (λ text r called. search of_calls) (λ text x called. search of_calls) (Err c.in_err-items.field-0.0) c.args.text.now c.in_err-items.ensures in
    rw (p.1, p.2) (fails_bind _ (items_at decl_at c.args.text.now) (λ x. value_ended x.0 x.1) f)

pub returns : goal.returns
unfolding declarations_at
returns c =
    let (x, read, (are, end)) = gives_items decl_of clip_decl decl_at _ (λ text r called. search of_calls) (λ text x called. search of_calls)
    (Ok (c.in_ok-items.items, c.in_ok-items.end)) c.args.text.now c.in_ok-items.ensures in
    gives_along AreDecls c.ended.result (value_ended x.0 x.1) (declarations_at c.args.text.now) (rw read refl)
    (gives_ended AreDecls c.in_ok-items.items c.in_ok-items.end.now x.0 x.1 c.ended.result c.ended.ensures are end)
