use Rattle.mothra_exchange.proofs.Common.{◌≡◌, ℕ, subst, rules}
use Rattle.mothra_exchange.proofs.Ends.{IsUnpacked, ends}
use Rattle.mothra_exchange.proofs.table.TableExchange.close_all.Goals as goal

pub returns : goal.returns
returns g c =
    let e : c.loop-i.i ≡ 22 = search rules in
    ends _ _ _ c.args.pass.seat.me.0 _ _ _ c.args.pass.has_a_part c.close_with-closed.ensures.values.2
    (subst (λ (n : ℕ). IsUnpacked n c.close_with-closed.result.words.items c.loop-i.words) e c.loop-i.invariant.1)
