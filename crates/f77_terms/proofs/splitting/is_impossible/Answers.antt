use Rattle.f77_terms.proofs.Values.{ok_then}
use Rattle.f77_terms.proofs.splitting.is_impossible.Goals as goal

pub returns-then-is_ruled_out-clause-told : goal.returns-then-is_ruled_out-clause-told
returns-then-is_ruled_out-clause-told c e v known below =
    c.is_ruled_out.ensures c.if-is_ruled_out.true v (c.narrow_all-is_new.ensures v (c.loop.invariant v known below) below) below

pub returns-then-not-is_new-clause-told : goal.returns-then-not-is_new-clause-told
returns-then-not-is_new-clause-told c =
    ok_then c.are_contradictory.result c.are_contradictory.ensures
    (λ yes claim e v known below. claim e v (c.narrow_all-is_new.ensures v (c.loop.invariant v known below) below) below)

pub returns-clause-told : goal.returns-clause-told
returns-clause-told c =
    ok_then c.are_contradictory-2.result c.are_contradictory-2.ensures
    (λ yes claim e v known below. claim e v (c.loop.invariant v known below) below)
