use Rattle.mothra_exchange.proofs.Common.{◌≡◌, ◌<◌, ◌∙◌, length, ap, arith, subst, ◌+◌, rules, AgreesWithViews, settled_view, View}
use Rattle.mothra_exchange.proofs.Halves.{joins, settles, length-joined}
use Rattle.mothra_exchange.proofs.Overs.{merges_well}
use Rattle.mothra_exchange.proofs.table.TableExchange.merge_pass.Goals as goal

pub join_seat-requires : goal.join_seat-requires
join_seat-requires g c = (c.requires.own.0, c.requires.own.1, search rules, search rules, joins _ _ _ _ _ _ c.args.pass.now.has_a_part c.args.other.has_a_part)

pub load-requires : goal.load-requires
load-requires g c =
    let e : c.join_seat.new.seat.me.0.part ≡ c.args.pass.now.seat.me.0.part + c.args.other.seat.me.0.part = ap (λ m. m.0.part) c.join_seat.ensures.2 in
    let p = c.args.pass.now.has_a_part in
    (search rules, search rules, settles _ _ _ _ _ (omega arith))

pub returns-clause-agree : goal.returns-clause-agree
returns-clause-agree g c = merges_well g.row.C c.args.pass.now.seat.me.0 c.args.other.seat.me.0 c.args.pass.now.looks_at_each c.args.other.looks_at_each
    (subst (λ (v : View). AgreesWithViews g.row.C v) (ap (λ m. m.0) c.join_seat.ensures.2) c.load.ensures.2.0)

pub invariant_of-pass : goal.invariant_of-pass
invariant_of-pass g c =
    let now = ap (λ m. m.0) c.load.ensures.2.1 ∙ ap (λ m. settled_view m.0) c.join_seat.ensures.2 in
    let n : length c.load.new.seat.me.0.looks ≡ 22 = ap (λ (v : View). length v.looks) now ∙ length-joined c.args.pass.now.seat.me.0.looks c.args.other.seat.me.0.looks
    ∙ c.args.pass.now.looks_at_each in
    let e : c.load.new.seat.me.0.part ≡ c.args.pass.now.seat.me.0.part + c.args.other.seat.me.0.part = ap (λ (v : View). v.part) now in
    let q = c.args.pass.now.has_a_part in
    let p : 0 < c.load.new.seat.me.0.part = omega arith in
    search rules
