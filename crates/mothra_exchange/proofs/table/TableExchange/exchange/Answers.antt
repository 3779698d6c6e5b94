use Rattle.mothra_exchange.proofs.Common.{◌≡◌, ◌<◌, ◌∙◌, sym, length, arith, [], rules, eq-eqb, true≢false, eqb-true}
use Rattle.mothra_exchange.proofs.Exchanges.{exchanges_at, fits_after}
use Rattle.mothra_exchange.proofs.Outcomes.{stays, won, lost}
use Rattle.mothra_exchange.proofs.table.TableExchange.exchange.Goals as goal

pub pack-requires : goal.pack-requires
pack-requires g c = fits_after g.P.Changes.change _ c.args.word _ c.requires.may c.requires.loaded.bounds c.requires.next

pub compare_exchange-found-requires : goal.compare_exchange-found-requires
compare_exchange-found-requires g c = (
  search rules,
  search rules,
  exchanges_at g.P.Changes.change _ _ _ _ _ c.args.op _ c.args.word _ _ _ c.index.ensures.value c.args.pass.now.has_a_part
      c.requires.loaded c.requires.may c.requires.next c.pack-old.ensures c.pack.ensures,
)

pub returns-clause-won : goal.returns-clause-won
returns-clause-won g c = λ hit. won g.P.Changes.change c.args.op _ 0 _ 0 _ _ _ c.args.word c.index.ensures.value c.requires.loaded.loaded
    (eqb-true _ _ hit) c.compare_exchange-found.ensures.2

pub returns-clause-lost : goal.returns-clause-lost
returns-clause-lost g c = λ miss. lost g.P.Changes.change c.args.op _ 0 _ 0 _ _ _ c.args.word c.index.ensures.value c.requires.loaded.loaded c.pack-old.ensures
    (λ same. true≢false (sym (eq-eqb _ _ same) ∙ miss)) c.compare_exchange-found.ensures.2

pub invariant_of-pass : goal.invariant_of-pass
invariant_of-pass g c =
    let unchanged = stays g.P.Changes.change c.index.result 0 _ 0 _ c.args.pass.now.seat.me c.compare_exchange-found.new.seat.me c.compare_exchange-found.ensures.2 in
    let slots : c.compare_exchange-found.new.seat.me.1 ≡ [] = unchanged.0 ∙ c.args.pass.now.holds_no_slot in
    let kept : c.compare_exchange-found.new.seat.me.0.part ≡ c.args.pass.now.seat.me.0.part = unchanged.1 in
    let had = c.args.pass.now.has_a_part in
    let part : 0 < c.compare_exchange-found.new.seat.me.0.part = omega arith in
    let looks : length c.compare_exchange-found.new.seat.me.0.looks ≡ 22 = unchanged.2 ∙ c.args.pass.now.looks_at_each in
    search rules
