use Rattle.f77_source.proofs.Common.{◌≡◌, drop, card_faults}
use Rattle.f77_source.proofs.write.first_fault.Given as goal

abbrev pub invariant-loop-card : goal.invariant-loop-card
invariant-loop-card l = card_faults l.cards ≡ card_faults (drop l.card-index l.cards)
