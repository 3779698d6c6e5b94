use Rattle.f77_source.proofs.Common.{◌≡◌, take, string_bytes, written}
use Rattle.f77_source.proofs.write.write_form.Given as goal

abbrev pub invariant-loop-card : goal.invariant-loop-card
invariant-loop-card l = string_bytes l.text ≡ written (take l.card-index l.cards)
