use Rattle.f77_source.proofs.Pieces.{no_fault_at}
use Rattle.f77_source.proofs.write.write_form.Goals as goal

pub push_card-requires : goal.push_card-requires
push_card-requires c = no_fault_at _ _ _ c.in_default.ensures c.loop-card-test.true c.card-item.is
