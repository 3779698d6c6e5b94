use Rattle.mothra_bench.proofs.Common.{arg_send, param_send, param_sync, shr_send, shr_slice_send}
use denote.Exit.{no}
use Rattle.mothra_verdicts.proofs.Crossings.{plan_sync}
use Rattle.mothra_bench.proofs.Crossings.{captures_send, op_sync}
use Rattle.mothra_bench.proofs.threads.start_feeder.Goals as goal

pub spawn_with-requires-send-F : goal.spawn_with-requires-send-F
spawn_with-requires-send-F g c κs within =
    param_send _ _ (arg_send _ no _ (captures_send _ _ _ _ _ _ (shr_send _ _ _ (param_sync _ _ c.type_bounds.sync-R))
    (shr_send _ _ _ (param_sync _ _ c.type_bounds.sync-G)) (param_send _ _ c.type_bounds.send-G-Pass) (shr_slice_send _ _ _ op_sync) (shr_send _ _ _ plan_sync)))
