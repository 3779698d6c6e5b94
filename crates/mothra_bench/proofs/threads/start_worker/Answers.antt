use Rattle.mothra_bench.proofs.Common.{arg_send, param_send, param_sync, shr_send}
use Rattle.std.proofs.Crossing.{send}
use denote.Exit.{no}
use Rattle.mothra_verdicts.proofs.Crossings.{bench_sync}
use Rattle.mothra_bench.proofs.Crossings.{captures_send}
use Rattle.mothra_bench.proofs.threads.start_worker.Goals as goal

pub spawn_with-requires-send-F : goal.spawn_with-requires-send-F
spawn_with-requires-send-F g c κs within =
    param_send _ _ (arg_send _ no _ (captures_send _ _ _ _ _ _ (shr_send _ _ _ (param_sync _ _ c.type_bounds.sync-R)) send
    (shr_send _ _ _ (param_sync _ _ c.type_bounds.sync-G)) (param_send _ _ c.type_bounds.send-G-Pass) (shr_send _ _ _ bench_sync)))
