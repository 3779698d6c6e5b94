-- A closure may go to the thread that runs it.
use Rattle.mothra_bench.proofs.Common.{[], ◌∷◌, IsSend, IsSync, recorded_send, sendable, struct_send}
use Rattle.std.proofs.Crossing.{crosses}
use mir.Syntax.{Sym}
use denote.RattleType.{RattleType}
use denote.Struct.Declared.{shape}
use denote.Struct.Tuple.{TupleAt, type_at}
use Rattle.mothra_codes.specs.contracts.op.Op as op

-- a closure may go to another thread with the five things that it captured
pub captures_send : (ν : Sym) (A B C D E : RattleType) → IsSend A → IsSend B → IsSend C → IsSend D → IsSend E
    → IsSend (TupleAt ν (A ∷ B ∷ C ∷ D ∷ E ∷ []))
captures_send ν A B C D E a b c d e =
    let T = type_at ν (A ∷ B ∷ C ∷ D ∷ E ∷ []) in recorded_send _ _ _ T.to_one (struct_send (shape T) (a, (b, (c, (d, (e, tt))))))

pub op_sync : IsSync op.the_row
op_sync = search (crosses, sendable) depth 60 fits 20000
