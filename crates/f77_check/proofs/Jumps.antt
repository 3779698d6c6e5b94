-- The jumps to several labels, one after another.
use Rattle.f77_check.proofs.Common.{sym, subst, List, ℕ, [], arith, length, ◌∷◌, ◌++◌, take, ◌+◌, ◌<◌, get_or, suc, zero, IsSome, take_more, AreJumps, IsJump}
use Rattle.f77_check.proofs.Common.{AreFound, label_place, LineFields}
use Rattle.indexmap.proofs.SetLemmas.{AllZip-push}
use Rattle.f77_actions.specs.declared.action.Jump.{Jump}

pub jumps_more : (p : List LineFields) (i : ℕ) (labels : List ℕ) (jumps : List Jump) (k otherwise : ℕ) (jump : Jump) → k < length labels
    → AreJumps p i (take k labels) jumps → IsJump p i (get_or labels k otherwise) jump → AreJumps p i (take (k + 1) labels) (jumps ++ jump ∷ [])
jumps_more p i labels jumps k otherwise jump here are is =
    subst (λ first. AreJumps p i first (jumps ++ jump ∷ [])) (sym (take_more labels k otherwise here))
    (AllZip-push (IsJump p i) (take k labels) jumps (get_or labels k otherwise) jump are is)

-- each of the labels stands on a statement
pub found_label : (p : List LineFields) (labels : List ℕ) (k otherwise : ℕ) → AreFound p labels
    → k < length labels → IsSome (label_place p (get_or labels k otherwise))
found_label p [] k otherwise found here = absurd (omega (arith, here))
found_label p (label ∷ labels) zero otherwise found here = found.0
found_label p (label ∷ labels) (suc k) otherwise found here =
    let inside : k < length labels = omega (arith, here) in found_label p labels k otherwise found.1 inside
