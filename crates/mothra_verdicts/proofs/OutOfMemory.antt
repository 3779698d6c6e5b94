-- Where there can be no other fault than that a call is out of memory.
use Rattle.mothra_verdicts.proofs.Common.{◌≡◌, sym, ◌∙◌, None, Some, inl, inr, ◌⊎◌, Option, none-some}
use Rattle.f77_meaning.specs.declared.outcome.RunFault.{RunFault}
use Rattle.f77_meaning.specs.declared.outcome.RunFault.TheVariants as run

-- a run whose arguments fit has no other fault than that it is out of memory
pub run_out_of_memory : (reported : RunFault) (refused : Option RunFault) → refused ≡ None → (reported ≡ run.Memory) ⊎ (refused ≡ Some reported) → reported ≡ run.Memory
run_out_of_memory reported refused none (inl memory) = memory
run_out_of_memory reported refused none (inr is) = absurd (none-some reported (sym none ∙ is))
