-- What expressions mean, by what is read and what their operands mean.
use Rattle.f77_symbolic.proofs.Common.{◌≡◌, inl, inr, ℕ, List, true, sym, ap, subst, ◌∙◌, Result, Option, None, Fault, Value, given, held_in, Cells, Valuation, Write}
use Rattle.f77_symbolic.proofs.Common.{Evaluator, Extends, Location, Symbolic, Answers, ReadsCell, IsInside, cells_of, content_of, slot_of}
use Rattle.f77_symbolic.specs.code.{Always, ReadsSlot, Yields, YieldsSlot}
use Rattle.f77_symbolic.proofs.Answering.{answers_at, given_answers}

-- what the slot of a reference holds is used, or it holds none and the program itself reads it
pub read_yields : {B : Type 0} (old mid new : Evaluator) (writes : List Write) (slot : Cells → Result ℕ Fault) (location : Location) (value : Symbolic)
    (f : Option Value → Result B Fault) (D : Valuation → B → Type 0) → Extends mid.atoms new.atoms → YieldsSlot old mid writes location slot
    → ReadsSlot mid new writes location value → ((v : Valuation) → mid.own ≡ true → Answers v mid new (f None) (D v))
    → Always new new (λ start v. Answers v new new (f (content_of v value)) (D v))
    → Yields old new writes (λ cells. given (slot cells) (λ k. f (held_in cells k))) D
read_yields old mid new writes slot location value f D extends place reads lacks last start v is holds inside =
    let cells = cells_of start.cells v writes in
    given_answers v old mid new (slot cells) (λ k. f (held_in cells k)) (λ k. IsInside v location × (slot_of v location ≡ k)) (D v)
    (place start v (extends.back start v is) holds inside) (λ on k at. by cells k at (reads start v is on inside at.0))
  where
    by : (cells : Cells) (k : ℕ) → IsInside v location × (slot_of v location ≡ k) → ReadsCell v mid new (held_in cells (slot_of v location)) value
        → Answers v mid new (f (held_in cells k)) (D v)
    by cells k at (inl it) = answers_at v mid new new f (content_of v value) (held_in cells k) (D v) it.0 (sym it.1 ∙ ap (held_in cells) at.1) (last start v is)
    by cells k at (inr it) = subst (λ cell. Answers v mid new (f cell) (D v)) (sym it.1 ∙ ap (held_in cells) at.1) (lacks v it.0)
