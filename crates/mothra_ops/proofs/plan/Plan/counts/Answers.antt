use Rattle.mothra_ops.proofs.Common.{◌≡◌, ◌∙◌, List, length, subst, sym, arith, ℕ, ◌+◌, ◌<◌, get_or, inl, inr, rules, length-set, set, edits_of, PlanFields}
use Rattle.std.proofs.lemmas.Bool.Decides.{eqb_tells}
use Rattle.std.proofs.lemmas.List.{get_or-set_same, get_or-set_other}
use Rattle.mothra_codes.proofs.Operators.{index-op_at}
use Rattle.mothra_codes.specs.code.Op.{op_at}
use Rattle.mothra_ops.proofs.plan.Plan.counts.Goals as goal

counts_more : (plan : PlanFields) (counts : List ℕ) (n i : ℕ) → i < length counts
    → ((k : ℕ) → k < i → get_or counts k 0 ≡ length (edits_of plan (op_at k))) → n ≡ length (edits_of plan (op_at i))
    → (k : ℕ) → k < i + 1 → get_or (set counts i n) k 0 ≡ length (edits_of plan (op_at k))
counts_more plan counts n i within before here k lt = elim (eqb_tells k i) [
  | inl e ↦ subst (λ (j : ℕ). get_or (set counts i n) j 0 ≡ length (edits_of plan (op_at j))) (sym e.1) (get_or-set_same counts i n 0 within ∙ here)
  | inr e ↦ get_or-set_other counts i k n 0 e.1 ∙ before k (let other = e.1 in omega arith)
]

pub loop-op-preserved : goal.loop-op-preserved
loop-op-preserved c =
    let plan = c.args.self.now in
    let i = c.loop-op.op-index in
    let long : length c.loop-op.counts ≡ 22 = c.loop-op.invariant.0 in
    let within : i < length c.loop-op.counts = omega (arith, long, c.loop-op-test.true) in
    let at : c.index.result ≡ i = c.index.ensures.value ∙ index-op_at i c.loop-op-test.true in (
      (search (rules, length-set, long)),
      subst (λ (j : ℕ). (k : ℕ) → k < i + 1 → get_or (set c.loop-op.counts j c.count.result) k 0 ≡ length (edits_of plan (op_at k))) (sym at)
          (counts_more plan c.loop-op.counts c.count.result i within c.loop-op.invariant.1 c.count.ensures.count),
      λ some. c.count.ensures.plan,
    )
