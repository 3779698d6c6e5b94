use Rattle.f77_legal.proofs.Common.{◌∙◌, refl, ℕ, false, length, Bool, arith, not, rules, tests, is_some, slice_get, YieldsList-from_range}
use Rattle.f77_legal.proofs.Common.{any_from_yields_List, option_map_or, label_place, statement_of, jumps_of}
use Rattle.f77_legal.proofs.Jumps.{any_jump}
use Rattle.f77_legal.proofs.labels.jumps_nowhere.Goals as goal

pub returns : goal.returns
returns c = λ program table.
    let jumps = jumps_of (statement_of c.args.stmt.now) in
    let test : ℕ → Bool = λ label. not (is_some (label_place program label)) in
    any_from_yields_List (λ k. option_map_or test (slice_get jumps k) false) _ _ _ c.any.ensures.ran
    (YieldsList-from_range 0 _ (length jumps) refl (omega (arith, c.jump_count.ensures))) (λ x b q k. search (rules, tests))
    ∙ any_jump test jumps
