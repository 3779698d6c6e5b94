use Rattle.f77_legal.proofs.Common.{◌∙◌, map, refl, ℕ, false, length, Bool, arith, not, rules, tests, slice_get, YieldsList-from_range, any_from_yields_List}
use Rattle.f77_legal.proofs.Common.{option_map_or, statement_with, is_target, line_of, statement_of, jumps_of}
use Rattle.f77_legal.proofs.Jumps.{any_jump}
use Rattle.f77_legal.proofs.labels.jumps_badly.Goals as goal

pub returns : goal.returns
returns c = λ table.
    let jumps = jumps_of (statement_of c.args.stmt.now) in
    let test : ℕ → Bool = λ label. option_map_or (λ target. not (is_target target)) (statement_with (map line_of c.args.lines.now) label) false in
    any_from_yields_List (λ k. option_map_or test (slice_get jumps k) false) _ _ _ c.any.ensures.ran
    (YieldsList-from_range 0 _ (length jumps) refl (omega (arith, c.jump_count.ensures))) (λ x b q k. search (rules, tests))
    ∙ any_jump test jumps
